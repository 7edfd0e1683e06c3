-- Bytes that hold a whole response that is accepted aren't refused.
use Rattle.std.proofs.Common.{◌≡◌, ◌≢◌, ℕ, ◌⊎◌, inl, inr, Bool, true, false, List, drop, Option, Some, None, Ok, refl, sym, ap, ◌∙◌}
use Rattle.std.specs.declared.snapshot.Snapshot.{Snapshot}
use Rattle.gp_plain.specs.declared.http.Response.{Response}
use Rattle.gp_body.specs.declared.plan.BodyPlan.{BodyPlan}
use Rattle.gp_body.specs.declared.plan.BodyPlan.TheVariants.{ToClose}
use Rattle.gp_body.specs.declared.plan.BodyFault.{BodyFault}
use Rattle.gp_body.specs.declared.fed.FedFault.{FedFault}
use Rattle.gp_body.specs.Plans.{plan_of_response}
use Rattle.gp_body.specs.Wholes.{content_of, is_ended, fault_of, CutsAt}
use Rattle.gp_exchange.specs.Views.{AskedView}
use Rattle.gp_exchange.specs.Ends.{Gave, EndsBody, EndsBy, RefusesBody, RefusesPlan}
use Rattle.gp_exchange.specs.declared.answer.ExchangeFault.{ExchangeFault}
use Rattle.gp_exchange.specs.declared.answer.ExchangeFault.TheVariants.{Dial, Head, Interim, Plan, Body}
use Rattle.gp_exchange.specs.declared.answer.Last.TheVariants.{Fault}
use Rattle.gp_one_answer.proofs.Instructions.{one_ok, not_both}
use Rattle.gp_one_answer.proofs.Heads.{same_head, no_bad_head, no_bad_interim}

-- two plans of the same head are one
one_plan : (asked : AskedView) (head head' : Response) (plan plan' : BodyPlan) → head' ≡ head → plan_of_response head asked.method ≡ Ok plan
    → plan_of_response head' asked.method ≡ Ok plan' → plan' ≡ plan
one_plan asked head head' plan plan' same planned planned' =
    one_ok (plan_of_response head asked.method) plan' plan (sym (ap (λ (h : Response). plan_of_response h asked.method) same) ∙ planned') planned

-- of a whole body that is accepted
module _ (plan plan' : BodyPlan) (limit at at' : ℕ) (received : List ℕ) (plans : plan' ≡ plan) (places : at' ≡ at) where
  same_fault : fault_of plan' limit (drop at' received) ≡ fault_of plan limit (drop at received)
  same_fault = ap (λ (p : BodyPlan). fault_of p limit (drop at' received)) plans ∙ ap (λ (place : ℕ). fault_of plan limit (drop place received)) places

  same_ended : is_ended plan' limit (drop at' received) ≡ is_ended plan limit (drop at received)
  same_ended = ap (λ (p : BodyPlan). is_ended p limit (drop at' received)) plans ∙ ap (λ (place : ℕ). is_ended plan limit (drop place received)) places

  same_content : content_of plan' limit (drop at' received) ≡ content_of plan limit (drop at received)
  same_content = ap (λ (p : BodyPlan). content_of p limit (drop at' received)) plans ∙ ap (λ (place : ℕ). content_of plan limit (drop place received)) places

  -- it isn't cut
  no_cut : (ended : Bool) → (is_ended plan limit (drop at received) ≡ true) ⊎ ((plan ≡ ToClose) × (ended ≡ true))
      → (is_ended plan' limit (drop at' received) ≡ false) × (plan' ≡ ToClose → ⊥) → ⊥
  no_cut ended (inl whole) not = let never : true ≡ false = sym whole ∙ sym same_ended ∙ not.0 in absurd cc
  no_cut ended (inr whole) not = not.1 (plans ∙ whole.0)

  -- nor refused
  no_refusal : (ended ended' : Bool) (fault : FedFault) → fault_of plan limit (drop at received) ≡ None
      → (is_ended plan limit (drop at received) ≡ true) ⊎ ((plan ≡ ToClose) × (ended ≡ true))
      → (fault_of plan' limit (drop at' received) ≡ Some fault) ⊎ ((ended' ≡ true) × CutsAt plan' limit (drop at' received) fault) → ⊥
  no_refusal ended ended' fault accepted whole (inl told) =
      let never : None ≡ Some fault = sym accepted ∙ sym same_fault ∙ told in
      absurd cc
  no_refusal ended ended' fault accepted whole (inr (over, cuts)) = no_cut ended whole (cuts.not_whole (same_fault ∙ accepted))

-- of the bytes that hold a whole response
module _ (asked : AskedView) (head : Response) (ended : Bool) (content received : List ℕ) (ends : EndsBody asked head ended content received) where
  abbrev gave : Gave asked head content received
  gave = ends.gave

  -- what they give is one head with one content
  pub one_content : (head' : Response) (content' : List ℕ) → Gave asked head' content' received → (head' ≡ head) × (content' ≡ content)
  one_content head' content' gave' =
      let one = same_head received head gave.at gave.has head' gave'.at gave'.has in
      let plan : gave'.plan ≡ gave.plan = one_plan asked head head' gave.plan gave'.plan one.0 gave.planned gave'.planned in
      (one.0, gave'.content_is ∙ same_content gave.plan gave'.plan asked.limit gave.at gave'.at received plan one.1 ∙ sym gave.content_is)

  -- the plan of the body isn't refused
  no_bad_plan : (fault : BodyFault) → RefusesPlan asked fault received → ⊥
  no_bad_plan fault refuses =
      let one = same_head received head gave.at gave.has refuses.head refuses.at refuses.has in
      let planned = ap (λ (h : Response). plan_of_response h asked.method) one.0 ∙ gave.planned in
      not_both (plan_of_response refuses.head asked.method) gave.plan fault planned refuses.planned

  -- nor the body
  no_bad_body : (head' : Response) (ended' : Bool) (fault : FedFault) (content' : List ℕ) → RefusesBody asked head' ended' fault content' received → ⊥
  no_bad_body head' ended' fault content' refuses =
      let gave' = refuses.gave in
      let one = same_head received head gave.at gave.has head' gave'.at gave'.has in
      let plan : gave'.plan ≡ gave.plan = one_plan asked head head' gave.plan gave'.plan one.0 gave.planned gave'.planned in
      no_refusal gave.plan gave'.plan asked.limit gave.at gave'.at received plan one.1 ended ended' fault ends.accepted ends.whole refuses.refused

  -- no fault but one of the dialer comes beside them
  pub no_fault : (ended' : Bool) (content' : List ℕ) (given : Option (Snapshot Response)) (fault : ExchangeFault) → fault ≢ Dial
      → EndsBy asked (Fault fault) ended' given content' received → ⊥
  no_fault ended' content' given Dial not by = not refl
  no_fault ended' content' given Head not by = no_bad_head received head gave.at gave.has ended' by.1
  no_fault ended' content' given Interim not by = no_bad_interim received head gave.at gave.has by.1
  no_fault ended' content' given (Plan fault) not by = no_bad_plan fault by.1
  no_fault ended' content' None (Body fault) not by = by
  no_fault ended' content' (Some head') (Body fault) not by = no_bad_body head'.value ended' fault content' by
