-- The plan of a request's body says where the body ends.
use Rattle.std.proofs.Common.{◌≡◌, Bool, true, false, cond, subst}
use Rattle.std.specs.Prelude.{Result, Ok, Err}
use Rattle.gp_plain.specs.declared.http.Request.{Request}
use Rattle.gp_body.specs.declared.plan.BodyPlan.{BodyPlan}
use Rattle.gp_body.specs.declared.plan.BodyPlan.TheVariants.{None as NoBody, Length, Chunked}
use Rattle.gp_body.specs.declared.plan.BodyFault.{BodyFault}
use Rattle.gp_body.specs.declared.plan.BodyFault.TheVariants.{Both}
use Rattle.gp_body.specs.Plans.{has, transfer_encoding, content_length, coding_plan, length_plan, plan_of_request}
use Rattle.gp_body.specs.Laws.{IsFramed}

pub same_plan : {p q : BodyPlan} → ◌≡◌ {A = Result BodyPlan BodyFault} (Ok p) (Ok q) → p ≡ q
same_plan e = cc

no_plan : {p : BodyPlan} {f : BodyFault} → ◌≡◌ {A = Result BodyPlan BodyFault} (Err f) (Ok p) → ⊥
no_plan e = cc

-- one of two plans, the one that is none
one_if : (c : Bool) (framed : BodyPlan) (fault : BodyFault) (plan : BodyPlan) → IsFramed framed → cond c (Ok framed) (Err fault) ≡ Ok plan → IsFramed plan
one_if true framed fault plan is e = subst IsFramed (same_plan e) is
one_if false framed fault plan is e = absurd (no_plan e)

by_fields : (head : Request) (coded counted : Bool) (plan : BodyPlan)
    → cond coded (cond counted (Err Both) (coding_plan head.fields head.version)) (cond counted (length_plan head.fields) (Ok NoBody)) ≡ Ok plan → IsFramed plan
by_fields head true true plan e = absurd (no_plan e)
by_fields head true false plan e = one_if _ Chunked _ plan tt e
by_fields head false true plan e = one_if _ (Length _) _ plan tt e
by_fields head false false plan e = subst IsFramed (same_plan e) tt

pub is_framed : (head : Request) (plan : BodyPlan) → plan_of_request head ≡ Ok plan → IsFramed plan
unfolding plan_of_request
is_framed head plan e = by_fields head (has transfer_encoding head.fields) (has content_length head.fields) plan e
