-- How bytes that begin with a whole request are read.
use Rattle.std.proofs.Common.{◌≡◌, ℕ, true, false, List, ◌++◌, take, drop, Some, refl, sym, ap, ◌∙◌, subst, append_assoc, append-nil, inl, inr}
use Rattle.std.proofs.lemmas.List.{drop-append-le}
use Rattle.gp_plain.specs.declared.http.Request.{Request}
use Rattle.gp_head.specs.declared.read.HeadRead.TheVariants.{Whole as WholeHead, TooMany as TooManyFields, TooLong as TooLongHead, Bad as BadHead}
use Rattle.gp_head.specs.Heads.{IsRead, IsRequestText}
use Rattle.gp_head.proofs.OneHead.{one_request}
use Rattle.gp_head.proofs.SettledLemmas.{settled}
use Rattle.gp_body.specs.declared.plan.BodyPlan.{BodyPlan}
use Rattle.gp_body.specs.declared.fed.FedFault.{FedFault}
use Rattle.gp_body.specs.declared.fed.FedFault.TheVariants as fed
use Rattle.gp_body.specs.declared.reading.Reading.{Reading}
use Rattle.gp_body.specs.Steps.{is_end}
use Rattle.gp_body.specs.Readings.{after_all}
use Rattle.gp_body.specs.Plans.{plan_of_request}
use Rattle.gp_body.specs.Wholes.{is_ended, reading_of, opening, fault_of}
use Rattle.gp_body.specs.Laws as laws
use Rattle.gp_body.proofs.ReadingLemmas.{stays, after_all-append}
use Rattle.gp_body.proofs.LawLemmas.{whole_law}
use Rattle.gp_intake.specs.declared.body.Whole.{Whole}
use Rattle.gp_intake.specs.declared.fault.Refused.{Refused}
use Rattle.gp_intake.specs.declared.fault.RequestFault.{RequestFault}
use Rattle.gp_intake.specs.declared.fault.RequestFault.TheVariants.{HeadTooLarge, Head, Target, Host, Plan, Chunk, TooLong}
use Rattle.gp_intake.specs.declared.reading.TheConstants.{MAX_BODY}
use Rattle.gp_intake.specs.Served.{IsServed}
use Rattle.gp_intake.specs.Heads.{IsBegun}
use Rattle.gp_intake.specs.Requests.{HeadedView, IsHeaded, IsUnderway, IsWhole, HasRefusedHead, HasRefusedBody, IsHeadRefusedBy, IsBodyRefusedBy}
use Rattle.gp_intake.proofs.Asking.{head_within}
use Rattle.gp_one_request.specs.OneRequest.{followed_by, RequestLaw}
use Rattle.gp_one_request.proofs.Paths.{one_path}
use Rattle.gp_one_request.proofs.Plans.{same_plan, is_framed}

module _ (w : Whole) (received : List ℕ) (h : IsWhole w received) where
  -- the body is read to its end
  read_to_end : laws.IsWhole h.plan MAX_BODY (drop h.length received) w.body
  read_to_end = subst (λ (text : List ℕ). laws.IsWhole h.plan MAX_BODY text w.body) (sym h.split)
      (whole_law h.plan MAX_BODY w.body h.text w.unused (is_framed w.head h.plan h.served.planned) h.spells h.within)

  not_begun : ¬ (IsBegun received)
  not_begun begun = let same = sym h.read.0 ∙ begun in cc

  -- a head that was read is its head
  module _ (head : Request) (n : ℕ) (read : IsRead IsRequestText received (WholeHead head n)) where
    same_head : head ≡ w.head
    same_head = (one_request received head w.head n h.length read h.read).0

    same_length : n ≡ h.length
    same_length = (one_request received head w.head n h.length read h.read).1

    -- and where it is served its path and its plan are the same
    module _ (path : List ℕ) (plan : BodyPlan) (served : IsServed head path plan) where
      same_path : path ≡ w.path
      same_path =
          let kept = subst (λ (r : Request). IsServed r w.path h.plan) (sym same_head) h.served in
          one_path head.target path w.path served.target.authority kept.target.authority served.target.split kept.target.split

      planned_same : plan ≡ h.plan
      planned_same = same_plan (sym served.planned ∙ ap plan_of_request same_head ∙ h.served.planned)

      -- so its body is read to the end too
      ends : laws.IsWhole plan MAX_BODY (drop n received) w.body
      ends = subst (λ (p : BodyPlan). laws.IsWhole p MAX_BODY (drop n received) w.body) (sym planned_same)
          (subst (λ (k : ℕ). laws.IsWhole h.plan MAX_BODY (drop k received) w.body) (sym same_length) read_to_end)

  not_underway : (v : HeadedView) → ¬ (IsUnderway v received)
  not_underway v u =
      let come = u.headed.come in
      let all : drop u.headed.length received ≡ come.text = come.split ∙ ap (λ (xs : List ℕ). come.text ++ xs) (come.nothing u.more.ended) ∙ append-nil come.text in
      let goes_on : is_ended u.headed.plan MAX_BODY (drop u.headed.length received) ≡ false =
      ap (λ (xs : List ℕ). is_ended u.headed.plan MAX_BODY xs) all ∙ ap (λ (r : Reading). is_end r.state) (sym come.reading) ∙ u.more.ended in
      let ended = (ends v.head u.headed.length u.headed.read v.path u.headed.plan u.headed.served).ended in
      let differ : true ≡ false = sym ended ∙ goes_on in
      cc

  -- a head that is served is refused by no rule
  no_rule : (fault : RequestFault) (method : List ℕ) → (r : HasRefusedHead received (record { fault = fault; method = method }))
      → IsServed r.head w.path h.plan
  no_rule fault method r = subst (λ (x : Request). IsServed x w.path h.plan) (sym (same_head r.head r.length r.read)) h.served

  head_stands : (fault : RequestFault) (method : List ℕ) → ¬ (IsHeadRefusedBy received fault method)
  head_stands HeadTooLarge method r = elim r.0 [
    | inl many ↦ let same = sym h.read.0 ∙ many in cc
    | inr long ↦ let same = sym h.read.0 ∙ long in cc
  ]
  head_stands Head method r =
      let ends_at = sym h.read.0 ∙ r.0.1 in
      let same : h.length ≡ r.0.0 = cc in
      r.0.2 w.head (subst (λ (k : ℕ). IsRequestText (take k received) w.head) same h.read.1)
  head_stands Target method r = r.rule w.path (no_rule Target method r).target
  head_stands Host method r =
      let differ : true ≡ false = sym (no_rule Host method r).host ∙ r.rule.host in cc
  head_stands (Plan fault) method r =
      let differ = sym (no_rule (Plan fault) method r).planned ∙ r.rule.planned in cc
  head_stands (Chunk place) method r = r
  head_stands TooLong method r = r

  body_is_read : (head : Request) (path method : List ℕ) (fault : FedFault) → ¬ (HasRefusedBody head path received fault method)
  body_is_read head path method fault r =
      let accepted = (ends head r.length r.read path r.plan r.served).accepted in
      let differ = sym accepted ∙ r.fault_is in cc

  body_stands : (head : Request) (path : List ℕ) (fault : RequestFault) (method : List ℕ) → ¬ (IsBodyRefusedBy head path received fault method)
  body_stands head path HeadTooLarge method r = r
  body_stands head path Head method r = r
  body_stands head path Target method r = r
  body_stands head path Host method r = r
  body_stands head path (Plan fault) method r = r
  body_stands head path (Chunk place) method r = body_is_read head path method (fed.Chunk place) r
  body_stands head path TooLong method r = body_is_read head path method (fed.TooLong MAX_BODY) r

  one_headed : (v : HeadedView) → IsHeaded v received → (v.head ≡ w.head) × (v.path ≡ w.path)
  one_headed v g = (same_head v.head g.length g.read, same_path v.head g.length g.read v.path g.plan g.served)

  -- more bytes come behind it
  with_more : (more : List ℕ) → IsWhole (followed_by w more) (received ++ more)
  with_more more = record {
    length = h.length;
    plan = h.plan;
    text = h.text;
    read = settled IsRequestText received (WholeHead w.head h.length) h.read more;
    served = h.served;
    split = drop-append-le h.length received more (head_within received w.head h.length h.read) ∙ ap (λ (xs : List ℕ). xs ++ more) h.split ∙ append_assoc h.text w.unused more;
    spells = h.spells;
    within = h.within;
  }

one_whole : (w other : Whole) (received : List ℕ) → IsWhole w received → IsWhole other received
    → (other.head ≡ w.head) × (other.path ≡ w.path) × (other.body ≡ w.body)
one_whole w other received h g =
    let head = same_head w received h other.head g.length g.read in
    let path = same_path w received h other.head g.length g.read other.path g.plan g.served in
    let read = ends w received h other.head g.length g.read other.path g.plan g.served in
    (head, path, sym (read_to_end other received g).content_is ∙ read.content_is)

-- more bytes behind a head that was read
head_on : (received more : List ℕ) (head : Request) (n : ℕ) → IsRead IsRequestText received (WholeHead head n)
    → IsRead IsRequestText (received ++ more) (WholeHead head n)
head_on received more head n read = settled IsRequestText received (WholeHead head n) read more

early_head : (w : Whole) (v : HeadedView) (received more : List ℕ) → IsWhole w (received ++ more) → IsHeaded v received
    → (v.head ≡ w.head) × (v.path ≡ w.path)
early_head w v received more h g =
    let read = head_on received more v.head g.length g.read in
    (same_head w (received ++ more) h v.head g.length read, same_path w (received ++ more) h v.head g.length read v.path g.plan g.served)

-- refusals stay

rule_still : (received more : List ℕ) (refused : Refused) → HasRefusedHead received refused → HasRefusedHead (received ++ more) refused
rule_still received more refused r = record { head = r.head; length = r.length; read = head_on received more r.head r.length r.read; rule = r.rule; method = r.method }

head_still : (received more : List ℕ) (fault : RequestFault) (method : List ℕ) → IsHeadRefusedBy received fault method
    → IsHeadRefusedBy (received ++ more) fault method
head_still received more HeadTooLarge method r = (
  elim r.0 [
    | inl many ↦ inl (settled IsRequestText received TooManyFields many more)
    | inr long ↦ inr (settled IsRequestText received TooLongHead long more)
  ],
  r.1,
)
head_still received more Head method r = (settled IsRequestText received BadHead r.0 more, r.1)
head_still received more Target method r = rule_still received more _ r
head_still received more Host method r = rule_still received more _ r
head_still received more (Plan fault) method r = rule_still received more _ r
head_still received more (Chunk place) method r = absurd r
head_still received more TooLong method r = absurd r

fault_still : (plan : BodyPlan) (limit : ℕ) (text more : List ℕ) (fault : FedFault) → fault_of plan limit text ≡ Some fault
    → fault_of plan limit (text ++ more) ≡ Some fault
unfolding reading_of
fault_still plan limit text more fault e =
    ap (λ (r : Reading). r.refused) (after_all-append text more (opening plan limit) ∙ stays more (after_all text (opening plan limit)) (rw e refl)) ∙ e

refused_still : (head : Request) (path received more method : List ℕ) (fault : FedFault) → HasRefusedBody head path received fault method
    → HasRefusedBody head path (received ++ more) fault method
refused_still head path received more method fault r = record {
  length = r.length;
  plan = r.plan;
  read = head_on received more head r.length r.read;
  served = r.served;
  fault_is = ap (λ (xs : List ℕ). fault_of r.plan MAX_BODY xs) (drop-append-le r.length received more (head_within received head r.length r.read))
      ∙ fault_still r.plan MAX_BODY (drop r.length received) more fault r.fault_is;
  method_is = r.method_is;
}

body_still : (head : Request) (path received more : List ℕ) (fault : RequestFault) (method : List ℕ)
    → IsBodyRefusedBy head path received fault method → IsBodyRefusedBy head path (received ++ more) fault method
body_still head path received more HeadTooLarge method r = absurd r
body_still head path received more Head method r = absurd r
body_still head path received more Target method r = absurd r
body_still head path received more Host method r = absurd r
body_still head path received more (Plan fault) method r = absurd r
body_still head path received more (Chunk place) method r = refused_still head path received more method (fed.Chunk place) r
body_still head path received more TooLong method r = refused_still head path received more method (fed.TooLong MAX_BODY) r

pub request_law_holds : RequestLaw
request_law_holds = record {
  begun = λ w received h. not_begun w received h;
  underway = λ w v received h. not_underway w received h v;
  head = λ w received fault method h. head_stands w received h fault method;
  body = λ w head path received fault method h. body_stands w received h head path fault method;
  headed = λ w v received h. one_headed w received h v;
  one = one_whole;
  more = λ w received more h. with_more w received h more;
  early = early_head;
  head_stays = head_still;
  body_stays = body_still;
}
