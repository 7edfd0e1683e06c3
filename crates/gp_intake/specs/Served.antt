-- Which heads are served (RFC 9112, sections 3.2 and 6.3).
use Rattle.std.specs.Prelude.{◌≡◌, ℕ, ◌==◌, ◌||◌, Bool, true, false, not, List, count_by, bytes_eq, codes, Option, Ok, Err, ⊤}
use Rattle.gp_plain.specs.declared.http.Request.{Request}
use Rattle.gp_text.specs.Lists.{is_named}
use Rattle.gp_head.specs.Targets.{IsSplit}
use Rattle.gp_body.specs.declared.plan.BodyPlan.{BodyPlan}
use Rattle.gp_body.specs.declared.plan.BodyFault.{BodyFault}
use Rattle.gp_body.specs.Plans.{plan_of_request}
use Rattle.gp_intake.specs.declared.fault.RequestFault.{RequestFault}
use Rattle.gp_intake.specs.declared.fault.RequestFault.TheVariants.{HeadTooLarge, Head, Target, Host, Plan, Chunk, TooLong}
use Rattle.gp_intake.specs.declared.fault.Unserved.{Unserved}
use Rattle.gp_intake.specs.declared.fault.Unserved.TheVariants.{Fault, NoMemory}

-- the target has this path and query, and the method isn't CONNECT
pub record HasTarget (head : Request) (path : List ℕ) : Type 0 where
  pub method : bytes_eq head.method (codes "CONNECT") ≡ false
  pub authority : Option (List ℕ)
  pub split : IsSplit head.target path authority

-- it has none that is served
abbrev pub HasNoTarget : Request → Type 0
HasNoTarget head = (path : List ℕ) → ¬ (HasTarget head path)

-- a request of HTTP/1.1 has exactly one `host` field
abbrev pub has_one_host : Request → Bool
has_one_host head = not (head.version == 1) || (count_by (is_named (codes "host")) head.fields == 1)

-- the head is served: its target has this path and query, and its body this plan
pub record IsServed (head : Request) (path : List ℕ) (plan : BodyPlan) : Type 0 where
  pub target : HasTarget head path
  pub host : has_one_host head ≡ true
  pub planned : plan_of_request head ≡ Ok plan

-- what is tried before the `host` fields refuses nothing, and they do
pub record IsHostRefused (head : Request) : Type 0 where
  pub path : List ℕ
  pub target : HasTarget head path
  pub host : has_one_host head ≡ false

-- what is tried before the plan refuses nothing, and no plan can be made
pub record IsPlanRefused (head : Request) (fault : BodyFault) : Type 0 where
  pub path : List ℕ
  pub target : HasTarget head path
  pub host : has_one_host head ≡ true
  pub planned : plan_of_request head ≡ Err fault

-- why a head of the grammar is refused
abbrev pub IsHeadRefused : Request → RequestFault → Type 0
IsHeadRefused head HeadTooLarge = ⊥
IsHeadRefused head Head = ⊥
IsHeadRefused head Target = HasNoTarget head
IsHeadRefused head Host = IsHostRefused head
IsHeadRefused head (Plan fault) = IsPlanRefused head fault
IsHeadRefused head (Chunk place) = ⊥
IsHeadRefused head TooLong = ⊥

abbrev pub IsUnserved : Request → Unserved → Type 0
IsUnserved head (Fault fault) = IsHeadRefused head fault
IsUnserved head NoMemory = ⊤

-- the target alone
abbrev pub IsTargetFault : Request → RequestFault → Type 0
IsTargetFault head fault = (fault ≡ Target) × HasNoTarget head

abbrev pub IsTargetUnserved : Request → Unserved → Type 0
IsTargetUnserved head (Fault fault) = IsTargetFault head fault
IsTargetUnserved head NoMemory = ⊤
