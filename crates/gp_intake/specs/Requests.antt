-- What the bytes are that were received of a client: the beginning of a request, a whole one and bytes behind it, or one that is refused.
use Rattle.std.specs.Prelude.{◌≡◌, ℕ, ◌≤◌, ◌⊎◌, List, [], ◌++◌, length, drop, Some}
use Rattle.gp_plain.specs.declared.http.Request.{Request}
use Rattle.gp_head.specs.declared.read.HeadRead.TheVariants.{Whole as WholeHead, Bad, TooMany, TooLong as HeadTooLong}
use Rattle.gp_head.specs.Heads.{IsRead, IsRequestText}
use Rattle.gp_body.specs.declared.plan.BodyPlan.{BodyPlan}
use Rattle.gp_body.specs.declared.fed.FedFault.{FedFault}
use Rattle.gp_body.specs.declared.fed.FedFault.TheVariants as fed
use Rattle.gp_body.specs.Bodies.{Spells}
use Rattle.gp_body.specs.Wholes.{fault_of}
use Rattle.gp_intake.specs.declared.fault.RequestFault.{RequestFault}
use Rattle.gp_intake.specs.declared.fault.RequestFault.TheVariants.{HeadTooLarge, Head, Target, Host, Plan, Chunk, TooLong}
use Rattle.gp_intake.specs.declared.fault.Refused.{Refused}
use Rattle.gp_intake.specs.declared.body.Whole.{Whole}
use Rattle.gp_intake.specs.declared.reading.TheConstants.{MAX_BODY}
use Rattle.gp_intake.specs.Served.{IsServed, IsHeadRefused}
use Rattle.gp_intake.specs.Bodies.{ReadingView, HasCome, IsOpen}

-- how many bytes there are
abbrev pub count : List ℕ → ℕ
count bytes = length bytes

-- a head, the path and query of its target, and how far the body was read
pub record HeadedView : Type 0 where
  pub head : Request
  pub path : List ℕ
  pub body : ReadingView

-- a head that is served stands first, and the bytes behind it came of its body
pub record IsHeaded (v : HeadedView) (received : List ℕ) : Type 0 where
  pub length : ℕ
  pub plan : BodyPlan
  pub read : IsRead IsRequestText received (WholeHead v.head length)
  pub served : IsServed v.head v.path plan
  pub come : HasCome plan (drop length received) v.body

-- the same, and the body is neither whole nor refused
pub record IsUnderway (v : HeadedView) (received : List ℕ) : Type 0 where
  pub headed : IsHeaded v received
  pub more : IsOpen v.body.reading

-- a whole request stands first, and then the bytes that weren't used
pub record IsWhole (w : Whole) (received : List ℕ) : Type 0 where
  pub length : ℕ
  pub plan : BodyPlan
  pub text : List ℕ
  pub read : IsRead IsRequestText received (WholeHead w.head length)
  pub served : IsServed w.head w.path plan
  pub split : drop length received ≡ text ++ w.unused
  pub spells : Spells plan w.body text
  pub within : count w.body ≤ MAX_BODY

-- a head of the grammar that is refused
pub record HasRefusedHead (received : List ℕ) (refused : Refused) : Type 0 where
  pub head : Request
  pub length : ℕ
  pub read : IsRead IsRequestText received (WholeHead head length)
  pub rule : IsHeadRefused head refused.fault
  pub method : refused.method ≡ head.method

-- a body that is refused, behind a head that is served and has this path and query
pub record HasRefusedBody (head : Request) (path received : List ℕ) (fault : FedFault) (method : List ℕ) : Type 0 where
  pub length : ℕ
  pub plan : BodyPlan
  pub read : IsRead IsRequestText received (WholeHead head length)
  pub served : IsServed head path plan
  pub fault_is : fault_of plan MAX_BODY (drop length received) ≡ Some fault
  pub method_is : method ≡ head.method

-- which fault of a request that of its body is; a body isn't refused where its input ends
abbrev pub request_fault : FedFault → RequestFault
request_fault (fed.Chunk place) = Chunk place
request_fault (fed.TooLong told) = TooLong
request_fault (fed.Cut n) = TooLong

-- the bytes are refused so by their head, and the method is that of the head, where one was read
abbrev pub IsHeadRefusedBy : List ℕ → RequestFault → List ℕ → Type 0
IsHeadRefusedBy received HeadTooLarge method = (IsRead IsRequestText received TooMany ⊎ IsRead IsRequestText received HeadTooLong) × (method ≡ [])
IsHeadRefusedBy received Head method = IsRead IsRequestText received Bad × (method ≡ [])
IsHeadRefusedBy received Target method = HasRefusedHead received (record { fault = Target; method = method })
IsHeadRefusedBy received Host method = HasRefusedHead received (record { fault = Host; method = method })
IsHeadRefusedBy received (Plan fault) method = HasRefusedHead received (record { fault = Plan fault; method = method })
IsHeadRefusedBy received (Chunk place) method = ⊥
IsHeadRefusedBy received TooLong method = ⊥

abbrev pub IsRefusedHead : Refused → List ℕ → Type 0
IsRefusedHead refused received = IsHeadRefusedBy received refused.fault refused.method

-- the body behind this head is refused so
abbrev pub IsBodyRefusedBy : Request → List ℕ → List ℕ → RequestFault → List ℕ → Type 0
IsBodyRefusedBy head path received HeadTooLarge method = ⊥
IsBodyRefusedBy head path received Head method = ⊥
IsBodyRefusedBy head path received Target method = ⊥
IsBodyRefusedBy head path received Host method = ⊥
IsBodyRefusedBy head path received (Plan fault) method = ⊥
IsBodyRefusedBy head path received (Chunk place) method = HasRefusedBody head path received (fed.Chunk place) method
IsBodyRefusedBy head path received TooLong method = HasRefusedBody head path received (fed.TooLong MAX_BODY) method

abbrev pub IsRefusedBody : HeadedView → Refused → List ℕ → Type 0
IsRefusedBody v refused received = IsBodyRefusedBy v.head v.path received refused.fault refused.method
