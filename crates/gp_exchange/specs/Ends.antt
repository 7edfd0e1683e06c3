-- What the bytes of a talk say of the body, and of the end of an exchange (RFC 9112, section 6).
use Rattle.std.specs.Prelude.{ℕ, ◌≡◌, Bool, true, ◌⊎◌, List, [], drop, Option, Some, None, Ok, Err, if◌then◌else◌, ⊤}
use Rattle.gp_plain.specs.declared.http.Response.{Response}
use Rattle.gp_body.specs.declared.plan.BodyPlan.{BodyPlan}
use Rattle.gp_body.specs.declared.plan.BodyPlan.TheVariants.{ToClose}
use Rattle.gp_body.specs.declared.plan.BodyFault.{BodyFault}
use Rattle.gp_body.specs.declared.fed.FedFault.{FedFault}
use Rattle.gp_body.specs.declared.reading.Reading.{Reading}
use Rattle.gp_body.specs.Plans.{plan_of_response}
use Rattle.gp_body.specs.Steps.{is_end}
use Rattle.gp_body.specs.Wholes.{reading_of, content_of, is_ended, fault_of, CutsAt}
use Rattle.gp_exchange.specs.Views.{AskedView}
use Rattle.gp_exchange.specs.Heads.{HasHead, RefusesHead, RefusesInterim}
use Rattle.gp_exchange.specs.declared.answer.ExchangeFault.TheVariants.{Dial, Head, Interim, Plan, Body}
use Rattle.gp_exchange.specs.declared.answer.Last.{Last}
use Rattle.gp_exchange.specs.declared.answer.Last.TheVariants.{End, Fault, NoMemory}
use Rattle.gp_exchange.specs.declared.place.Over.{Over}
use Rattle.std.specs.declared.snapshot.Snapshot.{Snapshot}

-- the bytes received begin with the head, and the content of what came behind it by the body's plan is this
pub record Gave (asked : AskedView) (head : Response) (content received : List ℕ) : Type 0 where
  pub at : ℕ
  pub plan : BodyPlan
  pub has : HasHead received head at
  pub planned : plan_of_response head asked.method ≡ Ok plan
  pub content_is : content ≡ content_of plan asked.limit (drop at received)

-- the same, and the reader has read all of it
pub record Reads (asked : AskedView) (head : Response) (reader : Reading) (content received : List ℕ) : Type 0 where
  pub gave : Gave asked head content received
  pub reading : reader ≡ reading_of gave.plan asked.limit (drop gave.at received)

-- the body ended by its plan, or it goes on to the close and the input ended
pub record EndsBody (asked : AskedView) (head : Response) (ended : Bool) (content received : List ℕ) : Type 0 where
  pub gave : Gave asked head content received
  pub accepted : fault_of gave.plan asked.limit (drop gave.at received) ≡ None
  pub whole : (is_ended gave.plan asked.limit (drop gave.at received) ≡ true) ⊎ ((gave.plan ≡ ToClose) × (ended ≡ true))

-- the body is refused, or the input ended before it was whole
pub record RefusesBody (asked : AskedView) (head : Response) (ended : Bool) (fault : FedFault) (content received : List ℕ) : Type 0 where
  pub gave : Gave asked head content received
  pub refused : (fault_of gave.plan asked.limit (drop gave.at received) ≡ Some fault) ⊎ ((ended ≡ true) × CutsAt gave.plan asked.limit (drop gave.at received) fault)

-- the body has no plan
pub record RefusesPlan (asked : AskedView) (fault : BodyFault) (received : List ℕ) : Type 0 where
  pub at : ℕ
  pub head : Response
  pub has : HasHead received head at
  pub planned : plan_of_response head asked.method ≡ Err fault

-- all that came was given
abbrev pub GaveAll : AskedView → Option (Snapshot Response) → List ℕ → List ℕ → Type 0
GaveAll asked None content received = content ≡ []
GaveAll asked (Some head) content received = Gave asked head.value content received

-- what an answer of the end says of the bytes received, and of the content that was given
abbrev pub EndsBy : AskedView → Last → Bool → Option (Snapshot Response) → List ℕ → List ℕ → Type 0
EndsBy asked End ended None content received = ⊥
EndsBy asked End ended (Some head) content received = EndsBody asked head.value ended content received
EndsBy asked (Fault Dial) ended head content received = GaveAll asked head content received
EndsBy asked (Fault Head) ended head content received = (content ≡ []) × RefusesHead received ended
EndsBy asked (Fault Interim) ended head content received = (content ≡ []) × RefusesInterim received
EndsBy asked (Fault (Plan fault)) ended head content received = (content ≡ []) × RefusesPlan asked fault received
EndsBy asked (Fault (Body fault)) ended None content received = ⊥
EndsBy asked (Fault (Body fault)) ended (Some head) content received = RefusesBody asked head.value ended fault content received
EndsBy asked NoMemory ended head content received = ⊤

abbrev pub Ends : AskedView → Over → List ℕ → List ℕ → Type 0
Ends asked over content received = EndsBy asked over.last over.ended over.head content received

-- the end that a reader has met
abbrev pub last_by : Option FedFault → Bool → Option Last
last_by (Some fault) end = Some (Fault (Body fault))
last_by None end = if end then Some End else None

abbrev pub last_of : Reading → Option Last
last_of r = last_by r.refused (is_end r.state)

-- an end that a body can have
abbrev pub IsBodyEnd : Last → Type 0
IsBodyEnd End = ⊤
IsBodyEnd (Fault (Body fault)) = ⊤
IsBodyEnd (Fault other) = ⊥
IsBodyEnd NoMemory = ⊥
