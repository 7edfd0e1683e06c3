-- What is found of a response's head in the bytes that came.
use Rattle.std.specs.Prelude.{ℕ, ◌≡◌, ◌≤◌, false, List, [], None, Ok, Err, ⊤}
use Rattle.gp_plain.specs.declared.http.Response.{Response}
use Rattle.gp_head.specs.declared.read.HeadRead.TheVariants.{More as Open}
use Rattle.gp_head.specs.Heads.{IsRead, IsResponseText}
use Rattle.gp_body.specs.declared.reading.Reading.{Reading as BodyReading}
use Rattle.gp_body.specs.declared.plan.BodyPlan.{BodyPlan}
use Rattle.gp_body.specs.Plans.{plan_of_response}
use Rattle.gp_body.specs.Readings.{after_all, content_from}
use Rattle.gp_body.specs.Wholes.{reading_of, content_of}
use Rattle.gp_exchange.specs.Views.{AskedView}
use Rattle.gp_exchange.specs.Heads.{HeadsSoFar}
use Rattle.gp_exchange.specs.Ends.{Reads, EndsBy}
use Rattle.gp_exchange.specs.declared.answer.ExchangeFault.TheVariants.{Dial, Head as BadHead, Interim, Plan, Body}
use Rattle.gp_exchange.specs.declared.answer.Last.{Last}
use Rattle.gp_exchange.specs.declared.answer.Last.TheVariants.{End, Fault, NoMemory}
use Rattle.gp_exchange.specs.declared.heading.Heading.{Heading}
use Rattle.gp_exchange.specs.declared.heading.Found.{Found}
use Rattle.gp_exchange.specs.declared.heading.Found.TheVariants.{More, Head, Over}
use Rattle.gp_exchange.specs.declared.reading.Reading.{Reading}

-- the head isn't there whole, behind at most eight interim heads, and bytes are dropped with an interim head alone
pub record Goes (was is : Heading) : Type 0 where
  pub few : is.interim ≤ 8
  pub up : was.interim ≤ is.interim
  pub same : was.interim ≡ is.interim → is.bytes ≡ was.bytes
  pub more : IsRead IsResponseText is.bytes Open

-- an end that a head can have
abbrev pub IsHeadEnd : Last → Type 0
IsHeadEnd End = ⊥
IsHeadEnd (Fault Dial) = ⊥
IsHeadEnd (Fault BadHead) = ⊤
IsHeadEnd (Fault Interim) = ⊤
IsHeadEnd (Fault (Plan fault)) = ⊤
IsHeadEnd (Fault (Body fault)) = ⊥
IsHeadEnd NoMemory = ⊤

abbrev pub Finds : Heading → Heading → Found → Type 0
Finds was is More = Goes was is
Finds was is (Head head reading) = reading.head.value ≡ head
Finds was is (Over last) = IsHeadEnd last

-- what it says of the bytes received
abbrev pub IsFound : AskedView → List ℕ → Heading → Found → Type 0
IsFound asked received is More = HeadsSoFar received is
IsFound asked received is (Head head reading) = Reads asked head reading.reader reading.part received
IsFound asked received is (Over last) = EndsBy asked last false None [] received

-- the reader has read the bytes, and the part is their content
pub record Opens (r : BodyReading) (head : Response) (rest : List ℕ) (reading : Reading) : Type 0 where
  pub head_is : reading.head.value ≡ head
  pub reader : reading.reader ≡ after_all rest r
  pub part : reading.part ≡ content_from rest r

abbrev pub IsOpened : BodyReading → Response → List ℕ → Found → Type 0
IsOpened r head rest More = ⊥
IsOpened r head rest (Head given reading) = (given ≡ head) × Opens r head rest reading
IsOpened r head rest (Over last) = last ≡ NoMemory

-- the body is planned, and what came of it was read
pub record Plans (asked : AskedView) (head : Response) (rest : List ℕ) (reading : Reading) : Type 0 where
  pub plan : BodyPlan
  pub planned : plan_of_response head asked.method ≡ Ok plan
  pub head_is : reading.head.value ≡ head
  pub reader : reading.reader ≡ reading_of plan asked.limit rest
  pub part : reading.part ≡ content_of plan asked.limit rest

abbrev pub IsBegunBy : AskedView → Response → List ℕ → Last → Type 0
IsBegunBy asked head rest End = ⊥
IsBegunBy asked head rest (Fault (Plan fault)) = plan_of_response head asked.method ≡ Err fault
IsBegunBy asked head rest (Fault other) = ⊥
IsBegunBy asked head rest NoMemory = ⊤

abbrev pub IsBegun : AskedView → Response → List ℕ → Found → Type 0
IsBegun asked head rest More = ⊥
IsBegun asked head rest (Head given reading) = (given ≡ head) × Plans asked head rest reading
IsBegun asked head rest (Over last) = IsBegunBy asked head rest last
