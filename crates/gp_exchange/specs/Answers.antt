-- What an answer of a poll says of the exchange and of the dialer's counts.
use Rattle.std.specs.Prelude.{ℕ, ◌≡◌, ◌<◌, ◌≤◌, Bool, true, false, [], length, Option, Some, None, option_map}
use Rattle.gp_plain.specs.declared.http.Response.{Response}
use Rattle.gp_head.specs.declared.read.HeadRead.TheVariants.{More as Open}
use Rattle.gp_head.specs.Heads.{IsRead, IsResponseText}
use Rattle.gp_outside.specs.Counts.{Rose}
use Rattle.gp_outside.specs.Dials.{DialTells}
use Rattle.std.specs.declared.snapshot.Snapshot.{Snapshot}
use Rattle.gp_exchange.specs.Ends.{last_of}
use Rattle.gp_exchange.specs.declared.answer.ExchangeFault.{ExchangeFault}
use Rattle.gp_exchange.specs.declared.answer.ExchangeFault.TheVariants.{Dial, Head as BadHead, Interim, Plan, Body}
use Rattle.gp_exchange.specs.declared.answer.Progress.{Progress}
use Rattle.gp_exchange.specs.declared.answer.Progress.TheVariants.{Head, Part, End, NotReady, Fault, NoMemory}
use Rattle.gp_exchange.specs.declared.answer.Last.{Last}
use Rattle.gp_exchange.specs.declared.answer.Last.TheVariants.{End as LastEnd, Fault as LastFault, NoMemory as LastNoMemory}
use Rattle.gp_exchange.specs.declared.place.Place.{Place}
use Rattle.gp_exchange.specs.declared.place.Place.TheVariants.{Unbegun, Connecting, Sending, Heading, Reading, Over}
use Rattle.gp_exchange.specs.declared.reading.Reading.{Reading as BodyReading}

-- the answer of an end
abbrev pub told : Last → Progress
told LastEnd = End
told (LastFault fault) = Fault fault
told LastNoMemory = NoMemory

-- how far an exchange is: it never goes back
abbrev pub rank : Place → ℕ
rank (Unbegun request) = 0
rank (Connecting request) = 1
rank (Sending sending) = 2
rank (Heading heading) = 3
rank (Reading reading) = 4
rank (Over over) = 5

-- the head of this response was given, and its body is being read
abbrev pub ReadsBodyOf : Response → Place → Type 0
ReadsBodyOf head (Unbegun request) = ⊥
ReadsBodyOf head (Connecting request) = ⊥
ReadsBodyOf head (Sending sending) = ⊥
ReadsBodyOf head (Heading heading) = ⊥
ReadsBodyOf head (Reading reading) = reading.head.value ≡ head
ReadsBodyOf head (Over over) = ⊥

-- the exchange is over, with this answer
abbrev pub IsOverBy : Last → Place → Type 0
IsOverBy last (Unbegun request) = ⊥
IsOverBy last (Connecting request) = ⊥
IsOverBy last (Sending sending) = ⊥
IsOverBy last (Heading heading) = ⊥
IsOverBy last (Reading reading) = ⊥
IsOverBy last (Over over) = over.last ≡ last

-- all that came of the body was given, and neither ends nor refuses it
pub record IsDry (r : BodyReading) : Type 0 where
  pub part : r.part ≡ []
  pub goes_on : last_of r.reader ≡ None

-- what is waited for, and its count: the connection, the rest of the request to be taken, more of a head that isn't there
-- whole, or more of the body
abbrev pub Waits : Place → DialTells → DialTells → Type 0
Waits (Unbegun request) old now = ⊥
Waits (Connecting request) old now = Rose old.connect_waits now.connect_waits
Waits (Sending sending) old now = (sending.done < length sending.request) × Rose old.write_waits now.write_waits
Waits (Heading heading) old now = (IsRead IsResponseText heading.bytes Open) × Rose old.read_waits now.read_waits
Waits (Reading reading) old now = IsDry reading × Rose old.read_waits now.read_waits
Waits (Over over) old now = ⊥

-- a fault of the dialer comes for the first time only where its faults rose
abbrev pub FaultRises : ExchangeFault → Place → DialTells → DialTells → Type 0
FaultRises Dial was old now = rank was < 5 → Rose old.faults now.faults
FaultRises BadHead was old now = Unit {0}
FaultRises Interim was old now = Unit {0}
FaultRises (Plan fault) was old now = Unit {0}
FaultRises (Body fault) was old now = Unit {0}

-- the head comes once, parts and the end behind it
abbrev pub Gives : Place → Place → DialTells → DialTells → Progress → Type 0
Gives was is old now (Head head) = (rank was < 4) × ReadsBodyOf head is
Gives was is old now (Part part) = (0 < length part) × (rank was ≡ 4) × (rank is ≡ 4)
Gives was is old now End = (4 ≤ rank was) × IsOverBy LastEnd is
Gives was is old now NotReady = (rank was ≤ rank is) × Waits is old now
Gives was is old now (Fault fault) = IsOverBy (LastFault fault) is × FaultRises fault was old now
Gives was is old now NoMemory = IsOverBy LastNoMemory is

abbrev pub is_marked : Place → Bool
is_marked (Unbegun request) = false
is_marked (Connecting request) = false
is_marked (Sending sending) = false
is_marked (Heading heading) = false
is_marked (Reading reading) = false
is_marked (Over over) = over.ended

-- the mark that the input ended is set only where the dialer's ends rose
abbrev pub Marked : Place → Place → DialTells → DialTells → Type 0
Marked was is old now = is_marked is ≡ true → rank was < 5 → Rose old.ends now.ends

-- the head that was given, where one was
abbrev pub head_of : Place → Option Response
head_of (Unbegun request) = None
head_of (Connecting request) = None
head_of (Sending sending) = None
head_of (Heading heading) = None
head_of (Reading reading) = Some reading.head.value
head_of (Over over) = option_map (λ (head : Snapshot Response). head.value) over.head

-- an answer gives a head, or leaves the one that was given
abbrev pub head_after : Option Response → Progress → Option Response
head_after given (Head head) = Some head
head_after given (Part part) = given
head_after given End = given
head_after given NotReady = given
head_after given (Fault fault) = given
head_after given NoMemory = given
