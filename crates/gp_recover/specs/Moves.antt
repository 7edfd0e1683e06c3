-- What every move of a recovery keeps, and where it leads.
use Rattle.std.specs.Prelude.{ℕ, ◌≡◌, ◌<◌, ◌≤◌, List, ◌++◌, length, Some, IfSome, ⊤}
use Rattle.gp_plain.specs.declared.http.Response.{Response}
use Rattle.gp_outside.specs.Dials.{DialTells, DialLater, after_hang_up}
use Rattle.gp_outside.specs.Talks.{Talk}
use Rattle.gp_exchange.specs.Answers.{FaultRises, IsOverBy, Marked, ReadsBodyOf, Waits, head_after, head_of, rank, Gives as ExchangeGives}
use Rattle.gp_exchange.specs.Standing.{StandsAt, part_of, Stands as ExchangeStands}
use Rattle.gp_exchange.specs.Views.{ExchangeView}
use Rattle.gp_exchange.specs.declared.answer.Last.TheVariants as ended
use Rattle.gp_exchange.specs.declared.answer.Progress.{Progress}
use Rattle.gp_exchange.specs.declared.place.Place.{Place}
use Rattle.gp_recover.specs.Pages.{IsFaultOf, IsPageOf}
use Rattle.gp_recover.specs.Reading.{IsOpen, IsUnread}
use Rattle.gp_recover.specs.Standing.{IsAt}
use Rattle.gp_recover.specs.Views.{RecoveryView, SoughtView, again, answer_at, asked_by, content_at, place_at, told}
use Rattle.gp_recover.specs.declared.heading.Heading.{Heading as HeadHeading}
use Rattle.gp_recover.specs.declared.page.Page.{Page}
use Rattle.gp_recover.specs.declared.page.PageFault.TheVariants.{Exchange, Code, Instruct, Channel, TooLong}
use Rattle.gp_recover.specs.declared.reader.Unread.{Unread}
use Rattle.gp_recover.specs.declared.reader.Unread.TheVariants as unread
use Rattle.gp_recover.specs.declared.reading.Gathered.{Gathered}
use Rattle.gp_recover.specs.declared.reading.Gathered.TheVariants as gathered
use Rattle.gp_recover.specs.declared.reading.Reading.{Reading as BodyReading}
use Rattle.gp_recover.specs.declared.recovered.Last.{Last}
use Rattle.gp_recover.specs.declared.recovered.Last.TheVariants as last
use Rattle.gp_recover.specs.declared.recovered.Recovered.{Recovered}
use Rattle.gp_recover.specs.declared.recovered.Recovered.TheVariants.{Got, NotReady, Failed, NoMemory}
use Rattle.gp_recover.specs.declared.stage.Next.{Next}
use Rattle.gp_recover.specs.declared.stage.Over.{Over as Ending}
use Rattle.gp_recover.specs.declared.stage.Stage.{Stage}
use Rattle.gp_recover.specs.declared.stage.Stage.TheVariants.{Unbegun, Heading, Reading, Over, Lost}
use Rattle.gp_recover.specs.declared.unbegun.Unbegun.{Unbegun as Beginning}

-- ---- what is kept

pub record KeepsAll (s : SoughtView) (unbegun : Beginning) : Type 0 where
  pub to : unbegun.to ≡ s.to
  pub request : unbegun.request ≡ s.request
  pub channel : unbegun.channel ≡ s.channel
  pub from : unbegun.from ≡ s.from

-- the head wasn't given
pub record AsksHead (s : SoughtView) (heading : HeadHeading) : Type 0 where
  pub asked : heading.exchange.asked ≡ asked_by s
  pub channel : heading.channel ≡ s.channel
  pub from : heading.from ≡ s.from
  pub early : rank heading.exchange.place < 4

-- the head was given, its body is being read, and nothing refuses the page
pub record AsksContent (s : SoughtView) (reading : BodyReading) : Type 0 where
  pub asked : reading.exchange.asked ≡ asked_by s
  pub channel : reading.reader.channel ≡ s.channel
  pub from : reading.reader.from ≡ s.from
  pub begun : rank reading.exchange.place ≡ 4
  pub head : head_of reading.exchange.place ≡ Some reading.reader.head
  pub unrefused : IsOpen reading.reader

-- the page that was given was read of an answer
pub record IsAnswered (s : SoughtView) (page : Page) : Type 0 where
  pub head : Response
  pub content : List ℕ
  pub is : IsPageOf head content s.channel s.from page

abbrev pub IsGiven : SoughtView → Last → Type 0
IsGiven s (last.Got page) = IsAnswered s page.value
IsGiven s (last.Failed fault) = ⊤
IsGiven s last.NoMemory = ⊤

abbrev pub IsKept : SoughtView → Stage → Type 0
IsKept s (Unbegun unbegun) = KeepsAll s unbegun
IsKept s (Heading heading) = AsksHead s heading
IsKept s (Reading reading) = AsksContent s reading
IsKept s (Over over) = IsGiven s over.last
IsKept s Lost = ⊤

-- ---- the cause of an answer

-- a page comes at the end of the response, a wait has its count by what is waited for, and a fault of the talk is the exchange's
abbrev pub Gives : Place → Place → DialTells → DialTells → Recovered → Type 0
Gives was is old now (Got page) = IsOverBy ended.End is
Gives was is old now NotReady = (rank was ≤ rank is) × Waits is old now
Gives was is old now (Failed (Exchange fault)) = IsOverBy (ended.Fault fault) is × FaultRises fault was old now
Gives was is old now (Failed (Code code)) = ⊤
Gives was is old now (Failed Instruct) = ⊤
Gives was is old now (Failed Channel) = ⊤
Gives was is old now (Failed TooLong) = ⊤
Gives was is old now NoMemory = ⊤

-- nothing changes, and the dialer isn't called
pub record Stays (was is : RecoveryView) (old now : DialTells) (recovered answer : Recovered) : Type 0 where
  pub same : is ≡ was
  pub dial : now ≡ old
  pub answers : recovered ≡ answer

abbrev pub StaysBy : Stage → RecoveryView → RecoveryView → DialTells → DialTells → Recovered → Type 0
StaysBy (Unbegun unbegun) was is old now recovered = ⊤
StaysBy (Heading heading) was is old now recovered = ⊤
StaysBy (Reading reading) was is old now recovered = ⊤
StaysBy (Over over) was is old now recovered = Stays was is old now recovered (again over.last)
StaysBy Lost was is old now recovered = Stays was is old now recovered NoMemory

-- once the recovery is over, it stays so
abbrev pub StaysOver : RecoveryView → RecoveryView → DialTells → DialTells → Recovered → Type 0
StaysOver was is old now recovered = StaysBy was.stage was is old now recovered

-- ---- where moves lead

-- a recovery whose exchange was at a place, and had given so much content
pub record Leads (s : SoughtView) (was : Place) (given : List ℕ) (old now : DialTells) (next : Next) : Type 0 where
  pub kept : IsKept s next.stage
  pub later : DialLater old now
  pub answers : next.recovered ≡ answer_at next.stage
  pub gives : Gives was (place_at s next.stage) old now next.recovered
  pub marked : Marked was (place_at s next.stage) old now
  pub stands : (before : List Talk) → StandsAt (asked_by s) before given was old.talks → IfSome now.talks (IsAt s before next.stage)

pub record Again (stage : Stage) (recovered : Recovered) (old now : DialTells) (next : Next) : Type 0 where
  pub same : next.stage ≡ stage
  pub answers : next.recovered ≡ recovered
  pub dial : now ≡ old

abbrev pub Goes : SoughtView → Stage → DialTells → DialTells → Next → Type 0
Goes s (Unbegun unbegun) old now next = Leads s (place_at s (Unbegun unbegun)) (content_at (Unbegun unbegun)) old now next
Goes s (Heading heading) old now next = Leads s (place_at s (Heading heading)) (content_at (Heading heading)) old now next
Goes s (Reading reading) old now next = Leads s (place_at s (Reading reading)) (content_at (Reading reading)) old now next
Goes s (Over over) old now next = Again (Over over) (again over.last) old now next
Goes s Lost old now next = Again Lost NoMemory old now next

-- ---- steps

-- a poll of the exchange
pub record Polls (x y : ExchangeView) (old now : DialTells) (progress : Progress) : Type 0 where
  pub asked : y.asked ≡ x.asked
  pub later : DialLater old now
  pub gives : ExchangeGives x.place y.place old now progress
  pub marked : Marked x.place y.place old now
  pub heads : head_of y.place ≡ head_after (head_of x.place) progress
  pub stands : (before : List Talk) (given : List ℕ) → ExchangeStands before given x old → ExchangeStands before (given ++ part_of progress) y now

-- the end of a recovery, with the exchange as it was
pub record IsEnd (x : ExchangeView) (last : Last) (next : Next) : Type 0 where
  pub over : Ending
  pub stage : next.stage ≡ Over over
  pub ends : over.last ≡ last
  pub exchange : over.exchange.value ≡ x
  pub recovered : next.recovered ≡ told last

abbrev pub IsRefusal : ExchangeView → Unread → Next → Type 0
IsRefusal x (unread.Refused fault) next = IsEnd x (last.Failed fault) next
IsRefusal x unread.NoMemory next = IsEnd x last.NoMemory next

-- the head was given just now
pub record IsHeaded (s : SoughtView) (heading : HeadHeading) (head : Response) : Type 0 where
  pub asked : heading.exchange.asked ≡ asked_by s
  pub channel : heading.channel ≡ s.channel
  pub from : heading.from ≡ s.from
  pub reads : ReadsBodyOf head heading.exchange.place

-- a part is added, or the talk is hung up since it refuses the page
pub record AddsPart (was is : BodyReading) (part : List ℕ) (old now : DialTells) : Type 0 where
  pub exchange : is.exchange ≡ was.exchange
  pub reader : is.reader ≡ record was.reader { content = was.reader.content ++ part }
  pub unrefused : IsOpen is.reader
  pub dial : now ≡ old

pub record RefusesPart (was : BodyReading) (part : List ℕ) (old now : DialTells) (next : Next) : Type 0 where
  pub unread : Unread
  pub refusal : IsRefusal was.exchange unread next
  pub cause : IsUnread was.reader.head (was.reader.content ++ part) was.reader.channel was.reader.from unread
  pub dial : now ≡ after_hang_up old

abbrev pub Adds : BodyReading → List ℕ → DialTells → DialTells → Gathered → Type 0
Adds was part old now (gathered.More is) = AddsPart was is part old now
Adds was part old now (gathered.Next next) = RefusesPart was part old now next

-- the page of the whole content, or why it is none
abbrev pub IsFound : BodyReading → Last → Type 0
IsFound r (last.Got page) = IsPageOf r.reader.head r.reader.content r.reader.channel r.reader.from page.value
IsFound r (last.Failed fault) = IsFaultOf r.reader.head r.reader.content r.reader.channel r.reader.from fault
IsFound r last.NoMemory = ⊤

pub record Finishes (was : BodyReading) (next : Next) : Type 0 where
  pub last : Last
  pub ends : IsEnd was.exchange last next
  pub found : IsFound was last

-- from a place, with so much content given, to another at which the talk goes on
pub record On (s : SoughtView) (was : Place) (given : List ℕ) (old : DialTells) (is : Place) (content : List ℕ) (now : DialTells) : Type 0 where
  pub later : DialLater old now
  pub onward : rank was ≤ rank is
  pub goes_on : rank is < 5
  pub stands : (before : List Talk) → StandsAt (asked_by s) before given was old.talks → StandsAt (asked_by s) before content is now.talks

-- a part more has come
pub record GathersOn (s : SoughtView) (was : Place) (given : List ℕ) (old now : DialTells) (is : BodyReading) : Type 0 where
  pub on : On s was given old is.exchange.place is.reader.content now
  pub kept : AsksContent s is
  pub more : length given < length is.reader.content

abbrev pub Gathers : SoughtView → Place → List ℕ → DialTells → DialTells → Gathered → Type 0
Gathers s was given old now (gathered.More is) = GathersOn s was given old now is
Gathers s was given old now (gathered.Next next) = Leads s was given old now next
