-- What a session says of its link, its dialer, its clock and its pass after every move, row by row. All is said since the session
-- began.
use Rattle.std.specs.Prelude.{◌≡◌, ℕ, zero, suc, ◌≤◌, ◌⊎◌, true, false, List, [], ◌++◌, length, Option, Some, None, ⊤}
use Rattle.gp_plain.specs.declared.reply.EndCause.{EndCause}
use Rattle.gp_plain.specs.declared.reply.EndCause.TheVariants.{Closed, Detached, Gap, Unrecovered, Overflow, Answered, Retry, TimedOut}
use Rattle.gp_plain.specs.Roomy.{roomy}
use Rattle.gp_outside.specs.Counts.{Rose}
use Rattle.gp_outside.specs.Clocks.{ClockTells}
use Rattle.gp_outside.specs.Dials.{DialTells, DialLater}
use Rattle.gp_outside.specs.Links.{LinkTells, LinkLater}
use Rattle.gp_answer.specs.declared.refusal.Refusal.TheVariants.{BadGateway}
use Rattle.gp_hub.specs.Passes.{HubView}
use Rattle.gp_exchange.specs.Views.{ExchangeView}
use Rattle.gp_exchange.specs.Answers.{rank, head_of, IsOverBy}
use Rattle.gp_exchange.specs.declared.answer.ExchangeFault.{ExchangeFault}
use Rattle.gp_exchange.specs.declared.answer.ExchangeFault.TheVariants.{Dial}
use Rattle.gp_exchange.specs.declared.answer.Last.TheVariants as last
use Rattle.gp_intake.specs.Heads.{IsBegun}
use Rattle.gp_intake.specs.Requests.{IsHeaded}
use Rattle.gp_session.specs.Wires.{RequestRow, BytesRow, exactly, new_wire}
use Rattle.gp_session.specs.Lines.{LineView, Last, idle, speaking, hung, new_line}
use Rattle.gp_session.specs.Watches.{WatchView, WatchRow, new_watch}
use Rattle.gp_session.specs.Seats.{SeatRow, IsServed as IsHubServed, new_seat}
use Rattle.gp_session_http.specs.declared.asked.Asked.{Asked}
use Rattle.gp_session_http.specs.declared.passed.Passed.{Passed}
use Rattle.gp_session_http.specs.declared.gathering.Gathering.{Gathering as GatheringStage}
use Rattle.gp_session_http.specs.declared.stage.Stage.{Stage}
use Rattle.gp_session_http.specs.declared.stage.Stage.TheVariants.{ReadingHead, ReadingBody, Refusing, Asking, Gathering, Giving, Failing, Passing, Finishing}
use Rattle.gp_session_http.specs.Routing.{Charter, IsRouted, IsServed, IsRefusedFor, refusal_of, refusal_text}
use Rattle.gp_session_http.specs.Asking.{IsAskedFor, ExpectsHead, HasGatheredHead, FailsBy}
use Rattle.gp_session_http.specs.Wishes.{most_gathered, IsWish}
use Rattle.gp_session_http.specs.Givings.{code_given, given_text}
use Rattle.gp_session_http.specs.declared.giving.Giving.{Giving as GivingStage}
use Rattle.gp_session_http.specs.declared.grant.Wish.TheVariants.{Whole}
use Rattle.gp_instruct_json.specs.Answers.{IsAnswer}
use Rattle.gp_plain.specs.declared.http.Response.{Response as HttpResponse}
use Rattle.gp_session_http.specs.Passing.{asked_of, origin_head, has_no_body, IsPassedOn, ArePartsOf, passed_text}
use Rattle.gp_session_http.specs.Turns.{PastOf}
use Rattle.gp_session_http.specs.Views.{LiveView}

abbrev pub new_live : LinkTells → DialTells → ClockTells → HubView → Charter → LiveView
new_live link dial clock pass charter = record { wire = new_wire link; line = new_line dial; watch = new_watch clock; seat = new_seat pass; charter = charter; reports = roomy [] 0 }

-- of the bytes received a beginning is so, and the rest isn't used
pub record BeginsWith (Is : List ℕ → Type 0) (received : List ℕ) : Type 0 where
  pub used : List ℕ
  pub unused : List ℕ
  pub split : received ≡ used ++ unused
  pub is : Is used

-- a client may have sent more behind its request while a long poll waited
abbrev pub HeardAs : ℕ → (List ℕ → Type 0) → List ℕ → Type 0
HeardAs zero Is received = Is received
HeardAs (suc n) Is received = BeginsWith Is received

-- Row: the request. What the bytes received are.
abbrev pub Serves : Charter → Asked → List ℕ → Type 0
Serves c asked received = HeardAs asked.repeats (IsServed c.rules asked.request asked.address) received

abbrev pub Asks : Charter → Stage → List ℕ → Type 0
Asks c (ReadingHead s) received = (received ≡ s.intake) × IsBegun received
Asks c (ReadingBody s) received = IsHeaded s.intake received × IsRouted c.rules s.intake.head s.intake.path s.address
Asks c (Refusing s) received = IsRefusedFor c.rules s.cause s.method.value received
Asks c (Asking s) received = Serves c s.asked received
Asks c (Gathering s) received = Serves c s.asked received
Asks c (Giving s) received = Serves c s.asked.value received
Asks c (Failing s) received = Serves c s.asked.value received
Asks c (Passing s) received = Serves c (asked_of s.passed) received
Asks c (Finishing s) received = Serves c (asked_of s.passed) received

-- what was asked of the origin
abbrev pub asked_in : Stage → Option Asked
asked_in (ReadingHead s) = None
asked_in (ReadingBody s) = None
asked_in (Refusing s) = None
asked_in (Asking s) = Some s.asked
asked_in (Gathering s) = Some s.asked
asked_in (Giving s) = Some s.asked.value
asked_in (Failing s) = Some s.asked.value
asked_in (Passing s) = Some (asked_of s.passed)
asked_in (Finishing s) = Some (asked_of s.passed)

-- Rows: the talks, the entries, the attaches and the holds, behind the turns before. The last exchange, with the content that it has
-- given.
abbrev pub last_of : Stage → List ℕ → Last
last_of (ReadingHead s) given = idle
last_of (ReadingBody s) given = idle
last_of (Refusing s) given = idle
last_of (Asking s) given = speaking (record { exchange = s.exchange; given = [] })
last_of (Gathering s) given = speaking (record { exchange = s.exchange; given = given })
last_of (Giving s) given = hung (record { exchange = s.exchange.value; given = given })
last_of (Failing s) given = hung (record { exchange = s.exchange.value; given = given })
last_of (Passing s) given = speaking (record { exchange = s.exchange; given = given })
last_of (Finishing s) given = hung (record { exchange = s.exchange.value; given = given })

-- the talk's address and request are those of what was asked, with the token of its moment
abbrev pub HasAim : Charter → Stage → Type 0
HasAim c (ReadingHead s) = ⊤
HasAim c (ReadingBody s) = ⊤
HasAim c (Refusing s) = ⊤
HasAim c (Asking s) = IsAskedFor c.signer s.asked s.exchange.asked
HasAim c (Gathering s) = IsAskedFor c.signer s.asked s.exchange.asked
HasAim c (Giving s) = IsAskedFor c.signer s.asked.value s.exchange.value.asked
HasAim c (Failing s) = IsAskedFor c.signer s.asked.value s.exchange.value.asked
HasAim c (Passing s) = IsAskedFor c.signer (asked_of s.passed) s.exchange.asked
HasAim c (Finishing s) = IsAskedFor c.signer (asked_of s.passed) s.exchange.value.asked

-- a response that is passed on, whose body goes on
pub record IsPassing (p : Passed) (x : ExchangeView) : Type 0 where
  pub reading : rank x.place ≡ 4
  pub head : head_of x.place ≡ Some (origin_head p)
  pub on : IsPassedOn p
  pub body : has_no_body p ≡ false

-- a fault of the talk; the dialer's comes only where its faults rose
pub record IsCutOff (l : LineView) (x : ExchangeView) : Type 0 where
  pub fault : ExchangeFault
  pub over : IsOverBy (last.Fault fault) x.place
  pub rises : fault ≡ Dial → Rose l.start.faults l.dial.faults

-- such a response has ended: whole, or, where no body is sent, with its head; or it was cut by a fault of the talk
abbrev pub HasEndedBy : EndCause → LineView → Passed → ExchangeView → Type 0
HasEndedBy Closed l p x = IsOverBy last.End x.place ⊎ (has_no_body p ≡ true)
HasEndedBy Unrecovered l p x = IsCutOff l x
HasEndedBy Detached l p x = ⊥
HasEndedBy Gap l p x = ⊥
HasEndedBy Overflow l p x = ⊥
HasEndedBy Answered l p x = ⊥
HasEndedBy Retry l p x = ⊥
HasEndedBy TimedOut l p x = ⊥

pub record IsPassedBy (l : LineView) (p : Passed) (x : ExchangeView) (cause : EndCause) (parts : List (List ℕ)) : Type 0 where
  pub head : head_of x.place ≡ Some (origin_head p)
  pub on : IsPassedOn p
  pub ended : HasEndedBy cause l p x
  pub bare : has_no_body p ≡ true → parts ≡ []

-- the body of an answer is gathered, which isn't too long so far
pub record IsGathering (s : GatheringStage) (given : List ℕ) : Type 0 where
  pub reading : rank s.exchange.place ≡ 4
  pub has : HasGatheredHead s.asked.request.head.method s.exchange s.head
  pub content : s.content ≡ given
  pub short : length given ≤ most_gathered s.head

-- such a body was read whole, and asks for no hold
pub record IsGiving (s : GivingStage) (given : List ℕ) : Type 0 where
  pub head : HttpResponse
  pub has : HasGatheredHead s.asked.value.request.head.method s.exchange.value head
  pub over : IsOverBy last.End s.exchange.value.place
  pub read : IsAnswer head given s.answer.value
  pub wish : IsWish s.answer.value Whole
  pub code : s.code ≡ code_given s.answer.value

-- what the exchange has come to
abbrev pub IsAt : LineView → Stage → List ℕ → List (List ℕ) → Type 0
IsAt l (ReadingHead s) given parts = ⊤
IsAt l (ReadingBody s) given parts = ⊤
IsAt l (Refusing s) given parts = ⊤
IsAt l (Asking s) given parts = ExpectsHead s.exchange
IsAt l (Gathering s) given parts = IsGathering s given
IsAt l (Giving s) given parts = IsGiving s given
IsAt l (Failing s) given parts = FailsBy l s.asked.value.request.head.method s.exchange.value given s.why
IsAt l (Passing s) given parts = IsPassing s.passed s.exchange
IsAt l (Finishing s) given parts = IsPassedBy l s.passed s.exchange.value s.cause parts

-- Row: the bytes. What was sent, followed by what waits, where the parts of a body were these.
abbrev pub text_of : Stage → List (List ℕ) → List ℕ
text_of (ReadingHead s) parts = []
text_of (ReadingBody s) parts = []
text_of (Refusing s) parts = refusal_text (refusal_of s.cause) s.method.value
text_of (Asking s) parts = []
text_of (Gathering s) parts = []
text_of (Giving s) parts = given_text s.answer.value
text_of (Failing s) parts = refusal_text BadGateway s.asked.value.request.head.method
text_of (Passing s) parts = passed_text s.passed parts None
text_of (Finishing s) parts = passed_text s.passed parts (Some s.cause)

-- Row: the times. The moment that was used, where one was.
abbrev pub moment_of : Stage → Option ℕ
moment_of (ReadingHead s) = None
moment_of (ReadingBody s) = None
moment_of (Refusing s) = None
moment_of (Asking s) = Some s.asked.moment
moment_of (Gathering s) = Some s.asked.moment
moment_of (Giving s) = Some s.asked.value.moment
moment_of (Failing s) = Some s.asked.value.moment
moment_of (Passing s) = Some (asked_of s.passed).moment
moment_of (Finishing s) = Some (asked_of s.passed).moment

-- the clock wasn't asked; or it was, in this session, and this is its last answer
pub record IsUnasked (w : WatchView) : Type 0 where
  pub clock : w.clock ≡ w.start
  pub moment : w.moment ≡ None

pub record WasAsked (w : WatchView) (now : ℕ) : Type 0 where
  pub last : w.clock.last ≡ now
  pub calls : Rose w.start.calls w.clock.calls
  pub row : WatchRow w

abbrev pub TimesRow : WatchView → Option ℕ → Type 0
TimesRow w None = IsUnasked w
TimesRow w (Some now) = WasAsked w now

-- Row: what no move of a session changes.
pub record Stays (l : LiveView) : Type 0 where
  pub seat : SeatRow l.seat
  pub served : IsHubServed l.seat
  pub links : LinkLater l.wire.start l.wire.link
  pub dials : DialLater l.line.start l.line.dial

pub record Told (l : LiveView) (stage : Stage) : Type 0 where
  pub given : List ℕ
  pub parts : List (List ℕ)
  pub cut : ArePartsOf parts given
  pub request : RequestRow l.wire (Asks l.charter stage)
  pub talks : PastOf l.line l.charter l.seat l.reports.items (asked_in stage) (last_of stage given)
  pub aim : HasAim l.charter stage
  pub at : IsAt l.line stage given parts
  pub bytes : BytesRow l.wire (exactly (text_of stage parts))
  pub times : TimesRow l.watch (moment_of stage)
  pub stays : Stays l
