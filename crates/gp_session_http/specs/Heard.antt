-- What a session says of its ends once its origin's answer asks for a hold: of a stream, or of a long poll. All is said since the session
-- began.
use Rattle.std.specs.Prelude.{◌≡◌, ℕ, List, [], ◌∷◌, ◌++◌, Some, None}
use mathlib.Core.List.{IsPrefix}
use Rattle.gp_plain.specs.Others.{Share}
use Rattle.gp_plain.specs.declared.event.HoldSpec.{HoldSpec}
use Rattle.gp_outside.specs.Counts.{Rose}
use Rattle.gp_outside.specs.Dials.{DialLater, IsIdle}
use Rattle.gp_outside.specs.Links.{LinkLater}
use Rattle.gp_answer.specs.declared.refusal.Refusal.TheVariants.{Unavailable}
use Rattle.gp_hub.specs.declared.outcome.SessionEnd.{SessionEnd}
use Rattle.gp_hub.specs.declared.outcome.SessionEnd.TheVariants.{ClientGone, NoMemory}
use Rattle.gp_instruct_json.specs.declared.answer.Answer.{Answer}
use Rattle.gp_exchange.specs.Views.{ExchangeView}
use Rattle.gp_session.specs.Lines.{Aim, Last, LineRow, LineView, aim_of, idle}
use Rattle.gp_session.specs.Seats.{SeatRow}
use Rattle.gp_session.specs.Watches.{WatchRow}
use Rattle.gp_session.specs.Wires.{RequestRow, BytesRow, exactly}
use Rattle.gp_session_hold.specs.Rows.{KeptView, none, holds_of, HoldsRow, EntriesRow, AttachRow}
use Rattle.gp_session_http.specs.declared.asked.Asked.{Asked}
use Rattle.gp_session_http.specs.declared.leaving.Parting.{Parting}
use Rattle.gp_session_http.specs.declared.leaving.Parting.TheVariants.{Gone, Wanting}
use Rattle.gp_session_http.specs.Routing.{IsServed, refusal_text}
use Rattle.gp_session_http.specs.Asking.{IsAskedFor}
use Rattle.gp_session_http.specs.Turns.{IsAnswerTo, Turn, Behind, aims_of, specs_before, AreHeld, reports_before}
use Rattle.gp_session_http.specs.Trace.{BeginsWith}
use Rattle.gp_session_http.specs.Views.{LiveView}

-- Rows: the request, the times and what no move changes. The request was whole, and was asked of the picked address, behind the turns
-- before; the talk is over, and this is its answer. What the client sends behind its request isn't used. The clock was asked, and the
-- moment of a poll is its last answer.
pub record Heard (l : LiveView) (asked : Asked) (x : ExchangeView) (answer : Answer) : Type 0 where
  pub content : List ℕ
  pub turns : List Turn
  pub request : RequestRow l.wire (BeginsWith (IsServed l.charter.rules asked.request asked.address))
  pub aim : IsAskedFor l.charter.signer asked x.asked
  pub behind : Behind l.charter turns asked
  pub held : AreHeld l.seat turns
  pub told : IsPrefix (reports_before turns) l.reports.items
  pub answers : IsAnswerTo asked x content answer
  pub calls : Rose l.watch.start.calls l.watch.clock.calls
  pub times : WatchRow l.watch
  pub seat : SeatRow l.seat
  pub links : LinkLater l.wire.start l.wire.link
  pub dials : DialLater l.line.start l.line.dial

-- the talks of the turns before, and that of the answer
abbrev pub aims_with : List Turn → ExchangeView → List ℕ → List Aim
aims_with turns x content = aims_of turns ++ aim_of (record { exchange = x; given = content }) ∷ []

-- Row: the talks. There were no others, and all are over
abbrev pub IsAlone : (l : LiveView) (asked : Asked) (x : ExchangeView) (answer : Answer) → Heard l asked x answer → Type 0
IsAlone l asked x answer h = IsIdle l.line.start → LineRow l.line (aims_with h.turns x h.content) idle

-- or there were others behind them
pub record BeginsTalks (l : LineView) (aims : List Aim) : Type 0 where
  pub more : List Aim
  pub last : Last
  pub row : IsIdle l.start → LineRow l (aims ++ more) last

-- Rows: the entries, the attaches and the holds. The session has made no entry for the answer
pub record IsUnattached (l : LiveView) (turns : List Turn) : Type 0 where
  pub entries : EntriesRow l.seat
  pub attaches : AttachRow l.seat (specs_before turns) None
  pub holds : HoldsRow l.seat l.reports.items none
  pub bytes : BytesRow l.wire (exactly [])

-- or its last Attach, of a hold that is asked for, made no hold
pub record IsDeclined (l : LiveView) (turns : List Turn) (Asks : HoldSpec → Type 0) : Type 0 where
  pub spec : HoldSpec
  pub spec_is : Asks spec
  pub entries : EntriesRow l.seat
  pub attaches : AttachRow l.seat (specs_before turns) (Some spec)
  pub holds : HoldsRow l.seat l.reports.items none

-- or it made one, the last; what became of this is said beside
pub record HasAttached (l : LiveView) (turns : List Turn) (Asks : HoldSpec → Type 0) : Type 0 where
  pub spec : HoldSpec
  pub spec_is : Asks spec
  pub attaches : AttachRow l.seat (specs_before turns ++ spec ∷ []) None

-- the refusal where as many holds are kept as may be; it isn't to HEAD
abbrev pub full_text : List ℕ
full_text = refusal_text Unavailable []

-- the last hold of the session has this number
pub record IsLastHold (l : LiveView) (hold : KeptView) : Type 0 where
  pub before : List (ℕ × Share)
  pub share : Share
  pub all : holds_of l.seat ≡ before ++ (hold.number, share) ∷ []

-- how a session ends that lets its hold go
abbrev pub end_of : Parting → SessionEnd
end_of Gone = ClientGone
end_of Wanting = NoMemory
