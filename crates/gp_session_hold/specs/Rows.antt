-- What a session says of its holds, row by row. A session's holds are those that its pass attached, in order.
use Rattle.std.specs.Prelude.{ℕ, ◌≡◌, Bool, true, false, List, [], ◌∷◌, ◌++◌, map, All, Option, Some, None, option_map, ⊤}
use Rattle.std.specs.Option.{option_map_or, option_to_list}
use Rattle.std.specs.List.{flat_map, Contains}
use Rattle.gp_plain.specs.declared.event.Entry.{Entry}
use Rattle.gp_plain.specs.declared.event.Event.{Event}
use Rattle.gp_plain.specs.declared.event.Event.TheVariants.{Attach, Publish, Take, Page, PageFailed, Push, Join, Leave, Detach}
use Rattle.gp_plain.specs.declared.event.HoldSpec.{HoldSpec}
use Rattle.gp_plain.specs.declared.reply.EndCause.{EndCause}
use Rattle.gp_plain.specs.declared.reply.HoldReport.{HoldReport}
use Rattle.gp_plain.specs.declared.reply.Piece.{Piece}
use Rattle.gp_plain.specs.Pieces.{piece_bytes}
use Rattle.gp_plain.specs.History.{held}
use Rattle.gp_plain.specs.Others.{Share, share_at, shares}
use Rattle.gp_plain.specs.Reports.{TallyView, tally_of, report}
use Rattle.gp_hub.specs.Own.{mine}
use Rattle.gp_hub.specs.Passes.{entry_of}
use Rattle.gp_session.specs.Seats.{SeatView}
use Rattle.gp_session.specs.Wires.{WireView, BytesRow, exactly}
use Rattle.gp_answer.specs.Frames.{frame}

abbrev pub holds_of : SeatView → List (ℕ × Share)
holds_of s = shares s.pass.number s.pass.seen

abbrev pub share_of_hold : SeatView → ℕ → Option Share
share_of_hold s number = share_at (held s.pass.seen) number

-- a hold that a session has: its number, and what was counted of it
pub record KeptView : Type 0 where
  pub number : ℕ
  pub tally : TallyView

-- what was counted of a hold is what was taken of it
abbrev pub IsCounted : KeptView → Share → Type 0
IsCounted hold share = hold.tally ≡ tally_of share.spec share.taken

-- the session keeps the hold: its pass attached it, and its end wasn't told
pub record IsKept (s : SeatView) (hold : KeptView) (share : Share) : Type 0 where
  pub there : share_of_hold s hold.number ≡ Some share
  pub own : share.owner ≡ s.pass.number
  pub kept : share.released ≡ false
  pub untold : share.told ≡ None
  pub counted : IsCounted hold share

-- the hold was let go, and this end of it was told, where one was
pub record IsOver (s : SeatView) (hold : KeptView) (told : Option EndCause) (share : Share) : Type 0 where
  pub there : share_of_hold s hold.number ≡ Some share
  pub released : share.released ≡ true
  pub told_is : share.told ≡ told
  pub counted : IsCounted hold share

-- the last hold of a session: there is none that wasn't reported, or it is kept, or it is over and isn't reported yet
pub data LastHold : Type 0 where
  none : LastHold
  kept : KeptView → LastHold
  over : KeptView → Option EndCause → LastHold

abbrev pub reports_of : List (ℕ × Share) → List HoldReport
reports_of holds = map (λ (h : ℕ × Share). report h.0 h.1) holds

abbrev pub IsReleased : ℕ × Share → Type 0
IsReleased h = h.1.released ≡ true

-- behind the holds that are done stands one more, of this number, and it is so
pub record HasLast (s : SeatView) (done : List (ℕ × Share)) (number : ℕ) (Is : Share → Type 0) : Type 0 where
  pub share : Share
  pub all : holds_of s ≡ done ++ (number, share) ∷ []
  pub is : Is share

abbrev pub StandsLast : SeatView → List (ℕ × Share) → LastHold → Type 0
StandsLast s done none = holds_of s ≡ done
StandsLast s done (kept hold) = HasLast s done hold.number (IsKept s hold)
StandsLast s done (over hold told) = HasLast s done hold.number (IsOver s hold told)

-- Row: the holds. All but the last were let go, and these are the reports of them, in order
pub record HoldsRow (s : SeatView) (reports : List HoldReport) (last : LastHold) : Type 0 where
  pub done : List (ℕ × Share)
  pub reported : reports ≡ reports_of done
  pub released : All IsReleased done
  pub stands : StandsLast s done last

abbrev pub numbers_of : List (ℕ × Share) → List ℕ
numbers_of holds = map (λ (h : ℕ × Share). h.0) holds

-- an event that a session makes: an Attach, and a Take of a hold of its own; and, where it may bring pages, a page for a hold of its own, or
-- the news that it can't be had
abbrev pub IsOwnEvent : Bool → List ℕ → Event → Type 0
IsOwnEvent paged numbers (Attach spec) = ⊤
IsOwnEvent paged numbers (Publish item) = ⊥
IsOwnEvent paged numbers (Take hold now) = Contains numbers hold
IsOwnEvent paged numbers (Page hold from to bytes then) = (paged ≡ true) × Contains numbers hold
IsOwnEvent paged numbers (PageFailed hold) = (paged ≡ true) × Contains numbers hold
IsOwnEvent paged numbers (Push hold message) = ⊥
IsOwnEvent paged numbers (Join hold channel) = ⊥
IsOwnEvent paged numbers (Leave hold channel) = ⊥
IsOwnEvent paged numbers (Detach hold) = ⊥

abbrev pub IsOwn : Bool → List ℕ → Entry → Type 0
IsOwn paged numbers entry = IsOwnEvent paged numbers entry.event

-- Row: the entries. The session made no others, and no Detach
abbrev pub OwnRow : Bool → SeatView → Type 0
OwnRow paged s = All (IsOwn paged (numbers_of (holds_of s))) (mine s.pass)

-- of a session that brings no pages
abbrev pub EntriesRow : SeatView → Type 0
EntriesRow s = OwnRow false s

-- and of one that may bring some
abbrev pub PagedRow : SeatView → Type 0
PagedRow s = OwnRow true s

-- Row: the entries, where the last is the Detach of a hold of its own
pub record DetachedRow (paged : Bool) (s : SeatView) (hold : ℕ) : Type 0 where
  pub before : List Entry
  pub all : mine s.pass ≡ before ++ entry_of s.pass.number (Detach hold) ∷ []
  pub own : All (IsOwn paged (numbers_of (holds_of s))) before
  pub hold_is : Contains (numbers_of (holds_of s)) hold

abbrev pub spec_in : Event → List HoldSpec
spec_in (Attach spec) = spec ∷ []
spec_in (Publish item) = []
spec_in (Take hold now) = []
spec_in (Page hold from to bytes then) = []
spec_in (PageFailed hold) = []
spec_in (Push hold message) = []
spec_in (Join hold channel) = []
spec_in (Leave hold channel) = []
spec_in (Detach hold) = []

-- what the Attach entries attach, in order
abbrev pub specs_in : List Entry → List HoldSpec
specs_in entries = flat_map (λ (entry : Entry). spec_in entry.event) entries

abbrev pub specs_of : List (ℕ × Share) → List HoldSpec
specs_of holds = map (λ (h : ℕ × Share). h.1.spec) holds

-- Row: the attaches. The session attached these, in order, and then at most one for which there was no place
pub record AttachRow (s : SeatView) (specs : List HoldSpec) (refused : Option HoldSpec) : Type 0 where
  pub made : specs_in (mine s.pass) ≡ specs ++ option_to_list refused
  pub holds : specs_of (holds_of s) ≡ specs

abbrev pub page_in : Event → List Event
page_in (Attach spec) = []
page_in (Publish item) = []
page_in (Take hold now) = []
page_in (Page hold from to bytes then) = Page hold from to bytes then ∷ []
page_in (PageFailed hold) = PageFailed hold ∷ []
page_in (Push hold message) = []
page_in (Join hold channel) = []
page_in (Leave hold channel) = []
page_in (Detach hold) = []

-- the pages that entries bring, and the news that one can't be had, in order
abbrev pub pages_in : List Entry → List Event
pages_in entries = flat_map (λ (entry : Entry). page_in entry.event) entries

-- Row: the pages. The session brought these, in order
abbrev pub PagesRow : SeatView → List Event → Type 0
PagesRow s pages = pages_in (mine s.pass) ≡ pages

-- the ids behind which Takes of a hold told that items are missing, in order
abbrev pub recovers_at : SeatView → ℕ → List (List ℕ)
recovers_at s number = option_map_or (λ (share : Share). share.recovers) (share_of_hold s number) []

-- with what a hold was attached
abbrev pub spec_at : SeatView → ℕ → Option HoldSpec
spec_at s number = option_map (λ (share : Share). share.spec) (share_of_hold s number)

-- what was taken of a hold, and the end of it that was told
abbrev pub taken_at : SeatView → ℕ → List Piece
taken_at s number = option_map_or (λ (share : Share). share.taken) (share_of_hold s number) []

abbrev pub told_at : SeatView → ℕ → Option EndCause
told_at s number = option_map_or (λ (share : Share). share.told) (share_of_hold s number) None

-- the text of a stream: its head, each piece that was taken in its framing, and the last chunk where its end told is a close
abbrev pub stream_text : Bool → List ℕ → List Piece → Option EndCause → List ℕ
stream_text chunked head taken told = frame chunked head (map piece_bytes taken) told

-- Row: the bytes of a stream. What was sent, followed by what waits, is its text
abbrev pub StreamRow : WireView → SeatView → ℕ → Bool → List ℕ → Type 0
StreamRow w s number chunked head = BytesRow w (exactly (stream_text chunked head (taken_at s number) (told_at s number)))
