-- What an Attach does to the rows of a session's holds.
use Rattle.std.proofs.Common.{Bool, ◌≡◌, ◌<◌, ℕ, List, [], None}
use Rattle.gp_plain.specs.declared.event.HoldSpec.{HoldSpec}
use Rattle.gp_plain.specs.declared.reply.HoldReport.{HoldReport}
use Rattle.gp_plain.specs.Reports.{TallyView, tally_of}
use Rattle.gp_session.specs.Seats.{SeatView}
use Rattle.gp_session.specs.Holding.{AttachedTo}
use Rattle.gp_session.specs.declared.holding.Attached.{Attached}
use Rattle.gp_session.specs.declared.holding.Attached.TheVariants as attached
use Rattle.gp_session_hold.specs.Rows.{none, HoldsRow, OwnRow, AttachRow}
use Rattle.gp_session_hold.specs.Opens.{OpensTo, AttachesTo, last_opened, opened_by}
use Rattle.gp_session_hold.proofs.Rowing.{holds_same, entries_same, attaches_same, kept_new, holds_new, entries_new, attaches_new, holds_full, entries_full, attaches_full}

module _ (s t : SeatView) (number : t.pass.number ≡ s.pass.number) (spec : HoldSpec) (tally : TallyView) (counted : tally ≡ tally_of spec []) where
  pub opens_by : (room : ℕ) (answer : Attached) → 0 < room → AttachedTo s t spec answer → OpensTo s t spec room (opened_by tally answer)
  opens_by room (attached.Hold n) some a = record {
    served = a;
    counted = counted;
    is = kept_new s t number spec (record { number = n; tally = tally }) a.served counted;
    room_is = some;
  }
  opens_by room attached.Full some a = a
  opens_by room (attached.Busy back) some a = a
  opens_by room attached.Worn some a = a
  opens_by room attached.NoMemory some a = record { seen = a.seen; free = λ _. a.free }

  pub holds_by : (reports : List HoldReport) (answer : Attached) → AttachedTo s t spec answer → HoldsRow s reports none → HoldsRow t reports (last_opened (opened_by tally answer))
  holds_by reports (attached.Hold n) a row = holds_new s t number spec (record { number = n; tally = tally }) a.served reports counted row
  holds_by reports attached.Full a row = holds_full s t number spec a.served reports row
  holds_by reports (attached.Busy back) a row = holds_same s t number a.1.seen reports none row
  holds_by reports attached.Worn a row = holds_same s t number a.seen reports none row
  holds_by reports attached.NoMemory a row = holds_same s t number a.seen reports none row

  pub entries_by : (answer : Attached) → AttachedTo s t spec answer → (paged : Bool) → OwnRow paged s → OwnRow paged t
  entries_by (attached.Hold n) a paged row = entries_new s t number spec (record { number = n; tally = tally }) a.served paged row
  entries_by attached.Full a paged row = entries_full s t number spec a.served paged row
  entries_by (attached.Busy back) a paged row = entries_same s t number a.1.seen paged row
  entries_by attached.Worn a paged row = entries_same s t number a.seen paged row
  entries_by attached.NoMemory a paged row = entries_same s t number a.seen paged row

  pub attaches_by : (specs : List HoldSpec) (answer : Attached) → AttachedTo s t spec answer → AttachRow s specs None → AttachesTo t specs spec (opened_by tally answer)
  attaches_by specs (attached.Hold n) a row = attaches_new s t number spec (record { number = n; tally = tally }) a.served specs row
  attaches_by specs attached.Full a row = attaches_full s t number spec a.served specs row
  attaches_by specs (attached.Busy back) a row = attaches_same s t number a.1.seen specs None row
  attaches_by specs attached.Worn a row = attaches_same s t number a.seen specs None row
  attaches_by specs attached.NoMemory a row = attaches_same s t number a.seen specs None row
