-- What a Detach does to the rows of a session's holds.
use Rattle.std.proofs.Common.{◌≡◌, Bool, List, refl, Option}
use Rattle.gp_plain.specs.declared.event.HoldSpec.{HoldSpec}
use Rattle.gp_plain.specs.declared.reply.HoldReport.{HoldReport}
use Rattle.gp_plain.specs.Others.{Share}
use Rattle.gp_session.specs.Seats.{SeatView}
use Rattle.gp_session.specs.Holding.{LetsGo}
use Rattle.gp_session.specs.declared.holding.LetGo.{LetGo}
use Rattle.gp_session.specs.declared.holding.LetGo.TheVariants.{Gone, Busy, Worn}
use Rattle.gp_session_hold.specs.Rows.{KeptView, IsKept, kept, HoldsRow, OwnRow, AttachRow}
use Rattle.gp_session_hold.specs.Leaves.{LeavesEntries, LeavesHold, last_let_go}
use Rattle.gp_session_hold.proofs.Rowing.{kept_same, holds_same, entries_same, attaches_same, holds_gone, entries_gone, attaches_gone}

module _ (s t : SeatView) (number : t.pass.number ≡ s.pass.number) (hold : KeptView) where
  pub leaves_by : (answer : LetGo) (share : Share) → LetsGo s t hold.number answer → IsKept s hold share → LeavesHold t hold share answer
  leaves_by Gone share a k = record { there = a.served.share share k.there; released = refl; told_is = k.untold; counted = k.counted }
  leaves_by Busy share a k = kept_same s t number a.seen hold share k
  leaves_by Worn share a k = kept_same s t number a.seen hold share k

  pub holds_by : (answer : LetGo) (reports : List HoldReport) → LetsGo s t hold.number answer → HoldsRow s reports (kept hold) → HoldsRow t reports (last_let_go hold answer)
  holds_by Gone reports a row = holds_gone s t number hold a.served reports row
  holds_by Busy reports a row = holds_same s t number a.seen reports (kept hold) row
  holds_by Worn reports a row = holds_same s t number a.seen reports (kept hold) row

  pub entries_by : (answer : LetGo) (share : Share) → LetsGo s t hold.number answer → IsKept s hold share → (paged : Bool) → OwnRow paged s → LeavesEntries paged t hold.number answer
  entries_by Gone share a k paged row = entries_gone s t number hold a.served share k paged row
  entries_by Busy share a k paged row = entries_same s t number a.seen paged row
  entries_by Worn share a k paged row = entries_same s t number a.seen paged row

  pub attaches_by : (answer : LetGo) (specs : List HoldSpec) (refused : Option HoldSpec) → LetsGo s t hold.number answer → AttachRow s specs refused → AttachRow t specs refused
  attaches_by Gone specs refused a row = attaches_gone s t number hold a.served specs refused row
  attaches_by Busy specs refused a row = attaches_same s t number a.seen specs refused row
  attaches_by Worn specs refused a row = attaches_same s t number a.seen specs refused row
