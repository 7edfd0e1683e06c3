-- What a session leaves of its pass and its holds.
use Rattle.std.proofs.Common.{◌≡◌, ◌≢◌, List, Option, Some, None, ap, ◌∙◌, sym, subst, Bool, false, true, ◌⊎◌, inl, inr}
use Rattle.std.specs.List.{All}
use Rattle.gp_plain.specs.declared.reply.HoldReport.{HoldReport}
use Rattle.gp_hub.specs.declared.outcome.SessionEnd.{SessionEnd}
use Rattle.gp_hub.specs.declared.outcome.SessionEnd.TheVariants as end
use Rattle.gp_session.specs.Lines.{LineView, Last}
use Rattle.gp_session.specs.Seats.{SeatRow, SeatView}
use Rattle.gp_session_hold.specs.Rows.{IsReleased, EntriesRow, HoldsRow, none, holds_of, reports_of}
use Rattle.gp_session_hold.proofs.Rowing.{entries_none, holds_none}
use Rattle.gp_session_http.specs.declared.asked.Asked.{Asked}
use Rattle.gp_session_http.specs.declared.stage.Ended.{Ended}
use Rattle.gp_session_http.specs.Holding.{EntriesAtEnd, PollFinishes, StreamFinishes}
use Rattle.gp_session_http.specs.Moves.{hung_up}
use Rattle.gp_session_http.specs.Polls.{PhaseFinishes}
use Rattle.gp_session_http.specs.Routing.{Charter}
use Rattle.gp_session_http.specs.Trace.{asked_in, last_of}
use Rattle.gp_session_http.specs.Turns.{PastOf}
use Rattle.gp_session_http.specs.Views.{LiveView}

-- what was before a session that keeps no hold

past_holds : (l : LineView) (c : Charter) (s : SeatView) (reports : List HoldReport) (o : Option Asked) (last : Last) → PastOf l c s reports o last → HoldsRow s reports none
past_holds l c s reports None last h = subst (λ (items : List HoldReport). HoldsRow s items none) (sym h.reports_are) (holds_none s h.holds)
past_holds l c s reports (Some asked) last h = h.holds

past_entries : (l : LineView) (c : Charter) (s : SeatView) (reports : List HoldReport) (o : Option Asked) (last : Last) → PastOf l c s reports o last → EntriesRow s
past_entries l c s reports None last h = entries_none s h.entries
past_entries l c s reports (Some asked) last h = h.entries

at_end : (e : SessionEnd) (s : SeatView) → EntriesRow s → EntriesAtEnd false e s
at_end (end.Sent code) s row = row
at_end (end.Cut cause) s row = row
at_end end.ClientGone s row = inl row
at_end end.Worn s row = row
at_end end.NoMemory s row = inl row

-- the row of its pass
pub leaves_seat : (l : LiveView) (ended : Ended) → PhaseFinishes l ended → SeatRow l.seat
leaves_seat l ended (inl f) = f.told.stays.seat
leaves_seat l ended (inr f) = f.seat

-- its entries are Attaches, Takes and at most one Detach of holds of its own
pub leaves_entries : (l : LiveView) (ended : Ended) → PhaseFinishes l ended → (paged : Bool) × EntriesAtEnd paged ended.end l.seat
leaves_entries l ended (inl f) = (false, at_end ended.end l.seat (past_entries l.line l.charter l.seat l.reports.items (asked_in f.stage) (hung_up (last_of f.stage f.told.given)) f.told.talks))
leaves_entries l ended (inr f) = by_kind f.by
  where
    by_kind : StreamFinishes l ended ⊎ PollFinishes l ended → (paged : Bool) × EntriesAtEnd paged ended.end l.seat
    by_kind (inl s) = (true, s.entries)
    by_kind (inr p) = (false, p.entries)

free_holds : (l : LiveView) (ended : Ended) → PhaseFinishes l ended → (l.reports.items ≡ reports_of (holds_of l.seat)) × (ended.end ≢ end.Worn → All IsReleased (holds_of l.seat))
free_holds l ended (inl f) =
    let row = past_holds l.line l.charter l.seat l.reports.items (asked_in f.stage) (hung_up (last_of f.stage f.told.given)) f.told.talks in
    (row.reported ∙ ap reports_of (sym row.stands), λ _. subst (All IsReleased) (sym row.stands) row.released)
free_holds l ended (inr f) = (f.reported, f.released)

-- each hold was reported
pub leaves_reports : (l : LiveView) (ended : Ended) → PhaseFinishes l ended → l.reports.items ≡ reports_of (holds_of l.seat)
leaves_reports l ended f = (free_holds l ended f).0

-- and none is kept unless the hub serves no more
pub leaves_released : (l : LiveView) (ended : Ended) → PhaseFinishes l ended → ended.end ≢ end.Worn → All IsReleased (holds_of l.seat)
leaves_released l ended f = (free_holds l ended f).1
