-- What contracts see of a session's ends.
use Rattle.std.specs.Prelude.{◌≡◌}
use Rattle.gp_plain.specs.Roomy.{Roomy}
use Rattle.gp_plain.specs.declared.reply.HoldReport.{HoldReport}
use Rattle.gp_session.specs.Wires.{WireView, MovedWire}
use Rattle.gp_session.specs.Lines.{LineView, MovedLine}
use Rattle.gp_session.specs.Watches.{WatchView, MovedWatch}
use Rattle.gp_session.specs.Seats.{SeatView, MovedSeat}
use Rattle.gp_session_http.specs.Routing.{Charter}

pub record LiveView : Type 0 where
  pub wire : WireView
  pub line : LineView
  pub watch : WatchView
  pub seat : SeatView
  pub charter : Charter
  pub reports : Roomy HoldReport

-- what every move keeps that keeps no hold: how the session began, what it was made with, that no count fell, that nothing that was said is
-- taken back, that the clock is asked where the poll has no moment yet, and the reports
pub record Moved (v w : LiveView) : Type 0 where
  pub wire : MovedWire v.wire w.wire
  pub line : MovedLine v.line w.line
  pub watch : MovedWatch v.watch w.watch
  pub seat : MovedSeat v.seat w.seat
  pub charter : w.charter ≡ v.charter
  pub reports : w.reports.items ≡ v.reports.items

-- and what a move keeps by which a hold is attached, taken of or let go
pub record Goes (v w : LiveView) : Type 0 where
  pub wire : MovedWire v.wire w.wire
  pub line : MovedLine v.line w.line
  pub watch : MovedWatch v.watch w.watch
  pub seat : MovedSeat v.seat w.seat
  pub charter : w.charter ≡ v.charter
