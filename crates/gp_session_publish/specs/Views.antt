-- What contracts see of a session's ends.
use Rattle.gp_session.specs.Wires.{WireView, MovedWire}
use Rattle.gp_session.specs.Seats.{SeatView, MovedSeat}

pub record LiveView : Type 0 where
  pub wire : WireView
  pub seat : SeatView

-- what every move keeps
pub record Moved (v w : LiveView) : Type 0 where
  pub wire : MovedWire v.wire w.wire
  pub seat : MovedSeat v.seat w.seat
