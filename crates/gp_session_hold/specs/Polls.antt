-- Why a stream waits.
use Rattle.std.specs.Prelude.{ℕ, ◌≡◌, ◌≢◌, List, [], length}
use Rattle.gp_session.specs.Seats.{SeatView, Busied}
use Rattle.gp_session.specs.Wires.{WireView}
use Rattle.gp_session.specs.Causes.{ReadWaited, WriteWaited}
use Rattle.gp_session.specs.Hearing.{most_heard}
use Rattle.gp_session_hold.specs.Streams.{Gives, Idles}

-- each activity that is open has its cause: the client has sent no more; where bytes wait, the link took no more; and where none
-- do, the last Take gave nothing
pub record StreamWaits (number now : ℕ) (w x : WireView) (s t : SeatView) : Type 0 where
  pub hear : ReadWaited w x
  pub writes : x.rest ≢ [] → WriteWaited w x
  pub take : x.rest ≡ [] → Idles number now s t

-- why a stream waits
pub data StreamPends (number now : ℕ) (w x : WireView) (s t : SeatView) (heard : List ℕ) : Type 0 where
  busy : Busied s t → StreamPends number now w x s t heard
  gave : Gives number now s 16 t → StreamPends number now w x s t heard
  flooded : length heard ≡ most_heard → StreamPends number now w x s t heard
  waits : StreamWaits number now w x s t → StreamPends number now w x s t heard
