use Rattle.gp_session_http.proofs.Turning.{SoFar, phase_rank}
use Rattle.gp_session_http.proofs.session.advance.Given as goal

abbrev pub invariant-loop-phase : goal.invariant-loop-phase
invariant-loop-phase g l = record { so_far : SoFar (record { live = l.fn.live; phase = l.fn.phase }) l.live l.phase }

abbrev pub decreases-loop-phase : goal.decreases-loop-phase
decreases-loop-phase g l = phase_rank l.live l.phase
