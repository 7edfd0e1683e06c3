use Rattle.std.specs.Prelude.{◌-◌, length}
use Rattle.gp_session_http.specs.Views.{Moved}
use Rattle.gp_session_http.specs.Trace.{Told}
use Rattle.gp_session_http.specs.declared.stage.Stage.TheVariants as stage
use Rattle.gp_session_http.proofs.gathering.Gathering.advance.Given as goal

abbrev pub invariant-loop-next : goal.invariant-loop-next
invariant-loop-next g l = record { moved : Moved l.fn.live l.live; told : Told l.live (stage.Gathering l.stage) }

abbrev pub decreases-loop-next : goal.decreases-loop-next
decreases-loop-next g l = 524289 - length l.stage.content
