use Rattle.gp_session_http.specs.Views.{Moved}
use Rattle.gp_session_http.specs.Trace.{Told}
use Rattle.gp_session_http.specs.Moves.{PassedOn}
use Rattle.gp_session_http.specs.declared.stage.Stage.TheVariants as stage
use Rattle.gp_session_http.proofs.passing.Passing.advance.Given as goal

abbrev pub invariant-loop-part : goal.invariant-loop-part
invariant-loop-part g l = record { moved : Moved l.fn.live l.live; told : Told l.live (stage.Passing l.stage); count : PassedOn l.fn.live l.live l.stage.passed.chunked l._part }
