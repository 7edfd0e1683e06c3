use Rattle.std.proofs.Common.{ap, ◌∙◌, subst, sym}
use Rattle.gp_session_recover.specs.Rows.{IsLiveTalk, RecoveringView, SeeksOpen}
use Rattle.gp_session_recover.proofs.Advancing.{sought_open}
use Rattle.gp_session_recover.proofs.recovering.Recovering.seek.Goals as goal

pub go_on-requires-clause-live : goal.go_on-requires-clause-live
go_on-requires-clause-live g c = subst IsLiveTalk (sym c.in-Open.ensures.is) c.requires

pub returns-in-Open : goal.returns-in-Open
returns-in-Open g c =
    sought_open c.args.self.now c.go_on.new.self c.args.line.now c.go_on.new.line c.go_on.result c.in-Open.open (sym c.in-Open.ensures.is) (c.go_on.ensures.stream ∙ ap (λ (v : RecoveringView). v.stream) c.in-Open.ensures.none) c.go_on.ensures.moved
    (subst (λ (v : RecoveringView). SeeksOpen c.in-Open.open v c.go_on.new.self c.args.line.now c.go_on.new.line c.go_on.result) c.in-Open.ensures.none c.go_on.ensures.says)
