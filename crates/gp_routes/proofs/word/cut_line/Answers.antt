use Rattle.std.proofs.Common.{arith}
use Rattle.gp_routes.proofs.LineLemmas.{cut_last, cut_returned, cut_plain}
use Rattle.gp_routes.proofs.word.cut_line.Goals as goal
use Rattle.gp_routes.proofs.word.cut_line.Goals.{else-end-gt0-via-then-end-gt0+else-text-end-eq13, else-end-gt0-via-else-end-gt0}

pub returns-then-end-text-clause-line : goal.returns-then-end-text-clause-line
returns-then-end-text-clause-line c =
    cut_last c.args.text.now c.place_of-end.result c.place_of-end.ensures.value c.if-end-text.true c.requires

pub returns-then-text-end-eq13-clause-line : goal.returns-then-text-end-eq13-clause-line
returns-then-text-end-eq13-clause-line c =
    cut_returned c.args.text.now c.place_of-end.result c.place_of-end.ensures.value c.place_of-end.ensures.within c.if-end-text.false c.if-end-gt0.true c.if-text-end-eq13.true

pub returns-else-end-gt0-clause-line : goal.returns-else-end-gt0-clause-line
returns-else-end-gt0-clause-line c =
    cut_plain c.args.text.now c.place_of-end.result c.place_of-end.ensures.value c.place_of-end.ensures.within c.if-end-text.false
    (elim c.else-end-gt0.branch [
      | else-end-gt0-via-then-end-gt0+else-text-end-eq13 w ↦ λ some return. w.if-text-end-eq13.false return
      | else-end-gt0-via-else-end-gt0 w ↦ λ some return. absurd (omega (arith, w.if-end-gt0.false))
    ])
