use Rattle.std.proofs.Common.{◌∙◌}
use Rattle.gp_session_wait.proofs.Counting.{counts_on, found_all}
use Rattle.gp_session_wait.proofs.seeking.count.Goals as goal

pub loop-piece-preserved : goal.loop-piece-preserved
loop-piece-preserved c =
    counts_on c.args.hold.now c.loop-piece.hold c.add.new.self c.args.pieces c.loop-piece.left c.take_first.new.self c.loop-piece.answer c.later-answer.result c.in-Some.piece c.loop-piece.invariant
    c.in-Some.ensures.first c.take_first.ensures.left c.add.ensures.counts (λ part e. c.later-answer.ensures part (c.add.ensures.gives ∙ e))

pub returns-clause-answer : goal.returns-clause-answer
returns-clause-answer c = found_all c.args.hold.now c.loop-piece.hold c.args.pieces c.loop-piece.left c.loop-piece.answer c.loop-piece.invariant c.in_default.ensures.first
