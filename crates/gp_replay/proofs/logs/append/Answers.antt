use Rattle.std.proofs.Common.{◌++◌, ◌∷◌, [], drop, length, sym, ap, ◌∙◌, append_assoc, arith}
use Rattle.std.proofs.lemmas.List.{append-nil}
use Rattle.gp_replay.proofs.Lists.{first_rest, none_left}
use Rattle.gp_replay.proofs.logs.append.Goals as goal

pub loop-piece-preserved : goal.loop-piece-preserved
loop-piece-preserved c =
    let rest = first_rest c.loop-piece.more c.in-Some.piece c.in-Some.ensures.first in
    ap (λ to. to ++ c.take_first.new.self) c.in-Ok.ensures
    ∙ ap (λ more. (c.loop-piece.to ++ c.in-Some.piece ∷ []) ++ more) c.in-Some.ensures.left
    ∙ append_assoc c.loop-piece.to (c.in-Some.piece ∷ []) (drop 1 c.loop-piece.more)
    ∙ ap (λ more. c.loop-piece.to ++ more) (sym rest)
    ∙ c.loop-piece.invariant

pub loop-piece-smaller : goal.loop-piece-smaller
loop-piece-smaller c = omega (arith, ap length c.in-Some.ensures.left, ap length (first_rest c.loop-piece.more c.in-Some.piece c.in-Some.ensures.first))

pub returns : goal.returns
returns c =
    sym (append-nil c.loop-piece.to) ∙ ap (λ more. c.loop-piece.to ++ more) (sym (none_left c.loop-piece.more c.in_default.ensures.first)) ∙ c.loop-piece.invariant
