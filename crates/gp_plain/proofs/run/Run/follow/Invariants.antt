use Rattle.std.proofs.Common.{◌≡◌, ◌++◌, ◌+◌, ◌-◌, cond, length, map, is_none}
use Rattle.gp_plain.specs.Growth.{IsWithin, with_pieces}
use Rattle.gp_plain.specs.Follow.{follow}
use Rattle.gp_plain.specs.Holds.{piece_by, ends_by, followers}
use Rattle.gp_plain.proofs.Following.{unused}
use Rattle.gp_plain.proofs.run.Run.follow.Given as goal

abbrev pub invariant-loop-at : goal.invariant-loop-at
invariant-loop-at g l = record {
  within : IsWithin l.to.items l.self.pieces;
  rest : with_pieces l.to.items l.self (map (piece_by l.kind) (follow l.channel (ends_by l.kind) l.at (unused 0 l.used (g.I.Tail.items l.window))))
      ≡ with_pieces l.to.items l.initial.self (followers l.kind l.channel l.from (g.I.Tail.items l.window));
}

abbrev pub decreases-loop-at : goal.decreases-loop-at
decreases-loop-at g l = (1024 - length (l.to.items ++ l.self.pieces)) + cond (is_none l.self.ended) 1 0
