use Rattle.std.proofs.Common.{◌≡◌, take, List, ℕ}
use Rattle.std.specs.List.{flat_map}
use Rattle.gp_body.specs.Wholes.{reading_of, content_of}
use Rattle.gp_body.proofs.pieces.read_pieces.Given as goal

abbrev pub invariant-loop-piece : goal.invariant-loop-piece
invariant-loop-piece l = record {
  reading : l.reader ≡ reading_of l.fn.plan l.fn.limit (flat_map (λ (piece : List ℕ). piece) (take l.piece-index l.pieces));
  content : l.content.items ≡ content_of l.fn.plan l.fn.limit (flat_map (λ (piece : List ℕ). piece) (take l.piece-index l.pieces));
}
