use Rattle.std.proofs.Common.{string_bytes, ◌≡◌, ◌++◌, take}
use Rattle.std.specs.List.{flat_map}
use Rattle.gp_script.specs.Texts.{piece_text}
use Rattle.gp_replay.proofs.play.push_pieces.Given as goal

abbrev pub invariant-loop-place : goal.invariant-loop-place
invariant-loop-place l = string_bytes l.out ≡ string_bytes l.initial.out ++ flat_map piece_text (take l.place l.pieces)
