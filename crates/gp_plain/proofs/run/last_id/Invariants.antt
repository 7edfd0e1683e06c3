use Rattle.std.proofs.Common.{◌≡◌, take, option_map}
use Rattle.gp_plain.specs.Growth.{last_id_of}
use Rattle.gp_plain.proofs.run.last_id.Given as goal

abbrev pub invariant-loop-place : goal.invariant-loop-place
invariant-loop-place l = option_map (λ id. id.now) l.last ≡ last_id_of (take l.place l.pieces.items)
