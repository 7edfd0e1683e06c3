use Rattle.std.proofs.Common.{◌∷◌, []}
use Rattle.gp_turn.proofs.turn.Turn.call.Given as goal

abbrev pub ghosts-put : goal.ghosts-put
ghosts-put g a = record { said = g.V.Kept.entry a._who a._ask.value ∷ [] }
