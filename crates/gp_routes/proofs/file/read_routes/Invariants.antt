use Rattle.std.proofs.Common.{length}
use Rattle.gp_routes.proofs.FileLemmas.{ReadSoFar}
use Rattle.gp_routes.proofs.file.read_routes.Given as goal

abbrev pub invariant-loop-rest : goal.invariant-loop-rest
invariant-loop-rest l = ReadSoFar l.bytes l.rest l.rules.items l.number

abbrev pub decreases-loop-rest : goal.decreases-loop-rest
decreases-loop-rest l = length l.rest
