use Rattle.std.proofs.Common.{length}
use Rattle.gp_serve.proofs.options.Asked.+read.Given as goal

abbrev pub decreases-read : goal.decreases-read
decreases-read l = length l.words.now
