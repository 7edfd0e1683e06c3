use Rattle.std.proofs.Common.{◌-◌, length}
use Rattle.std.specs.Io.KnownBytes.{Consumes}
use Rattle.gp_net.proofs.files.read_all.Given as goal

abbrev pub invariant-loop-part : goal.invariant-loop-part
invariant-loop-part g l = Consumes (g.R.Read.remaining l.fn.reader) (g.R.Read.remaining l.reader) l.content.items

abbrev pub decreases-loop-part : goal.decreases-loop-part
decreases-loop-part g l = 16777217 - length l.content.items
