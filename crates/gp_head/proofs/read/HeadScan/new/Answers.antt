use Rattle.gp_head.specs.Scans.{after_all, scan_of}
use Rattle.gp_head.proofs.read.HeadScan.new.Goals as goal

pub returns : goal.returns
unfolding scan_of after_all
returns c = c.opening.ensures.opening
