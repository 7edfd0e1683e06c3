use Rattle.std.proofs.Common.{refl, sym, ◌∙◌}
use Rattle.gp_head.specs.Scans.{after_all}
use Rattle.gp_head.proofs.ScanLemmas.{one_more, settled_stays}
use Rattle.gp_head.proofs.scan.Scan.take.Goals as goal

pub loop-byte-init : goal.loop-byte-init
unfolding after_all
loop-byte-init c = record { scan = refl; sound = c.requires }

pub returns-then-is_settled-clause-scan : goal.returns-then-is_settled-clause-scan
returns-then-is_settled-clause-scan c =
    settled_stays c.args.bytes.now c.loop-byte.byte-index c.args.self.now c.loop-byte.self c.loop-byte.invariant.scan (sym c.is_settled.ensures ∙ c.if-is_settled.true)

pub loop-byte-preserved : goal.loop-byte-preserved
loop-byte-preserved c = record {
  scan = one_more c.args.bytes.now c.loop-byte.byte-index c.args.self.now c.loop-byte.self c.step.new.self c.loop-byte-test.true c.loop-byte.invariant.scan (sym c.is_settled.ensures ∙ c.if-is_settled.false) c.step.ensures.scan;
  sound = c.step.ensures.sound;
}
