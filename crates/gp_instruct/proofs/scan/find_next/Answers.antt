use Rattle.std.proofs.Common.{ap, sym, ◌∙◌}
use Rattle.gp_instruct.specs.declared.scan.Scan.{Scan}
use Rattle.gp_instruct.specs.Links.{scanned_from, taken}
use Rattle.gp_instruct.proofs.LinkLemmas.{scan_start, scan_more, scan_stop, scan_end}
use Rattle.gp_instruct.proofs.scan.find_next.Goals as goal

pub loop-place-init : goal.loop-place-init
loop-place-init c = ap (λ (s : Scan). scanned_from c.args.value.now 0 s c.args.value.now) c.start-scan.ensures ∙ scan_start c.args.value.now

pub returns-in-None : goal.returns-in-None
returns-in-None c =
    sym (scan_stop c.args.value.now c.loop-place.place c.loop-place.scan c.loop-place-test.true c.in-None.ensures) ∙ c.loop-place.invariant

pub loop-place-preserved : goal.loop-place-preserved
loop-place-preserved c =
    sym (scan_more c.args.value.now c.loop-place.place c.loop-place.scan c.in-Some.next c.loop-place-test.true c.in-Some.ensures) ∙ c.loop-place.invariant

pub returns-in-Some-ended : goal.returns-in-Some-ended
returns-in-Some-ended c =
    ap (taken c.args.value.now) c.in-Some-ended.ensures
    ∙ sym (scan_end c.args.value.now c.loop-place.place c.loop-place.scan c.loop-place-test.false) ∙ c.loop-place.invariant

pub returns-in-None-ended : goal.returns-in-None-ended
returns-in-None-ended c =
    ap (taken c.args.value.now) c.in-None-ended.ensures
    ∙ sym (scan_end c.args.value.now c.loop-place.place c.loop-place.scan c.loop-place-test.false) ∙ c.loop-place.invariant
