use Rattle.std.proofs.Common.{ap, ◌∙◌}
use Rattle.std.proofs.lemmas.List.{take_rest}
use Rattle.gp_head.specs.Scans.{extent_told}
use Rattle.gp_head.proofs.ScanLemmas.{scan_tells, seen_within, goes_to_end}
use Rattle.gp_head.proofs.scan.Scan.extent_of.Goals as goal

pub slice_bounds-take-count : goal.slice_bounds-take-count
slice_bounds-take-count c = seen_within c.args.self.now c.args.bytes.now c.requires.seen

pub slice_bounds-take-start : goal.slice_bounds-take-start
slice_bounds-take-start c = seen_within c.args.self.now c.args.bytes.now c.requires.seen

pub returns-clause-scan : goal.returns-clause-scan
returns-clause-scan c =
    let scan = rw (take_rest c.args.bytes.now c.args.self.now.seen) at c.take.ensures.scan in
    scan ∙ goes_to_end c.args.self.now c.args.bytes.now c.requires.seen

pub returns-clause-extent : goal.returns-clause-extent
returns-clause-extent c =
    let scan = rw (take_rest c.args.bytes.now c.args.self.now.seen) at c.take.ensures.scan in
    c.told.ensures ∙ ap extent_told (scan ∙ goes_to_end c.args.self.now c.args.bytes.now c.requires.seen) ∙ scan_tells c.args.bytes.now
