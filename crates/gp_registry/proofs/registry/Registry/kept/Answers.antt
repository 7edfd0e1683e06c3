use Rattle.std.proofs.Common.{ap, length, arith}
use Rattle.std.proofs.lemmas.List.{length-map}
use Rattle.gp_plain.specs.Standing.{Standing}
use Rattle.gp_registry.specs.Stages.{kept_hold}
use Rattle.gp_registry.proofs.Standing.{kept_length}
use Rattle.gp_registry.proofs.registry.Registry.kept.Goals as goal

pub returns : goal.returns
returns c = λ past at.
    let view = ap (λ (s : Standing). length s.kept) c.self.view_is in
    omega (arith, c.len.ensures, view, length-map c.self.inside.holds.items kept_hold, kept_length past c.args.self.now at)
