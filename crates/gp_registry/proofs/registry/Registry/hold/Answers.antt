use Rattle.std.proofs.Common.{◌∙◌, sym, ap, subst, List, map}
use Rattle.gp_plain.specs.Standing.{Standing}
use Rattle.gp_registry.specs.declared.hold.Hold.{Hold}
use Rattle.gp_registry.specs.Places.{IsPlaceOf, HasNone}
use Rattle.gp_registry.specs.Stages.{number_of}
use Rattle.gp_registry.specs.Steps.{found}
use Rattle.gp_registry.proofs.Finding.{found_place}
use Rattle.gp_registry.proofs.Searching.{found_none}
use Rattle.gp_registry.proofs.registry.Registry.hold.Goals as goal

pub returns-in-Some : goal.returns-in-Some
returns-in-Some c =
    let place = subst (λ (hs : List Hold). IsPlaceOf (map number_of hs) c.args.number c.in-Some.place) c.as_slice.ensures.value c.in-Some.ensures in
    found_place c.self.inside.window.items c.args.number c.self.inside.next c.in-Some.place c.self.inside.holds.items c.args.self.now c.index.result.now c.self.view_is place c.index.ensures

pub returns-in-None : goal.returns-in-None
returns-in-None c =
    let none = subst (λ (hs : List Hold). HasNone (map number_of hs) c.args.number) c.as_slice.ensures.value c.in-None.ensures in
    sym (found_none c.args.number c.self.inside.holds.items none) ∙ ap (λ (s : Standing). found c.args.number s.kept) c.self.view_is
