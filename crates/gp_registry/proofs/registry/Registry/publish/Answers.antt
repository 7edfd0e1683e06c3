use Rattle.std.proofs.Common.{◌∙◌, sym, ap, subst, map, arith, List}
use Rattle.std.specs.Vec.{with_items}
use Rattle.std.proofs.lemmas.List.{with_items_is}
use Rattle.gp_registry.specs.declared.hold.Hold.{Hold}
use Rattle.gp_registry.specs.Keeps.{pushed}
use Rattle.gp_registry.specs.Stages.{kept_hold, IsInOrder}
use Rattle.gp_registry.proofs.Planning.{repeat_has_id}
use Rattle.gp_registry.proofs.Searching.{order_same}
use Rattle.gp_registry.proofs.Serving.{published_is, order_committed}
use Rattle.gp_registry.proofs.registry.Registry.publish.Goals as goal

pub repeated-requires : goal.repeated-requires
repeated-requires c = repeat_has_id c.self.inside.window.items c.args.item (sym c.repeats.ensures ∙ c.if-repeats.true)

pub invariant_of-self-in-Err : goal.invariant_of-self-in-Err
invariant_of-self-in-Err c =
    let whole = with_items_is c.self.inside.holds c.plan_all.new.holds (omega arith) in
    let same = c.plan_all.ensures.same ∙ ap (map kept_hold) c.as_mut_slice-holds.ensures.value in
    subst (λ (hs : List Hold). IsInOrder c.self.inside.next hs) (sym whole) (order_same c.self.inside.next c.self.inside.holds.items c.plan_all.new.holds same c.self.invariant)

pub invariant_of-self : goal.invariant_of-self
invariant_of-self c =
    let whole = with_items_is c.self.inside.holds c.carry_out.new.holds (omega arith) in
    let same = c.plan_all.ensures.same ∙ ap (map kept_hold) c.as_mut_slice-holds.ensures.value in
    let ready = order_same c.self.inside.next c.self.inside.holds.items c.plan_all.new.holds same c.self.invariant in
    subst (λ (hs : List Hold). IsInOrder c.self.inside.next hs) (sym whole) (order_committed c.self.inside.next c.carry_out.new.window.items c.plan_all.new.holds c.carry_out.new.holds c.carry_out.ensures.kept ready)

pub returns-in-Ok-clause-ok : goal.returns-in-Ok-clause-ok
returns-in-Ok-clause-ok c = λ who.
    let whole = with_items_is c.self.inside.holds c.carry_out.new.holds (omega arith) in
    published_is c.args.item who c.self.inside.next c.carry_out.result c.self.inside.window.items c.carry_out.new.window.items c.self.inside.holds.items c.plan_all.new.holds
    (with_items c.self.inside.holds c.carry_out.new.holds).items c.args.self.now c.self.view_is (sym c.repeats.ensures ∙ c.if-repeats.false)
    (c.carry_out.ensures.window ∙ ap (λ ws. pushed ws c.args.item) c.plan_all.ensures.window) (c.plan_all.ensures.same ∙ ap (map kept_hold) c.as_mut_slice-holds.ensures.value) c.in-Ok.ensures.staged.1
    (ap (map kept_hold) whole ∙ c.carry_out.ensures.kept) c.carry_out.ensures.grew
