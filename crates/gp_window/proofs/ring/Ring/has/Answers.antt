use Rattle.std.proofs.Common.{List, sym, ap, ◌∙◌}
use Rattle.std.specs.List.{list_any}
use Rattle.gp_plain.specs.declared.item.Item.{Item}
use Rattle.gp_window.specs.Searches.{has_id}
use Rattle.gp_window.proofs.Walking.{some_at}
use Rattle.gp_window.proofs.ring.Ring.has.Goals as goal

pub returns-in-Some : goal.returns-in-Some
returns-in-Some c =
    let is = has_id c.args.channel.now c.args.id.now in
    sym (ap (λ (xs : List Item). list_any is xs) (sym c.self.view_is) ∙ some_at is c.self.inside.items c.in-Some.field-0 c.in-Some.ensures)
