use Rattle.std.proofs.Common.{sym, ◌∙◌}
use Rattle.gp_plain.specs.Tails.{is_tip_of}
use Rattle.gp_window.proofs.Tipping.{not_marked}
use Rattle.gp_window.proofs.Walking.{at_item}
use Rattle.gp_window.proofs.ring.is_tip.Goals as goal

pub returns-else-is : goal.returns-else-is
returns-else-is c =
    let items = c.args.items.now in
    sym (at_item (is_tip_of items c.args.channel.now c.args.id.now) items c.args.place c.in-Some.item.now (sym c.in-Some.ensures)
    ∙ not_marked items c.args.tips.now c.args.channel.now c.args.id.now c.args.bucket c.args.place c.in-Some.item.now c.requires.marked c.requires.bucket (sym c.in-Some.ensures) (sym c.is.ensures ∙ c.if-is.false))
