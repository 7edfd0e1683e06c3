use Rattle.std.proofs.Common.{◌++◌, ◌∙◌, Option, ap}
use Rattle.std.specs.Prelude.{option_to_list}
use Rattle.gp_plain.specs.declared.item.Item.{Item}
use Rattle.gp_session_publish.proofs.Taking.{left_busy}
use Rattle.gp_session_publish.proofs.publishing.ItemsLeft.publish.Goals as goal

pub returns-in-Busy : goal.returns-in-Busy
returns-in-Busy c =
    left_busy c.args.seat.now c.publish_all.new.seat _ c.args.self.now c.publish_all.new.items c.in-Busy.item c.args.published.now c.publish_all.new.published
    (ap (λ (o : Option Item). option_to_list o ++ c.self.inside.items) c.take.ensures.value ∙ c.self.view_is) c.in-Busy.ensures
