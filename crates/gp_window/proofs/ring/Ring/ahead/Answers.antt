use Rattle.std.proofs.Common.{List, sym, ap, ◌∙◌}
use Rattle.gp_plain.specs.declared.item.Item.{Item}
use Rattle.gp_plain.specs.Tails.{ahead}
use Rattle.gp_window.proofs.Tipping.{none_marked, own_marked}
use Rattle.gp_window.proofs.ring.Ring.ahead.Goals as goal

pub returns-then-marked-eq0 : goal.returns-then-marked-eq0
returns-then-marked-eq0 c =
    let r = c.self.inside in
    let none = none_marked r.items r.tips c.args.channel.now c.args.id.now c.channel_bucket-bucket.result c.self.invariant c.channel_bucket-bucket.ensures.bucket (sym c.count-marked.ensures ∙ c.if-marked-eq0.true) in
    sym (ap (λ (xs : List Item). ahead c.args.channel.now c.args.id.now xs) (sym c.self.view_is) ∙ none)

pub returns-then-is_marked : goal.returns-then-is_marked
returns-then-is_marked c =
    let r = c.self.inside in
    let own = c.is_marked.ensures c.if-is_marked.true in
    let none = own_marked r.items r.tips c.args.channel.now c.args.id.now c.channel_bucket-bucket.result own.0 c.self.invariant c.channel_bucket-bucket.ensures.bucket (sym c.count-marked.ensures ∙ c.if-marked-eq1.true) own.1 in
    sym (ap (λ (xs : List Item). ahead c.args.channel.now c.args.id.now xs) (sym c.self.view_is) ∙ none)

pub returns : goal.returns
returns c =
    let r = c.self.inside in
    c.has_tip.ensures ∙ sym (ap (λ (xs : List Item). ahead c.args.channel.now c.args.id.now xs) (sym c.self.view_is))
