use Rattle.std.proofs.Common.{◌≡◌, false, sym, subst}
use Rattle.gp_plain.specs.Refusals.{refuses}
use Rattle.gp_plain.specs.declared.event.Event.{Event}
use Rattle.gp_registry.specs.Steps.{answered, stepped}
use Rattle.gp_registry.proofs.registry.Registry.step_now.Goals as goal

pub returns-in-Ok-publish-clause-ok : goal.returns-in-Ok-publish-clause-ok
returns-in-Ok-publish-clause-ok c =
    subst (λ (e : Event). (c.in-Ok-publish.reply ≡ answered c.args.self.now c.args.who e) × (c.publish.new.self ≡ stepped c.args.self.now c.args.who e)) (sym c.in-Publish.is) (c.in-Ok-publish.ensures.ok c.args.who)

pub returns-in-Err-publish-clause-due : goal.returns-in-Err-publish-clause-due
returns-in-Err-publish-clause-due c = subst (λ (e : Event). refuses (answered c.args.self.now c.args.who e) ≡ false) (sym c.in-Publish.is) (c.in-Err-publish.ensures.due c.args.who)
