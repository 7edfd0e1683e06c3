use Rattle.std.proofs.Common.{◌≡◌, sym, subst}
use Rattle.gp_plain.specs.declared.event.HoldSpec.{HoldSpec}
use Rattle.gp_plain.specs.Holds.{begun_state}
use Rattle.gp_registry.proofs.machine.begun.Goals as goal

pub returns-in_ok-begin-in-Plain : goal.returns-in_ok-begin-in-Plain
returns-in_ok-begin-in-Plain c =
    subst (λ (spec : HoldSpec). c.in_ok-begin-in-Plain.field-0.state ≡ begun_state spec c.args.window.now.items) (sym c.in-Plain.is) (c.in_ok-begin-in-Plain.ensures c.args.window.now.items)

pub returns-in-Socket : goal.returns-in-Socket
returns-in-Socket c =
    subst (λ (spec : HoldSpec). c.begin-in-Socket.result.state ≡ begun_state spec c.args.window.now.items) (sym c.in-Socket.is) (c.begin-in-Socket.ensures c.args.window.now.items)
