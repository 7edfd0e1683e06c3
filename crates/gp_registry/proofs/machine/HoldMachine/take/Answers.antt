use Rattle.std.proofs.Common.{◌≡◌, IfOk, sym, subst}
use Rattle.gp_plain.specs.Holds.{taken_of}
use Rattle.gp_registry.specs.declared.machine.HoldMachine.{HoldMachine}
use Rattle.gp_registry.specs.Stages.{state_of}
use Rattle.gp_registry.proofs.machine.HoldMachine.take.Goals as goal

pub returns-in-Stream-clause-gives : goal.returns-in-Stream-clause-gives
returns-in-Stream-clause-gives c = subst (λ (m : HoldMachine). IfOk c.take.result (λ taken. taken ≡ taken_of c.args.now (state_of m))) (sym c.in-Stream.is) (c.take.ensures.gives c.args.now)

pub returns-in-Plain-clause-gives : goal.returns-in-Plain-clause-gives
returns-in-Plain-clause-gives c = subst (λ (m : HoldMachine). IfOk c.take-in-Plain.result (λ taken. taken ≡ taken_of c.args.now (state_of m))) (sym c.in-Plain.is) (c.take-in-Plain.ensures.gives c.args.now)

pub returns-in-Socket-clause-gives : goal.returns-in-Socket-clause-gives
returns-in-Socket-clause-gives c = subst (λ (m : HoldMachine). IfOk c.take-in-Socket.result (λ taken. taken ≡ taken_of c.args.now (state_of m))) (sym c.in-Socket.is) (c.take-in-Socket.ensures.gives c.args.now)
