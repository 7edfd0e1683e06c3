use Rattle.std.proofs.lemmas.Result.{on_ok_weaker}
use Rattle.gp_registry.specs.Stages.{IsRunStaged}
use Rattle.gp_registry.proofs.machine.HoldMachine.stage.Goals as goal

pub returns-in-Plain-clause-staged : goal.returns-in-Plain-clause-staged
returns-in-Plain-clause-staged c =
    on_ok_weaker c.stage_plain.result (λ (s : IsRunStaged c.args.item.now c.args.window.now.items c.in-Plain.hold c.stage_plain.new.plan). record { ready = s.ready; effect = s.effect; told = s.told }) (c.stage_plain.ensures c.args.window.now.items)

pub returns-in-Socket-clause-staged : goal.returns-in-Socket-clause-staged
returns-in-Socket-clause-staged c =
    on_ok_weaker c.stage_socket.result (λ (s : IsRunStaged c.args.item.now c.args.window.now.items c.in-Socket.hold c.stage_socket.new.plan). record { ready = s.ready; effect = s.effect; told = s.told }) (c.stage_socket.ensures c.args.window.now.items)
