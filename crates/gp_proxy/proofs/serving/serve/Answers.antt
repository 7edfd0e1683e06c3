use Rattle.std.proofs.Common.{inl, inr}
use denote.Exit.{yes}
use denote.Param.Send.{arg_send, param_send}
use Rattle.gp_maker.proofs.Sent.{publisher_send, serving_send}
use Rattle.gp_proxy.proofs.Readying.{ready, served}
use Rattle.gp_proxy.proofs.serving.serve.Goals as goal

pub run_workers-requires-send-M-Client : goal.run_workers-requires-send-M-Client
run_workers-requires-send-M-Client g c κs within = param_send 13 _ (arg_send _ yes _ (serving_send _ _ _ _ _ _ _ _ _ _ _ c.type_bounds.send-W-Kit-Listen-Link c.type_bounds.send-W-Kit-Dial c.type_bounds.send-W-Kit-Clock))

pub run_workers-requires-send-M-Publisher : goal.run_workers-requires-send-M-Publisher
run_workers-requires-send-M-Publisher g c κs within = param_send 14 _ (arg_send _ yes _ (publisher_send _ _ _ _ _ _ _ _ _ c.type_bounds.send-W-Kit-Listen-Link))

pub returns : goal.returns
returns g c =
    let world = c.args.world.now in
    let read = g.W.World.with_files world c.routes_at.new.files in
    let asked = g.W.World.with_clock read c.now-started.new.self in
    let made = ready _ c.args.routes.now (g.W.World.parts world) (g.W.World.parts read) (g.W.World.parts asked) c.files.result.now c.routes_at.new.files c.clock.result.now c.now-started.new.self c.in-Ok.routes c.now-started.result c.files.ensures.value (g.met.W.World.files_back world c.routes_at.new.files) c.clock.ensures.value (g.met.W.World.clock_back read c.now-started.new.self) c.in-Ok.ensures c.now-started.ensures in
    inr (inl (served _ c.args.routes.now c.args.options.now (g.W.World.parts world) (g.W.World.parts asked) (g.W.World.parts c.run_workers.new.world) c.run_workers.result c.in-Ok.routes c.new-maker.result.routes.now c.in-Ok-signer_of.signer c.new-maker.result.signer.now c.now-started.result c.new-maker.result.started c.in-Ok-new.hub c.in-Ok-new.pass made c.new-maker.ensures.routes c.new-maker.ensures.signer c.in-Ok-signer_of.ensures c.new-maker.ensures.started c.in-Ok-new.ensures c.run_workers.ensures))
