use Rattle.std.proofs.Common.{◌∙◌, refl, sym, ap}
use Rattle.gp_replay.specs.declared.status.Status.TheVariants.{Done, SinkFault}
use Rattle.gp_replay.proofs.Saying.{not_loaded, stopped, done, cut_off, play_at, lent, same_files, same_both}
use Rattle.gp_replay.proofs.lent.replay_on.Goals as goal

pub returns-in-Err-clause-says : goal.returns-in-Err-clause-says
returns-in-Err-clause-says g c =
    let world = c.args.world.now in
    let files = c.load.new.files in
    let sink = g.W.Out.Out.tells (g.W.World.parts world).out in
    lent c.in-Err.status (g.W.Files.Files.content c.files.result.now c.args.path.now) _ (g.W.Files.Files.faults c.files.result.now) _ (g.W.Files.Files.faults files) _ sink _ sink _ c.args.registry.now
    (ap (λ f. g.W.Files.Files.content f c.args.path.now) c.files.ensures.value)
    (ap (λ f. g.W.Files.Files.faults f) c.files.ensures.value)
    (ap (λ p. g.W.Files.Files.faults p.files) (sym (g.met.W.World.files_back world files)))
    refl
    (ap (λ p. g.W.Out.Out.tells p.out) (sym (g.met.W.World.files_back world files)))
    (not_loaded (play_at (g.W.Files.Files.content c.files.result.now c.args.path.now) (g.W.Files.Files.faults c.files.result.now) (g.W.Files.Files.faults files) sink sink c.args.registry.now) c.in-Err.status c.in-Err.ensures.loaded refl c.requires)

pub returns-in-Err-clause-same : goal.returns-in-Err-clause-same
returns-in-Err-clause-same g c = same_files (g.W.World.parts c.args.world.now) _ c.load.new.files (g.met.W.World.files_back c.args.world.now c.load.new.files)

pub returns-in-Err-played-clause-says : goal.returns-in-Err-played-clause-says
returns-in-Err-played-clause-says g c =
    let world = c.args.world.now in
    let files = c.load.new.files in
    let sink = g.W.Out.Out.tells (g.W.World.parts world).out in
    let part = c.in-Err-played.ensures.part in
    lent c.in-Err-played.status (g.W.Files.Files.content c.files.result.now c.args.path.now) _ (g.W.Files.Files.faults c.files.result.now) _ (g.W.Files.Files.faults files) _ sink _ sink _ c.played.new.registry
    (ap (λ f. g.W.Files.Files.content f c.args.path.now) c.files.ensures.value)
    (ap (λ f. g.W.Files.Files.faults f) c.files.ensures.value)
    (ap (λ p. g.W.Files.Files.faults p.files) (sym (g.met.W.World.files_back world files)))
    refl
    (ap (λ p. g.W.Out.Out.tells p.out) (sym (g.met.W.World.files_back world files)))
    (stopped (play_at (g.W.Files.Files.content c.files.result.now c.args.path.now) (g.W.Files.Files.faults c.files.result.now) (g.W.Files.Files.faults files) sink sink c.played.new.registry) c.in-Ok.events.items c.in-Err-played.status part.0 c.in-Err-played.ensures.err c.in-Ok.ensures.loaded refl part.1)

pub returns-in-Err-played-clause-same : goal.returns-in-Err-played-clause-same
returns-in-Err-played-clause-same g c = same_files (g.W.World.parts c.args.world.now) _ c.load.new.files (g.met.W.World.files_back c.args.world.now c.load.new.files)

pub returns-then-write_all-clause-says : goal.returns-then-write_all-clause-says
returns-then-write_all-clause-says g c =
    let world = c.args.world.now in
    let files = c.load.new.files in
    let out = c.write_all.new.out in
    let between = g.W.World.with_files world files in
    lent Done (g.W.Files.Files.content c.files.result.now c.args.path.now) _ (g.W.Files.Files.faults c.files.result.now) _ (g.W.Files.Files.faults files) _ (g.W.Out.Out.tells c.out.result.now) _ (g.W.Out.Out.tells out) _ c.played.new.registry
    (ap (λ f. g.W.Files.Files.content f c.args.path.now) c.files.ensures.value)
    (ap (λ f. g.W.Files.Files.faults f) c.files.ensures.value)
    (ap (λ p. g.W.Files.Files.faults p.files) (sym (g.met.W.World.files_back world files)) ∙ ap (λ p. g.W.Files.Files.faults p.files) (sym (g.met.W.World.out_back between out)))
    (ap (λ o. g.W.Out.Out.tells o) c.out.ensures.value ∙ ap (λ p. g.W.Out.Out.tells p.out) (g.met.W.World.files_back world files))
    (ap (λ p. g.W.Out.Out.tells p.out) (sym (g.met.W.World.out_back between out)))
    (done c.chain_law.ensures (play_at (g.W.Files.Files.content c.files.result.now c.args.path.now) (g.W.Files.Files.faults c.files.result.now) (g.W.Files.Files.faults files) (g.W.Out.Out.tells c.out.result.now) (g.W.Out.Out.tells out) c.played.new.registry) c.in-Ok.events.items c.as_slice.result.now c.in-Ok.ensures.loaded (c.as_slice.ensures.value ∙ c.in-Ok-played.ensures.text) c.if-write_all.ensures c.in-Ok-played.ensures.stands)

pub returns-then-write_all-clause-same : goal.returns-then-write_all-clause-same
returns-then-write_all-clause-same g c =
    let world = c.args.world.now in
    let between = g.W.World.with_files world c.load.new.files in
    same_both (g.W.World.parts world) (g.W.World.parts between) _ c.load.new.files c.write_all.new.out (g.met.W.World.files_back world c.load.new.files) (g.met.W.World.out_back between c.write_all.new.out)

pub returns-clause-says : goal.returns-clause-says
returns-clause-says g c =
    let world = c.args.world.now in
    let files = c.load.new.files in
    let out = c.write_all.new.out in
    let between = g.W.World.with_files world files in
    lent SinkFault (g.W.Files.Files.content c.files.result.now c.args.path.now) _ (g.W.Files.Files.faults c.files.result.now) _ (g.W.Files.Files.faults files) _ (g.W.Out.Out.tells c.out.result.now) _ (g.W.Out.Out.tells out) _ c.played.new.registry
    (ap (λ f. g.W.Files.Files.content f c.args.path.now) c.files.ensures.value)
    (ap (λ f. g.W.Files.Files.faults f) c.files.ensures.value)
    (ap (λ p. g.W.Files.Files.faults p.files) (sym (g.met.W.World.files_back world files)) ∙ ap (λ p. g.W.Files.Files.faults p.files) (sym (g.met.W.World.out_back between out)))
    (ap (λ o. g.W.Out.Out.tells o) c.out.ensures.value ∙ ap (λ p. g.W.Out.Out.tells p.out) (g.met.W.World.files_back world files))
    (ap (λ p. g.W.Out.Out.tells p.out) (sym (g.met.W.World.out_back between out)))
    (cut_off c.chain_law.ensures (play_at (g.W.Files.Files.content c.files.result.now c.args.path.now) (g.W.Files.Files.faults c.files.result.now) (g.W.Files.Files.faults files) (g.W.Out.Out.tells c.out.result.now) (g.W.Out.Out.tells out) c.played.new.registry) c.in-Ok.events.items c.as_slice.result.now c.in-Ok.ensures.loaded (c.as_slice.ensures.value ∙ c.in-Ok-played.ensures.text) c.if-write_all.ensures c.in-Ok-played.ensures.stands)

pub returns-clause-same : goal.returns-clause-same
returns-clause-same g c =
    let world = c.args.world.now in
    let between = g.W.World.with_files world c.load.new.files in
    same_both (g.W.World.parts world) (g.W.World.parts between) _ c.load.new.files c.write_all.new.out (g.met.W.World.files_back world c.load.new.files) (g.met.W.World.out_back between c.write_all.new.out)
