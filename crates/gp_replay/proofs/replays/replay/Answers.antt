use Rattle.std.proofs.Common.{◌∙◌, refl}
use Rattle.gp_replay.proofs.Saying.{not_loaded, stopped, done, cut_off}
use Rattle.gp_replay.proofs.replays.replay.Goals as goal

pub returns-in-Err : goal.returns-in-Err
returns-in-Err g c = not_loaded _ c.in-Err.status c.in-Err.ensures.loaded refl c.requires

pub returns-in-Err-played : goal.returns-in-Err-played
returns-in-Err-played g c =
    let part = c.in-Err-played.ensures.part in
    stopped _ c.in-Ok.events.items c.in-Err-played.status part.0 c.in-Err-played.ensures.err c.in-Ok.ensures.loaded refl part.1

pub returns-then-write_all : goal.returns-then-write_all
returns-then-write_all g c =
    done c.chain_law.ensures _ c.in-Ok.events.items c.as_slice.result.now c.in-Ok.ensures.loaded (c.as_slice.ensures.value ∙ c.in-Ok-played.ensures.text) c.if-write_all.ensures c.in-Ok-played.ensures.stands

pub returns : goal.returns
returns g c =
    cut_off c.chain_law.ensures _ c.in-Ok.events.items c.as_slice.result.now c.in-Ok.ensures.loaded (c.as_slice.ensures.value ∙ c.in-Ok-played.ensures.text) c.if-write_all.ensures c.in-Ok-played.ensures.stands
