use Rattle.std.proofs.Common.{ap}
use Rattle.std.specs.List.{flat_map}
use Rattle.std.proofs.lemmas.Result.{err_from_is_err_and}
use Rattle.gp_instruct.specs.Asked.{part_subs, rest_subs, subs_in}
use Rattle.gp_instruct.proofs.PartLemmas.{leads_by_on, leads_by_refused, parts_of_rest, text_of}
use Rattle.gp_instruct.proofs.part.add_parts.Goals as goal

pub returns-in_err-channels : goal.returns-in_err-channels
returns-in_err-channels c =
    let p = err_from_is_err_and c.from_residual.result c.from_residual.ensures.1 in
    let parts = ap (flat_map part_subs) (parts_of_rest c.loop-rest.rest c.cut.result.1 c.in-Some.text c.in-Some.is 44 c.cut.result.0.now c.cut.ensures.front c.cut.ensures.rest) in
    rw (p.1, p.2) (leads_by_refused c.args.channels c.loop-rest.channels (subs_in c.args.value.now) (rest_subs (text_of c.loop-rest.rest)) (part_subs c.cut.result.0.now) (rest_subs (text_of c.cut.result.1)) c.loop-rest.invariant parts c.in_err-channels.field-0.0 c.in_err-channels.ensures)

pub loop-rest-preserved : goal.loop-rest-preserved
loop-rest-preserved c =
    let parts = ap (flat_map part_subs) (parts_of_rest c.loop-rest.rest c.cut.result.1 c.in-Some.text c.in-Some.is 44 c.cut.result.0.now c.cut.ensures.front c.cut.ensures.rest) in
    leads_by_on c.args.channels c.loop-rest.channels (subs_in c.args.value.now) (rest_subs (text_of c.loop-rest.rest)) (part_subs c.cut.result.0.now) (rest_subs (text_of c.cut.result.1)) c.loop-rest.invariant parts c.in_ok-channels.channels c.in_ok-channels.ensures
