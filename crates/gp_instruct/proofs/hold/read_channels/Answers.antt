use Rattle.std.proofs.Common.{[], ap}
use Rattle.std.specs.List.{flat_map}
use Rattle.std.proofs.lemmas.Result.{err_from_is_err_and}
use Rattle.gp_instruct.specs.Asked.{asked, subs_in}
use Rattle.gp_instruct.proofs.PartLemmas.{leads_by_on, leads_by_refused}
use Rattle.gp_instruct.proofs.hold.read_channels.Goals as goal

pub returns-in_err-channels : goal.returns-in_err-channels
returns-in_err-channels c =
    let p = err_from_is_err_and c.from_residual.result c.from_residual.ensures.1 in
    let found = ap (flat_map subs_in) c.in-Some.ensures.found in
    rw (p.1, p.2) (leads_by_refused [] c.loop-value.channels (asked c.args.fields.now) (asked c.loop-value.rest.now) (subs_in c.in-Some.value.now) (asked c.in-Some.more.now) c.loop-value.invariant found c.in_err-channels.field-0.0 c.in_err-channels.ensures)

pub loop-value-preserved : goal.loop-value-preserved
loop-value-preserved c =
    let found = ap (flat_map subs_in) c.in-Some.ensures.found in
    leads_by_on [] c.loop-value.channels (asked c.args.fields.now) (asked c.loop-value.rest.now) (subs_in c.in-Some.value.now) (asked c.in-Some.more.now) c.loop-value.invariant found c.in_ok-channels.channels c.in_ok-channels.ensures
