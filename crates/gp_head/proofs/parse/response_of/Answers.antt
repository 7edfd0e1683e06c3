use Rattle.std.proofs.Common.{◌∙◌}
use Rattle.gp_head.proofs.HeadLemmas.{response_of_spans, no_response_in_room}
use Rattle.gp_head.proofs.parse.response_of.Goals as goal

pub returns-in-Err : goal.returns-in-Err
returns-in-Err c = no_response_in_room c.args.text.now c.in-Err.ensures.no_room c.requires.few

pub returns-in_ok-fields-in-Ok-Complete : goal.returns-in_ok-fields-in-Ok-Complete
returns-in_ok-fields-in-Ok-Complete c =
    let found = rw c.in-Ok-Complete.field-0-is at c.in-Ok-Complete.ensures.complete in
    response_of_spans c.args.text.now c.parse_response.new.headers c.in-Ok-Complete.found found.0 _ _ found.1 c.requires.ends (c.in_ok-reason-in-Ok-Complete.ensures ∙ c.of.ensures) c.in_ok-fields-in-Ok-Complete.ensures
