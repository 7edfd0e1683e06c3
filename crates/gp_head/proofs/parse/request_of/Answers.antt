use Rattle.std.proofs.Common.{◌∙◌}
use Rattle.gp_head.proofs.HeadLemmas.{request_of_spans, no_request_in_room}
use Rattle.gp_head.proofs.parse.request_of.Goals as goal

pub returns-in-Err : goal.returns-in-Err
returns-in-Err c = no_request_in_room c.args.text.now c.in-Err.ensures.no_room c.requires.few

pub returns-in_ok-fields-in-Ok-Complete : goal.returns-in_ok-fields-in-Ok-Complete
returns-in_ok-fields-in-Ok-Complete c =
    let found = rw c.in-Ok-Complete.field-0-is at c.in-Ok-Complete.ensures.complete in
    request_of_spans c.args.text.now c.parse_request.new.headers c.in-Ok-Complete.found found.0 _ _ _ found.1 c.requires.ends (c.in_ok-method-in-Ok-Complete.ensures ∙ c.of.ensures) (c.in_ok-target-in-Ok-Complete.ensures ∙ c.of-in-Ok-Complete.ensures) c.in_ok-fields-in-Ok-Complete.ensures
