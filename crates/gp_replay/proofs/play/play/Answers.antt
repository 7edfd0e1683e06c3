use Rattle.std.proofs.Common.{string_bytes, ◌∙◌, ◌++◌, [], ap, append_assoc, arith}
use Rattle.std.proofs.lemmas.Result.{on_ok_weaker}
use Rattle.gp_plain.specs.History.{held}
use Rattle.gp_plain.specs.Standing.{Standing}
use Rattle.gp_replay.specs.Outputs.{replies_text, logs_text}
use Rattle.gp_replay.specs.Scripts.{entries_of}
use Rattle.gp_replay.proofs.Lists.{on_ok_given}
use Rattle.gp_replay.proofs.play.play.Goals as goal

pub returns-clause-stands : goal.returns-clause-stands
returns-clause-stands c = on_ok_given c.push_logs.result (c.in_ok-play_events.ensures.stands [] c.requires.empty)

pub returns-clause-text : goal.returns-clause-text
returns-clause-text c =
    let events = c.args.events.items in
    let entries = entries_of events in
    let out = string_bytes c.args.out.now in
    let logs = c.as_slice.ensures.value ∙ c.in_ok-play_events.ensures.logs [] c.requires.empty c.new-logs.ensures.items in
    on_ok_weaker c.push_logs.result
    (λ e. e ∙ ap (λ o. o ++ logs_text 0 (held entries)) (c.in_ok-play_events.ensures.text [] c.requires.empty) ∙ append_assoc out (replies_text [] events) (logs_text 0 (held entries)))
    (c.push_logs.ensures entries (c.in_ok-play_events.ensures.stands [] c.requires.empty) logs)

pub returns-clause-part : goal.returns-clause-part
returns-clause-part c = c.play_events.ensures.part [] c.requires.empty

pub returns-in_err-play_events-clause-part : goal.returns-in_err-play_events-clause-part
returns-in_err-play_events-clause-part c = c.play_events.ensures.part [] c.requires.empty

pub play_events-requires-clause-room : goal.play_events-requires-clause-room
play_events-requires-clause-room c = let few = c.requires.few in omega (arith, ap (λ (s : Standing). s.next) c.requires.empty)
