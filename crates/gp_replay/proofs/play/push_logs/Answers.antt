use Rattle.std.proofs.Common.{string_bytes, ◌∙◌, ◌++◌, ◌≤◌, List, Some, length, take, sym, ap, append_assoc, add-one, arith}
use Rattle.std.proofs.lemmas.List.{take_all, length-map}
use Rattle.std.proofs.lemmas.Option.{slice_get-get_or}
use Rattle.gp_plain.specs.Holds.{Held}
use Rattle.gp_plain.specs.History.{held}
use Rattle.gp_replay.specs.Logs.{log_of}
use Rattle.gp_replay.specs.Outputs.{log_text, logs_text}
use Rattle.gp_replay.proofs.Plays.{hold_at, logs_text-push}
use Rattle.gp_replay.proofs.play.push_logs.Goals as goal

pub returns : goal.returns
returns c = λ past at are.
    let holds = held past in
    let all : length holds ≤ c.loop-place.place = omega (arith, ap length are, length-map holds log_of, c.loop-place-test.false) in
    c.loop-place.invariant past at are ∙ ap (λ (hs : List Held). string_bytes c.args.out.now ++ logs_text 0 hs) (take_all c.loop-place.place holds all)

pub loop-place-preserved : goal.loop-place-preserved
loop-place-preserved c = λ past at are.
    let holds = held past in
    let place = c.loop-place.place in
    let out = string_bytes c.args.out.now in
    let log = c.index-logs-place.result in
    let found = hold_at c.args.logs.now holds place log are (slice_get-get_or c.args.logs.now place log c.loop-place-test.true ∙ ap Some (sym c.index-logs-place.is)) in
    c.in_ok-push_log.ensures past found.0 at found.1 found.2
    ∙ ap (λ o. o ++ log_text place found.0) (c.loop-place.invariant past at are)
    ∙ append_assoc out (logs_text 0 (take place holds)) (log_text place found.0)
    ∙ ap (λ t. out ++ t) (sym (logs_text-push holds place found.0 found.1))
    ∙ ap (λ n. out ++ logs_text 0 (take n holds)) (sym (add-one place))
