use Rattle.std.proofs.Common.{◌<◌, ◌≤◌, length, ap, arith}
use Rattle.gp_replay.specs.declared.log.Log.{Log}
use Rattle.gp_replay.proofs.Lists.{longer_set, longer_out}
use Rattle.gp_replay.proofs.logs.lengthen.Goals as goal

pub returns-in_ok-append : goal.returns-in_ok-append
returns-in_ok-append c =
    let within : c.args.hold < length c.args.logs.now.items = omega arith in
    let was = c.index_mut-log.result.now in
    longer_set c.args.logs.now.items c.args.hold c.args.more c.args.ended was (record was { pieces = c.append.new.to; ended = c.args.ended }) within c.index_mut-log.ensures.value
    (ap (λ ps. let l : Log = record was { pieces = ps; ended = c.args.ended } in l) c.in_ok-append.ensures)

pub returns-else-place-len : goal.returns-else-place-len
returns-else-place-len c =
    let out : length c.args.logs.now.items ≤ c.args.hold = omega arith in
    longer_out c.args.logs.now.items c.args.hold c.args.more c.args.ended out
