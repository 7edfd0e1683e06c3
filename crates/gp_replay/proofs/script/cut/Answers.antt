use Rattle.std.proofs.Common.{◌≡◌, ◌+◌, ◌-◌, sym, subst, length, take, drop, List, ℕ, arith, length-drop}
use Rattle.std.proofs.lemmas.List.{take_all}
use Rattle.gp_replay.specs.Scripts.{BeginsWith}
use Rattle.gp_replay.proofs.Lines.{one_more, begins_at}
use Rattle.gp_replay.proofs.script.cut.Goals as goal

pub returns-then-byte-eq10 : goal.returns-then-byte-eq10
returns-then-byte-eq10 c =
    let bytes = c.args.bytes.now in
    let place = c.loop-place.place in
    let all : take (length bytes - (place + 1)) (drop (place + 1) bytes) ≡ drop (place + 1) bytes = take_all (length bytes - (place + 1)) (drop (place + 1) bytes) (omega (arith, length-drop (place + 1) bytes)) in
    subst (λ (rest : List ℕ). BeginsWith bytes (take place bytes) rest) (sym all) (begins_at bytes place c.loop-place-test.true c.loop-place.invariant c.if-byte-eq10.true)

pub loop-place-preserved : goal.loop-place-preserved
loop-place-preserved c = one_more c.args.bytes.now c.loop-place.place c.loop-place-test.true c.loop-place.invariant c.if-byte-eq10.false
