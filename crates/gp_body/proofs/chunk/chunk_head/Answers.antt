use Rattle.std.proofs.Common.{ℕ, length-set, ◌≡◌, ◌+◌, ◌-◌, ◌<◌, arith}
use Rattle.gp_body.proofs.ChunkLemmas.{one_fewer, some_left, one_written}
use Rattle.gp_body.proofs.chunk.chunk_head.Goals as goal

pub loop-place-preserved : goal.loop-place-preserved
loop-place-preserved c =
    let i = c.loop-place.invariant in
    let some : 0 < c.loop-place.left = some_left c.loop-place.left (omega (arith, i.places, c.loop-place-test.true)) in
    let back : c.loop-place.place - 1 + 1 ≡ c.loop-place.place = omega (arith, c.loop-place-test.true) in
    let before = rw (← back) at i.digits in
    record {
      within = omega (arith, i.within);
      room = omega (arith, i.room, length-set {A = ℕ});
      places = omega (arith, one_fewer c.loop-place.left some, i.places);
      digits = one_written c.loop-place.into _ c.digit_count-count.result (c.loop-place.place - 1) c.loop-place.left c.hex_digit.result (omega (arith, i.within, c.loop-place-test.true)) (omega (arith, i.room, c.digit_count-count.ensures.few)) some c.hex_digit.ensures before;
    }
