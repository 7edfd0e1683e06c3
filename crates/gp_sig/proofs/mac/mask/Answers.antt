use Rattle.std.proofs.Common.{◌<◌, length, get_or, sym, bit_xor, arith}
use Rattle.std.proofs.lemmas.List.Edits.{map_over_more}
use Rattle.std.proofs.lemmas.Grind.{get_or_default_zero}
use Rattle.gp_sig.proofs.mac.mask.Goals as goal

pub loop-byte-preserved : goal.loop-byte-preserved
loop-byte-preserved c =
    let i = c.loop-byte.byte-index in
    let bytes = c.loop-byte.bytes in
    let x = get_or bytes i 0 in
    let there : i < length bytes = omega arith in
    map_over_more (λ b. bit_xor b c.args.pad) c.args.bytes.now bytes i x c.loop-byte-test.true c.loop-byte.invariant (sym (get_or_default_zero bytes i x there))
