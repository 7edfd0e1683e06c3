use Rattle.std.proofs.Common.{length, ap, ◌∙◌, arith}
use Rattle.gp_ws.proofs.HeadLemmas.{short_head, middle_head, long_head}
use Rattle.gp_ws.proofs.head.frame_head.Goals as goal

pub returns-then-size-lt126-clause-head : goal.returns-then-size-lt126-clause-head
returns-then-size-lt126-clause-head c =
    short_head c.args.into.now c.args.message.now _ _ (omega (arith, c.told-into)) c.opcode.ensures c.payload_len-size.ensures c.if-size-lt126.true

pub returns-then-size-lt65536-clause-head : goal.returns-then-size-lt65536-clause-head
returns-then-size-lt65536-clause-head c =
    let bytes = c.copy_from_slice.ensures.after ∙ c.to_be_bytes.ensures in
    middle_head c.args.into.now c.copy_from_slice.new.self c.args.message.now _ _ (omega (arith, c.told-into)) c.opcode.ensures c.payload_len-size.ensures c.if-size-lt126.false
    c.if-size-lt65536.true bytes (ap length bytes)

pub returns-else-size-lt65536-clause-head : goal.returns-else-size-lt65536-clause-head
returns-else-size-lt65536-clause-head c =
    let bytes = c.copy_from_slice-else-size-lt65536.ensures.after ∙ c.to_be_bytes-else-size-lt65536.ensures in
    long_head c.args.into.now c.copy_from_slice-else-size-lt65536.new.self c.args.message.now _ _ (omega (arith, c.told-into)) c.opcode.ensures c.payload_len-size.ensures c.if-size-lt65536.false
    bytes (ap length bytes)
