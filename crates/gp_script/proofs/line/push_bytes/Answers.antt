use Rattle.std.proofs.Common.{◌≡◌, ◌∙◌, sym, rules}
use Rattle.gp_script.specs.Spelling.{word}
use Rattle.gp_script.proofs.Escapes.{percent_encode-word, plain_ascii, plain_word}
use Rattle.gp_script.proofs.line.push_bytes.Goals as goal

pub ascii_str-requires : goal.ascii_str-requires
ascii_str-requires c = plain_ascii c.args.bytes.now (sym c.are_plain.ensures ∙ c.if-are_plain.true)

pub returns-in_default : goal.returns-in_default
returns-in_default c =
    let plain = plain_word c.args.bytes.now (sym c.are_plain.ensures ∙ c.if-are_plain.true) c.in_default.len_at_least in
    let same : c.ascii_str.result.now ≡ word c.args.bytes.now = c.ascii_str.ensures ∙ sym plain in
    rw (sym same) (search rules)

pub returns-in_default-2 : goal.returns-in_default-2
returns-in_default-2 c =
    let spelled = c.percent_encode.ensures.text ∙ percent_encode-word c.args.bytes.now c.in_default.len_at_least in
    rw spelled at c.append_to.ensures.ok
