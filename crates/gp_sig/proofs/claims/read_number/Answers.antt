use Rattle.std.proofs.Common.{◌∙◌, sym}
use Rattle.gp_sig.proofs.Numbers.{not_utf8, parsed_one, other_text}
use Rattle.gp_sig.proofs.Texts.{not_both, so_it_is}
use Rattle.gp_sig.proofs.claims.read_number.Goals as goal
use Rattle.gp_sig.proofs.claims.read_number.Goals.{then-are_same, else-are_same}

pub returns-in_default : goal.returns-in_default
returns-in_default c n h e = not_utf8 c.args.text.now n h e c.in_default.ensures.cases.0

pub returns-in_default-parse : goal.returns-in_default-parse
returns-in_default-parse c n h e = let text = c.in-Ok.ensures.cases.0 in
    c.in_default-parse.not-Ok n (parsed_one c.in-Ok.digits.now n c.parse.result h (text ∙ e) c.parse.ensures.value.0)

pub returns : goal.returns
returns c =
    let digits = c.in-Ok.ensures.cases.0 in
    let written = c.as_bytes.ensures.value ∙ c.in_ok-written.ensures.ok in
    elim c.if-are_same.branch [
      | then-are_same w ↦ rw w.result-is (sym (so_it_is c.are_same.ensures w.if-are_same.true) ∙ written)
      | else-are_same w ↦ rw w.result-is (λ n h e. not_both c.are_same.ensures w.if-are_same.false (written ∙ (other_text c.in-Ok.digits.now c.in-Ok-parse.number n c.parse.result h (digits ∙ e) c.parse.ensures.value.0 c.in-Ok-parse.is ∙ digits)))
    ]
