use Rattle.std.proofs.Common.{◌∙◌}
use Rattle.gp_sig.proofs.Texts.{before_second, one_not_three, two_not_three, four_not_three, three_pieces}
use Rattle.gp_sig.proofs.parts.cut_token.Goals as goal

pub returns-in_default : goal.returns-in_default
returns-in_default c h p s e = one_not_three c.args.token.now h p s c.in_default.ensures e

pub returns-in_default-cut_at : goal.returns-in_default-cut_at
returns-in_default-cut_at c h p s e = two_not_three c.args.token.now c.in-Some.head.now c.in-Some.rest.now h p s c.in-Some.ensures.0 c.in-Some.ensures.1 c.in_default-cut_at.ensures e

pub returns-in-Some-cut_at-2 : goal.returns-in-Some-cut_at-2
returns-in-Some-cut_at-2 c h p s e =
    let one = c.in-Some.ensures in
    let two = c.in-Some-cut_at.ensures in
    let three = c.in-Some-cut_at-2.ensures in
    four_not_three c.args.token.now c.in-Some.head.now c.in-Some.rest.now c.in-Some-cut_at.claims.now c.in-Some-cut_at.signature.now c.in-Some-cut_at-2.field-0.0.now c.in-Some-cut_at-2.field-0.1.now h p s one.0 one.1 two.0 two.1 three.0 three.1 e

pub returns-in-None : goal.returns-in-None
returns-in-None c =
    let one = c.in-Some.ensures in
    let two = c.in-Some-cut_at.ensures in (
      three_pieces c.args.token.now c.in-Some.head.now c.in-Some.rest.now c.in-Some-cut_at.claims.now c.in-Some-cut_at.signature.now one.0 one.1 two.0 two.1 c.in-None.ensures,
      c.split_at.ensures.front ∙ before_second c.args.token.now c.in-Some.head.now c.in-Some.rest.now c.in-Some-cut_at.claims.now c.in-Some-cut_at.signature.now one.1 two.1,
    )
