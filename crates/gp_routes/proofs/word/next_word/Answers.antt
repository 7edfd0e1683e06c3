use Rattle.std.proofs.Common.{◌∷◌, sym, ◌∙◌}
use Rattle.std.proofs.lemmas.Bool.{eqb-true, eqb-false}
use Rattle.gp_routes.specs.Words.{words_of}
use Rattle.gp_routes.proofs.WordLemmas.{no_word, a_word}
use Rattle.gp_routes.proofs.word.next_word.Goals as goal

pub returns-then-is_empty : goal.returns-then-is_empty
returns-then-is_empty c =
    no_word c.args.text.now c.blanks_len.result c.blanks_len.ensures.value (eqb-true _ 0 (sym c.is_empty.ensures ∙ c.if-is_empty.true))

pub returns : goal.returns
returns c =
    let found = a_word c.args.text.now c.blanks_len.result c.word_len.result c.blanks_len.ensures.value (eqb-false _ 0 (sym c.is_empty.ensures ∙ c.if-is_empty.false)) c.word_len.ensures.value in
    let front = c.split_at.ensures.front in
    let back = c.split_at.ensures.back in
    found ∙ (λ i. sym front i ∷ words_of (sym back i))
