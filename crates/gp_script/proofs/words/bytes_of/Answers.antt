use Rattle.std.proofs.Common.{◌≡◌, ◌++◌, ℕ, List, [], false, codes, eqb, sym, ap, ◌∙◌, subst}
use Rattle.std.proofs.lemmas.Bool.{cond-false}
use Rattle.std.specs.List.{list_any}
use Rattle.percent_encoding.specs.Percent.{percent_decode}
use Rattle.gp_script.specs.Guess.{is_word}
use Rattle.gp_script.specs.Lines.{IsBytes}
use Rattle.gp_script.proofs.Escapes.{no_percent}
use Rattle.gp_script.proofs.words.bytes_of.Goals as goal
use Rattle.gp_script.proofs.words.bytes_of.Goals.{then-contains+in_ok-append_to, else-contains+in_ok-extend_from_slice}

onto_nothing : (xs ys : List ℕ) → xs ≡ [] → xs ++ ys ≡ ys
onto_nothing xs ys none = ap (λ zs. zs ++ ys) none

decoded : (c : goal.Joined-contains) → c.if-contains.bytes.items ≡ percent_decode c.args.word.now
decoded c =
    elim c.if-contains.branch [
      | then-contains+in_ok-append_to w ↦
          ap (λ v. v.items) w.bytes-is ∙ w.in_ok-append_to.ensures.ok ∙ onto_nothing _ _ c.in_ok-bytes.ensures.items ∙ c.percent_decode-decoded.ensures.bytes
      | else-contains+in_ok-extend_from_slice w ↦
          let none : list_any (λ b. eqb b 37) c.args.word.now ≡ false = sym c.contains.ensures.value ∙ w.if-contains.false in
          ap (λ v. v.items) w.bytes-is ∙ w.in_ok-extend_from_slice.ensures.items ∙ onto_nothing _ _ c.in_ok-bytes.ensures.items ∙ sym (no_percent c.args.word.now none)
    ]

pub returns-clause-ok : goal.returns-clause-ok
returns-clause-ok c =
    let other : is_word c.args.word.now (codes "!") ≡ false = ap (is_word c.args.word.now) (sym c.as_slice.ensures) ∙ sym c.eq.ensures ∙ c.if-eq.false in
    decoded c ∙ sym (cond-false _ _ _ other)

pub returns-clause-small : goal.returns-clause-small
returns-clause-small c = subst IsBytes (c.percent_decode-decoded.ensures.bytes ∙ sym (decoded c)) c.percent_decode-decoded.ensures.small
