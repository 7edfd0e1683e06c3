use Rattle.std.proofs.Common.{◌≡◌, ◌++◌, ◌∷◌, [], ℕ, List, codes, ap, sym, ◌∙◌, append_assoc}
use Rattle.std.proofs.lemmas.Result.{IfOk-weaker}
use Rattle.gp_plain.specs.declared.event.HoldSpec.{HoldSpec}
use Rattle.gp_script.specs.Spelling.{joined, word, names_word, id_word}
use Rattle.gp_script.specs.Lines.{spec_words}
use Rattle.gp_script.proofs.events.spec_line.Goals as goal

-- six words, added one by one
six : (a b c d e f : List ℕ) (l1 l2 l3 l4 l5 : List ℕ) → l1 ≡ a ++ 32 ∷ b → l2 ≡ l1 ++ 32 ∷ c → l3 ≡ l2 ++ 32 ∷ d → l4 ≡ l3 ++ 32 ∷ e → l5 ≡ l4 ++ 32 ∷ f → l5 ≡ joined (a ∷ b ∷ c ∷ d ∷ e ∷ f ∷ [])
six a b c d e f l1 l2 l3 l4 l5 p q r s t =
    let x1 = a ++ 32 ∷ b in
    let x2 = x1 ++ 32 ∷ c in
    let x3 = x2 ++ 32 ∷ d in
    t ∙ ap (λ l. l ++ 32 ∷ f) (s ∙ ap (λ l. l ++ 32 ∷ e) (r ∙ ap (λ l. l ++ 32 ∷ d) (q ∙ ap (λ l. l ++ 32 ∷ c) p)))
    ∙ append_assoc x3 (32 ∷ e) (32 ∷ f) ∙ append_assoc x2 (32 ∷ d) (32 ∷ (e ++ 32 ∷ f)) ∙ append_assoc x1 (32 ∷ c) (32 ∷ (d ++ 32 ∷ (e ++ 32 ∷ f)))
    ∙ append_assoc a (32 ∷ b) (32 ∷ (c ++ 32 ∷ (d ++ 32 ∷ (e ++ 32 ∷ f))))

pub returns-in_ok-word-in-Stream-2 : goal.returns-in_ok-word-in-Stream-2
returns-in_ok-word-in-Stream-2 c =
    IfOk-weaker c.bytes-in-Stream-5.result _ _
    (λ line t.
    six (codes "attach") (codes "stream") _ _ _ _ c.in_ok-word-in-Stream.field-0 c.in_ok-bytes-in-Stream.field-0 c.in_ok-bytes-in-Stream-2.field-0 c.in_ok-word-in-Stream-2.field-0 line
    (c.in_ok-word-in-Stream.ensures ∙ ap (λ l. l ++ 32 ∷ codes "stream") c.in_ok-line.ensures)
    (c.in_ok-bytes-in-Stream.ensures ∙ ap (λ x. c.in_ok-word-in-Stream.field-0 ++ 32 ∷ word x) c.bytes.ensures.bytes)
    (c.in_ok-bytes-in-Stream-2.ensures ∙ ap (λ x. c.in_ok-bytes-in-Stream.field-0 ++ 32 ∷ word x) c.bytes-in-Stream-2.ensures.bytes)
    (c.in_ok-word-in-Stream-2.ensures ∙ ap (λ x. c.in_ok-bytes-in-Stream-2.field-0 ++ 32 ∷ x) c.link_word.ensures)
    (t ∙ ap (λ x. c.in_ok-word-in-Stream-2.field-0 ++ 32 ∷ word x) c.bytes-in-Stream-4.ensures)
    ∙ ap (λ (s : HoldSpec). joined (spec_words s)) (sym c.in-Stream.is))
    c.bytes-in-Stream-5.ensures

pub returns-in_ok-number-in-Response : goal.returns-in_ok-number-in-Response
returns-in_ok-number-in-Response c =
    IfOk-weaker c.word-in-Response-2.result _ _
    (λ line t.
    six (codes "attach") (codes "response") _ _ _ _ c.in_ok-word-in-Response.field-0 c.in_ok-names-in-Response.field-0 c.in_ok-id-in-Response.field-0 c.in_ok-number-in-Response.field-0 line
    (c.in_ok-word-in-Response.ensures ∙ ap (λ l. l ++ 32 ∷ codes "response") c.in_ok-line.ensures)
    (c.in_ok-names-in-Response.ensures ∙ ap (λ x. c.in_ok-word-in-Response.field-0 ++ 32 ∷ names_word x) c.as_slice-in-Response.ensures)
    (c.in_ok-id-in-Response.ensures ∙ ap (λ x. c.in_ok-names-in-Response.field-0 ++ 32 ∷ id_word x) c.as_ref.ensures.value)
    c.in_ok-number-in-Response.ensures
    (t ∙ ap (λ x. c.in_ok-number-in-Response.field-0 ++ 32 ∷ x) c.again_word.ensures)
    ∙ ap (λ (s : HoldSpec). joined (spec_words s)) (sym c.in-Response.is))
    c.word-in-Response-2.ensures
