-- The heads of refusals as they are written out, and fields that are added behind a text.
use Rattle.std.proofs.Common.{◌≡◌, ℕ, List, [], ◌∷◌, ◌++◌, codes, refl, sym, ap, ◌∙◌}
use Rattle.std.specs.List.{flat_map}
use Rattle.std.specs.Fmt.{digits}
use Rattle.std.proofs.lemmas.List.{append_assoc, append-nil}
use Rattle.gp_plain.specs.declared.item.Field.{Field}
use Rattle.gp_head.specs.Texts.{field_text, response_text}
use Rattle.gp_answer.specs.Refusals.{published_head}

pub one_added : (t : List ℕ) (a : Field) → t ++ field_text a ≡ t ++ flat_map field_text (a ∷ [])
one_added t a = ap (λ x. t ++ x) (sym (append-nil (field_text a)))

pub two_added : (t : List ℕ) (a b : Field) → (t ++ field_text a) ++ field_text b ≡ t ++ flat_map field_text (a ∷ b ∷ [])
two_added t a b = append_assoc t (field_text a) (field_text b) ∙ ap (λ x. t ++ (field_text a ++ x)) (sym (append-nil (field_text b)))

pub published : codes "HTTP/1.1 200 OK\r\ncontent-type: text/plain\r\ncontent-length: 10\r\nconnection: close\r\n\r\n" ≡ response_text published_head
unfolding digits
published = refl
