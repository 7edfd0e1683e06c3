-- A target has one path and query.
use Rattle.std.proofs.Common.{◌≡◌, ℕ, List, ◌++◌, get_or, Option, Some, None, IsTrue, sym, ap, ◌∙◌, subst, inl, inr}
use Rattle.std.proofs.lemmas.List.{append_cancel_left}
use Rattle.http_uri.specs.ByteClasses.{is_delimiter}
use Rattle.http_uri.specs.Grammar.{IsTail, IsAbsoluteForm, or_slash}
use Rattle.http_uri.proofs.UriLemmas.{cut_rest, cut_authority, cut_first}
use Rattle.gp_head.specs.Targets.{IsSplit}

-- what is kept of what follows an authority
one_tail : (tail x y : List ℕ) → IsTail tail x → IsTail tail y → x ≡ y
one_tail tail x y (inl h) (inl k) = h.1 ∙ sym k.1
one_tail tail x y (inl h) (inr k) = let mark = subst (λ t. IsTrue (is_delimiter (get_or t 0 0))) h.0 k.0 in cc
one_tail tail x y (inr h) (inl k) = let mark = subst (λ t. IsTrue (is_delimiter (get_or t 0 0))) k.0 h.0 in cc
one_tail tail x y (inr h) (inr k) = h.2 ∙ sym k.2

-- what is kept of a target with a scheme
one_kept : (text s a k t b m : List ℕ) → IsAbsoluteForm text s a k → IsAbsoluteForm text t b m → k ≡ m
one_kept text s a k t b m h g =
    let rest = sym (cut_rest text s a k h) ∙ cut_rest text t b m g in
    let authority : a ≡ b = sym (cut_authority text s a k h) ∙ rw rest (cut_authority text t b m g) in
    let tail : h.tail ≡ g.tail = append_cancel_left a h.tail g.tail (rest ∙ ap (λ xs. xs ++ g.tail) (sym authority)) in
    one_tail g.tail k m (subst (λ xs. IsTail xs k) tail h.is_tail) g.is_tail

pub one_path : (target p q : List ℕ) (a b : Option (List ℕ)) → IsSplit target p a → IsSplit target q b → p ≡ q
one_path target p q None None h k = h.2 ∙ ap or_slash (h.1.1.1.1 ∙ sym k.1.1.1.1) ∙ sym k.2
one_path target p q None (Some b) h k = absurd (cut_first target k.1.0 b k.0 k.1.2.1 h.1.0)
one_path target p q (Some a) None h k = absurd (cut_first target h.1.0 a h.0 h.1.2.1 k.1.0)
one_path target p q (Some a) (Some b) h k = h.2 ∙ ap or_slash (one_kept target h.1.0 a h.0 k.1.0 b k.0 h.1.2.1 k.1.2.1) ∙ sym k.2
