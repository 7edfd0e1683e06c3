-- Wherever a body is read to, it can go on to its end.
use Rattle.std.proofs.Common.{◌≡◌, ℕ, zero, suc, ◌+◌, ◌*◌, ◌≤◌, false, eqb, ltb, ◌&&◌, List, [], ◌∷◌, ◌++◌, length, Some, inl, inr, refl, ap, subst, arith, append-nil}
use Rattle.std.specs.Char.{digit_value}
use Rattle.std.proofs.lemmas.Bool.{and_parts, ltb-true}
use Rattle.std.proofs.lemmas.Option.{cond_some}
use Rattle.gp_body.specs.declared.state.State.{State}
use Rattle.gp_body.specs.declared.state.State.TheVariants.{Left, Stream, Size, Extension, SizeReturn, Data, DataReturn, Trailer, Field, FieldReturn, LastReturn}
use Rattle.gp_body.specs.Steps.{is_hex, is_extension_byte, is_field_byte, after, after_size_line}
use Rattle.gp_body.specs.Bodies.{crlf}
use Rattle.gp_body.proofs.EndLemmas.{is_stream}
use Rattle.gp_body.proofs.GrammarComplete.{Ends, framed, ends_line, ends_extension, ends_data, ends_fields}
use Rattle.gp_body.proofs.GrammarRest.{Fits}
use Rattle.gp_body.proofs.GrammarSound.{size_branch, byte_branch, line_fits}

unfoldable pub filled : ℕ → ℕ → List ℕ
filled b zero = []
filled b (suc k) = b ∷ filled b k

filled-len : (b k : ℕ) → length (filled b k) ≡ k
unfolding filled
filled-len b zero = refl
filled-len b (suc k) = ap suc (filled-len b k)

-- some text goes on from here to the end, whose content is this byte, so many times
pub record CanEnd (fill : ℕ) (s : State) : Type 0 where
  pub count : ℕ
  pub text : List ℕ
  pub ends : Ends s (filled fill count) text

from_trailer : (k : ℕ) → k ≤ 16384 → Ends (Trailer k) [] crlf
from_trailer k few = ends_fields [] k tt (omega arith)

from_size : (n : ℕ) → Ends (Size 0 0) [] (48 ∷ 13 ∷ 10 ∷ crlf)
unfolding after
from_size n = framed (Size 0 0) (Size 1 0) 48 [] (13 ∷ 10 ∷ crlf) refl refl (ends_line [] 1 0 [] crlf tt (omega arith) (omega arith) (from_trailer 0 (omega arith)))

pub ends_left : (ds : List ℕ) → Ends (Left (length ds)) ds ds
unfolding after
ends_left [] = (refl, refl)
ends_left (x ∷ ds) = (Left (length ds), ds, record { next = refl; content = refl }, ends_left ds)

module _ (b : ℕ) where
  from_data : (k : ℕ) → CanEnd b (Data k)
  unfolding after
  from_data k =
      let rest = 48 ∷ 13 ∷ 10 ∷ crlf in
      let close : Ends (Data 0) [] (13 ∷ 10 ∷ rest) = framed (Data 0) DataReturn 13 [] (10 ∷ rest) refl refl (framed DataReturn (Size 0 0) 10 [] rest refl refl (from_size 0)) in
      let all : filled b k ++ [] ≡ filled b k = append-nil (filled b k) in
      record { count = k; text = filled b k ++ 13 ∷ 10 ∷ rest; ends = rw (filled-len b k, all) at (ends_data (filled b k) [] (13 ∷ 10 ∷ rest) close) }

  none_more : (s : State) (text : List ℕ) → Ends s [] text → CanEnd b s
  unfolding filled
  none_more s text ends = record { count = 0; text = text; ends = ends }

  from_line : (n : ℕ) → CanEnd b (after_size_line n)
  from_line zero = none_more (Trailer 0) crlf (from_trailer 0 (omega arith))
  from_line (suc n) = from_data (suc n)

  pub can_end : (s : State) → Fits s → is_stream s ≡ false → CanEnd b s
  unfolding after
  can_end (Left k) fits framing = record { count = k; text = filled b k; ends = rw (filled-len b k) at (ends_left (filled b k)) }
  can_end Stream fits framing = cc
  can_end (Size zero n) fits framing =
      let at = from_line (n * 16 + 0) in
      record { count = at.count; text = 48 ∷ 13 ∷ 10 ∷ at.text; ends = framed (Size 0 n) (Size 1 (n * 16 + 0)) 48 (filled b at.count) (13 ∷ 10 ∷ at.text) refl refl (ends_line [] 1 (n * 16 + 0) (filled b at.count) at.text tt (omega arith) (omega arith) at.ends) }
  can_end (Size (suc d) n) fits framing =
      let at = from_line n in
      record { count = at.count; text = 13 ∷ 10 ∷ at.text; ends = ends_line [] (suc d) n (filled b at.count) at.text tt (omega arith) (omega arith) at.ends }
  can_end (Extension n l) fits framing =
      let at = from_line n in
      record { count = at.count; text = 13 ∷ 10 ∷ at.text; ends = ends_extension [] n l (filled b at.count) (10 ∷ at.text) refl (omega arith) (framed (SizeReturn n) (after_size_line n) 10 (filled b at.count) at.text refl refl at.ends) }
  can_end (SizeReturn n) fits framing =
      let at = from_line n in
      record { count = at.count; text = 10 ∷ at.text; ends = framed (SizeReturn n) (after_size_line n) 10 (filled b at.count) at.text refl refl at.ends }
  can_end (Data k) fits framing = from_data k
  can_end DataReturn fits framing = none_more DataReturn (10 ∷ 48 ∷ 13 ∷ 10 ∷ crlf) (framed DataReturn (Size 0 0) 10 [] (48 ∷ 13 ∷ 10 ∷ crlf) refl refl (from_size 0))
  can_end (Trailer k) fits framing = none_more (Trailer k) crlf (from_trailer k fits)
  can_end (Field k) fits framing =
      none_more (Field k) (13 ∷ 10 ∷ crlf) (framed (Field k) (FieldReturn k) 13 [] (10 ∷ crlf) refl refl (framed (FieldReturn k) (Trailer (k + 2)) 10 [] crlf refl refl (from_trailer (k + 2) (omega arith))))
  can_end (FieldReturn k) fits framing = none_more (FieldReturn k) (10 ∷ crlf) (framed (FieldReturn k) (Trailer (k + 2)) 10 [] crlf refl refl (from_trailer (k + 2) (omega arith)))
  can_end LastReturn fits framing = none_more LastReturn (10 ∷ []) (framed LastReturn (Left 0) 10 [] [] refl refl (refl, refl))

along : (s s' : State) → s ≡ s' → Fits s → Fits s'
along s s' same fits = subst Fits same fits

-- the bounds are kept
pub after_fits : (s s' : State) (b : ℕ) → Fits s → after s b ≡ Some s' → Fits s'
unfolding after
after_fits (Left zero) s' b fits next = cc
after_fits (Left (suc n)) s' b fits next = along (Left n) s' (cc) tt
after_fits Stream s' b fits next = along Stream s' (cc) tt
after_fits (Size d n) s' b fits next =
    elim (size_branch (is_hex b) (ltb d 8) (eqb d 0) (eqb b 13) (eqb b 59) (Size (d + 1) (n * 16 + digit_value b)) (SizeReturn n) (Extension n (d + 1)) s' next) [
      | inl h ↦ along _ s' h.2 (omega (arith, ltb-true d 8 h.1))
      | inr h ↦ elim h [ inl r ↦ along _ s' r.2 tt | inr e ↦ along _ s' e.2 (omega arith) ]
    ]
after_fits (Extension n l) s' b fits next =
    elim (byte_branch (eqb b 13) (is_extension_byte b && ltb l 254) (SizeReturn n) (Extension n (l + 1)) s' next) [
      | inl r ↦ along _ s' r.1 tt
      | inr e ↦ along _ s' e.1 (omega (arith, ltb-true l 254 (and_parts (is_extension_byte b) (ltb l 254) e.0).1))
    ]
after_fits (SizeReturn n) s' b fits next = along _ s' (cond_some (eqb b 10) (after_size_line n) s' next).1 (line_fits n)
after_fits (Data zero) s' b fits next = along _ s' (cond_some (eqb b 13) DataReturn s' next).1 tt
after_fits (Data (suc n)) s' b fits next = along (Data n) s' (cc) tt
after_fits DataReturn s' b fits next = along _ s' (cond_some (eqb b 10) (Size 0 0) s' next).1 (omega arith)
after_fits (Trailer k) s' b fits next =
    elim (byte_branch (eqb b 13) (is_field_byte b && ltb k 16382) LastReturn (Field (k + 1)) s' next) [
      | inl r ↦ along _ s' r.1 tt
      | inr e ↦ along _ s' e.1 (omega (arith, ltb-true k 16382 (and_parts (is_field_byte b) (ltb k 16382) e.0).1))
    ]
after_fits (Field k) s' b fits next =
    elim (byte_branch (eqb b 13) (is_field_byte b && ltb k 16382) (FieldReturn k) (Field (k + 1)) s' next) [
      | inl r ↦ along _ s' r.1 fits
      | inr e ↦ along _ s' e.1 (omega (arith, ltb-true k 16382 (and_parts (is_field_byte b) (ltb k 16382) e.0).1))
    ]
after_fits (FieldReturn k) s' b fits next = along _ s' (cond_some (eqb b 10) (Trailer (k + 2)) s' next).1 (omega arith)
after_fits LastReturn s' b fits next = along _ s' (cond_some (eqb b 10) (Left 0) s' next).1 tt
