-- What is read to its end is a body of the grammar.
use Rattle.std.proofs.Common.{◌≡◌, ℕ, zero, suc, ◌+◌, ◌*◌, ◌<◌, ◌≤◌, Bool, true, false, cond, eqb, ltb, ◌&&◌, List, [], ◌∷◌, ◌++◌, length, Some, None, ◌⊎◌, inl, inr, eqb-true, refl, sym, ap, ◌∙◌, subst, arith, append_assoc, length-append}
use Rattle.std.specs.List.{flat_map, list_all}
use Rattle.std.specs.Char.{digit_value}
use Rattle.std.specs.Str.Parse.{digits_value}
use Rattle.std.proofs.lemmas.Bool.{and_parts, and_from, ltb-true}
use Rattle.std.proofs.lemmas.Option.{cond_some}
use Rattle.gp_body.specs.declared.state.State.{State}
use Rattle.gp_body.specs.declared.state.State.TheVariants.{Left, Stream, Size, Extension, SizeReturn, Data, DataReturn, Trailer, Field, FieldReturn, LastReturn}
use Rattle.gp_body.specs.Steps.{is_hex, is_extension_byte, is_field_byte, after, after_size_line}
use Rattle.gp_body.specs.Bodies.{crlf, IsSizeLine, ChunkText, chunk_text, fields_text, SpellsChunks}
use Rattle.gp_body.proofs.GrammarComplete.{Ends}
use Rattle.gp_body.proofs.GrammarRest.{Trail, Block, Follows, InDigits, InExtension, AtLine, BehindData, InField, BehindField, BehindAll, Exactly, Rest, Fits}

-- a chunk in front of chunks
one_chunk : (line front c t : List ℕ) → IsSizeLine line (length front) → 0 < length front → SpellsChunks c t → SpellsChunks (front ++ c) (line ++ (front ++ 13 ∷ 10 ∷ t))
one_chunk line front c t is some more =
    let chunk : ChunkText = record { line = line; content = front } in
    let rest = more.last ++ (fields_text more.fields ++ crlf) in
    record {
      chunks = chunk ∷ more.chunks;
      last = more.last;
      fields = more.fields;
      bytes_are =
          ap (λ (x : List ℕ). line ++ (front ++ 13 ∷ 10 ∷ x)) more.bytes_are
          ∙ ap (λ (x : List ℕ). line ++ x) (sym (append_assoc front crlf (flat_map chunk_text more.chunks ++ rest)))
          ∙ sym (append_assoc line (front ++ crlf) (flat_map chunk_text more.chunks ++ rest))
          ∙ sym (append_assoc (chunk_text chunk) (flat_map chunk_text more.chunks) rest);
      content_is = ap (λ (x : List ℕ). front ++ x) more.content_is;
      are_chunks = ((is, some), more.are_chunks);
      ends = more.ends;
      are_fields = more.are_fields;
      bounded = more.bounded;
    }

last_chunk : (line : List ℕ) (c t : List ℕ) → IsSizeLine line 0 → Trail 0 c t → SpellsChunks c (line ++ t)
last_chunk line c t is trail = record {
  chunks = [];
  last = line;
  fields = trail.fields;
  bytes_are = ap (λ (x : List ℕ). line ++ x) trail.text;
  content_is = trail.content;
  are_chunks = tt;
  ends = is;
  are_fields = trail.are;
  bounded = omega (arith, trail.bounded);
}

by_size : (line : List ℕ) (size : ℕ) (c t : List ℕ) → IsSizeLine line size → Follows size c t → SpellsChunks c (line ++ t)
by_size line zero c t is follows = last_chunk line c t is follows
by_size line (suc k) c t is block =
    let sized : IsSizeLine line (length block.front) = rw block.len is in
    let spells = one_chunk line block.front block.c' block.t' sized (omega (arith, block.len)) block.more in
    rw (block.content, block.text) spells

-- from the start of a size line on
spelled : (c t : List ℕ) → InDigits 0 0 c t → SpellsChunks c t
spelled c t at =
    let line = at.digits ++ (at.extension ++ crlf) in
    let lengths : length line ≡ length at.digits + (length at.extension + 2) = length-append at.digits (at.extension ++ crlf) ∙ omega (arith, length-append at.extension crlf) in
    let is : IsSizeLine line (digits_value 16 at.digits) = record {
      digits = at.digits;
      extension = at.extension;
      line_is = refl;
      some = omega (arith, at.some);
      few = omega (arith, at.few);
      hex = at.hex;
      extends = at.extends;
      fits = omega (arith, lengths, at.fits);
      size_is = refl;
    } in
    let whole : line ++ at.t' ≡ t = append_assoc at.digits (at.extension ++ crlf) at.t' ∙ ap (λ (x : List ℕ). at.digits ++ x) (append_assoc at.extension crlf at.t') ∙ sym at.text in
    rw whole at (by_size line (digits_value 16 at.digits) c at.t' is at.follows)

-- which branch gave the next state
pub size_branch : (h l z r e : Bool) (x y w s : State) → cond h (cond l (Some x) None) (cond z None (cond r (Some y) (cond e (Some w) None))) ≡ Some s
    → ((h ≡ true) × (l ≡ true) × (x ≡ s)) ⊎ (((z ≡ false) × (r ≡ true) × (y ≡ s)) ⊎ ((z ≡ false) × (e ≡ true) × (w ≡ s)))
size_branch true true z r e x y w s same = inl (refl, refl, (cc))
size_branch true false z r e x y w s same = cc
size_branch false l true r e x y w s same = cc
size_branch false l false true e x y w s same = inr (inl (refl, refl, (cc)))
size_branch false l false false true x y w s same = inr (inr (refl, refl, (cc)))
size_branch false l false false false x y w s same = cc

pub byte_branch : (r a : Bool) (x y s : State) → cond r (Some x) (cond a (Some y) None) ≡ Some s → ((r ≡ true) × (x ≡ s)) ⊎ ((a ≡ true) × (y ≡ s))
byte_branch true a x y s same = inl (refl, (cc))
byte_branch false true x y s same = inr (refl, (cc))
byte_branch false false x y s same = cc

module _ (b : ℕ) (bs c : List ℕ) where
  digit_then : (d n : ℕ) → is_hex b ≡ true → InDigits (d + 1) (n * 16 + digit_value b) c bs → InDigits d n c (b ∷ bs)
  digit_then d n hex at = record {
    digits = b ∷ at.digits;
    extension = at.extension;
    t' = at.t';
    some = omega (arith, at.some);
    few = omega (arith, at.few);
    fits = omega (arith, at.fits);
    hex = and_from (is_hex b) (list_all is_hex at.digits) hex at.hex;
    extends = at.extends;
    text = ap (λ (x : List ℕ). b ∷ x) at.text;
    follows = at.follows;
  }

  line_then : (d n : ℕ) → 0 < d → d ≤ 8 → b ≡ 13 → AtLine n c bs → InDigits d n c (b ∷ bs)
  line_then d n some few return at = record {
    digits = [];
    extension = [];
    t' = at.t';
    some = omega arith;
    few = omega arith;
    fits = omega arith;
    hex = refl;
    extends = tt;
    text = rw return (ap (λ (x : List ℕ). 13 ∷ x) at.text);
    follows = at.follows;
  }

  extension_then : (d n : ℕ) → 0 < d → d ≤ 8 → b ≡ 59 → InExtension n (d + 1) c bs → InDigits d n c (b ∷ bs)
  extension_then d n some few semicolon at = record {
    digits = [];
    extension = b ∷ at.extension;
    t' = at.t';
    some = omega arith;
    few = omega arith;
    fits = omega (arith, at.fits);
    hex = refl;
    extends = (semicolon, at.bytes);
    text = ap (λ (x : List ℕ). b ∷ x) at.text;
    follows = at.follows;
  }

  byte_then : (n l : ℕ) → is_extension_byte b ≡ true → InExtension n (l + 1) c bs → InExtension n l c (b ∷ bs)
  byte_then n l byte at = record {
    extension = b ∷ at.extension;
    t' = at.t';
    bytes = and_from (is_extension_byte b) (list_all is_extension_byte at.extension) byte at.bytes;
    fits = omega (arith, at.fits);
    text = ap (λ (x : List ℕ). b ∷ x) at.text;
    follows = at.follows;
  }

  return_then : (n l : ℕ) → l ≤ 254 → b ≡ 13 → AtLine n c bs → InExtension n l c (b ∷ bs)
  return_then n l few return at = record {
    extension = [];
    t' = at.t';
    bytes = refl;
    fits = omega arith;
    text = rw return (ap (λ (x : List ℕ). 13 ∷ x) at.text);
    follows = at.follows;
  }

  data_then : (k : ℕ) (c' : List ℕ) → c ≡ b ∷ c' → Block k c' bs → Block (suc k) c (b ∷ bs)
  data_then k c' gives at = record {
    front = b ∷ at.front;
    c' = at.c';
    t' = at.t';
    len = omega (arith, at.len);
    content = gives ∙ ap (λ (x : List ℕ). b ∷ x) at.content;
    text = ap (λ (x : List ℕ). b ∷ x) at.text;
    more = at.more;
  }

  close_then : b ≡ 13 → BehindData c bs → Block 0 c (b ∷ bs)
  close_then return at = record {
    front = [];
    c' = c;
    t' = at.t';
    len = refl;
    content = refl;
    text = rw return (ap (λ (x : List ℕ). 13 ∷ x) at.text);
    more = at.more;
  }

  last_then : (k : ℕ) → k ≤ 16384 → b ≡ 13 → BehindAll c bs → Trail k c (b ∷ bs)
  last_then k few return at = record {
    fields = [];
    are = tt;
    bounded = omega arith;
    content = at.content;
    text = rw return (ap (λ (x : List ℕ). 13 ∷ x) at.text);
  }

  field_then : (k : ℕ) → is_field_byte b ≡ true → InField (k + 1) c bs → Trail k c (b ∷ bs)
  field_then k byte at =
      let lengths : length (fields_text ((b ∷ at.front) ∷ at.fields)) ≡ length at.front + 3 + length (fields_text at.fields) =
      length-append ((b ∷ at.front) ++ crlf) (fields_text at.fields) ∙ omega (arith, length-append (b ∷ at.front) crlf) in
      record {
        fields = (b ∷ at.front) ∷ at.fields;
        are = ((omega arith, and_from (is_field_byte b) (list_all is_field_byte at.front) byte at.bytes), at.are);
        bounded = omega (arith, lengths, at.bounded);
        content = at.content;
        text = ap (λ (x : List ℕ). b ∷ x) at.text ∙ sym (append_assoc (b ∷ at.front) crlf (fields_text at.fields ++ crlf)) ∙ sym (append_assoc ((b ∷ at.front) ++ crlf) (fields_text at.fields) crlf);
      }

  inside_then : (k : ℕ) → is_field_byte b ≡ true → InField (k + 1) c bs → InField k c (b ∷ bs)
  inside_then k byte at = record {
    front = b ∷ at.front;
    fields = at.fields;
    bytes = and_from (is_field_byte b) (list_all is_field_byte at.front) byte at.bytes;
    are = at.are;
    bounded = omega (arith, at.bounded);
    content = at.content;
    text = ap (λ (x : List ℕ). b ∷ x) at.text;
  }

  field_end_then : (k : ℕ) → b ≡ 13 → BehindField k c bs → InField k c (b ∷ bs)
  field_end_then k return at = record {
    front = [];
    fields = at.fields;
    bytes = refl;
    are = at.are;
    bounded = omega (arith, at.bounded);
    content = at.content;
    text = rw return (ap (λ (x : List ℕ). 13 ∷ x) at.text);
  }

  fields_then : (k : ℕ) → b ≡ 10 → Trail (k + 2) c bs → BehindField k c (b ∷ bs)
  fields_then k feed at = record {
    fields = at.fields;
    are = at.are;
    bounded = omega (arith, at.bounded);
    content = at.content;
    text = rw feed (ap (λ (x : List ℕ). 10 ∷ x) at.text);
  }

  end_then : b ≡ 10 → Exactly 0 c bs → BehindAll c (b ∷ bs)
  end_then feed at = let none : bs ≡ [] = empty bs at.len in record {
    content = at.same ∙ none;
    text = rw feed (ap (λ (x : List ℕ). 10 ∷ x) none);
  }
    where
      empty : (xs : List ℕ) → length xs ≡ 0 → xs ≡ []
      empty [] e = refl
      empty (x ∷ xs) e = absurd (omega arith)

follows_of : (n : ℕ) (c t : List ℕ) → Rest (after_size_line n) c t → Follows n c t
follows_of zero c t rest = rest
follows_of (suc n) c t rest = rest

pub line_fits : (n : ℕ) → Fits (after_size_line n)
line_fits zero = omega arith
line_fits (suc n) = tt

pub back : (s s' : State) (c bs : List ℕ) → s ≡ s' → Ends s' c bs → Ends s c bs
back s s' c bs same ends = subst (λ (x : State). Ends x c bs) (sym same) ends

same_byte : (b n : ℕ) → eqb b n ≡ true → b ≡ n
same_byte b n e = eqb-true b n e

not_zero : (d : ℕ) → eqb d 0 ≡ false → 0 < d
not_zero zero e = cc
not_zero (suc d) e = omega arith

sound : (t : List ℕ) (s : State) (c : List ℕ) → Fits s → Ends s c t → Rest s c t
unfolding after
sound [] (Left zero) c fits ends = record { same = ends.1; len = refl }
sound [] (Left (suc k)) c fits ends = cc ends.0
sound [] Stream c fits ends = tt
sound [] (Size d n) c fits ends = cc ends.0
sound [] (Extension n l) c fits ends = cc ends.0
sound [] (SizeReturn n) c fits ends = cc ends.0
sound [] (Data k) c fits ends = cc ends.0
sound [] DataReturn c fits ends = cc ends.0
sound [] (Trailer k) c fits ends = cc ends.0
sound [] (Field k) c fits ends = cc ends.0
sound [] (FieldReturn k) c fits ends = cc ends.0
sound [] LastReturn c fits ends = cc ends.0
sound (b ∷ bs) (Left zero) c fits (s', c', goes, ends) = cc goes.next
sound (b ∷ bs) (Left (suc k)) c fits (s', c', goes, ends) =
    let next = goes.next in
    let at : Exactly k c' bs = sound bs (Left k) c' tt (back (Left k) s' c' bs (cc) ends) in
    record { same = goes.content ∙ ap (λ (x : List ℕ). b ∷ x) at.same; len = omega (arith, at.len) }
sound (b ∷ bs) Stream c fits (s', c', goes, ends) = tt
sound (b ∷ bs) (Size d n) c fits (s', c', goes, ends) =
    subst (λ (x : List ℕ). InDigits d n x (b ∷ bs)) (sym goes.content) (
    elim (size_branch (is_hex b) (ltb d 8) (eqb d 0) (eqb b 13) (eqb b 59) (Size (d + 1) (n * 16 + digit_value b)) (SizeReturn n) (Extension n (d + 1)) s' goes.next) [
      | inl h ↦ digit_then b bs c' d n h.0 (sound bs (Size (d + 1) (n * 16 + digit_value b)) c' (omega (arith, ltb-true d 8 h.1)) (back _ s' c' bs h.2 ends))
      | inr h ↦ elim h [
        | inl r ↦ line_then b bs c' d n (not_zero d r.0) fits (same_byte b 13 r.1) (sound bs (SizeReturn n) c' tt (back _ s' c' bs r.2 ends))
        | inr e ↦ extension_then b bs c' d n (not_zero d e.0) fits (same_byte b 59 e.1) (sound bs (Extension n (d + 1)) c' (omega arith) (back _ s' c' bs e.2 ends))
      ]
    ])
sound (b ∷ bs) (Extension n l) c fits (s', c', goes, ends) =
    subst (λ (x : List ℕ). InExtension n l x (b ∷ bs)) (sym goes.content) (
    elim (byte_branch (eqb b 13) (is_extension_byte b && ltb l 254) (SizeReturn n) (Extension n (l + 1)) s' goes.next) [
      | inl r ↦ return_then b bs c' n l fits (same_byte b 13 r.0) (sound bs (SizeReturn n) c' tt (back _ s' c' bs r.1 ends))
      | inr e ↦ let parts = and_parts (is_extension_byte b) (ltb l 254) e.0 in
          byte_then b bs c' n l parts.0 (sound bs (Extension n (l + 1)) c' (omega (arith, ltb-true l 254 parts.1)) (back _ s' c' bs e.1 ends))
    ])
sound (b ∷ bs) (SizeReturn n) c fits (s', c', goes, ends) =
    let h = cond_some (eqb b 10) (after_size_line n) s' goes.next in
    let at = sound bs (after_size_line n) c' (line_fits n) (back _ s' c' bs h.1 ends) in
    record { t' = bs; text = ap (λ (x : ℕ). x ∷ bs) (same_byte b 10 h.0); follows = rw goes.content (follows_of n c' bs at) }
sound (b ∷ bs) (Data zero) c fits (s', c', goes, ends) =
    let h = cond_some (eqb b 13) DataReturn s' goes.next in
    subst (λ (x : List ℕ). Block 0 x (b ∷ bs)) (sym goes.content) (close_then b bs c' (same_byte b 13 h.0) (sound bs DataReturn c' tt (back _ s' c' bs h.1 ends)))
sound (b ∷ bs) (Data (suc k)) c fits (s', c', goes, ends) =
    let next = goes.next in
    data_then b bs c k c' goes.content (sound bs (Data k) c' tt (back (Data k) s' c' bs (cc) ends))
sound (b ∷ bs) DataReturn c fits (s', c', goes, ends) =
    let h = cond_some (eqb b 10) (Size 0 0) s' goes.next in
    let at = sound bs (Size 0 0) c' (omega arith) (back _ s' c' bs h.1 ends) in
    record { t' = bs; text = ap (λ (x : ℕ). x ∷ bs) (same_byte b 10 h.0); more = rw goes.content (spelled c' bs at) }
sound (b ∷ bs) (Trailer k) c fits (s', c', goes, ends) =
    subst (λ (x : List ℕ). Trail k x (b ∷ bs)) (sym goes.content) (
    elim (byte_branch (eqb b 13) (is_field_byte b && ltb k 16382) LastReturn (Field (k + 1)) s' goes.next) [
      | inl r ↦ last_then b bs c' k fits (same_byte b 13 r.0) (sound bs LastReturn c' tt (back _ s' c' bs r.1 ends))
      | inr e ↦ let parts = and_parts (is_field_byte b) (ltb k 16382) e.0 in
          field_then b bs c' k parts.0 (sound bs (Field (k + 1)) c' (omega (arith, ltb-true k 16382 parts.1)) (back _ s' c' bs e.1 ends))
    ])
sound (b ∷ bs) (Field k) c fits (s', c', goes, ends) =
    subst (λ (x : List ℕ). InField k x (b ∷ bs)) (sym goes.content) (
    elim (byte_branch (eqb b 13) (is_field_byte b && ltb k 16382) (FieldReturn k) (Field (k + 1)) s' goes.next) [
      | inl r ↦ field_end_then b bs c' k (same_byte b 13 r.0) (sound bs (FieldReturn k) c' fits (back _ s' c' bs r.1 ends))
      | inr e ↦ let parts = and_parts (is_field_byte b) (ltb k 16382) e.0 in
          inside_then b bs c' k parts.0 (sound bs (Field (k + 1)) c' (omega (arith, ltb-true k 16382 parts.1)) (back _ s' c' bs e.1 ends))
    ])
sound (b ∷ bs) (FieldReturn k) c fits (s', c', goes, ends) =
    let h = cond_some (eqb b 10) (Trailer (k + 2)) s' goes.next in
    subst (λ (x : List ℕ). BehindField k x (b ∷ bs)) (sym goes.content) (fields_then b bs c' k (same_byte b 10 h.0) (sound bs (Trailer (k + 2)) c' (omega arith) (back _ s' c' bs h.1 ends)))
sound (b ∷ bs) LastReturn c fits (s', c', goes, ends) =
    let h = cond_some (eqb b 10) (Left 0) s' goes.next in
    subst (λ (x : List ℕ). BehindAll x (b ∷ bs)) (sym goes.content) (end_then b bs c' (same_byte b 10 h.0) (sound bs (Left 0) c' tt (back _ s' c' bs h.1 ends)))

-- what is read to its end is a chunked body
pub spells_chunks : (c t : List ℕ) → Ends (Size 0 0) c t → SpellsChunks c t
spells_chunks c t ends = spelled c t (sound t (Size 0 0) c (omega arith) ends)

-- so many bytes, read to their end
pub exactly : (n : ℕ) (c t : List ℕ) → Ends (Left n) c t → (c ≡ t) × (length t ≡ n)
exactly n c t ends = let at = sound t (Left n) c tt ends in (at.same, at.len)
