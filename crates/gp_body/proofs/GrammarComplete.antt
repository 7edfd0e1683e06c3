-- Each body of the grammar is read to its end.
use Rattle.std.proofs.Common.{◌≡◌, ℕ, ◌+◌, ◌*◌, ◌<◌, ◌≤◌, Bool, true, false, cond, not, eqb, ltb, List, [], ◌∷◌, ◌++◌, length, Some, eqb-true, refl, ap, ◌∙◌, arith, append_assoc, length-append}
use Rattle.std.specs.List.{flat_map, list_all}
use Rattle.std.specs.Char.{digit_value}
use Rattle.std.specs.Str.Parse.{digits_value, digits_value_after}
use Rattle.std.proofs.lemmas.Bool.{and_parts, lt-ltb, ne_eqb, not-true}
use Rattle.gp_body.specs.declared.state.State.{State}
use Rattle.gp_body.specs.declared.state.State.TheVariants.{Left, Size, Extension, SizeReturn, Data, DataReturn, Trailer, Field, FieldReturn, LastReturn}
use Rattle.gp_body.specs.Steps.{is_end, is_content, is_hex, is_extension_byte, is_field_byte, after, after_size_line}
use Rattle.gp_body.specs.Bodies.{crlf, IsExtension, IsSizeLine, ChunkText, AreChunks, chunk_text, IsField, AreFields, fields_text, SpellsChunks}

-- the byte, where it is content
abbrev pub content_byte : State → ℕ → List ℕ
content_byte s b = cond (is_content s) (b ∷ []) []

-- one byte on
pub record Goes (s : State) (b : ℕ) (c : List ℕ) (s' : State) (c' : List ℕ) : Type 0 where
  pub next : after s b ≡ Some s'
  pub content : c ≡ content_byte s b ++ c'

-- from here the text goes on to the end of the body, and this is its content
abbrev pub Ends : State → List ℕ → List ℕ → Type 0
Ends s c [] = (is_end s ≡ true) × (c ≡ [])
Ends s c (b ∷ bs) = (s' : State) × (c' : List ℕ) × Goes s b c s' c' × Ends s' c' bs

-- a byte that isn't content
pub framed : (s s' : State) (b : ℕ) (c bs : List ℕ) → after s b ≡ Some s' → is_content s ≡ false → Ends s' c bs → Ends s c (b ∷ bs)
framed s s' b c bs next framing ends = (s', c, record { next = next; content = rw framing refl }, ends)

ends_digits : (ds : List ℕ) (d n : ℕ) (c rest : List ℕ) → list_all is_hex ds ≡ true → d + length ds ≤ 8 → Ends (Size (d + length ds) (digits_value_after 16 n ds)) c rest → Ends (Size d n) c (ds ++ rest)
unfolding after
ends_digits [] d n c rest hex few ends = let same : d + 0 ≡ d = omega arith in rw same at ends
ends_digits (x ∷ ds) d n c rest hex few ends =
    let parts = and_parts (is_hex x) (list_all is_hex ds) hex in
    let room : ltb d 8 ≡ true = lt-ltb d 8 (omega arith) in
    let count : d + length (x ∷ ds) ≡ d + 1 + length ds = omega arith in
    framed (Size d n) (Size (d + 1) (n * 16 + digit_value x)) x c (ds ++ rest) (rw (parts.0, room) refl) refl
    (ends_digits ds (d + 1) (n * 16 + digit_value x) c rest parts.1 (omega arith) (rw count at ends))

not_return : (x : ℕ) → is_extension_byte x ≡ true → eqb x 13 ≡ false
not_return x byte = by_test (eqb x 13) refl
  where
    by_test : (t : Bool) → eqb x 13 ≡ t → eqb x 13 ≡ false
    by_test true e = let x_is : x ≡ 13 = eqb-true x 13 e in let none : is_extension_byte 13 ≡ true = rw x_is at byte in cc
    by_test false e = e

pub ends_extension : (es : List ℕ) (n l : ℕ) (c rest : List ℕ) → list_all is_extension_byte es ≡ true → l + length es ≤ 254 → Ends (SizeReturn n) c rest → Ends (Extension n l) c (es ++ 13 ∷ rest)
unfolding after
ends_extension [] n l c rest bytes few ends = framed (Extension n l) (SizeReturn n) 13 c rest refl refl ends
ends_extension (x ∷ es) n l c rest bytes few ends =
    let parts = and_parts (is_extension_byte x) (list_all is_extension_byte es) bytes in
    let room : ltb l 254 ≡ true = lt-ltb l 254 (omega arith) in
    framed (Extension n l) (Extension n (l + 1)) x c (es ++ 13 ∷ rest) (rw (not_return x parts.0, parts.0, room) refl) refl
    (ends_extension es n (l + 1) c rest parts.1 (omega arith) ends)

-- behind the digits of a size line
pub ends_line : (extension : List ℕ) (d n : ℕ) (c rest : List ℕ) → IsExtension extension → 0 < d → d + length extension ≤ 254 → Ends (after_size_line n) c rest → Ends (Size d n) c (extension ++ 13 ∷ 10 ∷ rest)
unfolding after
ends_line [] d n c rest extends some few ends =
    framed (Size d n) (SizeReturn n) 13 c (10 ∷ rest) (rw (ne_eqb d 0 (λ e. omega (arith, e, some))) refl) refl
    (framed (SizeReturn n) (after_size_line n) 10 c rest refl refl ends)
ends_line (x ∷ es) d n c rest extends some few ends =
    rw extends.0 (framed (Size d n) (Extension n (d + 1)) 59 c (es ++ 13 ∷ 10 ∷ rest) (rw (ne_eqb d 0 (λ e. omega (arith, e, some))) refl) refl
    (ends_extension es n (d + 1) c (10 ∷ rest) extends.1 (omega arith) (framed (SizeReturn n) (after_size_line n) 10 c rest refl refl ends)))

ends_size_line : (line : List ℕ) (size : ℕ) (c rest : List ℕ) → IsSizeLine line size → Ends (after_size_line size) c rest → Ends (Size 0 0) c (line ++ rest)
ends_size_line line size c rest is ends =
    let lengths : length line ≡ length is.digits + (length is.extension + 2) = ap length is.line_is ∙ length-append is.digits (is.extension ++ crlf) ∙ omega (arith, length-append is.extension crlf) in
    let whole : line ++ rest ≡ is.digits ++ (is.extension ++ 13 ∷ 10 ∷ rest) =
    ap (λ (l : List ℕ). l ++ rest) is.line_is ∙ append_assoc is.digits (is.extension ++ crlf) rest ∙ ap (λ (l : List ℕ). is.digits ++ l) (append_assoc is.extension crlf rest) in
    let behind : Ends (Size (length is.digits) (digits_value 16 is.digits)) c (is.extension ++ 13 ∷ 10 ∷ rest) =
    ends_line is.extension (length is.digits) (digits_value 16 is.digits) c rest is.extends is.some (omega (arith, lengths, is.fits)) (rw is.size_is at ends) in
    let count : 0 + length is.digits ≡ length is.digits = omega arith in
    rw whole (ends_digits is.digits 0 0 c (is.extension ++ 13 ∷ 10 ∷ rest) is.hex (omega (arith, is.few)) (rw count behind))

pub ends_data : (ds c rest : List ℕ) → Ends (Data 0) c rest → Ends (Data (length ds)) (ds ++ c) (ds ++ rest)
unfolding after
ends_data [] c rest ends = ends
ends_data (x ∷ ds) c rest ends = (Data (length ds), ds ++ c, record { next = refl; content = refl }, ends_data ds c rest ends)

ends_chunk : (line content c rest : List ℕ) → IsSizeLine line (length content) → 0 < length content → Ends (Size 0 0) c rest → Ends (Size 0 0) (content ++ c) ((line ++ (content ++ crlf)) ++ rest)
unfolding after
ends_chunk line [] c rest is some ends = absurd (omega arith)
ends_chunk line (x ∷ xs) c rest is some ends =
    let close : Ends (Data 0) c (13 ∷ 10 ∷ rest) = framed (Data 0) DataReturn 13 c (10 ∷ rest) refl refl (framed DataReturn (Size 0 0) 10 c rest refl refl ends) in
    let whole : (line ++ ((x ∷ xs) ++ crlf)) ++ rest ≡ line ++ ((x ∷ xs) ++ 13 ∷ 10 ∷ rest) =
    append_assoc line ((x ∷ xs) ++ crlf) rest ∙ ap (λ (l : List ℕ). line ++ l) (append_assoc (x ∷ xs) crlf rest) in
    rw whole (ends_size_line line (length (x ∷ xs)) ((x ∷ xs) ++ c) ((x ∷ xs) ++ 13 ∷ 10 ∷ rest) is (ends_data (x ∷ xs) c (13 ∷ 10 ∷ rest) close))

field_not_return : (x : ℕ) → is_field_byte x ≡ true → eqb x 13 ≡ false
field_not_return x byte = not-true (eqb x 13) (and_parts (not (eqb x 13)) (not (eqb x 10)) byte).0

not_feed : (x : ℕ) → is_field_byte x ≡ true → not (eqb x 10) ≡ true
not_feed x byte = (and_parts (not (eqb x 13)) (not (eqb x 10)) byte).1

ends_field : (xs : List ℕ) (k : ℕ) (c rest : List ℕ) → list_all is_field_byte xs ≡ true → k + length xs ≤ 16382 → Ends (FieldReturn (k + length xs)) c rest → Ends (Field k) c (xs ++ 13 ∷ rest)
unfolding after
ends_field [] k c rest bytes few ends = let same : k + 0 ≡ k = omega arith in framed (Field k) (FieldReturn k) 13 c rest refl refl (rw same at ends)
ends_field (x ∷ xs) k c rest bytes few ends =
    let parts = and_parts (is_field_byte x) (list_all is_field_byte xs) bytes in
    let count : k + length (x ∷ xs) ≡ k + 1 + length xs = omega arith in
    framed (Field k) (Field (k + 1)) x c (xs ++ 13 ∷ rest) (rw (field_not_return x parts.0, not_feed x parts.0, lt-ltb k 16382 (omega arith)) refl) refl
    (ends_field xs (k + 1) c rest parts.1 (omega arith) (rw count at ends))

ends_field_line : (f : List ℕ) (k : ℕ) (c rest : List ℕ) → IsField f → k + length f ≤ 16382 → Ends (Trailer (k + length f + 2)) c rest → Ends (Trailer k) c (f ++ 13 ∷ 10 ∷ rest)
unfolding after
ends_field_line [] k c rest is few ends = absurd (omega (arith, is.0))
ends_field_line (x ∷ xs) k c rest is few ends =
    let parts = and_parts (is_field_byte x) (list_all is_field_byte xs) is.1 in
    let count : k + length (x ∷ xs) ≡ k + 1 + length xs = omega arith in
    framed (Trailer k) (Field (k + 1)) x c (xs ++ 13 ∷ 10 ∷ rest) (rw (field_not_return x parts.0, not_feed x parts.0, lt-ltb k 16382 (omega arith)) refl) refl
    (ends_field xs (k + 1) c (10 ∷ rest) parts.1 (omega arith)
    (framed (FieldReturn (k + 1 + length xs)) (Trailer (k + 1 + length xs + 2)) 10 c rest refl refl (rw count at ends)))

pub ends_fields : (fields : List (List ℕ)) (k : ℕ) → AreFields fields → k + length (fields_text fields) ≤ 16384 → Ends (Trailer k) [] (fields_text fields ++ crlf)
unfolding after
ends_fields [] k are few = framed (Trailer k) LastReturn 13 [] (10 ∷ []) refl refl (framed LastReturn (Left 0) 10 [] [] refl refl (refl, refl))
ends_fields (f ∷ fs) k are few =
    let lengths : length (fields_text (f ∷ fs)) ≡ length f + 2 + length (fields_text fs) = length-append (f ++ crlf) (fields_text fs) ∙ omega (arith, length-append f crlf) in
    let whole : fields_text (f ∷ fs) ++ crlf ≡ f ++ 13 ∷ 10 ∷ (fields_text fs ++ crlf) =
    append_assoc (f ++ crlf) (fields_text fs) crlf ∙ append_assoc f crlf (fields_text fs ++ crlf) in
    rw whole (ends_field_line f k [] (fields_text fs ++ crlf) are.0 (omega (arith, lengths)) (ends_fields fs (k + length f + 2) are.1 (omega (arith, lengths))))

ends_chunks : (chunks : List ChunkText) (last : List ℕ) (fields : List (List ℕ)) → AreChunks chunks → IsSizeLine last 0 → AreFields fields → length (fields_text fields) ≤ 16384
    → Ends (Size 0 0) (flat_map (λ (c : ChunkText). c.content) chunks) (flat_map chunk_text chunks ++ (last ++ (fields_text fields ++ crlf)))
ends_chunks [] last fields are ends lines few = ends_size_line last 0 [] (fields_text fields ++ crlf) ends (ends_fields fields 0 lines (omega arith))
ends_chunks (c ∷ cs) last fields are ends lines few =
    let rest = last ++ (fields_text fields ++ crlf) in
    rw (append_assoc (chunk_text c) (flat_map chunk_text cs) rest)
    (ends_chunk c.line c.content (flat_map (λ (c : ChunkText). c.content) cs) (flat_map chunk_text cs ++ rest) are.0.0 are.0.1 (ends_chunks cs last fields are.1 ends lines few))

-- a chunked body is read to its end
pub complete : (c t : List ℕ) → SpellsChunks c t → Ends (Size 0 0) c t
complete c t spells = rw (spells.content_is, spells.bytes_are) (ends_chunks spells.chunks spells.last spells.fields spells.are_chunks spells.ends spells.are_fields spells.bounded)
