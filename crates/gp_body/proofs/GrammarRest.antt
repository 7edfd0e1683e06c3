-- What a text is that goes on from a state to the end of a body.
use Rattle.std.proofs.Common.{◌≡◌, ℕ, zero, suc, ◌+◌, ◌<◌, ◌≤◌, true, List, [], ◌∷◌, ◌++◌, length}
use Rattle.std.specs.Prelude.{⊤}
use Rattle.std.specs.List.{list_all}
use Rattle.std.specs.Str.Parse.{digits_value_after}
use Rattle.gp_body.specs.declared.state.State.{State}
use Rattle.gp_body.specs.declared.state.State.TheVariants.{Left, Stream, Size, Extension, SizeReturn, Data, DataReturn, Trailer, Field, FieldReturn, LastReturn}
use Rattle.gp_body.specs.Steps.{is_hex, is_extension_byte, is_field_byte}
use Rattle.gp_body.specs.Bodies.{crlf, IsExtension, AreFields, fields_text, SpellsChunks}

-- field lines, of which so many bytes have come before, and an empty line
pub record Trail (k : ℕ) (c t : List ℕ) : Type 0 where
  pub fields : List (List ℕ)
  pub are : AreFields fields
  pub bounded : k + length (fields_text fields) ≤ 16384
  pub content : c ≡ []
  pub text : t ≡ fields_text fields ++ crlf

-- so many bytes of a chunk, CRLF, and the chunks behind it
pub record Block (k : ℕ) (c t : List ℕ) : Type 0 where
  pub front : List ℕ
  pub c' : List ℕ
  pub t' : List ℕ
  pub len : length front ≡ k
  pub content : c ≡ front ++ c'
  pub text : t ≡ front ++ 13 ∷ 10 ∷ t'
  pub more : SpellsChunks c' t'

-- what follows a size line
abbrev pub Follows : ℕ → List ℕ → List ℕ → Type 0
Follows zero c t = Trail 0 c t
Follows (suc k) c t = Block (suc k) c t

pub record InDigits (d n : ℕ) (c t : List ℕ) : Type 0 where
  pub digits : List ℕ
  pub extension : List ℕ
  pub t' : List ℕ
  pub some : 0 < d + length digits
  pub few : d + length digits ≤ 8
  pub fits : d + length digits + length extension ≤ 254
  pub hex : list_all is_hex digits ≡ true
  pub extends : IsExtension extension
  pub text : t ≡ digits ++ (extension ++ 13 ∷ 10 ∷ t')
  pub follows : Follows (digits_value_after 16 n digits) c t'

pub record InExtension (n l : ℕ) (c t : List ℕ) : Type 0 where
  pub extension : List ℕ
  pub t' : List ℕ
  pub bytes : list_all is_extension_byte extension ≡ true
  pub fits : l + length extension ≤ 254
  pub text : t ≡ extension ++ 13 ∷ 10 ∷ t'
  pub follows : Follows n c t'

pub record AtLine (n : ℕ) (c t : List ℕ) : Type 0 where
  pub t' : List ℕ
  pub text : t ≡ 10 ∷ t'
  pub follows : Follows n c t'

pub record BehindData (c t : List ℕ) : Type 0 where
  pub t' : List ℕ
  pub text : t ≡ 10 ∷ t'
  pub more : SpellsChunks c t'

pub record InField (k : ℕ) (c t : List ℕ) : Type 0 where
  pub front : List ℕ
  pub fields : List (List ℕ)
  pub bytes : list_all is_field_byte front ≡ true
  pub are : AreFields fields
  pub bounded : k + length front + 2 + length (fields_text fields) ≤ 16384
  pub content : c ≡ []
  pub text : t ≡ front ++ 13 ∷ 10 ∷ (fields_text fields ++ crlf)

pub record BehindField (k : ℕ) (c t : List ℕ) : Type 0 where
  pub fields : List (List ℕ)
  pub are : AreFields fields
  pub bounded : k + 2 + length (fields_text fields) ≤ 16384
  pub content : c ≡ []
  pub text : t ≡ 10 ∷ (fields_text fields ++ crlf)

pub record BehindAll (c t : List ℕ) : Type 0 where
  pub content : c ≡ []
  pub text : t ≡ 10 ∷ []

pub record Exactly (k : ℕ) (c t : List ℕ) : Type 0 where
  pub same : c ≡ t
  pub len : length t ≡ k

-- what a text is that goes on from here to the end
abbrev pub Rest : State → List ℕ → List ℕ → Type 0
Rest (Left k) c t = Exactly k c t
Rest Stream c t = ⊤
Rest (Size d n) c t = InDigits d n c t
Rest (Extension n l) c t = InExtension n l c t
Rest (SizeReturn n) c t = AtLine n c t
Rest (Data k) c t = Block k c t
Rest DataReturn c t = BehindData c t
Rest (Trailer k) c t = Trail k c t
Rest (Field k) c t = InField k c t
Rest (FieldReturn k) c t = BehindField k c t
Rest LastReturn c t = BehindAll c t

-- the lines have kept their bounds so far
abbrev pub Fits : State → Type 0
Fits (Left k) = ⊤
Fits Stream = ⊤
Fits (Size d n) = d ≤ 8
Fits (Extension n l) = l ≤ 254
Fits (SizeReturn n) = ⊤
Fits (Data k) = ⊤
Fits DataReturn = ⊤
Fits (Trailer k) = k ≤ 16384
Fits (Field k) = k ≤ 16382
Fits (FieldReturn k) = k ≤ 16382
Fits LastReturn = ⊤
