-- A target that spells a URI is split by the URI's form, and one that is neither a path nor an absolute URI isn't split.
use Rattle.std.proofs.Common.{◌≡◌, ℕ, ◌||◌, not, cond, List, length, get_or, Option, Some, None, is_some, sym, ap, ◌∙◌, arith, inl, inr}
use Rattle.http_uri.specs.Grammar.{IsUriText, normal_scheme}
use Rattle.http_uri.specs.Uri.{SpellsNone}
use Rattle.http_uri.proofs.UriLemmas.{cut_long, cut_name, cut_scheme, cut_first, IsAuthority_first, IsAuthority_no_scheme}
use Rattle.gp_head.specs.Targets.{IsSplit}

abbrev pub IsNotSplit : List ℕ → Type 0
IsNotSplit target = (path : List ℕ) (authority : Option (List ℕ)) → IsSplit target path authority → ⊥

pub not_split_none : (target : List ℕ) → SpellsNone target → IsNotSplit target
not_split_none target none path None split = none None None split.0 split.1.1
not_split_none target none path (Some authority) split = none (Some split.1.0) (Some authority) split.0 split.1.2

-- the authority form
pub not_split_authority : (target authority kept : List ℕ) → IsUriText target None (Some authority) kept → IsNotSplit target
not_split_authority target authority kept text path None split = IsAuthority_first target text.1.0 split.1.0
not_split_authority target authority kept text path (Some other) split =
    IsAuthority_no_scheme target text.1.0 (cut_scheme target split.1.0 other split.0 split.1.2.1)

-- no scheme, and another first byte than `/`
pub not_split_path : (target : List ℕ) (authority : Option (List ℕ)) (kept : List ℕ) → IsUriText target None authority kept → (get_or target 0 0 ≡ 47 → ⊥) → IsNotSplit target
not_split_path target None kept text other path None split = other split.1.0
not_split_path target None kept text other path (Some authority) split =
    elim text.1.0.0 [
      | inl star ↦ omega (arith, ap length star, cut_long target split.1.0 authority split.0 split.1.2.1)
      | inr slash ↦ other slash
    ]
not_split_path target (Some authority) kept text other path split_authority split =
    not_split_authority target authority kept text path split_authority split

-- a scheme without a byte
pub not_split_scheme : (target scheme : List ℕ) (authority : Option (List ℕ)) (kept : List ℕ) → IsUriText target (Some scheme) authority kept → length scheme ≡ 0 → IsNotSplit target
not_split_scheme target scheme None kept text empty path authority split = text.1
not_split_scheme target scheme (Some authority) kept text empty path None split =
    cut_first target scheme authority kept text.1 split.1.0
not_split_scheme target scheme (Some authority) kept text empty path (Some other) split =
    let first = cut_name target scheme authority kept text.1 in
    let second = cut_name target split.1.0 other split.0 split.1.2.1 in
    let name : text.1.name ≡ split.1.2.1.name = sym first ∙ second in
    let same : scheme ≡ split.1.0 = text.1.normal ∙ ap normal_scheme name ∙ sym split.1.2.1.normal in
    omega (arith, empty, split.1.1, ap length same)

-- a scheme, and no authority
pub not_split_no_authority : (target scheme kept : List ℕ) → IsUriText target (Some scheme) None kept → IsNotSplit target
not_split_no_authority target scheme kept text path authority split = text.1

pub not_split_hidden : (target : List ℕ) (scheme authority : Option (List ℕ)) (kept : List ℕ) → IsUriText target scheme authority kept
    → ◌≡◌ {A = Option (List ℕ)} None (cond (is_some scheme || not (is_some authority)) (Some kept) None) → IsNotSplit target
not_split_hidden target None None kept text hidden = cc
not_split_hidden target None (Some authority) kept text hidden = not_split_authority target authority kept text
not_split_hidden target (Some scheme) authority kept text hidden = cc
