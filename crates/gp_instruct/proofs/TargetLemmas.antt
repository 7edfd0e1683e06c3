-- Whether a text that spells a URI, or none, is the target of a link.
use Rattle.std.proofs.Common.{◌≡◌, ℕ, List, length, get_or, Option, Some, None, Bool, true, false, MatchBool, not, eqb, sym, ap, ◌∙◌, arith, inl, inr}
use Rattle.std.proofs.lemmas.Bool.{eqb-true, eqb-false}
use Rattle.http_uri.specs.Grammar.{IsUriText, normal_scheme}
use Rattle.http_uri.specs.Uri.{SpellsNone}
use Rattle.http_uri.proofs.UriLemmas.{cut_long, cut_name, cut_scheme, cut_first, IsAuthority_first, IsAuthority_no_scheme}
use Rattle.gp_instruct.specs.Targets.{IsTarget}

pub no_target_none : (text : List ℕ) → SpellsNone text → IsTarget text → ⊥
no_target_none text none (inl path) = none None None path.0 path.2
no_target_none text none (inr whole) = none (Some whole.0) (Some whole.1) whole.2 whole.4

-- the authority form
pub no_target_authority : (text authority kept : List ℕ) → IsUriText text None (Some authority) kept → IsTarget text → ⊥
no_target_authority text authority kept spelled (inl path) = IsAuthority_first text spelled.1.0 path.1
no_target_authority text authority kept spelled (inr whole) = IsAuthority_no_scheme text spelled.1.0 (cut_scheme text whole.0 whole.1 whole.2 whole.4.1)

-- no scheme, and another first byte than `/`
pub no_target_path : (text kept : List ℕ) → IsUriText text None None kept → (get_or text 0 0 ≡ 47 → ⊥) → IsTarget text → ⊥
no_target_path text kept spelled other (inl path) = other path.1
no_target_path text kept spelled other (inr whole) =
    elim spelled.1.0.0 [
      | inl star ↦ omega (arith, ap length star, cut_long text whole.0 whole.1 whole.2 whole.4.1)
      | inr slash ↦ other slash
    ]

-- a scheme without a byte
pub no_target_scheme : (text scheme authority kept : List ℕ) → IsUriText text (Some scheme) (Some authority) kept → length scheme ≡ 0 → IsTarget text → ⊥
no_target_scheme text scheme authority kept spelled empty (inl path) = cut_first text scheme authority kept spelled.1 path.1
no_target_scheme text scheme authority kept spelled empty (inr whole) =
    let first = cut_name text scheme authority kept spelled.1 in
    let second = cut_name text whole.0 whole.1 whole.2 whole.4.1 in
    let name : spelled.1.name ≡ whole.4.1.name = sym first ∙ second in
    let same : scheme ≡ whole.0 = spelled.1.normal ∙ ap normal_scheme name ∙ sym whole.4.1.normal in
    omega (arith, empty, whole.3, ap length same)

pub no_target_no_scheme : (text own : List ℕ) (scheme authority : Option (List ℕ)) (kept : List ℕ) → IsUriText text scheme authority kept → None ≡ scheme → Some own ≡ authority → IsTarget text → ⊥
no_target_no_scheme text own None None kept spelled none some = cc
no_target_no_scheme text own None (Some authority) kept spelled none some = no_target_authority text authority kept spelled
no_target_no_scheme text own (Some scheme) authority kept spelled none some = cc

pub scheme_decides : (text own : List ℕ) (scheme authority : Option (List ℕ)) (kept : List ℕ) (empty : Bool) → IsUriText text scheme authority kept → Some own ≡ scheme
    → empty ≡ eqb (length own) 0 → MatchBool (not empty) (IsTarget text) (¬ (IsTarget text))
scheme_decides text own None authority kept empty spelled some is = cc
scheme_decides text own (Some scheme) None kept empty spelled some is = absurd spelled.1
scheme_decides text own (Some scheme) (Some authority) kept true spelled some is =
    let same : own ≡ scheme = cc in
    no_target_scheme text scheme authority kept spelled (ap length (sym same) ∙ eqb-true (length own) 0 (sym is))
scheme_decides text own (Some scheme) (Some authority) kept false spelled some is =
    let same : own ≡ scheme = cc in
    let filled : length own ≡ 0 → ⊥ = eqb-false (length own) 0 (sym is) in
    inr (scheme, authority, kept, omega (arith, filled, ap length same), spelled)
