-- What an accepted instruction asks to be held is within the limits of a hold.
use Rattle.std.proofs.Common.{◌≡◌, ℕ, ◌≤◌, Bool, true, false, not, ◌&&◌, ◌||◌, cond, List, [], ◌∷◌, ◌++◌, length, Option, Some, None, IfSome, is_some, is_none, Result, Ok, Err, eqb, ltb, leb, refl, sym, ap, subst, ◌∙◌, arith}
use Rattle.std.specs.List.{list_any, fold}
use Rattle.std.specs.Str.{bytes_eq}
use Rattle.std.proofs.lemmas.Bool.{and_from, and_parts, or_from, or_parts, le-leb}
use Rattle.std.proofs.lemmas.Bool.Decides.{nat_tests}
use Rattle.std.proofs.lemmas.List.Folds.{list_any-append}
use Rattle.gp_plain.specs.Names.{same_id}
use Rattle.gp_plain.specs.Fit.{are_different, fits_channels, fits_spec, is_short_page}
use Rattle.gp_plain.specs.declared.event.HoldSpec.{HoldSpec}
use Rattle.gp_instruct.specs.declared.instruct.Sub.{Sub}
use Rattle.gp_instruct.specs.declared.instruct.Instruct.{Instruct}
use Rattle.gp_instruct.specs.declared.instruct.Mode.{Mode}
use Rattle.gp_instruct.specs.declared.instruct.Mode.TheVariants.{Response, Stream}
use Rattle.gp_instruct.specs.declared.fault.InstructFault.{InstructFault}
use Rattle.gp_instruct.specs.Channels.{has_name, with_sub, firsts}
use Rattle.gp_instruct.specs.Holds.{count_read}
use Rattle.gp_instruct.specs.Spec.{SpecLaw, names_of, only_prev, stream_spec, held_by, spec}

not_true : (b : Bool) → not b ≡ true → b ≡ false
not_true true is = sym is
not_true false is = refl

-- one name more, which is none of those before
different_push : (names : List (List ℕ)) (name : List ℕ) → are_different names ≡ true → list_any (bytes_eq name) names ≡ false → are_different (names ++ name ∷ []) ≡ true
different_push [] name different none = refl
different_push (x ∷ names) name different none =
    let parts = and_parts (not (list_any (λ (o : List ℕ). same_id o x) names)) (are_different names) different in
    let others = or_parts (bytes_eq name x) (list_any (bytes_eq name) names) none in
    let apart : list_any (λ (o : List ℕ). same_id o x) (names ++ name ∷ []) ≡ false =
    list_any-append (λ (o : List ℕ). same_id o x) names (name ∷ [])
    ∙ or_from (list_any (λ (o : List ℕ). same_id o x) names) (same_id name x || false) (not_true (list_any (λ (o : List ℕ). same_id o x) names) parts.0) (or_from (same_id name x) false others.0 refl) in
    and_from (not (list_any (λ (o : List ℕ). same_id o x) (names ++ name ∷ []))) (are_different (names ++ name ∷ [])) (ap not apart) (different_push names name parts.1 others.1)

any_names : (name : List ℕ) (subs : List Sub) → list_any (bytes_eq name) (names_of subs) ≡ has_name name subs
any_names name [] = refl
any_names name (sub ∷ subs) = ap (λ (b : Bool). bytes_eq name sub.name || b) (any_names name subs)

names_push : (subs : List Sub) (sub : Sub) → names_of (subs ++ sub ∷ []) ≡ names_of subs ++ sub.name ∷ []
names_push [] sub = refl
names_push (x ∷ subs) sub = ap (λ (ns : List (List ℕ)). x.name ∷ ns) (names_push subs sub)

different_with : (subs : List Sub) (sub : Sub) (known : Bool) → has_name sub.name subs ≡ known → are_different (names_of subs) ≡ true → are_different (names_of (cond known subs (subs ++ sub ∷ []))) ≡ true
different_with subs sub true is different = different
different_with subs sub false is different =
    ap are_different (names_push subs sub) ∙ different_push (names_of subs) sub.name different (any_names sub.name subs ∙ is)

different_fold : (subs asked : List Sub) → are_different (names_of subs) ≡ true → are_different (names_of (fold with_sub subs asked)) ≡ true
different_fold subs [] different = different
different_fold subs (sub ∷ asked) different = different_fold (with_sub subs sub) asked (different_with subs sub (has_name sub.name subs) refl different)

-- the names of channels differ
pub different_firsts : (asked : List Sub) → are_different (names_of (firsts asked)) ≡ true
different_firsts asked = different_fold [] asked refl

count_names : (subs : List Sub) → length (names_of subs) ≡ length subs
count_names [] = refl
count_names (sub ∷ subs) = let rest = count_names subs in omega arith

two_tests : (none many other : Bool) (a b c : InstructFault) → ◌≡◌ {A = Result (Unit {0}) InstructFault} (cond none (Err a) (cond many (Err b) (cond other (Err c) (Ok tt)))) (Ok tt) → (none ≡ false) × (many ≡ false)
two_tests true many other a b c is = cc
two_tests false true other a b c is = cc
two_tests false false other a b c is = (refl, refl)

module _ (mode : Mode) (subs : List Sub) (counted : count_read (Some mode) subs ≡ Ok tt) where
  tests : (eqb (length subs) 0 ≡ false) × (ltb 8 (length subs) ≡ false)
  tests = two_tests (eqb (length subs) 0) (ltb 8 (length subs)) _ _ _ _ counted

  pub some_channel : 1 ≤ length subs
  some_channel = let none = tests.0 in grind (arith, nat_tests)

  pub few_channels : length subs ≤ 8
  few_channels = let many = tests.1 in grind (arith, nat_tests)

  fit_names : are_different (names_of subs) ≡ true → fits_channels (names_of subs) ≡ true
  fit_names different =
      let count = count_names subs in
      and_from (leb 1 (length (names_of subs)) && leb (length (names_of subs)) 8) (are_different (names_of subs))
      (and_from (leb 1 (length (names_of subs))) (leb (length (names_of subs)) 8) (le-leb 1 (length (names_of subs)) (omega (arith, some_channel))) (le-leb (length (names_of subs)) 8 (omega (arith, few_channels))))
      different

fit_stream : (body : List ℕ) (subs : List Sub) (prev : Option (List ℕ)) (link : Bool) → 1 ≤ length subs → is_short_page body ≡ true → fits_channels (names_of subs) ≡ true → fits_spec (stream_spec body subs prev link) ≡ true
fit_stream body subs None link some short names = and_from (is_short_page body) (fits_channels (names_of subs)) short names
fit_stream body [] (Some prev) link some short names = absurd (omega (arith, some))
fit_stream body (sub ∷ subs) (Some prev) link some short names = short

fit_prev : (subs : List Sub) → 1 ≤ length subs → (is_none (only_prev subs) || eqb (length (names_of subs)) 1) ≡ true
fit_prev [] some = absurd (omega (arith, some))
fit_prev (sub ∷ []) some = by_prev (is_none sub.prev)
  where
    by_prev : (b : Bool) → (b || true) ≡ true
    by_prev true = refl
    by_prev false = refl
fit_prev (sub ∷ other ∷ subs) some = refl

fit_held : (mode : Option Mode) (instruct : Instruct) (body : List ℕ) (now : ℕ) (again : Bool) → count_read mode instruct.subs ≡ Ok tt → are_different (names_of instruct.subs) ≡ true → is_short_page body ≡ true
    → IfSome (held_by mode instruct body now again) (λ (held : HoldSpec). fits_spec held ≡ true)
fit_held None instruct body now again counted different short = tt
fit_held (Some Stream) instruct body now again counted different short =
    fit_stream body instruct.subs (only_prev instruct.subs) (is_some instruct.link) (some_channel Stream instruct.subs counted) short (fit_names Stream instruct.subs counted different)
fit_held (Some Response) instruct body now again counted different short =
    and_from (fits_channels (names_of instruct.subs)) (is_none (only_prev instruct.subs) || eqb (length (names_of instruct.subs)) 1) (fit_names Response instruct.subs counted different) (fit_prev instruct.subs (some_channel Response instruct.subs counted))

-- the hold of an accepted instruction is within the limits, where its opening is
pub spec_fits : (instruct : Instruct) (asked : List Sub) (body : List ℕ) (now : ℕ) (again : Bool) → instruct.subs ≡ firsts asked → count_read instruct.mode instruct.subs ≡ Ok tt → is_short_page body ≡ true
    → IfSome (spec instruct body now again) (λ (held : HoldSpec). fits_spec held ≡ true)
spec_fits instruct asked body now again subs counted short =
    fit_held instruct.mode instruct body now again counted (ap (λ (s : List Sub). are_different (names_of s)) subs ∙ different_firsts asked) short

pub spec_law_holds : SpecLaw
spec_law_holds = λ instruct opening now again held counted short e.
    subst (λ (o : Option HoldSpec). IfSome o (λ (h : HoldSpec). fits_spec h ≡ true)) e
    (spec_fits instruct counted.asked opening now again counted.subs counted.count (le-leb (length opening) 262144 short))
