-- The path and query of a target that was split is a target of the grammar of heads, with `/` where its path is empty.
use Rattle.std.proofs.Common.{◌≡◌, ℕ, ◌+◌, ◌-◌, ◌<◌, Bool, true, false, not, eqb, List, [], ◌∷◌, length, get_or, drop, Option, Some, None, refl, sym, subst, arith, inl, inr, length-drop, length-take, get_or-take, lit<}
use Rattle.std.specs.Prelude.{IsUtf8, IfSome}
use Rattle.std.proofs.lemmas.Bool.{cases_lt, eqb-true, lt-ltb, cond-true, cond-false}
use Rattle.std.proofs.lemmas.Bool.Decides.{nat_tests}
use Rattle.std.proofs.lemmas.List.{get_or-drop}
use Rattle.std.proofs.lemmas.List.Elements.{All-nil, All-cons}
use Rattle.std.proofs.lemmas.Str.{IsUtf8-append, IsUtf8-from_ascii}
use Rattle.std.proofs.lemmas.Str.Ascii.{IsAscii-cons, IsAscii-nil}
use Rattle.httparse.specs.Grammar.{AllPass, is_uri_byte}
use Rattle.http_uri.specs.ByteClasses.{is_path_byte, is_query_byte, index_of, split_once_front, split_once_back}
use Rattle.http_uri.specs.Grammar.{IsPathAndQuery, IsTail, or_slash}
use Rattle.http_uri.proofs.RunLemmas.{AllPass-at, AllPass-from, run_stops}
use Rattle.gp_head.specs.Targets.{IsSplit}
use Rattle.gp_head.specs.Writable.{IsTarget, with_slash}

path_in_uri : (b : ℕ) → is_path_byte b ≡ true → is_uri_byte b ≡ true
path_in_uri b path = grind (arith, nat_tests)

query_in_uri : (b : ℕ) → is_query_byte b ≡ true → is_uri_byte b ≡ true
query_in_uri b query = grind (arith, nat_tests)

-- each byte of a path and query, which is cut at the first `?`
uri_bytes : (text : List ℕ) → AllPass is_path_byte (split_once_front 63 text) → IfSome (split_once_back 63 text) (AllPass is_query_byte) → AllPass is_uri_byte text
uri_bytes text path query = AllPass-from is_uri_byte text by_place
  where
    i : ℕ
    i = index_of 63 text

    before : (k : ℕ) → k < length text → k < index_of 63 text → is_uri_byte (get_or text k 0) ≡ true
    before k inside less =
        let at = AllPass-at is_path_byte (split_once_front 63 text) path k (omega (arith, length-take (index_of 63 text) text)) in
        path_in_uri (get_or text k 0) (rw (get_or-take (index_of 63 text) text k 0 less) at at)

    mark : index_of 63 text < length text → is_uri_byte (get_or text (index_of 63 text) 0) ≡ true
    mark inside =
        let stop = run_stops (λ b. not (eqb b 63)) text inside in
        let is : get_or text (index_of 63 text) 0 ≡ 63 = grind (arith, nat_tests) in
        rw is refl

    behind : (k : ℕ) → k < length text → index_of 63 text < k → is_uri_byte (get_or text k 0) ≡ true
    behind k inside past =
        let some : split_once_back 63 text ≡ Some (drop (index_of 63 text + 1) text) = rw (lt-ltb (index_of 63 text) (length text) (omega arith)) refl in
        let all : AllPass is_query_byte (drop (index_of 63 text + 1) text) = subst (λ (o : Option (List ℕ)). IfSome o (AllPass is_query_byte)) some query in
        let at = AllPass-at is_query_byte (drop (index_of 63 text + 1) text) all (k - (index_of 63 text + 1)) (omega (arith, length-drop (index_of 63 text + 1) text)) in
        let place : index_of 63 text + 1 + (k - (index_of 63 text + 1)) ≡ k = omega arith in
        query_in_uri (get_or text k 0) (rw (get_or-drop (index_of 63 text + 1) text (k - (index_of 63 text + 1)) 0, place) at at)

    by_place : (k : ℕ) → k < length text → is_uri_byte (get_or text k 0) ≡ true
    by_place k inside = elim (cases_lt k (index_of 63 text)) [
      | inl less ↦ before k inside less
      | inr least ↦ elim (cases_lt (index_of 63 text) k) [
        | inl past ↦ behind k inside past
        | inr most ↦ let here : k ≡ index_of 63 text = omega arith in rw here (mark (omega arith))
      ]
    ]

slash_is_target : IsTarget (47 ∷ [])
slash_is_target = record {
  some = omega arith;
  bytes = All-cons (λ (b : ℕ). is_uri_byte b ≡ true) 47 [] refl (All-nil (λ (b : ℕ). is_uri_byte b ≡ true));
  text = IsUtf8-from_ascii (47 ∷ []) (IsAscii-cons 47 [] (lit< tt) IsAscii-nil);
}

-- with `/` before it
behind_slash : (text : List ℕ) → AllPass is_uri_byte text → IsUtf8 text → IsTarget (47 ∷ text)
behind_slash text bytes utf8 = record {
  some = omega arith;
  bytes = All-cons (λ (b : ℕ). is_uri_byte b ≡ true) 47 text refl bytes;
  text = IsUtf8-append (47 ∷ []) text slash_is_target.text utf8;
}

kept_is_target : (text : List ℕ) → IsPathAndQuery text → IsTarget (with_slash text)
kept_is_target text is = by_first (eqb (get_or text 0 0) 47) refl
  where
    bytes : AllPass is_uri_byte text
    bytes = uri_bytes text is.path is.query

    some : (xs : List ℕ) → get_or xs 0 0 ≡ 47 → 0 < length xs
    some [] e = absurd (omega arith)
    some (x ∷ xs) e = omega arith

    by_first : (t : Bool) → eqb (get_or text 0 0) 47 ≡ t → IsTarget (with_slash text)
    by_first true e =
        let whole : IsTarget text = record { some = some text (eqb-true (get_or text 0 0) 47 e); bytes = bytes; text = is.utf8 } in
        subst IsTarget (sym (cond-true (eqb (get_or text 0 0) 47) text (47 ∷ text) e)) whole
    by_first false e = subst IsTarget (sym (cond-false (eqb (get_or text 0 0) 47) text (47 ∷ text) e)) (behind_slash text bytes is.utf8)

-- an empty path reads as `/` first
or_slash_is_target : (kept : List ℕ) → IsPathAndQuery kept → IsTarget (with_slash (or_slash kept))
or_slash_is_target kept is = by_length (eqb (length kept) 0) refl
  where
    by_length : (t : Bool) → eqb (length kept) 0 ≡ t → IsTarget (with_slash (or_slash kept))
    by_length true e = subst (λ (p : List ℕ). IsTarget (with_slash p)) (sym (cond-true (eqb (length kept) 0) (47 ∷ []) kept e)) slash_is_target
    by_length false e = subst (λ (p : List ℕ). IsTarget (with_slash p)) (sym (cond-false (eqb (length kept) 0) (47 ∷ []) kept e)) (kept_is_target kept is)

tail_is_target : (tail kept : List ℕ) → IsTail tail kept → IsTarget (with_slash (or_slash kept))
tail_is_target tail kept (inl none) = rw none.1 slash_is_target
tail_is_target tail kept (inr some) = or_slash_is_target kept (subst IsPathAndQuery (sym some.2) some.1.kept)

pub split_is_target : (target path : List ℕ) (authority : Option (List ℕ)) → IsSplit target path authority → IsTarget (with_slash path)
split_is_target target path None split =
    subst (λ (p : List ℕ). IsTarget (with_slash p)) (sym split.2) (or_slash_is_target split.0 (subst IsPathAndQuery (sym split.1.1.1.1) split.1.1.1.0.1.kept))
split_is_target target path (Some authority) split =
    subst (λ (p : List ℕ). IsTarget (with_slash p)) (sym split.2) (tail_is_target split.1.2.1.tail split.0 split.1.2.1.is_tail)
