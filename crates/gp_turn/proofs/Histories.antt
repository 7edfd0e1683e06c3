-- Histories that go on from others.
use Rattle.std.proofs.Common.{◌≡◌, ℕ, ◌≤◌, List, [], ◌∷◌, ◌++◌, length, sym, refl, ap, ◌∙◌, append-nil, append_assoc, get_or, nat_lt, if◌then◌else◌, Bool, true, false, arith}
use Rattle.std.specs.List.{All}
use Rattle.std.proofs.lemmas.Bool.Decides.{nat_tests}
use Rattle.std.proofs.lemmas.List.Elements.{All-nil, All-cons, All-head, All-tail, All-push, All-weaker}
use Rattle.gp_turn.specs.declared.range.Range.{Range}
use Rattle.gp_turn.specs.Passes.{times_in, OfOthers, Continues, longer}
use Rattle.gp_turn.proofs.Ranges.{times-append}

module _ {A : Type 0} where
  pub all_front : (P : A → Type 0) (xs ys : List A) → All P (xs ++ ys) → All P xs
  all_front P [] ys h = All-nil P
  all_front P (x ∷ xs) ys h = All-cons P x xs (All-head P x (xs ++ ys) h) (all_front P xs ys (All-tail P x (xs ++ ys) h))

  pub all_back : (P : A → Type 0) (xs ys : List A) → All P (xs ++ ys) → All P ys
  all_back P [] ys h = h
  all_back P (x ∷ xs) ys h = all_back P xs ys (All-tail P x (xs ++ ys) h)

  -- of two beginnings of one list the shorter begins the longer
  pub order : (xs ys r q : List A) → xs ++ r ≡ ys ++ q → length xs ≤ length ys → (p : List A) × (ys ≡ xs ++ p) × (r ≡ p ++ q)
  order [] ys r q e le = (ys, refl, e)
  order (x ∷ xs) [] r q e le = absurd (omega arith)
  order (x ∷ xs) (y ∷ ys) r q e le =
      let tails : xs ++ r ≡ ys ++ q = cc in
      let rest = order xs ys r q tails (omega arith) in
      (rest.0, (let is = rest.1 in cc), rest.2)

module _ {E : Type 0} where
  pub continues_same : (number : E → ℕ) (rs : List Range) (xs : List E) → Continues number rs xs xs
  continues_same number rs xs = record { more = []; is = sym (append-nil xs); others = All-nil (λ (e : E). times_in (number e) rs ≡ 0) }

  pub continues_push : (number : E → ℕ) (rs : List Range) (xs log : List E) (e : E) → times_in (number e) rs ≡ 0 → Continues number rs xs log → Continues number rs xs (log ++ e ∷ [])
  continues_push number rs xs log e other c = record {
    more = c.more ++ e ∷ [];
    is = ap (λ (l : List E). l ++ e ∷ []) c.is ∙ append_assoc xs c.more (e ∷ []);
    others = All-push (λ (e : E). times_in (number e) rs ≡ 0) c.more e c.others other;
  }

  pub others_fewer : (number : E → ℕ) (rs ss : List Range) (xs : List E) → ((n : ℕ) → times_in n ss ≤ times_in n rs) → OfOthers number rs xs → OfOthers number ss xs
  others_fewer number rs ss xs fewer others = All-weaker (λ (e : E). times_in (number e) rs ≡ 0) (λ (e : E). times_in (number e) ss ≡ 0) (λ e h. omega (arith, fewer (number e))) xs others

  pub continues_fewer : (number : E → ℕ) (rs ss : List Range) (xs log : List E) → ((n : ℕ) → times_in n ss ≤ times_in n rs) → Continues number rs xs log → Continues number ss xs log
  continues_fewer number rs ss xs log fewer c = record { more = c.more; is = c.is; others = others_fewer number rs ss c.more fewer c.others }

  -- what goes on from a history also does up to a point between, and from there on
  pub continues_to : (number : E → ℕ) (rs : List Range) (xs ys log q : List E) → length xs ≤ length ys → log ≡ ys ++ q → Continues number rs xs log → Continues number rs xs ys
  continues_to number rs xs ys log q le is c =
      let o = order xs ys c.more q (sym c.is ∙ is) le in record {
        more = o.0;
        is = o.1;
        others = all_front (λ (e : E). times_in (number e) rs ≡ 0) o.0 q (rw (← o.2) c.others);
      }

  pub continues_from : (number : E → ℕ) (rs : List Range) (xs ys log q : List E) → length xs ≤ length ys → log ≡ ys ++ q → Continues number rs xs log → Continues number rs ys log
  continues_from number rs xs ys log q le is c =
      let o = order xs ys c.more q (sym c.is ∙ is) le in record {
        more = q;
        is = is;
        others = all_back (λ (e : E). times_in (number e) rs ≡ 0) o.0 q (rw (← o.2) c.others);
      }

  pub others_both : (number : E → ℕ) (rs ss : List Range) (xs : List E) → OfOthers number rs xs → OfOthers number ss xs → OfOthers number (rs ++ ss) xs
  others_both number rs ss xs a b = λ k d lt.
      let x = a k d lt in let y = b k d lt in omega (arith, times-append (number (get_or xs k d)) rs ss)

  pub longer_l : (xs ys : List E) → length xs ≤ length (longer xs ys)
  longer_l xs ys = grind (arith, nat_tests)

  pub longer_r : (xs ys : List E) → length ys ≤ length (longer xs ys)
  longer_r xs ys = grind (arith, nat_tests)

  -- the longer of two histories goes on as both did
  pub continues_both : (number : E → ℕ) (rs ss : List Range) (xs ys log : List E) → Continues number rs xs log → Continues number ss ys log → Continues number (rs ++ ss) (longer xs ys) log
  unfolding continues_from
  continues_both number rs ss xs ys log a b = by_length (nat_lt (length xs) (length ys)) (longer_l xs ys) (longer_r xs ys) where
    by_length : (t : Bool) → length xs ≤ length (if t then ys else xs) → length ys ≤ length (if t then ys else xs) → Continues number (rs ++ ss) (if t then ys else xs) log
    by_length true l r = let c = continues_from number rs xs ys log b.more l b.is a in record { more = b.more; is = b.is; others = others_both number rs ss b.more c.others b.others }
    by_length false l r = let c = continues_from number ss ys xs log a.more r a.is b in record { more = a.more; is = a.is; others = others_both number rs ss a.more a.others c.others }
