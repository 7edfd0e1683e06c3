-- Splits, joins and the end keep the rule of a turn.
use Rattle.std.proofs.Common.{◌≡◌, ◌≢◌, ℕ, zero, suc, ◌+◌, ◌^◌, ◌<◌, ◌≤◌, List, [], ◌∷◌, ◌++◌, append-nil, set, get_or, sym, refl, ap, ◌∙◌, subst, ⊎_elim, arith, true, false, Option, Some}
use Rattle.std.specs.List.{All, sum_by}
use Rattle.std.proofs.lemmas.List.Elements.{All-weaker, All-head}
use Rattle.std.proofs.lemmas.List.Sums.{sum_by-cons, sum_by_push}
use mathlib.Core.Option.{none, some, some-injective, some-ne-none}
use mathlib.Core.Option as maybe
use lib.ListN.{get_elem?}
use Rattle.atomic_table.specs.Table.{State, step, keeps, Allows, Splits, Joins, Final, Seen}
use Rattle.atomic_table.proofs.Lists.{at_set, at_snoc, at_longer, set_else}
use Rattle.gp_turn.specs.declared.range.Range.{Range}
use Rattle.gp_turn.specs.declared.view.View.{View}
use Rattle.gp_turn.specs.Passes.{times_in, OfOthers}
use Rattle.gp_turn.specs.Rule.{ranges, spent, all_parts, all_times, Divided, Fits, There, AtHome, IsKept}
use Rattle.gp_turn.specs.Steps.{shorter, given_off, joined, relieved, learned}
use Rattle.gp_turn.proofs.Sums.{sum-set, sum-one, sum-two}
use Rattle.gp_turn.proofs.Ranges.{times-split, times-append, times-none, times-empty}
use Rattle.gp_turn.proofs.Histories.{all_back, continues_fewer, continues_to, continues_both, longer_l, longer_r}
use Rattle.gp_turn.proofs.Views.{false-ne-true, parts_in, times_at, there_kept, there_more, divided_set, not_holder, idle}

module _ {E : Type 0} where
  new_not_holder : (holder : maybe.Option ℕ) (vs : List (View E)) (w : View E) (j : ℕ) → w.holds ≡ false → There holder vs → get_elem? (vs ++ w ∷ []) j ≡ some w → holder ≢ some j
  new_not_holder none vs w j rests h at = λ e. some-ne-none j (sym e)
  new_not_holder (some k) vs w j rests h at = λ e.
      let same : k ≡ j = some-injective k j e in
      let there : get_elem? (vs ++ w ∷ []) j ≡ some h.0 = subst (λ (x : ℕ). get_elem? (vs ++ w ∷ []) x ≡ some h.0) same (at_longer vs (w ∷ []) k h.0 h.1) in
      let one : w ≡ h.0 = some-injective w h.0 (sym at ∙ there) in
      false-ne-true (sym rests ∙ (ap (λ (u : View E). u.holds) one ∙ h.2))

  divided_split : (number : E → ℕ) (log : List E) (vs : List (View E)) (id n : ℕ) (v : View E) → get_elem? vs id ≡ some v → n ≤ v.spare → v.spare ≤ v.parts → Divided number log vs
      → Divided number log (set vs id (shorter n v) ++ given_off n v ∷ [])
  divided_split number log vs id n v at fits enough d =
      let us : List (View E) = set vs id (shorter n v) in
      let same : (k : ℕ) → all_times k (us ++ given_off n v ∷ []) ≡ all_times k vs = λ k.
      let a = sum_by_push (times_at k) us (given_off n v) in let b = sum-set (times_at k) vs id v (shorter n v) at in let c = times-split k v.number v.spare n v.past fits in omega arith in record {
        total = let a = sum_by_push parts_in us (given_off n v) in let b = sum-set parts_in vs id v (shorter n v) at in let t = d.total in omega arith;
        apart = λ k. let s = same k in let a = d.apart k in omega arith;
        given = All-weaker (λ (e : E). 0 < all_times (number e) vs) (λ (e : E). 0 < all_times (number e) (us ++ given_off n v ∷ [])) (λ e h. let s = same (number e) in omega arith) log d.given;
      }

  divided_join : (number : E → ℕ) (log : List E) (vs : List (View E)) (id other : ℕ) (v w : View E) → get_elem? vs id ≡ some v → get_elem? (set vs id (joined v w)) other ≡ some w → Divided number log vs
      → Divided number log (set (set vs id (joined v w)) other spent)
  divided_join number log vs id other v w at bt d =
      let us : List (View E) = set vs id (joined v w) in
      let same : (k : ℕ) → all_times k (set us other spent) ≡ all_times k vs = λ k.
      let a = sum-set (times_at k) us other w spent bt in let b = sum-set (times_at k) vs id v (joined v w) at in let c = times-append k (ranges v) (ranges w) in let z = times-none k in omega arith in record {
        total = let a = sum-set parts_in us other w spent bt in let b = sum-set parts_in vs id v (joined v w) at in let t = d.total in omega arith;
        apart = λ k. let s = same k in let a = d.apart k in omega arith;
        given = All-weaker (λ (e : E). 0 < all_times (number e) vs) (λ (e : E). 0 < all_times (number e) (set us other spent)) (λ e h. let s = same (number e) in omega arith) log d.given;
      }

  sum_zero : (f g : View E → ℕ) (vs : List (View E)) → ((j : ℕ) (d : View E) → get_elem? vs j ≡ some d → f d ≡ 0 → g d ≡ 0) → sum_by f vs ≡ 0 → sum_by g vs ≡ 0
  sum_zero f g [] h e = refl
  sum_zero f g (x ∷ xs) h e =
      let c = sum_by-cons f x xs in let k = sum_by-cons g x xs in
      let here = h zero x refl (omega arith) in
      let rest = sum_zero f g xs (λ j d at. h (suc j) d at) (omega arith) in omega arith

  -- a view without parts has no numbers
  nothing_left : (number : E → ℕ) (log : List E) (holder : maybe.Option ℕ) (id n : ℕ) (v : View E) → Fits number log holder id v → v.parts ≡ 0 → times_at n v ≡ 0
  nothing_left number log holder id n v f parts = let past = f.spent parts in let enough = f.enough in
      let spare : v.spare ≡ 0 = omega arith in rw (spare, past) (times-empty n v.number)

  -- where one view has all parts, it has all numbers
  all_numbers : (number : E → ℕ) (log : List E) (holder : maybe.Option ℕ) (vs : List (View E)) (id n : ℕ) (v : View E) → get_elem? vs id ≡ some v → v.parts ≡ 2 ^ 63 → all_parts vs ≡ 2 ^ 63
      → ((j : ℕ) (d : View E) → get_elem? vs j ≡ some d → Fits number log holder j d) → all_times n vs ≡ times_at n v
  all_numbers number log holder vs id n v at all total each =
      let us : List (View E) = set vs id spent in
      let a = sum-set parts_in vs id v spent at in
      let b = sum-set (times_at n) vs id v spent at in
      let z = times-none n in
      let none_left : sum_by parts_in us ≡ 0 = omega arith in
      let rest : sum_by (times_at n) us ≡ 0 = sum_zero parts_in (times_at n) us
      (λ j d e p. ⊎_elim
      (λ (t : (j ≡ id) × (spent ≡ d)). subst (λ (u : View E). times_at n u ≡ 0) t.1 z)
      (λ (t : (j ≢ id) × (get_elem? vs j ≡ some d)). nothing_left number log holder j n d (each j d t.1) p)
      (at_set vs id j spent d e)) none_left in omega arith

  no_more : (number : E → ℕ) (rs : List Range) (vs : List (View E)) (more : List E) → OfOthers number rs more → All (λ e. 0 < all_times (number e) vs) more → ((n : ℕ) → all_times n vs ≡ times_in n rs) → more ≡ []
  no_more number rs vs [] others given same = refl
  no_more number rs vs (x ∷ xs) others given same =
      let a = All-head (λ (e : E). times_in (number e) rs ≡ 0) x xs others in
      let b = All-head (λ (e : E). 0 < all_times (number e) vs) x xs given in
      let c = same (number x) in absurd (omega arith)

module _ {V E : Type 0} (stands : V → List E → Type 0) (number : E → ℕ) where
  pub splits : (id n : ℕ) (v : View E) → v.holds ≡ false → v.joining ≡ false → 0 < n → n < v.spare → Splits (IsKept stands number) id v (shorter n v) (given_off n v)
  splits id n v rests alone positive less s r at =
      let w : View E = given_off n v in
      let vs : List (View E) = set s.views id (shorter n v) in
      let there : There r.holder vs = there_kept r.holder s.views id v (shorter n v) at refl r.there in
      let f = r.each id v at in
      let enough = f.enough in
      let fewer : (k : ℕ) → times_in k (ranges (shorter n v)) + times_in k (ranges w) ≡ times_in k (ranges v) = λ k. times-split k v.number v.spare n v.past (omega arith) in
      record {
        log = r.log;
        holder = r.holder;
        word = r.word;
        home = r.home;
        there = there_more r.holder vs w there;
        each = λ j d e. ⊎_elim
            (λ (t : get_elem? vs j ≡ some d). ⊎_elim
            (λ (u : (j ≡ id) × (shorter n v ≡ d)). subst (λ (x : ℕ × View E). Fits number r.log r.holder x.0 x.1) (λ i. (sym u.0 i, u.1 i)) (record {
              seen = continues_fewer number (ranges v) (ranges (shorter n v)) v.seen r.log (λ k. let q = fewer k in omega arith) f.seen;
              turn = f.turn;
              held = λ e. absurd (false-ne-true (sym rests ∙ e));
              enough = omega arith;
              some_spare = λ p. omega arith;
              spent = λ p. absurd (omega arith);
              joined = λ e. absurd (false-ne-true (sym alone ∙ e));
            }))
            (λ (u : (j ≢ id) × (get_elem? s.views j ≡ some d)). r.each j d u.1)
            (at_set s.views id j (shorter n v) d t))
            (λ (t : w ≡ d). subst (λ (x : View E). Fits number r.log r.holder j x) t (record {
              seen = continues_fewer number (ranges v) (ranges w) v.seen r.log (λ k. let q = fewer k in omega arith) f.seen;
              turn = idle r.holder j r.log w refl (new_not_holder r.holder vs w j refl there (e ∙ ap (λ (x : View E). some x) (sym t)));
              held = λ e. absurd (false-ne-true e);
              enough = omega arith;
              some_spare = λ p. p;
              spent = λ p. refl;
              joined = λ e. absurd (false-ne-true e);
            }))
            (at_snoc vs w d j e);
        divided = divided_split number r.log s.views id n v at (omega arith) enough r.divided;
      }

  pub joins : (id other : ℕ) (v w : View E) → v.holds ≡ false → w.holds ≡ false → 0 < v.parts → Joins (IsKept stands number) id v other w (joined v w) spent
  joins id other v w rests idles some_part s r at ne bt =
      let one : View E = joined v w in
      let vs : List (View E) = set s.views id one in
      let before : get_elem? s.views other ≡ some w = sym (set_else s.views id other one ne) ∙ bt in
      let f = r.each id v at in
      let k = r.each other w before in
      let enough = f.enough in
      let spare = f.some_spare some_part in
      let there : There r.holder vs = there_kept r.holder s.views id v one at refl r.there in
      record {
        log = r.log;
        holder = r.holder;
        word = r.word;
        home = r.home;
        there = there_kept r.holder vs other w spent bt (sym idles) there;
        each = λ j d e. ⊎_elim
            (λ (t : (j ≡ other) × (spent ≡ d)). subst (λ (x : ℕ × View E). Fits number r.log r.holder x.0 x.1) (λ i. (sym t.0 i, t.1 i)) (record {
              seen = record { more = r.log; is = refl; others = λ k d lt. times-none (number (get_or r.log k d)) };
              turn = idle r.holder other r.log spent refl (not_holder number r.log r.holder other w idles k);
              held = λ e. absurd (false-ne-true e);
              enough = omega arith;
              some_spare = λ p. p;
              spent = λ p. refl;
              joined = λ e. absurd (false-ne-true e);
            }))
            (λ (t : (j ≢ other) × (get_elem? vs j ≡ some d)). ⊎_elim
            (λ (u : (j ≡ id) × (one ≡ d)). subst (λ (x : ℕ × View E). Fits number r.log r.holder x.0 x.1) (λ i. (sym u.0 i, u.1 i)) (record {
              seen = continues_both number (ranges v) (ranges w) v.seen w.seen r.log f.seen k.seen;
              turn = idle r.holder id r.log one rests (not_holder number r.log r.holder id v rests f);
              held = λ e. absurd (false-ne-true (sym rests ∙ e));
              enough = omega arith;
              some_spare = λ _. spare;
              spent = λ p. absurd (omega arith);
              joined = λ _. record { mine = f.seen; theirs = k.seen; longest = (longer_l v.seen w.seen, longer_r v.seen w.seen); own = λ n. let q = times-append n (ranges v) (ranges w) in omega arith };
            }))
            (λ (u : (j ≢ id) × (get_elem? s.views j ≡ some d)). r.each j d u.1)
            (at_set s.views id j one d t.1))
            (at_set vs other j spent d e);
        divided = divided_join number r.log s.views id other v w at bt r.divided;
      }

  pub learns : (id : ℕ) (v : View E) → v.holds ≡ false → v.joining ≡ true → Allows (IsKept stands number) 1 id (v, []) 0 (λ n. n) (learned number (step 1 0 0 0 none) (v, []))
  learns id v rests joining s r len at small =
      let w : View E = relieved v in
      let f = r.each id v at in
      let both = f.joined joining in
      let divided = r.divided in (
        w,
        keeps,
        tt,
        record {
          log = r.log;
          holder = r.holder;
          word = rw r.word refl;
          home = r.home;
          there = there_kept r.holder s.views id v w at refl r.there;
          each = λ j d e. ⊎_elim
              (λ (t : (j ≡ id) × (w ≡ d)). subst (λ (x : ℕ × View E). Fits number r.log r.holder x.0 x.1) (λ i. (sym t.0 i, t.1 i))
              (record { seen = f.seen; turn = f.turn; held = f.held; enough = f.enough; some_spare = f.some_spare; spent = f.spent; joined = λ e. absurd (false-ne-true e) }))
              (λ (t : (j ≢ id) × (get_elem? s.views j ≡ some d)). r.each j d t.1)
              (at_set s.views id j w d e);
          divided = divided_set number r.log s.views id v w at refl (λ n. refl) divided;
        },
        record {
          view = refl;
          slots = refl;
          mine = continues_to number v.mine.ranges v.mine.seen v.seen r.log f.seen.more both.longest.0 f.seen.is both.mine;
          theirs = continues_to number v.theirs.ranges v.theirs.seen v.seen r.log f.seen.more both.longest.1 f.seen.is both.theirs;
          apart = λ n. let o = both.own n in let a = divided.apart n in let b = sum-one (times_at n) s.views id v at in omega arith;
          most = let b = sum-one parts_in s.views id v at in let t = divided.total in omega arith;
        },
      )

  at_home : (id : ℕ) (v : View E) (s : State (Option V) (View E)) (log : List E) (holder : maybe.Option ℕ) → v.holds ≡ false → v.parts ≡ 2 ^ 63 → all_parts s.views ≡ 2 ^ 63 → There holder s.views
      → AtHome stands log holder s.homes → ((j : ℕ) (d : View E) → get_elem? s.views j ≡ some d → Fits number log holder j d) → get_elem? s.views id ≡ some v
      → (y : V) × (get_elem? s.homes 0 ≡ some (some (Some y))) × stands y log
  at_home id v s log none rests all total there home each at = (home.0, ap (λ (hs : List (maybe.Option (Option V))). get_elem? hs 0) home.1, home.2)
  at_home id v s log (some h) rests all total there home each at =
      let f = each h there.0 there.1 in
      let some_part : 0 < there.0.parts = f.held there.2 in
      let apart : id ≢ h = λ e. false-ne-true (sym rests ∙ (ap (λ (u : View E). u.holds) (some-injective v there.0 (sym at ∙ subst (λ (x : ℕ). get_elem? s.views x ≡ some there.0) (sym e) there.1)) ∙ there.2)) in
      let two = sum-two parts_in s.views id h v there.0 apart at there.1 in
      absurd (omega arith)

  -- where one seat has all parts, the value is at home, and stands for what that seat has seen
  pub closes : (id : ℕ) (v : View E) (ws : List ℕ) (xs : List (Option V)) → v.holds ≡ false → v.parts ≡ 2 ^ 63 → Final (Seen (IsKept stands number) id v) ws xs
      → (y : V) × (get_elem? xs 0 ≡ some (Some y)) × stands y v.seen
  closes id v ws xs rests all final =
      let s = final.0 in
      let r = final.1.0 in
      let at = final.1.1 in
      let total = r.divided.total in
      let home = at_home id v s r.log r.holder rests all total r.there r.home r.each at in
      let seen = (r.each id v at).seen in
      let given : All (λ (e : E). 0 < all_times (number e) s.views) seen.more = all_back (λ (e : E). 0 < all_times (number e) s.views) v.seen seen.more (rw (← seen.is) r.divided.given) in
      let none_left : seen.more ≡ [] = no_more number (ranges v) s.views seen.more seen.others given (λ n. all_numbers number r.log r.holder s.views id n v at all total r.each) in
      let whole : r.log ≡ v.seen = seen.is ∙ (ap (λ (l : List E). v.seen ++ l) none_left ∙ append-nil v.seen) in
      (home.0, final.4 0 (Some home.0) home.1, subst (stands home.0) whole home.2)
