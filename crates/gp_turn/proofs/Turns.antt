-- The steps that take the turn and give it back keep the rule.
use Rattle.std.proofs.Common.{◌≡◌, ◌≢◌, ℕ, ◌+◌, ◌*◌, ◌%◌, ◌/◌, ◌^◌, ◌<◌, ◌≤◌, ◌==◌, List, [], ◌∷◌, ◌++◌, length, length-append, set, get_or, sym, refl, ap, ◌∙◌, subst, ⊎_elim, arith, Bool, true, false, Option, Some, bit_or, bit_and, MatchBool}
use Rattle.std.proofs.lemmas.List.Elements.{All-nil}
use Rattle.std.proofs.lemmas.Nat.{and_mask}
use Rattle.std.proofs.lemmas.Nat.Bits.{and_high_mask}
use Rattle.std.proofs.lemmas.Bool.Decides.{nat_tests}
use Rattle.std.specs.Int.Bits.{or_add_and}
use mathlib.Core.Option.{none, some, some-injective, some-ne-none}
use mathlib.Core.Option as maybe
use lib.ListN.{get_elem?}
use Rattle.atomic_table.specs.Table.{State, Act, step, keeps, takes, gives, opening, Allows, Valid, stepped, carried_after, rest}
use Rattle.atomic_table.proofs.Lists.{at_set}
use Rattle.gp_turn.specs.declared.view.View.{View}
use Rattle.gp_turn.specs.Passes.{times_in, Continues}
use Rattle.gp_turn.specs.Rule.{newcomer, ranges, busy, all_times, Divided, Joined, Fits, There, AtHome, IsKept}
use Rattle.gp_turn.specs.Steps.{Took, Missed, took, added, gave}
use Rattle.gp_turn.proofs.Histories.{continues_same, continues_push}
use Rattle.gp_turn.proofs.Views.{false-ne-true, there_set, there_kept, divided_set, divided_push, none_elsewhere, idle, held_by_other, freed_by_other, joined_push, fits_opening, first_apart}

or_one : (a : ℕ) → bit_or a 1 + a % 2 ≡ a + 1
or_one a = let m : bit_and a 1 ≡ a % 2 = and_mask a 1 in ap (λ (k : ℕ). bit_or a 1 + k) (sym m) ∙ or_add_and a 1

or_even : (l : ℕ) → bit_or (2 * l + 0) 1 ≡ 2 * l + 1
or_even l = let h = or_one (2 * l + 0) in omega arith

or_odd : (l : ℕ) → bit_or (2 * l + 1) 1 ≡ 2 * l + 1
or_odd l = let h = or_one (2 * l + 1) in omega arith

module _ {V E : Type 0} (stands : V → List E → Type 0) (number : E → ℕ) where
  pub opens : (y : V) → stands y [] → IsKept stands number (opening (0 ∷ []) (Some y ∷ []) newcomer)
  opens y h = record {
    log = [];
    holder = none;
    word = refl;
    home = (y, refl, h);
    there = tt;
    each = fits_opening number;
    divided = record { total = refl; apart = first_apart E; given = All-nil (λ (e : E). 0 < all_times (number e) (newcomer {E = E} ∷ [])) };
  }

  -- what fetch_or leaves, in a state of these words and homes
  abbrev Taken : (id : ℕ) (v : View E) (views : List (View E)) → List ℕ → List (maybe.Option (Option V)) → Type 0
  Taken id v views words homes =
      (w : View E) × (a : Act (Option V)) × Valid homes [] a
      × IsKept stands number (stepped (record { words = words; homes = homes; views = views }) 0 (bit_or (get_or words 0 0) 1) id [] w a)
      × took stands number (step 1 0 1 0 none) (v, []) (get_or words 0 0) (w, carried_after [] a)

  taken_free : (id : ℕ) (v : View E) (views : List (View E)) (log : List E) (y : V) → v.joining ≡ false → 0 < v.parts → stands y log
      → ((j : ℕ) (d : View E) → get_elem? views j ≡ some d → Fits number log none j d) → Divided number log views
      → get_elem? views id ≡ some v → Taken id v views ((2 * length log + 0) ∷ []) (some (Some y) ∷ [])
  taken_free id v views log y alone some_part h each divided at =
      let w : View E = record v { looks = v.looks + 1; found = 2 * length log + 0; holds = true; whole = log } in
      let even : (2 * length log + 0) % 2 == 0 ≡ true = grind (arith, nat_tests) in
      let f = each id v at in
      let hit : Took stands number v w ((0, Some y) ∷ []) (2 * length log + 0) = record { view = refl; word = omega arith; goes_on = f.seen; slot = (y, refl, h) } in (
        w,
        takes 0 (Some y),
        refl,
        record {
          log = log;
          holder = some id;
          word = ap (λ (n : ℕ). n ∷ []) (or_even (length log));
          home = refl;
          there = there_set id views v w at refl;
          each = λ j d e. ⊎_elim
              (λ (t : (j ≡ id) × (w ≡ d)). subst (λ (u : ℕ × View E). Fits number log (some id) u.0 u.1) (λ i. (sym t.0 i, t.1 i))
              (record { seen = f.seen; turn = (refl, refl); held = λ _. some_part; enough = f.enough; some_spare = f.some_spare; spent = f.spent; joined = λ e. absurd (false-ne-true (sym alone ∙ e)) }))
              (λ (t : (j ≢ id) × (get_elem? views j ≡ some d)). let k = each j d t.1 in record { seen = k.seen; turn = held_by_other log id j d.holds d.whole t.0 k.turn; held = k.held; enough = k.enough; some_spare = k.some_spare; spent = k.spent; joined = k.joined })
              (at_set views id j w d e);
          divided = divided_set number log views id v w at refl (λ n. refl) divided;
        },
        subst (λ (b : Bool). MatchBool b (Took stands number v w ((0, Some y) ∷ []) (2 * length log + 0)) (Missed {V = V} v w ((0, Some y) ∷ []) (2 * length log + 0))) (sym even) hit,
      )

  taken_held : (id holder : ℕ) (v : View E) (views : List (View E)) (log : List E) → v.joining ≡ false → v.holds ≡ false → There (some holder) views
      → ((j : ℕ) (d : View E) → get_elem? views j ≡ some d → Fits number log (some holder) j d) → Divided number log views
      → get_elem? views id ≡ some v → Taken id v views ((2 * length log + 1) ∷ []) (none ∷ [])
  taken_held id holder v views log alone rests there each divided at =
      let w : View E = record v { looks = v.looks + 1; found = 2 * length log + 1 } in
      let odd : (2 * length log + 1) % 2 == 0 ≡ false = grind (arith, nat_tests) in
      let f = each id v at in
      let miss : Missed {V = V} v w [] (2 * length log + 1) = record { view = refl; slot = refl } in (
        w,
        keeps,
        tt,
        record {
          log = log;
          holder = some holder;
          word = ap (λ (n : ℕ). n ∷ []) (or_odd (length log));
          home = refl;
          there = there_kept (some holder) views id v w at refl there;
          each = λ j d e. ⊎_elim
              (λ (t : (j ≡ id) × (w ≡ d)). subst (λ (u : ℕ × View E). Fits number log (some holder) u.0 u.1) (λ i. (sym t.0 i, t.1 i))
              (record { seen = f.seen; turn = f.turn; held = f.held; enough = f.enough; some_spare = f.some_spare; spent = f.spent; joined = λ e. absurd (false-ne-true (sym alone ∙ e)) }))
              (λ (t : (j ≢ id) × (get_elem? views j ≡ some d)). each j d t.1)
              (at_set views id j w d e);
          divided = divided_set number log views id v w at refl (λ n. refl) divided;
        },
        subst (λ (b : Bool). MatchBool b (Took stands number v w [] (2 * length log + 1)) (Missed {V = V} v w [] (2 * length log + 1))) (sym odd) miss,
      )

  taken : (id : ℕ) (v : View E) (s : State (Option V) (View E)) (log : List E) (holder : maybe.Option ℕ) → v.joining ≡ false → v.holds ≡ false → 0 < v.parts → There holder s.views
      → s.words ≡ (2 * length log + busy holder) ∷ [] → AtHome stands log holder s.homes
      → ((j : ℕ) (d : View E) → get_elem? s.views j ≡ some d → Fits number log holder j d) → Divided number log s.views
      → get_elem? s.views id ≡ some v → Taken id v s.views s.words s.homes
  taken id v s log none alone rests some_part there word home each divided at =
      subst (λ (ws : List ℕ). Taken id v s.views ws s.homes) (sym word)
      (subst (λ (hs : List (maybe.Option (Option V))). Taken id v s.views ((2 * length log + 0) ∷ []) hs) (sym home.1) (taken_free id v s.views log home.0 alone some_part home.2 each divided at))
  taken id v s log (some holder) alone rests some_part there word home each divided at =
      subst (λ (ws : List ℕ). Taken id v s.views ws s.homes) (sym word)
      (subst (λ (hs : List (maybe.Option (Option V))). Taken id v s.views ((2 * length log + 1) ∷ []) hs) (sym home) (taken_held id holder v s.views log alone rests there each divided at))

  pub takes_turn : (id : ℕ) (v : View E) → v.joining ≡ false → v.holds ≡ false → 0 < v.parts → Allows (IsKept stands number) 1 id (v, []) 0 (λ n. bit_or n 1) (took stands number (step 1 0 1 0 none) (v, []))
  takes_turn id v alone rests some_part s r len at small = taken id v s r.log r.holder alone rests some_part r.there r.word r.home r.each r.divided at

  -- the view that holds the turn gives it back, with a value that stands for the longer history log'
  given : (id : ℕ) (v w : View E) (y : V) (s : State (Option V) (View E)) (log log' : List E) (holder : maybe.Option ℕ) (word : ℕ) → v.holds ≡ true → w.holds ≡ false → w.joining ≡ false
      → stands y log' → s.words ≡ (2 * length log + busy holder) ∷ [] → AtHome stands log holder s.homes
      → ((j : ℕ) (d : View E) → get_elem? s.views j ≡ some d → Fits number log holder j d)
      → get_elem? s.views id ≡ some v → word ≡ 2 * length log' → (w.spare ≤ w.parts) × (0 < w.parts → 0 < w.spare) × (w.parts ≡ 0 → w.past ≡ [])
      → Continues number (ranges w) w.seen log'
      → ((j : ℕ) (d : View E) → j ≢ id → get_elem? s.views j ≡ some d → Continues number (ranges d) d.seen log' × (d.joining ≡ true → Joined number log' d))
      → Divided number log' (set s.views id w)
      → IsKept stands number (stepped s 0 word id ((0, Some y) ∷ []) w gives)
  given id v w y s log log' none word holds rests alone h words home each at is own goes others divided =
      let mine : (none ≡ some id) × (v.whole ≡ log) = subst (λ (b : Bool). MatchBool b ((none ≡ some id) × (v.whole ≡ log)) (none ≢ some id)) holds (each id v at).turn in
      absurd (some-ne-none id (sym mine.0))
  given id v w y s log log' (some holder) word holds rests alone h words home each at is own goes others divided =
      let mine : (some holder ≡ some id) × (v.whole ≡ log) = subst (λ (b : Bool). MatchBool b ((some holder ≡ some id) × (v.whole ≡ log)) (some holder ≢ some id)) holds (each id v at).turn in
      let here : holder ≡ id = some-injective holder id mine.0 in
      record {
        log = log';
        holder = none;
        word = rw words (ap (λ (n : ℕ). n ∷ []) (is ∙ omega arith));
        home = (y, rw home refl, h);
        there = tt;
        each = λ j d e. ⊎_elim
            (λ (t : (j ≡ id) × (w ≡ d)). subst (λ (u : ℕ × View E). Fits number log' none u.0 u.1) (λ i. (sym t.0 i, t.1 i))
            (record { seen = goes; turn = idle none id log' w rests (λ e. some-ne-none id (sym e)); held = λ e. absurd (false-ne-true (sym rests ∙ e)); enough = own.0; some_spare = own.1; spent = own.2; joined = λ e. absurd (false-ne-true (sym alone ∙ e)) }))
            (λ (t : (j ≢ id) × (get_elem? s.views j ≡ some d)). let k = each j d t.1 in let o = others j d t.0 t.1 in
            record { seen = o.0; turn = freed_by_other log log' holder j d.holds d.whole (λ e. t.0 (e ∙ here)) k.turn; held = k.held; enough = k.enough; some_spare = k.some_spare; spent = k.spent; joined = o.1 })
            (at_set s.views id j w d e);
        divided = divided;
      }

  -- who holds the turn knows the whole history, and finds the word odd
  whole_known : (id : ℕ) (v : View E) (log : List E) (holder : maybe.Option ℕ) → v.holds ≡ true → MatchBool v.holds ((holder ≡ some id) × (v.whole ≡ log)) (holder ≢ some id) → v.whole ≡ log
  whole_known id v log holder holds t = let u : (holder ≡ some id) × (v.whole ≡ log) = subst (λ (b : Bool). MatchBool b ((holder ≡ some id) × (v.whole ≡ log)) (holder ≢ some id)) holds t in u.1

  word_held : (id : ℕ) (v : View E) (log : List E) (holder : maybe.Option ℕ) (ws : List ℕ) → v.holds ≡ true → MatchBool v.holds ((holder ≡ some id) × (v.whole ≡ log)) (holder ≢ some id) → ws ≡ (2 * length log + busy holder) ∷ [] → get_or ws 0 0 ≡ 2 * length log + 1
  word_held id v log holder ws holds t words = let u : (holder ≡ some id) × (v.whole ≡ log) = subst (λ (b : Bool). MatchBool b ((holder ≡ some id) × (v.whole ≡ log)) (holder ≢ some id)) holds t in
      let one : busy holder ≡ 1 = ap busy u.0 in rw words (omega arith)

  -- the entry of a call is added, and the value goes home
  pub puts_back : (id : ℕ) (v : View E) (y : V) (e : E) → v.joining ≡ false → v.holds ≡ true → 0 < times_in (number e) (ranges v) → length v.whole < 2 ^ 62 → stands y (v.whole ++ e ∷ [])
      → Allows (IsKept stands number) 1 id (v, (0, Some y) ∷ []) 0 (λ n. (n + 1) % 2 ^ 64) (added (e ∷ []) (step 1 0 1 0 none) (v, (0, Some y) ∷ []))
  puts_back id v y e alone holds own small h s r len at fits =
      let w : View E = record v { seen = v.whole ++ e ∷ []; holds = false } in
      let f = r.each id v at in
      let is : v.whole ≡ r.log = whole_known id v r.log r.holder holds f.turn in
      let now : get_or s.words 0 0 ≡ 2 * length r.log + 1 = word_held id v r.log r.holder s.words holds f.turn r.word in
      let more : v.whole ++ e ∷ [] ≡ r.log ++ e ∷ [] = ap (λ (l : List E). l ++ e ∷ []) is in
      let word : (get_or s.words 0 0 + 1) % 2 ^ 64 ≡ 2 * length (r.log ++ e ∷ []) = let l : length v.whole ≡ length r.log = ap (λ (l : List E). length l) is in omega (arith, length-append r.log (e ∷ [])) in (
        w,
        gives,
        tt,
        given id v w y s r.log (r.log ++ e ∷ []) r.holder ((get_or s.words 0 0 + 1) % 2 ^ 64) holds refl alone (subst (stands y) more h) r.word r.home r.each at word (f.enough, f.some_spare, f.spent)
            (subst (λ (l : List E). Continues number (ranges v) l (r.log ++ e ∷ [])) (sym more) (continues_same number (ranges v) (r.log ++ e ∷ [])))
            (λ j d ne dt. let k = r.each j d dt in
            let none_of : times_in (number e) (ranges d) ≡ 0 = none_elsewhere number r.log s.views id j v d (number e) (λ q. ne (sym q)) at dt r.divided own in
            (continues_push number (ranges d) d.seen r.log e none_of k.seen, (λ q. joined_push number r.log d e none_of (k.joined q))))
            (divided_set number (r.log ++ e ∷ []) s.views id v w at refl (λ n. refl) (divided_push number r.log s.views id v e at own r.divided)),
        refl,
      )

  -- the value goes home with nothing added
  pub gives_back : (id : ℕ) (v : View E) (y : V) → v.joining ≡ false → v.holds ≡ true → stands y v.whole
      → Allows (IsKept stands number) 1 id (v, (0, Some y) ∷ []) 0 (λ n. bit_and n 18446744073709551614) (gave (step 1 0 18446744073709551614 0 none) (v, (0, Some y) ∷ []))
  gives_back id v y alone holds h s r len at fits =
      let w : View E = record v { holds = false } in
      let f = r.each id v at in
      let is : v.whole ≡ r.log = whole_known id v r.log r.holder holds f.turn in
      let now : get_or s.words 0 0 ≡ 2 * length r.log + 1 = word_held id v r.log r.holder s.words holds f.turn r.word in
      let m : bit_and (get_or s.words 0 0) 18446744073709551614 ≡ get_or s.words 0 0 / 2 * 2 = and_high_mask 64 1 (omega arith) (get_or s.words 0 0) fits in
      let word : bit_and (get_or s.words 0 0) 18446744073709551614 ≡ 2 * length r.log = omega arith in (
        w,
        gives,
        tt,
        given id v w y s r.log r.log r.holder (bit_and (get_or s.words 0 0) 18446744073709551614) holds refl alone (subst (stands y) is h) r.word r.home r.each at word (f.enough, f.some_spare, f.spent)
            f.seen
            (λ j d ne dt. let k = r.each j d dt in (k.seen, k.joined))
            (divided_set number r.log s.views id v w at refl (λ n. refl) r.divided),
        refl,
      )

  pub took_hit : (v w : View E) (slots : List (ℕ × Option V)) (n : ℕ) → (n % 2 ≡ 1 → ⊥) → MatchBool (n % 2 == 0) (Took stands number v w slots n) (Missed {V = V} v w slots n) → Took stands number v w slots n
  took_hit v w slots n odd h =
      let even : n % 2 == 0 ≡ true = grind (arith, nat_tests, odd) in
      subst (λ (b : Bool). MatchBool b (Took stands number v w slots n) (Missed {V = V} v w slots n)) even h

  pub took_miss : (v w : View E) (slots : List (ℕ × Option V)) (n : ℕ) → n % 2 ≡ 1 → MatchBool (n % 2 == 0) (Took stands number v w slots n) (Missed {V = V} v w slots n) → Missed {V = V} v w slots n
  took_miss v w slots n odd h =
      let no : n % 2 == 0 ≡ false = grind (arith, nat_tests, odd) in
      subst (λ (b : Bool). MatchBool b (Took stands number v w slots n) (Missed {V = V} v w slots n)) no h

-- the slot that was taken last
pub head_is : {S : Type 0} (xs : List (ℕ × S)) (x : S) → xs ≡ (0, x) ∷ [] → (old : S) × (xs ≡ (0, old) ∷ rest xs)
head_is xs x e = (x, e ∙ ap (λ (ys : List _). (0, x) ∷ rest ys) (sym e))
