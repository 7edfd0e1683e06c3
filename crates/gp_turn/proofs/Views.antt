-- One view of a turn changes.
use Rattle.std.proofs.Common.{◌≡◌, ◌≢◌, ℕ, zero, suc, ◌^◌, ◌<◌, ◌≤◌, List, [], ◌∷◌, ◌++◌, set, sym, refl, ap, ◌∙◌, subst, arith, Bool, true, false, MatchBool}
use Rattle.std.proofs.lemmas.List.Elements.{All-nil, All-push, All-weaker}
use Rattle.std.proofs.lemmas.List.Sums.{sum_by-cons}
use mathlib.Core.Option.{none, some, some-injective, some-ne-none}
use mathlib.Core.Option as maybe
use mathlib.Core.Logic.{dite}
use native.Mathlib.Decide.{ℕ_discrete}
use lib.ListN.{get_elem?}
use Rattle.atomic_table.proofs.Lists.{at_longer, set_else}
use Rattle.gp_turn.specs.declared.view.View.{View}
use Rattle.gp_turn.specs.Passes.{times_in}
use Rattle.gp_turn.specs.Rule.{newcomer, ranges, all_times, Divided, Joined, Fits, There}
use Rattle.gp_turn.proofs.Sums.{sum-set, sum-one, sum-two}
use Rattle.gp_turn.proofs.Ranges.{times-one}
use Rattle.gp_turn.proofs.Histories.{continues_push}

pub false-ne-true : false ≡ true → ⊥
false-ne-true h = subst (λ (b : Bool). MatchBool b ⊥ (Unit {0})) h tt

module _ {E : Type 0} where
  abbrev pub parts_in : View E → ℕ
  parts_in v = v.parts

  abbrev pub times_at : ℕ → View E → ℕ
  times_at n v = times_in n (ranges v)

  set_there : (vs : List (View E)) (i : ℕ) (v w : View E) → get_elem? vs i ≡ some v → get_elem? (set vs i w) i ≡ some w
  set_there [] i v w at = absurd (some-ne-none v (sym at))
  set_there (x ∷ xs) zero v w at = refl
  set_there (x ∷ xs) (suc i) v w at = set_there xs i v w at

  -- the seat with the turn is there
  pub there_set : (id : ℕ) (vs : List (View E)) (v w : View E) → get_elem? vs id ≡ some v → w.holds ≡ true → There (some id) (set vs id w)
  there_set id vs v w at holds = (w, set_there vs id v w at, holds)

  -- a view that keeps whether it holds the turn
  pub there_kept : (holder : maybe.Option ℕ) (vs : List (View E)) (id : ℕ) (v w : View E) → get_elem? vs id ≡ some v → w.holds ≡ v.holds → There holder vs → There holder (set vs id w)
  there_kept none vs id v w at same h = tt
  there_kept (some k) vs id v w at same h = dite (ℕ_discrete k id)
      (λ e. (
        w,
        subst (λ (x : ℕ). get_elem? (set vs id w) x ≡ some w) (sym e) (set_there vs id v w at),
        same ∙ (ap (λ (u : View E). u.holds) (some-injective v h.0 (sym at ∙ subst (λ (x : ℕ). get_elem? vs x ≡ some h.0) e h.1)) ∙ h.2),
      ))
      (λ ne. (h.0, set_else vs id k w ne ∙ h.1, h.2))

  pub there_more : (holder : maybe.Option ℕ) (vs : List (View E)) (w : View E) → There holder vs → There holder (vs ++ w ∷ [])
  there_more none vs w h = tt
  there_more (some k) vs w h = (h.0, at_longer vs (w ∷ []) k h.0 h.1, h.2)

  -- what is divided stays as it was, where a view keeps its parts and its ranges
  pub divided_set : (number : E → ℕ) (log : List E) (vs : List (View E)) (id : ℕ) (v w : View E) → get_elem? vs id ≡ some v → w.parts ≡ v.parts → ((n : ℕ) → times_at n w ≡ times_at n v)
      → Divided number log vs → Divided number log (set vs id w)
  divided_set number log vs id v w at parts same d = record {
    total = let s = sum-set parts_in vs id v w at in let t = d.total in omega arith;
    apart = λ n. let s = sum-set (times_at n) vs id v w at in let a = d.apart n in let e = same n in omega arith;
    given = All-weaker (λ (e : E). 0 < all_times (number e) vs) (λ (e : E). 0 < all_times (number e) (set vs id w))
        (λ e h. let s = sum-set (times_at (number e)) vs id v w at in let k = same (number e) in omega arith) log d.given;
  }

  -- an entry is added, whose number is of a view
  pub divided_push : (number : E → ℕ) (log : List E) (vs : List (View E)) (id : ℕ) (v : View E) (e : E) → get_elem? vs id ≡ some v → 0 < times_at (number e) v → Divided number log vs → Divided number (log ++ e ∷ []) vs
  divided_push number log vs id v e at own d = record {
    total = d.total;
    apart = d.apart;
    given = All-push (λ (e : E). 0 < all_times (number e) vs) log e d.given (let s = sum-one (times_at (number e)) vs id v at in omega arith);
  }

  -- a number of one view is none of another
  pub none_elsewhere : (number : E → ℕ) (log : List E) (vs : List (View E)) (i j : ℕ) (v w : View E) (n : ℕ) → i ≢ j → get_elem? vs i ≡ some v → get_elem? vs j ≡ some w → Divided number log vs → 0 < times_at n v → times_at n w ≡ 0
  none_elsewhere number log vs i j v w n ne at bt d own = let s = sum-two (times_at n) vs i j v w ne at bt in let a = d.apart n in omega arith

  -- a view that holds no turn isn't the holder
  pub not_holder : (number : E → ℕ) (log : List E) (holder : maybe.Option ℕ) (id : ℕ) (v : View E) → v.holds ≡ false → Fits number log holder id v → holder ≢ some id
  not_holder number log holder id v rests f = subst (λ (b : Bool). MatchBool b ((holder ≡ some id) × (v.whole ≡ log)) (holder ≢ some id)) rests f.turn

  pub idle : (holder : maybe.Option ℕ) (id : ℕ) (log : List E) (w : View E) → w.holds ≡ false → holder ≢ some id → MatchBool w.holds ((holder ≡ some id) × (w.whole ≡ log)) (holder ≢ some id)
  idle holder id log w rests ne = subst (λ (b : Bool). MatchBool b ((holder ≡ some id) × (w.whole ≡ log)) (holder ≢ some id)) (sym rests) ne

  -- the views of the other seats, while this one takes the turn, or gives it back
  pub held_by_other : (log : List E) (id j : ℕ) (b : Bool) (whole : List E) → j ≢ id → MatchBool b ((none ≡ some j) × (whole ≡ log)) (none ≢ some j) → MatchBool b ((some id ≡ some j) × (whole ≡ log)) (some id ≢ some j)
  held_by_other log id j true whole ne h = absurd (some-ne-none j (sym h.0))
  held_by_other log id j false whole ne h = λ e. ne (sym (some-injective id j e))

  pub freed_by_other : (log log' : List E) (id j : ℕ) (b : Bool) (whole : List E) → j ≢ id → MatchBool b ((some id ≡ some j) × (whole ≡ log)) (some id ≢ some j) → MatchBool b ((none ≡ some j) × (whole ≡ log')) (none ≢ some j)
  freed_by_other log log' id j true whole ne h = absurd (ne (sym (some-injective id j h.0)))
  freed_by_other log log' id j false whole ne h = λ e. some-ne-none j (sym e)

  -- what a view keeps from a join, after an entry that is none of its own
  pub joined_push : (number : E → ℕ) (log : List E) (v : View E) (e : E) → times_at (number e) v ≡ 0 → Joined number log v → Joined number (log ++ e ∷ []) v
  joined_push number log v e other k = let own = k.own (number e) in record {
    mine = continues_push number v.mine.ranges v.mine.seen log e (omega arith) k.mine;
    theirs = continues_push number v.theirs.ranges v.theirs.seen log e (omega arith) k.theirs;
    longest = k.longest;
    own = k.own;
  }

  pub fits_opening : (number : E → ℕ) (id : ℕ) (v : View E) → get_elem? (newcomer {E = E} ∷ []) id ≡ some v → Fits {E = E} number [] none id v
  fits_opening number zero v at = subst (λ (u : View E). Fits {E = E} number [] none zero u) (some-injective (newcomer {E = E}) v at) (record {
    seen = record { more = []; is = refl; others = All-nil (λ (e : E). times_in (number e) (ranges (newcomer {E = E})) ≡ 0) };
    turn = λ h. some-ne-none zero (sym h);
    held = λ h. absurd (false-ne-true h);
    enough = omega arith;
    some_spare = λ h. omega arith;
    spent = λ h. refl;
    joined = λ h. absurd (false-ne-true h);
  })
  fits_opening number (suc i) v at = absurd (some-ne-none v (sym at))

-- the first view has no number twice
pub first_apart : (E : Type 0) (n : ℕ) → all_times n (newcomer {E = E} ∷ []) ≤ 1
first_apart E n = let c = sum_by-cons (times_at n) (newcomer {E = E}) [] in let t = times-one n 0 (2 ^ 63) in omega arith
