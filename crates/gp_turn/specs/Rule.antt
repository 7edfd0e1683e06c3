-- The rule of a turn. Its table has one word and one slot.
--
-- The word is 2k while the turn is free after k calls, and 2k + 1 while it is held. While it is 2k the value is at home
-- in the slot, and stands for the history, of k entries; while it is 2k + 1 the slot is out with the one view that holds the turn.
use Rattle.std.specs.Prelude.{ℕ, ◌≡◌, ◌≢◌, ◌+◌, ◌*◌, ◌^◌, ◌<◌, ◌≤◌, true, false, MatchBool, List, [], ◌∷◌, length, sum_by, All, ⊤, Option, Some}
use mathlib.Core.Option.{none, some}
use mathlib.Core.Option as maybe
use lib.ListN.{get_elem?}
use Rattle.atomic_table.specs.Table.{State}
use Rattle.gp_turn.specs.declared.range.Range.{Range}
use Rattle.gp_turn.specs.declared.view.Known.{Known}
use Rattle.gp_turn.specs.declared.view.View.{View}
use Rattle.gp_turn.specs.Passes.{range, times_in, Continues}

abbrev pub busy : maybe.Option ℕ → ℕ
busy none = 0
busy (some id) = 1

module _ {E : Type 0} where
  abbrev pub nothing : Known E
  nothing = record { seen = []; ranges = [] }

  -- a view that holds no turn
  abbrev pub at_rest : List E → ℕ → ℕ → ℕ → View E
  at_rest seen number spare parts = record { seen = seen; number = number; spare = spare; past = []; parts = parts; looks = 0; found = 0; holds = false; whole = []; joining = false; mine = nothing; theirs = nothing }

  -- the view of the first seat, and the view of a seat that was joined into another
  abbrev pub newcomer : View E
  newcomer = at_rest [] 0 (2 ^ 63) (2 ^ 63)

  abbrev pub spent : View E
  spent = at_rest [] 0 0 0

  -- the ranges of a view: its own, and those of its past
  abbrev pub ranges : View E → List Range
  ranges v = range v.number v.spare ∷ v.past

  abbrev pub known : View E → Known E
  known v = record { seen = v.seen; ranges = ranges v }

  -- how many parts all views have, and in how many of their ranges a number stands
  abbrev pub all_parts : List (View E) → ℕ
  all_parts views = sum_by (λ v. v.parts) views

  abbrev pub all_times : ℕ → List (View E) → ℕ
  all_times n views = sum_by (λ v. times_in n (ranges v)) views

  -- what a view keeps from a join until it looks: both histories began the whole one, and have all entries of the ranges that are kept
  -- with them; no number stands in the ranges of both, and the view has all of them
  pub record Joined (number : E → ℕ) (log : List E) (v : View E) : Type 0 where
    pub mine : Continues number v.mine.ranges v.mine.seen log
    pub theirs : Continues number v.theirs.ranges v.theirs.seen log
    pub longest : (length v.mine.seen ≤ length v.seen) × (length v.theirs.seen ≤ length v.seen)
    pub own : (n : ℕ) → times_in n v.mine.ranges + times_in n v.theirs.ranges ≤ times_in n (ranges v)

  -- what holds of the view of the seat id while the history is log
  pub record Fits (number : E → ℕ) (log : List E) (holder : maybe.Option ℕ) (id : ℕ) (v : View E) : Type 0 where
    -- it has seen the beginning of the history, and in it all entries of its ranges
    pub seen : Continues number (ranges v) v.seen log
    -- it holds the turn exactly where it is the holder, and then knows the whole history
    pub turn : MatchBool v.holds ((holder ≡ some id) × (v.whole ≡ log)) (holder ≢ some id)
    pub held : v.holds ≡ true → 0 < v.parts
    -- it has at least one number and as many parts as numbers, or it is spent and has nothing
    pub enough : v.spare ≤ v.parts
    pub some_spare : 0 < v.parts → 0 < v.spare
    pub spent : v.parts ≡ 0 → v.past ≡ []
    pub joined : v.joining ≡ true → Joined number log v

  -- the parts and the numbers as they are divided among the views
  pub record Divided (number : E → ℕ) (log : List E) (views : List (View E)) : Type 0 where
    pub total : all_parts views ≡ 2 ^ 63
    -- no number stands in two ranges, of one view or of two
    pub apart : (n : ℕ) → all_times n views ≤ 1
    -- the number of each entry stands in a range
    pub given : All (λ e. 0 < all_times (number e) views) log

  -- the seat that holds the turn is there
  abbrev pub There : maybe.Option ℕ → List (View E) → Type 0
  There none views = ⊤
  There (some id) views = (u : View E) × (get_elem? views id ≡ some u) × (u.holds ≡ true)

module _ {V E : Type 0} where
  abbrev pub AtHome : (V → List E → Type 0) → List E → maybe.Option ℕ → List (maybe.Option (Option V)) → Type 0
  AtHome stands log none homes = (y : V) × (homes ≡ some (Some y) ∷ []) × stands y log
  AtHome stands log (some id) homes = homes ≡ none ∷ []

  pub record IsKept (stands : V → List E → Type 0) (number : E → ℕ) (s : State (Option V) (View E)) : Type 0 where
    pub log : List E
    pub holder : maybe.Option ℕ
    pub word : s.words ≡ (2 * length log + busy holder) ∷ []
    pub home : AtHome stands log holder s.homes
    pub there : There holder s.views
    pub each : (id : ℕ) (v : View E) → get_elem? s.views id ≡ some v → Fits number log holder id v
    pub divided : Divided number log s.views
