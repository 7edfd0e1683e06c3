-- What each step tells the seat that makes it.
use Rattle.std.specs.Prelude.{ℕ, ◌≡◌, ◌+◌, ◌-◌, ◌*◌, ◌%◌, ◌^◌, ◌<◌, ◌≤◌, ◌==◌, true, false, MatchBool, List, [], ◌∷◌, ◌++◌, length, Option, Some, None}
use Rattle.atomic_table.specs.Table.{Me, Step}
use Rattle.gp_turn.specs.declared.view.View.{View}
use Rattle.gp_turn.specs.Passes.{times_in, Continues, longer}
use Rattle.gp_turn.specs.Rule.{nothing, at_rest, ranges, known}

module _ {E : Type 0} where
  -- split: the old view loses the last numbers and as many parts, and the new one gets them
  abbrev pub shorter : ℕ → View E → View E
  shorter count v = record v { spare = v.spare - count; parts = v.parts - count }

  abbrev pub given_off : ℕ → View E → View E
  given_off count v = at_rest v.seen (v.number + (v.spare - count)) count count

  -- join: the longer history, the ranges and the parts of both, and what both knew until the next look
  abbrev pub joined : View E → View E → View E
  joined v w = record v { seen = longer v.seen w.seen; past = v.past ++ ranges w; parts = v.parts + w.parts; joining = true; mine = known v; theirs = known w }

  abbrev pub relieved : View E → View E
  relieved v = record v { joining = false; mine = nothing; theirs = nothing }

module _ {V E : Type 0} where
  -- a seat that holds no turn, keeps nothing from a join, and isn't spent
  pub record IsFree (m : Me (Option V) (View E)) : Type 0 where
    pub out : m.1 ≡ []
    pub rests : m.0.holds ≡ false
    pub alone : m.0.joining ≡ false
    pub parts : 0 < m.0.parts

  -- a seat that holds the turn, with the slot empty
  pub record Holds (m : Me (Option V) (View E)) : Type 0 where
    pub out : m.1 ≡ (0, None) ∷ []
    pub holds : m.0.holds ≡ true
    pub alone : m.0.joining ≡ false

  -- the seat took the turn, found this word, and has this value in hand
  pub record HasTaken (stands : V → List E → Type 0) (number : E → ℕ) (v : View E) (m' : Me (Option V) (View E)) (value : V) (found : ℕ) : Type 0 where
    pub view : m'.0 ≡ record v { looks = v.looks + 1; found = found; holds = true; whole = m'.0.whole }
    pub out : m'.1 ≡ (0, None) ∷ []
    pub word : found ≡ 2 * length m'.0.whole
    pub goes_on : Continues number (ranges v) v.seen m'.0.whole
    pub meaning : stands value m'.0.whole

  -- fetch_or of 1: the seat looked, and took the turn exactly where the word was even
  pub record Took (stands : V → List E → Type 0) (number : E → ℕ) (v w : View E) (slots : List (ℕ × Option V)) (n : ℕ) : Type 0 where
    pub view : w ≡ record v { looks = v.looks + 1; found = n; holds = true; whole = w.whole }
    pub word : n ≡ 2 * length w.whole
    pub goes_on : Continues number (ranges v) v.seen w.whole
    pub slot : (y : V) × (slots ≡ (0, Some y) ∷ []) × stands y w.whole

  pub record Missed (v w : View E) (slots : List (ℕ × Option V)) (n : ℕ) : Type 0 where
    pub view : w ≡ record v { looks = v.looks + 1; found = n }
    pub slot : slots ≡ []

  abbrev pub took : (V → List E → Type 0) → (E → ℕ) → Step (Option V) → Me (Option V) (View E) → ℕ → Me (Option V) (View E) → Type 0
  took stands number st m n m' = MatchBool (n % 2 == 0) (Took stands number m.0 m'.0 m'.1 n) (Missed m.0 m'.0 m'.1 n)

  -- fetch_add of 1: the entry is added, the seat has seen the whole history, and holds nothing
  abbrev pub added : List E → Step (Option V) → Me (Option V) (View E) → ℕ → Me (Option V) (View E) → Type 0
  added said st m n m' = m' ≡ (record m.0 { seen = m.0.whole ++ said; holds = false }, [])

  -- fetch_and that clears the lowest bit: the seat holds nothing, and nothing was added
  abbrev pub gave : Step (Option V) → Me (Option V) (View E) → ℕ → Me (Option V) (View E) → Type 0
  gave st m n m' = m' ≡ (record m.0 { holds = false }, [])

  -- a load after a join
  pub record Learned (number : E → ℕ) (m m' : Me (Option V) (View E)) : Type 0 where
    pub view : m'.0 ≡ relieved m.0
    pub slots : m'.1 ≡ m.1
    pub mine : Continues number m.0.mine.ranges m.0.mine.seen m.0.seen
    pub theirs : Continues number m.0.theirs.ranges m.0.theirs.seen m.0.seen
    pub apart : (n : ℕ) → times_in n m.0.mine.ranges + times_in n m.0.theirs.ranges ≤ 1
    pub most : m.0.parts ≤ 2 ^ 63

  -- a seat into which another was joined, and that has looked since
  pub record HasLearned (number : E → ℕ) (v w : View E) (m' : Me (Option V) (View E)) : Type 0 where
    pub view : m'.0 ≡ record v { seen = longer v.seen w.seen; past = v.past ++ ranges w; parts = v.parts + w.parts; joining = false; mine = nothing; theirs = nothing }
    pub out : m'.1 ≡ []
    pub mine : Continues number (ranges v) v.seen m'.0.seen
    pub theirs : Continues number (ranges w) w.seen m'.0.seen
    pub apart : (n : ℕ) → times_in n (ranges v) + times_in n (ranges w) ≤ 1
    pub most : m'.0.parts ≤ 2 ^ 63

  abbrev pub learned : (E → ℕ) → Step (Option V) → Me (Option V) (View E) → ℕ → Me (Option V) (View E) → Type 0
  learned number st m n m' = Learned number m m'
