-- What contracts see of a pass.
use Rattle.std.specs.Prelude.{ℕ, Bool, false, ◌≡◌, ◌+◌, ◌-◌, ◌^◌, ◌&&◌, nat_le, nat_lt, if◌then◌else◌, List, [], ◌∷◌, ◌++◌, length, All, count_by}
use Rattle.atomic_table.specs.Seated.{TableId}
use Rattle.gp_turn.specs.declared.range.Range.{Range}

-- what a pass has
pub record PassView (E : Type 0) : Type 0 where
  -- the turn with which it was made
  pub turn : TableId
  -- the history that it has seen
  pub seen : List E
  -- its range: the first number, which is its own, and how many numbers there are
  pub number : ℕ
  pub spare : ℕ
  -- the ranges of the passes that were joined into it, and those of their past
  pub past : List Range
  pub parts : ℕ
  -- how often it has tried to take the turn, and the word that it found the last time
  pub looks : ℕ
  pub found : ℕ
  -- whether it holds the turn
  pub holds : Bool

abbrev pub range : ℕ → ℕ → Range
range first count = record { first = first; count = count }

-- the number stands in the range
abbrev pub is_in : ℕ → Range → Bool
is_in n r = nat_le r.first n && nat_lt n (r.first + r.count)

-- in how many of the ranges the number stands
abbrev pub times_in : ℕ → List Range → ℕ
times_in n ranges = count_by (is_in n) ranges

module _ {E : Type 0} where
  -- none of the entries has a number of the ranges
  abbrev pub OfOthers : (E → ℕ) → List Range → List E → Type 0
  OfOthers number ranges entries = All (λ e. times_in (number e) ranges ≡ 0) entries

  -- the later history begins with the earlier one, and has beyond it no entry of a number of the ranges
  pub record Continues (number : E → ℕ) (ranges : List Range) (earlier later : List E) : Type 0 where
    pub more : List E
    pub is : later ≡ earlier ++ more
    pub others : OfOthers number ranges more

  -- all ranges of a pass: its own, and those of its past
  abbrev pub ranges_of : PassView E → List Range
  ranges_of p = range p.number p.spare ∷ p.past

  -- the later history goes on from what the pass has seen, without an entry of the pass
  abbrev pub GoesOn : (E → ℕ) → PassView E → List E → Type 0
  GoesOn number p later = Continues number (ranges_of p) p.seen later

  -- the first pass of a turn
  abbrev pub first_pass : TableId → PassView E
  first_pass turn = record { turn = turn; seen = []; number = 0; spare = 2 ^ 63; past = []; parts = 2 ^ 63; looks = 0; found = 0; holds = false }

  -- the longer of two histories
  abbrev pub longer : List E → List E → List E
  longer xs ys = if nat_lt (length xs) (length ys) then ys else xs

  -- a pass without the last numbers of its range, and without as many parts
  abbrev pub shortened : PassView E → ℕ → PassView E
  shortened p count = record p { spare = p.spare - count; parts = p.parts - count }

  -- the pass that got them
  abbrev pub split_off : PassView E → ℕ → PassView E
  split_off p count = record { turn = p.turn; seen = p.seen; number = p.number + (p.spare - count); spare = count; past = []; parts = count; looks = 0; found = 0; holds = false }

  -- a pass into which another was joined
  abbrev pub with_joined : PassView E → PassView E → PassView E
  with_joined p gone = record p { seen = longer p.seen gone.seen; past = p.past ++ ranges_of gone; parts = p.parts + gone.parts }
