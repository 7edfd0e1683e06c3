-- Where buckets stand in a list of them, oldest first.
use Rattle.std.specs.Prelude.{ℕ, ◌≡◌, ◌≢◌, ◌+◌, ◌-◌, ◌%◌, ◌<◌, ◌≤◌, List, length, get_or}

-- the place of a number, where the first place has another one: numbers count modulo 65,536
abbrev pub place_of : ℕ → ℕ → ℕ
place_of first number = (number + (65536 - first)) % 65536

-- the last place below one that has a bucket
pub record IsNewest (buckets : List ℕ) (bucket below place : ℕ) : Type 0 where
  pub within : place < below
  pub here : get_or buckets place 0 ≡ bucket
  pub between : (k : ℕ) → place < k → k < below → get_or buckets k 0 ≢ bucket

-- no place below one has it
pub record HasNone (buckets : List ℕ) (bucket below : ℕ) : Type 0 where
  pub none : (k : ℕ) → k < below → get_or buckets k 0 ≢ bucket

-- how far back the next older place of a place's bucket is; beyond the first place there is none
pub record IsBack (buckets : List ℕ) (place back : ℕ) : Type 0 where
  pub some : 0 < back
  pub there : back ≤ place → get_or buckets (place - back) 0 ≡ get_or buckets place 0
  pub between : (k : ℕ) → place < k + back → k < place → get_or buckets k 0 ≢ get_or buckets place 0

-- the place that a bucket's number leads to has the bucket of this place, and isn't before it
pub record IsHead (buckets : List ℕ) (place head : ℕ) : Type 0 where
  pub behind : place ≤ head
  pub within : head < length buckets
  pub here : get_or buckets head 0 ≡ get_or buckets place 0

-- what is kept beside the buckets leads to each place
pub record IsChained (heads buckets backs : List ℕ) (first : ℕ) : Type 0 where
  pub long : length heads ≡ 16385
  pub few : length buckets ≤ 4096
  pub starts : first < 65536
  pub numbers : (bucket : ℕ) → get_or heads bucket 0 < 65536
  pub same : length backs ≡ length buckets
  pub small : (k : ℕ) → k < length buckets → get_or buckets k 0 < 16385
  pub ahead : (k : ℕ) → k < length buckets → IsHead buckets k (place_of first (get_or heads (get_or buckets k 0) 0))
  pub behind : (k : ℕ) → k < length buckets → IsBack buckets k (get_or backs k 0)
