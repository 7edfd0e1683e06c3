-- How many marks of a list are of each bucket.
use Rattle.std.specs.Prelude.{ℕ, ◌≡◌, ◌<◌, ◌≤◌, cond, eqb, List, length, get_or, sum_by}

abbrev pub one_of : ℕ → ℕ → ℕ
one_of bucket mark = cond (eqb mark bucket) 1 0

abbrev pub count_of : ℕ → List ℕ → ℕ
count_of bucket marks = sum_by (one_of bucket) marks

-- each bucket's count is that of the marks
pub record IsCounted (counts marks : List ℕ) : Type 0 where
  pub long : length counts ≡ 16385
  pub few : length marks ≤ 4096
  pub small : (k : ℕ) → k < length marks → get_or marks k 0 < 16385
  pub count : (bucket : ℕ) → bucket < 16385 → get_or counts bucket 0 ≡ count_of bucket marks
