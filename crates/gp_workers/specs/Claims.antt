-- Claims: numbers that are drawn from one word, each once.
use Rattle.std.specs.Prelude.{ℕ, ◌≡◌, ◌+◌, ◌-◌, ◌^◌, ◌≤◌, ◌==◌, nat_lt, max, if◌then◌else◌, List, [], ◌∷◌, ◌++◌, length, sum_by}
use mathlib.Core.Option.{some}
use lib.ListN.{get_elem?}
use Rattle.atomic_table.specs.Table.{Me, State, Step}
use Rattle.atomic_table.specs.Seated.{TableId}
use Rattle.gp_workers.specs.declared.drawn.Drawn.{Drawn}

-- how many parts all claimers have together, and how many one has that was split off
abbrev pub all_parts : ℕ
all_parts = 2 ^ 63

abbrev pub one_share : ℕ
one_share = 2 ^ 44

-- 1 where two numbers are one, else 0
abbrev pub hit : ℕ → ℕ → ℕ
hit x y = if x == y then 1 else 0

-- how often a number stands in a list
abbrev pub times : ℕ → List ℕ → ℕ
times x xs = sum_by (hit x) xs

-- 1 for each number below a number, else 0
abbrev pub below : ℕ → ℕ → ℕ
below x n = if nat_lt x n then 1 else 0

abbrev pub drawn : ℕ → List ℕ → ℕ → Drawn
drawn parts taken note = record { parts = parts; taken = taken; note = note }

abbrev pub newcomer : Drawn
newcomer = drawn all_parts [] 0

abbrev pub spent : Drawn
spent = drawn 0 [] 0

abbrev pub times_of : ℕ → Drawn → ℕ
times_of x v = times x v.taken

-- a claimer took no more than its parts, and its note isn't above the next claim
pub record Fits (n : ℕ) (v : Drawn) : Type 0 where
  pub few : length v.taken ≤ v.parts
  pub note : v.note ≤ n

-- the claims taken are the numbers below the word, each once
pub record IsCounted (s : State ℕ Drawn) : Type 0 where
  pub next : ℕ
  pub word : s.words ≡ next ∷ []
  pub total : sum_by (λ (v : Drawn). v.parts) s.views ≡ all_parts
  pub counted : sum_by (λ (v : Drawn). length v.taken) s.views ≡ next
  pub once : (x : ℕ) → sum_by (times_of x) s.views ≡ below x next
  pub each : (id : ℕ) (v : Drawn) → get_elem? s.views id ≡ some v → Fits next v

-- a fetch_add takes the next claim
abbrev pub with_claim : Drawn → ℕ → Drawn
with_claim v n = drawn v.parts (v.taken ++ n ∷ []) (n + 1)

abbrev pub took : Step ℕ → Me ℕ Drawn → ℕ → Me ℕ Drawn → Type 0
took st m n m' = (m.0.note ≤ n) × (m' ≡ (with_claim m.0 n, m.1))

-- a load notes the next claim; who has all parts has taken all claims
abbrev pub noted : Drawn → ℕ → Drawn
noted v n = drawn v.parts v.taken n

abbrev pub looked : Step ℕ → Me ℕ Drawn → ℕ → Me ℕ Drawn → Type 0
looked st m n m' = (m.0.note ≤ n) × (m' ≡ (noted m.0 n, m.1)) × (m.0.parts ≡ all_parts → (x : ℕ) → times x m.0.taken ≡ below x n)

-- split and join
abbrev pub smaller : Drawn → Drawn
smaller v = drawn (v.parts - one_share) v.taken v.note

abbrev pub given_off : Drawn → Drawn
given_off v = drawn one_share [] v.note

abbrev pub both_of : Drawn → Drawn → Drawn
both_of v w = drawn (v.parts + w.parts) (v.taken ++ w.taken) (max v.note w.note)

-- what contracts see of a claimer: the claims that it is of, and what it knows
pub record ClaimView : Type 0 where
  pub table : TableId
  pub parts : ℕ
  pub taken : List ℕ
  pub note : ℕ

abbrev pub view_of : TableId → Drawn → ClaimView
view_of table v = record { table = table; parts = v.parts; taken = v.taken; note = v.note }
