-- What holds of a worker at each moment of its work.
use Rattle.std.specs.Prelude.{ℕ, ◌≡◌, ◌+◌, ◌*◌, ◌^◌, ◌<◌, ◌≤◌, ◌⊎◌, true, MatchBool, List, [], ◌∷◌, ◌++◌, All, length, map, sum_by, option_map}
use Rattle.atomic_table.specs.Seated.{TableId}
use Rattle.gp_plain.specs.declared.event.Entry.{Entry}
use Rattle.gp_turn.specs.Passes.{range, ranges_of, times_in}
use Rattle.gp_hub.specs.Passes.{HubView, GoesOnFrom}
use Rattle.gp_outside.specs.Counts.{Rose}
use Rattle.gp_outside.specs.declared.kit.Handed.{Handed}
use Rattle.gp_workers.specs.Claims.{hit, times, one_share}
use Rattle.gp_workers.specs.Makers.{Means, IsGiven, numbers}
use Rattle.gp_workers.specs.Books.{Books, Gave, handed_of, report_of}
use Rattle.gp_workers.specs.declared.maker.Finished.{Finished}
use Rattle.gp_workers.specs.declared.report.SessionReport.{SessionReport}
use Rattle.gp_workers.specs.declared.worker.Running.{Running}

-- A pass was joined into another one. What that has seen goes on from what the first had seen, without an entry of its
-- numbers, which stand in the other's past.
pub record IsJoined (gone now : HubView) : Type 0 where
  pub goes_on : GoesOnFrom gone now.seen
  pub past : (n : ℕ) → 0 < times_in n (ranges_of gone) → 0 < times_in n now.past

module _ {S L D C : Type 0} where
  -- a session that runs gives only what its maker says of its claim and its number
  pub record IsOpen (ended : S → Type 0) (may_give : S → Finished L D C → Type 0) (means : Means L D C) (turn : TableId) (r : Running S) : Type 0 where
    pub runs : ended r.session → ⊥
    pub gives : (over : Finished L D C) → may_give r.session over → IsGiven means turn r.claim r.number over

module _ {L D C : Type 0} where
  -- what the maker says of a session that ended
  abbrev pub Holds : Means L D C → TableId → Gave L D C → Type 0
  Holds means turn gave = IsGiven means turn gave.claim gave.over.outcome.pass.number gave.over

  -- Each report is of a session that ended, with what its maker says of it, and its pass was joined. The devices were handed
  -- back in order, but those behind one that was refused for want of memory.
  pub record Told (means : Means L D C) (turn : TableId) (start now : Books L D C) : Type 0 where
    pub gave : List (Gave L D C)
    pub back : List (Gave L D C)
    pub lost : List (Gave L D C)
    pub split : gave ≡ back ++ lost
    pub reports : now.reports ≡ start.reports ++ map report_of gave
    pub handed : now.handed ≡ option_map (λ (all : List (Handed L D C)). all ++ map handed_of back) start.handed
    pub full : MatchBool now.is_full (now.no_memory ≡ true) (lost ≡ [])
    pub holds : All (Holds means turn) gave
    pub joined : All (λ (one : Gave L D C). IsJoined one.over.outcome.pass now.pass) gave

  -- the pass keeps its number, and its parts with those of the sessions that run
  pub record Parted (start now : Books L D C) (running : ℕ) : Type 0 where
    pub number : now.pass.number ≡ start.pass.number
    pub parts : now.pass.parts + numbers * running ≡ start.pass.parts

  -- a listener failed only where its faults rose
  pub record Listened (start now : Books L D C) : Type 0 where
    pub clients : start.clients ≤ now.clients
    pub publishers : start.publishers ≤ now.publishers
    pub failed : now.listen_failed ≡ true → Rose start.clients now.clients ⊎ Rose start.publishers now.publishers

module _ {L D C : Type 0} where
  -- why a worker takes no more connections: the next claim is at least the limit, memory was wanting, or a listener failed
  abbrev pub HasStopped : ℕ → Books L D C → Type 0
  HasStopped limit now = (limit ≤ now.claimer.note) ⊎ (now.no_memory ≡ true) ⊎ (now.listen_failed ≡ true)

module _ {S : Type 0} where
  -- how many of the sessions that run have the claim
  abbrev pub running_at : ℕ → List (Running S) → ℕ
  running_at x running = sum_by (λ (r : Running S). hit x r.claim) running

-- how many reports have the claim
abbrev pub reported_at : ℕ → List SessionReport → ℕ
reported_at x reports = sum_by (λ (r : SessionReport). hit x r.claim) reports

-- 1 where a number stands in the range that begins with a first one, else 0
abbrev pub stands_in : ℕ → ℕ → ℕ → ℕ
stands_in n first count = times_in n (range first count ∷ [])

module _ {S : Type 0} where
  -- how many of the sessions that run were handed the number
  abbrev pub running_in : ℕ → List (Running S) → ℕ
  running_in n running = sum_by (λ (r : Running S). stands_in n r.number numbers) running

-- how many of the sessions that are reported were handed the number
abbrev pub reported_in : ℕ → List SessionReport → ℕ
reported_in n reports = sum_by (λ (r : SessionReport). stands_in n r.number numbers) reports

module _ {L D C : Type 0} where
  -- Each claim below the limit that was taken is that of a session that runs or of a report, but at most one, for which
  -- memory was wanting. Of the sessions that run it is told how many have a claim.
  pub record Claimed (limit : ℕ) (now : Books L D C) (running : ℕ → ℕ) : Type 0 where
    pub lost : List ℕ
    pub few : length lost ≤ 1
    pub memory : 0 < length lost → now.no_memory ≡ true
    pub each : (x : ℕ) → x < limit → times x now.claimer.taken ≡ running x + reported_at x now.reports + times x lost

  -- The numbers that sessions were handed are the worker's, apart from one another and from those that are left. An entry
  -- beyond what the worker had seen at first, of one of the worker's numbers, is of a number that a session was handed.
  -- Of the sessions that run it is told how many were handed a number.
  pub record Ranged (start now : Books L D C) (running : ℕ → ℕ) : Type 0 where
    pub apart : (n : ℕ) → stands_in n now.pass.number now.pass.spare + (running n + reported_in n now.reports) ≤ stands_in n start.pass.number start.pass.spare
    pub covers : (n : ℕ) → 0 < stands_in n start.pass.number start.pass.spare → (0 < times_in n (ranges_of now.pass)) ⊎ (0 < running n)
    pub more : List Entry
    pub grows : now.pass.seen ≡ start.pass.seen ++ more
    pub mine : All (λ (e : Entry). 0 < stands_in e.who start.pass.number start.pass.spare → 0 < running e.who + reported_in e.who now.reports) more

module _ {S L D C : Type 0} where
  -- What the next step of a worker rests on: its pass is of the turn, there is room for the report of each session that
  -- runs, and each gives only what its maker says. Its claims rise, and each took at most one share of its numbers.
  pub record Stands (ended : S → Type 0) (may_give : S → Finished L D C → Type 0) (means : Means L D C) (turn claims : TableId) (now : Books L D C) (running : List (Running S)) : Type 0 where
    pub of_turn : now.pass.turn ≡ turn
    pub of_claims : now.claimer.table ≡ claims
    pub room : length running ≤ now.spare
    pub opens : All (IsOpen ended may_give means turn) running
    pub parts : now.claimer.parts ≡ one_share
    pub rise : length now.claimer.taken ≤ now.claimer.note
    pub spare : 2 ^ 44 ≤ now.pass.spare + numbers * length now.claimer.taken
    pub enough : now.pass.spare ≤ now.pass.parts

  -- what a worker has done since it began
  pub record Works (means : Means L D C) (turn : TableId) (limit : ℕ) (start now : Books L D C) (running : List (Running S)) : Type 0 where
    pub told : Told means turn start now
    pub parted : Parted start now (length running)
    pub listened : Listened start now
    pub claimed : Claimed limit now (λ x. running_at x running)
    pub ranged : Ranged start now (λ n. running_in n running)
