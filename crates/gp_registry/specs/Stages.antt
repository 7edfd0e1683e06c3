-- What a hold of the registry is seen as, before and after an item is served.
use Rattle.std.specs.Prelude.{ℕ, ◌≡◌, ◌==◌, ◌+◌, ◌<◌, ◌≤◌, Bool, false, not, List, [], ◌∷◌, length, map, Option, Some, None}
use Rattle.gp_plain.specs.declared.item.Item.{Item}
use Rattle.gp_plain.specs.declared.plan.Plan.{Plan}
use Rattle.gp_plain.specs.Growth.{Growth, grown}
use Rattle.gp_plain.specs.Holds.{State, grew, settled_if}
use Rattle.gp_plain.specs.Plans.{Machine, with_plan, grows, IsPlanReady, IsRunReady}
use Rattle.gp_plain.specs.Standing.{Kept, Standing}
use Rattle.gp_registry.specs.Keeps.{offered_if}
use Rattle.gp_registry.specs.declared.machine.HoldMachine.{HoldMachine}
use Rattle.gp_registry.specs.declared.machine.HoldMachine.TheVariants.{Stream, Plain, Response, Socket}
use Rattle.gp_registry.specs.declared.hold.Hold.{Hold}

abbrev pub state_of : HoldMachine → State
state_of (Stream hold plan) = hold.state
state_of (Plain hold plan) = hold.state
state_of (Response hold plan) = hold.state
state_of (Socket hold plan) = hold.state

abbrev pub kept_hold : Hold → Kept
kept_hold h = record { number = h.number; owner = h.owner; state = state_of h.machine.value }

abbrev pub number_of : Hold → ℕ
number_of h = h.number

abbrev pub planned_if : State → Option Plan → State
planned_if s None = s
planned_if s (Some plan) = with_plan s plan

abbrev pub run_if : State → Option Growth → State
run_if s None = s
run_if s (Some plan) = grown s plan

-- a hold once its plan is carried out
abbrev pub staged : HoldMachine → State
staged (Stream hold plan) = planned_if hold.state plan
staged (Plain hold plan) = run_if hold.state plan
staged (Response hold plan) = planned_if hold.state plan
staged (Socket hold plan) = run_if hold.state plan

abbrev pub grows_if : Option Plan → Bool
grows_if None = false
grows_if (Some plan) = grows plan

abbrev pub run_grows_if : Option Growth → Bool
run_grows_if None = false
run_grows_if (Some plan) = not (length plan.pieces == 0)

-- its log grows then
abbrev pub appends : HoldMachine → Bool
appends (Stream hold plan) = grows_if plan
appends (Plain hold plan) = run_grows_if plan
appends (Response hold plan) = grows_if plan
appends (Socket hold plan) = run_grows_if plan

abbrev pub IsReadyIf : Machine → Option Plan → Type 0
IsReadyIf m None = Unit {0}
IsReadyIf m (Some plan) = IsPlanReady m plan

abbrev pub IsRunReadyIf : Machine → Option Growth → Type 0
IsRunReadyIf m None = Unit {0}
IsRunReadyIf m (Some plan) = IsRunReady m plan

-- its plan can be carried out
abbrev pub IsReadyHold : HoldMachine → Type 0
IsReadyHold (Stream hold plan) = IsReadyIf hold plan
IsReadyHold (Plain hold plan) = IsRunReadyIf hold plan
IsReadyHold (Response hold plan) = IsReadyIf hold plan
IsReadyHold (Socket hold plan) = IsRunReadyIf hold plan

abbrev pub HasRoom : Hold → Type 0
HasRoom h = IsReadyHold h.machine.value

-- a hold once its plan is carried out, and its marks are settled by a window
abbrev pub committed : List Item → Hold → Kept
committed window h = record (kept_hold h) { state = settled_if (appends h.machine.value) window (staged h.machine.value) }

-- the same for a hold with plans of one form
pub record IsStreamStaged (item : Item) (window : List Item) (m : Machine) (plan : Option Plan) : Type 0 where
  pub ready : IsReadyIf m plan
  pub effect : planned_if m.state plan ≡ offered_if item window m.state
  pub told : grows_if plan ≡ grew m.state (offered_if item window m.state)

pub record IsRunStaged (item : Item) (window : List Item) (m : Machine) (plan : Option Growth) : Type 0 where
  pub ready : IsRunReadyIf m plan
  pub effect : run_if m.state plan ≡ offered_if item window m.state
  pub told : run_grows_if plan ≡ grew m.state (offered_if item window m.state)

-- what an item does to a hold is planned, and can be carried out
pub record IsStagedBy (item : Item) (window : List Item) (m : HoldMachine) : Type 0 where
  pub ready : IsReadyHold m
  pub effect : staged m ≡ offered_if item window (state_of m)
  pub told : appends m ≡ grew (state_of m) (offered_if item window (state_of m))

abbrev pub IsStaged : Item → List Item → Hold → Type 0
IsStaged item window h = IsStagedBy item window h.machine.value

-- the registry, as it is seen
abbrev pub standing_now : List Item → ℕ → List Hold → Standing
standing_now window next holds = record { window = window; next = next; kept = map kept_hold holds }

-- numbers that rise, from one on
abbrev pub Rises : ℕ → List ℕ → Type 0
Rises low [] = Unit {0}
Rises low (number ∷ numbers) = (low ≤ number) × Rises (number + 1) numbers

abbrev pub AllBelow : ℕ → List ℕ → Type 0
AllBelow high [] = Unit {0}
AllBelow high (number ∷ numbers) = (number < high) × AllBelow high numbers

-- the holds are few, and in the order of their numbers, which were all given
pub record IsInOrder (next : ℕ) (holds : List Hold) : Type 0 where
  pub few : length holds ≤ 4096
  pub rises : Rises 0 (map number_of holds)
  pub given : AllBelow next (map number_of holds)
