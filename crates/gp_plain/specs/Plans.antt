-- What an item is to do to a hold, made before the hold is changed.
use Rattle.std.specs.Prelude.{ℕ, ◌≡◌, ◌==◌, Bool, false, not, length, None}
use Rattle.gp_plain.specs.Roomy.{Roomy, roomy}
use Rattle.gp_plain.specs.Holds.{State, gapped, grew}
use Rattle.gp_plain.specs.Growth.{Growth, grown, last_id_of, IsReady}
use Rattle.gp_plain.specs.declared.reply.Piece.{Piece}
use Rattle.gp_plain.specs.declared.plan.Plan.{Plan}
use Rattle.gp_plain.specs.declared.plan.Plan.TheVariants.{Nothing, Gap, Grow}

-- a hold machine: its state, and for how many more pieces it has room
pub record Machine : Type 0 where
  pub state : State
  pub spare : ℕ

abbrev pub machine : State → ℕ → Machine
machine state spare = record { state = state; spare = spare }

-- what a plan makes of a hold
abbrev pub with_plan : State → Plan → State
with_plan s Nothing = s
with_plan s Gap = gapped s
with_plan s (Grow run position) = grown s run

-- a hold without a position is given a run of pieces, which can be added with no further memory
pub record IsRunReady (m : Machine) (run : Growth) : Type 0 where
  pub live : m.state.ended ≡ None
  pub room : IsReady (roomy m.state.pending m.spare) run

-- the run makes this of the hold
pub record IsRunPlanned (m : Machine) (after : State) (run : Growth) : Type 0 where
  pub ready : IsRunReady m run
  pub effect : grown m.state run ≡ after
  pub told : not (length run.pieces == 0) ≡ grew m.state after

-- the log grows
abbrev pub grows : Plan → Bool
grows Nothing = false
grows Gap = false
grows (Grow run position) = not (length run.pieces == 0)

-- the plan can be carried out with no further memory
abbrev pub IsPlanReady : Machine → Plan → Type 0
IsPlanReady m Nothing = Unit {0}
IsPlanReady m Gap = m.state.ended ≡ None
IsPlanReady m (Grow run position) = (m.state.ended ≡ None) × IsReady (roomy m.state.pending m.spare) run × (position ≡ last_id_of run.pieces)

-- the plan adds these pieces behind what waits
abbrev pub IsMadeOf : Roomy Piece → Growth → Plan → Type 0
IsMadeOf to g Nothing = ⊥
IsMadeOf to g Gap = ⊥
IsMadeOf to g (Grow run position) = (run.pieces ≡ g.pieces) × (run.ended ≡ g.ended) × IsReady to run × (position ≡ last_id_of run.pieces)

-- the plan makes this of the hold
pub record IsPlanned (m : Machine) (after : State) (plan : Plan) : Type 0 where
  pub ready : IsPlanReady m plan
  pub effect : with_plan m.state plan ≡ after
  pub told : grows plan ≡ grew m.state after
