-- What a maker says of the sessions that it makes.
use Rattle.std.specs.Prelude.{ℕ, ◌≡◌, ◌≢◌, ◌<◌, true, List, [], ◌∷◌, All, map, Option}
use Rattle.atomic_table.specs.Seated.{TableId}
use Rattle.gp_plain.specs.declared.event.Entry.{Entry}
use Rattle.gp_plain.specs.declared.reply.HoldReport.{HoldReport}
use Rattle.gp_turn.specs.Passes.{OfOthers, range, ranges_of, times_in}
use Rattle.gp_hub.specs.Passes.{HubView, who_of}
use Rattle.gp_plain.specs.Others.{Share}
use Rattle.gp_hub.specs.declared.outcome.SessionEnd.{SessionEnd}
use Rattle.gp_hub.specs.declared.outcome.SessionEnd.TheVariants.{Worn}
use Rattle.gp_workers.specs.declared.maker.Finished.{Finished}
use Rattle.gp_workers.specs.Reports.{hold_report, owned, published_by}

-- how many numbers the range of a session's pass has
abbrev pub numbers : ℕ
numbers = 1024

-- the pass that a session is made with: of this turn, with so many numbers, of which nothing was seen
pub record IsUnused (of_turn : TableId) (pass : HubView) : Type 0 where
  pub turn : pass.turn ≡ of_turn
  pub spare : pass.spare ≡ numbers
  pub parts : pass.parts ≡ numbers
  pub fresh : OfOthers who_of (range pass.number pass.spare ∷ []) pass.seen

-- a relation between a history, a claim, a number, an end, holds and devices
abbrev pub Means : Type 0 → Type 0 → Type 0 → Type 1
Means L D C = List Entry → ℕ → ℕ → SessionEnd → List HoldReport → L → Option (D × C) → Type 0

module _ {L D C : Type 0} where
  -- An output of the session that was made with a claim and a pass of this number. It gives back a pass of the turn, with
  -- the number, the parts and all numbers of that pass; it reports each hold of these numbers, in order, of which none is
  -- kept unless the hub is worn; and it means what the maker says.
  pub record IsGiven (means : Means L D C) (of_turn : TableId) (claim first : ℕ) (over : Finished L D C) : Type 0 where
    pub turn : over.outcome.pass.turn ≡ of_turn
    pub number : over.outcome.pass.number ≡ first
    pub parts : over.outcome.pass.parts ≡ numbers
    pub ranges : (n : ℕ) → 0 < times_in n (range first numbers ∷ []) → 0 < times_in n (ranges_of over.outcome.pass)
    pub holds : over.outcome.holds.items ≡ map hold_report (owned (range first numbers) over.outcome.pass.seen)
    pub kept : over.outcome.end ≢ Worn → All (λ (hold : ℕ × Share). hold.1.released ≡ true) (owned (range first numbers) over.outcome.pass.seen)
    pub published : over.outcome.published ≡ published_by (range first numbers) over.outcome.pass.seen
    pub is : means over.outcome.pass.seen claim first over.outcome.end over.outcome.holds.items over.link over.others
