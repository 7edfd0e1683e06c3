-- Workers before and after their work.
use Rattle.std.specs.Prelude.{ℕ, ◌≡◌, ◌^◌, false, []}
use Rattle.atomic_table.specs.Seated.{TableId}
use Rattle.gp_workers.specs.Makers.{Means}
use Rattle.gp_workers.specs.Claims.{one_share}
use Rattle.gp_workers.specs.Books.{Books}
use Rattle.gp_workers.specs.Works.{Claimed, HasStopped, Listened, Parted, Ranged, Told}

-- how many numbers the pass of a worker has
abbrev pub worker_numbers : ℕ
worker_numbers = 2 ^ 44

module _ {L D C : Type 0} where
  -- a worker that did nothing yet: its pass has all its numbers, no claim was taken, and nothing is reported
  pub record IsNew (turn claims : TableId) (now : Books L D C) : Type 0 where
    pub of_turn : now.pass.turn ≡ turn
    pub spare : now.pass.spare ≡ worker_numbers
    pub parts : now.pass.parts ≡ worker_numbers
    pub of_claims : now.claimer.table ≡ claims
    pub share : now.claimer.parts ≡ one_share
    pub taken : now.claimer.taken ≡ []
    pub reports : now.reports ≡ []
    pub failed : now.listen_failed ≡ false
    pub memory : now.no_memory ≡ false
    pub full : now.is_full ≡ false

  -- a worker that has done its work: no session runs any more
  pub record HasServed (means : Means L D C) (turn claims : TableId) (limit : ℕ) (start now : Books L D C) : Type 0 where
    pub of_turn : now.pass.turn ≡ turn
    pub of_claims : now.claimer.table ≡ claims
    pub share : now.claimer.parts ≡ one_share
    pub told : Told means turn start now
    pub parted : Parted start now 0
    pub listened : Listened start now
    pub claimed : Claimed limit now (λ x. 0)
    pub ranged : Ranged start now (λ n. 0)
    pub stopped : HasStopped limit now
