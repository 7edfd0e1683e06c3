-- What each worker gets before the threads begin.
use Rattle.std.specs.Prelude.{ℕ, ◌≡◌, ◌+◌, ◌*◌, List, [], length, sum_by}
use Rattle.atomic_table.specs.Seated.{TableId}
use Rattle.gp_plain.specs.declared.event.Entry.{Entry}
use Rattle.gp_hub.specs.Passes.{HubView}
use Rattle.gp_workers.specs.Claims.{ClaimView, all_parts, one_share}
use Rattle.gp_workers.specs.Hires.{worker_numbers}
use Rattle.gp_workers.specs.Works.{stands_in}
use Rattle.gp_workers.specs.declared.desk.Desk.{Desk}

pub record IsDesk (turn claims : TableId) (seen : List Entry) (desk : Desk) : Type 0 where
  pub has_seen : desk.pass.seen ≡ seen
  pub of_turn : desk.pass.turn ≡ turn
  pub spare : desk.pass.spare ≡ worker_numbers
  pub parts : desk.pass.parts ≡ worker_numbers
  pub of_claims : desk.claimer.table ≡ claims
  pub share : desk.claimer.parts ≡ one_share
  pub taken : desk.claimer.taken ≡ []

-- how many desks have the number
abbrev pub desks_in : ℕ → List Desk → ℕ
desks_in n desks = sum_by (λ (desk : Desk). stands_in n desk.pass.number desk.pass.spare) desks

-- the desks were cut off a pass and a claimer that had all parts
pub record IsShared (claims : TableId) (desks : List Desk) (before now : HubView) (claimer : ClaimView) : Type 0 where
  pub seen : now.seen ≡ before.seen
  pub number : now.number ≡ before.number
  pub turn : now.turn ≡ before.turn
  pub spare : now.spare + worker_numbers * length desks ≡ before.spare
  pub parts : now.parts + worker_numbers * length desks ≡ before.parts
  pub numbers : (n : ℕ) → stands_in n now.number now.spare + desks_in n desks ≡ stands_in n before.number before.spare
  pub of_claims : claimer.table ≡ claims
  pub taken : claimer.taken ≡ []
  pub shares : claimer.parts + one_share * length desks ≡ all_parts
