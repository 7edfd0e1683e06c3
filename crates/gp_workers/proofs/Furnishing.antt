-- One more desk is cut off.
use Rattle.std.proofs.Common.{◌≡◌, ◌+◌, ◌-◌, ◌≤◌, List, [], ◌∷◌, ◌++◌, length, length-append, refl, ◌∙◌, arith}
use Rattle.std.proofs.lemmas.List.Sums.{sum_by_push}
use Rattle.atomic_table.specs.Seated.{TableId}
use Rattle.gp_plain.specs.declared.event.Entry.{Entry}
use Rattle.gp_turn.proofs.Ranges.{times-split}
use Rattle.gp_hub.specs.Passes.{HubView}
use Rattle.gp_workers.specs.Claims.{ClaimView, one_share}
use Rattle.gp_workers.specs.Desks.{IsDesk, IsShared}
use Rattle.gp_workers.specs.Hires.{worker_numbers}
use Rattle.gp_workers.specs.Works.{stands_in}
use Rattle.gp_workers.specs.declared.desk.Desk.{Desk}

pub shared_push : (turn claims : TableId) (seen : List Entry) (desks : List Desk) (made : Desk) (start b n : HubView) (c m : ClaimView) → IsShared claims desks start b c → IsDesk turn claims seen made
    → made.pass.number ≡ b.number + (b.spare - worker_numbers)
    → (n.seen ≡ b.seen) × (n.number ≡ b.number) × (n.turn ≡ b.turn) × (n.spare + worker_numbers ≡ b.spare) × (n.parts + worker_numbers ≡ b.parts)
    → (m.table ≡ c.table) × (m.taken ≡ c.taken) × (m.parts + one_share ≡ c.parts)
    → worker_numbers ≤ b.spare
    → IsShared claims (desks ++ made ∷ []) start n m
shared_push turn claims seen desks made start b n c m s is number pass claimer enough =
    let longer : length (desks ++ made ∷ []) ≡ length desks + 1 = length-append desks (made ∷ []) in
    let spare = s.spare in let parts = s.parts in let shares = s.shares in
    let spare_now = pass.3 in let parts_now = pass.4 in let shares_now = claimer.2 in
    record {
      seen = pass.0 ∙ s.seen;
      number = pass.1 ∙ s.number;
      turn = pass.2 ∙ s.turn;
      spare = omega arith;
      parts = omega arith;
      numbers = λ x.
          let more = sum_by_push (λ (desk : Desk). stands_in x desk.pass.number desk.pass.spare) desks made in
          let cut = times-split x b.number b.spare worker_numbers [] enough in
          let was = s.numbers x in
          let left : n.spare ≡ b.spare - worker_numbers = omega arith in
          let first : stands_in x n.number n.spare ≡ stands_in x b.number (b.spare - worker_numbers) = rw (pass.1, left) refl in
          let one : stands_in x made.pass.number made.pass.spare ≡ stands_in x (b.number + (b.spare - worker_numbers)) worker_numbers = rw (number, is.spare) refl in
          omega arith;
      of_claims = claimer.0 ∙ s.of_claims;
      taken = claimer.1 ∙ s.taken;
      shares = omega arith;
    }
