-- A worker is dismissed: its pass and its claimer are joined.
use Rattle.std.proofs.Common.{◌≡◌, ◌+◌, ◌≤◌, List, [], ◌∷◌, ◌++◌, length, length-append, max, refl, ap, ◌∙◌, arith}
use Rattle.std.proofs.lemmas.List.Elements.{All-push, All-weaker}
use Rattle.std.proofs.lemmas.List.Sums.{sum_by_push, sum_by-append}
use Rattle.gp_turn.specs.Passes.{ranges_of, times_in, with_joined}
use Rattle.gp_hub.specs.Passes.{HubView, GoesOnFrom}
use Rattle.gp_workers.specs.Claims.{ClaimView, hit, one_share, times}
use Rattle.gp_workers.specs.Served.{HasGathered, HasGrown}
use Rattle.gp_workers.specs.declared.worker.Worker.{Worker}
use Rattle.gp_workers.proofs.Joining.{grown_later, joined_grown, of_range}

-- a pass has grown, and loses none of its numbers
pub record HasKept (start now : HubView) : Type 0 where
  pub grown : HasGrown start now
  pub spare : now.spare ≡ start.spare
  pub number : now.number ≡ start.number

pub kept_joined : (start b g n : HubView) → n ≡ with_joined b g → GoesOnFrom b n.seen → HasKept start b → HasKept start n
kept_joined start b g n is on k =
    let spare : n.spare ≡ b.spare = ap (λ (q : HubView). q.spare) is in
    let number : n.number ≡ b.number = ap (λ (q : HubView). q.number) is in
    let step = joined_grown b g n is on in
    record {
      grown = grown_later start b n
          (λ x.
          let past = k.grown.past x in
          let same : times_in x (ranges_of start) ≡ times_in x (ranges_of (record b { past = start.past })) = rw (k.number, k.spare) refl in
          let was = of_range x (record b { past = start.past }) in
          let is = of_range x b in
          omega arith)
          k.grown step;
      spare = spare ∙ k.spare;
      number = number ∙ k.number;
    }

module _ {K : Type 0} where
  pub gathered_push : (start b g n : ClaimView) (done : List (Worker K)) (w : Worker K) → g ≡ w.claimer → g.parts ≡ one_share
      → n ≡ record { table = b.table; parts = b.parts + g.parts; taken = b.taken ++ g.taken; note = max b.note g.note }
      → HasGathered start b done → HasGathered start n (done ++ w ∷ [])
  gathered_push start b g n done w is share now h =
      let longer : length (done ++ w ∷ []) ≡ length done + 1 = length-append done (w ∷ []) in
      let parts : n.parts ≡ b.parts + g.parts = ap (λ (q : ClaimView). q.parts) now in
      let taken : n.taken ≡ b.taken ++ g.taken = ap (λ (q : ClaimView). q.taken) now in
      let note : n.note ≡ max b.note g.note = ap (λ (q : ClaimView). q.note) now in
      let own : w.claimer.note ≡ g.note = rw is refl in
      let before = h.parts in
      record {
        table = ap (λ (q : ClaimView). q.table) now ∙ h.table;
        parts = omega arith;
        taken = λ x.
            let t = h.taken x in
            let more = sum_by_push (λ (one : Worker K). times x one.claimer.taken) done w in
            let both = sum_by-append (hit x) b.taken g.taken in
            let theirs : times x w.claimer.taken ≡ times x g.taken = rw is refl in
            rw taken (omega arith);
        notes = All-push (λ (one : Worker K). one.claimer.note ≤ n.note) done w
            (All-weaker (λ (one : Worker K). one.claimer.note ≤ b.note) (λ (one : Worker K). one.claimer.note ≤ n.note) (λ one low. omega arith) done h.notes)
            (omega arith);
      }
