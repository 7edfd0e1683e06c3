-- What looks at the doors and at the claims keeps the books of a worker.
use Rattle.std.proofs.Common.{◌≡◌, ℕ, ◌≤◌, inl, inr, List, length, ap, ◌∙◌, ⊎_elim, arith}
use Rattle.atomic_table.specs.Seated.{TableId}
use Rattle.gp_hub.specs.Passes.{HubView}
use Rattle.gp_outside.specs.Counts.{Rose}
use Rattle.gp_workers.specs.Claims.{ClaimView}
use Rattle.gp_workers.specs.Makers.{Means}
use Rattle.gp_workers.specs.Books.{Books}
use Rattle.gp_workers.specs.Works.{Listened, Stands, Works, running_in}
use Rattle.gp_workers.specs.Doors.{HasMoved}
use Rattle.gp_workers.specs.declared.maker.Finished.{Finished}
use Rattle.gp_workers.specs.declared.worker.Running.{Running}
use Rattle.gp_workers.proofs.Joining.{grown_same, ranged_kept}
use Rattle.gp_workers.proofs.Entering.{told_kept}

rose_later : (a b c : ℕ) → Rose a b → b ≤ c → Rose a c
rose_later a b c rose later = grind (arith)

rose_earlier : (a b c : ℕ) → a ≤ b → Rose b c → Rose a c
rose_earlier a b c earlier rose = grind (arith)

module _ {L D C : Type 0} where
  moved_listened : (start b n : Books L D C) → HasMoved b n → Listened start b → Listened start n
  moved_listened start b n m l =
      let clients = m.clients in let publishers = m.publishers in let c = l.clients in let p = l.publishers in
      record {
        clients = omega arith;
        publishers = omega arith;
        failed = λ failed. ⊎_elim
            (λ before. ⊎_elim (λ rose. inl (rose_later start.clients b.clients n.clients rose clients)) (λ rose. inr (rose_later start.publishers b.publishers n.publishers rose publishers)) (l.failed before))
            (λ now. ⊎_elim (λ rose. inl (rose_earlier start.clients b.clients n.clients c rose)) (λ rose. inr (rose_earlier start.publishers b.publishers n.publishers p rose)) now)
            (m.failed failed);
      }

module _ {S L D C : Type 0} where
  pub moved_works : (means : Means L D C) (turn : TableId) (limit : ℕ) (start b n : Books L D C) (rs zs : List (Running S)) → zs ≡ rs → HasMoved b n → Works means turn limit start b rs → Works means turn limit start n zs
  moved_works means turn limit start b n rs zs same m w =
      let taken : n.claimer.taken ≡ b.claimer.taken = ap (λ (q : ClaimView). q.taken) m.claimer in
      let cl = w.claimed in record {
        told = told_kept means turn start b n m.reports m.handed m.full m.memory (grown_same b.pass n.pass (ap (λ (q : HubView). q.seen) m.pass) (ap (λ (q : HubView). q.past) m.pass)) w.told;
        parted = record { number = ap (λ (q : HubView). q.number) m.pass ∙ w.parted.number; parts = rw (m.pass, same) w.parted.parts };
        listened = moved_listened start b n m w.listened;
        claimed = record {
          lost = cl.lost;
          few = cl.few;
          memory = λ some. m.memory (cl.memory some);
          each = λ x below. rw (taken, m.reports, same) (cl.each x below);
        };
        ranged = ranged_kept start b n (λ x. running_in x rs) (λ x. running_in x zs) m.pass m.reports (λ x. ap (running_in x) same) w.ranged;
      }

  pub moved_stands : (ended : S → Type 0) (may_give : S → Finished L D C → Type 0) (means : Means L D C) (turn claims : TableId) (b n : Books L D C) (rs : List (Running S))
      → HasMoved b n → length rs ≤ n.spare → Stands ended may_give means turn claims b rs → Stands ended may_give means turn claims n rs
  moved_stands ended may_give means turn claims b n rs m room s =
      let taken : n.claimer.taken ≡ b.claimer.taken = ap (λ (q : ClaimView). q.taken) m.claimer in
      let note = m.note in let rise = s.rise in record {
        of_turn = rw m.pass s.of_turn;
        of_claims = ap (λ (q : ClaimView). q.table) m.claimer ∙ s.of_claims;
        room = room;
        opens = s.opens;
        parts = ap (λ (q : ClaimView). q.parts) m.claimer ∙ s.parts;
        rise = rw taken (omega arith);
        spare = rw (m.pass, taken) s.spare;
        enough = rw m.pass s.enough;
      }
