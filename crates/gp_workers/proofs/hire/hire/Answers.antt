use Rattle.std.proofs.Common.{rules, ◌≡◌, ◌+◌, [], ◌∷◌, ◌++◌, All, length, length-append, slice_get, List, Some, false, sym, ◌∙◌, ap, arith}
use Rattle.std.proofs.lemmas.List.Elements.{All-push, All-head}
use Rattle.gp_turn.proofs.Histories.{all_front, all_back}
use Rattle.std.proofs.lemmas.List.Sums.{sum_by_push}
use Rattle.gp_workers.specs.Desks.{IsDesk, desks_in}
use Rattle.gp_workers.specs.Works.{stands_in}
use Rattle.gp_workers.specs.declared.desk.Desk.{Desk}
use Rattle.gp_workers.specs.declared.worker.Worker.{Worker}
use Rattle.gp_workers.specs.Books.{books}
use Rattle.gp_workers.specs.Hires.{IsNew}
use Rattle.gp_workers.proofs.Taking.{length_first, map_moved}
use Rattle.gp_workers.proofs.hire.hire.Goals as goal

-- src/hire.rt:57:13
pub unreachable-requires : goal.unreachable-requires
unreachable-requires g c =
    let first = sym c.take_first.ensures.first ∙ c.in-Some.is in
    let some = length_first c.loop-kit.kits c.in-Some.kit first in
    let same = c.loop-kit.invariant.1 in
    let empty = c.in_default-pop.ensures.cases.0 in
    let ok = c.loop-kit.desks.ok in
    let none : length c.loop-kit.desks.items ≡ 0 = omega arith in
    absurd (omega arith)

-- src/hire.rt:55:5
pub loop-kit-preserved : goal.loop-kit-preserved
loop-kit-preserved g c =
    let is = IsDesk c.args._hub.now c.args._claims.now c.args._pass.now.seen in
    let first = sym c.take_first.ensures.first ∙ c.in-Some.is in
    let some = length_first c.loop-kit.kits c.in-Some.kit first in
    let desks : c.loop-kit.desks.items ≡ c.pop.new.self.items ++ c.in-Some-pop.desk ∷ [] = c.in-Some-pop.ensures.items in
    let all : All is (c.pop.new.self.items ++ c.in-Some-pop.desk ∷ []) = rw desks at c.loop-kit.invariant.0 in
    let one : is c.in-Some-pop.desk = All-head is c.in-Some-pop.desk [] (all_back is c.pop.new.self.items (c.in-Some-pop.desk ∷ []) all) in
    let kit : slice_get c.loop-kit.kits 0 ≡ Some c.in-Some.kit = first in
    let same = c.loop-kit.invariant.1 in
    let fewer : length c.pop.new.self.items + 1 ≡ length c.loop-kit.desks.items = (let a = length-append c.pop.new.self.items (c.in-Some-pop.desk ∷ []) in let b : length c.loop-kit.desks.items ≡ length (c.pop.new.self.items ++ c.in-Some-pop.desk ∷ []) = ap (λ (l : List _). length l) desks in omega arith) in
    let room = c.loop-kit.invariant.4 in
    let len = c.push_reserved.ensures.len in let capacity = c.push_reserved.ensures.capacity in
    let left = c.take_first.ensures.left in (
      all_front is c.pop.new.self.items (c.in-Some-pop.desk ∷ []) all,
      rw left (omega arith),
      rw (left, c.push_reserved.ensures.items) (map_moved (λ w. w.kit) c.loop-kit.workers.items _ c.loop-kit.kits c.args.kits first c.loop-kit.invariant.2),
      rw c.push_reserved.ensures.items (All-push (λ w. (w.pass.seen ≡ c.args._pass.now.seen) × IsNew c.args._hub.now c.args._claims.now (books g.K.Kit.parts g.K.Listen.Listen.tells w)) c.loop-kit.workers.items _ c.loop-kit.invariant.3
          (one.has_seen, record { of_turn = one.of_turn; spare = one.spare; parts = one.parts; of_claims = one.of_claims; share = one.share; taken = one.taken; reports = search rules; failed = search rules; memory = search rules; full = search rules })),
      rw left (omega arith),
      (λ n.
          let before = c.loop-kit.invariant.5 n in
          let more = sum_by_push (λ (w : Worker _). stands_in n w.pass.number w.pass.spare) c.loop-kit.workers.items (record { kit = c.in-Some.kit; pass = c.in-Some-pop.desk.pass; claimer = c.in-Some-pop.desk.claimer; reports = c.new.result; listen_failed = false; no_memory = false; is_full = false }) in
          let less = sum_by_push (λ (d : Desk). stands_in n d.pass.number d.pass.spare) c.pop.new.self.items c.in-Some-pop.desk in
          let was : desks_in n c.loop-kit.desks.items ≡ desks_in n (c.pop.new.self.items ++ c.in-Some-pop.desk ∷ []) = ap (desks_in n) desks in
          rw c.push_reserved.ensures.items (omega arith)),
    )
