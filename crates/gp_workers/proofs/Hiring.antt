-- A new worker begins with its books in order.
use Rattle.std.proofs.Common.{◌≡◌, ℕ, ◌+◌, ◌<◌, inl, List, [], ◌++◌, append-nil, length, sym, refl, ap, ◌∙◌, arith, subst, Bool, true, MatchBool, Option, Some, None}
use Rattle.std.specs.Option.{option_map}
use Rattle.std.proofs.lemmas.List.Elements.{All-nil}
use Rattle.atomic_table.specs.Seated.{TableId}
use Rattle.gp_plain.specs.declared.event.Entry.{Entry}
use Rattle.gp_workers.specs.Claims.{one_share}
use Rattle.gp_workers.specs.Makers.{Means}
use Rattle.gp_workers.specs.Books.{Books, Gave}
use Rattle.gp_workers.specs.Works.{HasStopped, Holds, IsJoined, IsOpen, Stands, Works, reported_in, running_in, stands_in}
use Rattle.gp_workers.proofs.Joining.{of_range}
use Rattle.gp_workers.specs.Hires.{HasServed, IsNew}
use Rattle.gp_workers.specs.declared.maker.Finished.{Finished}
use Rattle.gp_workers.specs.declared.worker.Running.{Running}
use Rattle.gp_workers.proofs.Working.{false-ne-true}

handed_none : {A : Type 0} (told : Option (List A)) → told ≡ option_map (λ (all : List A). all ++ []) told
handed_none None = refl
handed_none (Some all) = ap (λ (l : List _). Some l) (sym (append-nil all))

module _ {S L D C : Type 0} where
  pub new_stands : (ended : S → Type 0) (may_give : S → Finished L D C → Type 0) (means : Means L D C) (turn claims : TableId) (now : Books L D C) → IsNew turn claims now → Stands ended may_give means turn claims now []
  new_stands ended may_give means turn claims now n =
      let none : length now.claimer.taken ≡ 0 = ap (λ (l : List ℕ). length l) n.taken in
      let spare = n.spare in let parts = n.parts in record {
        of_turn = n.of_turn;
        of_claims = n.of_claims;
        room = omega arith;
        opens = All-nil (IsOpen ended may_give means turn);
        parts = n.share;
        rise = omega arith;
        spare = omega arith;
        enough = omega arith;
      }

  pub new_works : (means : Means L D C) (limit : ℕ) (turn claims : TableId) (now : Books L D C) → IsNew turn claims now → Works {S = S} means turn limit now now []
  new_works means limit turn claims now n = record {
    told = record {
      gave = [];
      back = [];
      lost = [];
      split = refl;
      reports = sym (append-nil now.reports);
      handed = handed_none now.handed;
      full = subst (λ (is : Bool). MatchBool is (now.no_memory ≡ true) (◌≡◌ {A = List (Gave L D C)} [] [])) (sym n.full) refl;
      holds = All-nil (Holds means turn);
      joined = All-nil (λ (one : Gave L D C). IsJoined one.over.outcome.pass now.pass);
    };
    parted = record { number = refl; parts = omega arith };
    listened = record { clients = omega arith; publishers = omega arith; failed = λ failed. absurd (false-ne-true (sym n.failed ∙ failed)) };
    claimed = record {
      lost = [];
      few = omega arith;
      memory = λ some. absurd (omega arith);
      each = λ x below. rw (n.taken, n.reports) refl;
    };
    ranged = record {
      apart = λ x. rw n.reports (omega arith);
      covers = λ x has. inl (omega (arith, of_range x now.pass));
      more = [];
      grows = sym (append-nil now.pass.seen);
      mine = All-nil (λ (e : Entry). 0 < stands_in e.who now.pass.number now.pass.spare → 0 < running_in {S = S} e.who [] + reported_in e.who now.reports);
    };
  }

  -- where no session runs any more, what was done is told without them
  pub served : (means : Means L D C) (turn claims : TableId) (limit : ℕ) (start now : Books L D C) (running : List (Running S))
      → now.pass.turn ≡ turn → now.claimer.table ≡ claims → now.claimer.parts ≡ one_share → running ≡ [] → HasStopped limit now → Works means turn limit start now running → HasServed means turn claims limit start now
  served means turn claims limit start now running of_turn of_claims share none stopped w =
      let v : Works means turn limit start now [] = subst (λ (rs : List (Running S)). Works means turn limit start now rs) none w in
      let cl = v.claimed in let r = v.ranged in record {
        of_turn = of_turn;
        of_claims = of_claims;
        share = share;
        told = v.told;
        parted = v.parted;
        listened = v.listened;
        claimed = record { lost = cl.lost; few = cl.few; memory = cl.memory; each = cl.each };
        ranged = record { apart = r.apart; covers = r.covers; more = r.more; grows = r.grows; mine = r.mine };
        stopped = stopped;
      }
