-- A pass that comes back from a call, a split or a join is at rest.
use Rattle.std.proofs.Common.{◌≡◌, ℕ, ◌+◌, ◌-◌, ◌^◌, ◌<◌, ◌≤◌, List, [], ◌∷◌, ◌++◌, sym, ap, ◌∙◌, subst, false, Option}
use Rattle.std.proofs.lemmas.List.Elements.{All-append, All-push}
use Rattle.atomic_table.specs.Table.{Me}
use Rattle.atomic_table.specs.declared.shared.Seat.{Seat}
use Rattle.gp_turn.specs.declared.range.Range.{Range}
use Rattle.gp_turn.specs.declared.view.View.{View}
use Rattle.gp_turn.specs.declared.pass.Pass.TheInside.{Inside}
use Rattle.gp_turn.specs.Passes.{range, times_in, OfOthers, Continues, longer}
use Rattle.gp_turn.specs.Fields.{IsAtRest}
use Rattle.gp_turn.specs.Rule.{ranges}
use Rattle.gp_turn.specs.Steps.{joined, Learned, HasLearned}
use Rattle.gp_turn.proofs.Ranges.{times-later, times-own}
use Rattle.gp_turn.proofs.Histories.{others_fewer}

module _ {E : Type 0} (number : E → ℕ) where
  -- the numbers of a range behind its first
  abbrev pub behind : View E → List Range
  behind v = range (v.number + 1) (v.spare - 1) ∷ []

  -- what goes on from a history has no entries of those numbers, if it had none
  pub fresh_on : (v : View E) (later : List E) → OfOthers number (behind v) v.seen → Continues number (ranges v) v.seen later → OfOthers number (behind v) later
  fresh_on v later fresh c =
      let P : E → Type 0 = λ (e : E). times_in (number e) (behind v) ≡ 0 in
      rw c.is (All-append P v.seen c.more fresh (others_fewer number (ranges v) (behind v) c.more (λ n. times-later n v.number v.spare v.past) c.others))

  pub fresh_push : (v : View E) (whole : List E) (e : E) → OfOthers number (behind v) v.seen → Continues number (ranges v) v.seen whole → number e ≡ v.number → OfOthers number (behind v) (whole ++ e ∷ [])
  fresh_push v whole e fresh c own =
      let P : E → Type 0 = λ (e : E). times_in (number e) (behind v) ≡ 0 in
      All-push P whole e (fresh_on v whole fresh c) (rw own (times-own v.number v.spare))

module _ {V A R E : Type 0} (number : E → ℕ) where
  -- after a call that was answered
  pub rests_after : (p : Inside V A R E) (s : Seat (Option V) (View E)) (whole : List E) (e : E) (found : ℕ) → IsAtRest number p
      → s.me ≡ (record p.seat.me.0 { looks = p.seat.me.0.looks + 1; found = found; holds = false; whole = whole; seen = whole ++ e ∷ [] }, [])
      → Continues number (ranges p.seat.me.0) p.seat.me.0.seen whole → number e ≡ p.seat.me.0.number
      → IsAtRest number (record p { seat = s })
  rests_after p s whole e found r me c own = record {
    number = r.number ∙ sym (ap (λ (m : Me (Option V) (View E)). m.0.number) me);
    spare = r.spare ∙ sym (ap (λ (m : Me (Option V) (View E)). m.0.spare) me);
    parts = r.parts ∙ sym (ap (λ (m : Me (Option V) (View E)). m.0.parts) me);
    rests = ap (λ (m : Me (Option V) (View E)). m.0.holds) me;
    alone = ap (λ (m : Me (Option V) (View E)). m.0.joining) me ∙ r.alone;
    out = ap (λ (m : Me (Option V) (View E)). m.1) me;
    some = subst (λ (m : Me (Option V) (View E)). 0 < m.0.spare) (sym me) r.some;
    enough = subst (λ (m : Me (Option V) (View E)). m.0.spare ≤ m.0.parts) (sym me) r.enough;
    most = subst (λ (m : Me (Option V) (View E)). m.0.parts ≤ 2 ^ 63) (sym me) r.most;
    below = subst (λ (m : Me (Option V) (View E)). m.0.number + m.0.spare ≤ 2 ^ 63) (sym me) r.below;
    fresh = subst (λ (m : Me (Option V) (View E)). OfOthers number (behind number m.0) m.0.seen) (sym me) (fresh_push number p.seat.me.0 whole e r.fresh c own);
  }

module _ {V E : Type 0} (number : E → ℕ) where
  -- what a load tells after a join
  pub has_learned : (v w : View E) (m m' : Me (Option V) (View E)) → m ≡ (joined v w, []) → Learned number m m' → HasLearned number v w m'
  has_learned v w m m' e = subst (λ (n : Me (Option V) (View E)). Learned number n m' → HasLearned number v w m') (sym e) here where
    here : Learned {V = V} number (joined v w, []) m' → HasLearned number v w m'
    here l =
        let seen : m'.0.seen ≡ longer v.seen w.seen = ap (λ (u : View E). u.seen) l.view in
        record {
          view = l.view;
          out = l.slots;
          mine = subst (λ (xs : List E). Continues number (ranges v) v.seen xs) (sym seen) l.mine;
          theirs = subst (λ (xs : List E). Continues number (ranges w) w.seen xs) (sym seen) l.theirs;
          apart = l.apart;
          most = subst (λ (u : View E). u.parts ≤ 2 ^ 63) (sym l.view) l.most;
        }
