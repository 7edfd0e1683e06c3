-- What the sessions of these tests give is what their maker says.
use Rattle.std.proofs.Common.{◌≡◌, ℕ, ◌&&◌, cond, Bool, true, List, [], ◌∷◌, map, Option, Some, None, refl, sym, ap, subst, ◌∙◌, arith}
use Rattle.std.specs.List.{All}
use Rattle.std.proofs.lemmas.List.Elements.{All-nil, All-head, All-tail}
use Rattle.std.proofs.lemmas.List.Sums.{sum_by-cons}
use Rattle.atomic_table.specs.Seated.{TableId}
use Rattle.gp_plain.specs.Others.{Share}
use Rattle.gp_plain.specs.Roomy.{Roomy}
use Rattle.gp_plain.specs.declared.reply.HoldReport.{HoldReport}
use Rattle.gp_plain.specs.declared.event.Entry.{Entry}
use Rattle.gp_turn.specs.declared.range.Range.{Range}
use Rattle.gp_turn.specs.Passes.{is_in, range, ranges_of, times_in}
use Rattle.gp_turn.proofs.Ranges.{times-cons}
use Rattle.gp_hub.specs.Passes.{HubView}
use Rattle.gp_workers.specs.Makers.{IsGiven, IsUnused, numbers}
use Rattle.gp_workers.specs.Reports.{hold_report, is_publish, owned, published_by}
use Rattle.gp_workers.specs.declared.maker.Finished.{Finished}
use Rattle.gp_workers.proofs.Owning.{not_in, owned_later}
use Rattle.gp_shifts.specs.Briefs.{BeganWith, GivesAll, GivesRest, Says}
use Rattle.gp_shifts.specs.declared.brief.Rest.{Rest}

none_published : (r : Range) (entries : List Entry) → All (λ (e : Entry). times_in e.who (r ∷ []) ≡ 0) entries → published_by r entries ≡ 0
none_published r [] all = refl
none_published r (e ∷ es) all =
    let out = not_in e.who r (All-head (λ (e : Entry). times_in e.who (r ∷ []) ≡ 0) e es all) in
    let one : cond {A = ℕ} (is_in e.who r && is_publish e.event) 1 0 ≡ 0 = ap (λ (b : Bool). cond {A = ℕ} (b && is_publish e.event) 1 0) out in
    let rest = none_published r es (All-tail (λ (e : Entry). times_in e.who (r ∷ []) ≡ 0) e es all) in
    let both = sum_by-cons (λ (e : Entry). cond (is_in e.who r && is_publish e.event) 1 0) e es in omega arith

module _ {L D C : Type 0} where
  gives_all : (rest : Option Rest) (pass : HubView) (over : Finished L D C) → BeganWith pass rest → GivesRest rest over → GivesAll pass over
  gives_all None pass over began gives = absurd began
  gives_all (Some rest) pass over began gives = (gives.0 ∙ began.0, ap (λ (r : Roomy HoldReport). r.items) gives.1 ∙ began.1, gives.2, gives.3)

  pub given : (turn : TableId) (claim : ℕ) (pass : HubView) (rest : Option Rest) (over : Finished L D C) → IsUnused turn pass → BeganWith pass rest → GivesRest rest over → IsGiven Says turn claim pass.number over
  given turn claim pass rest over unused began gave =
      let gives = gives_all rest pass over began gave in
      let own = range pass.number numbers in
      let spare = unused.spare in
      let fresh : All (λ (e : Entry). times_in e.who (own ∷ []) ≡ 0) pass.seen = rw unused.spare at unused.fresh in
      let seen : over.outcome.pass.seen ≡ pass.seen = ap (λ (q : HubView). q.seen) gives.0 in
      let none : owned own over.outcome.pass.seen ≡ [] = ap (owned own) seen ∙ owned_later own [] pass.seen fresh in
      record {
        turn = ap (λ (q : HubView). q.turn) gives.0 ∙ unused.turn;
        number = ap (λ (q : HubView). q.number) gives.0;
        parts = ap (λ (q : HubView). q.parts) gives.0 ∙ unused.parts;
        ranges = λ n has.
            let same : times_in n (ranges_of over.outcome.pass) ≡ times_in n (ranges_of pass) = ap (λ (q : HubView). times_in n (ranges_of q)) gives.0 in
            let first : times_in n (range pass.number pass.spare ∷ []) ≡ times_in n (own ∷ []) = ap (λ (k : ℕ). times_in n (range pass.number k ∷ [])) spare in
            omega (arith, times-cons n (range pass.number pass.spare) pass.past, times-cons n (range pass.number pass.spare) []);
        holds = gives.1 ∙ sym (ap (map hold_report) none);
        kept = λ not_worn. subst (All (λ (hold : ℕ × Share). hold.1.released ≡ true)) (sym none) (All-nil (λ (hold : ℕ × Share). hold.1.released ≡ true));
        published = gives.2 ∙ sym (ap (published_by own) seen ∙ none_published own pass.seen fresh);
        is = gives.3;
      }

pub runs : (rest : Option Rest) (pass : HubView) → BeganWith pass rest → rest ≡ None → ⊥
runs rest pass began none = subst (BeganWith pass) none began
