-- What a publisher's session leaves is what a maker says of it.
use Rattle.std.proofs.Common.{◌≡◌, ℕ, ◌<◌, ◌==◌, true, List, [], ◌∷◌, map, filter, length, refl, sym, ap, ◌∙◌, arith, subst, Some, Option, IfSome}
use Rattle.std.specs.List.{All, count_by}
use Rattle.std.proofs.lemmas.List.Elements.{All-nil}
use Rattle.atomic_table.specs.Seated.{TableId}
use Rattle.gp_plain.specs.declared.event.Entry.{Entry}
use Rattle.gp_plain.specs.Others.{Share, shares}
use Rattle.gp_outside.specs.Clocks.{ClockTells}
use Rattle.gp_outside.specs.Dials.{DialTells}
use Rattle.gp_outside.specs.Links.{LinkTells}
use Rattle.gp_outside.specs.Unused.{IsUnusedLink}
use Rattle.gp_turn.specs.declared.range.Range.{Range}
use Rattle.gp_turn.proofs.Ranges.{times-cons}
use Rattle.gp_turn.specs.Passes.{range, ranges_of, times_in}
use Rattle.gp_hub.specs.Passes.{HubView}
use Rattle.gp_hub.specs.Own.{mine}
use Rattle.gp_session.specs.Seats.{IsSamePass}
use Rattle.gp_session_publish.specs.declared.stage.Stage.{Stage}
use Rattle.gp_session_publish.specs.declared.stage.Stage.TheVariants.{ReadingHead, ReadingBody, Publishing, Answering, Refusing}
use Rattle.gp_session_publish.specs.Polls.{SessionView, new_session}
use Rattle.gp_session_publish.specs.Trace.{Makes}
use Rattle.gp_workers.specs.declared.maker.Finished.{Finished}
use Rattle.gp_workers.specs.Makers.{IsGiven, IsUnused, numbers}
use Rattle.gp_workers.specs.Reports.{hold_report, owned, published_by}
use Rattle.gp_maker.specs.Meanings.{GivesPublisher, LeavesPublisher, Means, ServerView, publisher}
use Rattle.gp_maker.proofs.Owners.{all_apart, count_published, owned_shares, published_mine, publishes}

-- each entry of a session is a publication
made_count : (stage : Stage) (number : ℕ) (made : List Entry) → Makes stage number made → count_by publishes made ≡ length made
made_count (ReadingHead s) number made none = ap (count_by publishes) none ∙ sym (ap length none)
made_count (ReadingBody s) number made none = ap (count_by publishes) none ∙ sym (ap length none)
made_count (Refusing s) number made none = ap (count_by publishes) none ∙ sym (ap length none)
made_count (Publishing s) number made m = ap (count_by publishes) m.entries ∙ count_published number m.done ∙ sym (ap length m.entries)
made_count (Answering s) number made m = ap (count_by publishes) m.entries ∙ count_published number m.done ∙ sym (ap length m.entries)

-- the ranges of a pass, and that of its own numbers
same_ranges : (p q : HubView) → IsSamePass p q → ranges_of p ≡ ranges_of q
same_ranges p q same =
    ap (λ (n : ℕ). range n p.spare ∷ p.past) (sym same.number) ∙ ap (λ (n : ℕ). range q.number n ∷ p.past) (sym same.spare) ∙ ap (λ (rs : List Range). range q.number q.spare ∷ rs) (sym same.past)

own_range : (n : ℕ) (r : Range) (rs : List Range) → 0 < times_in n (r ∷ []) → 0 < times_in n (r ∷ rs)
own_range n r rs some = let none : times_in n [] ≡ 0 = refl in omega (arith, some, times-cons n r [], times-cons n r rs, none)

pub in_ranges : (turn : TableId) (p q : HubView) (n : ℕ) → IsUnused turn p → IsSamePass p q → 0 < times_in n (range p.number numbers ∷ []) → 0 < times_in n (ranges_of q)
in_ranges turn p q n u same some =
    let own : 0 < times_in n (range p.number p.spare ∷ []) = subst (λ (k : ℕ). 0 < times_in n (range p.number k ∷ [])) (sym u.spare) some in
    subst (λ (rs : List Range). 0 < times_in n rs) (same_ranges p q same) (own_range n (range p.number p.spare) p.past own)

module _ {L D C : Type 0} where
  given_from : (links : L → LinkTells) (dials : D → DialTells) (clocks : C → ClockTells) (server : ServerView) (turn : TableId) (claim : ℕ) (start : LinkTells) (pass : HubView) (over : Finished L D C) (l : LeavesPublisher links start pass over)
      → IsUnused turn l.live.seat.start → IsUnusedLink start → IsGiven (Means links dials clocks server) turn claim l.live.seat.start.number over
  given_from links dials clocks server turn claim start pass over l u link =
      let seat = l.live.seat in
      let first = seat.start.number in
      let r = range first numbers in
      let told = l.leaves.finishes.told in
      let is = l.leaves.pass in
      let same = told.seat.same in
      let number : over.outcome.pass.number ≡ first = ap (λ (p : HubView). p.number) is ∙ same.number in
      let one = all_apart seat u.spare u.fresh told.seat in
      let none : owned r over.outcome.pass.seen ≡ [] =
      ap (λ (p : HubView). owned r p.seen) is ∙ owned_shares r first seat.pass.seen one ∙ ap (λ (n : ℕ). shares n seat.pass.seen) (sym same.number) ∙ told.holds in
      let count : published_by r over.outcome.pass.seen ≡ length (mine seat.pass) =
      ap (λ (p : HubView). published_by r p.seen) is ∙ published_mine r first seat.pass.seen one
      ∙ ap (λ (n : ℕ). count_by publishes (filter (λ (e : Entry). e.who == n) seat.pass.seen)) (sym same.number)
      ∙ made_count l.leaves.finishes.stage seat.pass.number (mine seat.pass) told.entries in
      record {
        turn = ap (λ (p : HubView). p.turn) is ∙ same.turn ∙ u.turn;
        number = number;
        parts = ap (λ (p : HubView). p.parts) is ∙ same.parts ∙ u.parts;
        ranges = λ n some. subst (λ (p : HubView). 0 < times_in n (ranges_of p)) (sym is) (in_ranges turn seat.start seat.pass n u same some);
        holds = l.leaves.holds ∙ ap (map hold_report) (sym none);
        kept = λ _. subst (All (λ (hold : ℕ × Share). hold.1.released ≡ true)) (sym none) (All-nil (λ (hold : ℕ × Share). hold.1.released ≡ true));
        published = l.leaves.finishes.published ∙ sym count;
        is = publisher (record { start = start; unused = link; pass = pass; outcome = over.outcome; leaves = l; told = record { seen_is = refl; number_is = number; end_is = refl; holds_are = refl } });
      }

  -- what a publisher's session leaves that began with an unused pass, over an unused link
  pub given : (links : L → LinkTells) (dials : D → DialTells) (clocks : C → ClockTells) (server : ServerView) (turn : TableId) (claim : ℕ) (start : LinkTells) (pass : HubView) (over : Finished L D C)
      → IsUnused turn pass → IsUnusedLink start → LeavesPublisher links start pass over → IsGiven (Means links dials clocks server) turn claim pass.number over
  given links dials clocks server turn claim start pass over unused link l =
      subst (λ (n : ℕ). IsGiven (Means links dials clocks server) turn claim n over) (ap (λ (p : HubView). p.number) l.pass_is) (given_from links dials clocks server turn claim start pass over l (subst (IsUnused turn) (sym l.pass_is) unused) link)

  -- so it is of a session that was just made
  pub gives_new : (links : L → LinkTells) (dials : D → DialTells) (clocks : C → ClockTells) (server : ServerView) (turn : TableId) (claim : ℕ) (start : LinkTells) (pass : HubView) (session : Option SessionView) (over : Finished L D C)
      → session ≡ Some (new_session start pass) → IsUnused turn pass → IsUnusedLink start
      → IfSome session (λ (s : SessionView). GivesPublisher links s over) → IsGiven (Means links dials clocks server) turn claim pass.number over
  gives_new links dials clocks server turn claim start pass session over is unused link may =
      given links dials clocks server turn claim start pass over unused link (subst (λ (o : Option SessionView). IfSome o (λ (s : SessionView). GivesPublisher links s over)) is may)
