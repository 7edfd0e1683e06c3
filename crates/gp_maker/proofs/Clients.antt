-- What a client's session leaves is what a maker says of it.
use Rattle.std.proofs.Common.{◌≡◌, ℕ, ◌+◌, ◌<◌, ◌==◌, Bool, true, false, cond, List, [], ◌∷◌, ◌++◌, map, filter, Option, Some, IfSome, refl, sym, ap, ◌∙◌, subst, arith, ◌⊎◌, inl, inr}
use Rattle.std.specs.List.{All, count_by}
use Rattle.std.proofs.lemmas.List.Elements.{All-head, All-tail}
use Rattle.std.proofs.lemmas.List.Sums.{sum_by-cons}
use Rattle.gp_plain.specs.declared.event.Event.{Event}
use Rattle.gp_plain.specs.declared.event.Event.TheVariants.{Attach, Publish, Take, Page, PageFailed, Push, Join, Leave, Detach}
use Rattle.gp_hub.specs.Own.{mine}
use Rattle.gp_hub.specs.declared.outcome.SessionEnd.{SessionEnd}
use Rattle.gp_hub.specs.declared.outcome.SessionEnd.TheVariants.{Sent, Cut, ClientGone, Worn, NoMemory}
use Rattle.gp_session.specs.Seats.{SeatView}
use Rattle.gp_session_hold.specs.Rows.{DetachedRow, IsOwn, IsOwnEvent, OwnRow, holds_of, numbers_of}
use Rattle.gp_session_http.specs.Holding.{EntriesAtEnd}
use Rattle.gp_session_http.specs.Views.{LiveView}
use Rattle.gp_session_http.proofs.Ending.{leaves_entries, leaves_reports, leaves_released, leaves_seat}
use Rattle.gp_session_http.proofs.Headlining.{headline_end}
use Rattle.atomic_table.specs.Seated.{TableId}
use Rattle.gp_plain.specs.declared.event.Entry.{Entry}
use Rattle.gp_plain.specs.Others.{Share, shares}
use Rattle.gp_outside.specs.Clocks.{ClockTells}
use Rattle.gp_outside.specs.Dials.{DialTells}
use Rattle.gp_outside.specs.Links.{LinkTells}
use Rattle.gp_outside.specs.Unused.{IsUnusedDial, IsUnusedLink}
use Rattle.gp_turn.specs.Passes.{range, ranges_of, times_in}
use Rattle.gp_hub.specs.Passes.{HubView, entry_of}
use Rattle.gp_session_http.specs.Polls.{DevicesView, PhaseFinishes, SessionView, new_session}
use Rattle.gp_workers.specs.declared.maker.Finished.{Finished}
use Rattle.gp_workers.specs.Makers.{IsGiven, IsUnused, numbers}
use Rattle.gp_workers.specs.Reports.{hold_report, is_publish, owned, published_by}
use Rattle.gp_maker.specs.Meanings.{GivesClient, LeavesClient, Means, ServerView, charter_of, client}
use Rattle.gp_maker.proofs.Owners.{all_apart, owned_shares, published_mine, publishes}
use Rattle.gp_maker.proofs.Publishers.{in_ranges}

-- a client's session publishes nothing

quiet_event : (paged : Bool) (holds : List ℕ) (event : Event) → IsOwnEvent paged holds event → is_publish event ≡ false
quiet_event paged holds (Attach spec) own = refl
quiet_event paged holds (Publish item) own = absurd own
quiet_event paged holds (Take hold now) own = refl
quiet_event paged holds (Page hold from to bytes then) own = refl
quiet_event paged holds (PageFailed hold) own = refl
quiet_event paged holds (Push hold message) own = refl
quiet_event paged holds (Join hold channel) own = refl
quiet_event paged holds (Leave hold channel) own = refl
quiet_event paged holds (Detach hold) own = refl

quiet_all : (paged : Bool) (holds : List ℕ) (es : List Entry) → All (IsOwn paged holds) es → count_by publishes es ≡ 0
quiet_all paged holds [] all = refl
quiet_all paged holds (e ∷ es) all =
    let sum = sum_by-cons (λ (x : Entry). cond (publishes x) 1 0) e es in
    let one : cond {A = ℕ} (publishes e) 1 0 ≡ 0 = ap (λ (b : Bool). cond b 1 0) (quiet_event paged holds e.event (All-head (IsOwn paged holds) e es all)) in
    let rest : count_by publishes es ≡ 0 = quiet_all paged holds es (All-tail (IsOwn paged holds) e es all) in
    omega (arith, sum, one, rest)

quiet_push : (es : List Entry) (e : Entry) → count_by publishes es ≡ 0 → publishes e ≡ false → count_by publishes (es ++ e ∷ []) ≡ 0
quiet_push [] e none quiet = sum_by-cons (λ (x : Entry). cond (publishes x) 1 0) e [] ∙ ap (λ (b : Bool). cond b 1 0 + 0) quiet
quiet_push (d ∷ ds) e none quiet =
    let sum = sum_by-cons (λ (x : Entry). cond (publishes x) 1 0) d ds in
    let more = sum_by-cons (λ (x : Entry). cond (publishes x) 1 0) d (ds ++ e ∷ []) in
    let tail : count_by publishes ds ≡ 0 = omega (arith, sum, none) in
    let rest : count_by publishes (ds ++ e ∷ []) ≡ 0 = quiet_push ds e tail quiet in
    omega (arith, sum, more, none, rest)

quiet_rows : (paged : Bool) (s : SeatView) → OwnRow paged s → count_by publishes (mine s.pass) ≡ 0
quiet_rows paged s row = quiet_all paged (numbers_of (holds_of s)) (mine s.pass) row

quiet_end : (paged : Bool) (s : SeatView) → OwnRow paged s ⊎ ((hold : ℕ) × DetachedRow paged s hold) → count_by publishes (mine s.pass) ≡ 0
quiet_end paged s (inl row) = quiet_rows paged s row
quiet_end paged s (inr (hold, d)) = ap (count_by publishes) d.all ∙ quiet_push d.before (entry_of s.pass.number (Detach hold)) (quiet_all paged (numbers_of (holds_of s)) d.before d.own) refl

quiet_by : (paged : Bool) (e : SessionEnd) (s : SeatView) → EntriesAtEnd paged e s → count_by publishes (mine s.pass) ≡ 0
quiet_by paged (Sent code) s row = quiet_rows paged s row
quiet_by paged (Cut cause) s row = quiet_rows paged s row
quiet_by paged ClientGone s row = quiet_end paged s row
quiet_by paged Worn s row = quiet_rows paged s row
quiet_by paged NoMemory s row = quiet_end paged s row

none_published : (l : LiveView) (ended : _) → PhaseFinishes l ended → count_by publishes (mine l.seat.pass) ≡ 0
none_published l ended f = let row = leaves_entries l ended f in quiet_by row.0 ended.end l.seat row.1

module _ {L D C : Type 0} (links : L → LinkTells) (dials : D → DialTells) (clocks : C → ClockTells) (server : ServerView) where
  given_from : (turn : TableId) (claim : ℕ) (start : DevicesView) (pass : HubView) (over : Finished L D C) (l : LeavesClient links dials clocks start pass (charter_of server claim) over)
      → IsUnused turn l.live.seat.start → IsUnusedLink start.link → IsUnusedDial start.dial → IsGiven (Means links dials clocks server) turn claim l.live.seat.start.number over
  given_from turn claim start pass over l u link dial =
      let seat = l.live.seat in
      let first = seat.start.number in
      let r = range first numbers in
      let row = leaves_seat l.live _ l.leaves.finishes in
      let is = l.leaves.pass in
      let same = row.same in
      let number : over.outcome.pass.number ≡ first = ap (λ (p : HubView). p.number) is ∙ same.number in
      let one = all_apart seat u.spare u.fresh row in
      let own : owned r over.outcome.pass.seen ≡ holds_of seat =
      ap (λ (p : HubView). owned r p.seen) is ∙ owned_shares r first seat.pass.seen one ∙ ap (λ (n : ℕ). shares n seat.pass.seen) (sym same.number) in
      let count : published_by r over.outcome.pass.seen ≡ 0 =
      ap (λ (p : HubView). published_by r p.seen) is ∙ published_mine r first seat.pass.seen one
      ∙ ap (λ (n : ℕ). count_by publishes (filter (λ (e : Entry). e.who == n) seat.pass.seen)) (sym same.number)
      ∙ none_published l.live _ l.leaves.finishes in
      record {
        turn = ap (λ (p : HubView). p.turn) is ∙ same.turn ∙ u.turn;
        number = number;
        parts = ap (λ (p : HubView). p.parts) is ∙ same.parts ∙ u.parts;
        ranges = λ n some. subst (λ (p : HubView). 0 < times_in n (ranges_of p)) (sym is) (in_ranges turn seat.start seat.pass n u same some);
        holds = l.leaves.holds ∙ leaves_reports l.live _ l.leaves.finishes ∙ ap (map hold_report) (sym own);
        kept = λ serves. subst (All (λ (hold : ℕ × Share). hold.1.released ≡ true)) (sym own) (leaves_released l.live _ l.leaves.finishes serves);
        published = l.leaves.published ∙ sym count;
        is = client (record { start = start; unused = link; uncalled = dial; pass = pass; outcome = over.outcome; leaves = l; headline = headline_end l.live _ l.leaves.finishes; told = record { seen_is = refl; number_is = number; end_is = refl; holds_are = refl } });
      }

  -- what a client's session leaves that began with an unused pass, over an unused link and dialer
  given : (turn : TableId) (claim : ℕ) (start : DevicesView) (pass : HubView) (over : Finished L D C)
      → IsUnused turn pass → IsUnusedLink start.link → IsUnusedDial start.dial → LeavesClient links dials clocks start pass (charter_of server claim) over → IsGiven (Means links dials clocks server) turn claim pass.number over
  given turn claim start pass over unused link dial l =
      subst (λ (n : ℕ). IsGiven (Means links dials clocks server) turn claim n over) (ap (λ (p : HubView). p.number) l.pass_is) (given_from turn claim start pass over l (subst (IsUnused turn) (sym l.pass_is) unused) link dial)

  -- so it is of a session that was just made
  pub gives_new : (turn : TableId) (claim : ℕ) (start : DevicesView) (pass : HubView) (session : Option SessionView) (over : Finished L D C)
      → session ≡ Some (new_session start pass (charter_of server claim)) → IsUnused turn pass → IsUnusedLink start.link → IsUnusedDial start.dial
      → IfSome session (λ (s : SessionView). GivesClient links dials clocks s over) → IsGiven (Means links dials clocks server) turn claim pass.number over
  gives_new turn claim start pass session over is unused link dial may =
      given turn claim start pass over unused link dial (subst (λ (o : Option SessionView). IfSome o (λ (s : SessionView). GivesClient links dials clocks s over)) is may)
