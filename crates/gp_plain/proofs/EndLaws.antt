-- How holds end, in each history.
use Rattle.std.proofs.Common.{◌≡◌, ◌⊎◌, inl, inr, ℕ, ◌+◌, Bool, true, false, cond, not, ◌&&◌, ◌||◌, nat_le, List, [], ◌∷◌, ◌++◌, refl, sym, ap, ◌∙◌, subst, append_assoc, Option, Some, None, is_none, is_some, option_map}
use Rattle.std.specs.List.{AllByRecursion}
use Rattle.std.specs.Option.{option_map_or}
use Rattle.gp_plain.specs.declared.item.Item.{Item}
use Rattle.gp_plain.specs.declared.event.HoldSpec.{HoldSpec}
use Rattle.gp_plain.specs.declared.event.HoldSpec.TheVariants.{Stream, Plain, Response, Socket}
use Rattle.gp_plain.specs.declared.reply.Piece.{Piece}
use Rattle.gp_plain.specs.declared.reply.Piece.TheVariants.{Message as MessagePiece}
use Rattle.gp_plain.specs.declared.reply.EndCause.{EndCause}
use Rattle.gp_plain.specs.declared.reply.EndCause.TheVariants.{Closed, Detached, Gap, Unrecovered, Overflow, Answered, Retry, TimedOut}
use Rattle.gp_plain.specs.Pieces.{end_by, has_room, moved, left}
use Rattle.gp_plain.specs.Follow.{last_items}
use Rattle.gp_plain.specs.Holds.{State, Held, openings, opened, only_channel, followers, begun_state, is_live, added, run, marked, missed, gapped, can_ask, offered, shows_gap, run_for, settled_if, grew, timed, rest_of, ends_now, taken_of, end_or_detached, RecoveryPage, page_refusal, is_stream, begins_at, is_end, page_run, with_page, with_stale, after_page, after_failure, SocketChange, push, join, leave, is_crowded, joined, on_channels, change_refusal, with_change, after_change}
use Rattle.gp_plain.specs.History.{held, published}
use Rattle.gp_plain.specs.Ends.{PositionLaw, ToldLaw, IsBrought, EndsByPiece, AnswerLaw}
use Rattle.gp_plain.proofs.Histories.{IsKept, in_each_history, all_at}
use Rattle.gp_plain.proofs.Soundness.{IsSound, are_sound, taken_again}
use Rattle.gp_plain.proofs.Released.{have_ended}
use Rattle.gp_plain.proofs.Paging.{page_dead, failure_dead, live_unrefused, change_dead}

absurd_true : {A : Type 0} → true ≡ false → A
absurd_true e = cc

no_cause : {A : Type 0} {cause : EndCause} → Some cause ≡ None → A
no_cause e = cc

same_cause : {a b : EndCause} → Some a ≡ Some b → a ≡ b
same_cause e = cc

-- positions

pub position_law_holds : PositionLaw
position_law_holds = λ entries number h there. (all_at (IsSound (published entries)) (held entries) number h (are_sound entries) there).position_is

-- told ends

record Told (h : Held) : Type 0 where
  told : (cause : EndCause) → h.told ≡ Some cause → (h.state.pending ≡ []) × (h.state.ended ≡ Some cause) × (h.released ≡ true)

live_not : (s : State) (cause : EndCause) → s.ended ≡ Some cause → is_live s ≡ false
live_not s cause e = ap (λ (o : Option EndCause). not (is_some o)) e

dead_served : (item : Item) (before after : List Item) (s : State) (live : Bool) → live ≡ false → cond live (let next = offered item before s in settled_if (grew s next) after next) s ≡ s
dead_served item before after s true e = absurd_true e
dead_served item before after s false e = refl

serve_told : (item : Item) (before after : List Item) (s : State) (cause : EndCause) (released : Bool) → (s.pending ≡ []) × (s.ended ≡ Some cause) × (released ≡ true)
    → (let t = cond (is_live s) (let next = offered item before s in settled_if (grew s next) after next) s in (t.pending ≡ []) × (t.ended ≡ Some cause) × (released ≡ true))
serve_told item before after s cause released f =
    let same = dead_served item before after s (is_live s) (live_not s cause f.1) in
    (ap (λ (t : State). t.pending) same ∙ f.0, ap (λ (t : State). t.ended) same ∙ f.1, f.2)

-- what leaves a hold that ended as it is, leaves what was told
same_told : (s t : State) (cause : EndCause) (released : Bool) → t ≡ s → (s.pending ≡ []) × (s.ended ≡ Some cause) × (released ≡ true) → (t.pending ≡ []) × (t.ended ≡ Some cause) × (released ≡ true)
same_told s t cause released same f = (ap (λ (u : State). u.pending) same ∙ f.0, ap (λ (u : State). u.ended) same ∙ f.1, f.2)

or_some : (released : Bool) (told : Option EndCause) (cause : EndCause) → told ≡ Some cause → (released || is_some told) ≡ true
or_some true told cause e = refl
or_some false told cause e = ap is_some e

pub told_now : (ended : Option EndCause) (ps : List Piece) (cause : EndCause) → ends_now ended ps ≡ Some cause → (ps ≡ []) × (ended ≡ Some cause)
told_now ended [] cause e = (refl, e)
told_now ended (p ∷ ps) cause e = no_cause (sym e)

take_told : (now : ℕ) (s : State) (released : Bool) (cause : EndCause) → (taken_of now s).ended ≡ Some cause
    → (let t = rest_of (timed now s.terms.deadline s) in (t.pending ≡ []) × (t.ended ≡ Some cause) × ((released || is_some (taken_of now s).ended) ≡ true))
take_told now s released cause e =
    let u = timed now s.terms.deadline s in
    let r = told_now u.ended (left u.pending) cause e in
    (r.0, r.1, or_some released (taken_of now s).ended cause e)

told_kept : IsKept (λ (items : List Item) (h : Held). Told h)
told_kept = record {
  fresh = λ items who spec. record { told = λ cause e. no_cause (sym e) };
  serve = λ items item h f. record { told = λ cause e. serve_told item (last_items items) (last_items (items ++ item ∷ [])) h.state cause h.released (f.told cause e) };
  take = λ items now h f. record { told = λ cause e. take_told now h.state h.released cause e };
  page = λ items page h f. record {
    told = λ cause e.
        let t = f.told cause e in
        same_told h.state (after_page (last_items items) page h.state) cause h.released (page_dead (last_items items) page h.state (live_not h.state cause t.1)) t;
  };
  change = λ items change h f. record {
    told = λ cause e. let t = f.told cause e in same_told h.state (after_change change h.state) cause h.released (change_dead change h.state (live_not h.state cause t.1)) t;
  };
  fail = λ items h f. record { told = λ cause e. let t = f.told cause e in same_told h.state (after_failure h.state) cause h.released (failure_dead h.state (live_not h.state cause t.1)) t };
  go = λ items h f. record { told = λ cause e. let t = f.told cause e in (t.0, ap (λ (o : Option EndCause). Some (end_or_detached o)) t.1, refl) };
}

pub told_law_holds : ToldLaw
told_law_holds = λ entries number h there.
    let t = all_at Told (held entries) number h (in_each_history (λ (items : List Item) (k : Held). Told k) entries told_kept) there in
    record {
      told = λ cause e. t.told cause e;
      released = all_at (λ (k : Held). k.released ≡ true → is_live k.state ≡ false) (held entries) number h (have_ended entries) there;
    }

-- ends that pieces bring

abbrev pub Quiet : List Piece → Type 0
Quiet ps = AllByRecursion (λ (p : Piece). end_by p ≡ None) ps

abbrev pub is_answered : EndCause → Bool
is_answered Closed = false
is_answered Detached = false
is_answered Gap = false
is_answered Unrecovered = false
is_answered Overflow = false
is_answered Answered = true
is_answered Retry = false
is_answered TimedOut = false

pub record LastBrings (ps : List Piece) (cause : EndCause) : Type 0 where
  pub front : List Piece
  pub piece : Piece
  pub whole : ps ≡ front ++ piece ∷ []
  pub quiet : Quiet front
  pub end : end_by piece ≡ Some cause

-- no piece of a live hold's log brings an end, and of one that ended only the last, by which it ended
pub record Ends (ps : List Piece) (ended : Option EndCause) : Type 0 where
  pub live : ended ≡ None → Quiet ps
  pub dead : (cause : EndCause) → ended ≡ Some cause → (Quiet ps × (is_answered cause ≡ false)) ⊎ LastBrings ps cause

quiet_push : (ps : List Piece) (p : Piece) → Quiet ps → end_by p ≡ None → Quiet (ps ++ p ∷ [])
quiet_push [] p all e = (e, tt)
quiet_push (x ∷ ps) p all e = (all.0, quiet_push ps p all.1 e)

-- an end that no piece brought
ended_so : (ps : List Piece) (cause : EndCause) → Quiet ps → is_answered cause ≡ false → Ends ps (Some cause)
ended_so ps cause all not = record { live = λ e. no_cause e; dead = λ other e. inl (all, ap is_answered (sym (same_cause e)) ∙ not) }

still_live : (ended : Option EndCause) → not (is_some ended) ≡ true → ended ≡ None
still_live None e = refl
still_live (Some cause) e = absurd_true (sym e)

add_ends : (taken : List Piece) (s : State) (p : Piece) (live room : Bool) → is_live s ≡ live → Ends (taken ++ s.pending) s.ended
    → (let t = cond live (cond room (record s { pending = s.pending ++ p ∷ []; position = option_map (λ (at : List ℕ). moved at p) s.position; ended = end_by p; misses = 0 }) (record s { ended = Some Overflow })) s in
    Ends (taken ++ t.pending) t.ended)
add_ends taken s p false room l f = f
add_ends taken s p true false l f = ended_so (taken ++ s.pending) Overflow (f.live (still_live s.ended l)) refl
add_ends taken s p true true l f =
    let quiet = f.live (still_live s.ended l) in
    let whole : taken ++ (s.pending ++ p ∷ []) ≡ (taken ++ s.pending) ++ p ∷ [] = sym (append_assoc taken s.pending (p ∷ [])) in
    record {
      live = λ e. subst Quiet (sym whole) (quiet_push (taken ++ s.pending) p quiet e);
      dead = λ cause e. inr (record { front = taken ++ s.pending; piece = p; whole = whole; quiet = quiet; end = e });
    }

run_ends : (taken : List Piece) (s : State) (ps : List Piece) → Ends (taken ++ s.pending) s.ended → (let t = run s ps in Ends (taken ++ t.pending) t.ended)
run_ends taken s [] f = f
run_ends taken s (p ∷ ps) f = run_ends taken (added s p) ps (add_ends taken s p (is_live s) (has_room s.pending p) refl f)

miss_ends : (ps : List Piece) (ended : Option EndCause) (many : Bool) → ended ≡ None → Ends ps ended → Ends ps (cond many (Some Gap) ended)
miss_ends ps ended true n f = ended_so ps Gap (f.live n) refl
miss_ends ps ended false n f = f

gap_ends : (taken : List Piece) (s : State) (ask : Bool) → s.ended ≡ None → Ends (taken ++ s.pending) s.ended → (let t = cond ask (marked s) (missed s) in Ends (taken ++ t.pending) t.ended)
gap_ends taken s true n f = f
gap_ends taken s false n f = miss_ends (taken ++ s.pending) s.ended (nat_le 64 (s.misses + 1)) n f

offer_ends : (taken : List Piece) (s : State) (ps : List Piece) (gap : Bool) → s.ended ≡ None → Ends (taken ++ s.pending) s.ended → (let t = cond gap (gapped s) (run s ps) in Ends (taken ++ t.pending) t.ended)
offer_ends taken s ps true n f = gap_ends taken s (can_ask s.terms) n f
offer_ends taken s ps false n f = run_ends taken s ps f

settle_ends : (taken : List Piece) (window : List Item) (s : State) (went_on : Bool) → Ends (taken ++ s.pending) s.ended → (let t = settled_if went_on window s in Ends (taken ++ t.pending) t.ended)
settle_ends taken window s true f = f
settle_ends taken window s false f = f

serve_ends : (taken : List Piece) (item : Item) (before after : List Item) (s : State) (live : Bool) → is_live s ≡ live → Ends (taken ++ s.pending) s.ended
    → (let t = cond live (let next = offered item before s in settled_if (grew s next) after next) s in Ends (taken ++ t.pending) t.ended)
serve_ends taken item before after s false l f = f
serve_ends taken item before after s true l f =
    settle_ends taken after (offered item before s) (grew s (offered item before s))
    (offer_ends taken s (run_for s.terms s.position item before) (shows_gap s.terms s.position item) (still_live s.ended l) f)

opening_ends : (spec : HoldSpec) → Ends (openings spec) None
opening_ends (Stream opening channel prev link) = record { live = λ e. (refl, tt); dead = λ cause e. no_cause (sym e) }
opening_ends (Plain opening channels) = record { live = λ e. (refl, tt); dead = λ cause e. no_cause (sym e) }
opening_ends (Response channels prev deadline again) = record { live = λ e. tt; dead = λ cause e. no_cause (sym e) }
opening_ends Socket = record { live = λ e. tt; dead = λ cause e. no_cause (sym e) }

begin_ends : (spec : HoldSpec) (window : List Item) → (let s = begun_state spec window in Ends s.pending s.ended)
begin_ends spec window =
    let s = opened spec in
    run_ends [] s (option_map_or (λ (at : List ℕ). followers s.terms.kind (only_channel s.terms.channels) at window) s.position []) (opening_ends spec)

time_by : (taken : List Piece) (s : State) (live due wants : Bool) → is_live s ≡ live → Ends (taken ++ s.pending) s.ended
    → (let t = cond live (cond due (record s { ended = Some TimedOut }) (cond wants (record s { ended = Some Retry }) s)) s in Ends (taken ++ t.pending) t.ended)
time_by taken s false due wants l f = f
time_by taken s true true wants l f = ended_so (taken ++ s.pending) TimedOut (f.live (still_live s.ended l)) refl
time_by taken s true false true l f = ended_so (taken ++ s.pending) Retry (f.live (still_live s.ended l)) refl
time_by taken s true false false l f = f

pub time_ends : (taken : List Piece) (now : ℕ) (deadline : Option ℕ) (s : State) → Ends (taken ++ s.pending) s.ended → (let t = timed now deadline s in Ends (taken ++ t.pending) t.ended)
time_ends taken now None s f = f
time_ends taken now (Some deadline) s f = time_by taken s (is_live s) (nat_le deadline now) s.want refl f

close_ends : (taken : List Piece) (s : State) (last live : Bool) → is_live s ≡ live → Ends (taken ++ s.pending) s.ended → (let t = cond (last && live) (record s { ended = Some Closed }) s in Ends (taken ++ t.pending) t.ended)
close_ends taken s true true l f = ended_so (taken ++ s.pending) Closed (f.live (still_live s.ended l)) refl
close_ends taken s true false l f = f
close_ends taken s false live l f = f

page_ends : (taken : List Piece) (window : List Item) (page : RecoveryPage) (s : State) (may begins : Bool) → Ends (taken ++ s.pending) s.ended
    → (let t = cond may (cond begins (with_page window page s) (with_stale window s)) s in Ends (taken ++ t.pending) t.ended)
page_ends taken window page s true true f =
    let t = run s (page_run s.terms page window) in
    close_ends taken t (is_end page.follows) (is_live t) refl (run_ends taken s (page_run s.terms page window) f)
page_ends taken window page s true false f = f
page_ends taken window page s false begins f = f

fail_ends : (taken : List Piece) (s : State) (may : Bool) → is_none (page_refusal s) ≡ may → Ends (taken ++ s.pending) s.ended → (let t = cond may (record s { ended = Some Unrecovered }) s in Ends (taken ++ t.pending) t.ended)
fail_ends taken s true m f = ended_so (taken ++ s.pending) Unrecovered (f.live (live_unrefused s.ended (is_stream s.terms.kind) s.terms.kind m)) refl
fail_ends taken s false m f = f

join_ends : (ps : List Piece) (channel : List ℕ) (s : State) (crowded : Bool) → Ends ps s.ended → (let t = cond crowded s (on_channels (joined channel s.terms.channels) s) in Ends ps t.ended)
join_ends ps channel s true f = f
join_ends ps channel s false f = f

join_pending : (channel : List ℕ) (s : State) (crowded : Bool) → (cond crowded s (on_channels (joined channel s.terms.channels) s)).pending ≡ s.pending
join_pending channel s true = refl
join_pending channel s false = refl

with_change_ends : (taken : List Piece) (change : SocketChange) (s : State) → Ends (taken ++ s.pending) s.ended → (let t = with_change change s in Ends (taken ++ t.pending) t.ended)
with_change_ends taken (push message) s f = add_ends taken s (MessagePiece message) (is_live s) (has_room s.pending (MessagePiece message)) refl f
with_change_ends taken (join channel) s f =
    let crowded = is_crowded channel s.terms.channels in
    subst (λ ps. Ends (taken ++ ps) (cond crowded s (on_channels (joined channel s.terms.channels) s)).ended) (sym (join_pending channel s crowded)) (join_ends (taken ++ s.pending) channel s crowded f)
with_change_ends taken (leave channel) s f = f

change_ends : (taken : List Piece) (change : SocketChange) (s : State) (may : Bool) → Ends (taken ++ s.pending) s.ended → (let t = cond may (with_change change s) s in Ends (taken ++ t.pending) t.ended)
change_ends taken change s true f = with_change_ends taken change s f
change_ends taken change s false f = f

go_ends : (ps : List Piece) (ended : Option EndCause) → Ends ps ended → Ends ps (Some (end_or_detached ended))
go_ends ps None f = ended_so ps Detached (f.live refl) refl
go_ends ps (Some cause) f = f

pub ends_kept : IsKept (λ (items : List Item) (h : Held). Ends (h.taken ++ h.state.pending) h.state.ended)
ends_kept = record {
  fresh = λ items who spec. begin_ends spec (last_items items);
  serve = λ items item h f. serve_ends h.taken item (last_items items) (last_items (items ++ item ∷ [])) h.state (is_live h.state) refl f;
  take = λ items now h f.
      let u = timed now h.state.terms.deadline h.state in
      subst (λ ps. Ends ps u.ended) (sym (taken_again h.taken u.pending)) (time_ends h.taken now h.state.terms.deadline h.state f);
  page = λ items page h f. page_ends h.taken (last_items items) page h.state (is_none (page_refusal h.state)) (begins_at h.state.position page.from) f;
  change = λ items change h f. change_ends h.taken change h.state (is_none (change_refusal h.state)) f;
  fail = λ items h f. fail_ends h.taken h.state (is_none (page_refusal h.state)) refl f;
  go = λ items h f. go_ends (h.taken ++ h.state.pending) h.state.ended f;
}

quiet_at : (front : List Piece) (p : Piece) (rest : List Piece) → Quiet (front ++ p ∷ rest) → end_by p ≡ None
quiet_at [] p rest all = all.0
quiet_at (x ∷ front) p rest all = quiet_at front p rest all.1

none_loud : {A : Type 0} (front : List Piece) (p : Piece) (rest ps : List Piece) (cause : EndCause) → Quiet ps → ps ≡ front ++ p ∷ rest → end_by p ≡ Some cause → A
none_loud front p rest ps cause all is e = no_cause (sym e ∙ quiet_at front p rest (subst Quiet is all))

no_pieces : {A : Type 0} (front : List Piece) (p : Piece) (rest : List Piece) → front ++ p ∷ rest ≡ [] → A
no_pieces [] p rest e = cc e
no_pieces (x ∷ front) p rest e = cc e

only_last : (front : List Piece) (p : Piece) (rest quiet : List Piece) (q : Piece) (cause : EndCause) → Quiet quiet → front ++ p ∷ rest ≡ quiet ++ q ∷ [] → end_by p ≡ Some cause → (rest ≡ []) × (p ≡ q)
only_last [] p rest [] q cause all is e = (cc is, cc is)
only_last [] p rest (y ∷ quiet) q cause all is e = let same : p ≡ y = cc is in no_cause (sym e ∙ ap end_by same ∙ all.0)
only_last (x ∷ front) p rest [] q cause all is e = no_pieces front p rest (cc is)
only_last (x ∷ front) p rest (y ∷ quiet) q cause all is e =
    let tails : front ++ p ∷ rest ≡ quiet ++ q ∷ [] = cc is in
    only_last front p rest quiet q cause all.1 tails e

last_by : (ps front : List Piece) (p : Piece) (rest : List Piece) (cause own : EndCause) → (Quiet ps × (is_answered own ≡ false)) ⊎ LastBrings ps own → ps ≡ front ++ p ∷ rest → end_by p ≡ Some cause
    → (rest ≡ []) × (Some own ≡ Some cause)
last_by ps front p rest cause own (inl quiet) is e = none_loud front p rest ps cause quiet.0 is e
last_by ps front p rest cause own (inr l) is e =
    let r = only_last front p rest l.front l.piece cause l.quiet (sym is ∙ l.whole) e in
    (r.0, sym l.end ∙ ap end_by (sym r.1) ∙ e)

last_of : (ps : List Piece) (ended : Option EndCause) → Ends ps ended → (front : List Piece) (p : Piece) (rest : List Piece) (cause : EndCause) → ps ≡ front ++ p ∷ rest → end_by p ≡ Some cause
    → (rest ≡ []) × (ended ≡ Some cause)
last_of ps None f front p rest cause is e = none_loud front p rest ps cause (f.live refl) is e
last_of ps (Some own) f front p rest cause is e = last_by ps front p rest cause own (f.dead own refl) is e

brought_by : (ps : List Piece) → (Quiet ps × (is_answered Answered ≡ false)) ⊎ LastBrings ps Answered → IsBrought ps Answered
brought_by ps (inl quiet) = absurd_true quiet.1
brought_by ps (inr l) = record { front = l.front; piece = l.piece; whole = l.whole; end = l.end }

pub ends_by_piece : (ps : List Piece) (ended : Option EndCause) → Ends ps ended → EndsByPiece ps ended
ends_by_piece ps ended f = record { last = λ front p rest cause is e. last_of ps ended f front p rest cause is e; answered = λ e. brought_by ps (f.dead Answered e) }

pub answer_law_holds : AnswerLaw
answer_law_holds = λ entries number h there.
    ends_by_piece (h.taken ++ h.state.pending) h.state.ended
    (all_at (λ (k : Held). Ends (k.taken ++ k.state.pending) k.state.ended) (held entries) number h (in_each_history (λ (items : List Item) (k : Held). Ends (k.taken ++ k.state.pending) k.state.ended) entries ends_kept) there)
