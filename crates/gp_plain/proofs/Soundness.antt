-- The position of a hold is the one behind its log, and its terms are those that it was attached with.
use Rattle.std.proofs.Common.{◌≡◌, ℕ, Bool, true, false, cond, ◌&&◌, nat_le, List, [], ◌∷◌, ◌++◌, refl, sym, ap, ◌∙◌, append_assoc, Option, Some, None, is_none, option_map}
use Rattle.std.specs.List.{AllByRecursion}
use Rattle.std.specs.Option.{option_map_or}
use Rattle.std.proofs.lemmas.List.{take-append-drop}
use Rattle.std.proofs.lemmas.List.Sums.{fold-append}
use Rattle.gp_plain.specs.declared.item.Item.{Item}
use Rattle.gp_plain.specs.declared.event.Entry.{Entry}
use Rattle.gp_plain.specs.declared.event.HoldSpec.{HoldSpec}
use Rattle.gp_plain.specs.declared.event.HoldSpec.TheVariants.{Stream, Plain, Response, Socket}
use Rattle.gp_plain.specs.declared.reply.Piece.{Piece}
use Rattle.gp_plain.specs.declared.reply.Piece.TheVariants.{Message as MessagePiece}
use Rattle.gp_plain.specs.declared.reply.EndCause.TheVariants.{Closed, Unrecovered, Overflow, TimedOut, Retry}
use Rattle.gp_plain.specs.Pieces.{moved, position_after, end_by, has_room, batch_count, batch, left}
use Rattle.gp_plain.specs.Follow.{last_items}
use Rattle.gp_plain.specs.Holds.{State, Held, terms_of, start_of, position_of, RecoveryPage, is_live, added, run, marked, missed, gapped, can_ask, offered, shows_gap, run_for, settled_if, grew, opened, only_channel, followers, begun_state, timed, rest_of, page_refusal, begins_at, is_end, is_next, page_run, closed_behind, marked_anew, with_page, with_stale, Terms, SocketChange, push, join, leave, is_socket, change_refusal, is_crowded, joined, without, on_channels, with_change}
use Rattle.gp_plain.specs.History.{held, published}
use Rattle.gp_plain.proofs.Histories.{IsKept, in_each_history}
use Rattle.gp_plain.proofs.Paging.{kind_unrefused}

-- what a hold listens to is what it was attached with, but for the channels of a socket
abbrev pub HasTerms : HoldSpec → Terms → Type 0
HasTerms (Stream opening channel prev link) terms = terms ≡ terms_of (Stream opening channel prev link)
HasTerms (Plain opening channels) terms = terms ≡ terms_of (Plain opening channels)
HasTerms (Response channels prev deadline again) terms = terms ≡ terms_of (Response channels prev deadline again)
HasTerms Socket terms = (channels : List (List ℕ)) × (terms ≡ record (terms_of Socket) { channels = channels })

fresh_terms : (spec : HoldSpec) → HasTerms spec (terms_of spec)
fresh_terms (Stream opening channel prev link) = refl
fresh_terms (Plain opening channels) = refl
fresh_terms (Response channels prev deadline again) = refl
fresh_terms Socket = ([], refl)

pub kind_is : (spec : HoldSpec) (terms : Terms) → HasTerms spec terms → terms.kind ≡ (terms_of spec).kind
kind_is (Stream opening channel prev link) terms e = ap (λ (t : Terms). t.kind) e
kind_is (Plain opening channels) terms e = ap (λ (t : Terms). t.kind) e
kind_is (Response channels prev deadline again) terms e = ap (λ (t : Terms). t.kind) e
kind_is Socket terms e = ap (λ (t : Terms). t.kind) e.1

pub deadline_is : (spec : HoldSpec) (terms : Terms) → HasTerms spec terms → terms.deadline ≡ (terms_of spec).deadline
deadline_is (Stream opening channel prev link) terms e = ap (λ (t : Terms). t.deadline) e
deadline_is (Plain opening channels) terms e = ap (λ (t : Terms). t.deadline) e
deadline_is (Response channels prev deadline again) terms e = ap (λ (t : Terms). t.deadline) e
deadline_is Socket terms e = ap (λ (t : Terms). t.deadline) e.1

absurd_true : {A : Type 0} → false ≡ true → A
absurd_true e = cc

moved_terms : (spec : HoldSpec) (terms : Terms) (channels : List (List ℕ)) → is_socket terms.kind ≡ true → HasTerms spec terms → HasTerms spec (record terms { channels = channels })
moved_terms (Stream opening channel prev link) terms channels has e = absurd_true (ap (λ (t : Terms). is_socket t.kind) (sym e) ∙ has)
moved_terms (Plain opening names) terms channels has e = absurd_true (ap (λ (t : Terms). is_socket t.kind) (sym e) ∙ has)
moved_terms (Response names prev deadline again) terms channels has e = absurd_true (ap (λ (t : Terms). is_socket t.kind) (sym e) ∙ has)
moved_terms Socket terms channels has e = (channels, ap (λ (t : Terms). let u : Terms = record t { channels = channels } in u) e.1)

-- a state of a hold that was attached with a specification, and from which pieces were taken
pub record Fits (spec : HoldSpec) (taken : List Piece) (s : State) : Type 0 where
  pub terms_are : HasTerms spec s.terms
  pub position_is : s.position ≡ position_of spec (taken ++ s.pending)

position_by : (start : Option (List ℕ)) (ps : List Piece) (p : Piece)
    → option_map (λ (at : List ℕ). position_after at (ps ++ p ∷ [])) start ≡ option_map (λ (at : List ℕ). moved at p) (option_map (λ (at : List ℕ). position_after at ps) start)
position_by None ps p = refl
position_by (Some at) ps p = ap Some (fold-append moved at ps (p ∷ []))

pub position_push : (spec : HoldSpec) (ps : List Piece) (p : Piece) → position_of spec (ps ++ p ∷ []) ≡ option_map (λ (at : List ℕ). moved at p) (position_of spec ps)
position_push spec ps p = position_by (start_of spec) ps p

added_fits_by : (spec : HoldSpec) (taken : List Piece) (s : State) (p : Piece) (live room : Bool) → Fits spec taken s
    → Fits spec taken (cond live (cond room (record s { pending = s.pending ++ p ∷ []; position = option_map (λ (at : List ℕ). moved at p) s.position; ended = end_by p; misses = 0 }) (record s { ended = Some Overflow })) s)
added_fits_by spec taken s p false room f = f
added_fits_by spec taken s p true false f = record { terms_are = f.terms_are; position_is = f.position_is }
added_fits_by spec taken s p true true f = record {
  terms_are = f.terms_are;
  position_is = ap (option_map (λ (at : List ℕ). moved at p)) f.position_is ∙ sym (position_push spec (taken ++ s.pending) p) ∙ ap (position_of spec) (append_assoc taken s.pending (p ∷ []));
}

pub run_fits : (spec : HoldSpec) (taken : List Piece) (s : State) (ps : List Piece) → Fits spec taken s → Fits spec taken (run s ps)
run_fits spec taken s [] f = f
run_fits spec taken s (p ∷ ps) f = run_fits spec taken (added s p) ps (added_fits_by spec taken s p (is_live s) (has_room s.pending p) f)

gapped_fits : (spec : HoldSpec) (taken : List Piece) (s : State) (ask : Bool) → Fits spec taken s → Fits spec taken (cond ask (marked s) (missed s))
gapped_fits spec taken s true f = record { terms_are = f.terms_are; position_is = f.position_is }
gapped_fits spec taken s false f = record { terms_are = f.terms_are; position_is = f.position_is }

offered_fits : (spec : HoldSpec) (taken : List Piece) (s : State) (ps : List Piece) (gap : Bool) → Fits spec taken s → Fits spec taken (cond gap (gapped s) (run s ps))
offered_fits spec taken s ps true f = gapped_fits spec taken s (can_ask s.terms) f
offered_fits spec taken s ps false f = run_fits spec taken s ps f

settled_fits : (spec : HoldSpec) (taken : List Piece) (window : List Item) (s : State) (went_on : Bool) → Fits spec taken s → Fits spec taken (settled_if went_on window s)
settled_fits spec taken window s true f = record { terms_are = f.terms_are; position_is = f.position_is }
settled_fits spec taken window s false f = f

served_fits : (spec : HoldSpec) (taken : List Piece) (item : Item) (before after : List Item) (s : State) (live : Bool) → Fits spec taken s
    → Fits spec taken (cond live (let next = offered item before s in settled_if (grew s next) after next) s)
served_fits spec taken item before after s false f = f
served_fits spec taken item before after s true f =
    settled_fits spec taken after (offered item before s) (grew s (offered item before s))
    (offered_fits spec taken s (run_for s.terms s.position item before) (shows_gap s.terms s.position item) f)

opened_fits : (spec : HoldSpec) → Fits spec [] (opened spec)
opened_fits (Stream opening channel prev link) = record { terms_are = refl; position_is = refl }
opened_fits (Plain opening channels) = record { terms_are = refl; position_is = refl }
opened_fits (Response channels None deadline again) = record { terms_are = refl; position_is = refl }
opened_fits (Response channels (Some prev) deadline again) = record { terms_are = refl; position_is = refl }
opened_fits Socket = record { terms_are = fresh_terms Socket; position_is = refl }

begun_fits : (spec : HoldSpec) (window : List Item) → Fits spec [] (begun_state spec window)
begun_fits spec window =
    let s = opened spec in
    let f = run_fits spec [] s (option_map_or (λ (at : List ℕ). followers s.terms.kind (only_channel s.terms.channels) at window) s.position []) (opened_fits spec) in
    record { terms_are = f.terms_are; position_is = f.position_is }

timed_by : (spec : HoldSpec) (taken : List Piece) (s : State) (live due wants : Bool) → Fits spec taken s
    → Fits spec taken (cond live (cond due (record s { ended = Some TimedOut }) (cond wants (record s { ended = Some Retry }) s)) s)
timed_by spec taken s false due wants f = f
timed_by spec taken s true true wants f = record { terms_are = f.terms_are; position_is = f.position_is }
timed_by spec taken s true false true f = record { terms_are = f.terms_are; position_is = f.position_is }
timed_by spec taken s true false false f = f

pub timed_fits : (spec : HoldSpec) (taken : List Piece) (now : ℕ) (s : State) (deadline : Option ℕ) → Fits spec taken s → Fits spec taken (timed now deadline s)
timed_fits spec taken now s None f = f
timed_fits spec taken now s (Some deadline) f = timed_by spec taken s (is_live s) (nat_le deadline now) s.want f

-- what is taken of pieces that wait, and what is left, are these
pub taken_again : (taken pending : List Piece) → (taken ++ batch pending) ++ left pending ≡ taken ++ pending
taken_again taken pending = append_assoc taken (batch pending) (left pending) ∙ ap (λ ps. taken ++ ps) (take-append-drop (batch_count pending) pending)

rest_fits : (spec : HoldSpec) (taken : List Piece) (s : State) → Fits spec taken s → Fits spec (taken ++ batch s.pending) (rest_of s)
rest_fits spec taken s f = record { terms_are = f.terms_are; position_is = f.position_is ∙ ap (position_of spec) (sym (taken_again taken s.pending)) }

-- pages

closed_fits : (spec : HoldSpec) (taken : List Piece) (s : State) (closes : Bool) → Fits spec taken s → Fits spec taken (cond closes (record s { ended = Some Closed }) s)
closed_fits spec taken s true f = record { terms_are = f.terms_are; position_is = f.position_is }
closed_fits spec taken s false f = f

anew_fits : (spec : HoldSpec) (taken : List Piece) (s : State) (next missed_more : Bool) (window : List Item) → Fits spec taken s → Fits spec taken (marked_anew next missed_more window s)
anew_fits spec taken s next missed_more window f = record { terms_are = f.terms_are; position_is = f.position_is }

page_fits : (spec : HoldSpec) (taken : List Piece) (window : List Item) (page : RecoveryPage) (s : State) → Fits spec taken s → Fits spec taken (with_page window page s)
page_fits spec taken window page s f =
    let t = run s (page_run s.terms page window) in
    anew_fits spec taken (closed_behind (is_end page.follows) t) (is_next page.follows) s.late window
    (closed_fits spec taken t (is_end page.follows && is_live t) (run_fits spec taken s (page_run s.terms page window) f))

paged_fits : (spec : HoldSpec) (taken : List Piece) (window : List Item) (page : RecoveryPage) (s : State) (may begins : Bool) → Fits spec taken s
    → Fits spec taken (cond may (cond begins (with_page window page s) (with_stale window s)) s)
paged_fits spec taken window page s true true f = page_fits spec taken window page s f
paged_fits spec taken window page s true false f = anew_fits spec taken s false true window f
paged_fits spec taken window page s false begins f = f

failed_fits : (spec : HoldSpec) (taken : List Piece) (s : State) (may : Bool) → Fits spec taken s → Fits spec taken (cond may (record s { ended = Some Unrecovered }) s)
failed_fits spec taken s true f = record { terms_are = f.terms_are; position_is = f.position_is }
failed_fits spec taken s false f = f

-- sockets

channels_fit : (spec : HoldSpec) (taken : List Piece) (channels : List (List ℕ)) (s : State) → is_socket s.terms.kind ≡ true → Fits spec taken s → Fits spec taken (on_channels channels s)
channels_fit spec taken channels s has f = record { terms_are = moved_terms spec s.terms channels has f.terms_are; position_is = f.position_is }

join_fits : (spec : HoldSpec) (taken : List Piece) (channel : List ℕ) (s : State) (crowded : Bool) → is_socket s.terms.kind ≡ true → Fits spec taken s
    → Fits spec taken (cond crowded s (on_channels (joined channel s.terms.channels) s))
join_fits spec taken channel s true has f = f
join_fits spec taken channel s false has f = channels_fit spec taken (joined channel s.terms.channels) s has f

with_change_fits : (spec : HoldSpec) (taken : List Piece) (change : SocketChange) (s : State) → is_socket s.terms.kind ≡ true → Fits spec taken s → Fits spec taken (with_change change s)
with_change_fits spec taken (push message) s has f = added_fits_by spec taken s (MessagePiece message) (is_live s) (has_room s.pending (MessagePiece message)) f
with_change_fits spec taken (join channel) s has f = join_fits spec taken channel s (is_crowded channel s.terms.channels) has f
with_change_fits spec taken (leave channel) s has f = channels_fit spec taken (without channel s.terms.channels) s has f

changed_fits : (spec : HoldSpec) (taken : List Piece) (change : SocketChange) (s : State) (may : Bool) → is_none (change_refusal s) ≡ may → Fits spec taken s → Fits spec taken (cond may (with_change change s) s)
changed_fits spec taken change s true m f = with_change_fits spec taken change s (kind_unrefused s.ended (is_socket s.terms.kind) s.terms.kind m) f
changed_fits spec taken change s false m f = f

abbrev pub IsSound : List Item → Held → Type 0
IsSound items h = Fits h.spec h.taken h.state

pub sound : IsKept IsSound
sound = record {
  fresh = λ items who spec. begun_fits spec (last_items items);
  serve = λ items item h f. served_fits h.spec h.taken item (last_items items) (last_items (items ++ item ∷ [])) h.state (is_live h.state) f;
  take = λ items now h f. rest_fits h.spec h.taken (timed now h.state.terms.deadline h.state) (timed_fits h.spec h.taken now h.state h.state.terms.deadline f);
  page = λ items page h f. paged_fits h.spec h.taken (last_items items) page h.state (is_none (page_refusal h.state)) (begins_at h.state.position page.from) f;
  fail = λ items h f. failed_fits h.spec h.taken h.state (is_none (page_refusal h.state)) f;
  change = λ items change h f. changed_fits h.spec h.taken change h.state (is_none (change_refusal h.state)) refl f;
  go = λ items h f. record { terms_are = f.terms_are; position_is = f.position_is };
}

pub are_sound : (entries : List Entry) → AllByRecursion (IsSound (published entries)) (held entries)
are_sound entries = in_each_history IsSound entries sound
