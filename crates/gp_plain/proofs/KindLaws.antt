-- What a Take of a kept hold may give, in each history.
use Rattle.std.proofs.Common.{◌≡◌, ℕ, ◌+◌, Bool, true, false, cond, not, ◌&&◌, ◌||◌, nat_le, List, [], ◌∷◌, ◌++◌, map, refl, sym, ap, ◌∙◌, subst, append_assoc, Option, Some, None, is_none, is_some, option_map}
use Rattle.std.specs.List.{AllByRecursion}
use Rattle.std.specs.Option.{option_map_or}
use Rattle.std.proofs.lemmas.List.{append-nil, take-append-drop}
use Rattle.gp_plain.specs.declared.item.Item.{Item}
use Rattle.gp_plain.specs.declared.item.Message.{Message}
use Rattle.gp_plain.specs.declared.item.Message.TheVariants.{Text, Binary, Ping, Pong, Close}
use Rattle.gp_plain.specs.declared.item.MessagePart.{MessagePart}
use Rattle.gp_plain.specs.declared.item.MessagePart.TheVariants.{Text as TextPart, Binary as BinaryPart, Close as ClosePart}
use Rattle.gp_plain.specs.declared.item.ResponsePart.{ResponsePart}
use Rattle.gp_plain.specs.declared.item.StreamPart.{StreamPart}
use Rattle.gp_plain.specs.declared.event.HoldSpec.{HoldSpec}
use Rattle.gp_plain.specs.declared.event.HoldSpec.TheVariants.{Stream, Plain, Response, Socket}
use Rattle.gp_plain.specs.declared.reply.Piece.{Piece}
use Rattle.gp_plain.specs.declared.reply.Piece.TheVariants.{Message as MessagePiece}
use Rattle.gp_plain.specs.declared.reply.EndCause.{EndCause}
use Rattle.gp_plain.specs.declared.reply.EndCause.TheVariants.{Closed, Detached, Gap, Unrecovered, Overflow, Answered, Retry, TimedOut}
use Rattle.gp_plain.specs.Items.{closes}
use Rattle.gp_plain.specs.Pieces.{position_after, closed_by, end_by, has_room, moved, batch_count, batch, left}
use Rattle.gp_plain.specs.Follow.{last_items, is_heard, follow}
use Rattle.gp_plain.specs.Holds.{Terms, State, Held, terms_of, start_of, opened, only_channel, followers, comes_next, leaves_gap, run_by, run_for, piece_by, answer_or, ends_by, stream_piece, answer_piece, begun_state, is_live, is_ahead, wants_more, added, run, marked, missed, gapped, can_ask, offered, shows_gap, settled_if, grew, timed, rest_of, ends_now, asks, is_retry, repeats, recover_from, given, taken_of, RecoveryPage, is_stream, page_refusal, begins_at, is_end, is_next, page_run, closed_behind, marked_anew, with_page, with_stale, SocketChange, push, join, leave, is_socket, is_crowded, joined, on_channels, change_refusal, with_change, message_piece}
use Rattle.gp_plain.specs.History.{held}
use Rattle.gp_plain.specs.Kinds.{may_end, RecoverFits, TakenFits, KindLaw}
use Rattle.gp_plain.proofs.Histories.{IsKept, in_each_history, all_at}
use Rattle.gp_plain.proofs.Soundness.{Fits, timed_fits, sound, HasTerms, kind_is, deadline_is}
use Rattle.gp_plain.proofs.EndLaws.{Quiet, Ends, told_now, time_ends, ends_kept, ends_by_piece}
use Rattle.gp_plain.specs.Ends.{IsBrought}
use Rattle.gp_plain.proofs.Paging.{kind_unrefused}

absurd_true : {A : Type 0} → true ≡ false → A
absurd_true e = cc

no_cause : {A : Type 0} {cause : EndCause} → None ≡ Some cause → A
no_cause e = cc

same_cause : {a b : EndCause} → Some a ≡ Some b → a ≡ b
same_cause e = cc

and_first : (a b : Bool) → (a && b) ≡ true → a ≡ true
and_first true b e = refl
and_first false b e = absurd_true (sym e)

and_second : (a b : Bool) → (a && b) ≡ true → b ≡ true
and_second true b e = e
and_second false b e = absurd_true (sym e)

-- whether a hold can want to recover
abbrev can_want : HoldSpec → Bool
can_want (Stream opening channel prev link) = link
can_want (Plain opening channels) = false
can_want (Response channels prev deadline again) = is_some prev
can_want Socket = false

-- the ends that a hold may have while it is kept
abbrev MayEnd : HoldSpec → Option EndCause → Type 0
MayEnd spec ended = (cause : EndCause) → ended ≡ Some cause → may_end spec cause ≡ true

none_may : (spec : HoldSpec) → MayEnd spec None
none_may spec = λ cause e. no_cause e

one_may : (spec : HoldSpec) (own : EndCause) → may_end spec own ≡ true → MayEnd spec (Some own)
one_may spec own may = λ cause e. ap (may_end spec) (sym (same_cause e)) ∙ may

overflow_may : (spec : HoldSpec) → may_end spec Overflow ≡ true
overflow_may (Stream opening channel prev link) = refl
overflow_may (Plain opening channels) = refl
overflow_may (Response channels prev deadline again) = refl
overflow_may Socket = refl

record OfKind (spec : HoldSpec) (s : State) : Type 0 where
  ends : MayEnd spec s.ended
  wants : s.want ≡ true → can_want spec ≡ true

-- pieces that a hold gets

close_may : (spec : HoldSpec) (b : Bool) → may_end spec Closed ≡ true → MayEnd spec (closed_by b)
close_may spec true may = one_may spec Closed may
close_may spec false may = none_may spec

answer_may : (channels : List (List ℕ)) (prev : Option (List ℕ)) (deadline : ℕ) (again : Bool) (id : Option (List ℕ)) (part : Option ResponsePart)
    → MayEnd (Response channels prev deadline again) (end_by (answer_or id part))
answer_may channels prev deadline again id (Some part) = one_may (Response channels prev deadline again) Answered refl
answer_may channels prev deadline again id None = none_may (Response channels prev deadline again)

piece_may : (spec : HoldSpec) (item : Item) → MayEnd spec (end_by (piece_by (terms_of spec).kind item))
piece_may (Stream opening channel prev link) item = close_may (Stream opening channel prev link) (closes item.stream) refl
piece_may (Plain opening channels) item = close_may (Plain opening channels) (closes item.stream) refl
piece_may (Response channels prev deadline again) item = answer_may channels prev deadline again item.id item.response
piece_may Socket item = close_may Socket (closes item.stream) refl

abbrev AllMay : HoldSpec → List Piece → Type 0
AllMay spec ps = AllByRecursion (λ (p : Piece). MayEnd spec (end_by p)) ps

map_may : (spec : HoldSpec) (items : List Item) → AllMay spec (map (piece_by (terms_of spec).kind) items)
map_may spec [] = tt
map_may spec (item ∷ items) = (piece_may spec item, map_may spec items)

rest_may : (spec : HoldSpec) (id : Option (List ℕ)) (channel : List ℕ) (window : List Item) (ends : Bool) → AllMay spec (cond ends [] (option_map_or (λ (i : List ℕ). followers (terms_of spec).kind channel i window) id []))
rest_may spec id channel window true = tt
rest_may spec None channel window false = tt
rest_may spec (Some i) channel window false = map_may spec (follow channel (ends_by (terms_of spec).kind) i window)

chain_may : (spec : HoldSpec) (channel : List ℕ) (item : Item) (window : List Item) (next : Bool)
    → AllMay spec (cond next (piece_by (terms_of spec).kind item ∷ cond (ends_by (terms_of spec).kind item) [] (option_map_or (λ (i : List ℕ). followers (terms_of spec).kind channel i window) item.id [])) [])
chain_may spec channel item window true = (piece_may spec item, rest_may spec item.id channel window (ends_by (terms_of spec).kind item))
chain_may spec channel item window false = tt

plain_may : (opening : List ℕ) (channels : List (List ℕ)) (part : Option StreamPart) (item : Item) → AllMay (Plain opening channels) (stream_piece part item)
plain_may opening channels None item = tt
plain_may opening channels (Some part) item = (piece_may (Plain opening channels) item, tt)

part_may : (channels : List (List ℕ)) (prev : Option (List ℕ)) (deadline : ℕ) (again : Bool) (part : Option ResponsePart) (item : Item) → AllMay (Response channels prev deadline again) (answer_piece part item)
part_may channels prev deadline again None item = tt
part_may channels prev deadline again (Some part) item = (piece_may (Response channels prev deadline again) item, tt)

message_may : (part : Option MessagePart) → AllMay Socket (message_piece part)
message_may None = tt
message_may (Some (TextPart bytes)) = (none_may Socket, tt)
message_may (Some (BinaryPart bytes)) = (none_may Socket, tt)
message_may (Some ClosePart) = (one_may Socket Closed refl, tt)

run_by_may : (spec : HoldSpec) (at : Option (List ℕ)) (item : Item) (window : List Item) → AllMay spec (run_by (terms_of spec).kind (terms_of spec).channels at item window)
run_by_may (Stream opening channel prev link) at item window = chain_may (Stream opening channel prev link) channel item window (comes_next item at)
run_by_may (Plain opening channels) at item window = plain_may opening channels item.stream item
run_by_may (Response channels prev deadline again) None item window = part_may channels prev deadline again item.response item
run_by_may (Response channels prev deadline again) (Some at) item window = chain_may (Response channels prev deadline again) (only_channel channels) item window (comes_next item (Some at))
run_by_may Socket at item window = message_may item.message

run_if_may : (spec : HoldSpec) (ps : List Piece) (heard : Bool) → AllMay spec ps → AllMay spec (cond heard ps [])
run_if_may spec ps true all = all
run_if_may spec ps false all = tt

run_for_same : (spec : HoldSpec) (terms : Terms) (at : Option (List ℕ)) (item : Item) (window : List Item) → terms ≡ terms_of spec → AllMay spec (run_for terms at item window)
run_for_same spec terms at item window e =
    subst (λ (t : Terms). AllMay spec (run_for t at item window)) (sym e)
    (run_if_may spec (run_by (terms_of spec).kind (terms_of spec).channels at item window) (is_heard (terms_of spec).channels item) (run_by_may spec at item window))

run_for_may : (spec : HoldSpec) (terms : Terms) (at : Option (List ℕ)) (item : Item) (window : List Item) → HasTerms spec terms → AllMay spec (run_for terms at item window)
run_for_may (Stream opening channel prev link) terms at item window e = run_for_same (Stream opening channel prev link) terms at item window e
run_for_may (Plain opening channels) terms at item window e = run_for_same (Plain opening channels) terms at item window e
run_for_may (Response channels prev deadline again) terms at item window e = run_for_same (Response channels prev deadline again) terms at item window e
run_for_may Socket terms at item window e =
    subst (λ (t : Terms). AllMay Socket (run_for t at item window)) (sym e.1) (run_if_may Socket (message_piece item.message) (is_heard e.0 item) (message_may item.message))

add_kind : (spec : HoldSpec) (s : State) (p : Piece) (live room : Bool) → MayEnd spec (end_by p) → OfKind spec s
    → OfKind spec (cond live (cond room (record s { pending = s.pending ++ p ∷ []; position = option_map (λ (at : List ℕ). moved at p) s.position; ended = end_by p; misses = 0 }) (record s { ended = Some Overflow })) s)
add_kind spec s p false room may f = f
add_kind spec s p true false may f = record { ends = one_may spec Overflow (overflow_may spec); wants = f.wants }
add_kind spec s p true true may f = record { ends = may; wants = f.wants }

run_kind : (spec : HoldSpec) (s : State) (ps : List Piece) → AllMay spec ps → OfKind spec s → OfKind spec (run s ps)
run_kind spec s [] all f = f
run_kind spec s (p ∷ ps) all f = run_kind spec (added s p) ps all.1 (add_kind spec s p (is_live s) (has_room s.pending p) all.0 f)

-- gaps

gap_at : (heard : Bool) (item : Item) (at : Option (List ℕ)) → (heard && leaves_gap item at) ≡ true → is_some at ≡ true
gap_at true item None e = absurd_true (sym e)
gap_at false item None e = absurd_true (sym e)
gap_at heard item (Some at) e = refl

started : (start : Option (List ℕ)) (log : List Piece) → is_some (option_map (λ (at : List ℕ). position_after at log) start) ≡ true → is_some start ≡ true
started None log e = e
started (Some at) log e = refl

mark_kind : (spec : HoldSpec) (s : State) → can_want spec ≡ true → OfKind spec s → OfKind spec (marked s)
mark_kind spec s can f = record { ends = f.ends; wants = λ e. can }

many_may : (spec : HoldSpec) (many : Bool) (ended : Option EndCause) → may_end spec Gap ≡ true → MayEnd spec ended → MayEnd spec (cond many (Some Gap) ended)
many_may spec true ended may f = one_may spec Gap may
many_may spec false ended may f = f

miss_kind : (spec : HoldSpec) (s : State) → may_end spec Gap ≡ true → OfKind spec s → OfKind spec (missed s)
miss_kind spec s may f = record { ends = many_may spec (nat_le 64 (s.misses + 1)) s.ended may f.ends; wants = f.wants }

stream_gap : (opening channel prev : List ℕ) (link : Bool) (s : State) → OfKind (Stream opening channel prev link) s → OfKind (Stream opening channel prev link) (cond (link || false) (marked s) (missed s))
stream_gap opening channel prev true s f = mark_kind (Stream opening channel prev true) s refl f
stream_gap opening channel prev false s f = miss_kind (Stream opening channel prev false) s refl f

gap_kind : (spec : HoldSpec) (s : State) → is_some (start_of spec) ≡ true → OfKind spec s → OfKind spec (cond (can_ask (terms_of spec)) (marked s) (missed s))
gap_kind (Stream opening channel prev link) s at f = stream_gap opening channel prev link s f
gap_kind (Plain opening channels) s at f = absurd_true (sym at)
gap_kind (Response channels prev deadline again) s at f = mark_kind (Response channels prev deadline again) s at f
gap_kind Socket s at f = absurd_true (sym at)

ask_kind : (spec : HoldSpec) (s : State) → HasTerms spec s.terms → is_some (start_of spec) ≡ true → OfKind spec s → OfKind spec (gapped s)
ask_kind (Stream opening channel prev link) s t at f =
    let spec = Stream opening channel prev link in subst (λ (terms : Terms). OfKind spec (cond (can_ask terms) (marked s) (missed s))) (sym t) (gap_kind spec s at f)
ask_kind (Plain opening channels) s t at f = absurd_true (sym at)
ask_kind (Response channels prev deadline again) s t at f =
    let spec = Response channels prev deadline again in subst (λ (terms : Terms). OfKind spec (cond (can_ask terms) (marked s) (missed s))) (sym t) (gap_kind spec s at f)
ask_kind Socket s t at f = absurd_true (sym at)

offer_kind : (spec : HoldSpec) (s : State) (item : Item) (before : List Item) (gap : Bool) → HasTerms spec s.terms → (gap ≡ true → is_some (start_of spec) ≡ true) → OfKind spec s
    → OfKind spec (cond gap (gapped s) (run s (run_for s.terms s.position item before)))
offer_kind spec s item before true t at f = ask_kind spec s t (at refl) f
offer_kind spec s item before false t at f = run_kind spec s (run_for s.terms s.position item before) (run_for_may spec s.terms s.position item before t) f

settle_kind : (spec : HoldSpec) (window : List Item) (s : State) (went_on : Bool) → OfKind spec s → OfKind spec (settled_if went_on window s)
settle_kind spec window s true f = record { ends = f.ends; wants = λ e. f.wants (and_first s.want (is_ahead s.terms s.position window) e) }
settle_kind spec window s false f = f

serve_kind : (spec : HoldSpec) (taken : List Piece) (item : Item) (before after : List Item) (s : State) (live : Bool) → Fits spec taken s → OfKind spec s
    → OfKind spec (cond live (let next = offered item before s in settled_if (grew s next) after next) s)
serve_kind spec taken item before after s false fits f = f
serve_kind spec taken item before after s true fits f =
    settle_kind spec after (offered item before s) (grew s (offered item before s))
    (offer_kind spec s item before (shows_gap s.terms s.position item) fits.terms_are
    (λ e. started (start_of spec) (taken ++ s.pending) (ap is_some (sym fits.position_is) ∙ gap_at (is_heard s.terms.channels item) item s.position e)) f)

-- the other events

open_kind : (spec : HoldSpec) → OfKind spec (opened spec)
open_kind spec = record { ends = none_may spec; wants = λ e. absurd_true (sym e) }

caught_may : (spec : HoldSpec) (at : Option (List ℕ)) (window : List Item)
    → AllMay spec (option_map_or (λ (p : List ℕ). followers (terms_of spec).kind (only_channel (terms_of spec).channels) p window) at [])
caught_may spec None window = tt
caught_may spec (Some p) window = map_may spec (follow (only_channel (terms_of spec).channels) (ends_by (terms_of spec).kind) p window)

more_may : (spec : HoldSpec) → wants_more spec ≡ true → can_want spec ≡ true
more_may (Stream opening channel prev link) e = e
more_may (Plain opening channels) e = e
more_may (Response channels prev deadline again) e = and_first (is_some prev) (not again) e
more_may Socket e = e

and_middle : (a b c : Bool) → (a && b && c) ≡ true → b ≡ true
and_middle true true c e = refl
and_middle true false c e = absurd_true (sym e)
and_middle false b c e = absurd_true (sym e)

begin_kind : (spec : HoldSpec) (window : List Item) → OfKind spec (begun_state spec window)
begin_kind spec window =
    let o = opened spec in
    let s = run o (option_map_or (λ (p : List ℕ). followers o.terms.kind (only_channel o.terms.channels) p window) o.position []) in
    let f = run_kind spec o (option_map_or (λ (p : List ℕ). followers o.terms.kind (only_channel o.terms.channels) p window) o.position []) (caught_may spec (start_of spec) window) (open_kind spec) in
    record { ends = f.ends; wants = λ e. more_may spec (and_middle (is_live s) (wants_more spec) (is_ahead s.terms s.position window) e) }

due_kind : (channels : List (List ℕ)) (prev : Option (List ℕ)) (deadline : ℕ) (again : Bool) (s : State) (live due wants : Bool) → s.want ≡ wants → (let spec = Response channels prev deadline again in OfKind spec s
    → OfKind spec (cond live (cond due (record s { ended = Some TimedOut }) (cond wants (record s { ended = Some Retry }) s)) s))
due_kind channels prev deadline again s false due wants w f = f
due_kind channels prev deadline again s true true wants w f = record { ends = one_may (Response channels prev deadline again) TimedOut refl; wants = f.wants }
due_kind channels prev deadline again s true false true w f = record { ends = one_may (Response channels prev deadline again) Retry (f.wants w); wants = f.wants }
due_kind channels prev deadline again s true false false w f = f

time_kind : (spec : HoldSpec) (now : ℕ) (s : State) → OfKind spec s → OfKind spec (timed now (terms_of spec).deadline s)
time_kind (Stream opening channel prev link) now s f = f
time_kind (Plain opening channels) now s f = f
time_kind (Response channels prev deadline again) now s f = due_kind channels prev deadline again s (is_live s) (nat_le deadline now) s.want refl f
time_kind Socket now s f = f

timed_kind : (spec : HoldSpec) (now : ℕ) (s : State) → HasTerms spec s.terms → OfKind spec s → OfKind spec (timed now s.terms.deadline s)
timed_kind spec now s t f = subst (λ (deadline : Option ℕ). OfKind spec (timed now deadline s)) (sym (deadline_is spec s.terms t)) (time_kind spec now s f)

rest_kind : (spec : HoldSpec) (s : State) → OfKind spec s → OfKind spec (rest_of s)
rest_kind spec s f = record { ends = f.ends; wants = λ e. f.wants (and_first s.want (not (asks s)) e) }

-- pages are for streams alone

close_kind : (spec : HoldSpec) (s : State) (closes : Bool) → may_end spec Closed ≡ true → OfKind spec s → OfKind spec (cond closes (record s { ended = Some Closed }) s)
close_kind spec s true may f = record { ends = one_may spec Closed may; wants = f.wants }
close_kind spec s false may f = f

page_may : (opening channel prev : List ℕ) (link : Bool) (page : RecoveryPage) (window : List Item) (last : Bool)
    → (let spec = Stream opening channel prev link in AllMay spec (cond last [] (followers (terms_of spec).kind (only_channel (terms_of spec).channels) page.to window)))
page_may opening channel prev link page window true = tt
page_may opening channel prev link page window false = map_may (Stream opening channel prev link) (follow channel (ends_by (terms_of (Stream opening channel prev link)).kind) page.to window)

run_terms : (s : State) (ps : List Piece) → (run s ps).terms ≡ s.terms
run_terms s [] = refl
run_terms s (p ∷ ps) = run_terms (added s p) ps ∙ added_terms s p (is_live s) (has_room s.pending p)
  where
    added_terms : (s : State) (p : Piece) (live room : Bool)
        → (cond live (cond room (record s { pending = s.pending ++ p ∷ []; position = option_map (λ (at : List ℕ). moved at p) s.position; ended = end_by p; misses = 0 }) (record s { ended = Some Overflow })) s).terms ≡ s.terms
    added_terms s p true true = refl
    added_terms s p true false = refl
    added_terms s p false room = refl

anew_kind : (spec : HoldSpec) (s : State) (next missed_more : Bool) (window : List Item) → s.terms ≡ terms_of spec → ((terms_of spec).link ≡ true → can_want spec ≡ true) → OfKind spec s → OfKind spec (marked_anew next missed_more window s)
anew_kind spec s next missed_more window t can f = record {
  ends = f.ends;
  wants = λ e. can (ap (λ (k : Terms). k.link) (sym t) ∙ and_first s.terms.link (next || (missed_more && is_ahead s.terms s.position window)) e);
}

closed_terms : (s : State) (closes : Bool) → (cond closes (record s { ended = Some Closed }) s).terms ≡ s.terms
closed_terms s true = refl
closed_terms s false = refl

stream_page_kind : (opening channel prev : List ℕ) (link : Bool) (window : List Item) (page : RecoveryPage) (s : State) → (let spec = Stream opening channel prev link in s.terms ≡ terms_of spec → OfKind spec s → OfKind spec (with_page window page s))
stream_page_kind opening channel prev link window page s t f =
    let spec = Stream opening channel prev link in
    let ps = page_run s.terms page window in
    let all = subst (λ (k : Terms). AllMay spec (page_run k page window)) (sym t) (none_may spec, page_may opening channel prev link page window (is_end page.follows)) in
    let ran = run s ps in
    let closes = is_end page.follows && is_live ran in
    anew_kind spec (closed_behind (is_end page.follows) ran) (is_next page.follows) s.late window (closed_terms ran closes ∙ run_terms s ps ∙ t) (λ e. e) (close_kind spec ran closes refl (run_kind spec s ps all f))

page_kind : (spec : HoldSpec) (window : List Item) (page : RecoveryPage) (s : State) (may begins : Bool) → HasTerms spec s.terms → (may ≡ true → is_stream (terms_of spec).kind ≡ true) → OfKind spec s
    → OfKind spec (cond may (cond begins (with_page window page s) (with_stale window s)) s)
page_kind spec window page s false begins t has f = f
page_kind (Stream opening channel prev link) window page s true true t has f = stream_page_kind opening channel prev link window page s t f
page_kind (Stream opening channel prev link) window page s true false t has f = anew_kind (Stream opening channel prev link) s false true window t (λ e. e) f
page_kind (Plain opening channels) window page s true begins t has f = absurd_true (sym (has refl))
page_kind (Response channels prev deadline again) window page s true begins t has f = absurd_true (sym (has refl))
page_kind Socket window page s true begins t has f = absurd_true (sym (has refl))

fail_kind : (spec : HoldSpec) (s : State) (may : Bool) → (may ≡ true → is_stream (terms_of spec).kind ≡ true) → OfKind spec s → OfKind spec (cond may (record s { ended = Some Unrecovered }) s)
fail_kind spec s false has f = f
fail_kind (Stream opening channel prev link) s true has f = record { ends = one_may (Stream opening channel prev link) Unrecovered refl; wants = f.wants }
fail_kind (Plain opening channels) s true has f = absurd_true (sym (has refl))
fail_kind (Response channels prev deadline again) s true has f = absurd_true (sym (has refl))
fail_kind Socket s true has f = absurd_true (sym (has refl))

has_pages : (spec : HoldSpec) (s : State) → HasTerms spec s.terms → is_none (page_refusal s) ≡ true → is_stream (terms_of spec).kind ≡ true
has_pages spec s t e = ap is_stream (sym (kind_is spec s.terms t)) ∙ kind_unrefused s.ended (is_stream s.terms.kind) s.terms.kind e

-- and changes for sockets

closed_message_may : (message : Message) → MayEnd Socket (end_by (MessagePiece message))
closed_message_may (Text bytes) = none_may Socket
closed_message_may (Binary bytes) = none_may Socket
closed_message_may (Ping bytes) = none_may Socket
closed_message_may (Pong bytes) = none_may Socket
closed_message_may (Close code reason) = one_may Socket Closed refl

join_kind : (channel : List ℕ) (s : State) (crowded : Bool) → OfKind Socket s → OfKind Socket (cond crowded s (on_channels (joined channel s.terms.channels) s))
join_kind channel s true f = f
join_kind channel s false f = record { ends = f.ends; wants = f.wants }

socket_kind : (change : SocketChange) (s : State) → OfKind Socket s → OfKind Socket (with_change change s)
socket_kind (push message) s f = add_kind Socket s (MessagePiece message) (is_live s) (has_room s.pending (MessagePiece message)) (closed_message_may message) f
socket_kind (join channel) s f = join_kind channel s (is_crowded channel s.terms.channels) f
socket_kind (leave channel) s f = record { ends = f.ends; wants = f.wants }

change_kind : (spec : HoldSpec) (change : SocketChange) (s : State) (may : Bool) → (may ≡ true → is_socket (terms_of spec).kind ≡ true) → OfKind spec s → OfKind spec (cond may (with_change change s) s)
change_kind spec change s false has f = f
change_kind (Stream opening channel prev link) change s true has f = absurd_true (sym (has refl))
change_kind (Plain opening channels) change s true has f = absurd_true (sym (has refl))
change_kind (Response channels prev deadline again) change s true has f = absurd_true (sym (has refl))
change_kind Socket change s true has f = socket_kind change s f

has_changes : (spec : HoldSpec) (s : State) → HasTerms spec s.terms → is_none (change_refusal s) ≡ true → is_socket (terms_of spec).kind ≡ true
has_changes spec s t e = ap is_socket (sym (kind_is spec s.terms t)) ∙ kind_unrefused s.ended (is_socket s.terms.kind) s.terms.kind e

or_first : (a b : Bool) → (a || b) ≡ false → a ≡ false
or_first true b e = absurd_true e
or_first false b e = refl

or_second : (a b : Bool) → (a || b) ≡ false → b ≡ false
or_second true b e = absurd_true e
or_second false b e = e

none_told : (told : Option EndCause) → is_some told ≡ false → told ≡ None
none_told None e = refl
none_told (Some cause) e = absurd_true e

-- what a Take gives ends as the log does

none_both : (xs ys : List Piece) → xs ++ ys ≡ [] → (xs ≡ []) × (ys ≡ [])
none_both [] ys e = (refl, e)
none_both (x ∷ xs) ys e = (cc e, cc e)

within_log : (taken front : List Piece) (p : Piece) (rest later now : List Piece) → now ≡ front ++ p ∷ rest → taken ++ (now ++ later) ≡ (taken ++ front) ++ p ∷ (rest ++ later)
within_log taken front p rest later now is =
    ap (λ ps. taken ++ (ps ++ later)) is ∙ ap (λ ps. taken ++ ps) (append_assoc front (p ∷ rest) later) ∙ sym (append_assoc taken front (p ∷ (rest ++ later)))

given_last : (taken pending : List Piece) (ended : Option EndCause) → Ends (taken ++ pending) ended → (front : List Piece) (p : Piece) (rest : List Piece) (cause : EndCause)
    → batch pending ≡ front ++ p ∷ rest → end_by p ≡ Some cause → (rest ≡ []) × (ends_now ended (left pending) ≡ Some cause)
given_last taken pending ended f front p rest cause is e =
    let whole : taken ++ pending ≡ (taken ++ front) ++ p ∷ (rest ++ left pending) = sym (ap (λ ps. taken ++ ps) (take-append-drop (batch_count pending) pending)) ∙ within_log taken front p rest (left pending) (batch pending) is in
    let r = (ends_by_piece (taken ++ pending) ended f).last (taken ++ front) p (rest ++ left pending) cause whole e in
    let none = none_both rest (left pending) r.0 in
    (none.0, ap (ends_now ended) none.1 ∙ r.1)

quiet_by : (end : Option EndCause) → ((cause : EndCause) → end ≡ Some cause → ⊥) → end ≡ None
quiet_by None f = refl
quiet_by (Some cause) f = absurd (f cause refl)

quiet_from : (ps : List Piece) → ((front : List Piece) (p : Piece) (rest : List Piece) (cause : EndCause) → ps ≡ front ++ p ∷ rest → end_by p ≡ Some cause → ⊥) → Quiet ps
quiet_from [] f = tt
quiet_from (x ∷ ps) f = (quiet_by (end_by x) (λ cause e. f [] x ps cause refl e), quiet_from ps (λ front p rest cause is e. f (x ∷ front) p rest cause (ap (λ qs. x ∷ qs) is) e))

quiet_both : (xs ys : List Piece) → Quiet xs → Quiet ys → Quiet (xs ++ ys)
quiet_both [] ys p q = q
quiet_both (x ∷ xs) ys p q = (p.0, quiet_both xs ys p.1 q)

told_none : {cause : EndCause} {told : Option EndCause} → told ≡ None → told ≡ Some cause → ⊥
told_none e f = no_cause (sym e ∙ f)

-- a Take that tells no end gave no piece that brings one
quiet_given : (taken pending : List Piece) (ended : Option EndCause) → Ends (taken ++ pending) ended → ends_now ended (left pending) ≡ None → Quiet taken → Quiet (taken ++ batch pending)
quiet_given taken pending ended f none quiet =
    quiet_both taken (batch pending) quiet (quiet_from (batch pending) (λ front p rest cause is e. told_none none (given_last taken pending ended f front p rest cause is e).1))

brought_now : (taken now front : List Piece) (p : Piece) (cause : EndCause) → Quiet taken → taken ++ now ≡ front ++ p ∷ [] → end_by p ≡ Some cause → IsBrought now cause
brought_now [] now front p cause quiet is e = record { front = front; piece = p; whole = is; end = e }
brought_now (x ∷ taken) now [] p cause quiet is e = let same : x ≡ p = cc is in no_cause (sym quiet.0 ∙ ap end_by same ∙ e)
brought_now (x ∷ taken) now (y ∷ front) p cause quiet is e = let tails : taken ++ now ≡ front ++ p ∷ [] = cc is in brought_now taken now front p cause quiet.1 tails e

given_answer : (taken pending : List Piece) (ended : Option EndCause) → Ends (taken ++ pending) ended → Quiet taken → ends_now ended (left pending) ≡ Some Answered → IsBrought (batch pending) Answered
given_answer taken pending ended f quiet e =
    let told = told_now ended (left pending) Answered e in
    let b = (ends_by_piece (taken ++ pending) ended f).answered told.1 in
    let all : batch pending ≡ pending = sym (append-nil (batch pending)) ∙ ap (λ ps. batch pending ++ ps) (sym told.0) ∙ take-append-drop (batch_count pending) pending in
    brought_now taken (batch pending) b.front b.piece Answered quiet (ap (λ ps. taken ++ ps) all ∙ b.whole) b.end

record KindKept (h : Held) : Type 0 where
  fits : Fits h.spec h.taken h.state
  all : Ends (h.taken ++ h.state.pending) h.state.ended
  quiet : h.released ≡ false → Quiet h.taken
  kind : h.released ≡ false → OfKind h.spec h.state

kinds_kept : IsKept (λ (items : List Item) (h : Held). KindKept h)
kinds_kept = record {
  fresh = λ items who spec. record { fits = sound.fresh items who spec; all = ends_kept.fresh items who spec; quiet = λ e. tt; kind = λ e. begin_kind spec (last_items items) };
  serve = λ items item h f. record {
    fits = sound.serve items item h f.fits;
    all = ends_kept.serve items item h f.all;
    quiet = f.quiet;
    kind = λ e. serve_kind h.spec h.taken item (last_items items) (last_items (items ++ item ∷ [])) h.state (is_live h.state) f.fits (f.kind e);
  };
  take = λ items now h f. record {
    fits = sound.take items now h f.fits;
    all = ends_kept.take items now h f.all;
    quiet = λ e.
        let u = timed now h.state.terms.deadline h.state in
        quiet_given h.taken u.pending u.ended (time_ends h.taken now h.state.terms.deadline h.state f.all) (none_told (taken_of now h.state).ended (or_second h.released (is_some (taken_of now h.state).ended) e)) (f.quiet (or_first h.released (is_some (taken_of now h.state).ended) e));
    kind = λ e. rest_kind h.spec (timed now h.state.terms.deadline h.state) (timed_kind h.spec now h.state f.fits.terms_are (f.kind (or_first h.released (is_some (taken_of now h.state).ended) e)));
  };
  page = λ items page h f. record {
    fits = sound.page items page h f.fits;
    all = ends_kept.page items page h f.all;
    quiet = f.quiet;
    kind = λ e.
        page_kind h.spec (last_items items) page h.state (is_none (page_refusal h.state)) (begins_at h.state.position page.from) f.fits.terms_are (λ m. has_pages h.spec h.state f.fits.terms_are m) (f.kind e);
  };
  change = λ items change h f. record {
    fits = sound.change items change h f.fits;
    all = ends_kept.change items change h f.all;
    quiet = f.quiet;
    kind = λ e. change_kind h.spec change h.state (is_none (change_refusal h.state)) (λ m. has_changes h.spec h.state f.fits.terms_are m) (f.kind e);
  };
  fail = λ items h f. record {
    fits = sound.fail items h f.fits;
    all = ends_kept.fail items h f.all;
    quiet = f.quiet;
    kind = λ e. fail_kind h.spec h.state (is_none (page_refusal h.state)) (λ m. has_pages h.spec h.state f.fits.terms_are m) (f.kind e);
  };
  go = λ items h f. record { fits = sound.go items h f.fits; all = ends_kept.go items h f.all; quiet = λ e. absurd_true e; kind = λ e. absurd_true e };
}

-- what a Take gives

told_of : (ended : Option EndCause) (ps : List Piece) (cause : EndCause) → ends_now ended ps ≡ Some cause → ended ≡ Some cause
told_of ended [] cause e = e
told_of ended (p ∷ ps) cause e = no_cause e

live_tells : (ended : Option EndCause) (ps : List Piece) → not (is_some ended) ≡ true → ends_now ended ps ≡ None
live_tells None [] e = refl
live_tells None (p ∷ ps) e = refl
live_tells (Some cause) ps e = absurd_true (sym e)

some_of : (asked : Bool) (at : Option (List ℕ)) → is_some (recover_from asked at) ≡ true → asked ≡ true
some_of true at e = refl
some_of false at e = absurd_true (sym e)

or_none : (a : Bool) → (a || false) ≡ a
or_none true = refl
or_none false = refl

no_link : (a b c : Bool) → (a && false && b && c) ≡ false
no_link true b c = refl
no_link false b c = refl

stream_recovers : (terms : Terms) (link : Bool) (s : State) (told : Option EndCause) → s.terms ≡ terms → terms.link ≡ link → is_some terms.deadline ≡ false → told ≡ ends_now s.ended (left s.pending)
    → is_some (recover_from (asks s || repeats s told) s.position) ≡ true → (link ≡ true) × (told ≡ None)
stream_recovers terms link s told t l d is e =
    let asked : (asks s || repeats s told) ≡ true = some_of (asks s || repeats s told) s.position e in
    let dead : repeats s told ≡ false = ap (λ (k : Terms). is_some k.deadline && is_retry told) t ∙ ap (λ b. b && is_retry told) d in
    let does : asks s ≡ true = sym (ap (λ b. asks s || b) dead ∙ or_none (asks s)) ∙ asked in
    let wants = and_first (is_live s && s.terms.link && s.want) (not s.asked) does in
    let linked = and_middle (is_live s) s.terms.link s.want wants in
    let live = and_first (is_live s) s.terms.link (and_first (is_live s && s.terms.link) s.want wants) in
    (sym l ∙ ap (λ (k : Terms). k.link) (sym t) ∙ linked, is ∙ live_tells s.ended (left s.pending) live)

none_recovers : (terms : Terms) (s : State) (told : Option EndCause) → s.terms ≡ terms → terms.link ≡ false → is_some terms.deadline ≡ false → recover_from (asks s || repeats s told) s.position ≡ None
none_recovers terms s told t l d =
    let quiet : asks s ≡ false = ap (λ (k : Terms). is_live s && k.link && s.want && not s.asked) t ∙ ap (λ b. is_live s && b && s.want && not s.asked) l ∙ no_link (is_live s) s.want (not s.asked) in
    let dead : repeats s told ≡ false = ap (λ (k : Terms). is_some k.deadline && is_retry told) t ∙ ap (λ b. b && is_retry told) d in
    ap (λ b. recover_from b s.position) (ap (λ b. b || repeats s told) quiet ∙ dead)

is_there : (b : Bool) (at : Option (List ℕ)) → (b ≡ true → is_some at ≡ true) → is_some (recover_from b at) ≡ b
is_there true at f = f refl
is_there false at f = refl

response_recovers : (terms : Terms) (s : State) (told : Option EndCause) → s.terms ≡ terms → terms.link ≡ false → is_some terms.deadline ≡ true → (is_retry told ≡ true → is_some s.position ≡ true)
    → is_some (recover_from (asks s || repeats s told) s.position) ≡ is_retry told
response_recovers terms s told t l d at =
    let quiet : asks s ≡ false = ap (λ (k : Terms). is_live s && k.link && s.want && not s.asked) t ∙ ap (λ b. is_live s && b && s.want && not s.asked) l ∙ no_link (is_live s) s.want (not s.asked) in
    let again : repeats s told ≡ is_retry told = ap (λ (k : Terms). is_some k.deadline && is_retry told) t ∙ ap (λ b. b && is_retry told) d in
    ap (λ b. is_some (recover_from b s.position)) (ap (λ b. b || repeats s told) quiet ∙ again) ∙ is_there (is_retry told) s.position at

retry_is : (told : Option EndCause) → is_retry told ≡ true → told ≡ Some Retry
retry_is None e = absurd_true (sym e)
retry_is (Some Closed) e = absurd_true (sym e)
retry_is (Some Detached) e = absurd_true (sym e)
retry_is (Some Gap) e = absurd_true (sym e)
retry_is (Some Unrecovered) e = absurd_true (sym e)
retry_is (Some Overflow) e = absurd_true (sym e)
retry_is (Some Answered) e = absurd_true (sym e)
retry_is (Some Retry) e = refl
retry_is (Some TimedOut) e = absurd_true (sym e)

placed : (prev : Option (List ℕ)) (log : List Piece) → is_some prev ≡ true → is_some (option_map (λ (at : List ℕ). position_after at log) prev) ≡ true
placed None log e = e
placed (Some at) log e = refl

recover_fits : (spec : HoldSpec) (taken : List Piece) (s : State) → Fits spec taken s → MayEnd spec (given s).ended → RecoverFits spec (given s)
recover_fits (Stream opening channel prev link) taken s fits may = λ e. stream_recovers (terms_of (Stream opening channel prev link)) link s (given s).ended fits.terms_are refl refl refl e
recover_fits (Plain opening channels) taken s fits may = none_recovers (terms_of (Plain opening channels)) s (given s).ended fits.terms_are refl refl
recover_fits (Response channels prev deadline again) taken s fits may =
    response_recovers (terms_of (Response channels prev deadline again)) s (given s).ended fits.terms_are refl refl
    (λ e. ap is_some fits.position_is ∙ placed prev (taken ++ s.pending) (may Retry (retry_is (given s).ended e)))
recover_fits Socket taken s fits may = none_recovers (record (terms_of Socket) { channels = fits.terms_are.0 }) s (given s).ended fits.terms_are.1 refl refl

taken_fits : (spec : HoldSpec) (taken : List Piece) (s : State) → Fits spec taken s → OfKind spec s → Ends (taken ++ s.pending) s.ended → Quiet taken → TakenFits spec (given s)
taken_fits spec taken s fits f all quiet =
    let may : MayEnd spec (given s).ended = λ cause e. f.ends cause (told_of s.ended (left s.pending) cause e) in
    record {
      ends = may;
      recovers = recover_fits spec taken s fits may;
      pieces = record { last = λ front p rest cause is e. given_last taken s.pending s.ended all front p rest cause is e; answered = λ e. given_answer taken s.pending s.ended all quiet e };
    }

pub kind_law_holds : KindLaw
kind_law_holds = λ entries number now h there kept.
    let k = all_at KindKept (held entries) number h (in_each_history (λ (items : List Item) (x : Held). KindKept x) entries kinds_kept) there in
    taken_fits h.spec h.taken (timed now h.state.terms.deadline h.state) (timed_fits h.spec h.taken now h.state h.state.terms.deadline k.fits) (timed_kind h.spec now h.state k.fits.terms_are (k.kind kept))
    (time_ends h.taken now h.state.terms.deadline h.state k.all) (k.quiet kept)
