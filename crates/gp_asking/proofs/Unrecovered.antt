-- No event but the failure of a page ends a hold as unrecovered.
use Rattle.std.proofs.Common.{◌≡◌, ℕ, ◌+◌, ◌++◌, Bool, true, false, cond, ◌&&◌, nat_le, List, [], ◌∷◌, Option, Some, None, is_none, option_map}
use Rattle.std.specs.Option.{option_map_or}
use Rattle.gp_plain.specs.declared.item.Item.{Item}
use Rattle.gp_plain.specs.declared.item.Message.{Message}
use Rattle.gp_plain.specs.declared.item.Message.TheVariants.{Text, Binary, Ping, Pong, Close}
use Rattle.gp_plain.specs.declared.event.HoldSpec.{HoldSpec}
use Rattle.gp_plain.specs.declared.reply.Piece.{Piece}
use Rattle.gp_plain.specs.declared.reply.Piece.TheVariants.{Opening, Item as ItemPiece, Page as PagePiece, Message as MessagePiece, Answer as AnswerPiece}
use Rattle.gp_plain.specs.declared.reply.EndCause.{EndCause}
use Rattle.gp_plain.specs.declared.reply.EndCause.TheVariants.{Closed, Gap, Unrecovered, Overflow, Retry, TimedOut}
use Rattle.gp_plain.specs.Pieces.{moved, closed_by, closed_by_message, end_by, has_room}
use Rattle.gp_plain.specs.Holds.{State, RecoveryPage, SocketChange, push, join, leave, opened, followers, only_channel, begun_state, is_live, added, run, can_ask, marked, missed, gapped, shows_gap, run_for, offered, grew, settled_if, served, timed, after_take, end_or_detached, page_refusal, begins_at, is_end, page_run, with_page, with_stale, after_page, is_crowded, joined, on_channels, change_refusal, with_change, after_change}

-- the hold ended as unrecovered
abbrev pub IsUnrecovered : State → Type 0
IsUnrecovered s = s.ended ≡ Some Unrecovered

-- a piece

no_close : (close : Bool) → closed_by close ≡ Some Unrecovered → ⊥
no_close true e = cc
no_close false e = cc

no_message : (message : Message) → closed_by_message message ≡ Some Unrecovered → ⊥
no_message (Close code reason) e = cc
no_message (Text bytes) e = cc
no_message (Binary bytes) e = cc
no_message (Ping bytes) e = cc
no_message (Pong bytes) e = cc

-- no piece brings this end
no_piece : (piece : Piece) → end_by piece ≡ Some Unrecovered → ⊥
no_piece (Opening bytes) e = cc
no_piece (ItemPiece to bytes close) e = no_close close e
no_piece (PagePiece from to bytes) e = cc
no_piece (MessagePiece message) e = no_message message e
no_piece (AnswerPiece to part) e = cc

-- nor does it come of too much that waits
added_by : (s : State) (piece : Piece) (live room : Bool)
    → IsUnrecovered (let fits = record s { pending = s.pending ++ piece ∷ []; position = option_map (λ (at : List ℕ). moved at piece) s.position; ended = end_by piece; misses = 0 } in
    cond live (cond room fits (record s { ended = Some Overflow })) s) → IsUnrecovered s
added_by s piece true true e = absurd (no_piece piece e)
added_by s piece true false e = cc e
added_by s piece false room e = e

-- a run of them
run_before : (pieces : List Piece) (s : State) → IsUnrecovered (run s pieces) → IsUnrecovered s
run_before [] s e = e
run_before (piece ∷ pieces) s e = added_by s piece (is_live s) (has_room s.pending piece) (run_before pieces (added s piece) e)

-- an item

missed_by : (many : Bool) (ended : Option EndCause) → cond many (Some Gap) ended ≡ Some Unrecovered → ended ≡ Some Unrecovered
missed_by true ended e = cc e
missed_by false ended e = e

gapped_by : (s : State) (can : Bool) → IsUnrecovered (cond can (marked s) (missed s)) → IsUnrecovered s
gapped_by s true e = e
gapped_by s false e = missed_by (nat_le 64 (s.misses + 1)) s.ended e

offered_by : (s : State) (pieces : List Piece) (gap : Bool) → IsUnrecovered (cond gap (gapped s) (run s pieces)) → IsUnrecovered s
offered_by s pieces true e = gapped_by s (can_ask s.terms) e
offered_by s pieces false e = run_before pieces s e

settled_by : (window : List Item) (s : State) (went_on : Bool) → IsUnrecovered (settled_if went_on window s) → IsUnrecovered s
settled_by window s true e = e
settled_by window s false e = e

served_by_live : (item : Item) (before later : List Item) (s : State) (live : Bool)
    → IsUnrecovered (cond live (let next = offered item before s in settled_if (grew s next) later next) s) → IsUnrecovered s
served_by_live item before later s true e =
    let next = offered item before s in
    offered_by s (run_for s.terms s.position item before) (shows_gap s.terms s.position item) (settled_by later next (grew s next) e)
served_by_live item before later s false e = e

pub served_before : (item : Item) (before later : List Item) (s : State) → IsUnrecovered (served item before later s) → IsUnrecovered s
served_before item before later s e = served_by_live item before later s (is_live s) e

-- an Attach

pub begun_not : (spec : HoldSpec) (window : List Item) → IsUnrecovered (begun_state spec window) → ⊥
begun_not spec window e =
    let s = opened spec in
    let none = run_before (option_map_or (λ (at : List ℕ). followers s.terms.kind (only_channel s.terms.channels) at window) s.position []) s e in
    cc none

-- a Take

timed_by : (s : State) (live due wants : Bool)
    → IsUnrecovered (cond live (cond due (record s { ended = Some TimedOut }) (cond wants (record s { ended = Some Retry }) s)) s) → IsUnrecovered s
timed_by s true true wants e = cc e
timed_by s true false true e = cc e
timed_by s true false false e = e
timed_by s false due wants e = e

timed_before : (now : ℕ) (deadline : Option ℕ) (s : State) → IsUnrecovered (timed now deadline s) → IsUnrecovered s
timed_before now None s e = e
timed_before now (Some deadline) s e = timed_by s (is_live s) (nat_le deadline now) s.want e

pub taken_before : (now : ℕ) (s : State) → IsUnrecovered (after_take now s) → IsUnrecovered s
taken_before now s e = timed_before now s.terms.deadline s e

-- a Detach

pub let_go_before : (ended : Option EndCause) → Some (end_or_detached ended) ≡ Some Unrecovered → ended ≡ Some Unrecovered
let_go_before (Some cause) e = e
let_go_before None e = cc e

-- a page

closed_by_last : (s : State) (closes : Bool) → IsUnrecovered (cond closes (record s { ended = Some Closed }) s) → IsUnrecovered s
closed_by_last s true e = cc e
closed_by_last s false e = e

with_page_before : (window : List Item) (page : RecoveryPage) (s : State) → IsUnrecovered (with_page window page s) → IsUnrecovered s
with_page_before window page s e =
    let pieces = page_run s.terms page window in
    run_before pieces s (closed_by_last (run s pieces) (is_end page.follows && is_live (run s pieces)) e)

paged_by : (window : List Item) (page : RecoveryPage) (s : State) (accepted begins : Bool)
    → IsUnrecovered (cond accepted (cond begins (with_page window page s) (with_stale window s)) s) → IsUnrecovered s
paged_by window page s true true e = with_page_before window page s e
paged_by window page s true false e = e
paged_by window page s false begins e = e

pub paged_before : (window : List Item) (page : RecoveryPage) (s : State) → IsUnrecovered (after_page window page s) → IsUnrecovered s
paged_before window page s e = paged_by window page s (is_none (page_refusal s)) (begins_at s.position page.from) e

-- a change of a socket

joined_by : (channels : List (List ℕ)) (s : State) (crowded : Bool) → IsUnrecovered (cond crowded s (on_channels channels s)) → IsUnrecovered s
joined_by channels s true e = e
joined_by channels s false e = e

with_change_before : (change : SocketChange) (s : State) → IsUnrecovered (with_change change s) → IsUnrecovered s
with_change_before (push message) s e = run_before (MessagePiece message ∷ []) s e
with_change_before (join channel) s e = joined_by (joined channel s.terms.channels) s (is_crowded channel s.terms.channels) e
with_change_before (leave channel) s e = e

changed_by_change : (change : SocketChange) (s : State) (accepted : Bool) → IsUnrecovered (cond accepted (with_change change s) s) → IsUnrecovered s
changed_by_change change s true e = with_change_before change s e
changed_by_change change s false e = e

pub changed_before : (change : SocketChange) (s : State) → IsUnrecovered (after_change change s) → IsUnrecovered s
changed_before change s e = changed_by_change change s (is_none (change_refusal s)) e
