-- A hold, and what happens to it.
use Rattle.std.specs.Prelude.{ℕ, ◌+◌, Bool, true, false, cond, nat_le, nat_lt, not, ◌&&◌, ◌||◌, List, [], ◌∷◌, ◌++◌, length, map, filter, fold, Option, Some, None, is_some, is_none, option_map}
use Rattle.std.specs.List.{list_any}
use Rattle.std.specs.Option.{option_map_or, option_to_list}
use Rattle.gp_plain.specs.Names.{same_id}
use Rattle.gp_plain.specs.Items.{is_chained, is_id, comes_after, content_of, closes}
use Rattle.gp_plain.specs.Follow.{is_heard, follow}
use Rattle.gp_plain.specs.Tails.{ahead}
use Rattle.gp_plain.specs.Pieces.{id_or, moved, position_after, end_by, has_room, batch, left}
use Rattle.gp_plain.specs.declared.item.Item.{Item}
use Rattle.gp_plain.specs.declared.item.Message.{Message}
use Rattle.gp_plain.specs.declared.item.Message.TheVariants.{Text, Binary, Close}
use Rattle.gp_plain.specs.declared.item.MessagePart.{MessagePart}
use Rattle.gp_plain.specs.declared.item.MessagePart.TheVariants.{Text as TextPart, Binary as BinaryPart, Close as ClosePart}
use Rattle.gp_plain.specs.declared.item.ResponsePart.{ResponsePart}
use Rattle.gp_plain.specs.declared.item.StreamPart.{StreamPart}
use Rattle.gp_plain.specs.declared.event.HoldKind.{HoldKind}
use Rattle.gp_plain.specs.declared.event.HoldKind.TheVariants.{Stream as StreamKind, Plain as PlainKind, Response as ResponseKind, Socket as SocketKind}
use Rattle.gp_plain.specs.declared.event.HoldSpec.{HoldSpec}
use Rattle.gp_plain.specs.declared.event.HoldSpec.TheVariants.{Stream, Plain, Response, Socket}
use Rattle.gp_plain.specs.declared.event.Then.{Then}
use Rattle.gp_plain.specs.declared.event.Then.TheVariants.{Hold as HoldOn, Next, End}
use Rattle.gp_plain.specs.declared.reply.Piece.{Piece}
use Rattle.gp_plain.specs.declared.reply.Piece.TheVariants.{Opening, Item as ItemPiece, Page as PagePiece, Message as MessagePiece, Answer as AnswerPiece}
use Rattle.gp_plain.specs.declared.reply.EndCause.{EndCause}
use Rattle.gp_plain.specs.declared.reply.EndCause.TheVariants.{Closed, Detached, Gap, Unrecovered, Overflow, Retry, TimedOut}
use Rattle.gp_plain.specs.declared.reply.Taken.{Taken}
use Rattle.gp_plain.specs.declared.reply.Reply.{Reply}
use Rattle.gp_plain.specs.declared.reply.Reply.TheVariants.{Full, Paged, Stale, Done, Gone, OtherKind}

-- what a hold listens to: its kind, its channels, which only a socket changes, whether missing items can be asked of the origin, and the deadline
-- of a response hold
pub record Terms : Type 0 where
  pub kind : HoldKind
  pub channels : List (List ℕ)
  pub link : Bool
  pub deadline : Option ℕ

abbrev pub terms_of : HoldSpec → Terms
terms_of (Stream opening channel prev link) = record { kind = StreamKind; channels = channel ∷ []; link = link; deadline = None }
terms_of (Plain opening channels) = record { kind = PlainKind; channels = channels; link = false; deadline = None }
terms_of (Response channels prev deadline again) = record { kind = ResponseKind; channels = channels; link = false; deadline = Some deadline }
terms_of Socket = record { kind = SocketKind; channels = []; link = false; deadline = None }

-- the channel of a hold with a position: it has one
abbrev pub only_channel : List (List ℕ) → List ℕ
only_channel [] = []
only_channel (channel ∷ channels) = channel

-- the opening of a stream is the first piece of its log
abbrev pub openings : HoldSpec → List Piece
openings (Stream opening channel prev link) = Opening opening ∷ []
openings (Plain opening channels) = Opening opening ∷ []
openings (Response channels prev deadline again) = []
openings Socket = []

-- the first position of a reliable stream, and of a response hold with a previous id; else none
abbrev pub start_of : HoldSpec → Option (List ℕ)
start_of (Stream opening channel prev link) = Some prev
start_of (Plain opening channels) = None
start_of (Response channels prev deadline again) = prev
start_of Socket = None

-- the position behind pieces: the id of the last that has one, or the first position
abbrev pub position_of : HoldSpec → List Piece → Option (List ℕ)
position_of spec log = option_map (λ (start : List ℕ). position_after start log) (start_of spec)

-- the state of a hold: what waits, where it stands, its end, the marks of a gap, and the items in a row that it missed
pub record State : Type 0 where
  pub terms : Terms
  pub pending : List Piece
  pub position : Option (List ℕ)
  pub ended : Option EndCause
  pub want : Bool
  pub asked : Bool
  pub late : Bool
  pub misses : ℕ

-- a page of a recovery: from one id to another, the contents between them, and what follows it
pub record RecoveryPage : Type 0 where
  pub from : List ℕ
  pub to : List ℕ
  pub bytes : List ℕ
  pub follows : Then

-- a hold that was ever attached: what was taken and what waits are together its log. The positions are kept that Takes
-- answered as those to recover from, the pages that were accepted, and the end that a Take told
pub record Held : Type 0 where
  pub owner : ℕ
  pub spec : HoldSpec
  pub taken : List Piece
  pub recovers : List (List ℕ)
  pub pages : List RecoveryPage
  pub told : Option EndCause
  pub released : Bool
  pub state : State

abbrev pub pending : Held → List Piece
pending h = h.state.pending

abbrev pub ended : Held → Option EndCause
ended h = h.state.ended

abbrev pub position : Held → Option (List ℕ)
position h = h.state.position

abbrev pub log : Held → List Piece
log h = h.taken ++ pending h

-- a hold is live until its end
abbrev pub is_live : State → Bool
is_live s = not (is_some s.ended)

-- one piece: it is added where there is room, moves the position, begins the count of misses anew, and may end the
-- hold; else the hold ends Overflow. Nothing is added to a hold that ended
abbrev pub added : State → Piece → State
added s piece =
    cond (is_live s)
    (cond (has_room s.pending piece)
    (record s { pending = s.pending ++ piece ∷ []; position = option_map (λ (at : List ℕ). moved at piece) s.position; ended = end_by piece; misses = 0 })
    (record s { ended = Some Overflow }))
    s

-- a run of pieces is added one by one
abbrev pub run : State → List Piece → State
run s pieces = fold added s pieces

-- a chained item whose previous id is the position
abbrev pub comes_next : Item → Option (List ℕ) → Bool
comes_next item None = false
comes_next item (Some at) = comes_after item at

-- a chained item that doesn't come next, and whose id isn't the position
abbrev pub leaves_gap : Item → Option (List ℕ) → Bool
leaves_gap item None = false
leaves_gap item (Some at) = is_chained item && not (is_id item.prev at) && not (is_id item.id at)

-- what a stream's log has of an item
abbrev pub piece_of : Item → Piece
piece_of item = ItemPiece item.id (content_of item.stream) (closes item.stream)

-- what the log of a response hold has of an item: an answer, or an item without bytes
abbrev pub answer_or : Option (List ℕ) → Option ResponsePart → Piece
answer_or id (Some part) = AnswerPiece id part
answer_or id None = ItemPiece id [] false

abbrev pub answer_of : Item → Piece
answer_of item = answer_or item.id item.response

-- what the log of a hold with a position has of an item, by its kind
abbrev pub piece_by : HoldKind → Item → Piece
piece_by StreamKind item = piece_of item
piece_by PlainKind item = piece_of item
piece_by ResponseKind item = answer_of item
piece_by SocketKind item = piece_of item

-- the item ends the hold: a close ends a stream, and a response part a response hold
abbrev pub ends_by : HoldKind → Item → Bool
ends_by StreamKind item = closes item.stream
ends_by PlainKind item = closes item.stream
ends_by ResponseKind item = is_some item.response
ends_by SocketKind item = false

-- the pieces of the items of a window that follow an id on the channel
abbrev pub followers : HoldKind → List ℕ → List ℕ → List Item → List Piece
followers kind channel id window = map (piece_by kind) (follow channel (ends_by kind) id window)

-- a chained item that comes next, and then those of the window that follow it
abbrev pub chain_run : HoldKind → List ℕ → Option (List ℕ) → Item → List Item → List Piece
chain_run kind channel at item window =
    cond (comes_next item at) (piece_by kind item ∷ cond (ends_by kind item) [] (option_map_or (λ (id : List ℕ). followers kind channel id window) item.id [])) []

-- an item that a hold has a part of is its piece
abbrev pub stream_piece : Option StreamPart → Item → List Piece
stream_piece None item = []
stream_piece (Some part) item = piece_of item ∷ []

abbrev pub answer_piece : Option ResponsePart → Item → List Piece
answer_piece None item = []
answer_piece (Some part) item = answer_of item ∷ []

-- what a socket is sent of an item: a close has the code 1000 and no reason
abbrev pub message_piece : Option MessagePart → List Piece
message_piece None = []
message_piece (Some (TextPart bytes)) = MessagePiece (Text bytes) ∷ []
message_piece (Some (BinaryPart bytes)) = MessagePiece (Binary bytes) ∷ []
message_piece (Some ClosePart) = MessagePiece (Close (Some 1000) []) ∷ []

-- the run that an item on one of its channels brings a hold, by its kind and its position
abbrev pub run_by : HoldKind → List (List ℕ) → Option (List ℕ) → Item → List Item → List Piece
run_by StreamKind channels at item window = chain_run StreamKind (only_channel channels) at item window
run_by PlainKind channels at item window = stream_piece item.stream item
run_by ResponseKind channels None item window = answer_piece item.response item
run_by ResponseKind channels (Some at) item window = chain_run ResponseKind (only_channel channels) (Some at) item window
run_by SocketKind channels at item window = message_piece item.message

abbrev pub run_for : Terms → Option (List ℕ) → Item → List Item → List Piece
run_for terms at item window = cond (is_heard terms.channels item) (run_by terms.kind terms.channels at item window) []

-- the item shows that a hold with a position has missed others
abbrev pub shows_gap : Terms → Option (List ℕ) → Item → Bool
shows_gap terms at item = is_heard terms.channels item && leaves_gap item at

-- a stream with a link asks the origin for what it missed, and a response hold repeats its request
abbrev pub can_ask : Terms → Bool
can_ask terms = terms.link || is_some terms.deadline

-- a hold that can ask wants to; while it has asked already, that it was late is noted
abbrev pub marked : State → State
marked s = record s { want = s.want || not s.asked; late = s.late || s.asked }

-- 64 misses in a row end a hold that can't ask
abbrev pub ended_by_misses : ℕ → Option EndCause → Option EndCause
ended_by_misses misses ended = cond (nat_le 64 misses) (Some Gap) ended

abbrev pub missed : State → State
missed s = record s { misses = s.misses + 1; ended = ended_by_misses (s.misses + 1) s.ended }

-- what an item that leaves a gap does
abbrev pub gapped : State → State
gapped s = cond (can_ask s.terms) (marked s) (missed s)

-- what an item does to a live hold: its run, or that it leaves a gap. The window is that before the item
abbrev pub offered : Item → List Item → State → State
offered item window s = cond (shows_gap s.terms s.position item) (gapped s) (run s (run_for s.terms s.position item window))

-- the log has more pieces than before
abbrev pub grew : State → State → Bool
grew before after = nat_lt (length before.pending) (length after.pending)

-- the items of a window show that there is more than the position
abbrev pub is_ahead : Terms → Option (List ℕ) → List Item → Bool
is_ahead terms None window = false
is_ahead terms (Some at) window = ahead (only_channel terms.channels) at window

-- a hold that went on, and for which nothing is ahead, misses nothing any more
abbrev pub settled : List Item → State → State
settled window s = let more = is_ahead s.terms s.position window in record s { want = s.want && more; late = s.late && more }

abbrev pub settled_if : Bool → List Item → State → State
settled_if went_on window s = cond went_on (settled window s) s

-- what an item does to a hold, by the windows before and after it
abbrev pub served : Item → List Item → List Item → State → State
served item before after s = cond (is_live s) (let next = offered item before s in settled_if (grew s next) after next) s

-- whether a hold that finds more ahead at its Attach wants to ask: a stream with a link does, and a response hold with
-- a previous id, unless its request was repeated
abbrev pub wants_more : HoldSpec → Bool
wants_more (Stream opening channel prev link) = link
wants_more (Plain opening channels) = false
wants_more (Response channels prev deadline again) = is_some prev && not again
wants_more Socket = false

abbrev pub opened : HoldSpec → State
opened spec = record { terms = terms_of spec; pending = openings spec; position = start_of spec; ended = None; want = false; asked = false; late = false; misses = 0 }

-- what follows the first position in the window is added at once
abbrev pub caught_up : List Item → State → State
caught_up window s = run s (option_map_or (λ (at : List ℕ). followers s.terms.kind (only_channel s.terms.channels) at window) s.position [])

-- a hold begins with its opening, and with what follows its first position in the window
abbrev pub begun_state : HoldSpec → List Item → State
begun_state spec window =
    let s = caught_up window (opened spec) in
    record s { want = is_live s && wants_more spec && is_ahead s.terms s.position window }

abbrev pub begun : ℕ → HoldSpec → List Item → Held
begun who spec window = record { owner = who; spec = spec; taken = []; recovers = []; pages = []; told = None; released = false; state = begun_state spec window }

-- a Take at or behind its deadline ends a response hold that has no answer; before it one that missed items is to be
-- repeated
abbrev pub timed : ℕ → Option ℕ → State → State
timed now None s = s
timed now (Some deadline) s = cond (is_live s) (cond (nat_le deadline now) (record s { ended = Some TimedOut }) (cond s.want (record s { ended = Some Retry }) s)) s

-- the end is told by the Take that leaves nothing
abbrev pub ends_now : Option EndCause → List Piece → Option EndCause
ends_now ended [] = ended
ends_now ended (piece ∷ pieces) = None

-- a live stream that wants to recover, and hasn't asked yet, asks from its position on
abbrev pub asks : State → Bool
asks s = is_live s && s.terms.link && s.want && not s.asked

abbrev pub is_retry : Option EndCause → Bool
is_retry (Some Retry) = true
is_retry _ = false

-- a response hold tells the end by which its request is to be repeated
abbrev pub repeats : State → Option EndCause → Bool
repeats s told = is_some s.terms.deadline && is_retry told

abbrev pub recover_from : Bool → Option (List ℕ) → Option (List ℕ)
recover_from true at = at
recover_from false at = None

-- what a Take gives of a hold whose time was told
abbrev pub given : State → Taken
given s =
    let told = ends_now s.ended (left s.pending) in
    record { pieces = batch s.pending; recover = recover_from (asks s || repeats s told) s.position; ended = told }

-- what a Take gives
abbrev pub taken_of : ℕ → State → Taken
taken_of now s = given (timed now s.terms.deadline s)

-- what it leaves
abbrev pub rest_of : State → State
rest_of s = let asks_now = asks s in record s { pending = left s.pending; want = s.want && not asks_now; asked = s.asked || asks_now; late = s.late && not asks_now }

abbrev pub after_take : ℕ → State → State
after_take now s = rest_of (timed now s.terms.deadline s)

abbrev pub taken_from : ℕ → Held → Held
taken_from now h =
    let taken = taken_of now h.state in
    record h { taken = h.taken ++ taken.pieces; recovers = h.recovers ++ option_to_list taken.recover; told = taken.ended; released = h.released || is_some taken.ended; state = after_take now h.state }

abbrev pub end_or_detached : Option EndCause → EndCause
end_or_detached (Some cause) = cause
end_or_detached None = Detached

-- a hold that is let go ends, if it hasn't, and is released with what waits
abbrev pub let_go : Held → Held
let_go h = record h { released = true; state = record h.state { ended = Some (end_or_detached h.state.ended) } }

-- an event on a hold that ended is refused, and so is one that its kind doesn't have
abbrev pub other_kind : Bool → HoldKind → Option Reply
other_kind true kind = None
other_kind false kind = Some (OtherKind kind)

abbrev pub refusal : Option EndCause → Bool → HoldKind → Option Reply
refusal (Some cause) has kind = Some (Gone cause)
refusal None has kind = other_kind has kind

abbrev pub reply_or : Option Reply → Reply → Reply
reply_or (Some refused) reply = refused
reply_or None reply = reply

abbrev pub is_stream : HoldKind → Bool
is_stream StreamKind = true
is_stream PlainKind = false
is_stream ResponseKind = false
is_stream SocketKind = false

-- pages are for live reliable streams
abbrev pub page_refusal : State → Option Reply
page_refusal s = refusal s.ended (is_stream s.terms.kind) s.terms.kind

-- the page begins at the position
abbrev pub begins_at : Option (List ℕ) → List ℕ → Bool
begins_at None from = false
begins_at (Some at) from = same_id from at

abbrev pub takes_page : State → List ℕ → Bool
takes_page s from = is_none (page_refusal s) && begins_at s.position from

abbrev pub is_end : Then → Bool
is_end HoldOn = false
is_end Next = false
is_end End = true

abbrev pub is_next : Then → Bool
is_next HoldOn = false
is_next Next = true
is_next End = false

-- the pieces that a page brings: itself, and then, unless the stream ends with it, those of the window that follow it
abbrev pub page_run : Terms → RecoveryPage → List Item → List Piece
page_run terms page window =
    PagePiece page.from page.to page.bytes ∷ cond (is_end page.follows) [] (followers terms.kind (only_channel terms.channels) page.to window)

-- the last page closes a hold that lives behind it
abbrev pub closed_behind : Bool → State → State
closed_behind last s = cond (last && is_live s) (record s { ended = Some Closed }) s

-- the marks behind a page: nothing is asked any more, and nothing was late. A hold with a link wants to ask where there is
-- a next page, and where it may have missed more and the window shows that more is ahead
abbrev pub marked_anew : Bool → Bool → List Item → State → State
marked_anew next missed_more window s =
    record s { want = s.terms.link && (next || (missed_more && is_ahead s.terms s.position window)); asked = false; late = false }

-- a page that begins at the position
abbrev pub with_page : List Item → RecoveryPage → State → State
with_page window page s =
    marked_anew (is_next page.follows) s.late window (closed_behind (is_end page.follows) (run s (page_run s.terms page window)))

-- a page that begins elsewhere adds nothing
abbrev pub with_stale : List Item → State → State
with_stale window s = marked_anew false true window s

-- what a page does
abbrev pub after_page : List Item → RecoveryPage → State → State
after_page window page s =
    cond (is_none (page_refusal s)) (cond (begins_at s.position page.from) (with_page window page s) (with_stale window s)) s

abbrev pub paged_from : List Item → RecoveryPage → Held → Held
paged_from window page h =
    record h { pages = cond (takes_page h.state page.from) (h.pages ++ page ∷ []) h.pages; state = after_page window page h.state }

abbrev pub page_reply : List ℕ → State → Reply
page_reply from s = reply_or (page_refusal s) (cond (begins_at s.position from) Paged (Stale from (id_or s.position [])))

-- a page that can't be had ends the hold
abbrev pub after_failure : State → State
after_failure s = cond (is_none (page_refusal s)) (record s { ended = Some Unrecovered }) s

abbrev pub failed : Held → Held
failed h = record h { state = after_failure h.state }

abbrev pub failure_reply : State → Reply
failure_reply s = reply_or (page_refusal s) Done

-- what its owner does to a socket: it sends it a message, or it joins or leaves a channel
pub data SocketChange : Type 0 where
  push : Message → SocketChange
  join : List ℕ → SocketChange
  leave : List ℕ → SocketChange

abbrev pub is_socket : HoldKind → Bool
is_socket StreamKind = false
is_socket PlainKind = false
is_socket ResponseKind = false
is_socket SocketKind = true

abbrev pub change_refusal : State → Option Reply
change_refusal s = refusal s.ended (is_socket s.terms.kind) s.terms.kind

-- the channels but one
abbrev pub without : List ℕ → List (List ℕ) → List (List ℕ)
without channel channels = filter (λ (other : List ℕ). not (same_id other channel)) channels

-- 8 channels other than it are joined
abbrev pub is_crowded : List ℕ → List (List ℕ) → Bool
is_crowded channel channels = nat_le 8 (length (without channel channels))

-- the channels with one more, where it isn't among them
abbrev pub joined : List ℕ → List (List ℕ) → List (List ℕ)
joined channel channels = cond (list_any (λ (other : List ℕ). same_id other channel) channels) channels (channels ++ channel ∷ [])

abbrev pub on_channels : List (List ℕ) → State → State
on_channels channels s = record s { terms = record s.terms { channels = channels } }

abbrev pub with_change : SocketChange → State → State
with_change (push message) s = added s (MessagePiece message)
with_change (join channel) s = cond (is_crowded channel s.terms.channels) s (on_channels (joined channel s.terms.channels) s)
with_change (leave channel) s = on_channels (without channel s.terms.channels) s

-- what a change does to a hold
abbrev pub after_change : SocketChange → State → State
after_change change s = cond (is_none (change_refusal s)) (with_change change s) s

abbrev pub changed_by : SocketChange → Held → Held
changed_by change h = record h { state = after_change change h.state }

-- a Join is refused where there is no room for its channel
abbrev pub done_or_full : SocketChange → List (List ℕ) → Reply
done_or_full (push message) channels = Done
done_or_full (join channel) channels = cond (is_crowded channel channels) (Full 8) Done
done_or_full (leave channel) channels = Done

abbrev pub change_reply : SocketChange → State → Reply
change_reply change s = reply_or (change_refusal s) (done_or_full change s.terms.channels)
