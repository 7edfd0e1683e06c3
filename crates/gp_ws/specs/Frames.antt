-- Which messages the frames of a client carry (RFC 6455, section 5).
use Rattle.std.specs.Prelude.{ℕ, zero, suc, ◌≡◌, ◌⊎◌, ◌%◌, ◌<◌, ◌≤◌, Bool, true, false, nat_le, List, [], ◌∷◌, length, drop, Option, Some, None, Result, Ok, Err, if◌then◌else◌, ⊤}
use Rattle.websocket.specs.declared.error.Error.{Error}
use Rattle.websocket.specs.declared.protocol.frame.codec.FrameStatus.{FrameStatus}
use Rattle.websocket.specs.declared.protocol.frame.codec.FrameStatus.TheVariants.{Partial, Complete}
use Rattle.websocket.specs.CloseCode.{close_code_number}
use Rattle.websocket.specs.Content.{Content, text, binary, ping, pong, close}
use Rattle.websocket.specs.Connection.{Connection, Effect, read_step}
use Rattle.gp_plain.specs.declared.item.Message.{Message}
use Rattle.gp_plain.specs.declared.item.Message.TheVariants as Msg
use Rattle.gp_plain.specs.Fit.{fits_message}
use Rattle.gp_ws.specs.Unread.{Unread}
use Rattle.gp_ws.specs.Ends.{data_end, control_end}
use Rattle.gp_ws.specs.declared.frame.Framed.{Framed}
use Rattle.gp_ws.specs.declared.frame.Framed.TheVariants as Frame
use Rattle.gp_ws.specs.declared.input.WsNext.{WsNext}
use Rattle.gp_ws.specs.declared.input.WsNext.TheVariants as Next
use Rattle.gp_ws.specs.declared.input.WsReading.{WsReading}
use Rattle.gp_ws.specs.declared.input.WsReading.TheVariants.{Open, Ended, Bad, NoMemory}

-- ---- one frame

-- the opcode is 8 or more (section 5.2)
abbrev pub is_control : List ℕ → Bool
is_control [] = false
is_control (first ∷ rest) = nat_le 8 (first % 16)

abbrev pub unread_of : Connection → List ℕ → Unread
unread_of end bytes = record { fragments = end.fragments; waiting = bytes }

abbrev pub end_for : Unread → Connection
end_for unread = if is_control unread.waiting then control_end else data_end unread.fragments

-- the outcome of one read: the bytes that a frame took, with what it does, or how many bytes to wait for, or a fault
abbrev pub Outcome : Type 0
Outcome = Result (FrameStatus (ℕ × Effect)) Error

-- a read of the frame at the front of the bytes that wait
abbrev pub read_of : Unread → Outcome
read_of unread = read_step (end_for unread) unread.waiting

-- a close without a code has no reason
abbrev pub message_of : Content → Message
message_of (text bytes) = Msg.Text bytes
message_of (binary bytes) = Msg.Binary bytes
message_of (ping bytes) = Msg.Ping bytes
message_of (pong bytes) = Msg.Pong bytes
message_of (close None) = Msg.Close None []
message_of (close (Some p)) = Msg.Close (Some (close_code_number p.0)) p.1

abbrev pub framed_by : ℕ → Option Content → Framed
framed_by count None = Frame.Part count
framed_by count (Some content) = Frame.Whole count (message_of content)

-- what a read says of the frame
abbrev pub framed : Outcome → Framed
framed (Err fault) = Frame.Bad
framed (Ok (Partial needed)) = Frame.NotWhole
framed (Ok (Complete p)) = framed_by p.0 p.1.message

-- how many bytes the frame took
abbrev pub count_of : Framed → ℕ
count_of (Frame.Part count) = count
count_of (Frame.Whole count message) = count
count_of Frame.NotWhole = 0
count_of Frame.Bad = 0
count_of Frame.NoMemory = 0

-- nothing is read behind the frame
abbrev pub is_refused : Framed → Bool
is_refused (Frame.Part count) = false
is_refused (Frame.Whole count message) = false
is_refused Frame.NotWhole = false
is_refused Frame.Bad = true
is_refused Frame.NoMemory = true

-- the connection behind a read that took a frame
abbrev pub end_after : Connection → Outcome → Connection
end_after conn (Err fault) = conn
end_after conn (Ok (Partial needed)) = conn
end_after conn (Ok (Complete p)) = p.1.next

-- a read took so many bytes from the front, and left the connection and the bytes behind them
pub record IsTaken (before : Connection) (old : List ℕ) (count : ℕ) (after : Connection) (new : List ℕ) : Type 0 where
  pub end : after ≡ end_after before (read_step before old)
  pub rest : drop count new ≡ drop count old
  pub some : 0 < count
  pub within : count ≤ length old

-- the connection and the bytes behind a read. Of a frame that is refused nothing is read any more
abbrev pub IsLeft : Connection → List ℕ → Framed → Connection → List ℕ → Type 0
IsLeft before old (Frame.Part count) after new = IsTaken before old count after new
IsLeft before old (Frame.Whole count message) after new = IsTaken before old count after new
IsLeft before old Frame.NotWhole after new = (after ≡ before) × (new ≡ old)
IsLeft before old Frame.Bad after new = ⊤
IsLeft before old Frame.NoMemory after new = ⊤

-- what is left behind a frame of so many bytes. A control frame leaves the fragments as they are
abbrev pub left_by : Unread → ℕ → Unread
left_by unread count = record {
  fragments = if is_control unread.waiting then unread.fragments else (end_after (data_end unread.fragments) (read_of unread)).fragments;
  waiting = drop count unread.waiting;
}

-- what is left behind a frame, and that it took some of the bytes
pub record IsUsedBy (before : Unread) (count : ℕ) (after : Unread) : Type 0 where
  pub left : after ≡ left_by before count
  pub some : 0 < count
  pub within : count ≤ length before.waiting

abbrev pub IsUsed : Unread → Framed → Unread → Type 0
IsUsed before (Frame.Part count) after = IsUsedBy before count after
IsUsed before (Frame.Whole count message) after = IsUsedBy before count after
IsUsed before Frame.NotWhole after = after ≡ before
IsUsed before Frame.Bad after = ⊤
IsUsed before Frame.NoMemory after = ⊤

-- ---- the next message

-- what was found, and what is left behind it
pub record Found : Type 0 where
  pub next : WsNext
  pub left : Unread

abbrev pub found_by : (Unread → Found) → Unread → Framed → Found
found_by more unread (Frame.Part count) = more (left_by unread count)
found_by more unread (Frame.Whole count message) = record { next = Next.Message message; left = left_by unread count }
found_by more unread Frame.NotWhole = record { next = Next.NotWhole; left = unread }
found_by more unread Frame.Bad = record { next = Next.Bad; left = unread }
found_by more unread Frame.NoMemory = record { next = Next.NoMemory; left = unread }

-- the message of the first frame that ends one, among at most so many frames
unfoldable pub first_message : ℕ → Unread → Found
first_message zero unread = record { next = Next.NotWhole; left = unread }
first_message (suc most) unread = found_by (first_message most) unread (framed (read_of unread))

-- a frame has a byte, so there are at most as many frames as bytes
abbrev pub found_in : Unread → Found
found_in unread = first_message (length unread.waiting) unread

abbrev pub is_close : Message → Bool
is_close (Msg.Text bytes) = false
is_close (Msg.Binary bytes) = false
is_close (Msg.Ping bytes) = false
is_close (Msg.Pong bytes) = false
is_close (Msg.Close code reason) = true

-- nothing is read behind a close, behind bytes that are refused, and once memory was wanting
abbrev pub end_by : WsNext → Option WsReading
end_by (Next.Message message) = if is_close message then Some Ended else None
end_by Next.NotWhole = None
end_by Next.Ended = Some Ended
end_by Next.Bad = Some Bad
end_by Next.NoMemory = Some NoMemory

abbrev pub reading_by : Option WsReading → Unread → WsReading
reading_by None left = Open left
reading_by (Some end) left = end

-- an answer, and how far the bytes were read then
pub record Answer : Type 0 where
  pub next : WsNext
  pub after : WsReading

abbrev pub answer_of : Found → Answer
answer_of found = record { next = found.next; after = reading_by (end_by found.next) found.left }

-- what is answered next
abbrev pub next_of : WsReading → Answer
next_of (Open unread) = answer_of (found_in unread)
next_of Ended = record { next = Next.Ended; after = Ended }
next_of Bad = record { next = Next.Bad; after = Bad }
next_of NoMemory = record { next = Next.NoMemory; after = NoMemory }

-- more messages may come
abbrev pub IsOpen : WsReading → Type 0
IsOpen (Open unread) = ⊤
IsOpen Ended = ⊥
IsOpen Bad = ⊥
IsOpen NoMemory = ⊥

-- memory was wanting while the connection was open
pub record IsStarved (before : WsReading) (next : WsNext) (after : WsReading) : Type 0 where
  pub open_before : IsOpen before
  pub next_is : next ≡ Next.NoMemory
  pub after_is : after ≡ NoMemory

-- the answer is the next one, and how far the bytes were read is told, or memory was wanting
abbrev pub IsNext : WsReading → WsNext → WsReading → Type 0
IsNext before next after = (next_of before ≡ record { next = next; after = after }) ⊎ IsStarved before next after

-- ---- for the calls below

abbrev pub Keeps : Option WsReading → Unread → Unread → Type 0
Keeps None left after = after ≡ left
Keeps (Some end) left after = ⊤

-- this was found, and what is left is kept where more is read. Or memory was wanting
abbrev pub IsFound : Found → WsNext → Unread → Type 0
IsFound found next after = ((next ≡ found.next) × Keeps (end_by next) found.left after) ⊎ (next ≡ Next.NoMemory)

abbrev pub FitsFrame : Framed → Type 0
FitsFrame (Frame.Part count) = ⊤
FitsFrame (Frame.Whole count message) = fits_message message ≡ true
FitsFrame Frame.NotWhole = ⊤
FitsFrame Frame.Bad = ⊤
FitsFrame Frame.NoMemory = ⊤

-- a push takes the message
abbrev pub MayBePushed : WsNext → Type 0
MayBePushed (Next.Message message) = fits_message message ≡ true
MayBePushed Next.NotWhole = ⊤
MayBePushed Next.Ended = ⊤
MayBePushed Next.Bad = ⊤
MayBePushed Next.NoMemory = ⊤
