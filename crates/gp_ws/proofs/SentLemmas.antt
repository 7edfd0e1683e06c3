-- A frame in which a client sends a message is read as that message.
use Rattle.std.proofs.Common.{◌≡◌, ℕ, suc, ◌≤◌, Bool, true, false, List, ◌++◌, length, drop, Option, Some, None, Ok, refl, sym, ap, ◌∙◌, arith}
use Rattle.std.specs.Prelude.{if◌then◌else◌}
use Rattle.std.proofs.Math.Seq.{drop-append_seam}
use Rattle.websocket.specs.declared.protocol.incomplete.MessageType.{MessageType}
use Rattle.websocket.specs.declared.protocol.frame.codec.FrameStatus.TheVariants.{Complete}
use Rattle.websocket.specs.Content.{Content, text, binary, ping, pong, close, content_payload, IsWithinLimit}
use Rattle.websocket.specs.FrameHeader.{encode_header, IsMask}
use Rattle.websocket.specs.Connection.{Connection, Effect, read_step}
use Rattle.websocket.proofs.RoundTripLemmas.{read_step_written, HasSendableCode}
use Rattle.gp_ws.specs.Unread.{Unread}
use Rattle.gp_ws.specs.Ends.{data_end, control_end}
use Rattle.gp_ws.specs.declared.frame.Framed.TheVariants as Frame
use Rattle.gp_ws.specs.declared.input.WsNext.TheVariants as Next
use Rattle.gp_ws.specs.declared.input.WsReading.TheVariants.{Open}
use Rattle.gp_ws.specs.Frames.{Outcome, Found, answer_of, end_by, first_message, found_by, found_in, framed, framed_by, is_control, left_by, message_of, next_of, read_of, reading_by}
use Rattle.gp_ws.specs.Sent.{client_frame, HasCode, MayBeSent, MayStand}
use Rattle.gp_ws.proofs.KeepLemmas.{message_ends}
use Rattle.gp_ws.proofs.CutLemmas.{enough_frames, left_with}

-- whether the message has a control frame
abbrev is_control_message : Content → Bool
is_control_message (text bytes) = false
is_control_message (binary bytes) = false
is_control_message (ping bytes) = true
is_control_message (pong bytes) = true
is_control_message (close frame) = true

control_is : (content : Content) (key rest : List ℕ) → is_control (client_frame content key ++ rest) ≡ is_control_message content
unfolding encode_header
control_is (text bytes) key rest = refl
control_is (binary bytes) key rest = refl
control_is (ping bytes) key rest = refl
control_is (pong bytes) key rest = refl
control_is (close frame) key rest = refl

abbrev end_of : Content → Option (MessageType × List ℕ) → Connection
end_of content fragments = if is_control_message content then control_end else data_end fragments

code_is : (content : Content) → HasCode content → HasSendableCode content
code_is (text bytes) code = tt
code_is (binary bytes) code = tt
code_is (ping bytes) code = tt
code_is (pong bytes) code = tt
code_is (close None) code = tt
code_is (close (Some p)) code = code

close_short : (frame : Content) → IsWithinLimit (Some 1048576) frame → is_control_message frame ≡ true → length (content_payload frame) ≤ 125
close_short (text bytes) within control = absurd (cc control)
close_short (binary bytes) within control = absurd (cc control)
close_short (ping bytes) within control = within
close_short (pong bytes) within control = within
close_short (close None) within control = omega arith
close_short (close (Some p)) within control = omega (arith, within)

-- the message is what the read gives
record IsRead (content : Content) (key rest : List ℕ) (fragments : Option (MessageType × List ℕ)) : Type 0 where
  effect : Effect
  read : read_step (end_of content fragments) (client_frame content key ++ rest) ≡ Ok (Complete (length (client_frame content key), effect))
  message : effect.message ≡ Some content

is_read : (content : Content) (key rest : List ℕ) (fragments : Option (MessageType × List ℕ)) → MayBeSent content → IsMask (Some key) → MayStand content fragments → IsRead content key rest fragments
is_read (text bytes) key rest fragments sent mask stands =
    let conn = data_end fragments in
    let found = read_step_written conn (text bytes) (Some key) rest refl stands refl mask sent.valid_text tt sent.within sent.within (omega (arith, sent.within)) in
    record { effect = found.0; read = found.1; message = found.2 }
is_read (binary bytes) key rest fragments sent mask stands =
    let conn = data_end fragments in
    let found = read_step_written conn (binary bytes) (Some key) rest refl stands refl mask tt tt sent.within sent.within (omega (arith, sent.within)) in
    record { effect = found.0; read = found.1; message = found.2 }
is_read (ping bytes) key rest fragments sent mask stands =
    let found = read_step_written control_end (ping bytes) (Some key) rest refl refl refl mask tt tt sent.within sent.within (omega (arith, sent.within)) in
    record { effect = found.0; read = found.1; message = found.2 }
is_read (pong bytes) key rest fragments sent mask stands =
    let found = read_step_written control_end (pong bytes) (Some key) rest refl refl refl mask tt tt sent.within sent.within (omega (arith, sent.within)) in
    record { effect = found.0; read = found.1; message = found.2 }
is_read (close frame) key rest fragments sent mask stands =
    let short = close_short (close frame) sent.within refl in
    let found = read_step_written control_end (close frame) (Some key) rest refl refl refl mask sent.valid_text (code_is (close frame) sent.code) sent.within short (omega (arith, short)) in
    record { effect = found.0; read = found.1; message = found.2 }

open_none : (content : Content) (fragments : Option (MessageType × List ℕ)) → is_control_message content ≡ false → MayStand content fragments → fragments ≡ None
open_none (text bytes) fragments is stands = stands
open_none (binary bytes) fragments is stands = stands
open_none (ping bytes) fragments is stands = absurd (cc is)
open_none (pong bytes) fragments is stands = absurd (cc is)
open_none (close frame) fragments is stands = absurd (cc is)

-- the fragments behind the frame
fragments_after : (content : Content) (key rest : List ℕ) (fragments : Option (MessageType × List ℕ)) (control : Bool) (effect : Effect) → is_control_message content ≡ control
    → is_control (client_frame content key ++ rest) ≡ control → MayStand content fragments → effect.message ≡ Some content
    → read_step (end_of content fragments) (client_frame content key ++ rest) ≡ Ok (Complete (length (client_frame content key), effect))
    → (if control then fragments else effect.next.fragments) ≡ fragments
fragments_after content key rest fragments true effect is first stands message read = refl
fragments_after content key rest fragments false effect is first stands message read =
    message_ends fragments (client_frame content key ++ rest) (length (client_frame content key), effect) content first (rw is at read) message ∙ sym (open_none content fragments is stands)

-- the frame is the next one
frame_found : (content : Content) (key rest : List ℕ) (fragments : Option (MessageType × List ℕ)) (control : Bool) → is_control_message content ≡ control
    → is_control (client_frame content key ++ rest) ≡ control → MayStand content fragments → (found : IsRead content key rest fragments)
    → let now : Unread = record { fragments = fragments; waiting = client_frame content key ++ rest } in
    found_in now ≡ record { next = Next.Message (message_of content); left = record { fragments = fragments; waiting = rest } }
unfolding first_message
frame_found content key rest fragments control is first stands found =
    let frame = client_frame content key in
    let bytes = frame ++ rest in
    let n = length frame in
    let now : Unread = record { fragments = fragments; waiting = bytes } in
    let read : read_of now ≡ Ok (Complete (n, found.effect)) =
    ap (λ (c : Bool). read_step (if c then control_end else data_end fragments) bytes) (first ∙ sym is) ∙ found.read in
    let whole : framed (read_of now) ≡ Frame.Whole n (message_of content) = ap framed read ∙ ap (framed_by n) found.message in
    let left : left_by now n ≡ record { fragments = fragments; waiting = rest } =
    ap (λ (c : Bool). left_with fragments c (read_of now) (drop n bytes)) first ∙ ap (λ (o : Outcome). left_with fragments control o (drop n bytes)) read
    ∙ ap (left_with fragments control (Ok (Complete (n, found.effect)))) (drop-append_seam frame rest)
    ∙ ap {B = Unread} (λ (f : Option (MessageType × List ℕ)). record { fragments = f; waiting = rest }) (fragments_after content key rest fragments control found.effect is first stands found.message found.read) in
    enough_frames (length bytes) (suc (length bytes)) now (omega arith) (omega arith) ∙ ap (found_by (first_message (length bytes)) now) whole
    ∙ ap {B = Found} (λ (u : Unread). record { next = Next.Message (message_of content); left = u }) left

pub sent_is_read : (content : Content) (key rest : List ℕ) (fragments : Option (MessageType × List ℕ)) → MayBeSent content → IsMask (Some key) → MayStand content fragments
    → next_of (Open (record { fragments = fragments; waiting = client_frame content key ++ rest }))
    ≡ record { next = Next.Message (message_of content); after = reading_by (end_by (Next.Message (message_of content))) (record { fragments = fragments; waiting = rest }) }
sent_is_read content key rest fragments sent mask stands =
    ap answer_of (frame_found content key rest fragments (is_control_message content) refl (control_is content key rest) stands (is_read content key rest fragments sent mask stands))
