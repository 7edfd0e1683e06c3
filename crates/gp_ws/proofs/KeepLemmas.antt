-- A frame that is no control frame changes nothing of a connection but its fragments.
use Rattle.std.proofs.Common.{◌≡◌, ℕ, ◌%◌, Bool, true, false, cond, eqb, List, [], ◌∷◌, ◌++◌, length, Option, Some, None, Result, Ok, Err, refl, sym, ap, ◌∙◌, arith}
use Rattle.std.specs.Prelude.{nat_lt, nat_le}
use Rattle.std.proofs.lemmas.Bool.{ne_eqb}
use Rattle.std.proofs.lemmas.Bool.Decides.{nat_tests}
use Rattle.websocket.specs.declared.error.Error.{Error}
use Rattle.websocket.specs.declared.error.ProtocolError.{ProtocolError}
use Rattle.websocket.specs.declared.protocol.incomplete.MessageType.{MessageType}
use Rattle.websocket.specs.declared.protocol.incomplete.MessageType.TheVariants as Kind
use Rattle.websocket.specs.declared.protocol.frame.coding.OpCode.{OpCode}
use Rattle.websocket.specs.declared.protocol.frame.coding.OpCode.TheVariants as Op
use Rattle.websocket.specs.declared.protocol.frame.coding.Data.{Data}
use Rattle.websocket.specs.declared.protocol.frame.coding.Data.TheVariants.{Continue, Text, Binary}
use Rattle.websocket.specs.declared.protocol.frame.coding.Control.TheVariants.{Close, Ping, Pong}
use Rattle.websocket.specs.declared.protocol.frame.header.FrameHeader.{FrameHeader}
use Rattle.websocket.specs.declared.protocol.frame.codec.RawFrame.{RawFrame}
use Rattle.websocket.specs.declared.protocol.frame.codec.FrameStatus.{FrameStatus}
use Rattle.websocket.specs.declared.protocol.frame.codec.FrameStatus.TheVariants.{Partial, Complete}
use Rattle.websocket.specs.OpCode.{opcode_bits, parse_opcode}
use Rattle.websocket.specs.FrameHeader.{Decoded, decode_header, decode_after_opcode, decode_mask, header_from}
use Rattle.websocket.specs.Frame.{check_size, decode_frame, frame_after_header}
use Rattle.websocket.specs.Content.{Content}
use Rattle.websocket.specs.Connection.{Connection, Effect, complete_message, check_so_far, deliver, on_message_bytes, on_data_after, on_data, on_opcode, check_header, on_frame, consumed_with, read_decoded, read_step}
use Rattle.websocket.proofs.StreamLemmas.{after_check_passed}
use Rattle.gp_ws.specs.Ends.{data_end}
use Rattle.gp_ws.specs.declared.frame.Framed.{Framed}
use Rattle.gp_ws.specs.declared.frame.Framed.TheVariants as Frame
use Rattle.gp_ws.specs.Frames.{Outcome, is_control, is_refused, end_after, IsTaken, IsLeft}

-- all but the fragments is kept, and behind a message there are none
record KeepsEnd (conn : Connection) (effect : Effect) : Type 0 where
  kept : effect.next ≡ record conn { fragments = effect.next.fragments }
  ended : (content : Content) → effect.message ≡ Some content → effect.next.fragments ≡ None

ok_is : {A : Type 0} {a b : A} → ◌≡◌ {A = Result A Error} (Ok a) (Ok b) → b ≡ a
ok_is e = cc e

deliver_keeps : (conn : Connection) (content : Result Content Error) (effect : Effect) → deliver conn content ≡ Ok effect → KeepsEnd conn effect
deliver_keeps conn (Err e) effect is = absurd (cc is)
deliver_keeps conn (Ok content) effect is = rw (ok_is is) (record { kept = refl; ended = λ _ _. refl })

bytes_keep : (conn : Connection) (kind : MessageType) (is_final : Bool) (bs : List ℕ) (effect : Effect) → on_message_bytes conn kind is_final bs ≡ Ok effect → KeepsEnd conn effect
unfolding on_message_bytes
bytes_keep conn kind true bs effect is =
    deliver_keeps conn (complete_message kind bs) effect (after_check_passed (check_size (length bs) conn.config.max_message_size) _ effect is)
bytes_keep conn kind false bs effect is =
    rw (ok_is (after_check_passed (check_so_far kind bs) _ effect (after_check_passed (check_size (length bs) conn.config.max_message_size) _ effect is))) (record { kept = refl; ended = λ content none. absurd (cc none) })

data_keeps : (conn : Connection) (fragments : Option (MessageType × List ℕ)) (kind : Data) (is_final : Bool) (payload : List ℕ) (effect : Effect)
    → on_data_after conn fragments kind is_final payload ≡ Ok effect → KeepsEnd conn effect
data_keeps conn None Continue is_final payload effect is = absurd (cc is)
data_keeps conn None Text is_final payload effect is = bytes_keep conn Kind.Text is_final payload effect is
data_keeps conn None Binary is_final payload effect is = bytes_keep conn Kind.Binary is_final payload effect is
data_keeps conn (Some p) Continue is_final payload effect is = bytes_keep conn p.0 is_final (p.1 ++ payload) effect is
data_keeps conn (Some p) Text is_final payload effect is = absurd (cc is)
data_keeps conn (Some p) Binary is_final payload effect is = absurd (cc is)

abbrev IsData : OpCode → Type 0
IsData (Op.Data kind) = Unit {0}
IsData (Op.Control control) = ⊥

opcode_keeps : (conn : Connection) (opcode : OpCode) (is_final : Bool) (payload : List ℕ) (effect : Effect) → IsData opcode → on_opcode conn opcode is_final payload ≡ Ok effect → KeepsEnd conn effect
unfolding on_data
opcode_keeps conn (Op.Data kind) is_final payload effect data_is is = data_keeps conn conn.fragments kind is_final payload effect is
opcode_keeps conn (Op.Control control) is_final payload effect data_is is = absurd data_is

frame_keeps : (conn : Connection) (h : FrameHeader) (payload : List ℕ) (effect : Effect) → IsData h.opcode → on_frame conn h payload ≡ Ok effect → KeepsEnd conn effect
unfolding on_frame
frame_keeps conn h payload effect data_is is =
    opcode_keeps conn h.opcode h.is_final payload effect data_is (after_check_passed (check_header conn h) _ effect is)

-- ---- the opcode of a header

bits_of : (n : ℕ) (op : OpCode) → parse_opcode n ≡ Ok op → opcode_bits op ≡ n
bits_of n op h = grind (arith, nat_tests)

data_of : (n : ℕ) (op : OpCode) → nat_le 8 n ≡ false → opcode_bits op ≡ n → IsData op
data_of n (Op.Data kind) below is = tt
data_of n (Op.Control Close) below is = absurd (cc (rw (sym is) at below))
data_of n (Op.Control Ping) below is = absurd (cc (rw (sym is) at below))
data_of n (Op.Control Pong) below is = absurd (cc (rw (sym is) at below))

header_is : {h k : FrameHeader × ℕ} → ◌≡◌ {A = Decoded (FrameHeader × ℕ)} (Ok (Some h)) (Ok (Some k)) → k ≡ h
header_is e = cc e

pick_opcode : (op : OpCode) (first n : ℕ) (key : List ℕ) (p : FrameHeader × ℕ) (masked short : Bool)
    → ◌≡◌ {A = Decoded (FrameHeader × ℕ)} (cond masked (cond short (Ok None) (Ok (Some (header_from first op (Some key), n)))) (Ok (Some (header_from first op None, n)))) (Ok (Some p))
    → p.0.opcode ≡ op
pick_opcode op first n key p false short is = ap (λ (q : FrameHeader × ℕ). q.0.opcode) (header_is is)
pick_opcode op first n key p true false is = ap (λ (q : FrameHeader × ℕ). q.0.opcode) (header_is is)
pick_opcode op first n key p true true is = absurd (cc is)

mask_opcode : (bs : List ℕ) (op : OpCode) (r : Decoded ℕ) (p : FrameHeader × ℕ) → decode_mask bs op r ≡ Ok (Some p) → p.0.opcode ≡ op
mask_opcode bs op (Err e) p is = absurd (cc is)
mask_opcode bs op (Ok None) p is = absurd (cc is)
mask_opcode bs op (Ok (Some n)) p is = pick_opcode op _ n _ p _ _ is

after_opcode : (bs : List ℕ) (r : Result OpCode ProtocolError) (p : FrameHeader × ℕ) (short : Bool) → nat_lt (length bs) 2 ≡ short
    → decode_after_opcode bs r ≡ Ok (Some p) → r ≡ Ok p.0.opcode
after_opcode bs (Err e) p short test is = absurd (cc is)
after_opcode bs (Ok op) p true test is = absurd (cc (rw test at is))
after_opcode bs (Ok op) p false test is = ap Ok (sym (mask_opcode bs op _ p (rw test at is)))

header_opcode : (first : ℕ) (rest : List ℕ) (p : FrameHeader × ℕ) → decode_header (first ∷ rest) ≡ Ok (Some p) → parse_opcode (first % 16) ≡ Ok p.0.opcode
unfolding decode_header
header_opcode first rest p is =
    let some : eqb (length (first ∷ rest)) 0 ≡ false = ne_eqb (length (first ∷ rest)) 0 (omega arith) in
    after_opcode (first ∷ rest) _ p _ refl (rw some at is)

frame_header : (h : FrameHeader) (frame more : RawFrame) (needed : ℕ) (short : Bool)
    → ◌≡◌ {A = Result (FrameStatus RawFrame) Error} (Ok (cond short (Partial needed) (Complete more))) (Ok (Complete frame)) → more.header ≡ h → frame.header ≡ h
frame_header h frame more needed true is same = absurd (cc is)
frame_header h frame more needed false is same =
    let one : frame ≡ more = cc is in
    ap (λ (f : RawFrame). f.header) one ∙ same

decoded_header : (limit : Option ℕ) (bs : List ℕ) (r : Decoded (FrameHeader × ℕ)) (frame : RawFrame) → frame_after_header limit bs r ≡ Ok (Complete frame)
    → (p : FrameHeader × ℕ) × (r ≡ Ok (Some p)) × (frame.header ≡ p.0)
decoded_header limit bs (Err e) frame is = absurd (cc is)
decoded_header limit bs (Ok None) frame is = absurd (cc is)
decoded_header limit bs (Ok (Some p)) frame is =
    (p, refl, frame_header p.0 frame _ _ _ (after_check_passed (check_size p.1 limit) _ _ is) refl)

frame_opcode : (limit : Option ℕ) (first : ℕ) (rest : List ℕ) (frame : RawFrame) → decode_frame limit (first ∷ rest) ≡ Ok (Complete frame) → parse_opcode (first % 16) ≡ Ok frame.header.opcode
unfolding decode_frame
frame_opcode limit first rest frame is =
    let found = decoded_header limit (first ∷ rest) _ frame is in
    header_opcode first rest found.0 found.1 ∙ ap (λ (h : FrameHeader). Ok h.opcode) (sym found.2)

-- ---- a read

consumed_on : (n : ℕ) (r : Result Effect Error) (p : ℕ × Effect) → consumed_with n r ≡ Ok (Complete p) → r ≡ Ok p.1
consumed_on n (Err e) p is = absurd (cc is)
consumed_on n (Ok effect) p is =
    let same : p ≡ (n, effect) = cc is in
    ap (λ (q : ℕ × Effect). Ok q.1) (sym same)

decoded_keeps : (conn : Connection) (first : ℕ) (rest : List ℕ) (r : Result (FrameStatus RawFrame) Error) (p : ℕ × Effect) → nat_le 8 (first % 16) ≡ false
    → decode_frame conn.config.max_frame_size (first ∷ rest) ≡ r → read_decoded conn (first ∷ rest) r ≡ Ok (Complete p) → KeepsEnd conn p.1
decoded_keeps conn first rest (Err e) p data_is decoded is = absurd (cc is)
decoded_keeps conn first rest (Ok (Partial needed)) p data_is decoded is = absurd (cc is)
decoded_keeps conn first rest (Ok (Complete frame)) p data_is decoded is =
    let opcode = frame_opcode conn.config.max_frame_size first rest frame decoded in
    frame_keeps conn frame.header _ p.1 (data_of (first % 16) frame.header.opcode data_is (bits_of (first % 16) frame.header.opcode opcode)) (consumed_on _ _ p is)

none_is : (fragments : Option (MessageType × List ℕ)) (p : ℕ × Effect) → read_step (data_end fragments) [] ≡ Ok (Complete p) → ⊥
unfolding read_step decode_frame decode_header
none_is fragments p is = cc is

end_keeps : (fragments : Option (MessageType × List ℕ)) (bytes : List ℕ) (p : ℕ × Effect) → is_control bytes ≡ false → read_step (data_end fragments) bytes ≡ Ok (Complete p)
    → KeepsEnd (data_end fragments) p.1
unfolding read_step
end_keeps fragments [] p data_is is = absurd (none_is fragments p is)
end_keeps fragments (first ∷ rest) p data_is is = decoded_keeps (data_end fragments) first rest _ p data_is refl is

-- the connection behind a read that took a frame
pub data_kept : (fragments : Option (MessageType × List ℕ)) (bytes : List ℕ) (o : Outcome) → is_control bytes ≡ false → read_step (data_end fragments) bytes ≡ o
    → end_after (data_end fragments) o ≡ data_end (end_after (data_end fragments) o).fragments
data_kept fragments bytes (Err fault) data_is is = refl
data_kept fragments bytes (Ok (Partial needed)) data_is is = refl
data_kept fragments bytes (Ok (Complete p)) data_is is = (end_keeps fragments bytes p data_is is).kept

-- behind a message there are no fragments
pub message_ends : (fragments : Option (MessageType × List ℕ)) (bytes : List ℕ) (p : ℕ × Effect) (content : Content) → is_control bytes ≡ false
    → read_step (data_end fragments) bytes ≡ Ok (Complete p) → p.1.message ≡ Some content → p.1.next.fragments ≡ None
message_ends fragments bytes p content data_is is message = (end_keeps fragments bytes p data_is is).ended content message

taken_kept : (before after : Connection) (old new : List ℕ) (count : ℕ) → is_control old ≡ false → before ≡ data_end before.fragments → IsTaken before old count after new
    → after ≡ data_end after.fragments
taken_kept before after old new count data_is is taken =
    let kept = data_kept before.fragments old _ data_is refl in
    let same : after ≡ end_after (data_end before.fragments) (read_step (data_end before.fragments) old) =
    taken.end ∙ ap (λ (conn : Connection). end_after conn (read_step conn old)) is in
    same ∙ kept ∙ ap (λ (conn : Connection). data_end conn.fragments) (sym same)

pub left_kept : (before after : Connection) (old new : List ℕ) (r : Framed) → is_control old ≡ false → before ≡ data_end before.fragments → is_refused r ≡ false → IsLeft before old r after new
    → after ≡ data_end after.fragments
left_kept before after old new (Frame.Part count) data_is is passed left = taken_kept before after old new count data_is is left
left_kept before after old new (Frame.Whole count message) data_is is passed left = taken_kept before after old new count data_is is left
left_kept before after old new Frame.NotWhole data_is is passed left = left.0 ∙ is ∙ ap (λ (conn : Connection). data_end conn.fragments) (sym left.0)
left_kept before after old new Frame.Bad data_is is passed left = absurd (cc passed)
left_kept before after old new Frame.NoMemory data_is is passed left = absurd (cc passed)
