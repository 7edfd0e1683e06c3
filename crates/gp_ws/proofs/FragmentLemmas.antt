-- Fragments are joined.
use Rattle.std.proofs.Common.{◌≡◌, ℕ, suc, ◌+◌, ◌≤◌, Bool, true, false, List, ◌++◌, length, drop, Option, Some, None, Ok, refl, ap, ◌∙◌, arith, length-append}
use Rattle.std.specs.Prelude.{if◌then◌else◌}
use Rattle.std.proofs.Math.Seq.{drop-append_seam}
use Rattle.websocket.specs.declared.protocol.incomplete.MessageType.{MessageType}
use Rattle.websocket.specs.declared.protocol.incomplete.MessageType.TheVariants as Kind
use Rattle.websocket.specs.declared.protocol.frame.coding.Data.{Data}
use Rattle.websocket.specs.declared.protocol.frame.coding.Data.TheVariants.{Continue, Text, Binary}
use Rattle.websocket.specs.declared.protocol.frame.codec.FrameStatus.TheVariants.{Complete}
use Rattle.websocket.specs.Content.{Content, text, binary}
use Rattle.websocket.specs.FrameHeader.{encode_header, IsMask}
use Rattle.websocket.specs.Connection.{Effect, on_data, on_frame, on_message_bytes, read_step}
use Rattle.websocket.proofs.DecodeLemmas.{ltb_false}
use Rattle.websocket.proofs.StreamLemmas.{read_step-encode_frame}
use Rattle.gp_ws.specs.Unread.{Unread}
use Rattle.gp_ws.specs.Ends.{data_end, control_end}
use Rattle.gp_ws.specs.declared.input.WsNext.TheVariants as Next
use Rattle.gp_ws.specs.declared.input.WsReading.TheVariants.{Open}
use Rattle.gp_ws.specs.Frames.{Outcome, Found, answer_of, first_message, found_by, found_in, framed, framed_by, is_control, left_by, message_of, next_of, read_of}
use Rattle.gp_ws.specs.Fragments.{data_header, fragment, first_of, MayGoOn, IsWhole, whole}
use Rattle.gp_ws.proofs.CutLemmas.{enough_frames, left_with}

data_first : (last : Bool) (kind : Data) (key payload rest : List ℕ) → is_control (fragment last kind key payload ++ rest) ≡ false
unfolding encode_header
data_first true Continue key payload rest = refl
data_first true Text key payload rest = refl
data_first true Binary key payload rest = refl
data_first false Continue key payload rest = refl
data_first false Text key payload rest = refl
data_first false Binary key payload rest = refl

-- a read of a data frame does what its frame does
data_read : (fragments : Option (MessageType × List ℕ)) (last : Bool) (kind : Data) (key payload rest : List ℕ) (effect : Effect) → IsMask (Some key) → length payload ≤ 1048576
    → on_frame (data_end fragments) (data_header last kind key) payload ≡ Ok effect
    → read_of (record { fragments = fragments; waiting = fragment last kind key payload ++ rest }) ≡ Ok (Complete (length (fragment last kind key payload), effect))
data_read fragments last kind key payload rest effect mask fits does =
    ap (λ (c : Bool). read_step (if c then control_end else data_end fragments) (fragment last kind key payload ++ rest)) (data_first last kind key payload rest)
    ∙ read_step-encode_frame (data_end fragments) (data_header last kind key) payload rest (record { mask = mask; top_bit_clear = omega (arith, fits) })
    ∙ rw (ltb_false 1048576 (length payload) fits, does) refl

-- the frame is the next one
next_by : (fragments : Option (MessageType × List ℕ)) (last : Bool) (kind : Data) (key payload rest : List ℕ) (effect : Effect)
    → read_of (record { fragments = fragments; waiting = fragment last kind key payload ++ rest }) ≡ Ok (Complete (length (fragment last kind key payload), effect))
    → let bytes = fragment last kind key payload ++ rest in
    let now : Unread = record { fragments = fragments; waiting = bytes } in
    (found_in now ≡ found_by (first_message (length bytes)) now (framed_by (length (fragment last kind key payload)) effect.message))
    × (left_by now (length (fragment last kind key payload)) ≡ record { fragments = effect.next.fragments; waiting = rest })
unfolding first_message
next_by fragments last kind key payload rest effect read =
    let frame = fragment last kind key payload in
    let bytes = frame ++ rest in
    let now : Unread = record { fragments = fragments; waiting = bytes } in (
      enough_frames (length bytes) (suc (length bytes)) now (omega arith) (omega arith) ∙ ap (λ (o : Outcome). found_by (first_message (length bytes)) now (framed o)) read,
      ap (λ (c : Bool). left_with fragments c (read_of now) (drop (length frame) bytes)) (data_first last kind key payload rest)
          ∙ ap (λ (o : Outcome). left_with fragments false o (drop (length frame) bytes)) read
          ∙ ap (left_with fragments false (Ok (Complete (length frame, effect)))) (drop-append_seam frame rest),
    )

-- a frame that ends no message
next_part : (fragments : Option (MessageType × List ℕ)) (last : Bool) (kind : Data) (key payload rest : List ℕ) (effect : Effect) → effect.message ≡ None
    → read_of (record { fragments = fragments; waiting = fragment last kind key payload ++ rest }) ≡ Ok (Complete (length (fragment last kind key payload), effect))
    → next_of (Open (record { fragments = fragments; waiting = fragment last kind key payload ++ rest })) ≡ next_of (Open (record { fragments = effect.next.fragments; waiting = rest }))
next_part fragments last kind key payload rest effect none read =
    let frame = fragment last kind key payload in
    let bytes = frame ++ rest in
    let now : Unread = record { fragments = fragments; waiting = bytes } in
    let next = next_by fragments last kind key payload rest effect read in
    ap answer_of (next.0 ∙ ap (λ (m : Option Content). found_by (first_message (length bytes)) now (framed_by (length frame) m)) none ∙ ap (first_message (length bytes)) next.1
    ∙ enough_frames (length bytes) (length rest) (record { fragments = effect.next.fragments; waiting = rest }) (omega (arith, length-append frame rest)) (omega arith))

-- a frame that ends a message which isn't a close
next_whole : (fragments : Option (MessageType × List ℕ)) (last : Bool) (kind : Data) (key payload rest : List ℕ) (effect : Effect) (content : Content) → effect.message ≡ Some content
    → read_of (record { fragments = fragments; waiting = fragment last kind key payload ++ rest }) ≡ Ok (Complete (length (fragment last kind key payload), effect))
    → next_of (Open (record { fragments = fragments; waiting = fragment last kind key payload ++ rest }))
    ≡ answer_of (record { next = Next.Message (message_of content); left = record { fragments = effect.next.fragments; waiting = rest } })
next_whole fragments last kind key payload rest effect content some read =
    let frame = fragment last kind key payload in
    let bytes = frame ++ rest in
    let now : Unread = record { fragments = fragments; waiting = bytes } in
    let next = next_by fragments last kind key payload rest effect read in
    ap answer_of (next.0 ∙ ap (λ (m : Option Content). found_by (first_message (length bytes)) now (framed_by (length frame) m)) some
    ∙ ap {B = Found} (λ (u : Unread). record { next = Next.Message (message_of content); left = u }) next.1)

-- ---- what the frames do

abbrev kept : Option (MessageType × List ℕ) → MessageType → List ℕ → Effect
kept fragments kind bytes = record { message = None; reply = None; next = record (data_end fragments) { fragments = Some (kind, bytes) } }

bytes_kept : (fragments : Option (MessageType × List ℕ)) (kind : MessageType) (bytes : List ℕ) → length bytes ≤ 1048576 → MayGoOn kind bytes
    → on_message_bytes (data_end fragments) kind false bytes ≡ Ok (kept fragments kind bytes)
unfolding on_message_bytes
bytes_kept fragments Kind.Text bytes fits good = rw (ltb_false 1048576 (length bytes) fits, good) refl
bytes_kept fragments Kind.Binary bytes fits good = rw (ltb_false 1048576 (length bytes) fits) refl

abbrev content_of : MessageType → List ℕ → Content
content_of Kind.Text bytes = text bytes
content_of Kind.Binary bytes = binary bytes

abbrev delivered : Option (MessageType × List ℕ) → MessageType → List ℕ → Effect
delivered fragments kind bytes = record { message = Some (content_of kind bytes); reply = None; next = record (data_end fragments) { fragments = None } }

bytes_delivered : (fragments : Option (MessageType × List ℕ)) (kind : MessageType) (bytes : List ℕ) → length bytes ≤ 1048576 → IsWhole kind bytes
    → on_message_bytes (data_end fragments) kind true bytes ≡ Ok (delivered fragments kind bytes)
unfolding on_message_bytes
bytes_delivered fragments Kind.Text bytes fits good = rw (ltb_false 1048576 (length bytes) fits, good) refl
bytes_delivered fragments Kind.Binary bytes fits good = rw (ltb_false 1048576 (length bytes) fits) refl

-- ---- the law

first_does : (kind : MessageType) (key payload : List ℕ) → on_frame (data_end None) (data_header false (first_of kind) key) payload ≡ on_message_bytes (data_end None) kind false payload
unfolding on_frame on_data
first_does Kind.Text key payload = refl
first_does Kind.Binary key payload = refl

later_does : (last : Bool) (kind : MessageType) (key before payload : List ℕ)
    → on_frame (data_end (Some (kind, before))) (data_header last Continue key) payload ≡ on_message_bytes (data_end (Some (kind, before))) kind last (before ++ payload)
unfolding on_frame on_data
later_does last kind key before payload = refl

pub begins : (kind : MessageType) (key payload rest : List ℕ) → IsMask (Some key) → length payload ≤ 1048576 → MayGoOn kind payload
    → next_of (Open (record { fragments = None; waiting = fragment false (first_of kind) key payload ++ rest }))
    ≡ next_of (Open (record { fragments = Some (kind, payload); waiting = rest }))
begins kind key payload rest mask fits good =
    next_part None false (first_of kind) key payload rest (kept None kind payload) refl
    (data_read None false (first_of kind) key payload rest _ mask fits (first_does kind key payload ∙ bytes_kept None kind payload fits good))

pub goes_on : (kind : MessageType) (key before payload rest : List ℕ) → IsMask (Some key) → length before + length payload ≤ 1048576 → MayGoOn kind (before ++ payload)
    → next_of (Open (record { fragments = Some (kind, before); waiting = fragment false Continue key payload ++ rest }))
    ≡ next_of (Open (record { fragments = Some (kind, before ++ payload); waiting = rest }))
goes_on kind key before payload rest mask fits good =
    let fragments : Option (MessageType × List ℕ) = Some (kind, before) in
    next_part fragments false Continue key payload rest (kept fragments kind (before ++ payload)) refl
    (data_read fragments false Continue key payload rest _ mask (omega (arith, fits))
    (later_does false kind key before payload ∙ bytes_kept fragments kind (before ++ payload) (omega (arith, fits, length-append before payload)) good))

message_is : (kind : MessageType) (bytes rest : List ℕ)
    → answer_of (record { next = Next.Message (message_of (content_of kind bytes)); left = record { fragments = None; waiting = rest } })
    ≡ record { next = Next.Message (whole kind bytes); after = Open (record { fragments = None; waiting = rest }) }
message_is Kind.Text bytes rest = refl
message_is Kind.Binary bytes rest = refl

pub ends : (kind : MessageType) (key before payload rest : List ℕ) → IsMask (Some key) → length before + length payload ≤ 1048576 → IsWhole kind (before ++ payload)
    → next_of (Open (record { fragments = Some (kind, before); waiting = fragment true Continue key payload ++ rest }))
    ≡ record { next = Next.Message (whole kind (before ++ payload)); after = Open (record { fragments = None; waiting = rest }) }
ends kind key before payload rest mask fits good =
    let fragments : Option (MessageType × List ℕ) = Some (kind, before) in
    next_whole fragments true Continue key payload rest (delivered fragments kind (before ++ payload)) (content_of kind (before ++ payload)) refl
    (data_read fragments true Continue key payload rest _ mask (omega (arith, fits))
    (later_does true kind key before payload ∙ bytes_delivered fragments kind (before ++ payload) (omega (arith, fits, length-append before payload)) good))
    ∙ message_is kind (before ++ payload) rest
