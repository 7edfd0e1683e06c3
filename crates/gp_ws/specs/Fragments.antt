-- A message that a client sends in fragments is read as their bytes, joined (RFC 6455, section 5.4).
use Rattle.std.specs.Prelude.{ℕ, ◌≡◌, ◌+◌, ◌≤◌, Bool, true, false, List, ◌++◌, length, Some, None, ⊤}
use Rattle.websocket.specs.declared.protocol.incomplete.MessageType.{MessageType}
use Rattle.websocket.specs.declared.protocol.incomplete.MessageType.TheVariants as Kind
use Rattle.websocket.specs.declared.protocol.frame.coding.OpCode.TheVariants as Op
use Rattle.websocket.specs.declared.protocol.frame.coding.Data.{Data}
use Rattle.websocket.specs.declared.protocol.frame.coding.Data.TheVariants.{Continue, Text, Binary}
use Rattle.websocket.specs.declared.protocol.frame.header.FrameHeader.{FrameHeader}
use Rattle.websocket.specs.Text.{is_utf8, is_utf8_so_far}
use Rattle.websocket.specs.FrameHeader.{IsMask}
use Rattle.websocket.specs.Frame.{encode_frame}
use Rattle.gp_plain.specs.declared.item.Message.{Message}
use Rattle.gp_plain.specs.declared.item.Message.TheVariants as Msg
use Rattle.gp_ws.specs.declared.input.WsNext.TheVariants as Next
use Rattle.gp_ws.specs.declared.input.WsReading.TheVariants.{Open}
use Rattle.gp_ws.specs.Frames.{next_of}

-- the header of a data frame under a key, the last of its message or not
abbrev pub data_header : Bool → Data → List ℕ → FrameHeader
data_header last kind key = record { is_final = last; rsv1 = false; rsv2 = false; rsv3 = false; opcode = Op.Data kind; mask = Some key }

abbrev pub fragment : Bool → Data → List ℕ → List ℕ → List ℕ
fragment last kind key payload = encode_frame (data_header last kind key) payload

-- the opcode of the first fragment
abbrev pub first_of : MessageType → Data
first_of Kind.Text = Text
first_of Kind.Binary = Binary

-- more bytes can make a text of these
abbrev pub MayGoOn : MessageType → List ℕ → Type 0
MayGoOn Kind.Text bytes = is_utf8_so_far bytes ≡ true
MayGoOn Kind.Binary bytes = ⊤

-- the bytes are a message
abbrev pub IsWhole : MessageType → List ℕ → Type 0
IsWhole Kind.Text bytes = is_utf8 bytes ≡ true
IsWhole Kind.Binary bytes = ⊤

abbrev pub whole : MessageType → List ℕ → Message
whole Kind.Text bytes = Msg.Text bytes
whole Kind.Binary bytes = Msg.Binary bytes

pub record FragmentLaw : Type 0 where
  -- a first fragment opens a message
  pub begins : (kind : MessageType) (key payload rest : List ℕ) → IsMask (Some key) → length payload ≤ 1048576 → MayGoOn kind payload
      → next_of (Open (record { fragments = None; waiting = fragment false (first_of kind) key payload ++ rest }))
      ≡ next_of (Open (record { fragments = Some (kind, payload); waiting = rest }))
  -- a later one adds its bytes
  pub goes_on : (kind : MessageType) (key before payload rest : List ℕ) → IsMask (Some key) → length before + length payload ≤ 1048576 → MayGoOn kind (before ++ payload)
      → next_of (Open (record { fragments = Some (kind, before); waiting = fragment false Continue key payload ++ rest }))
      ≡ next_of (Open (record { fragments = Some (kind, before ++ payload); waiting = rest }))
  -- the last one ends the message
  pub ends : (kind : MessageType) (key before payload rest : List ℕ) → IsMask (Some key) → length before + length payload ≤ 1048576 → IsWhole kind (before ++ payload)
      → next_of (Open (record { fragments = Some (kind, before); waiting = fragment true Continue key payload ++ rest }))
      ≡ record { next = Next.Message (whole kind (before ++ payload)); after = Open (record { fragments = None; waiting = rest }) }
