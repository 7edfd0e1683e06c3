-- A frame in which a client sends a message is read as that message.
use Rattle.std.specs.Prelude.{ℕ, ◌≡◌, ◌<◌, true, List, ◌++◌, Option, Some, None, ⊤}
use Rattle.websocket.specs.declared.protocol.incomplete.MessageType.{MessageType}
use Rattle.websocket.specs.CloseCode.{close_code_number, close_code_of, is_allowed}
use Rattle.websocket.specs.Content.{Content, text, binary, ping, pong, close, content_opcode, content_payload, HasValidText, IsWithinLimit}
use Rattle.websocket.specs.FrameHeader.{IsMask}
use Rattle.websocket.specs.Frame.{encode_frame}
use Rattle.websocket.specs.Connection.{whole_header}
use Rattle.gp_ws.specs.declared.input.WsNext.TheVariants as Next
use Rattle.gp_ws.specs.declared.input.WsReading.TheVariants.{Open}
use Rattle.gp_ws.specs.Frames.{end_by, message_of, next_of, reading_by}

-- the one frame that carries a message, under a key of four bytes (RFC 6455, sections 5.2 and 5.3)
abbrev pub client_frame : Content → List ℕ → List ℕ
client_frame content key = encode_frame (whole_header (content_opcode content) (Some key)) (content_payload content)

-- the code of a close is one that may be sent (section 7.4)
abbrev pub HasCode : Content → Type 0
HasCode (text bytes) = ⊤
HasCode (binary bytes) = ⊤
HasCode (ping bytes) = ⊤
HasCode (pong bytes) = ⊤
HasCode (close None) = ⊤
HasCode (close (Some p)) = (is_allowed p.0 ≡ true) × (close_code_number p.0 < 65536) × (close_code_of (close_code_number p.0) ≡ p.0)

-- a client may send the message: its text is UTF-8, its code may be sent, and it isn't too long
pub record MayBeSent (content : Content) : Type 0 where
  pub valid_text : HasValidText content
  pub code : HasCode content
  pub within : IsWithinLimit (Some 1048576) content

-- a control frame may stand between the fragments of a message, and another frame begins a message where none is open (section 5.4)
abbrev pub MayStand : Content → Option (MessageType × List ℕ) → Type 0
MayStand (text bytes) fragments = fragments ≡ None
MayStand (binary bytes) fragments = fragments ≡ None
MayStand (ping bytes) fragments = ⊤
MayStand (pong bytes) fragments = ⊤
MayStand (close frame) fragments = ⊤

-- the message comes next, the bytes behind its frame are left, and so are the fragments of another
pub record SentLaw : Type 0 where
  pub read : (content : Content) (key rest : List ℕ) (fragments : Option (MessageType × List ℕ)) → MayBeSent content → IsMask (Some key) → MayStand content fragments
      → next_of (Open (record { fragments = fragments; waiting = client_frame content key ++ rest }))
      ≡ record { next = Next.Message (message_of content); after = reading_by (end_by (Next.Message (message_of content))) (record { fragments = fragments; waiting = rest }) }
