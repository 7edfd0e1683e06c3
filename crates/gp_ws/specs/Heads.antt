-- The frames that are sent: unmasked, and a message each (RFC 6455, section 5.2).
use Rattle.std.specs.Prelude.{ℕ, List, ◌++◌, length, Option, Some, None}
use Rattle.std.specs.Int.{w16, to_be_bytes}
use Rattle.websocket.specs.declared.protocol.frame.coding.OpCode.{OpCode}
use Rattle.websocket.specs.declared.protocol.frame.coding.OpCode.TheVariants.{Data, Control}
use Rattle.websocket.specs.declared.protocol.frame.coding.Data.TheVariants as DataCode
use Rattle.websocket.specs.declared.protocol.frame.coding.Control.TheVariants as ControlCode
use Rattle.websocket.specs.FrameHeader.{encode_header}
use Rattle.websocket.specs.Connection.{whole_header}
use Rattle.gp_plain.specs.declared.item.Message.{Message}
use Rattle.gp_plain.specs.declared.item.Message.TheVariants.{Text, Binary, Ping, Pong, Close}

abbrev pub opcode_of : Message → OpCode
opcode_of (Text bytes) = Data DataCode.Text
opcode_of (Binary bytes) = Data DataCode.Binary
opcode_of (Ping bytes) = Control ControlCode.Ping
opcode_of (Pong bytes) = Control ControlCode.Pong
opcode_of (Close code reason) = Control ControlCode.Close

-- a close has its code in two bytes, the higher first, and its reason, or nothing (section 5.5.1)
abbrev pub close_bytes : Option ℕ → List ℕ → List ℕ
close_bytes None reason = reason
close_bytes (Some code) reason = to_be_bytes w16 code ++ reason

abbrev pub payload_of : Message → List ℕ
payload_of (Text bytes) = bytes
payload_of (Binary bytes) = bytes
payload_of (Ping bytes) = bytes
payload_of (Pong bytes) = bytes
payload_of (Close code reason) = close_bytes code reason

-- the header of the frame that carries a message
abbrev pub head_of : Message → List ℕ
head_of message = encode_header (whole_header (opcode_of message) None) (length (payload_of message))

abbrev pub frame_of : Message → List ℕ
frame_of message = head_of message ++ payload_of message
