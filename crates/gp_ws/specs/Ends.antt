-- The server's ends of connections that read the frames of a client.
use Rattle.std.specs.Prelude.{ℕ, false, List, Option, Some, None}
use Rattle.websocket.specs.declared.protocol.config.Role.TheVariants.{Server}
use Rattle.websocket.specs.declared.protocol.state.WebSocketState.TheVariants.{Active}
use Rattle.websocket.specs.declared.protocol.incomplete.MessageType.{MessageType}
use Rattle.websocket.specs.Connection.{Connection}

-- a server's end of a connection: a client masks its frames, a message has at most 1,048,576 bytes, and the payload of a frame at
-- most so many
abbrev pub server : ℕ → Option (MessageType × List ℕ) → Connection
server most fragments = record {
  role = Server;
  state = Active;
  config = record { max_message_size = Some 1048576; max_frame_size = Some most; accept_unmasked_frames = false };
  fragments = fragments;
}

-- the connection of all frames but control frames
abbrev pub data_end : Option (MessageType × List ℕ) → Connection
data_end fragments = server 1048576 fragments

-- a control frame is the first frame of a connection of its own, and has at most 125 bytes (section 5.5)
abbrev pub control_end : Connection
control_end = server 125 None
