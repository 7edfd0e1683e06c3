-- What is kept of the frames of a client.
use Rattle.std.specs.Prelude.{ℕ, List, Option}
use Rattle.websocket.specs.declared.protocol.incomplete.MessageType.{MessageType}

-- the type and the bytes so far of a message whose last fragment is still to come (RFC 6455, section 5.4), and the bytes that
-- came and weren't used
pub record Unread : Type 0 where
  pub fragments : Option (MessageType × List ℕ)
  pub waiting : List ℕ
