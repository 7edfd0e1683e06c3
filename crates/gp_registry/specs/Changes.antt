-- What an owner asks of a socket.
use Rattle.std.specs.Prelude.{ℕ, ⊤}
use Rattle.gp_plain.specs.declared.event.Event.{Event}
use Rattle.gp_plain.specs.declared.event.Event.TheVariants as event
use Rattle.gp_plain.specs.Holds.{SocketChange, push, join, leave}
use Rattle.gp_registry.specs.declared.change.Change.{Change}
use Rattle.gp_registry.specs.declared.change.Change.TheVariants.{Push, Join, Leave}

abbrev pub change_of : Change → SocketChange
change_of (Push message) = push message
change_of (Join channel) = join channel
change_of (Leave channel) = leave channel

abbrev pub event_of : ℕ → Change → Event
event_of hold (Push message) = event.Push hold message
event_of hold (Join channel) = event.Join hold channel
event_of hold (Leave channel) = event.Leave hold channel

-- a channel is left without memory
abbrev pub IsLeave : Change → Type 0
IsLeave (Push message) = ⊥
IsLeave (Join channel) = ⊥
IsLeave (Leave channel) = ⊤
