-- What a turn makes of a call.
use Rattle.std.specs.Prelude.{ℕ, ◌<◌, ◌≤◌, ◌==◌, min, max, nat_le, Bool, true, false, cond, Option, Some, None}
use Rattle.gp_outside.specs.declared.link.Got.{Got}
use Rattle.gp_outside.specs.declared.link.Got.TheVariants.{Took, End, NotReady, Failed}
use Rattle.gp_outside.specs.declared.link.Put.{Put}
use Rattle.gp_outside.specs.declared.link.Put.TheVariants.{Took as PutTook, NotReady as PutNotReady, Failed as PutFailed}
use Rattle.gp_outside.specs.declared.dial.Connected.{Connected}
use Rattle.gp_outside.specs.declared.dial.Connected.TheVariants.{Done, NotReady as ConnectNotReady, Failed as ConnectFailed}
use Rattle.gp_outside.specs.declared.turn.Turn.{Turn}
use Rattle.gp_outside.specs.declared.turn.Turn.TheVariants.{Bytes, Wait, Fail}

-- after the list, and at each turn that doesn't fail, a file can be read
abbrev pub is_ready : Option Turn → Bool
is_ready None = true
is_ready (Some Wait) = true
is_ready (Some Fail) = false
is_ready (Some (Bytes most)) = true

-- how many of so many bytes the turn lets a write to a sink take, or none where it fails. A sink can't answer that it
-- isn't ready, so a turn that waits lets it take all; so it is after the list
abbrev pub let_through : Option Turn → ℕ → Option ℕ
let_through None all = Some all
let_through (Some Wait) all = Some all
let_through (Some Fail) all = None
let_through (Some (Bytes most)) all = Some (min (max most 1) all)

-- a connect is done, isn't ready or fails
abbrev pub connected_by : Option Turn → Connected
connected_by None = Done
connected_by (Some (Bytes most)) = Done
connected_by (Some Wait) = ConnectNotReady
connected_by (Some Fail) = ConnectFailed

-- a read that doesn't wait or fail takes what the turn, the slice and the rest of the input let it, and ends where
-- nothing is left
abbrev pub got_by : Option Turn → ℕ → ℕ → Got
got_by None into left = cond (left == 0) End (Took (min into left))
got_by (Some (Bytes most)) into left = cond (left == 0) End (Took (min (min (max most 1) into) left))
got_by (Some Wait) into left = NotReady
got_by (Some Fail) into left = Failed

-- what a read takes is something, for which there was room, and which was there
abbrev pub IsSomeOf : Got → ℕ → ℕ → Type 0
IsSomeOf (Took n) into left = (0 < n) × (n ≤ into) × (n ≤ left)
IsSomeOf End into left = Unit {0}
IsSomeOf NotReady into left = Unit {0}
IsSomeOf Failed into left = Unit {0}

-- a write takes so many bytes where there is room for them, and fails where there isn't
abbrev pub put_within : ℕ → ℕ → Put
put_within room n = cond (nat_le n room) (PutTook n) PutFailed

abbrev pub put_by : Option Turn → ℕ → ℕ → Put
put_by None from room = put_within room from
put_by (Some (Bytes most)) from room = put_within room (min (max most 1) from)
put_by (Some Wait) from room = PutNotReady
put_by (Some Fail) from room = PutFailed
