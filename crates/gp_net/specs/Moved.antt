-- How many bytes a call on a socket moves.
use Rattle.std.specs.Prelude.{ℕ, ◌<◌, ◌≤◌, List, length}
use Rattle.gp_outside.specs.declared.link.Got.{Got}
use Rattle.gp_outside.specs.declared.link.Got.TheVariants.{Took, End, NotReady, Failed}
use Rattle.gp_outside.specs.declared.link.Put.{Put}
use Rattle.gp_outside.specs.declared.link.Put.TheVariants.{Took as PutTook, NotReady as PutNotReady, Failed as PutFailed}

-- a read that took bytes took at least one, and no more than there was room for
abbrev pub IsGotOf : List ℕ → Got → Type 0
IsGotOf into (Took n) = (0 < n) × (n ≤ length into)
IsGotOf into End = Unit {0}
IsGotOf into NotReady = Unit {0}
IsGotOf into Failed = Unit {0}

-- a write that sent bytes sent at least one, and no more than were handed in
abbrev pub IsPutOf : List ℕ → Put → Type 0
IsPutOf from (PutTook n) = (0 < n) × (n ≤ length from)
IsPutOf from PutNotReady = Unit {0}
IsPutOf from PutFailed = Unit {0}
