-- A kit in memory.
use Rattle.std.specs.Prelude.{ℕ, List, [], ◌∷◌, true, Some, None}
use Rattle.gp_outside.specs.Kits.{KitParts}
use Rattle.gp_outside.specs.MemClocks.{ClockState}
use Rattle.gp_outside.specs.MemDials.{DialState}
use Rattle.gp_outside.specs.MemLinks.{LinkState}
use Rattle.gp_outside.specs.MemListens.{ListenState}
use Rattle.gp_outside.specs.declared.gate.FreeIdle.{FreeIdle}
use Rattle.gp_outside.specs.declared.kit.Handed.{Handed}

-- its listeners and its idle, the turns of its gate, the dialers and clocks that it has still to give, and what was
-- handed back
pub record KitState : Type 0 where
  pub clients : ListenState
  pub publishers : ListenState
  pub idle : FreeIdle
  pub gate : ℕ
  pub dials : List DialState
  pub clocks : List ClockState
  pub handed : List (Handed LinkState DialState ClockState)

abbrev pub parts_of : KitState → KitParts ListenState FreeIdle ℕ LinkState DialState ClockState
parts_of kit = record { clients = kit.clients; publishers = kit.publishers; idle = kit.idle; gate = kit.gate; handed = Some kit.handed }

-- the dialer and the clock that are given behind the last ones
abbrev pub no_dial : DialState
no_dial = record { talks = record { over = []; present = None }; told = true; input = []; answers = []; room = 0; connects = []; reads = []; writes = []; faults = 0; connect_waits = 0; read_waits = 0; write_waits = 0; ends = 0 }

abbrev pub no_clock : ClockState
no_clock = record { times = []; last = 0; calls = 0 }

abbrev pub first_dial : List DialState → DialState
first_dial [] = no_dial
first_dial (dial ∷ dials) = dial

abbrev pub first_clock : List ClockState → ClockState
first_clock [] = no_clock
first_clock (clock ∷ clocks) = clock
