-- Why a session waits.
use Rattle.gp_outside.specs.Counts.{Rose}
use Rattle.gp_session.specs.Wires.{WireView}

-- the link waited for bytes to read, or to take bytes
abbrev pub ReadWaited : WireView → WireView → Type 0
ReadWaited v w = Rose v.link.read_waits w.link.read_waits

abbrev pub WriteWaited : WireView → WireView → Type 0
WriteWaited v w = Rose v.link.write_waits w.link.write_waits

-- a fault of the link, or an end of its input, since the session began
abbrev pub HasFailed : WireView → Type 0
HasFailed w = Rose w.start.faults w.link.faults

abbrev pub HasEnded : WireView → Type 0
HasEnded w = Rose w.start.ends w.link.ends
