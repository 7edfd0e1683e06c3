-- Messages don't depend on how the bytes of a client are cut into reads.
use Rattle.std.specs.Prelude.{ℕ, ◌≡◌, List, ◌++◌}
use Rattle.gp_ws.specs.declared.input.WsNext.{WsNext}
use Rattle.gp_ws.specs.declared.input.WsNext.TheVariants as Next
use Rattle.gp_ws.specs.declared.input.WsReading.{WsReading}
use Rattle.gp_ws.specs.declared.input.WsReading.TheVariants.{Open, Ended, Bad, NoMemory}
use Rattle.gp_ws.specs.Frames.{Answer, next_of}

-- bytes came. Those that come once nothing is read any more are dropped
abbrev pub fed : WsReading → List ℕ → WsReading
fed (Open unread) bytes = Open (record unread { waiting = unread.waiting ++ bytes })
fed Ended bytes = Ended
fed Bad bytes = Bad
fed NoMemory bytes = NoMemory

abbrev pub answered_by : WsNext → WsReading → List ℕ → Answer
answered_by Next.NotWhole after more = next_of (fed after more)
answered_by (Next.Message message) after more = record { next = Next.Message message; after = fed after more }
answered_by Next.Ended after more = record { next = Next.Ended; after = fed after more }
answered_by Next.Bad after more = record { next = Next.Bad; after = fed after more }
answered_by Next.NoMemory after more = record { next = Next.NoMemory; after = fed after more }

-- what is answered in the end, where more bytes come behind an answer: the same answer, unless it was NotWhole
abbrev pub answered : Answer → List ℕ → Answer
answered answer more = answered_by answer.next answer.after more

-- it is the same to read, to be fed more bytes and to read again, as to be fed them first
pub record CutLaw : Type 0 where
  pub cut : (reading : WsReading) (more : List ℕ) → next_of (fed reading more) ≡ answered (next_of reading) more
  pub again : (reading : WsReading) (some more : List ℕ) → fed (fed reading some) more ≡ fed reading (some ++ more)
