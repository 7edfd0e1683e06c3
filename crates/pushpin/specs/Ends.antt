-- What standard error is told of a status, and the exit number.
use Rattle.std.specs.Prelude.{ℕ, ◌≡◌, ◌⊎◌, List, [], ◌∷◌, ◌++◌}
use Rattle.std.specs.Fmt.{decimal}
use Rattle.gp_outside.specs.Devices.{SinkTells, WroteAll, WrotePart}
use Rattle.gp_replay.specs.Statuses.{exit_of, words_of}
use Rattle.gp_replay.specs.declared.status.Status.{Status}
use Rattle.gp_replay.specs.declared.status.Status.TheVariants.{Done, Usage, FileFault, TooLong, BadLine, SinkFault, ListenFault, NoMemory}

-- the words of the status, the number of the word or the line where it has one, and a line feed; nothing where all
-- went well
abbrev pub said_of : Status → List ℕ
said_of Done = []
said_of (Usage place) = words_of (Usage place) ++ 32 ∷ (decimal place ++ 10 ∷ [])
said_of FileFault = words_of FileFault ++ 10 ∷ []
said_of TooLong = words_of TooLong ++ 10 ∷ []
said_of (BadLine line) = words_of (BadLine line) ++ 32 ∷ (decimal line ++ 10 ∷ [])
said_of SinkFault = words_of SinkFault ++ 10 ∷ []
said_of ListenFault = words_of ListenFault ++ 10 ∷ []
said_of NoMemory = words_of NoMemory ++ 10 ∷ []

-- the exit number is that of the status, and its text was written, or the part of it before a fault
pub record IsEnd (status : Status) (number : ℕ) (before now : SinkTells) : Type 0 where
  pub exit : number ≡ exit_of status
  pub told : WroteAll before now (said_of status) ⊎ WrotePart before now (said_of status)
