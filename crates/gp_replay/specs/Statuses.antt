-- The exit number and the words of each status.
use Rattle.std.specs.Prelude.{ℕ, List, [], codes}
use Rattle.gp_replay.specs.declared.status.Status.{Status}
use Rattle.gp_replay.specs.declared.status.Status.TheVariants.{Done, Usage, FileFault, TooLong, BadLine, SinkFault, ListenFault, NoMemory}

abbrev pub exit_of : Status → ℕ
exit_of Done = 0
exit_of (Usage place) = 2
exit_of FileFault = 3
exit_of TooLong = 3
exit_of (BadLine line) = 4
exit_of SinkFault = 5
exit_of ListenFault = 6
exit_of NoMemory = 7

abbrev pub words_of : Status → List ℕ
words_of Done = []
words_of (Usage place) = codes "usage: word"
words_of FileFault = codes "cannot read file"
words_of TooLong = codes "file too long"
words_of (BadLine line) = codes "bad line"
words_of SinkFault = codes "cannot write"
words_of ListenFault = codes "cannot listen"
words_of NoMemory = codes "out of memory"
