-- What a status of `replay` says.
use Rattle.std.specs.Prelude.{ℕ, ◌≡◌, ◌<◌, ◌⊎◌, List, [], length, take, Option}
use mathlib.Core.List.{IsPrefix}
use Rattle.gp_plain.specs.declared.event.Event.{Event}
use Rattle.gp_plain.specs.Standing.{Standing, StandsFor}
use Rattle.gp_plain.specs.Chain.{FollowsChains}
use Rattle.gp_outside.specs.Counts.{Rose, grown}
use Rattle.gp_outside.specs.Devices.{SinkTells}
use Rattle.gp_replay.specs.Scripts.{entries_of}
use Rattle.gp_replay.specs.Loads.{Load, IsBadFile, IsLoaded, IsLongFile, IsQuiet}
use Rattle.gp_replay.specs.Outputs.{output}
use Rattle.gp_replay.specs.declared.status.Status.{Status}
use Rattle.gp_replay.specs.declared.status.Status.TheVariants.{Done, Usage, FileFault, TooLong, BadLine, SinkFault, ListenFault, NoMemory}

-- a play: what is told of the file, the faults of the files and what the sink tells, before and after, and what the
-- registry then keeps
pub record Play : Type 0 where
  pub content : Option (List ℕ)
  pub file_faults : ℕ
  pub file_faults_after : ℕ
  pub sink : SinkTells
  pub sink_after : SinkTells
  pub stands : Standing

-- the read of the file
abbrev pub load_of : Play → Load
load_of play = record { content = play.content; faults = play.file_faults; faults_after = play.file_faults_after }

-- the events are those of the file, and no others are
abbrev pub IsOfFile : Play → List Event → Type 0
IsOfFile play events = IsLoaded (load_of play) events

-- the sink wasn't written to, and the registry stands for the empty history
pub record IsUntouched (play : Play) : Type 0 where
  pub sink : play.sink_after ≡ play.sink
  pub stands : StandsFor play.stands []

pub record IsDone (play : Play) (events : List Event) : Type 0 where
  pub script : IsOfFile play events
  pub written : play.sink_after.written ≡ grown play.sink.written (output events)
  pub quiet : play.sink_after.faults ≡ play.sink.faults
  pub stands : StandsFor play.stands (entries_of events)
  pub follows : FollowsChains (entries_of events)

-- the sink failed: a first part of the output was written, and not all of it
pub record IsCutOff (play : Play) (events : List Event) : Type 0 where
  pub script : IsOfFile play events
  pub fault : Rose play.sink.faults play.sink_after.faults
  pub written : (some : List ℕ) × IsPrefix some (output events) × (length some < length (output events)) × (play.sink_after.written ≡ grown play.sink.written some)
  pub stands : StandsFor play.stands (entries_of events)
  pub follows : FollowsChains (entries_of events)

-- memory was wanting behind the read: the sink wasn't written to, and the first events stand
pub record IsStopped (play : Play) (events : List Event) (count : ℕ) : Type 0 where
  pub script : IsOfFile play events
  pub sink : play.sink_after ≡ play.sink
  pub stands : StandsFor play.stands (entries_of (take count events))

-- memory was wanting before the events were read
pub record IsUnread (play : Play) : Type 0 where
  pub untouched : IsUntouched play
  pub quiet : IsQuiet (load_of play)

pub record IsFileFault (play : Play) : Type 0 where
  pub untouched : IsUntouched play
  pub fault : Rose play.file_faults play.file_faults_after

pub record IsTooLong (play : Play) : Type 0 where
  pub untouched : IsUntouched play
  pub long : IsLongFile (load_of play)

pub record IsRefused (play : Play) (line : ℕ) : Type 0 where
  pub untouched : IsUntouched play
  pub bad : IsBadFile (load_of play) line

-- what each status says; `Usage` and `ListenFault` aren't answers of a replay
abbrev pub Says : Status → Play → Type 0
Says Done play = (events : List Event) × IsDone play events
Says SinkFault play = (events : List Event) × IsCutOff play events
Says NoMemory play = IsUnread play ⊎ ((events : List Event) × (count : ℕ) × IsStopped play events count)
Says FileFault play = IsFileFault play
Says TooLong play = IsTooLong play
Says (BadLine line) play = IsRefused play line
Says (Usage place) play = ⊥
Says ListenFault play = ⊥
