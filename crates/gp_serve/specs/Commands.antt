-- What was read of a command line.
use Rattle.gp_serve.specs.Words.{Command, Replay, Serve}
use Rattle.gp_serve.specs.declared.words.Command.{Command as Read}
use Rattle.gp_serve.specs.declared.words.Command.TheVariants.{Replay as ReadReplay, Serve as ReadServe}

abbrev pub command_as : Read → Command
command_as (ReadReplay path) = Replay path.now
command_as (ReadServe path asked) = Serve path.now asked
