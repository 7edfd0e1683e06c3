-- What a status of `run` says.
use Rattle.std.specs.Prelude.{ℕ, ◌≡◌, ◌⊎◌, List, Result, Ok, Err}
use Rattle.gp_plain.specs.Standing.{Standing}
use Rattle.gp_outside.specs.Worlds.{WorldParts}
use Rattle.gp_serve.specs.Options.{options_of}
use Rattle.gp_replay.specs.Replays.{Play, Says}
use Rattle.gp_proxy.specs.Servings.{Serving, WorldTells}
use Rattle.gp_serve.specs.Words.{Command, Replay, Serve}
use Rattle.gp_replay.specs.declared.status.Status.{Status}
use Rattle.gp_replay.specs.declared.status.Status.TheVariants.{Usage, NoMemory}

module _ {F O C K Ln I G L D T : Type 0} (tells : WorldTells F O C K Ln I G L D T) where
  -- the play of a script over what a world lends
  abbrev pub play_of : List ℕ → WorldParts F O C K → WorldParts F O C K → Standing → Play
  play_of path before now is = record { content = tells.content before.files path; file_faults = tells.faults before.files; file_faults_after = tells.faults now.files; sink = tells.out before.out; sink_after = tells.out now.out; stands = is }

  -- a replay takes the files and the sink, and nothing else of the world
  pub record HasReplayed (path : List ℕ) (before now : WorldParts F O C K) (is : Standing) (status : Status) : Type 0 where
    pub says : Says status (play_of path before now is)
    pub same : now ≡ record before { files = now.files; out = now.out }

  -- a command of the grammar is a replay or a server. Words that aren't in it are told by their place, and nothing is done.
  abbrev pub RunSays : Result Command ℕ → WorldParts F O C K → WorldParts F O C K → Standing → Standing → Status → Type 0
  RunSays (Ok (Replay path)) before now was is status = HasReplayed path before now is status
  RunSays (Ok (Serve path asked)) before now was is status = (is ≡ was) × (Serving tells path (options_of asked) before now status ⊎ ((status ≡ NoMemory) × (now ≡ before)))
  RunSays (Err place) before now was is status = (status ≡ Usage place) × (now ≡ before) × (is ≡ was)
