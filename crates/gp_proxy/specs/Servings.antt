-- What `serve` does.
use Rattle.std.specs.Prelude.{ℕ, ◌≡◌, ◌⊎◌, List, Option}
use Rattle.atomic_table.specs.Seated.{TableId}
use Rattle.gp_outside.specs.Clocks.{ClockTells}
use Rattle.gp_outside.specs.Counts.{Rose}
use Rattle.gp_outside.specs.Devices.{SinkTells}
use Rattle.gp_outside.specs.Dials.{DialTells}
use Rattle.gp_outside.specs.Kits.{KitParts}
use Rattle.gp_outside.specs.Links.{LinkTells}
use Rattle.gp_outside.specs.Listens.{ListenTells}
use Rattle.gp_outside.specs.Worlds.{WorldParts}
use Rattle.gp_routes.specs.declared.route.Rule.{Rule}
use Rattle.gp_turn.specs.Passes.{first_pass}
use Rattle.gp_maker.specs.Meanings.{Means, ServerView}
use Rattle.gp_replay.specs.Loads.{Load}
use Rattle.gp_serve.specs.RoutesRead.{AreRead, AreUnread}
use Rattle.gp_serve.specs.Serves.{Serves}
use Rattle.gp_serve.specs.declared.options.Options.{Options}
use Rattle.gp_replay.specs.declared.status.Status.{Status}
use Rattle.gp_replay.specs.declared.status.Status.TheVariants.{NoMemory}

-- what the devices of a world tell, and those of its kits
pub record WorldTells (F O C K Ln I G L D T : Type 0) : Type 0 where
  pub content : F → List ℕ → Option (List ℕ)
  pub faults : F → ℕ
  pub out : O → SinkTells
  pub clock : C → ClockTells
  pub parts : K → KitParts Ln I G L D T
  pub listens : Ln → ListenTells
  pub links : L → LinkTells
  pub dials : D → DialTells
  pub clocks : T → ClockTells

-- what a server is made with
abbrev pub server_of : List Rule → Options → ℕ → ServerView
server_of rules options started = record { rules = rules; signer = record { key = options.key }; started = started }

module _ {F O C K Ln I G L D T : Type 0} (tells : WorldTells F O C K Ln I G L D T) where
  -- the read of a file between two states of a world
  abbrev pub load_between : List ℕ → WorldParts F O C K → WorldParts F O C K → Load
  load_between path before now = record { content = tells.content before.files path; faults = tells.faults before.files; faults_after = tells.faults now.files }

  -- the clock was asked once, and told this second
  pub record HasAsked (before now : WorldParts F O C K) (started : ℕ) : Type 0 where
    pub calls : Rose (tells.clock before.clock).calls (tells.clock now.clock).calls
    pub last : started ≡ (tells.clock now.clock).last

  -- the routes can't be served: nothing was done but the read of their file
  pub record IsUnserved (path : List ℕ) (before now : WorldParts F O C K) (status : Status) : Type 0 where
    pub same : now ≡ record before { files = now.files }
    pub unread : AreUnread (load_between path before now) status

  -- the routes were read and the clock was asked
  pub record IsReady (path : List ℕ) (before mid : WorldParts F O C K) (rules : List Rule) (started : ℕ) : Type 0 where
    pub same : mid ≡ record before { files = mid.files; clock = mid.clock }
    pub read : AreRead (load_between path before mid) rules
    pub asked : HasAsked before mid started

  -- the workers served over the routes, from the first pass of a hub of their own on
  pub record HasServed (path : List ℕ) (options : Options) (before now : WorldParts F O C K) (status : Status) : Type 0 where
    pub rules : List Rule
    pub started : ℕ
    pub hub : TableId
    pub mid : WorldParts F O C K
    pub ready : IsReady path before mid rules started
    pub serves : Serves tells.out tells.parts tells.listens (Means tells.links tells.dials tells.clocks (server_of rules options started)) options.workers options.sessions (first_pass hub) mid now status

  -- memory was wanting before the first kit was made
  pub record IsShort (path : List ℕ) (before now : WorldParts F O C K) : Type 0 where
    pub rules : List Rule
    pub started : ℕ
    pub ready : IsReady path before now rules started

  abbrev pub Serving : List ℕ → Options → WorldParts F O C K → WorldParts F O C K → Status → Type 0
  Serving path options before now status = IsUnserved path before now status ⊎ (HasServed path options before now status ⊎ ((status ≡ NoMemory) × IsShort path before now))
