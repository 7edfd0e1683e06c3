-- A world in memory.
use Rattle.std.specs.Prelude.{ℕ, ◌≡◌, List, [], ◌∷◌, Option, Some}
use Rattle.gp_outside.specs.Counts.{counted}
use Rattle.gp_outside.specs.Listens.{IsUnusedListen}
use Rattle.gp_outside.specs.Memory.{OneFile, Sink}
use Rattle.gp_outside.specs.MemClocks.{ClockState}
use Rattle.gp_outside.specs.MemKits.{KitState}
use Rattle.gp_outside.specs.MemListens.{told_listen}
use Rattle.gp_outside.specs.Worlds.{WorldParts}
use Rattle.gp_outside.specs.declared.device.KitMade.{KitMade}
use Rattle.gp_outside.specs.declared.device.KitMade.TheVariants.{Made, Failed}

-- the devices that it lends, the kits that it has still to give, those that were handed back, and how many faults there
-- were
pub record WorldState : Type 0 where
  pub files : OneFile
  pub out : Sink
  pub clock : ClockState
  pub kits : List KitState
  pub handed : List KitState
  pub faults : ℕ

abbrev pub world_parts : WorldState → WorldParts OneFile Sink ClockState KitState
world_parts world = record { files = world.files; out = world.out; clock = world.clock; faults = world.faults; handed = Some world.handed }

-- the listeners of a kit counted nothing, and nothing was handed back to it
pub record IsUnusedMemKit (kit : KitState) : Type 0 where
  pub clients : IsUnusedListen (told_listen kit.clients)
  pub publishers : IsUnusedListen (told_listen kit.publishers)
  pub handed : kit.handed ≡ []

-- the next kit; with none left the call fails
abbrev pub kit_of : List KitState → KitMade KitState
kit_of [] = Failed
kit_of (kit ∷ kits) = Made kit

abbrev pub after_kits : WorldState → List KitState → WorldState
after_kits world [] = record world { faults = counted world.faults }
after_kits world (kit ∷ kits) = record world { kits = kits }

abbrev pub after_kit : WorldState → WorldState
after_kit world = after_kits world world.kits
