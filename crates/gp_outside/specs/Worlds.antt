-- What a world lends, the kits that it makes, and those that are handed back to it.
use Rattle.std.specs.Prelude.{ℕ, ◌≡◌, ◌≤◌, List, [], ◌∷◌, ◌++◌, Option, IfSome, option_map}
use Rattle.gp_outside.specs.Counts.{Rose}
use Rattle.gp_outside.specs.Kits.{KitParts}
use Rattle.gp_outside.specs.Listens.{ListenTells, IsUnusedListen}
use Rattle.gp_outside.specs.declared.kit.Handed.{Handed}
use Rattle.gp_outside.specs.declared.device.KitMade.{KitMade}
use Rattle.gp_outside.specs.declared.device.KitMade.TheVariants.{Made, Failed, NoMemory}

-- the files, the sink and the clock that a world lends, how many faults it had itself, and the kits that were handed
-- back to it, in order, where it tells that
pub record WorldParts (F O C K : Type 0) : Type 0 where
  pub files : F
  pub out : O
  pub clock : C
  pub faults : ℕ
  pub handed : Option (List K)

module _ {L I G Link D C : Type 0} where
  -- the listeners counted nothing, and nothing was handed back, where that can be known
  pub record IsUnusedKit (told : L → ListenTells) (kit : KitParts L I G Link D C) : Type 0 where
    pub clients : IsUnusedListen (told kit.clients)
    pub publishers : IsUnusedListen (told kit.publishers)
    pub handed : IfSome kit.handed (λ (all : List (Handed Link D C)). all ≡ [])

module _ {F O C K : Type 0} where
  -- a fault of the world itself, and nothing else
  pub record FailsKit (before now : WorldParts F O C K) : Type 0 where
    pub same : now ≡ record before { faults = now.faults }
    pub later : before.faults ≤ now.faults
    pub rose : Rose before.faults now.faults

  -- the kit that was made fits; a failed call has its fault; all else is as it was
  abbrev pub IsKitMade : (K → Type 0) → WorldParts F O C K → WorldParts F O C K → KitMade K → Type 0
  IsKitMade fits before now (Made kit) = (now ≡ before) × fits kit
  IsKitMade fits before now Failed = FailsKit before now
  IsKitMade fits before now NoMemory = now ≡ before

  -- one more kit was handed back
  abbrev pub with_kit : WorldParts F O C K → K → WorldParts F O C K
  with_kit world kit = record world { handed = option_map (λ (all : List K). all ++ kit ∷ []) world.handed }
