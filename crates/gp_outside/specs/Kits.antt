-- What a kit lends, gives and takes back.
use Rattle.std.specs.Prelude.{◌≡◌, List, [], ◌∷◌, ◌++◌, Option, option_map}
use Rattle.gp_outside.specs.declared.kit.Handed.{Handed}

-- the listeners, the idle and the gate that a kit lends, and what was handed back to it, in order, where it tells that
pub record KitParts (L I G Link D C : Type 0) : Type 0 where
  pub clients : L
  pub publishers : L
  pub idle : I
  pub gate : G
  pub handed : Option (List (Handed Link D C))

module _ {L I G Link D C : Type 0} where
  -- what tells something is as it was: the listeners, and what was handed back
  pub record TellsTheSame (before now : KitParts L I G Link D C) : Type 0 where
    pub clients : now.clients ≡ before.clients
    pub publishers : now.publishers ≡ before.publishers
    pub handed : now.handed ≡ before.handed

  -- the devices of one more session were handed back
  pub record TakesBack (before now : KitParts L I G Link D C) (link : Link) (others : Option (D × C)) : Type 0 where
    pub clients : now.clients ≡ before.clients
    pub publishers : now.publishers ≡ before.publishers
    pub handed : now.handed ≡ option_map (λ (all : List (Handed Link D C)). all ++ record { link = link; others = others } ∷ []) before.handed
