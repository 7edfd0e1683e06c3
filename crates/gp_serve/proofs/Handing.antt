-- Kits that are handed back one after the other.
use Rattle.std.proofs.Common.{◌≡◌, List, [], ◌∷◌, ◌++◌, Option, Some, None, option_map, refl, sym, ap, append_assoc}
use Rattle.std.proofs.lemmas.List.{append-nil}
use Rattle.gp_outside.specs.Worlds.{WorldParts, with_kit}
use Rattle.gp_serve.specs.Serves.{with_kits}

module _ {K : Type 0} where
  more_of : (handed : Option (List K)) (some : List K) (kit : K) → option_map (λ (all : List K). all ++ kit ∷ []) (option_map (λ (all : List K). all ++ some) handed) ≡ option_map (λ (all : List K). all ++ (some ++ kit ∷ [])) handed
  more_of None some kit = refl
  more_of (Some all) some kit = ap Some (append_assoc all some (kit ∷ []))

  none_of : (handed : Option (List K)) → handed ≡ option_map (λ (all : List K). all ++ []) handed
  none_of None = refl
  none_of (Some all) = ap Some (sym (append-nil all))

module _ {F O C K : Type 0} where
  -- none was handed back
  pub no_kit : (world : WorldParts F O C K) → world ≡ with_kits world []
  no_kit world = ap (λ handed. record world { handed = handed }) (none_of world.handed)

  -- one more was handed back
  pub one_more_kit : (world : WorldParts F O C K) (some : List K) (kit : K) → with_kit (with_kits world some) kit ≡ with_kits world (some ++ kit ∷ [])
  one_more_kit world some kit = ap (λ handed. record world { handed = handed }) (more_of world.handed some kit)
