-- A list, and for how many more items it has room.
use Rattle.std.specs.Prelude.{ℕ, List, refl}
use Rattle.std.specs.Coded.{Coded, code_by, coded×, coded_list, coded_ℕ}

pub record Roomy (X : Type 0) : Type 0 where
  pub items : List X
  pub spare : ℕ

module _ {X : Type 0} where
  abbrev pub roomy : List X → ℕ → Roomy X
  roomy xs n = record { items = xs; spare = n }

  abbrev pub roomy_code : Coded X → Coded (Roomy X)
  roomy_code c = code_by (List X × ℕ) (coded× (coded_list c) coded_ℕ) (λ r. (r.items, r.spare)) (λ p. roomy p.0 p.1) (λ _. refl)
