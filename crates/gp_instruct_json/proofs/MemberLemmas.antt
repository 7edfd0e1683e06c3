-- Tests of the elements of an array.
use Rattle.std.proofs.Common.{◌≡◌, Bool, ◌&&◌, List, [], ◌∷◌, map, refl, ap}
use Rattle.std.specs.List.{list_all}
use Rattle.serde_json.specs.Data.{Data}
use Rattle.serde_json.specs.View.{view}
use Rattle.serde_json.specs.declared.value.Value.{Value}

pub all_view : (test : Data → Bool) (values : List Value) → list_all test (map view values) ≡ list_all (λ (v : Value). test (view v)) values
all_view test [] = refl
all_view test (v ∷ values) = ap (λ (b : Bool). test (view v) && b) (all_view test values)
