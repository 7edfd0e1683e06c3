-- The words that ask about the program.
use Rattle.std.specs.Prelude.{cond, List, [], ◌∷◌, ℕ, Option, Some, None, codes, eqb}
use Rattle.std.specs.Cmp.Lexicographic.{pointwise}
use Rattle.pushpin.specs.declared.asked.Asked.{Asked}
use Rattle.pushpin.specs.declared.asked.Asked.TheVariants.{Help, Version}

-- one of two words, alone
abbrev pub asked_of : List (List ℕ) → Option Asked
asked_of [] = None
asked_of (word ∷ []) = cond (pointwise eqb word (codes "--help")) (Some Help) (cond (pointwise eqb word (codes "--version")) (Some Version) None)
asked_of (word ∷ other ∷ words) = None
