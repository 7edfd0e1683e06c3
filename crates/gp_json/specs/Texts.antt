-- Which bytes are the text of a JSON object (RFC 8259).
use Rattle.std.specs.Prelude.{ℕ, ◌≡◌, List, Some, IsSome, IsUtf8, ⊤}
use Rattle.serde_json.specs.Data.{Data}
use Rattle.serde_json.specs.Read.{read}
use Rattle.serde_json.specs.Find.{as_object}
use Rattle.gp_json.specs.declared.fault.TextFault.{TextFault}
use Rattle.gp_json.specs.declared.fault.TextFault.TheVariants.{NotJson, NoMemory}

-- the bytes are UTF-8 and a JSON text, whose value is this object
pub record IsObjectText (bytes : List ℕ) (d : Data) : Type 0 where
  pub utf8 : IsUtf8 bytes
  pub reads : read bytes ≡ Some d
  pub object : IsSome (as_object d)

-- why bytes are refused
abbrev pub IsTextFault : List ℕ → TextFault → Type 0
IsTextFault bytes NotJson = (d : Data) → IsObjectText bytes d → ⊥
IsTextFault bytes NoMemory = ⊤
