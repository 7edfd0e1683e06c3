-- What a control text asks for.
use Rattle.std.specs.Prelude.{ℕ, ◌≡◌, List, codes, bytes_eq, Option, Some, None, option_and_then, if◌then◌else◌}
use Rattle.serde_json.specs.Data.{Data}
use Rattle.serde_json.specs.Find.{as_str}
use Rattle.gp_plain.specs.Names.{IsName}
use Rattle.gp_json.specs.Texts.{IsObjectText}
use Rattle.gp_json.specs.Members.{member_of}
use Rattle.gp_events.specs.declared.control.ControlKind.{ControlKind}
use Rattle.gp_events.specs.declared.control.ControlKind.TheVariants as Kind
use Rattle.gp_events.specs.declared.control.Control.{Control}
use Rattle.gp_events.specs.declared.control.Control.TheVariants.{Subscribe, Unsubscribe, Detach, Unknown}

-- the member of a name, where it is a string
abbrev pub text_of : List ℕ → Data → Option (List ℕ)
text_of name d = option_and_then as_str (member_of name d)

abbrev pub kind_by : Option (List ℕ) → ControlKind
kind_by None = Kind.Other
kind_by (Some text) =
    if bytes_eq text (codes "subscribe") then Kind.Subscribe
    else if bytes_eq text (codes "unsubscribe") then Kind.Unsubscribe
    else if bytes_eq text (codes "detach") then Kind.Detach
    else Kind.Other

-- what the member `type` says
abbrev pub kind_of : Data → ControlKind
kind_of d = kind_by (text_of (codes "type") d)

-- the member `channel` is this name
abbrev pub HasChannel : Data → List ℕ → Type 0
HasChannel d name = (text_of (codes "channel") d ≡ Some name) × IsName name

-- an object asks for this: to join or to leave a channel, or to detach
abbrev pub Asks : Data → Control → Type 0
Asks d (Subscribe name) = (kind_of d ≡ Kind.Subscribe) × HasChannel d name
Asks d (Unsubscribe name) = (kind_of d ≡ Kind.Unsubscribe) × HasChannel d name
Asks d Detach = kind_of d ≡ Kind.Detach
Asks d Unknown = ⊥

-- an object is this control, and it is unknown exactly where it asks for nothing
abbrev pub IsControlOf : Data → Control → Type 0
IsControlOf d (Subscribe name) = Asks d (Subscribe name)
IsControlOf d (Unsubscribe name) = Asks d (Unsubscribe name)
IsControlOf d Detach = Asks d Detach
IsControlOf d Unknown = (control : Control) → Asks d control → ⊥

-- some JSON object that the text spells asks for this
abbrev pub AsksIn : List ℕ → Control → Type 0
AsksIn bytes control = (d : Data) × IsObjectText bytes d × Asks d control

-- a text is this control, and it is unknown exactly where it asks for nothing
abbrev pub IsControl : List ℕ → Control → Type 0
IsControl bytes (Subscribe name) = AsksIn bytes (Subscribe name)
IsControl bytes (Unsubscribe name) = AsksIn bytes (Unsubscribe name)
IsControl bytes Detach = AsksIn bytes Detach
IsControl bytes Unknown = (control : Control) → AsksIn bytes control → ⊥
