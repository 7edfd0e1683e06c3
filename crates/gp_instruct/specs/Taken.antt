-- The link that a field gives, or why it is refused.
use Rattle.std.specs.Prelude.{◌≡◌, ℕ, ◌⊎◌, List, Option, Some, None, Ok, Err, ⊤}
use Rattle.gp_instruct.specs.declared.span.Span.{Span}
use Rattle.gp_instruct.specs.declared.fault.InstructFault.{InstructFault}
use Rattle.gp_instruct.specs.declared.fault.InstructFault.TheVariants.{Mode, Channel, NoChannel, TooMany, Reliable, Timeout, Status, Link, NoMemory}
use Rattle.gp_instruct.specs.Texts.{told}
use Rattle.gp_instruct.specs.Links.{part, scanned}
use Rattle.gp_instruct.specs.Targets.{IsTarget}

-- the list is whole, and this is the URI that is taken
abbrev pub IsLinkOf : List ℕ → Option (List ℕ) → Type 0
IsLinkOf value None = scanned value ≡ Ok None
IsLinkOf value (Some uri) = (span : Span) × (scanned value ≡ Ok (Some span)) × (uri ≡ part value span) × IsTarget uri

-- the form can't go on at the place
abbrev pub IsStop : List ℕ → ℕ → Type 0
IsStop value place = (n : ℕ) × (scanned value ≡ Err n) × (place ≡ told n)

-- the URI that is taken begins at the place, and is no target
abbrev pub IsNoTarget : List ℕ → ℕ → Type 0
IsNoTarget value place = (span : Span) × (scanned value ≡ Ok (Some span)) × (¬ (IsTarget (part value span))) × (place ≡ told span.from)

abbrev pub IsLinkFault : List ℕ → InstructFault → Type 0
IsLinkFault value Mode = ⊥
IsLinkFault value (Channel fault) = ⊥
IsLinkFault value NoChannel = ⊥
IsLinkFault value (TooMany n) = ⊥
IsLinkFault value (Reliable n) = ⊥
IsLinkFault value Timeout = ⊥
IsLinkFault value Status = ⊥
IsLinkFault value (Link place) = IsStop value place ⊎ IsNoTarget value place
IsLinkFault value NoMemory = ⊤
