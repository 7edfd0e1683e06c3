-- Channels as they come, and why one is refused.
use Rattle.std.specs.Prelude.{◌≡◌, ℕ, Bool, ◌||◌, List, [], ◌∷◌, ◌++◌, bytes_eq, Option, Some, None, option_map, if◌then◌else◌, ⊤, ◌⊎◌}
use Rattle.std.specs.List.{list_any, fold, AllByRecursion}
use denote.Ref.{Bor}
use Rattle.gp_plain.specs.Names.{IsName, IsNameFault}
use Rattle.gp_plain.specs.declared.name.NameFault.{NameFault}
use Rattle.gp_plain.specs.declared.name.NameFault.TheVariants.{Empty, Long, Byte, NoMemory as NameNoMemory}
use Rattle.gp_instruct.specs.declared.instruct.Sub.{Sub}
use Rattle.gp_instruct.specs.declared.fault.InstructFault.{InstructFault}
use Rattle.gp_instruct.specs.declared.fault.InstructFault.TheVariants.{Mode, Channel, NoChannel, TooMany, Reliable, Timeout, Status, Link, NoMemory}

-- a channel of this name and with this previous id
abbrev pub named : List ℕ → Option (Bor (List ℕ)) → Sub
named name prev = record { name = name; prev = option_map (λ (p : Bor (List ℕ)). p.now) prev }

-- a refused name as a refused channel
abbrev pub refusal : NameFault → InstructFault
refusal Empty = Channel Empty
refusal (Long n) = Channel (Long n)
refusal (Byte place) = Channel (Byte place)
refusal NameNoMemory = NoMemory

-- there is no previous id, or it is one
abbrev pub IsSomeId : Option (List ℕ) → Type 0
IsSomeId None = ⊤
IsSomeId (Some id) = IsName id

-- why bytes are no name, other than want of memory
abbrev pub IsNameRefusal : List ℕ → NameFault → Type 0
IsNameRefusal bytes Empty = IsNameFault bytes Empty
IsNameRefusal bytes (Long n) = IsNameFault bytes (Long n)
IsNameRefusal bytes (Byte place) = IsNameFault bytes (Byte place)
IsNameRefusal bytes NameNoMemory = ⊥

abbrev pub IsIdRefusal : Option (List ℕ) → NameFault → Type 0
IsIdRefusal None fault = ⊥
IsIdRefusal (Some id) fault = IsNameRefusal id fault

-- its name is a name, and its previous id, where there is one, is an id
pub record IsGoodSub (sub : Sub) : Type 0 where
  pub name : IsName sub.name
  pub prev : IsSomeId sub.prev

-- the name is refused, or it is one and the previous id is refused
abbrev pub IsSubRefusal : Sub → NameFault → Type 0
IsSubRefusal sub fault = IsNameRefusal sub.name fault ⊎ (IsName sub.name × IsIdRefusal sub.prev fault)

abbrev pub IsSub : Sub → Sub → Type 0
IsSub sub made = (made ≡ sub) × IsGoodSub sub

abbrev pub IsSubFault : Sub → InstructFault → Type 0
IsSubFault sub Mode = ⊥
IsSubFault sub (Channel fault) = IsSubRefusal sub fault
IsSubFault sub NoChannel = ⊥
IsSubFault sub (TooMany n) = ⊥
IsSubFault sub (Reliable n) = ⊥
IsSubFault sub Timeout = ⊥
IsSubFault sub Status = ⊥
IsSubFault sub (Link place) = ⊥
IsSubFault sub NoMemory = ⊤

abbrev pub has_name : List ℕ → List Sub → Bool
has_name name subs = list_any (λ (sub : Sub). bytes_eq name sub.name) subs

abbrev pub has_key : List ℕ → List (Bor (List ℕ)) → Bool
has_key name keys = list_any (λ (key : Bor (List ℕ)). bytes_eq name key.now) keys

-- a name that comes again is dropped, with its previous id
abbrev pub with_sub : List Sub → Sub → List Sub
with_sub subs sub = if has_name sub.name subs then subs else subs ++ sub ∷ []

-- the channels, each name once
abbrev pub firsts : List Sub → List Sub
firsts subs = fold with_sub [] subs

-- the channel's name and previous id are good, and it stands behind the others unless its name came before
pub record AreWith (subs : List Sub) (sub : Sub) (now : List Sub) : Type 0 where
  pub good : IsGoodSub sub
  pub subs_are : now ≡ with_sub subs sub

-- the channels asked for are good, and stand behind those before, each name once
pub record AreAdded (subs asked now : List Sub) : Type 0 where
  pub good : AllByRecursion IsGoodSub asked
  pub subs_are : now ≡ fold with_sub subs asked

-- why the first channel that is refused is refused
abbrev pub IsFirstRefusal : List Sub → NameFault → Type 0
IsFirstRefusal [] fault = ⊥
IsFirstRefusal (sub ∷ more) fault = IsSubRefusal sub fault ⊎ (IsGoodSub sub × IsFirstRefusal more fault)

abbrev pub IsChannelsFault : List Sub → InstructFault → Type 0
IsChannelsFault asked Mode = ⊥
IsChannelsFault asked (Channel fault) = IsFirstRefusal asked fault
IsChannelsFault asked NoChannel = ⊥
IsChannelsFault asked (TooMany n) = ⊥
IsChannelsFault asked (Reliable n) = ⊥
IsChannelsFault asked Timeout = ⊥
IsChannelsFault asked Status = ⊥
IsChannelsFault asked (Link place) = ⊥
IsChannelsFault asked NoMemory = ⊤

-- the keys are the names of the channels
abbrev pub AreNamesOf : List Sub → List (Bor (List ℕ)) → Type 0
AreNamesOf subs keys = (name : List ℕ) → has_key name keys ≡ has_name name subs

-- the keys are those before and this one
abbrev pub HasKeys : List (Bor (List ℕ)) → List ℕ → List (Bor (List ℕ)) → Type 0
HasKeys keys key now = (name : List ℕ) → has_key name now ≡ (has_key name keys || bytes_eq name key)
