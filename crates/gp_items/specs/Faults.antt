-- The faults of a publish body, and of one item of it.
use Rattle.std.specs.Prelude.{ℕ, ◌≡◌, Result, Ok, Err, ⊤}
use Rattle.gp_plain.specs.declared.name.NameFault.{NameFault}
use Rattle.gp_plain.specs.declared.name.NameFault.TheVariants as names
use Rattle.gp_json.specs.declared.fault.MemberFault.{MemberFault}
use Rattle.gp_json.specs.declared.fault.MemberFault.TheVariants as json
use Rattle.gp_items.specs.declared.fault.ItemFault.{ItemFault}
use Rattle.gp_items.specs.declared.fault.ItemFault.TheVariants.{Member, Base64, Long, Name, NoMemory}
use Rattle.gp_items.specs.declared.fault.ItemsFault.{ItemsFault}
use Rattle.gp_items.specs.declared.fault.ItemsFault.TheVariants as whole

-- a fault of a member is one of its item
abbrev pub of_member : MemberFault → ItemFault
of_member (json.Member name) = Member name
of_member (json.Base64 name) = Base64 name
of_member json.NoMemory = NoMemory

-- and so is one of a name
abbrev pub of_name : NameFault → ItemFault
of_name names.Empty = Name names.Empty
of_name (names.Long length) = Name (names.Long length)
of_name (names.Byte place) = Name (names.Byte place)
of_name names.NoMemory = NoMemory

abbrev pub told : {A : Type 0} → Result A MemberFault → Result A ItemFault
told (Ok x) = Ok x
told (Err fault) = Err (of_member fault)

-- a fault of the item at a place is one of the whole body
abbrev pub fault_at : ℕ → ItemFault → ItemsFault
fault_at place (Member name) = whole.Member place name
fault_at place (Base64 name) = whole.Base64 place name
fault_at place (Long length) = whole.Long place length
fault_at place (Name fault) = whole.Name place fault
fault_at place NoMemory = whole.NoMemory

-- the fault is what was read
abbrev pub IsItemFaultOf : {A : Type 0} → Result A ItemFault → ItemFault → Type 0
IsItemFaultOf read (Member name) = read ≡ Err (Member name)
IsItemFaultOf read (Base64 name) = read ≡ Err (Base64 name)
IsItemFaultOf read (Long length) = read ≡ Err (Long length)
IsItemFaultOf read (Name fault) = read ≡ Err (Name fault)
IsItemFaultOf read NoMemory = ⊤

-- the fault is what was read of an object
abbrev pub IsItemsFaultOf : {A : Type 0} → Result A ItemsFault → ItemsFault → Type 0
IsItemsFaultOf read whole.NotJson = ⊥
IsItemsFaultOf read whole.NoItems = read ≡ Err whole.NoItems
IsItemsFaultOf read (whole.TooMany count) = read ≡ Err (whole.TooMany count)
IsItemsFaultOf read (whole.Member place name) = read ≡ Err (whole.Member place name)
IsItemsFaultOf read (whole.Base64 place name) = read ≡ Err (whole.Base64 place name)
IsItemsFaultOf read (whole.Long place length) = read ≡ Err (whole.Long place length)
IsItemsFaultOf read (whole.Name place fault) = read ≡ Err (whole.Name place fault)
IsItemsFaultOf read whole.NoMemory = ⊤
