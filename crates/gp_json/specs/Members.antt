-- What the members of a JSON object say. A member that is null counts as absent, and a value that is no object has none.
use Rattle.std.specs.Prelude.{ℕ, ◌≡◌, List, [], ◌∷◌, is_some, Option, Some, None, option_and_then, Result, Ok, Err, if◌then◌else◌, ⊤}
use Rattle.serde_json.specs.Data.{Num, unsigned, negative, float, Data, Items, no_items, item, Members, no_members, member}
use Rattle.serde_json.specs.Find.{get, as_null, as_str, as_number, as_array, as_object}
use Rattle.gp_json.specs.Steps.{result_and_then}
use Rattle.gp_json.specs.declared.fault.MemberFault.{MemberFault}
use Rattle.gp_json.specs.declared.fault.MemberFault.TheVariants.{Member, Base64, NoMemory}
use Rattle.gp_json.specs.declared.members.Whole.{Whole}
use Rattle.gp_json.specs.declared.members.Whole.TheVariants.{Unsigned, Negative}

abbrev pub unless_null : Data → Option Data
unless_null d = if is_some (as_null d) then None else Some d

-- the member of a name
abbrev pub member_of : List ℕ → Data → Option Data
member_of name d = option_and_then unless_null (get name d)

-- the elements of an array, in order
abbrev pub elements : Items → List Data
elements no_items = []
elements (item d ds) = d ∷ elements ds

-- the members of an object with their names, in the order of the names' bytes
abbrev pub named : Members → List (List ℕ × Data)
named no_members = []
named (member name d ms) = (name, d) ∷ named ms

-- a whole number is an integer that fits 64 bits, written without a fraction or an exponent; `-0` is none
abbrev pub whole : Num → Option Whole
whole (unsigned n) = Some (Unsigned n)
whole (negative z) = Some (Negative z)
whole (float x) = None

abbrev pub as_whole : Data → Option Whole
as_whole d = option_and_then whole (as_number d)

abbrev pub as_elements : Data → Option (List Data)
as_elements d = option_and_then (λ ds. Some (elements ds)) (as_array d)

abbrev pub if_object : Data → Option Data
if_object d = if is_some (as_object d) then Some d else None

-- a value is of the form that is asked for, or the member of this name is at fault
abbrev pub formed : {A : Type 0} → List ℕ → Option A → Result (Option A) MemberFault
formed name None = Err (Member name)
formed name (Some x) = Ok (Some x)

-- a member that is there is read in its form
abbrev pub read_if : {A : Type 0} → (Data → Option A) → List ℕ → Option Data → Result (Option A) MemberFault
read_if form name None = Ok None
read_if form name (Some d) = formed name (form d)

abbrev pub text_member : List ℕ → Data → Result (Option (List ℕ)) MemberFault
text_member name d = read_if as_str name (member_of name d)

abbrev pub whole_member : List ℕ → Data → Result (Option Whole) MemberFault
whole_member name d = read_if as_whole name (member_of name d)

abbrev pub array_member : List ℕ → Data → Result (Option (List Data)) MemberFault
array_member name d = read_if as_elements name (member_of name d)

abbrev pub object_member : List ℕ → Data → Result (Option Data) MemberFault
object_member name d = read_if if_object name (member_of name d)

-- a member that must be there
abbrev pub present : {A : Type 0} → List ℕ → Option A → Result A MemberFault
present name None = Err (Member name)
present name (Some x) = Ok x

abbrev pub needed_text : List ℕ → Data → Result (List ℕ) MemberFault
needed_text name d = result_and_then (text_member name d) (present name)

-- the fault is what was read
abbrev pub IsFaultOf : {A : Type 0} → Result A MemberFault → MemberFault → Type 0
IsFaultOf read (Member name) = read ≡ Err (Member name)
IsFaultOf read (Base64 name) = read ≡ Err (Base64 name)
IsFaultOf read NoMemory = ⊤
