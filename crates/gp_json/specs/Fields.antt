-- The header fields that JSON gives: an object of strings, or an array of pairs of strings.
use Rattle.std.specs.Prelude.{ℕ, Bool, List, [], ◌∷◌, not, filter, codes, is_some, Option, Some, None, option_and_then, Result, Ok, Err, if◌then◌else◌}
use Rattle.std.specs.List.{list_all}
use Rattle.std.specs.Option.{option_zip}
use Rattle.serde_json.specs.Data.{Data, Items, Members}
use Rattle.serde_json.specs.Find.{as_null, as_str, as_array, as_object}
use Rattle.http_header.specs.Token.{is_value_byte, lowercase}
use Rattle.http_header.specs.FieldName.{is_field_name}
use Rattle.gp_plain.specs.declared.item.Field.{Field}
use Rattle.gp_json.specs.Steps.{each}
use Rattle.gp_json.specs.Members.{elements, named, as_elements, member_of, present}
use Rattle.gp_json.specs.declared.fault.MemberFault.{MemberFault}
use Rattle.gp_json.specs.declared.fault.MemberFault.TheVariants.{Member}

-- a text that may be the value of a field, or a reason: no control but tab (RFC 9110, section 5.5)
abbrev pub value_of : List ℕ → Option (List ℕ)
value_of text = if list_all is_value_byte text then Some text else None

-- a text that may be the name of a field, in lower case: names are the same in either case (RFC 9110, section 5.1)
abbrev pub name_of : List ℕ → Option (List ℕ)
name_of text = if is_field_name text then Some (lowercase text) else None

abbrev pub field_from : Option (List ℕ) → Option (List ℕ) → Option Field
field_from None value = None
field_from (Some name) None = None
field_from (Some name) (Some value) = Some (record { name = name; value = value })

-- the field of this name and this value, where they may be such
unfoldable pub field_of : List ℕ → List ℕ → Option Field
field_of name value = field_from (name_of name) (value_of value)

-- the field that a member of an object is
abbrev pub member_field : List ℕ × Data → Result Field MemberFault
member_field m = present (codes "headers") (option_and_then (field_of m.0) (as_str m.1))

-- a member that is null counts as absent
abbrev pub is_given : List ℕ × Data → Bool
is_given m = not (is_some (as_null m.1))

-- two texts
abbrev pub text_pair : List Data → Option (List ℕ × List ℕ)
text_pair [] = None
text_pair (name ∷ []) = None
text_pair (name ∷ value ∷ []) = option_zip (as_str name) (as_str value)
text_pair (name ∷ value ∷ other ∷ more) = None

-- the field that a pair of texts is
abbrev pub pair_field : Data → Result Field MemberFault
pair_field d = present (codes "headers") (option_and_then (λ p. field_of p.0 p.1) (option_and_then text_pair (as_elements d)))

-- the fields of an object's members, in the order of the names' bytes, or those of an array's pairs, in their order
abbrev pub fields_from : Option Members → Option Items → Result (List Field) MemberFault
fields_from (Some ms) items = each member_field (filter is_given (named ms))
fields_from None (Some ds) = each pair_field (elements ds)
fields_from None None = Err (Member (codes "headers"))

abbrev pub fields_in : Data → Result (List Field) MemberFault
fields_in d = fields_from (as_object d) (as_array d)

abbrev pub fields_if : Option Data → Result (List Field) MemberFault
fields_if None = Ok []
fields_if (Some d) = fields_in d

-- what the member `headers` gives; no field where it is absent
unfoldable pub fields_of : Data → Result (List Field) MemberFault
fields_of d = fields_if (member_of (codes "headers") d)
