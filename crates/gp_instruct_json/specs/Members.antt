-- The members of a body that is an instruction, and which of wrong form is refused first.
use Rattle.std.specs.Prelude.{ℕ, not, Bool, true, List, [], map, codes, is_some, Option, Some, None, option_and_then, unwrap_or, Result, Ok, Err, if◌then◌else◌}
use Rattle.std.specs.List.{list_all}
use Rattle.std.specs.Option.{option_map_or}
use Rattle.serde_json.specs.Data.{Data, null}
use Rattle.serde_json.specs.Find.{as_str, as_object}
use Rattle.serde_json.specs.View.{view}
use Rattle.gp_plain.specs.declared.item.ResponsePart.{ResponsePart}
use Rattle.gp_json.specs.Steps.{result_and_then}
use Rattle.gp_json.specs.Members.{member_of, needed_text, array_member, object_member, whole_member}
use Rattle.gp_json.specs.Responses.{response_of}
use Rattle.gp_json.specs.declared.fault.MemberFault.{MemberFault}
use Rattle.gp_json.specs.declared.fault.MemberFault.TheVariants.{Member}
use Rattle.gp_json.specs.declared.members.Whole.{Whole}
use Rattle.gp_instruct.specs.declared.instruct.Sub.{Sub}
use Rattle.gp_instruct_json.specs.declared.members.Held.{Held as Lent}

-- what a hold's members say
pub record Hold : Type 0 where
  pub mode : List ℕ
  pub asked : List Sub
  pub timeout : Option Whole

-- the text of a member, where it is one
abbrev pub text_in : List ℕ → Data → Option (List ℕ)
text_in name d = option_and_then as_str (member_of name d)

abbrev pub name_in : Data → List ℕ
name_in channel = unwrap_or (text_in (codes "name") channel) []

abbrev pub prev_in : Data → Option (List ℕ)
prev_in channel = text_in (codes "prev-id") channel

-- the channel that an object asks for
abbrev pub sub_in : Data → Sub
sub_in channel = record { name = name_in channel; prev = prev_in channel }

abbrev pub is_entry : Data → Bool
is_entry channel = is_some (as_object channel)

abbrev pub has_name : Data → Bool
has_name channel = is_some (text_in (codes "name") channel)

-- the previous id is absent, or a text
abbrev pub has_prev_form : Data → Bool
has_prev_form channel = option_map_or (λ (prev : Data). is_some (as_str prev)) (member_of (codes "prev-id") channel) true

-- each channel is an object, each has a name, and each previous id is a text
abbrev pub checked : List Data → Result (List Data) MemberFault
checked channels =
    if not (list_all is_entry channels) then Err (Member (codes "channels"))
    else (if not (list_all has_name channels) then Err (Member (codes "name"))
    else (if not (list_all has_prev_form channels) then Err (Member (codes "prev-id")) else Ok channels))

abbrev pub checked_if : Option (List Data) → Result (List Data) MemberFault
checked_if None = Ok []
checked_if (Some channels) = checked channels

-- the channels of a hold, none where the member is absent
unfoldable pub entries_read : Data → Result (List Data) MemberFault
entries_read hold = result_and_then (array_member (codes "channels") hold) checked_if

unfoldable pub hold_read : Data → Result Hold MemberFault
hold_read hold =
    result_and_then (needed_text (codes "mode") hold) (λ mode.
    result_and_then (entries_read hold) (λ channels.
    result_and_then (whole_member (codes "timeout") hold) (λ timeout.
    Ok (record { mode = mode; asked = map sub_in channels; timeout = timeout }))))

abbrev pub hold_if : Option Data → Result (Option Hold) MemberFault
hold_if None = Ok None
hold_if (Some hold) = result_and_then (hold_read hold) (λ held. Ok (Some held))

-- without a response it is that of no member
abbrev pub part_if : Option Data → Result ResponsePart MemberFault
part_if None = response_of null
part_if (Some response) = response_of response

-- the hold, where there is one, and the response
unfoldable pub members_read : Data → Result (Option Hold × ResponsePart) MemberFault
members_read body =
    result_and_then (object_member (codes "hold") body) (λ hold.
    result_and_then (object_member (codes "response") body) (λ response.
    result_and_then (hold_if hold) (λ held.
    result_and_then (part_if response) (λ part.
    Ok (held, part)))))

-- what the code holds of a hold
abbrev pub held_by : Lent → Hold
held_by held = record { mode = held.mode.now; asked = map sub_in (map view held.channels.now); timeout = held.timeout }
