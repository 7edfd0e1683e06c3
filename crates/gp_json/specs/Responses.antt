-- The response that the members `code`, `reason`, `headers`, `body` and `body-bin` of an object give.
use Rattle.std.specs.Prelude.{ℕ, ◌&&◌, ◌==◌, nat_le, List, [], codes, Option, Some, None, Result, Ok, Err, if◌then◌else◌}
use Rattle.std.specs.Option.{option_map_or}
use Rattle.serde_json.specs.Data.{Data}
use Rattle.gp_plain.specs.declared.item.ResponsePart.{ResponsePart}
use Rattle.gp_json.specs.Steps.{result_and_then}
use Rattle.gp_json.specs.Members.{whole_member, text_member, present}
use Rattle.gp_json.specs.Payloads.{payload_of, bytes_of}
use Rattle.gp_json.specs.Fields.{value_of, fields_of}
use Rattle.gp_json.specs.declared.fault.MemberFault.{MemberFault}
use Rattle.gp_json.specs.declared.fault.MemberFault.TheVariants.{Member}
use Rattle.gp_json.specs.declared.members.Whole.{Whole}
use Rattle.gp_json.specs.declared.members.Whole.TheVariants.{Unsigned, Negative}

-- 200 to 599, and 200 where there is none
abbrev pub code_from : Option Whole → Result ℕ MemberFault
code_from None = Ok 200
code_from (Some (Unsigned n)) = if nat_le 200 n && nat_le n 599 then Ok n else Err (Member (codes "code"))
code_from (Some (Negative z)) = Err (Member (codes "code"))

unfoldable pub code_of : Data → Result ℕ MemberFault
code_of d = result_and_then (whole_member (codes "code") d) code_from

-- a text that may be the value of a field; where there is none it is empty, but `OK` for 200
abbrev pub reason_from : ℕ → Option (List ℕ) → Result (List ℕ) MemberFault
reason_from code None = Ok (if code == 200 then codes "OK" else [])
reason_from code (Some text) = present (codes "reason") (value_of text)

unfoldable pub reason_of : ℕ → Data → Result (List ℕ) MemberFault
reason_of code d = result_and_then (text_member (codes "reason") d) (reason_from code)

-- the body, empty where there is none
unfoldable pub body_of : Data → Result (List ℕ) MemberFault
body_of d = result_and_then (payload_of (codes "body") (codes "body-bin") d) (λ body. Ok (option_map_or bytes_of body []))

-- the response, or the first fault in the order of the members
unfoldable pub response_of : Data → Result ResponsePart MemberFault
response_of d =
    result_and_then (code_of d) (λ code.
    result_and_then (reason_of code d) (λ reason.
    result_and_then (fields_of d) (λ fields.
    result_and_then (body_of d) (λ body.
    Ok (record { code = code; reason = reason; fields = fields; body = body })))))
