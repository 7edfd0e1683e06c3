-- A text member and its twin of bytes.
use Rattle.std.specs.Prelude.{ℕ, List, Option, Some, None, option_map, Result, Ok, Err}
use Rattle.serde_json.specs.Data.{Data}
use Rattle.base64.specs.GeneralPurpose.{decode_of}
use Rattle.base64.specs.Engines.{standard}
use Rattle.base64.specs.declared.decode.DecodeError.{DecodeError}
use Rattle.gp_json.specs.Steps.{result_and_then}
use Rattle.gp_json.specs.Members.{text_member}
use Rattle.gp_json.specs.declared.fault.MemberFault.{MemberFault}
use Rattle.gp_json.specs.declared.fault.MemberFault.TheVariants.{Base64}
use Rattle.gp_json.specs.declared.payload.Payload.{Payload}
use Rattle.gp_json.specs.declared.payload.Payload.TheVariants.{Text, Binary}

-- what base64 of the standard alphabet with padding (RFC 4648, section 4) stands for. It is read strictly: no other
-- text stands for the same bytes
abbrev pub decoded : List ℕ → Result (List ℕ) DecodeError → Result (Option Payload) MemberFault
decoded name (Ok bytes) = Ok (Some (Binary bytes))
decoded name (Err e) = Err (Base64 name)

-- the member of bytes wins over the text member
abbrev pub chosen : List ℕ → Option (List ℕ) → Option (List ℕ) → Result (Option Payload) MemberFault
chosen binary_name text None = Ok (option_map Text text)
chosen binary_name text (Some coded) = decoded binary_name (decode_of standard coded)

-- what the two members say, whose forms are looked at before the base64
unfoldable pub payload_of : List ℕ → List ℕ → Data → Result (Option Payload) MemberFault
payload_of text_name binary_name d =
    result_and_then (text_member text_name d) (λ text.
    result_and_then (text_member binary_name d) (λ coded.
    chosen binary_name text coded))

abbrev pub bytes_of : Payload → List ℕ
bytes_of (Text bytes) = bytes
bytes_of (Binary bytes) = bytes
