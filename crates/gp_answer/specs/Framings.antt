-- How the body of an answer is framed (RFC 9110, section 8.6; RFC 9112, sections 6 and 7).
use Rattle.std.specs.Prelude.{ℕ, Bool, ◌||◌, ◌==◌, List, bytes_eq, codes, Result, Ok, Err, if◌then◌else◌}
use Rattle.gp_plain.specs.declared.http.Response.{Response}
use Rattle.gp_body.specs.declared.plan.BodyPlan.{BodyPlan}
use Rattle.gp_body.specs.declared.plan.BodyPlan.TheVariants.{None as NoBody, Length as OfLength, Chunked as InChunks, ToClose}
use Rattle.gp_body.specs.declared.plan.BodyFault.{BodyFault}
use Rattle.gp_body.specs.Plans.{length_plan, plan_of_response}
use Rattle.gp_answer.specs.declared.framing.Framing.{Framing}
use Rattle.gp_answer.specs.declared.framing.Framing.TheVariants.{Length, Chunked, Close}

-- a body of unknown length goes in chunks to a client of HTTP/1.1, and up to the close to one of HTTP/1.0
abbrev pub streamed : ℕ → Framing
streamed version = if version == 1 then Chunked else Close

-- no response with this code has a body
abbrev pub is_bodiless : ℕ → Bool
is_bodiless code = (code == 204) || (code == 304)

-- a body of so many bytes, which isn't sent with such a code
abbrev pub whole : ℕ → ℕ → Framing
whole code bytes = if is_bodiless code then Close else Length bytes

-- a passed response is sent without a body
abbrev pub is_bare : List ℕ → ℕ → Bool
is_bare method sent = bytes_eq method (codes "HEAD") || is_bodiless sent

-- the length that the origin gave, where it is one valid length
abbrev pub declared : Result BodyPlan BodyFault → Framing
declared (Ok (OfLength bytes)) = Length bytes
declared (Ok NoBody) = Close
declared (Ok InChunks) = Close
declared (Ok ToClose) = Close
declared (Err fault) = Close

-- the origin's length is told, but where one of the codes is 204
abbrev pub bare : Response → ℕ → Framing
bare head sent = if (head.code == 204) || (sent == 204) then Close else declared (length_plan head.fields)

-- by the plan of the origin's body: that of a response that had none is told to be empty
abbrev pub planned : Result BodyPlan BodyFault → ℕ → Framing
planned (Ok NoBody) version = Length 0
planned (Ok (OfLength bytes)) version = Length bytes
planned (Ok InChunks) version = streamed version
planned (Ok ToClose) version = streamed version
planned (Err fault) version = Close

-- of an origin's response that is passed on with a code, to a client of a version that asked by a method
abbrev pub passed_framing : Response → List ℕ → ℕ → ℕ → Framing
passed_framing head method sent version = if is_bare method sent then bare head sent else planned (plan_of_response head method) version
