-- The answer that ends a long poll, and its bytes (RFC 9110, section 8.6; RFC 9112, section 6).
use Rattle.std.specs.Prelude.{ℕ, List, [], ◌++◌, length, Option, Some, None, if◌then◌else◌}
use Rattle.gp_plain.specs.declared.item.ResponsePart.{ResponsePart}
use Rattle.gp_plain.specs.declared.http.Response.{Response}
use Rattle.gp_head.specs.Texts.{response_text}
use Rattle.gp_answer.specs.Answers.{answer_head}
use Rattle.gp_answer.specs.Framings.{is_bodiless, whole}
use Rattle.gp_session_wait.specs.declared.answer.Answer.{Answer}

-- the answer of an item
abbrev pub answer_of : ResponsePart → Answer
answer_of part = record { code = part.code; reason = part.reason; fields = part.fields; body = part.body }

-- the origin's own answer; a status that it asks for stands in place of its code and its reason
abbrev pub own_answer : Response → List ℕ → Option ℕ → Answer
own_answer head body None = record { code = head.code; reason = head.reason; fields = head.fields; body = body }
own_answer head body (Some status) = record { code = status; reason = []; fields = head.fields; body = body }

-- the head: the code and the reason, the fields that are passed on, the length of the body but with 204 and 304, and that the
-- connection ends with the answer
abbrev pub head_sent : Answer → List ℕ
head_sent answer = response_text (answer_head answer.code answer.reason answer.fields (whole answer.code (length answer.body)))

-- with 204 and 304 there is no body
abbrev pub body_sent : Answer → List ℕ
body_sent answer = if is_bodiless answer.code then [] else answer.body

abbrev pub answer_text : Answer → List ℕ
answer_text answer = head_sent answer ++ body_sent answer
