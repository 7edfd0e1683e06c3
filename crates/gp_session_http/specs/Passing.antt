-- How a response is passed on (RFC 9110, section 7.6; RFC 9112, section 6).
use Rattle.std.specs.Prelude.{◌≡◌, ℕ, ◌<◌, Bool, true, false, List, [], length, All, Option, Some, None}
use Rattle.std.specs.List.{flat_map}
use Rattle.gp_plain.specs.declared.http.Response.{Response}
use Rattle.gp_plain.specs.declared.reply.EndCause.{EndCause}
use Rattle.gp_head.specs.Texts.{response_text}
use Rattle.gp_answer.specs.declared.framing.Framing.{Framing}
use Rattle.gp_answer.specs.declared.framing.Framing.TheVariants.{Length, Chunked, Close}
use Rattle.gp_answer.specs.Answers.{answer_head}
use Rattle.gp_answer.specs.Frames.{frame}
use Rattle.gp_answer.specs.Framings.{is_bare, passed_framing}
use Rattle.gp_session_http.specs.declared.asked.Asked.{Asked}
use Rattle.gp_session_http.specs.declared.passed.Passed.{Passed}
use Rattle.gp_session_http.specs.Asking.{IsPassed}

-- a status that the origin asks for replaces its code, and the reason is then empty
abbrev pub code_by : Response → Option ℕ → ℕ
code_by head None = head.code
code_by head (Some status) = status

abbrev pub reason_by : Response → Option ℕ → List ℕ
reason_by head None = head.reason
reason_by head (Some status) = []

abbrev pub in_chunks : Framing → Bool
in_chunks (Length bytes) = false
in_chunks Chunked = true
in_chunks Close = false

abbrev pub framing_by : Asked → Response → Option ℕ → Framing
framing_by asked head status = passed_framing head asked.request.head.method (code_by head status) asked.request.head.version

-- the head that the client gets
abbrev pub head_by : Asked → Response → Option ℕ → List ℕ
head_by asked head status = response_text (answer_head (code_by head status) (reason_by head status) head.fields (framing_by asked head status))

-- the answer has no body
abbrev pub is_bare_by : Asked → Response → Option ℕ → Bool
is_bare_by asked head status = is_bare asked.request.head.method (code_by head status)

abbrev pub asked_of : Passed → Asked
asked_of p = p.asked.value

abbrev pub origin_head : Passed → Response
origin_head p = p.head.value

-- the code, the framing, and whether there is a body, are those of this response to what was asked
pub record IsPassedOn (p : Passed) : Type 0 where
  pub passed : IsPassed (asked_of p).request.head.method (origin_head p) p.status
  pub code : p.code ≡ code_by (origin_head p) p.status
  pub chunked : p.chunked ≡ in_chunks (framing_by (asked_of p) (origin_head p) p.status)

abbrev pub has_no_body : Passed → Bool
has_no_body p = is_bare_by (asked_of p) (origin_head p) p.status

-- the head, and then each part in its framing; where the response was ended whole the last chunk follows
abbrev pub passed_text : Passed → List (List ℕ) → Option EndCause → List ℕ
passed_text p parts cause = frame p.chunked (head_by (asked_of p) (origin_head p) p.status) parts cause

-- these parts, each with at least one byte, are the content that was given
pub record ArePartsOf (parts : List (List ℕ)) (given : List ℕ) : Type 0 where
  pub some : All (λ (part : List ℕ). 0 < length part) parts
  pub joined : flat_map (λ (part : List ℕ). part) parts ≡ given
