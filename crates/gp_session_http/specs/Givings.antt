-- The response that an instruction carries, as the client gets it (RFC 9112, section 6).
use Rattle.std.specs.Prelude.{ℕ, List, [], ◌++◌, if◌then◌else◌, length}
use Rattle.gp_head.specs.Texts.{response_text}
use Rattle.gp_answer.specs.Answers.{answer_head}
use Rattle.gp_answer.specs.Framings.{is_bare, whole}
use Rattle.gp_instruct_json.specs.declared.answer.Answer.{Answer}
use Rattle.gp_session_http.specs.Passing.{code_by, reason_by}
use Rattle.gp_session_http.specs.Wishes.{status_of}

abbrev pub code_given : Answer → ℕ
code_given answer = code_by answer.head (status_of answer.instruct)

-- its head, of a known length
abbrev pub head_given : Answer → List ℕ
head_given answer = response_text (answer_head (code_given answer) (reason_by answer.head (status_of answer.instruct)) answer.head.fields (whole (code_given answer) (length answer.body)))

-- and its body, which isn't sent with 204 and 304
abbrev pub body_given : Answer → List ℕ
body_given answer = if is_bare [] (code_given answer) then [] else answer.body

abbrev pub given_text : Answer → List ℕ
given_text answer = head_given answer ++ body_given answer
