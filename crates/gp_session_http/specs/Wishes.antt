-- What a whole answer of an origin's asks for.
use Rattle.std.specs.Prelude.{◌≡◌, ℕ, ◌<◌, ◌≤◌, if◌then◌else◌, length, Option, Some, None, ⊤}
use Rattle.gp_plain.specs.declared.http.Response.{Response}
use Rattle.gp_instruct.specs.declared.instruct.Instruct.{Instruct}
use Rattle.gp_instruct.specs.declared.instruct.Mode.TheVariants as mode
use Rattle.gp_instruct_json.specs.Kinds.{has_type}
use Rattle.gp_instruct_json.specs.declared.answer.Answer.{Answer}
use Rattle.gp_session_http.specs.declared.grant.Wish.{Wish}
use Rattle.gp_session_http.specs.declared.grant.Wish.TheVariants.{Stream, LongStream, Poll, LongPoll, Whole}

-- so many bytes of a body are gathered at the most: of one that is an instruction, and of one whose fields ask for a hold
abbrev pub most_gathered : Response → ℕ
most_gathered head = if has_type head.fields then 524288 else 262144

abbrev pub AsksStream : Option Instruct → Type 0
AsksStream None = ⊥
AsksStream (Some instruct) = instruct.mode ≡ Some mode.Stream

abbrev pub AsksNone : Option Instruct → Type 0
AsksNone None = ⊤
AsksNone (Some instruct) = instruct.mode ≡ None

abbrev pub AsksPoll : Option Instruct → Type 0
AsksPoll None = ⊥
AsksPoll (Some instruct) = instruct.mode ≡ Some mode.Response

-- it asks for a stream, whose opening is short enough or too long; for a long poll, whose own response is; or for no hold
abbrev pub IsWish : Answer → Wish → Type 0
IsWish answer Stream = AsksStream answer.instruct × (length answer.body ≤ 262144)
IsWish answer LongStream = AsksStream answer.instruct × (262144 < length answer.body)
IsWish answer Poll = AsksPoll answer.instruct × (length answer.body ≤ 262144)
IsWish answer LongPoll = AsksPoll answer.instruct × (262144 < length answer.body)
IsWish answer Whole = AsksNone answer.instruct

-- the status that an instruction asks for in place of the response's own
abbrev pub status_of : Option Instruct → Option ℕ
status_of None = None
status_of (Some instruct) = instruct.status
