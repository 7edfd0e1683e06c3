-- What is attached for an answer of an origin's that asks for a long poll.
use Rattle.std.specs.Prelude.{ℕ, ◌≡◌, Bool, true, false, Option, Some, None, ⊤}
use Rattle.gp_instruct.specs.declared.instruct.Instruct.{Instruct}
use Rattle.gp_instruct.specs.Spec.{IsCounted}
use Rattle.gp_instruct_json.specs.declared.answer.Answer.{Answer}
use Rattle.gp_exchange.specs.Views.{ExchangeView}
use Rattle.gp_session_wait.specs.Answers.{own_answer}
use Rattle.gp_session_wait.specs.Openings.{OpensFor, may_repeat}
use Rattle.gp_session_wait.specs.Views.{OpeningView}
use Rattle.gp_session_wait.specs.declared.answer.Answer.{Answer as OwnAnswer}
use Rattle.gp_session_http.specs.declared.asked.Asked.{Asked}
use Rattle.gp_session_http.specs.declared.beginning.Beginning.{Beginning}
use Rattle.gp_session_http.specs.Wishes.{status_of}

-- the response of its own that a long poll has
abbrev pub own_of : Answer → OwnAnswer
own_of answer = own_answer answer.head answer.body (status_of answer.instruct)

-- as many channels are asked for as a hold may have
abbrev pub IsCountedIn : Option Instruct → Type 0
IsCountedIn None = ⊤
IsCountedIn (Some instruct) = IsCounted instruct

-- the hold that is asked for, and the response of its own
pub record IsOpeningOf (answer : Answer) (repeats : ℕ) (o : OpeningView) : Type 0 where
  pub instruct : Instruct
  pub is : answer.instruct ≡ Some instruct
  pub opens : OpensFor instruct (own_of answer) repeats o

-- the request is kept where it may be repeated, and else let go
abbrev pub kept_for : Asked → Bool → Option Asked
kept_for asked true = Some asked
kept_for asked false = None

pub record IsPosed (asked : Asked) (x : ExchangeView) (answer : Answer) (b : Beginning) : Type 0 where
  pub asked_is : b.poll.asked.value ≡ asked
  pub exchange_is : b.poll.exchange.value ≡ x
  pub answer_is : b.poll.answer.value ≡ answer
  pub opens : IsOpeningOf answer asked.repeats b.opening
  pub again : b.again ≡ kept_for asked (may_repeat b.opening.channel b.opening.repeats)
