-- The turns of a session before the one that it is about. In each an origin was asked, whose answer asked for a long poll that ended so
-- that the request is repeated.
use Rattle.std.specs.Prelude.{ℕ, ◌≡◌, ◌+◌, ◌≤◌, Bool, true, List, [], ◌∷◌, ◌++◌, map, Option, Some, None, ⊤}
use Rattle.gp_plain.specs.Others.{Share}
use Rattle.gp_plain.specs.Reports.{report}
use Rattle.gp_plain.specs.declared.event.HoldSpec.{HoldSpec}
use Rattle.gp_plain.specs.declared.event.HoldSpec.TheVariants.{Response as ResponseSpec}
use Rattle.gp_plain.specs.declared.http.Response.{Response}
use Rattle.gp_plain.specs.declared.reply.EndCause.TheVariants.{Retry}
use Rattle.gp_plain.specs.declared.reply.HoldReport.{HoldReport}
use Rattle.gp_instruct.specs.Spec.{spec}
use Rattle.gp_instruct.specs.declared.instruct.Instruct.{Instruct}
use Rattle.gp_instruct_json.specs.Answers.{IsAnswer}
use Rattle.gp_instruct_json.specs.declared.answer.Answer.{Answer}
use Rattle.gp_outside.specs.Dials.{IsIdle}
use Rattle.gp_exchange.specs.Views.{ExchangeView}
use Rattle.gp_exchange.specs.Answers.{head_of, IsOverBy}
use Rattle.gp_exchange.specs.declared.answer.Last.TheVariants as last
use Rattle.gp_session.specs.Lines.{Aim, aim_of, LineView, LineRow, Last, idle}
use Rattle.gp_session.specs.Seats.{SeatView, HasNoHolds, Made}
use Rattle.gp_session_hold.specs.Rows.{share_of_hold, none, HoldsRow, EntriesRow, AttachRow}
use Rattle.gp_session_wait.specs.Seeks.{IsLast}
use Rattle.gp_session_wait.specs.Waits.{channel_of, is_again, most_repeats}
use Rattle.gp_session_wait.specs.declared.wait.Last.{Last as LastItem}
use Rattle.gp_session_http.specs.declared.asked.Asked.{Asked}
use Rattle.gp_session_http.specs.declared.grant.Wish.TheVariants.{Poll}
use Rattle.gp_session_http.specs.Asking.{IsAskedFor, IsGathered}
use Rattle.gp_session_http.specs.Routing.{Charter}
use Rattle.gp_session_http.specs.Wishes.{IsWish}

-- the answer to what was asked was read of the whole content of a talk that has ended, and isn't to HEAD
pub record IsAnswerTo (asked : Asked) (x : ExchangeView) (content : List ℕ) (answer : Answer) : Type 0 where
  pub head : Response
  pub head_is : head_of x.place ≡ Some head
  pub gathered : IsGathered asked.request.head.method head
  pub over : IsOverBy last.End x.place
  pub read : IsAnswer head content answer

-- what an answer asks for that asks for a long poll: the hold that waits from a moment on, where the request was repeated so often
pub record IsPollSpec (answer : Answer) (repeats now : ℕ) (held : HoldSpec) : Type 0 where
  pub instruct : Instruct
  pub is : answer.instruct ≡ Some instruct
  pub spec_is : spec instruct [] now (is_again repeats) ≡ Some held

-- a turn: what was asked, the talk with the content that it gave, its answer, the moment at which the hold was attached, its number,
-- and what its owner has of it
pub record Turn : Type 0 where
  pub asked : Asked
  pub exchange : ExchangeView
  pub content : List ℕ
  pub answer : Answer
  pub moment : ℕ
  pub number : ℕ
  pub share : Share

-- the answer asked for a long poll, and the hold was what it asked for; a Take told that items were missed
pub record IsTurn (c : Charter) (turn : Turn) : Type 0 where
  pub aim : IsAskedFor c.signer turn.asked turn.exchange.asked
  pub answers : IsAnswerTo turn.asked turn.exchange turn.content turn.answer
  pub wish : IsWish turn.answer Poll
  pub spec_is : IsPollSpec turn.answer turn.asked.repeats turn.moment turn.share.spec
  pub released : turn.share.released ≡ true
  pub told : turn.share.told ≡ Some Retry

-- the only channel of a hold with a previous id
abbrev pub IsChannelOf : HoldSpec → List ℕ → Type 0
IsChannelOf held channel = (channels : List (List ℕ)) × (prev : Option (List ℕ)) × (deadline : ℕ) × (again : Bool) × (held ≡ ResponseSpec channels prev deadline again) × (channel_of channels prev ≡ Some channel)

-- the same request is asked of the same origin once more, and the origin is told of the id behind which items were missed
pub record IsRepeatOf (turn : Turn) (asked : Asked) : Type 0 where
  pub request : asked.request ≡ turn.asked.request
  pub address : asked.address ≡ turn.asked.address
  pub count : asked.repeats ≡ turn.asked.repeats + 1
  pub few : asked.repeats ≤ most_repeats
  pub item : LastItem
  pub last_is : asked.last ≡ Some item
  pub channel : IsChannelOf turn.share.spec item.channel
  pub id : IsLast turn.share.recovers item.id

-- what is asked behind turns: the request for the first time, and then once more behind each of them
pub data Behind (c : Charter) : List Turn → Asked → Type 0 where
  first : (asked : Asked) → asked.repeats ≡ 0 → asked.last ≡ None → Behind c [] asked
  again : (turns : List Turn) (turn : Turn) (asked : Asked) → Behind c turns turn.asked → IsTurn c turn → IsRepeatOf turn asked → Behind c (turns ++ turn ∷ []) asked

-- the talks of turns have these aims, each with the answer that was read of it, and their holds were attached so
abbrev pub aims_of : List Turn → List Aim
aims_of turns = map (λ (turn : Turn). aim_of (record { exchange = turn.exchange; given = turn.content })) turns

abbrev pub specs_before : List Turn → List HoldSpec
specs_before turns = map (λ (turn : Turn). turn.share.spec) turns

-- and reported so
abbrev pub reports_before : List Turn → List HoldReport
reports_before turns = map (λ (turn : Turn). report turn.number turn.share) turns

-- their holds are the session's, and each is as it was when its end was told
abbrev pub AreHeld : SeatView → List Turn → Type 0
AreHeld s [] = ⊤
AreHeld s (turn ∷ turns) = (share_of_hold s turn.number ≡ Some turn.share) × AreHeld s turns

-- Rows: the talks, the entries, the attaches and the holds of a session that has asked nothing yet
pub record Fresh (l : LineView) (s : SeatView) (reports : List HoldReport) : Type 0 where
  pub talks : IsIdle l.start → LineRow l [] idle
  pub entries : Made s []
  pub holds : HasNoHolds s
  pub reports_are : reports ≡ []

-- and of one that has asked this, behind turns. All of its holds are over, and reported
pub record Past (l : LineView) (c : Charter) (s : SeatView) (reports : List HoldReport) (asked : Asked) (last : Last) : Type 0 where
  pub turns : List Turn
  pub behind : Behind c turns asked
  pub held : AreHeld s turns
  pub talks : IsIdle l.start → LineRow l (aims_of turns) last
  pub entries : EntriesRow s
  pub attaches : AttachRow s (specs_before turns) None
  pub holds : HoldsRow s reports none
  pub told : reports ≡ reports_before turns

abbrev pub PastOf : LineView → Charter → SeatView → List HoldReport → Option Asked → Last → Type 0
PastOf l c s reports None last = Fresh l s reports
PastOf l c s reports (Some asked) last = Past l c s reports asked last
