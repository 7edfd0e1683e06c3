-- What a session says of a long poll that its origin's answer asks for, and how it ends with it.
use Rattle.std.specs.Prelude.{◌≡◌, ℕ, ◌<◌, ◌⊎◌, List, [], Option, Some, None, ⊤, false}
use Rattle.gp_plain.specs.Others.{Share}
use Rattle.gp_plain.specs.declared.event.HoldSpec.{HoldSpec}
use Rattle.gp_plain.specs.declared.reply.EndCause.{EndCause}
use Rattle.gp_plain.specs.declared.reply.EndCause.TheVariants.{Overflow, Retry}
use Rattle.gp_hub.specs.declared.outcome.SessionEnd.{SessionEnd}
use Rattle.gp_hub.specs.declared.outcome.SessionEnd.TheVariants.{Sent as WasSent, Cut, ClientGone, Worn, NoMemory}
use Rattle.gp_hub.specs.declared.outcome.Why.{Why}
use Rattle.gp_hub.specs.declared.outcome.Why.TheVariants as why
use Rattle.gp_session.specs.Causes.{HasFailed, HasEnded}
use Rattle.gp_session.specs.Seats.{IsServed, IsWorn}
use Rattle.gp_session.specs.Watches.{WatchView}
use Rattle.gp_session.specs.Wires.{BytesRow, Sent, exactly}
use Rattle.gp_session_hold.specs.Rows.{KeptView, IsKept, IsOver, none, kept, over, HoldsRow, EntriesRow, DetachedRow}
use Rattle.gp_session_wait.specs.Openings.{may_repeat}
use Rattle.gp_session_wait.specs.Views.{WaitView}
use Rattle.gp_session_wait.specs.Waits.{Waits, HasForm, IsAnswered, IsUnput, IsRetried, IsOverflowed}
use Rattle.gp_session_wait.specs.declared.wait.Repeat.{Repeat}
use Rattle.gp_session_http.specs.declared.answering.Answering.{Answering as AnsweringStage}
use Rattle.gp_session_http.specs.declared.asked.Asked.{Asked}
use Rattle.gp_session_http.specs.declared.beginning.Beginning.{Beginning as BeginningStage}
use Rattle.gp_session_http.specs.declared.denying.Denying.{Denying as DenyingStage}
use Rattle.gp_session_http.specs.declared.departing.Departing.{Departing as DepartingStage}
use Rattle.gp_session_http.specs.declared.grant.Wish.TheVariants as wish
use Rattle.gp_session_http.specs.declared.held.Held.{Held}
use Rattle.gp_session_http.specs.declared.held.Held.TheVariants.{Attaching, Declining, Streaming, Closing, Leaving, Beginning, Denying, Waiting, Answering, Departing}
use Rattle.gp_session_http.specs.declared.held.HeldNext.{HeldNext}
use Rattle.gp_session_http.specs.declared.held.HeldNext.TheVariants.{Go, Wait, Again, End}
use Rattle.gp_session_http.specs.declared.leaving.Parting.{Parting}
use Rattle.gp_session_http.specs.declared.leaving.Parting.TheVariants.{Gone, Wanting}
use Rattle.gp_session_http.specs.declared.poll.Poll.{Poll}
use Rattle.gp_session_http.specs.declared.waiting.Waiting.{Waiting as WaitingStage}
use Rattle.gp_session_http.specs.Heard.{Heard, IsAlone, IsUnattached, IsDeclined, HasAttached, IsLastHold, full_text, end_of}
use Rattle.gp_session_http.specs.Posings.{own_of, IsOpeningOf, kept_for}
use Rattle.gp_session_http.specs.Turns.{Turn, IsPollSpec}
use Rattle.gp_session_http.specs.Views.{LiveView}
use Rattle.gp_session_http.specs.Wishes.{IsWish}

-- Rows that all stages have: the answer asks for a long poll
pub record Polling (l : LiveView) (p : Poll) : Type 0 where
  pub heard : Heard l p.asked.value p.exchange.value p.answer.value
  pub talks : IsAlone l p.asked.value p.exchange.value p.answer.value heard
  pub wish : IsWish p.answer.value wish.Poll

-- such a hold is asked for, which waits from a moment on
abbrev pub PollsFor : Poll → ℕ → HoldSpec → Type 0
PollsFor p now held = IsPollSpec p.answer.value p.asked.value.repeats now held

abbrev pub MayPoll : Poll → HoldSpec → Type 0
MayPoll p held = (now : ℕ) × PollsFor p now held

-- the hold isn't attached yet
pub record BeginningTold (l : LiveView) (s : BeginningStage) : Type 0 where
  pub rows : Polling l s.poll
  pub is : IsUnattached l rows.heard.turns
  pub served : IsServed l.seat
  pub opens : IsOpeningOf s.poll.answer.value s.poll.asked.value.repeats s.opening
  pub again : s.again ≡ kept_for s.poll.asked.value (may_repeat s.opening.channel s.opening.repeats)

pub record DenyingTold (l : LiveView) (s : DenyingStage) : Type 0 where
  pub rows : Polling l s.poll
  pub is : IsDeclined l rows.heard.turns (MayPoll s.poll)
  pub served : IsServed l.seat
  pub bytes : BytesRow l.wire (exactly full_text)

-- a hold is kept, which was attached at a moment, and there is room for its report
pub record KeepsPoll (l : LiveView) (p : Poll) (now : ℕ) (hold : KeptView) : Type 0 where
  pub rows : Polling l p
  pub attached : HasAttached l rows.heard.turns (PollsFor p now)
  pub entries : EntriesRow l.seat
  pub holds : HoldsRow l.seat l.reports.items (kept hold)
  pub room : 0 < l.reports.spare

-- what such a long poll was attached with, its own response, and how often the request was repeated
pub record IsPollOf (p : Poll) (now : ℕ) (v : WaitView) : Type 0 where
  pub spec_is : PollsFor p now v.spec
  pub own_is : v.own ≡ own_of p.answer.value
  pub repeats_is : v.repeats ≡ p.asked.value.repeats

-- it waits since that moment, and nothing is sent. The request is kept where it may be repeated
pub record WaitsPoll (l : LiveView) (p : Poll) (v : WaitView) (again : Option Asked) (now : ℕ) : Type 0 where
  pub keeps : KeepsPoll l p now v.hold
  pub served : IsServed l.seat
  pub poll_is : IsPollOf p now v
  pub waits : Waits v l.wire l.seat
  pub again_is : again ≡ kept_for p.asked.value (may_repeat v.channel v.repeats)

abbrev pub WaitingTold : LiveView → WaitingStage → Type 0
WaitingTold l s = WaitsPoll l s.poll s.wait s.again s.since.value

-- its end was told, it is reported, and it is so
pub record PollIs (l : LiveView) (turns : List Turn) (p : Poll) (hold : KeptView) (Is : WaitView → Type 0) : Type 0 where
  pub moment : ℕ
  pub attached : HasAttached l turns (PollsFor p moment)
  pub own : IsLastHold l hold
  pub entries : EntriesRow l.seat
  pub holds : HoldsRow l.seat l.reports.items none
  pub wait : WaitView
  pub poll_is : IsPollOf p moment wait
  pub is : Is wait

-- its answer is sent or waits
pub record AnswersPoll (l : LiveView) (p : Poll) (hold : KeptView) (cause : EndCause) (code : ℕ) : Type 0 where
  pub rows : Polling l p
  pub served : IsServed l.seat
  pub is : PollIs l rows.heard.turns p hold (λ (v : WaitView). IsAnswered v l.wire l.seat hold cause code)

abbrev pub AnsweringTold : LiveView → AnsweringStage → Type 0
AnsweringTold l s = AnswersPoll l s.poll s.hold.value s.cause s.code

-- the hold is kept, and nothing is sent
pub record StillPolls (l : LiveView) (p : Poll) (hold : KeptView) : Type 0 where
  pub share : Share
  pub is : IsKept l.seat hold share
  pub asked_for : MayPoll p share.spec
  pub bytes : Sent l.wire []

-- why a hold is let go
abbrev pub PartsBy : Parting → LiveView → Type 0
PartsBy Gone l = HasFailed l.wire ⊎ HasEnded l.wire
PartsBy Wanting l = ⊤

pub record DepartingTold (l : LiveView) (s : DepartingStage) : Type 0 where
  pub moment : ℕ
  pub keeps : KeepsPoll l s.poll moment s.hold
  pub served : IsServed l.seat
  pub still : StillPolls l s.poll s.hold
  pub by : PartsBy s.parting l

-- why a session ends so with a long poll: no hold was made, and its refusal was sent, or the client is gone, or memory is wanting;
-- nothing was attached, for want of memory or since the hub serves no more; its answer was sent, or the client is gone, or memory was
-- wanting for it; more was waiting than a hold may keep, and nothing was sent; memory was wanting to repeat the request; the hub serves no
-- more, and the hold stays; or the hold was let go, and nothing was sent
pub data PollEnds (l : LiveView) (turns : List Turn) (p : Poll) : SessionEnd → Why → Type 0 where
  denied_sent : IsDeclined l turns (MayPoll p) → BytesRow l.wire (exactly full_text) → l.wire.rest ≡ [] → PollEnds l turns p (WasSent 503) why.Full
  denied_gone : IsDeclined l turns (MayPoll p) → BytesRow l.wire (exactly full_text) → HasFailed l.wire → PollEnds l turns p ClientGone why.Full
  denied_wanting : IsDeclined l turns (MayPoll p) → BytesRow l.wire (exactly []) → PollEnds l turns p NoMemory why.Full
  unbegun_wanting : IsUnattached l turns → PollEnds l turns p NoMemory why.Nothing
  unbegun_worn : IsUnattached l turns → IsWorn l.seat → PollEnds l turns p Worn why.Nothing
  answered_sent : (hold : KeptView) (cause : EndCause) (code : ℕ) → PollIs l turns p hold (λ (v : WaitView). IsAnswered v l.wire l.seat hold cause code) → l.wire.rest ≡ [] → PollEnds l turns p (WasSent code) why.Nothing
  answered_gone : (hold : KeptView) (cause : EndCause) (code : ℕ) → PollIs l turns p hold (λ (v : WaitView). IsAnswered v l.wire l.seat hold cause code) → HasFailed l.wire → PollEnds l turns p ClientGone why.Nothing
  unput : (hold : KeptView) (cause : EndCause) → PollIs l turns p hold (λ (v : WaitView). IsUnput v l.wire l.seat hold cause) → PollEnds l turns p NoMemory why.Nothing
  overflowed : (hold : KeptView) → PollIs l turns p hold (λ (v : WaitView). IsOverflowed v l.wire l.seat hold) → l.wire.rest ≡ [] → PollEnds l turns p (Cut Overflow) why.Nothing
  unrepeated : (r : Repeat) → PollIs l turns p r.hold (λ (v : WaitView). IsRetried v l.wire l.seat r) → PollEnds l turns p NoMemory why.Nothing
  waiting_worn : (now : ℕ) (hold : KeptView) → HasAttached l turns (PollsFor p now) → IsLastHold l hold → StillPolls l p hold → IsWorn l.seat → PollEnds l turns p Worn why.Nothing
  departed : (now : ℕ) (hold : KeptView) (parting : Parting) (share : Share) → HasAttached l turns (PollsFor p now) → IsLastHold l hold → DetachedRow false l.seat hold.number → IsOver l.seat hold None share → MayPoll p share.spec → Sent l.wire [] → PartsBy parting l
      → PollEnds l turns p (end_of parting) why.Nothing

-- the moves

-- no hold was made, and nothing was said yet
pub record IsDeniedAt (l : LiveView) (p : Poll) : Type 0 where
  pub rows : Polling l p
  pub is : IsDeclined l rows.heard.turns (MayPoll p)
  pub served : IsServed l.seat
  pub bytes : BytesRow l.wire (exactly [])

-- an end of the hold was told, or it was let go; it isn't reported yet
pub record PollOver (l : LiveView) (p : Poll) (hold : KeptView) (told : Option EndCause) (Is : WaitView → Type 0) : Type 0 where
  pub rows : Polling l p
  pub moment : ℕ
  pub attached : HasAttached l rows.heard.turns (PollsFor p moment)
  pub entries : EntriesRow l.seat
  pub holds : HoldsRow l.seat l.reports.items (over hold told)
  pub room : 0 < l.reports.spare
  pub wait : WaitView
  pub poll_is : IsPollOf p moment wait
  pub is : Is wait

pub record HasAnswered (l : LiveView) (p : Poll) (hold : KeptView) (cause : EndCause) (code : ℕ) : Type 0 where
  pub over : PollOver l p hold (Some cause) (λ (v : WaitView). IsAnswered v l.wire l.seat hold cause code)
  pub served : IsServed l.seat

-- the hub serves no more, and the hold stays
pub record StaysPolling (l : LiveView) (p : Poll) (hold : KeptView) : Type 0 where
  pub moment : ℕ
  pub keeps : KeepsPoll l p moment hold
  pub still : StillPolls l p hold
  pub worn : IsWorn l.seat

pub data HasStopped (l : LiveView) (p : Poll) (hold : KeptView) : Option EndCause → SessionEnd → Type 0 where
  worn : StaysPolling l p hold → HasStopped l p hold None Worn
  cut : PollOver l p hold (Some Overflow) (λ (v : WaitView). IsOverflowed v l.wire l.seat hold) → HasStopped l p hold (Some Overflow) (Cut Overflow)
  wanted : (cause : EndCause) → PollOver l p hold (Some cause) (λ (v : WaitView). IsUnput v l.wire l.seat hold cause) → HasStopped l p hold (Some cause) NoMemory

-- items were missed, and the request is kept where it may be repeated
pub record IsMissed (l : LiveView) (p : Poll) (again : Option Asked) (r : Repeat) (v : WaitView) : Type 0 where
  pub retried : IsRetried v l.wire l.seat r
  pub form : HasForm v
  pub kept_is : again ≡ kept_for p.asked.value (may_repeat v.channel v.repeats)

pub record HasRepeated (l : LiveView) (p : Poll) (again : Option Asked) (r : Repeat) : Type 0 where
  pub over : PollOver l p r.hold (Some Retry) (IsMissed l p again r)
  pub served : IsServed l.seat

-- the hold was let go
pub record HasGone (l : LiveView) (s : DepartingStage) : Type 0 where
  pub rows : Polling l s.poll
  pub moment : ℕ
  pub attached : HasAttached l rows.heard.turns (PollsFor s.poll moment)
  pub detached : DetachedRow false l.seat s.hold.number
  pub holds : HoldsRow l.seat l.reports.items (over s.hold None)
  pub room : 0 < l.reports.spare
  pub share : Share
  pub is : IsOver l.seat s.hold None share
  pub asked_for : MayPoll s.poll share.spec
  pub bytes : Sent l.wire []
  pub by : PartsBy s.parting l

pub data HasDeparted (l : LiveView) (s : DepartingStage) : SessionEnd → Type 0 where
  gone : HasGone l s → HasDeparted l s (end_of s.parting)
  stays : StaysPolling l s.poll s.hold → HasDeparted l s Worn
