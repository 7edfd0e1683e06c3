-- Where a move leads, why a session waits, and how it ends.
use Rattle.std.specs.Prelude.{◌≡◌, ◌≢◌, ℕ, ◌<◌, ◌⊎◌, false, List, [], ◌++◌, length, All, Option, Some, None, Result, OnOk, IfErr, Bool, ⊤}
use Rattle.std.specs.List.{flat_map}
use Rattle.gp_plain.specs.declared.reply.EndCause.{EndCause}
use Rattle.gp_plain.specs.declared.reply.EndCause.TheVariants as cause_of_end
use Rattle.gp_hub.specs.declared.outcome.SessionEnd.{SessionEnd}
use Rattle.gp_hub.specs.declared.outcome.SessionEnd.TheVariants.{Sent as WasSent, Cut, ClientGone, Worn, NoMemory}
use Rattle.gp_hub.specs.declared.outcome.Why.{Why}
use Rattle.gp_hub.specs.declared.outcome.Why.TheVariants as why
use Rattle.gp_answer.specs.Refusals.{code_of}
use Rattle.gp_answer.specs.Frames.{framed_by}
use Rattle.gp_exchange.specs.Answers.{Waits, IsOverBy, head_of, rank as rank_of}
use Rattle.gp_exchange.specs.Views.{ExchangeView}
use Rattle.gp_exchange.specs.declared.answer.Last.TheVariants as last
use Rattle.gp_plain.specs.declared.http.Response.{Response}
use Rattle.std.specs.declared.alloc.AllocError.{AllocError}
use Rattle.gp_intake.specs.declared.body.Whole.{Whole}
use Rattle.gp_intake.specs.Requests.{HeadedView, IsHeaded}
use Rattle.gp_intake.specs.Bodies.{IsOpen}
use Rattle.gp_plain.specs.declared.http.Address.{Address}
use Rattle.gp_session.specs.Wires.{WireView, SaysMore, RequestRow, BytesRow, Shape, exactly, at_most}
use Rattle.gp_session.specs.Lines.{Said, Last, idle, speaking, hung}
use Rattle.gp_session.specs.Causes.{ReadWaited, WriteWaited, HasFailed, HasEnded}
use Rattle.gp_session_http.specs.declared.cause.Cause.{Cause}
use Rattle.gp_session_http.specs.declared.held.Held.{Held}
use Rattle.gp_session_http.specs.declared.held.Held.TheVariants.{Attaching, Declining, Streaming, Closing, Leaving, Beginning, Denying, Waiting, Answering, Departing}
use Rattle.gp_session_http.specs.declared.stage.Stage.{Stage}
use Rattle.gp_session_http.specs.declared.stage.Stage.TheVariants.{ReadingHead, ReadingBody, Refusing, Asking, Gathering, Giving, Failing, Passing, Finishing}
use Rattle.gp_session_http.specs.declared.stage.Ended.{Ended}
use Rattle.gp_session_http.specs.declared.stage.Next.{Next}
use Rattle.gp_session_http.specs.declared.stage.Next.TheVariants.{Go, Wait, Hold, End}
use Rattle.gp_session_http.specs.declared.passing.Step.{Step}
use Rattle.gp_session_http.specs.declared.passing.Step.TheVariants as step
use Rattle.gp_session_http.specs.declared.asked.Asked.{Asked}
use Rattle.gp_session_http.specs.declared.asking.Asking.{Asking as AskingStage}
use Rattle.gp_session_http.specs.declared.passing.Passing.{Passing as PassingStage}
use Rattle.gp_session_http.specs.declared.gathering.Gathering.{Gathering as GatheringStage}
use Rattle.gp_session_http.specs.declared.gathering.Gathered.{Gathered}
use Rattle.gp_session_http.specs.declared.gathering.Gathered.TheVariants as gathered
use Rattle.gp_instruct_json.specs.Answers.{IsAnswer}
use Rattle.gp_instruct_json.specs.declared.answer.Answer.{Answer}
use Rattle.gp_plain.specs.declared.http.Signer.{Signer}
use Rattle.gp_session_http.specs.Asking.{IsAskedFor, BeginsFor, HasGatheredHead, FailsBy}
use Rattle.gp_session_http.specs.Routing.{Charter, IsRefusedFor, IsServed, refusal_of, why_of}
use Rattle.gp_session_http.specs.Passing.{ArePartsOf, asked_of, origin_head, has_no_body, IsPassedOn, passed_text, head_by}
use Rattle.gp_session_http.specs.Views.{LiveView, Moved}
use Rattle.gp_session_http.specs.Holding.{HeldTold}
use Rattle.gp_session_http.specs.Turns.{Fresh, Past, PastOf}
use Rattle.gp_session_http.specs.Trace.{Serves, asked_in, IsPassing, IsGathering, Asks, last_of, HasAim, IsAt, text_of, moment_of, IsUnasked, TimesRow, Stays, Told}

-- how many moves that go on may follow, at the most
abbrev pub rank : Stage → ℕ
rank (ReadingHead s) = 5
rank (ReadingBody s) = 4
rank (Refusing s) = 1
rank (Asking s) = 3
rank (Gathering s) = 2
rank (Giving s) = 1
rank (Failing s) = 1
rank (Passing s) = 2
rank (Finishing s) = 1

-- the request isn't whole, and isn't refused
abbrev pub IsReading : Stage → Type 0
IsReading (ReadingHead s) = ⊤
IsReading (ReadingBody s) = ⊤
IsReading (Refusing s) = ⊥
IsReading (Asking s) = ⊥
IsReading (Gathering s) = ⊥
IsReading (Giving s) = ⊥
IsReading (Failing s) = ⊥
IsReading (Passing s) = ⊥
IsReading (Finishing s) = ⊥

abbrev pub IsUnread : Stage → Type 0
IsUnread (ReadingHead s) = ⊤
IsUnread (ReadingBody s) = IsOpen s.intake.body.reading
IsUnread (Refusing s) = ⊤
IsUnread (Asking s) = ⊤
IsUnread (Gathering s) = ⊤
IsUnread (Giving s) = ⊤
IsUnread (Failing s) = ⊤
IsUnread (Passing s) = ⊤
IsUnread (Finishing s) = ⊤

-- a talk is open; while a response is passed on this counts only where no bytes wait for the client
abbrev pub IsTalking : LiveView → Stage → Type 0
IsTalking l (ReadingHead s) = ⊥
IsTalking l (ReadingBody s) = ⊥
IsTalking l (Refusing s) = ⊥
IsTalking l (Asking s) = ⊤
IsTalking l (Gathering s) = ⊤
IsTalking l (Giving s) = ⊥
IsTalking l (Failing s) = ⊥
IsTalking l (Passing s) = l.wire.rest ≡ []
IsTalking l (Finishing s) = ⊥

-- the dialer waited for what the talk expects
abbrev pub DialWaited : LiveView → LiveView → Stage → Type 0
DialWaited v w (ReadingHead s) = ⊤
DialWaited v w (ReadingBody s) = ⊤
DialWaited v w (Refusing s) = ⊤
DialWaited v w (Asking s) = Waits s.exchange.place v.line.dial w.line.dial
DialWaited v w (Gathering s) = Waits s.exchange.place v.line.dial w.line.dial
DialWaited v w (Giving s) = ⊤
DialWaited v w (Failing s) = ⊤
DialWaited v w (Passing s) = Waits s.exchange.place v.line.dial w.line.dial
DialWaited v w (Finishing s) = ⊤

-- an activity that is open has its cause, and some activity is open
pub record Causes (v w : LiveView) (stage : Stage) : Type 0 where
  pub request : IsReading stage → IsUnread stage × ReadWaited v.wire w.wire
  pub talk : IsTalking w stage → DialWaited v w stage
  pub writes : w.wire.rest ≢ [] → WriteWaited v.wire w.wire
  pub some : IsReading stage ⊎ (IsTalking w stage ⊎ (w.wire.rest ≢ []))

-- so many parts of a body, each with at least one byte, were passed on
pub record PassedOn (v w : LiveView) (chunked : Bool) (count : ℕ) : Type 0 where
  pub parts : List (List ℕ)
  pub number : length parts ≡ count
  pub some : All (λ (part : List ℕ). 0 < length part) parts
  pub before : List ℕ
  pub says : SaysMore v.wire w.wire (before ++ flat_map (framed_by chunked) parts)

abbrev pub HasPassed : LiveView → LiveView → Stage → Type 0
HasPassed v w (ReadingHead s) = ⊥
HasPassed v w (ReadingBody s) = ⊥
HasPassed v w (Refusing s) = ⊥
HasPassed v w (Asking s) = ⊥
HasPassed v w (Gathering s) = ⊥
HasPassed v w (Giving s) = ⊥
HasPassed v w (Failing s) = ⊥
HasPassed v w (Passing s) = PassedOn v w s.passed.chunked 16
HasPassed v w (Finishing s) = ⊥

-- why a session waits: 16 parts were passed on, or each open activity has its cause
pub data Pends (v w : LiveView) (stage : Stage) : Type 0 where
  passed : HasPassed v w stage → Pends v w stage
  waits : Causes v w stage → Pends v w stage

-- a beginning of the bytes received was used
pub record Used (c : Charter) (stage : Stage) (received : List ℕ) : Type 0 where
  pub used : List ℕ
  pub unused : List ℕ
  pub split : received ≡ used ++ unused
  pub asks : Asks c stage used

-- at an end for want of memory bytes may have come that weren't used, the talk may have ended by it, a moment may have been used
-- for nothing, and the answer may be sent in part
abbrev pub AsksAtEnd : SessionEnd → Charter → Stage → List ℕ → Type 0
AsksAtEnd (WasSent code) c stage received = Asks c stage received
AsksAtEnd (Cut cause) c stage received = Asks c stage received
AsksAtEnd ClientGone c stage received = Asks c stage received
AsksAtEnd Worn c stage received = Asks c stage received
AsksAtEnd NoMemory c stage received = Used c stage received

abbrev pub IsAtEnd : SessionEnd → LiveView → Stage → List ℕ → List (List ℕ) → Type 0
IsAtEnd (WasSent code) l stage given parts = IsAt l.line stage given parts
IsAtEnd (Cut cause) l stage given parts = IsAt l.line stage given parts
IsAtEnd ClientGone l stage given parts = IsAt l.line stage given parts
IsAtEnd Worn l stage given parts = IsAt l.line stage given parts
IsAtEnd NoMemory l stage given parts = ⊤

abbrev pub TimesAtEnd : SessionEnd → LiveView → Stage → Type 0
TimesAtEnd (WasSent code) l stage = TimesRow l.watch (moment_of stage)
TimesAtEnd (Cut cause) l stage = TimesRow l.watch (moment_of stage)
TimesAtEnd ClientGone l stage = TimesRow l.watch (moment_of stage)
TimesAtEnd Worn l stage = TimesRow l.watch (moment_of stage)
TimesAtEnd NoMemory l stage = ⊤

abbrev pub shape_at_end : SessionEnd → List ℕ → Shape
shape_at_end (WasSent code) text = exactly text
shape_at_end (Cut cause) text = exactly text
shape_at_end ClientGone text = exactly text
shape_at_end Worn text = exactly text
shape_at_end NoMemory text = at_most text

-- the last talk is over
abbrev pub hung_up : Last → Last
hung_up idle = idle
hung_up (speaking said) = hung said
hung_up (hung said) = hung said

-- the rows at the end of a session, in its last stage
pub record ToldAtEnd (end : SessionEnd) (l : LiveView) (stage : Stage) : Type 0 where
  pub given : List ℕ
  pub parts : List (List ℕ)
  pub cut : ArePartsOf parts given
  pub request : RequestRow l.wire (AsksAtEnd end l.charter stage)
  pub talks : PastOf l.line l.charter l.seat l.reports.items (asked_in stage) (hung_up (last_of stage given))
  pub aim : HasAim l.charter stage
  pub at : IsAtEnd end l stage given parts
  pub bytes : BytesRow l.wire (shape_at_end end (text_of stage parts))
  pub times : TimesAtEnd end l stage
  pub stays : Stays l

-- the code of the answer that was sent whole
abbrev pub HasCode : Stage → ℕ → Type 0
HasCode (ReadingHead s) code = ⊥
HasCode (ReadingBody s) code = ⊥
HasCode (Refusing s) code = code ≡ code_of (refusal_of s.cause)
HasCode (Asking s) code = ⊥
HasCode (Gathering s) code = ⊥
HasCode (Giving s) code = code ≡ s.code
HasCode (Failing s) code = code ≡ 502
HasCode (Passing s) code = ⊥
HasCode (Finishing s) code = (code ≡ s.passed.code) × (s.cause ≡ cause_of_end.Closed)

-- the cause for which a response was cut
abbrev pub IsCutBy : Stage → EndCause → Type 0
IsCutBy (ReadingHead s) cause = ⊥
IsCutBy (ReadingBody s) cause = ⊥
IsCutBy (Refusing s) cause = ⊥
IsCutBy (Asking s) cause = ⊥
IsCutBy (Gathering s) cause = ⊥
IsCutBy (Giving s) cause = ⊥
IsCutBy (Failing s) cause = ⊥
IsCutBy (Passing s) cause = ⊥
IsCutBy (Finishing s) cause = (cause ≡ s.cause) × (s.cause ≡ cause_of_end.Unrecovered)

-- why the session ends so. Sent comes where all was sent, and so does Cut. The client is gone where its link failed, or where its
-- input ended before the request was whole
abbrev pub EndSays : SessionEnd → LiveView → Stage → Type 0
EndSays (WasSent code) l stage = (l.wire.rest ≡ []) × HasCode stage code
EndSays (Cut cause) l stage = (l.wire.rest ≡ []) × IsCutBy stage cause
EndSays ClientGone l stage = HasFailed l.wire ⊎ (HasEnded l.wire × IsReading stage × IsUnread stage)
EndSays Worn l stage = ⊥
EndSays NoMemory l stage = ⊤

-- the cause of a refusal is told
abbrev pub why_at : Stage → Why
why_at (ReadingHead s) = why.Nothing
why_at (ReadingBody s) = why.Nothing
why_at (Refusing s) = why_of s.cause
why_at (Asking s) = why.Nothing
why_at (Gathering s) = why.Nothing
why_at (Giving s) = why.Nothing
why_at (Failing s) = s.why
why_at (Passing s) = why.Nothing
why_at (Finishing s) = why.Nothing

pub record Finishes (l : LiveView) (ended : Ended) : Type 0 where
  pub stage : Stage
  pub told : ToldAtEnd ended.end l stage
  pub says : EndSays ended.end l stage
  pub why_is : ended.why ≡ why_at stage

-- how a session ends whose response ended so
abbrev pub end_by : ℕ → EndCause → SessionEnd
end_by code cause_of_end.Closed = WasSent code
end_by code cause_of_end.Detached = Cut cause_of_end.Detached
end_by code cause_of_end.Gap = Cut cause_of_end.Gap
end_by code cause_of_end.Unrecovered = Cut cause_of_end.Unrecovered
end_by code cause_of_end.Overflow = Cut cause_of_end.Overflow
end_by code cause_of_end.Answered = Cut cause_of_end.Answered
end_by code cause_of_end.Retry = Cut cause_of_end.Retry
end_by code cause_of_end.TimedOut = Cut cause_of_end.TimedOut

-- the hold that an answer asks for isn't attached yet
abbrev pub IsUnbegun : Held → Type 0
IsUnbegun (Attaching s) = ⊤
IsUnbegun (Declining s) = ⊥
IsUnbegun (Streaming s) = ⊥
IsUnbegun (Closing s) = ⊥
IsUnbegun (Leaving s) = ⊥
IsUnbegun (Beginning s) = ⊤
IsUnbegun (Denying s) = ⊥
IsUnbegun (Waiting s) = ⊥
IsUnbegun (Answering s) = ⊥
IsUnbegun (Departing s) = ⊥

-- where a move leads
abbrev pub LeadsTo : LiveView → LiveView → ℕ → Next → Type 0
LeadsTo v w n (Go stage) = Told w stage × (rank stage < n)
LeadsTo v w n (Wait stage) = Told w stage × Pends v w stage
LeadsTo v w n (Hold stage) = HeldTold w stage × IsUnbegun stage
LeadsTo v w n (End ended) = Finishes w ended

pub record Leads (v w : LiveView) (n : ℕ) (next : Next) : Type 0 where
  pub moved : Moved v w
  pub to : LeadsTo v w n next

-- what passing on one part, or what came in its place, leads to
pub record StepsOn (v w : LiveView) (chunked : Bool) (stage : Stage) : Type 0 where
  pub moved : Moved v w
  pub told : Told w stage
  pub part : List ℕ
  pub some : 0 < length part
  pub says : SaysMore v.wire w.wire (framed_by chunked part)

abbrev pub StepsTo : LiveView → LiveView → Bool → Step → Type 0
StepsTo v w chunked (step.Part next) = StepsOn v w chunked (Passing next) × (next.passed.chunked ≡ chunked)
StepsTo v w chunked (step.Next next) = Leads v w 2 next

-- nothing was asked or sent, and the bytes received are so
pub record IsUnanswered (l : LiveView) (Is : List ℕ → Type 0) : Type 0 where
  pub request : RequestRow l.wire Is
  pub talks : Fresh l.line l.seat l.reports.items
  pub bytes : BytesRow l.wire (exactly [])
  pub times : IsUnasked l.watch
  pub stays : Stays l

abbrev pub MayRefuse : LiveView → Cause → List ℕ → Type 0
MayRefuse l cause method = IsUnanswered l (IsRefusedFor l.charter.rules cause method)

abbrev pub IsHeadedAt : LiveView → HeadedView → Type 0
IsHeadedAt l v = IsUnanswered l (IsHeaded v)

abbrev pub IsServedAt : LiveView → Whole → Address → Type 0
IsServedAt l w address = IsUnanswered l (IsServed l.charter.rules w address)

-- the rows once the origin was asked, with the last exchange, and this text for the client
pub record HasAsked (l : LiveView) (asked : Asked) (x : ExchangeView) (last : Last) (text : List ℕ) : Type 0 where
  pub request : RequestRow l.wire (Serves l.charter asked)
  pub talks : Past l.line l.charter l.seat l.reports.items asked last
  pub aim : IsAskedFor l.charter.signer asked x.asked
  pub bytes : BytesRow l.wire (exactly text)
  pub times : TimesRow l.watch (Some asked.moment)
  pub stays : Stays l

abbrev pub said : ExchangeView → List ℕ → Said
said x given = record { exchange = x; given = given }

-- nothing was said to the client
abbrev pub IsSpeakingAt : LiveView → AskingStage → Type 0
IsSpeakingAt l s = HasAsked l s.asked s.exchange (speaking (said s.exchange [])) []

-- it begins to be asked
pub record IsBegunWith (signer : Signer) (asked : Asked) (s : AskingStage) : Type 0 where
  pub asked_is : s.asked ≡ asked
  pub begins : BeginsFor signer s.asked s.exchange

-- this head was given
pub record HasHeadOf (x : ExchangeView) (head : Response) : Type 0 where
  pub reading : rank_of x.place ≡ 4
  pub head_is : head_of x.place ≡ Some head

pub record IsAnsweredAt (l : LiveView) (s : AskingStage) (head : Response) : Type 0 where
  pub rows : IsSpeakingAt l s
  pub has : HasHeadOf s.exchange head

-- the client's head was put
pub record IsBegunAt (l : LiveView) (s : AskingStage) (head : Response) (status : Option ℕ) : Type 0 where
  pub rows : HasAsked l s.asked s.exchange (speaking (said s.exchange [])) (head_by s.asked head status)
  pub has : HasHeadOf s.exchange head

-- the talk is over, in which this content was given, and this is why there is no response
pub record IsFailedAt (l : LiveView) (s : AskingStage) (why : Why) : Type 0 where
  pub given : List ℕ
  pub parts : List (List ℕ)
  pub cut : ArePartsOf parts given
  pub rows : HasAsked l s.asked s.exchange (hung (said s.exchange given)) []
  pub fails : FailsBy l.line s.asked.request.head.method s.exchange given why

-- the same behind a body that was gathered
abbrev pub HasFailedAt : LiveView → GatheringStage → Why → Type 0
HasFailedAt l s why = IsFailedAt l (record { asked = s.asked; exchange = s.exchange }) why

-- so much of a body was gathered, and the talk has given this part too
pub record HasCome (l : LiveView) (s : GatheringStage) (part : List ℕ) : Type 0 where
  pub parts : List (List ℕ)
  pub cut : ArePartsOf parts s.content
  pub some : 0 < length part
  pub rows : HasAsked l s.asked s.exchange (speaking (said s.exchange (s.content ++ part))) []
  pub at : IsGathering s s.content

-- a whole body was gathered, and the talk is over
pub record HasComeAll (l : LiveView) (s : GatheringStage) : Type 0 where
  pub parts : List (List ℕ)
  pub cut : ArePartsOf parts s.content
  pub rows : HasAsked l s.asked s.exchange (hung (said s.exchange s.content)) []
  pub over : IsOverBy last.End s.exchange.place
  pub has : HasGatheredHead s.asked.request.head.method s.exchange s.head

-- and this was read of it
pub record IsAnsweredWith (l : LiveView) (s : AskingStage) (answer : Answer) : Type 0 where
  pub head : Response
  pub content : List ℕ
  pub parts : List (List ℕ)
  pub cut : ArePartsOf parts content
  pub rows : HasAsked l s.asked s.exchange (hung (said s.exchange content)) []
  pub over : IsOverBy last.End s.exchange.place
  pub has : HasGatheredHead s.asked.request.head.method s.exchange head
  pub read : IsAnswer head content answer

-- a part that comes makes the content longer
pub record GathersOn (v w : LiveView) (count : ℕ) (s : GatheringStage) : Type 0 where
  pub moved : Moved v w
  pub told : Told w (Gathering s)
  pub more : count < length s.content

abbrev pub GathersTo : LiveView → LiveView → ℕ → Gathered → Type 0
GathersTo v w count (gathered.More stage) = GathersOn v w count stage
GathersTo v w count (gathered.Next next) = Leads v w 2 next

-- so much of a body was passed on, and the talk has given this part too
pub record HasGiven (l : LiveView) (s : PassingStage) (part : List ℕ) : Type 0 where
  pub given : List ℕ
  pub parts : List (List ℕ)
  pub cut : ArePartsOf parts given
  pub some : 0 < length part
  pub rows : HasAsked l (asked_of s.passed) s.exchange (speaking (said s.exchange (given ++ part))) (passed_text s.passed parts None)
  pub at : IsPassing s.passed s.exchange

-- all of a body was passed on, and the talk is over
pub record HasGivenAll (l : LiveView) (s : PassingStage) : Type 0 where
  pub given : List ℕ
  pub parts : List (List ℕ)
  pub cut : ArePartsOf parts given
  pub rows : HasAsked l (asked_of s.passed) s.exchange (hung (said s.exchange given)) (passed_text s.passed parts None)
  pub over : IsOverBy last.End s.exchange.place
  pub head : head_of s.exchange.place ≡ Some (origin_head s.passed)
  pub on : IsPassedOn s.passed
  pub body : has_no_body s.passed ≡ false

-- a part is put in its framing, or nothing has changed
pub record PutsPart (v w : WireView) (chunked : Bool) (part : List ℕ) (result : Result ⊤ (List ℕ × AllocError)) : Type 0 where
  pub start : w.start ≡ v.start
  pub link : w.link ≡ v.link
  pub ok : OnOk result (w.rest ≡ v.rest ++ framed_by chunked part)
  pub err : IfErr result (λ (e : List ℕ × AllocError). w.rest ≡ v.rest)
