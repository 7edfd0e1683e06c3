-- What is asked of an origin for a client, and why an origin's answer can't be passed on.
use Rattle.std.specs.Prelude.{◌≡◌, ◌≢◌, ℕ, ◌-◌, ◌^◌, ◌<◌, ◌⊎◌, Bool, true, false, List, [], ◌∷◌, length, All, bytes_eq, codes, Option, Some, None, option_map, Result, Ok, Err, ⊤}
use Rattle.gp_plain.specs.declared.http.Response.{Response}
use Rattle.gp_plain.specs.declared.http.Signer.{Signer}
use Rattle.gp_body.specs.declared.plan.BodyPlan.{BodyPlan}
use Rattle.gp_body.specs.declared.plan.BodyPlan.TheVariants.{None as NoBody, Length, Chunked, ToClose}
use Rattle.gp_body.specs.declared.plan.BodyFault.{BodyFault}
use Rattle.gp_body.specs.Plans.{plan_of_request}
use Rattle.gp_head.specs.Writable.{IsFieldValue}
use Rattle.gp_again.specs.Texts.{sig_at, last_text}
use Rattle.gp_forward.specs.Alone.{IsForwarded}
use Rattle.gp_forward.specs.Conditions.{CanAsk}
use Rattle.gp_instruct.specs.declared.instruct.Instruct.{Instruct}
use Rattle.gp_instruct.specs.declared.instruct.Mode.{Mode as Hold}
use Rattle.gp_instruct.specs.declared.fault.InstructFault.{InstructFault}
use Rattle.gp_instruct.specs.declared.fault.InstructFault.TheVariants.{NoMemory as OutOfMemory}
use Rattle.gp_instruct.specs.Heads.{IsInstruct, IsInstructFault}
use Rattle.gp_instruct_json.specs.Kinds.{has_type}
use Rattle.gp_instruct_json.specs.Answers.{IsAnswer, IsAnswerRefused}
use Rattle.gp_instruct_json.specs.declared.answer.Answer.{Answer}
use Rattle.gp_outside.specs.Counts.{Rose}
use Rattle.gp_hub.specs.declared.outcome.Why.{Why}
use Rattle.gp_hub.specs.declared.outcome.Why.TheVariants as why
use Rattle.gp_exchange.specs.Views.{AskedView, ExchangeView}
use Rattle.gp_exchange.specs.Answers.{rank, head_of, IsOverBy}
use Rattle.gp_exchange.specs.declared.answer.ExchangeFault.{ExchangeFault}
use Rattle.gp_exchange.specs.declared.answer.ExchangeFault.TheVariants as fault
use Rattle.gp_exchange.specs.declared.answer.Last.TheVariants as last
use Rattle.gp_exchange.specs.declared.place.Place.TheVariants.{Unbegun}
use Rattle.gp_session.specs.Lines.{LineView}
use Rattle.gp_session_wait.specs.declared.wait.Last.{Last as LastItem}
use Rattle.gp_session_http.specs.declared.asked.Asked.{Asked}
use Rattle.gp_session_http.specs.declared.grant.Wish.TheVariants.{LongStream, LongPoll}
use Rattle.gp_session_http.specs.Wishes.{IsWish, most_gathered}
use Rattle.gp_session_http.specs.declared.verdict.Verdict.{Verdict}
use Rattle.gp_session_http.specs.declared.verdict.Verdict.TheVariants.{Pass, Gather, Refuse, NoMemory}

-- a request that was planned to have a body is forwarded with it
abbrev pub body_sent : Result BodyPlan BodyFault → List ℕ → Option (List ℕ)
body_sent (Ok NoBody) body = None
body_sent (Ok (Length bytes)) body = Some body
body_sent (Ok Chunked) body = Some body
body_sent (Ok ToClose) body = Some body
body_sent (Err fault) body = None

-- how an origin is told of the last item that a client has, where it is told of one
abbrev pub lasts_of : Option LastItem → List (List ℕ)
lasts_of None = []
lasts_of (Some item) = last_text item.channel item.id ∷ []

abbrev pub AreValues : List (List ℕ) → Type 0
AreValues lasts = All IsFieldValue lasts

-- the request again, at a moment, for a client that has this item last
abbrev pub asked_after : LastItem → ℕ → ℕ → Asked → Asked
asked_after item repeats moment asked = record { request = asked.request; address = asked.address; moment = moment; repeats = repeats; last = Some item }

-- what is asked in the talk: the forwarded request, of the picked address, with the token of that moment, and with the last item that
-- the client has where the request is repeated; the response may have a body of any length
pub record IsAskedFor (signer : Signer) (asked : Asked) (a : AskedView) : Type 0 where
  pub to : a.to ≡ asked.address
  pub request : IsForwarded asked.request.head (body_sent (plan_of_request asked.request.head) asked.request.body) asked.address (sig_at signer asked.moment) (lasts_of asked.last) a.request
  pub method : a.method ≡ asked.request.head.method
  pub limit : a.limit ≡ 2 ^ 64 - 1

-- an exchange that has asked nothing yet
pub record BeginsFor (signer : Signer) (asked : Asked) (x : ExchangeView) : Type 0 where
  pub asks : IsAskedFor signer asked x.asked
  pub unbegun : x.place ≡ Unbegun x.asked.request

-- what can be asked
pub record IsAskable (asked : Asked) : Type 0 where
  pub request : CanAsk asked.request.head
  pub host : IsFieldValue asked.address.host

-- no head was given yet
pub record ExpectsHead (x : ExchangeView) : Type 0 where
  pub early : rank x.place < 4
  pub none : head_of x.place ≡ None

abbrev pub is_head : List ℕ → Bool
is_head method = bytes_eq method (codes "HEAD")

-- the fields of an answer ask for no hold, and for this status in place of its own
abbrev pub AsksNoHold : Response → Option ℕ → Type 0
AsksNoHold head status = (IsInstruct head.fields None × (status ≡ None)) ⊎ ((i : Instruct) × IsInstruct head.fields (Some i) × (i.mode ≡ None) × (status ≡ i.status))

-- an answer to this method that is passed on, with its own status or this one; nothing is read of the instructions of an answer
-- to HEAD
pub record IsPassedWith (head : Response) (status : Option ℕ) : Type 0 where
  pub plain : has_type head.fields ≡ false
  pub asks : AsksNoHold head status

abbrev pub IsPassed : List ℕ → Response → Option ℕ → Type 0
IsPassed method head status = ((is_head method ≡ true) × (status ≡ None)) ⊎ ((is_head method ≡ false) × IsPassedWith head status)

-- an answer whose body is gathered: it is an instruction, or its fields ask for a hold
abbrev pub AsksInFields : Response → Hold → Type 0
AsksInFields head mode = (has_type head.fields ≡ false) × ((i : Instruct) × IsInstruct head.fields (Some i) × (i.mode ≡ Some mode))

abbrev pub AsksToGather : Response → Type 0
AsksToGather head = (has_type head.fields ≡ true) ⊎ ((mode : Hold) × AsksInFields head mode)

abbrev pub IsGathered : List ℕ → Response → Type 0
IsGathered method head = (is_head method ≡ false) × AsksToGather head

-- an answer that isn't passed on: its instruction is refused
abbrev pub IsInstructRefused : Response → Type 0
IsInstructRefused head = (has_type head.fields ≡ false) × ((f : InstructFault) × IsInstructFault head.fields f × (f ≢ OutOfMemory))

abbrev pub IsVerdict : List ℕ → Response → Verdict → Type 0
IsVerdict method head (Pass status) = IsPassed method head status
IsVerdict method head Gather = IsGathered method head
IsVerdict method head Refuse = (is_head method ≡ false) × IsInstructRefused head
IsVerdict method head NoMemory = ⊤

-- the same where the answer isn't to HEAD
abbrev pub IsReadVerdict : Response → Verdict → Type 0
IsReadVerdict head (Pass status) = IsPassedWith head status
IsReadVerdict head Gather = AsksToGather head
IsReadVerdict head Refuse = IsInstructRefused head
IsReadVerdict head NoMemory = ⊤

-- a fault of the bytes that the origin sent
abbrev pub IsOriginFault : ExchangeFault → Type 0
IsOriginFault fault.Dial = ⊥
IsOriginFault fault.Head = ⊤
IsOriginFault fault.Interim = ⊤
IsOriginFault (fault.Plan f) = ⊤
IsOriginFault (fault.Body f) = ⊤

-- why there is no response
abbrev pub why_failed : ExchangeFault → Why
why_failed fault.Dial = why.Dial
why_failed fault.Head = why.Origin
why_failed fault.Interim = why.Origin
why_failed (fault.Plan f) = why.Origin
why_failed (fault.Body f) = why.Origin

-- the head of an answer whose body is gathered was given
pub record HasGatheredHead (method : List ℕ) (x : ExchangeView) (head : Response) : Type 0 where
  pub given : head_of x.place ≡ Some head
  pub gathered : IsGathered method head

-- nothing of the answer was passed on: no head was given, or its body is gathered
abbrev pub IsUnpassed : List ℕ → ExchangeView → Type 0
IsUnpassed method x = (head_of x.place ≡ None) ⊎ ((head : Response) × HasGatheredHead method x head)

-- the dialer failed, or the bytes of the talk are no response
pub record FailsByDial (l : LineView) (method : List ℕ) (x : ExchangeView) : Type 0 where
  pub over : IsOverBy (last.Fault fault.Dial) x.place
  pub unpassed : IsUnpassed method x
  pub faults : Rose l.start.faults l.dial.faults

pub record FailsByBytes (method : List ℕ) (x : ExchangeView) : Type 0 where
  pub fault : ExchangeFault
  pub over : IsOverBy (last.Fault fault) x.place
  pub unpassed : IsUnpassed method x
  pub bytes : IsOriginFault fault

-- the content that was gathered is too long
pub record FailsByLength (method : List ℕ) (x : ExchangeView) (content : List ℕ) : Type 0 where
  pub head : Response
  pub reading : rank x.place ≡ 4
  pub has : HasGatheredHead method x head
  pub long : most_gathered head < length content

-- or the opening that it gives is, or the response that a long poll has of its own
pub record FailsByOpening (method : List ℕ) (x : ExchangeView) (content : List ℕ) : Type 0 where
  pub head : Response
  pub has : HasGatheredHead method x head
  pub over : IsOverBy last.End x.place
  pub answer : Answer
  pub read : IsAnswer head content answer
  pub wish : IsWish answer LongStream ⊎ IsWish answer LongPoll

-- the head that was given is refused
pub record FailsByHead (method : List ℕ) (x : ExchangeView) : Type 0 where
  pub head : Response
  pub reading : rank x.place ≡ 4
  pub given : head_of x.place ≡ Some head
  pub get : is_head method ≡ false
  pub refused : IsInstructRefused head

-- or what the whole content asks for is
pub record FailsByContent (method : List ℕ) (x : ExchangeView) (content : List ℕ) : Type 0 where
  pub head : Response
  pub has : HasGatheredHead method x head
  pub over : IsOverBy last.End x.place
  pub refused : IsAnswerRefused head content

abbrev pub FailsBy : LineView → List ℕ → ExchangeView → List ℕ → Why → Type 0
FailsBy l method x content why.Nothing = ⊥
FailsBy l method x content why.Head = ⊥
FailsBy l method x content why.Body = ⊥
FailsBy l method x content why.Route = ⊥
FailsBy l method x content why.Dial = FailsByDial l method x
FailsBy l method x content why.Origin = FailsByBytes method x ⊎ (FailsByLength method x content ⊎ FailsByOpening method x content)
FailsBy l method x content why.Instruct = FailsByHead method x ⊎ FailsByContent method x content
FailsBy l method x content (why.Items place) = ⊥
FailsBy l method x content why.Full = ⊥
