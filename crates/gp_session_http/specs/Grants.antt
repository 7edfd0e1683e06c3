-- What is held for an answer that asks for a stream, and how the stream begins (RFC 9112, sections 6 and 7).
use Rattle.std.specs.Prelude.{◌≡◌, ℕ, List, false, Option, Some, None}
use Rattle.gp_plain.specs.declared.event.HoldSpec.{HoldSpec}
use Rattle.gp_plain.specs.declared.event.HoldSpec.TheVariants.{Stream as StreamSpec, Plain, Response, Socket}
use Rattle.gp_head.specs.Texts.{response_text}
use Rattle.gp_answer.specs.Answers.{answer_head}
use Rattle.gp_answer.specs.Framings.{streamed}
use Rattle.gp_instruct.specs.declared.instruct.Instruct.{Instruct}
use Rattle.gp_instruct.specs.Spec.{spec}
use Rattle.gp_instruct_json.specs.declared.answer.Answer.{Answer}
use Rattle.gp_exchange.specs.Views.{ExchangeView}
use Rattle.gp_again.specs.Views.{AgainView}
use Rattle.gp_session_http.specs.declared.asked.Asked.{Asked}
use Rattle.gp_session_http.specs.declared.attaching.Attaching.{Attaching}
use Rattle.gp_session_http.specs.declared.grant.Grant.{Grant}
use Rattle.gp_session_http.specs.declared.grant.Wanted.{Wanted}
use Rattle.gp_session_http.specs.declared.grant.Wish.TheVariants.{Stream}
use Rattle.gp_session_http.specs.Wishes.{IsWish, status_of}
use Rattle.gp_session_http.specs.Passing.{code_by, reason_by, in_chunks}

-- the head with which a stream begins: its body is of unknown length
abbrev pub stream_head_by : Answer → ℕ → List ℕ
stream_head_by answer version =
    response_text (answer_head (code_by answer.head (status_of answer.instruct)) (reason_by answer.head (status_of answer.instruct)) answer.head.fields (streamed version))

abbrev pub hold_by : Option Instruct → List ℕ → ℕ → Option HoldSpec
hold_by None body now = None
hold_by (Some instruct) body now = spec instruct body now false

-- the hold that an answer asks for at a moment
abbrev pub IsHoldOf : Answer → ℕ → HoldSpec → Type 0
IsHoldOf answer now held = hold_by answer.instruct answer.body now ≡ Some held

-- the link of an instruction, and the channel of a hold that has a position on it
abbrev pub link_of : Option Instruct → Option (List ℕ)
link_of None = None
link_of (Some instruct) = instruct.link

abbrev pub channel_of : HoldSpec → Option (List ℕ)
channel_of (StreamSpec opening channel prev link) = Some channel
channel_of (Plain opening channels) = None
channel_of (Response channels prev deadline again) = None
channel_of Socket = None

-- whom a stream asks for what it missed: the origin of the request, with the request's version and fields, on the hold's channel, by the link.
-- It asks nobody without such a channel or without a link
abbrev pub asking_by : Asked → List ℕ → List ℕ → AgainView
asking_by asked channel link = record { version = asked.request.head.version; fields = asked.request.head.fields; address = asked.address; channel = channel; link = link }

abbrev pub source_by : Asked → Option (List ℕ) → Option (List ℕ) → Option AgainView
source_by asked None link = None
source_by asked (Some channel) None = None
source_by asked (Some channel) (Some link) = Some (asking_by asked channel link)

abbrev pub source_at : Asked → Option (List ℕ) → HoldSpec → Option AgainView
source_at asked link held = source_by asked (channel_of held) link

abbrev pub source_of : Grant → HoldSpec → Option AgainView
source_of g held = source_at g.asked.value (link_of g.answer.value.instruct) held

-- what is remembered of an answer that asks for a stream, its status and its framing
pub record IsGrantOf (asked : Asked) (x : ExchangeView) (answer : Answer) (g : Grant) : Type 0 where
  pub asked_is : g.asked.value ≡ asked
  pub exchange_is : g.exchange.value ≡ x
  pub answer_is : g.answer.value ≡ answer
  pub code : g.code ≡ code_by answer.head (status_of answer.instruct)
  pub chunked : g.chunked ≡ in_chunks (streamed asked.request.head.version)

-- what an answer asks for, of a client of a version, at a moment
pub record IsWanted (answer : Answer) (version now : ℕ) (g : Wanted) : Type 0 where
  pub head : g.head ≡ stream_head_by answer version
  pub spec_is : IsHoldOf answer now g.spec
  pub link_is : g.link ≡ link_of answer.instruct

pub record IsAttachingOf (grant : Grant) (asked : Asked) (g : Wanted) (a : Attaching) : Type 0 where
  pub grant_is : a.grant ≡ grant
  pub head_is : a.head ≡ g.head
  pub spec_is : a.spec ≡ g.spec
  pub again : a.again ≡ source_at asked g.link g.spec

pub record IsPrepared (asked : Asked) (x : ExchangeView) (answer : Answer) (a : Attaching) : Type 0 where
  pub grant : IsGrantOf asked x answer a.grant
  pub head : a.head ≡ stream_head_by answer asked.request.head.version
  pub spec_is : IsHoldOf answer asked.moment a.spec
  pub again : a.again ≡ source_at asked (link_of answer.instruct) a.spec

abbrev pub stream_head : Grant → List ℕ
stream_head g = stream_head_by g.answer.value g.asked.value.request.head.version

-- such a hold is asked for
abbrev pub AsksFor : Grant → HoldSpec → Type 0
AsksFor g held = IsHoldOf g.answer.value g.asked.value.moment held

-- the answer asks for a stream; its code and its framing are those of the client's answer
pub record IsGrant (g : Grant) : Type 0 where
  pub wish : IsWish g.answer.value Stream
  pub code : g.code ≡ code_by g.answer.value.head (status_of g.answer.value.instruct)
  pub chunked : g.chunked ≡ in_chunks (streamed g.asked.value.request.head.version)
