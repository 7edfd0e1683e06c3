-- Which requests are forwarded and where, and why others are refused (RFC 9110, section 15.5).
use Rattle.std.specs.Prelude.{◌≡◌, ℕ, true, false, List, ◌++◌, codes, Some, None, ⊤}
use Rattle.gp_plain.specs.declared.http.Address.{Address}
use Rattle.gp_plain.specs.declared.http.Request.{Request}
use Rattle.gp_plain.specs.declared.http.Signer.{Signer}
use Rattle.gp_text.specs.Lists.{first_value}
use Rattle.gp_head.specs.Texts.{response_text}
use Rattle.gp_routes.specs.declared.route.Route.{Route}
use Rattle.gp_routes.specs.declared.route.Rule.{Rule}
use Rattle.gp_routes.specs.Rules.{IsRoute}
use Rattle.gp_routes.specs.Picks.{picked}
use Rattle.gp_ws.specs.Handshakes.{is_upgrade}
use Rattle.gp_forward.specs.Forwards.{bytes_or}
use Rattle.gp_hub.specs.declared.outcome.Why.{Why}
use Rattle.gp_hub.specs.declared.outcome.Why.TheVariants as why
use Rattle.gp_answer.specs.declared.refusal.Refusal.{Refusal}
use Rattle.gp_answer.specs.declared.refusal.Refusal.TheVariants.{BadRequest, NotFound, NotImplemented, ContentTooLarge, HeadTooLarge as TooLargeHead}
use Rattle.gp_answer.specs.Refusals.{refusal_head, refusal_body}
use Rattle.gp_intake.specs.declared.fault.RequestFault.{RequestFault}
use Rattle.gp_intake.specs.declared.fault.RequestFault.TheVariants.{HeadTooLarge, Head, Target, Host, Plan, Chunk, TooLong}
use Rattle.gp_intake.specs.declared.body.Whole.{Whole}
use Rattle.gp_intake.specs.Requests.{HeadedView, IsHeaded, IsWhole, IsHeadRefusedBy, IsBodyRefusedBy}
use Rattle.gp_session_http.specs.declared.cause.Cause.{Cause}
use Rattle.gp_session_http.specs.declared.cause.Destination.{Destination}
use Rattle.gp_session_http.specs.declared.cause.Destination.TheVariants.{Origin, Refused, NoMemory}
use Rattle.gp_session_http.specs.declared.cause.Cause.TheVariants as cause

-- what a session is made with, and never changes: the routes, the key of its tokens, and its tag
pub record Charter : Type 0 where
  pub rules : List Rule
  pub signer : Signer
  pub tag : List ℕ

-- the value of the first `host` field, or no byte where there is none
abbrev pub host_of : Request → List ℕ
host_of head = bytes_or (first_value (codes "host") head.fields)

-- a request with this head and path is picked this route, and doesn't ask for a WebSocket
pub record IsRoutedTo (rules : List Rule) (head : Request) (path : List ℕ) (route : Route) : Type 0 where
  pub picked_is : picked (host_of head) path rules ≡ Some route
  pub good : IsRoute route
  pub plain : is_upgrade head ≡ false

-- such a route has this address
pub record IsRouted (rules : List Rule) (head : Request) (path : List ℕ) (address : Address) : Type 0 where
  pub route : Route
  pub is : IsRoutedTo rules head path route
  pub address_is : address ≡ route.address

-- a request that a route matches, and that asks for a WebSocket
pub record IsUpgrade (rules : List Rule) (head : Request) (path : List ℕ) : Type 0 where
  pub route : Route
  pub picked_is : picked (host_of head) path rules ≡ Some route
  pub asks : is_upgrade head ≡ true

-- why a request with this head isn't forwarded; the routes are tried first
abbrev pub IsUnrouted : List Rule → Request → List ℕ → Cause → Type 0
IsUnrouted rules head path (cause.Request fault) = ⊥
IsUnrouted rules head path cause.Route = picked (host_of head) path rules ≡ None
IsUnrouted rules head path cause.Upgrade = IsUpgrade rules head path

abbrev pub IsDestination : List Rule → Request → List ℕ → Destination → Type 0
IsDestination rules head path (Origin address) = IsRouted rules head path address
IsDestination rules head path (Refused c) = IsUnrouted rules head path c
IsDestination rules head path NoMemory = ⊤

-- a whole request that is forwarded to this address
pub record IsServed (rules : List Rule) (w : Whole) (address : Address) (received : List ℕ) : Type 0 where
  pub whole : IsWhole w received
  pub routed : IsRouted rules w.head w.path address

-- a head that is served, for which this is the cause
pub record HasUnroutedHead (rules : List Rule) (c : Cause) (method received : List ℕ) : Type 0 where
  pub v : HeadedView
  pub headed : IsHeaded v received
  pub unrouted : IsUnrouted rules v.head v.path c
  pub method_is : method ≡ v.head.method

-- the body of a request that would be forwarded is refused
pub record HasRefusedBody (rules : List Rule) (fault : RequestFault) (method received : List ℕ) : Type 0 where
  pub head : Request
  pub path : List ℕ
  pub address : Address
  pub routed : IsRouted rules head path address
  pub refused : IsBodyRefusedBy head path received fault method

-- a request that isn't served; its body is read only where its head would be forwarded
abbrev pub IsUnserved : List Rule → RequestFault → List ℕ → List ℕ → Type 0
IsUnserved rules HeadTooLarge method received = IsHeadRefusedBy received HeadTooLarge method
IsUnserved rules Head method received = IsHeadRefusedBy received Head method
IsUnserved rules Target method received = IsHeadRefusedBy received Target method
IsUnserved rules Host method received = IsHeadRefusedBy received Host method
IsUnserved rules (Plan fault) method received = IsHeadRefusedBy received (Plan fault) method
IsUnserved rules (Chunk place) method received = HasRefusedBody rules (Chunk place) method received
IsUnserved rules TooLong method received = HasRefusedBody rules TooLong method received

-- the bytes received are refused for this, and this is the method, where one was read
abbrev pub IsRefusedFor : List Rule → Cause → List ℕ → List ℕ → Type 0
IsRefusedFor rules (cause.Request fault) method received = IsUnserved rules fault method received
IsRefusedFor rules cause.Route method received = HasUnroutedHead rules cause.Route method received
IsRefusedFor rules cause.Upgrade method received = HasUnroutedHead rules cause.Upgrade method received

-- what is answered
abbrev pub request_refusal : RequestFault → Refusal
request_refusal HeadTooLarge = TooLargeHead
request_refusal Head = BadRequest
request_refusal Target = BadRequest
request_refusal Host = BadRequest
request_refusal (Plan fault) = BadRequest
request_refusal (Chunk place) = BadRequest
request_refusal TooLong = ContentTooLarge

abbrev pub refusal_of : Cause → Refusal
refusal_of (cause.Request fault) = request_refusal fault
refusal_of cause.Route = NotFound
refusal_of cause.Upgrade = NotImplemented

-- what the outcome tells
abbrev pub request_why : RequestFault → Why
request_why HeadTooLarge = why.Head
request_why Head = why.Head
request_why Target = why.Head
request_why Host = why.Head
request_why (Plan fault) = why.Body
request_why (Chunk place) = why.Body
request_why TooLong = why.Body

abbrev pub why_of : Cause → Why
why_of (cause.Request fault) = request_why fault
why_of cause.Route = why.Route
why_of cause.Upgrade = why.Route

abbrev pub refusal_text : Refusal → List ℕ → List ℕ
refusal_text refusal method = response_text (refusal_head refusal) ++ refusal_body refusal method
