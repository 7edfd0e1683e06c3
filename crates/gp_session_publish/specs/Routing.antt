-- Which publish requests are served, and why others are refused (RFC 9110, section 15.5).
use Rattle.std.specs.Prelude.{◌≡◌, ℕ, Bool, true, false, not, ◌||◌, List, ◌++◌, bytes_eq, codes, Option, Some, None, if◌then◌else◌}
use Rattle.gp_plain.specs.declared.http.Request.{Request}
use Rattle.gp_head.specs.Texts.{response_text}
use Rattle.gp_hub.specs.declared.outcome.Why.{Why}
use Rattle.gp_hub.specs.declared.outcome.Why.TheVariants as why
use Rattle.gp_answer.specs.declared.refusal.Refusal.{Refusal}
use Rattle.gp_answer.specs.declared.refusal.Refusal.TheVariants.{BadRequest, NotFound, MethodNotAllowed, ContentTooLarge, HeadTooLarge as TooLargeHead}
use Rattle.gp_answer.specs.Refusals.{refusal_head, refusal_body, published_head, published_text}
use Rattle.gp_items.specs.declared.fault.ItemsFault.{ItemsFault}
use Rattle.gp_items.specs.declared.fault.ItemsFault.TheVariants as items
use Rattle.gp_items.specs.Items.{IsItemsFault}
use Rattle.gp_intake.specs.declared.fault.RequestFault.{RequestFault}
use Rattle.gp_intake.specs.declared.fault.RequestFault.TheVariants.{HeadTooLarge, Head, Target, Host, Plan, Chunk, TooLong}
use Rattle.gp_intake.specs.declared.body.Whole.{Whole}
use Rattle.gp_intake.specs.Requests.{HeadedView, IsHeaded, IsWhole, IsHeadRefusedBy, IsBodyRefusedBy}
use Rattle.gp_session_publish.specs.declared.cause.Cause.{Cause}
use Rattle.gp_session_publish.specs.declared.cause.Cause.TheVariants as cause

-- the path and query of a publish request
abbrev pub is_path : List ℕ → Bool
is_path path = bytes_eq path (codes "/publish") || bytes_eq path (codes "/publish/")

abbrev pub is_post : List ℕ → Bool
is_post method = bytes_eq method (codes "POST")

-- a request to a publisher
pub record IsRouted (head : Request) (path : List ℕ) : Type 0 where
  pub path_is : is_path path ≡ true
  pub method : is_post head.method ≡ true

-- why a request with this head isn't one; the path is tried first
abbrev pub cause_of : HeadedView → Option Cause
cause_of v = if not (is_path v.path) then Some cause.Path else (if not (is_post v.head.method) then Some cause.Method else None)

-- a whole request to a publisher
pub record IsPublish (w : Whole) (received : List ℕ) : Type 0 where
  pub whole : IsWhole w received
  pub routed : IsRouted w.head w.path

-- the place that a fault of items names, or 0 where it names none
abbrev pub place_of : ItemsFault → Option ℕ
place_of items.NotJson = Some 0
place_of items.NoItems = Some 0
place_of (items.TooMany count) = Some 0
place_of (items.Member place name) = Some place
place_of (items.Base64 place name) = Some place
place_of (items.Long place length) = Some place
place_of (items.Name place fault) = Some place
place_of items.NoMemory = None

-- a head that is served, to another path
pub record IsElsewhere (received method : List ℕ) : Type 0 where
  pub v : HeadedView
  pub headed : IsHeaded v received
  pub path : is_path v.path ≡ false
  pub method_is : method ≡ v.head.method

-- a head that is served, to this path, with another method
pub record IsOtherMethod (received method : List ℕ) : Type 0 where
  pub v : HeadedView
  pub headed : IsHeaded v received
  pub path : is_path v.path ≡ true
  pub other : is_post v.head.method ≡ false
  pub method_is : method ≡ v.head.method

-- a publish request whose items are refused, and the place of their first fault
pub record HasRefusedItems (received method : List ℕ) (place : ℕ) : Type 0 where
  pub w : Whole
  pub publish : IsPublish w received
  pub fault : ItemsFault
  pub refused : IsItemsFault w.body fault
  pub place_is : place_of fault ≡ Some place
  pub method_is : method ≡ w.head.method

-- the body of a publish request is refused
pub record HasRefusedPublish (received : List ℕ) (fault : RequestFault) (method : List ℕ) : Type 0 where
  pub head : Request
  pub path : List ℕ
  pub routed : IsRouted head path
  pub refused : IsBodyRefusedBy head path received fault method

-- a request that isn't served; its body is read only where it is one to a publisher
abbrev pub IsUnserved : RequestFault → List ℕ → List ℕ → Type 0
IsUnserved HeadTooLarge method received = IsHeadRefusedBy received HeadTooLarge method
IsUnserved Head method received = IsHeadRefusedBy received Head method
IsUnserved Target method received = IsHeadRefusedBy received Target method
IsUnserved Host method received = IsHeadRefusedBy received Host method
IsUnserved (Plan fault) method received = IsHeadRefusedBy received (Plan fault) method
IsUnserved (Chunk place) method received = HasRefusedPublish received (Chunk place) method
IsUnserved TooLong method received = HasRefusedPublish received TooLong method

-- the bytes received are refused for this, and this is the method, where one was read
abbrev pub IsRefusedFor : Cause → List ℕ → List ℕ → Type 0
IsRefusedFor (cause.Request fault) method received = IsUnserved fault method received
IsRefusedFor cause.Path method received = IsElsewhere received method
IsRefusedFor cause.Method method received = IsOtherMethod received method
IsRefusedFor (cause.Items place) method received = HasRefusedItems received method place

-- what is answered
abbrev pub request_refusal : RequestFault → Refusal
request_refusal HeadTooLarge = TooLargeHead
request_refusal Head = BadRequest
request_refusal Target = BadRequest
request_refusal Host = BadRequest
request_refusal (Plan fault) = BadRequest
request_refusal (Chunk place) = BadRequest
request_refusal TooLong = ContentTooLarge

abbrev pub refusal_of : Cause → Refusal
refusal_of (cause.Request fault) = request_refusal fault
refusal_of cause.Path = NotFound
refusal_of cause.Method = MethodNotAllowed
refusal_of (cause.Items place) = BadRequest

-- what the outcome tells
abbrev pub request_why : RequestFault → Why
request_why HeadTooLarge = why.Head
request_why Head = why.Head
request_why Target = why.Head
request_why Host = why.Head
request_why (Plan fault) = why.Body
request_why (Chunk place) = why.Body
request_why TooLong = why.Body

abbrev pub why_of : Cause → Why
why_of (cause.Request fault) = request_why fault
why_of cause.Path = why.Route
why_of cause.Method = why.Route
why_of (cause.Items place) = why.Items place

abbrev pub refusal_text : Cause → List ℕ → List ℕ
refusal_text c method = response_text (refusal_head (refusal_of c)) ++ refusal_body (refusal_of c) method

abbrev pub answer_text : List ℕ
answer_text = response_text published_head ++ published_text
