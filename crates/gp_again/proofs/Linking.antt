-- The links that an origin gives are targets.
use Rattle.std.proofs.Common.{◌≡◌, ℕ, Bool, true, false, List, [], ◌∷◌, length, Option, Some, None, IfSome, Ok, Err, inl, inr, subst, cond}
use Rattle.std.specs.Prelude.{nat_lt, unwrap_or}
use Rattle.gp_plain.specs.declared.http.Response.{Response}
use Rattle.gp_plain.specs.declared.event.Then.{Then}
use Rattle.gp_plain.specs.declared.event.Then.TheVariants.{Hold, Next, End}
use Rattle.gp_plain.specs.declared.item.Field.{Field}
use Rattle.gp_instruct.specs.declared.instruct.Instruct.{Instruct}
use Rattle.gp_instruct.specs.declared.instruct.Mode.{Mode}
use Rattle.gp_instruct.specs.declared.instruct.Mode.TheVariants.{Response as Poll, Stream}
use Rattle.gp_instruct.specs.Heads.{IsFirstLink, IsInstruct}
use Rattle.gp_instruct.specs.Targets.{IsTarget}
use Rattle.gp_instruct.specs.Page.{Page, TooLong, max_page, page, page_by, page_up_to, prev_on, unheld_page}
use Rattle.gp_instruct_json.specs.declared.answer.Answer.{Answer}
use Rattle.gp_instruct_json.specs.Kinds.{has_type}
use Rattle.gp_instruct_json.specs.Answers.{IsAnswer, IsAnswerBy, IsBodyAnswer}
use Rattle.gp_recover.specs.declared.page.Page.{Page as Given}
use Rattle.gp_recover.specs.Pages.{IsPageOf, page_told}
use Rattle.gp_again.specs.Links.{HasTarget}

-- ---- of an answer

first_link : (values : List (List ℕ)) (link : Option (List ℕ)) → IsFirstLink values link → IfSome link IsTarget
first_link [] None is = tt
first_link [] (Some uri) is = cc
first_link (value ∷ more) None is = tt
first_link (value ∷ more) (Some uri) (inl found) = found.1.3
first_link (value ∷ more) (Some uri) (inr behind) = first_link more (Some uri) behind.1

pub fields_link : (fields : List Field) (instruct : Instruct) → IsInstruct fields (Some instruct) → HasTarget instruct
fields_link fields instruct is = first_link _ instruct.link is.1.link

fields_links : (fields : List Field) (given : Option Instruct) → IsInstruct fields given → IfSome given HasTarget
fields_links fields None is = tt
fields_links fields (Some instruct) is = fields_link fields instruct is

body_links : (head : Response) (body : List ℕ) (given : Option Instruct) (answer : Response) (content : List ℕ) → IsBodyAnswer head body given answer content → IfSome given HasTarget
body_links head body None answer content is = tt
body_links head body (Some instruct) answer content is = first_link _ instruct.link is.parts.link

links_by : (typed : Bool) (head : Response) (body : List ℕ) (answer : Answer) → IsAnswerBy typed head body answer → IfSome answer.instruct HasTarget
links_by true head body answer is = body_links head body answer.instruct answer.head answer.body is
links_by false head body answer is = fields_links head.fields answer.instruct is.instruct

pub answer_link : (head : Response) (content : List ℕ) (answer : Answer) → IsAnswer head content answer → IfSome answer.instruct HasTarget
answer_link head content answer is = links_by (has_type head.fields) head content answer is

-- ---- of a page

abbrev Targeted : Option (List ℕ) → Type 0
Targeted link = IfSome link IsTarget

long_or : (long : Bool) (p q : Page) → Ok p ≡ (cond long (Err TooLong) (Ok q)) → Targeted q.link → Targeted p.link
long_or true p q is target = cc
long_or false p q is target = let same : q ≡ p = cc in subst (λ (x : Page). Targeted x.link) same target

up_to : (follows : Then) (to : Option (List ℕ)) (bytes : List ℕ) (link : Option (List ℕ)) (p : Page) → Ok p ≡ page_up_to follows to bytes link → Targeted link → Targeted p.link
up_to follows None bytes link p is target = cc
up_to follows (Some to) bytes link p is target = long_or (nat_lt max_page (length bytes)) p (record { to = to; bytes = bytes; follows = follows; link = link }) is target

unheld : (link prev : Option (List ℕ)) (bytes from : List ℕ) (p : Page) → Ok p ≡ unheld_page link prev bytes from → Targeted link → Targeted p.link
unheld (Some link) prev bytes from p is target = up_to Next prev bytes (Some link) p is target
unheld None prev bytes from p is target = up_to End (Some (unwrap_or prev from)) bytes None p is target

by_mode : (mode : Option Mode) (link prev : Option (List ℕ)) (bytes from : List ℕ) (p : Page) → Ok p ≡ page_by mode link prev bytes from → Targeted link → Targeted p.link
by_mode (Some Poll) link prev bytes from p is target = cc
by_mode (Some Stream) link prev bytes from p is target = up_to Hold prev bytes link p is target
by_mode None link prev bytes from p is target = unheld link prev bytes from p is target

of_given : (given : Option Instruct) (bytes channel from : List ℕ) (p : Page) → Ok p ≡ page given bytes channel from → IfSome given HasTarget → Targeted p.link
of_given None bytes channel from p is target = unheld None None bytes from p is tt
of_given (Some instruct) bytes channel from p is target = by_mode instruct.mode instruct.link (prev_on channel instruct.subs) bytes from p is target

pub page_link : (head : Response) (content channel from : List ℕ) (page : Given) → IsPageOf head content channel from page → IfSome page.link IsTarget
page_link head content channel from page is =
    of_given is.answer.instruct is.answer.body channel from (page_told page) is.page_is (answer_link head content is.answer is.asks)
