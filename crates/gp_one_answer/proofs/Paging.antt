-- A page that the bytes of a talk hold is read in one way.
use Rattle.std.proofs.Common.{◌≡◌, ◌≢◌, ℕ, inl, inr, Bool, true, false, List, Option, Some, None, Result, Ok, Err, refl, sym, ap, ◌∙◌, subst, arith}
use Rattle.gp_plain.specs.declared.http.Response.{Response}
use Rattle.gp_exchange.specs.Ends.{EndsBy}
use Rattle.gp_exchange.specs.declared.answer.ExchangeFault.{ExchangeFault}
use Rattle.gp_exchange.specs.declared.answer.ExchangeFault.TheVariants.{Dial}
use Rattle.gp_exchange.specs.declared.answer.Last.{Last}
use Rattle.gp_exchange.specs.declared.place.Over.{Over}
use Rattle.gp_instruct.specs.declared.instruct.Instruct.{Instruct as Given}
use Rattle.gp_instruct.specs.declared.fault.InstructFault.TheVariants.{Link}
use Rattle.gp_instruct.specs.Heads.{IsLinksFault}
use Rattle.gp_instruct.specs.Page as told
use Rattle.gp_instruct_json.specs.declared.answer.Answer.{Answer}
use Rattle.gp_instruct_json.specs.Kinds.{has_type}
use Rattle.gp_instruct_json.specs.Answers.{IsAnswerBy, IsBodyAnswer}
use Rattle.gp_instruct_json.specs.Pages.{IsShortBy, IsLongBy, IsReadPage}
use Rattle.gp_recover.specs.declared.page.Page.{Page}
use Rattle.gp_recover.specs.declared.page.PageFault.{PageFault}
use Rattle.gp_recover.specs.declared.page.PageFault.TheVariants.{Exchange, Code, Instruct, Channel, TooLong}
use Rattle.gp_recover.specs.Outcomes.{GivesPage, RefusesPage, FailsTalk}
use Rattle.gp_recover.specs.Pages.{page_told, IsFaultOf, IsPageOf}
use Rattle.gp_recover.specs.Views.{SoughtView, asked_by}
use Rattle.gp_one_answer.proofs.Talks.{one_content, no_fault}
use Rattle.gp_one_answer.proofs.Instructions.{not_both, one_ok, no_bad_links}
use Rattle.gp_one_answer.proofs.Reading.{answer_holds, one_answer_holds}

-- content isn't both short and long
not_long : (typed : Bool) (body : List ℕ) → IsShortBy typed body → IsLongBy typed body → ⊥
not_long true body short long = absurd (omega (arith, short, long))
not_long false body short long = long

-- the links of a head are those of the body's instruction
no_bad_head_by : (typed : Bool) (head : Response) (body : List ℕ) (answer : Answer) (place : ℕ) → typed ≡ true → IsAnswerBy typed head body answer
    → IsLinksFault head.fields (Link place) → ⊥
no_bad_head_by true head body answer place e is refused = by_instruct answer.instruct is
  where
    by_instruct : (instruct : Option Given) → IsBodyAnswer head body instruct answer.head answer.body → ⊥
    by_instruct None is = is
    by_instruct (Some instruct) is = no_bad_links head.fields instruct.link place is.parts.link refused
no_bad_head_by false head body answer place e is refused = absurd cc

-- an answer that is a page
module _ (head : Response) (body channel from : List ℕ) (page : told.Page) (is : IsReadPage head body channel from (Ok page)) where
  -- is read as this page alone
  read_is : (read : Result told.Page told.PageFault) → IsReadPage head body channel from read → read ≡ Ok page
  read_is read other =
      let same : other.answer ≡ is.answer = one_answer_holds head body other.answer is.answer other.asks is.asks in
      other.page_is ∙ ap (λ (a : Answer). told.page a.instruct a.body channel from) same ∙ sym is.page_is

  no_read : (fault : told.PageFault) → IsReadPage head body channel from (Err fault) → ⊥
  no_read fault other = not_both (Err fault) page fault (read_is (Err fault) other) refl

  -- and isn't refused
  no_bad_page : (fault : PageFault) → IsFaultOf head body channel from fault → ⊥
  no_bad_page (Exchange fault) refused = refused
  no_bad_page (Code code) (not, code_is) = not is.ok
  no_bad_page Instruct (inl read) = no_read told.Instruct read
  no_bad_page Instruct (inr (inl refused)) = answer_holds head body is.answer is.asks refused.refused
  no_bad_page Instruct (inr (inr refused)) = no_bad_head_by (has_type head.fields) head body is.answer refused.place refused.typed is.asks refused.refused
  no_bad_page Channel read = no_read told.Channel read
  no_bad_page TooLong (inl read) = no_read told.TooLong read
  no_bad_page TooLong (inr long) = not_long (has_type head.fields) body is.short long.long

-- the page of a recovery
module _ (s : SoughtView) (ended : Bool) (page : Page) (received : List ℕ) (gives : GivesPage s ended page received) where
  pub page_holds : (ended' : Bool) (fault : PageFault) → RefusesPage s ended' fault received → ⊥
  page_holds ended' fault refuses =
      let one = one_content (asked_by s) gives.head ended gives.content received gives.ends refuses.head refuses.content refuses.gave in
      let there = subst (λ (h : Response). IsFaultOf h refuses.content s.channel s.from fault) one.0 refuses.refused in
      let here = subst (λ (c : List ℕ). IsFaultOf gives.head c s.channel s.from fault) one.1 there in
      no_bad_page gives.head gives.content s.channel s.from (page_told page) gives.page_is fault here

  pub failed_holds : (fault : ExchangeFault) (over : Over) → fault ≢ Dial → FailsTalk s fault over received → ⊥
  failed_holds fault over not fails =
      let ends = subst (λ (last : Last). EndsBy (asked_by s) last over.ended over.head fails.content received) fails.last fails.ends in
      no_fault (asked_by s) gives.head ended gives.content received gives.ends over.ended fails.content over.head fault not ends

  pub one_page_holds : (ended' : Bool) (other : Page) → GivesPage s ended' other received → page ≡ other
  one_page_holds ended' other gives' =
      let one = one_content (asked_by s) gives.head ended gives.content received gives.ends gives'.head gives'.content gives'.ends.gave in
      let there = subst (λ (h : Response). IsPageOf h gives'.content s.channel s.from other) one.0 gives'.page_is in
      let here = subst (λ (c : List ℕ). IsPageOf gives.head c s.channel s.from other) one.1 there in
      let same = read_is gives.head gives.content s.channel s.from (page_told page) gives.page_is (Ok (page_told other)) here in
      let found : page_told page ≡ page_told other = sym (one_ok (Ok (page_told other)) (page_told other) (page_told page) refl same) in
      λ j. record { to = (found j).to; bytes = (found j).bytes; then = (found j).follows; link = (found j).link }
