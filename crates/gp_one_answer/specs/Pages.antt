-- A page that the bytes received in a talk hold isn't refused.
use Rattle.std.specs.Prelude.{ℕ, ◌≡◌, ◌≢◌, Bool, List}
use Rattle.gp_exchange.specs.declared.answer.ExchangeFault.{ExchangeFault}
use Rattle.gp_exchange.specs.declared.answer.ExchangeFault.TheVariants.{Dial}
use Rattle.gp_exchange.specs.declared.place.Over.{Over}
use Rattle.gp_recover.specs.declared.page.Page.{Page}
use Rattle.gp_recover.specs.declared.page.PageFault.{PageFault}
use Rattle.gp_recover.specs.Outcomes.{GivesPage, RefusesPage, FailsTalk}
use Rattle.gp_recover.specs.Views.{SoughtView}

-- of every recovery: the bytes received in its talk are read in one way
pub record PageLaw : Type 0 where
  -- where they are a page, they aren't refused as one, whether the input ended or not
  pub page : (sought : SoughtView) (ended ended' : Bool) (page : Page) (fault : PageFault) (received : List ℕ)
      → GivesPage sought ended page received → RefusesPage sought ended' fault received → ⊥
  -- nor does the talk fail by them. The dialer can fail beside them
  pub failed : (sought : SoughtView) (ended : Bool) (page : Page) (fault : ExchangeFault) (over : Over) (received : List ℕ)
      → GivesPage sought ended page received → fault ≢ Dial → FailsTalk sought fault over received → ⊥
  -- they are one page
  pub one_page : (sought : SoughtView) (ended ended' : Bool) (a b : Page) (received : List ℕ)
      → GivesPage sought ended a received → GivesPage sought ended' b received → a ≡ b
