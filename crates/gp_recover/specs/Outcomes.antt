-- What the bytes of a talk say of the page that is sought.
use Rattle.std.specs.Prelude.{ℕ, ◌≡◌, Bool, ◌⊎◌, List, ◌++◌, Option, Some, None, ⊤}
use Rattle.gp_plain.specs.declared.http.Response.{Response}
use Rattle.gp_exchange.specs.Answers.{head_of, is_marked}
use Rattle.gp_exchange.specs.Ends.{Ends, EndsBody, Gave}
use Rattle.gp_exchange.specs.declared.answer.ExchangeFault.{ExchangeFault}
use Rattle.gp_exchange.specs.declared.answer.Last.TheVariants.{Fault}
use Rattle.gp_exchange.specs.declared.place.Over.{Over as Ending}
use Rattle.gp_exchange.specs.declared.place.Place.{Place}
use Rattle.gp_exchange.specs.declared.place.Place.TheVariants as place
use Rattle.gp_recover.specs.Pages.{IsFaultOf, IsPageOf}
use Rattle.gp_recover.specs.Reading.{IsOpen}
use Rattle.gp_recover.specs.Views.{SoughtView, asked_by}
use Rattle.gp_recover.specs.declared.page.Page.{Page}
use Rattle.gp_recover.specs.declared.page.PageFault.{PageFault}
use Rattle.gp_recover.specs.declared.page.PageFault.TheVariants.{Exchange, Code, Instruct, Channel, TooLong}
use Rattle.gp_recover.specs.declared.recovered.Last.{Last}
use Rattle.gp_recover.specs.declared.recovered.Last.TheVariants.{Got, Failed, NoMemory}

-- the answer is whole, and it is this page
pub record GivesPage (s : SoughtView) (ended : Bool) (page : Page) (received : List ℕ) : Type 0 where
  pub head : Response
  pub content : List ℕ
  pub ends : EndsBody (asked_by s) head ended content received
  pub page_is : IsPageOf head content s.channel s.from page

-- the answer is whole, or its head with the content that came decides the fault, whatever follows
abbrev pub IsDecided : SoughtView → Bool → PageFault → Response → List ℕ → List ℕ → Type 0
IsDecided s ended fault head content received =
    EndsBody (asked_by s) head ended content received ⊎ ((rest : List ℕ) → IsFaultOf head (content ++ rest) s.channel s.from fault)

-- the answer is no page, for this reason
pub record RefusesPage (s : SoughtView) (ended : Bool) (fault : PageFault) (received : List ℕ) : Type 0 where
  pub head : Response
  pub content : List ℕ
  pub gave : Gave (asked_by s) head content received
  pub refused : IsFaultOf head content s.channel s.from fault
  pub decided : IsDecided s ended fault head content received

-- nothing of the answer refuses the page: neither the head, where it came, nor the content
abbrev pub IsUnrefused : SoughtView → Option Response → List ℕ → Type 0
IsUnrefused s None content = ⊤
IsUnrefused s (Some head) content = IsOpen (record { head = head; channel = s.channel; from = s.from; content = content })

-- the talk failed by this fault of the exchange, and nothing of the answer before it refuses the page
pub record FailsTalk (s : SoughtView) (fault : ExchangeFault) (over : Ending) (received : List ℕ) : Type 0 where
  pub content : List ℕ
  pub last : over.last ≡ Fault fault
  pub ends : Ends (asked_by s) over content received
  pub unrefused : IsUnrefused s (head_of (place.Over over)) content

abbrev pub FailsAt : SoughtView → ExchangeFault → Place → List ℕ → Type 0
FailsAt s fault (place.Unbegun request) received = ⊥
FailsAt s fault (place.Connecting request) received = ⊥
FailsAt s fault (place.Sending sending) received = ⊥
FailsAt s fault (place.Heading heading) received = ⊥
FailsAt s fault (place.Reading reading) received = ⊥
FailsAt s fault (place.Over over) received = FailsTalk s fault over received

-- how the bytes received in a talk led to the end of a recovery; want of memory is free
abbrev pub EndsBy : SoughtView → Place → Last → List ℕ → Type 0
EndsBy s at (Got page) received = GivesPage s (is_marked at) page.value received
EndsBy s at (Failed (Exchange fault)) received = FailsAt s fault at received
EndsBy s at (Failed (Code code)) received = RefusesPage s (is_marked at) (Code code) received
EndsBy s at (Failed Instruct) received = RefusesPage s (is_marked at) Instruct received
EndsBy s at (Failed Channel) received = RefusesPage s (is_marked at) Channel received
EndsBy s at (Failed TooLong) received = RefusesPage s (is_marked at) TooLong received
EndsBy s at NoMemory received = ⊤
