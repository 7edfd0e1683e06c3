-- What an answer means as a page of a recovery.
use Rattle.std.specs.Prelude.{ℕ, nat_lt, List, length, bytes_eq, find, Option, Some, None, option_and_then, unwrap_or, Result, Ok, Err, if◌then◌else◌}
use Rattle.gp_plain.specs.declared.event.Then.{Then}
use Rattle.gp_plain.specs.declared.event.Then.TheVariants.{Hold, Next, End}
use Rattle.gp_instruct.specs.declared.instruct.Sub.{Sub}
use Rattle.gp_instruct.specs.declared.instruct.Mode.{Mode as Held}
use Rattle.gp_instruct.specs.declared.instruct.Mode.TheVariants.{Response as Poll, Stream as Open}
use Rattle.gp_instruct.specs.declared.instruct.Instruct.{Instruct as Given}

-- a page up to an id, with its content, what follows it, and the link that it gives
pub record Page : Type 0 where
  pub to : List ℕ
  pub bytes : List ℕ
  pub follows : Then
  pub link : Option (List ℕ)

-- why an answer is no page
pub data PageFault : Type 0 where
  Code : ℕ → PageFault
  Instruct : PageFault
  Channel : PageFault
  TooLong : PageFault

-- the greatest content of a page
abbrev pub max_page : ℕ
max_page = 262144

-- the previous id on a channel
abbrev pub prev_on : List ℕ → List Sub → Option (List ℕ)
prev_on channel subs = option_and_then (λ (sub : Sub). sub.prev) (find (λ (sub : Sub). bytes_eq sub.name channel) subs)

abbrev pub page_up_to : Then → Option (List ℕ) → List ℕ → Option (List ℕ) → Result Page PageFault
page_up_to follows None bytes link = Err Channel
page_up_to follows (Some to) bytes link =
    if nat_lt max_page (length bytes) then Err TooLong else Ok (record { to = to; bytes = bytes; follows = follows; link = link })

-- without a hold a link leads to the next page; with neither the stream ends, and without a previous id where it stood
abbrev pub unheld_page : Option (List ℕ) → Option (List ℕ) → List ℕ → List ℕ → Result Page PageFault
unheld_page (Some link) prev bytes from = page_up_to Next prev bytes (Some link)
unheld_page None prev bytes from = page_up_to End (Some (unwrap_or prev from)) bytes None

abbrev pub page_by : Option Held → Option (List ℕ) → Option (List ℕ) → List ℕ → List ℕ → Result Page PageFault
page_by (Some Poll) link prev bytes from = Err Instruct
page_by (Some Open) link prev bytes from = page_up_to Hold prev bytes link
page_by None link prev bytes from = unheld_page link prev bytes from

-- the page that an answer is, by its instruction and its content: a stream goes on, a response hold is refused, and an
-- answer without an instruction ends the stream
abbrev pub page : Option Given → List ℕ → List ℕ → List ℕ → Result Page PageFault
page None bytes channel from = unheld_page None None bytes from
page (Some instruct) bytes channel from = page_by instruct.mode instruct.link (prev_on channel instruct.subs) bytes from
