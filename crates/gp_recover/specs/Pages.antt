-- What an answer is as a page.
use Rattle.std.specs.Prelude.{◌≡◌, ℕ, List, Result, Ok, Err}
use Rattle.gp_plain.specs.declared.http.Response.{Response}
use Rattle.gp_instruct.specs.Page as told
use Rattle.gp_instruct_json.specs.Pages.{IsPage}
use Rattle.gp_recover.specs.declared.page.Page.{Page}
use Rattle.gp_recover.specs.declared.page.PageFault.{PageFault}
use Rattle.gp_recover.specs.declared.page.PageFault.TheVariants.{Exchange, Code, Instruct, Channel, TooLong}

abbrev pub page_told : Page → told.Page
page_told p = record { to = p.to; bytes = p.bytes; follows = p.then; link = p.link }

-- an instruction with its content is refused for this reason; the answer's code and the talk aren't asked
abbrev pub IsGivenFault : Result told.Page told.PageFault → PageFault → Type 0
IsGivenFault found (Exchange fault) = ⊥
IsGivenFault found (Code code) = ⊥
IsGivenFault found Instruct = found ≡ Err told.Instruct
IsGivenFault found Channel = found ≡ Err told.Channel
IsGivenFault found TooLong = found ≡ Err told.TooLong

-- an instruction with its content is this page, or none for this reason
abbrev pub PagesBy : Result Page PageFault → Result told.Page told.PageFault → Type 0
PagesBy (Ok page) found = found ≡ Ok (page_told page)
PagesBy (Err fault) found = IsGivenFault found fault

-- an answer, by its head and its content, is this page to a request on a channel behind an id
abbrev pub IsPageOf : Response → List ℕ → List ℕ → List ℕ → Page → Type 0
IsPageOf head content channel from page = IsPage head content channel from (Ok (page_told page))

-- it is none, for this reason
abbrev pub IsFaultOf : Response → List ℕ → List ℕ → List ℕ → PageFault → Type 0
IsFaultOf head content channel from (Exchange fault) = ⊥
IsFaultOf head content channel from (Code code) = IsPage head content channel from (Err (told.Code code))
IsFaultOf head content channel from Instruct = IsPage head content channel from (Err told.Instruct)
IsFaultOf head content channel from Channel = IsPage head content channel from (Err told.Channel)
IsFaultOf head content channel from TooLong = IsPage head content channel from (Err told.TooLong)
