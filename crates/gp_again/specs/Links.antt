-- The links that an origin gives can be asked.
use Rattle.std.specs.Prelude.{ℕ, List, Some, IfSome}
use Rattle.gp_plain.specs.declared.item.Field.{Field}
use Rattle.gp_plain.specs.declared.http.Response.{Response}
use Rattle.gp_instruct.specs.declared.instruct.Instruct.{Instruct}
use Rattle.gp_instruct.specs.Heads.{IsInstruct}
use Rattle.gp_instruct.specs.Targets.{IsTarget}
use Rattle.gp_instruct_json.specs.declared.answer.Answer.{Answer}
use Rattle.gp_instruct_json.specs.Answers.{IsAnswer}
use Rattle.gp_recover.specs.declared.page.Page.{Page}
use Rattle.gp_recover.specs.Pages.{IsPageOf}

-- the link of an instruction, where it has one, is a target
abbrev pub HasTarget : Instruct → Type 0
HasTarget instruct = IfSome instruct.link IsTarget

-- of every answer
pub record LinkLaw : Type 0 where
  -- the link of an instruction that fields give
  pub fields : (fields : List Field) (instruct : Instruct) → IsInstruct fields (Some instruct) → HasTarget instruct
  -- that of an answer, which fields or a body give
  pub answer : (head : Response) (content : List ℕ) (answer : Answer) → IsAnswer head content answer → IfSome answer.instruct HasTarget
  -- that of a page
  pub page : (head : Response) (content channel from : List ℕ) (page : Page) → IsPageOf head content channel from page → IfSome page.link IsTarget
