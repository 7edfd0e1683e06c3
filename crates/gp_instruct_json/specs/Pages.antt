-- Which page of a recovery an answer is, or why it is none.
use Rattle.std.specs.Prelude.{◌≡◌, ℕ, ◌<◌, ◌≤◌, ◌≢◌, ◌⊎◌, Bool, true, false, List, length, Result, Ok, Err, ⊤}
use Rattle.gp_plain.specs.declared.http.Response.{Response}
use Rattle.gp_instruct.specs.Page.{Page, PageFault, Code, Instruct, Channel, TooLong, page}
use Rattle.gp_instruct.specs.declared.fault.InstructFault.TheVariants.{Link}
use Rattle.gp_instruct.specs.Heads.{IsLinksFault}
use Rattle.gp_instruct_json.specs.Kinds.{has_type}
use Rattle.gp_instruct_json.specs.declared.answer.Answer.{Answer}
use Rattle.gp_instruct_json.specs.Answers.{IsAnswer, IsAnswerRefused}

-- the greatest body that is read as an instruction
abbrev pub max_body : ℕ
max_body = 524288

-- a body that is an instruction is short enough to be read
abbrev pub IsShortBy : Bool → List ℕ → Type 0
IsShortBy true body = length body ≤ max_body
IsShortBy false body = ⊤

-- an instruction is too long before its end is there, so this comes before what it says
abbrev pub IsLongBy : Bool → List ℕ → Type 0
IsLongBy true body = max_body < length body
IsLongBy false body = ⊥

-- the answer is read, and by its instruction and its content it is this page, or none for this reason
pub record IsReadPage (head : Response) (body channel from : List ℕ) (read : Result Page PageFault) : Type 0 where
  pub ok : head.code ≡ 200
  pub short : IsShortBy (has_type head.fields) body
  pub answer : Answer
  pub asks : IsAnswer head body answer
  pub page_is : read ≡ page answer.instruct answer.body channel from

-- the instruction is refused
pub record IsRefusedPage (head : Response) (body : List ℕ) : Type 0 where
  pub ok : head.code ≡ 200
  pub short : IsShortBy (has_type head.fields) body
  pub refused : IsAnswerRefused head body

-- the body is an instruction, whose link the head gives, and that is refused; the head decides before any byte of the body
pub record IsRefusedHead (head : Response) : Type 0 where
  pub ok : head.code ≡ 200
  pub typed : has_type head.fields ≡ true
  pub place : ℕ
  pub refused : IsLinksFault head.fields (Link place)

-- the body is an instruction that is too long, and the head gives no link that is refused
pub record IsLongBody (head : Response) (body : List ℕ) : Type 0 where
  pub ok : head.code ≡ 200
  pub long : IsLongBy (has_type head.fields) body
  pub links : (place : ℕ) → IsLinksFault head.fields (Link place) → ⊥

-- what an answer to a recovery on a channel is, where the hold stands at an id: the code is the origin's, never one inside
-- the body. Of several faults the one that the fewest bytes decide counts: first those of the head
abbrev pub IsPage : Response → List ℕ → List ℕ → List ℕ → Result Page PageFault → Type 0
IsPage head body channel from (Ok found) = IsReadPage head body channel from (Ok found)
IsPage head body channel from (Err (Code n)) = (head.code ≢ 200) × (n ≡ head.code)
IsPage head body channel from (Err Instruct) = IsReadPage head body channel from (Err Instruct) ⊎ (IsRefusedPage head body ⊎ IsRefusedHead head)
IsPage head body channel from (Err Channel) = IsReadPage head body channel from (Err Channel)
IsPage head body channel from (Err TooLong) = IsReadPage head body channel from (Err TooLong) ⊎ IsLongBody head body
