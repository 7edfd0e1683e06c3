-- What an origin's answer asks for: by its body, where that is an instruction, or by its fields.
use Rattle.std.specs.Prelude.{◌≡◌, ℕ, Bool, true, false, List, Option, Some, None, ⊤}
use Rattle.gp_plain.specs.declared.http.Response.{Response}
use Rattle.gp_instruct.specs.declared.instruct.Instruct.{Instruct}
use Rattle.gp_instruct.specs.declared.fault.InstructFault.{InstructFault}
use Rattle.gp_instruct.specs.declared.fault.InstructFault.TheVariants.{Mode, Channel, NoChannel, TooMany, Reliable, Timeout, Status, Link, NoMemory as InstructNoMemory}
use Rattle.gp_instruct.specs.Heads.{IsInstruct, IsInstructFault}
use Rattle.gp_instruct_json.specs.declared.answer.Answer.{Answer}
use Rattle.gp_instruct_json.specs.declared.answer.AnswerFault.{AnswerFault}
use Rattle.gp_instruct_json.specs.declared.answer.AnswerFault.TheVariants.{Refused, NoMemory as AnswerNoMemory}
use Rattle.gp_instruct_json.specs.declared.fault.JsonFault.{JsonFault}
use Rattle.gp_instruct_json.specs.declared.fault.JsonFault.TheVariants.{NotJson, Member, Base64, Instruct as Asks, NoMemory}
use Rattle.gp_instruct_json.specs.Kinds.{has_type}
use Rattle.gp_instruct_json.specs.Bodies.{IsBody, IsJsonFault}

-- the body gives the instruction and the response
abbrev pub IsBodyAnswer : Response → List ℕ → Option Instruct → Response → List ℕ → Type 0
IsBodyAnswer head body None answer content = ⊥
IsBodyAnswer head body (Some instruct) answer content = IsBody head body instruct answer content

-- the fields give the instruction, and the response is that of the origin
pub record IsHeadAnswer (head : Response) (body : List ℕ) (answer : Answer) : Type 0 where
  pub instruct : IsInstruct head.fields answer.instruct
  pub head_is : answer.head ≡ head
  pub body_is : answer.body ≡ body

abbrev pub IsAnswerBy : Bool → Response → List ℕ → Answer → Type 0
IsAnswerBy true head body answer = IsBodyAnswer head body answer.instruct answer.head answer.body
IsAnswerBy false head body answer = IsHeadAnswer head body answer

-- what a head with its body asks for
abbrev pub IsAnswer : Response → List ℕ → Answer → Type 0
IsAnswer head body answer = IsAnswerBy (has_type head.fields) head body answer

-- a fault of the fields, other than want of memory
abbrev pub IsHeadRefusal : Response → InstructFault → Type 0
IsHeadRefusal head Mode = IsInstructFault head.fields Mode
IsHeadRefusal head (Channel fault) = IsInstructFault head.fields (Channel fault)
IsHeadRefusal head NoChannel = IsInstructFault head.fields NoChannel
IsHeadRefusal head (TooMany n) = IsInstructFault head.fields (TooMany n)
IsHeadRefusal head (Reliable n) = IsInstructFault head.fields (Reliable n)
IsHeadRefusal head Timeout = IsInstructFault head.fields Timeout
IsHeadRefusal head Status = IsInstructFault head.fields Status
IsHeadRefusal head (Link place) = IsInstructFault head.fields (Link place)
IsHeadRefusal head InstructNoMemory = ⊥

-- a fault of the body, other than want of memory
abbrev pub IsBodyRefusal : Response → List ℕ → JsonFault → Type 0
IsBodyRefusal head body NotJson = IsJsonFault head body NotJson
IsBodyRefusal head body (Member name) = IsJsonFault head body (Member name)
IsBodyRefusal head body (Base64 name) = IsJsonFault head body (Base64 name)
IsBodyRefusal head body (Asks fault) = IsJsonFault head body (Asks fault)
IsBodyRefusal head body NoMemory = ⊥

abbrev pub IsRefusedBy : Bool → Response → List ℕ → Type 0
IsRefusedBy true head body = (fault : JsonFault) × IsBodyRefusal head body fault
IsRefusedBy false head body = (fault : InstructFault) × IsHeadRefusal head fault

-- what a head with its body asks for is refused
abbrev pub IsAnswerRefused : Response → List ℕ → Type 0
IsAnswerRefused head body = IsRefusedBy (has_type head.fields) head body

-- why an answer isn't read; want of memory is free
abbrev pub IsFaultBy : Bool → Response → List ℕ → AnswerFault → Type 0
IsFaultBy typed head body Refused = IsRefusedBy typed head body
IsFaultBy typed head body AnswerNoMemory = ⊤

abbrev pub IsAnswerFault : Response → List ℕ → AnswerFault → Type 0
IsAnswerFault head body fault = IsFaultBy (has_type head.fields) head body fault
