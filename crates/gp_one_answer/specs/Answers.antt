-- What is accepted of the bytes received in a talk isn't refused.
use Rattle.std.specs.Prelude.{ℕ, ◌≡◌, ◌≢◌, Bool, List, Option}
use Rattle.std.specs.declared.snapshot.Snapshot.{Snapshot}
use Rattle.gp_plain.specs.declared.item.Field.{Field}
use Rattle.gp_plain.specs.declared.http.Response.{Response}
use Rattle.gp_exchange.specs.Views.{AskedView}
use Rattle.gp_exchange.specs.Heads.{HasHead}
use Rattle.gp_exchange.specs.Ends.{Gave, EndsBody, EndsBy}
use Rattle.gp_exchange.specs.declared.answer.ExchangeFault.{ExchangeFault}
use Rattle.gp_exchange.specs.declared.answer.ExchangeFault.TheVariants.{Dial}
use Rattle.gp_exchange.specs.declared.answer.Last.TheVariants.{Fault}
use Rattle.gp_instruct.specs.declared.instruct.Instruct.{Instruct}
use Rattle.gp_instruct.specs.declared.fault.InstructFault.{InstructFault}
use Rattle.gp_instruct.specs.declared.fault.InstructFault.TheVariants.{NoMemory}
use Rattle.gp_instruct.specs.Heads.{IsInstruct, IsInstructFault}
use Rattle.gp_instruct_json.specs.declared.answer.Answer.{Answer}
use Rattle.gp_instruct_json.specs.Answers.{IsAnswer, IsAnswerRefused}

-- of every talk: the bytes received are read in one way
pub record AnswerLaw : Type 0 where
  -- one head stands in front of them, and ends at one place
  pub one_head : (received : List ℕ) (head head' : Response) (at at' : ℕ) → HasHead received head at → HasHead received head' at' → (head' ≡ head) × (at' ≡ at)
  -- where they hold a whole response that is accepted, they are refused for no reason, whatever was given, and whether the input
  -- ended or not. The dialer can fail beside them
  pub refused : (asked : AskedView) (head : Response) (ended ended' : Bool) (content content' received : List ℕ)
      → (given : Option (Snapshot Response)) (fault : ExchangeFault) → EndsBody asked head ended content received → fault ≢ Dial
      → EndsBy asked (Fault fault) ended' given content' received → ⊥
  -- all content that they hold is that of the whole response
  pub one_body : (asked : AskedView) (head head' : Response) (ended : Bool) (content content' received : List ℕ)
      → EndsBody asked head ended content received → Gave asked head' content' received → (head' ≡ head) × (content' ≡ content)
  -- fields that give an instruction, or none, aren't refused; memory can be wanting beside them
  pub instruct : (fields : List Field) (read : Option Instruct) (fault : InstructFault) → IsInstruct fields read
      → IsInstructFault fields fault → fault ≢ NoMemory → ⊥
  -- they give one
  pub one_instruct : (fields : List Field) (a b : Option Instruct) → IsInstruct fields a → IsInstruct fields b → a ≡ b
  -- an answer that is read isn't refused, whether its fields or its body give the instruction
  pub answer : (head : Response) (content : List ℕ) (a : Answer) → IsAnswer head content a → IsAnswerRefused head content → ⊥
  -- it is read as one
  pub one_answer : (head : Response) (content : List ℕ) (a b : Answer) → IsAnswer head content a → IsAnswer head content b → a ≡ b
