-- What a body asks for, or why it is refused.
use Rattle.std.specs.Prelude.{◌≡◌, ℕ, nat_le, List, [], Option, Some, None, Result, Ok, Err, ⊤, if◌then◌else◌}
use Rattle.std.specs.List.{AllByRecursion}
use Rattle.serde_json.specs.Data.{Data}
use Rattle.gp_plain.specs.declared.item.Field.{Field}
use Rattle.gp_plain.specs.declared.item.ResponsePart.{ResponsePart}
use Rattle.gp_plain.specs.declared.http.Response.{Response}
use Rattle.gp_json.specs.Texts.{IsObjectText}
use Rattle.gp_json.specs.declared.fault.MemberFault.TheVariants.{Member as OneMember, Base64 as OneBase64}
use Rattle.gp_json.specs.declared.members.Whole.{Whole}
use Rattle.gp_json.specs.declared.members.Whole.TheVariants.{Unsigned, Negative}
use Rattle.gp_instruct.specs.declared.instruct.Sub.{Sub}
use Rattle.gp_instruct.specs.declared.instruct.Mode.{Mode as HoldMode}
use Rattle.gp_instruct.specs.declared.instruct.Instruct.{Instruct as Instruction}
use Rattle.gp_instruct.specs.declared.fault.InstructFault.{InstructFault}
use Rattle.gp_instruct.specs.declared.fault.InstructFault.TheVariants.{Mode, Channel, NoChannel, TooMany, Reliable, Timeout, Status, Link, NoMemory as InstructNoMemory}
use Rattle.gp_instruct.specs.Channels.{IsGoodSub, IsFirstRefusal, firsts}
use Rattle.gp_instruct.specs.Holds.{mode_named, some_mode, count_read}
use Rattle.gp_instruct.specs.Heads.{AreLinksRead, IsLinksFault}
use Rattle.gp_instruct_json.specs.declared.fault.JsonFault.{JsonFault}
use Rattle.gp_instruct_json.specs.declared.fault.JsonFault.TheVariants.{NotJson, Member, Base64, Instruct, NoMemory}
use Rattle.gp_instruct_json.specs.Members.{Hold, members_read}

-- the hold is `response` or `stream`
abbrev pub mode_of : Option Hold → Result (Option HoldMode) InstructFault
mode_of None = Ok None
mode_of (Some held) = some_mode (mode_named held.mode)

abbrev pub asked_of : Option Hold → List Sub
asked_of None = []
asked_of (Some held) = held.asked

-- at most 999,999,999, and 55 where there is none
abbrev pub seconds_of : Option Whole → Result ℕ InstructFault
seconds_of None = Ok 55
seconds_of (Some (Unsigned n)) = if nat_le n 999999999 then Ok n else Err Timeout
seconds_of (Some (Negative z)) = Err Timeout

abbrev pub timeout_of : Option Hold → Result ℕ InstructFault
timeout_of None = Ok 55
timeout_of (Some held) = seconds_of held.timeout

-- each part of the instruction: only the link is the head's
pub record AreParts (held : Option Hold) (fields : List Field) (instruct : Instruction) : Type 0 where
  pub mode : mode_of held ≡ Ok instruct.mode
  pub good : AllByRecursion IsGoodSub (asked_of held)
  pub subs : instruct.subs ≡ firsts (asked_of held)
  pub count : count_read instruct.mode instruct.subs ≡ Ok tt
  pub timeout : timeout_of held ≡ Ok instruct.timeout
  pub status : instruct.status ≡ None
  pub link : AreLinksRead fields instruct.link

-- the hold and its channels are good, and what is said of how many channels there are
pub record IsCounted (held : Option Hold) (counted : Result (Unit {0}) InstructFault) : Type 0 where
  pub mode : Option HoldMode
  pub mode_is : mode_of held ≡ Ok mode
  pub good : AllByRecursion IsGoodSub (asked_of held)
  pub count : count_read mode (firsts (asked_of held)) ≡ counted

-- so far, and what is said of the timeout
pub record IsTimed (held : Option Hold) (timed : Result ℕ InstructFault) : Type 0 where
  pub counted : IsCounted held (Ok tt)
  pub timeout : timeout_of held ≡ timed

-- the first fault; what is tried before it is good
abbrev pub IsFirstFault : Option Hold → List Field → InstructFault → Type 0
IsFirstFault held fields Mode = mode_of held ≡ Err Mode
IsFirstFault held fields (Channel fault) = (mode : Option HoldMode) × (mode_of held ≡ Ok mode) × IsFirstRefusal (asked_of held) fault
IsFirstFault held fields NoChannel = IsCounted held (Err NoChannel)
IsFirstFault held fields (TooMany n) = IsCounted held (Err (TooMany n))
IsFirstFault held fields (Reliable n) = IsCounted held (Err (Reliable n))
IsFirstFault held fields Timeout = IsTimed held (Err Timeout)
IsFirstFault held fields Status = ⊥
IsFirstFault held fields (Link place) = (seconds : ℕ) × IsTimed held (Ok seconds) × IsLinksFault fields (Link place)
IsFirstFault held fields InstructNoMemory = ⊤

-- the bytes are an object with these members
pub record HasMembers (body : List ℕ) (held : Option Hold) (part : ResponsePart) : Type 0 where
  pub tree : Data
  pub text : IsObjectText body tree
  pub members : members_read tree ≡ Ok (held, part)

-- the head that the client gets: its fields are those of the body's response alone
abbrev pub head_of : Response → ResponsePart → Response
head_of head part = record { version = head.version; code = part.code; reason = part.reason; fields = part.fields }

-- the instruction, and the response with its body
pub record IsBody (head : Response) (body : List ℕ) (instruct : Instruction) (answer : Response) (content : List ℕ) : Type 0 where
  pub held : Option Hold
  pub part : ResponsePart
  pub members : HasMembers body held part
  pub parts : AreParts held head.fields instruct
  pub answer_is : answer ≡ head_of head part
  pub content_is : content ≡ part.body

-- the members are good, and what they ask for has this fault
pub record IsRefused (head : Response) (body : List ℕ) (fault : InstructFault) : Type 0 where
  pub held : Option Hold
  pub part : ResponsePart
  pub members : HasMembers body held part
  pub first : IsFirstFault held head.fields fault

abbrev pub IsInstructRefusal : Response → List ℕ → InstructFault → Type 0
IsInstructRefusal head body Mode = IsRefused head body Mode
IsInstructRefusal head body (Channel fault) = IsRefused head body (Channel fault)
IsInstructRefusal head body NoChannel = IsRefused head body NoChannel
IsInstructRefusal head body (TooMany n) = IsRefused head body (TooMany n)
IsInstructRefusal head body (Reliable n) = IsRefused head body (Reliable n)
IsInstructRefusal head body Timeout = IsRefused head body Timeout
IsInstructRefusal head body Status = ⊥
IsInstructRefusal head body (Link place) = IsRefused head body (Link place)
IsInstructRefusal head body InstructNoMemory = ⊥

-- the first fault: of the text, of its members, of what they ask for; want of memory is free
abbrev pub IsJsonFault : Response → List ℕ → JsonFault → Type 0
IsJsonFault head body NotJson = (d : Data) → IsObjectText body d → ⊥
IsJsonFault head body (Member name) = (d : Data) × IsObjectText body d × (members_read d ≡ Err (OneMember name))
IsJsonFault head body (Base64 name) = (d : Data) × IsObjectText body d × (members_read d ≡ Err (OneBase64 name))
IsJsonFault head body (Instruct fault) = IsInstructRefusal head body fault
IsJsonFault head body NoMemory = ⊤
