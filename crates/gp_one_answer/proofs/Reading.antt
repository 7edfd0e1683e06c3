-- What an answer asks for is read in one way.
use Rattle.std.proofs.Common.{◌≡◌, ◌≢◌, ℕ, Bool, true, false, List, Option, Some, None, Result, Ok, Err, refl, sym, ap, ◌∙◌, subst}
use Rattle.serde_json.specs.Data.{Data}
use Rattle.serde_json.specs.Read.{read}
use Rattle.gp_plain.specs.declared.item.Field.{Field}
use Rattle.gp_plain.specs.declared.item.ResponsePart.{ResponsePart}
use Rattle.gp_plain.specs.declared.http.Response.{Response}
use Rattle.gp_json.specs.Texts.{IsObjectText}
use Rattle.gp_json.specs.declared.fault.MemberFault.TheVariants.{Member as OneMember, Base64 as OneBase64}
use Rattle.gp_instruct.specs.declared.instruct.Mode.{Mode as HoldMode}
use Rattle.gp_instruct.specs.declared.instruct.Instruct.{Instruct as Instruction}
use Rattle.gp_instruct.specs.declared.fault.InstructFault.{InstructFault}
use Rattle.gp_instruct.specs.declared.fault.InstructFault.TheVariants.{Mode, Channel, NoChannel, TooMany, Reliable, Timeout, Status, Link, NoMemory as InstructNoMemory}
use Rattle.gp_instruct.specs.Channels.{firsts}
use Rattle.gp_instruct.specs.Holds.{count_read}
use Rattle.gp_instruct.specs.Heads.{IsInstruct}
use Rattle.gp_instruct_json.specs.declared.answer.Answer.{Answer}
use Rattle.gp_instruct_json.specs.declared.fault.JsonFault.{JsonFault}
use Rattle.gp_instruct_json.specs.declared.fault.JsonFault.TheVariants.{NotJson, Member, Base64, Instruct, NoMemory}
use Rattle.gp_instruct_json.specs.Members.{Hold, members_read}
use Rattle.gp_instruct_json.specs.Kinds.{has_type}
use Rattle.gp_instruct_json.specs.Bodies.{mode_of, asked_of, timeout_of, AreParts, IsCounted, IsTimed, IsFirstFault, HasMembers, IsBody, IsRefused, head_of}
use Rattle.gp_instruct_json.specs.Answers.{IsBodyAnswer, IsAnswerBy, IsAnswer, IsHeadRefusal, IsBodyRefusal, IsRefusedBy, IsAnswerRefused}
use Rattle.gp_one_answer.proofs.Instructions.{not_both, one_ok, no_bad_channel, one_links, no_bad_links, instruct_holds, one_instruct_holds}

-- bytes are the text of one object
one_object : (body : List ℕ) (d e : Data) → IsObjectText body d → IsObjectText body e → d ≡ e
one_object body d e x y = let both : Some d ≡ Some e = sym x.reads ∙ y.reads in cc

-- the members of a body are read as one
module _ (body : List ℕ) (held : Option Hold) (part : ResponsePart) (members : HasMembers body held part) where
  abbrev Found : Type 0
  Found = Option Hold × ResponsePart

  abbrev found : Found
  found = (held, part)

  -- of whatever object the body is
  read_of : (d : Data) → IsObjectText body d → members_read d ≡ Ok found
  read_of d text = ap members_read (one_object body d members.tree text members.text) ∙ members.members

  one_found : (held' : Option Hold) (part' : ResponsePart) → HasMembers body held' part' → (held ≡ held') × (part ≡ part')
  one_found held' part' members' =
      let other : Found = (held', part') in
      let same : found ≡ other = one_ok (members_read members'.tree) found other (read_of members'.tree members'.text) members'.members in
      (ap (λ (f : Found). f.0) same, ap (λ (f : Found). f.1) same)

-- the instruction that they ask for
module _ (held : Option Hold) (fields : List Field) (instruct : Instruction) (parts : AreParts held fields instruct) where
  one_count : (counted : Result (Unit {0}) InstructFault) → IsCounted held counted → counted ≡ Ok tt
  one_count counted is =
      let mode : instruct.mode ≡ is.mode = one_ok (mode_of held) instruct.mode is.mode parts.mode is.mode_is in
      let modes = ap (λ (m : Option HoldMode). count_read m (firsts (asked_of held))) mode in
      sym is.count ∙ sym modes ∙ ap (count_read instruct.mode) (sym parts.subs) ∙ parts.count

  one_time : (timed : Result ℕ InstructFault) → IsTimed held timed → timed ≡ Ok instruct.timeout
  one_time timed is = sym is.timeout ∙ parts.timeout

  -- no part is refused
  no_bad_part : (fault : InstructFault) → fault ≢ InstructNoMemory → IsFirstFault held fields fault → ⊥
  no_bad_part Mode not refused = not_both (mode_of held) instruct.mode Mode parts.mode refused
  no_bad_part (Channel fault) not (mode, mode_is, refused) = no_bad_channel (asked_of held) fault parts.good refused
  no_bad_part NoChannel not refused = not_both (Err NoChannel) tt NoChannel (one_count (Err NoChannel) refused) refl
  no_bad_part (TooMany n) not refused = not_both (Err (TooMany n)) tt (TooMany n) (one_count (Err (TooMany n)) refused) refl
  no_bad_part (Reliable n) not refused = not_both (Err (Reliable n)) tt (Reliable n) (one_count (Err (Reliable n)) refused) refl
  no_bad_part Timeout not refused = not_both (Err Timeout) instruct.timeout Timeout (one_time (Err Timeout) refused) refl
  no_bad_part Status not refused = refused
  no_bad_part (Link place) not (seconds, before, refused) = no_bad_links fields instruct.link place parts.link refused
  no_bad_part InstructNoMemory not refused = not refl

  -- each part is one
  one_parts : (other : Instruction) → AreParts held fields other → instruct ≡ other
  one_parts other parts' =
      let mode : instruct.mode ≡ other.mode = one_ok (mode_of held) instruct.mode other.mode parts.mode parts'.mode in
      let subs : instruct.subs ≡ other.subs = parts.subs ∙ sym parts'.subs in
      let timeout : instruct.timeout ≡ other.timeout = one_ok (timeout_of held) instruct.timeout other.timeout parts.timeout parts'.timeout in
      let status : instruct.status ≡ other.status = parts.status ∙ sym parts'.status in
      let link : instruct.link ≡ other.link = one_links fields instruct.link other.link parts.link parts'.link in
      λ j. record { mode = mode j; subs = subs j; timeout = timeout j; status = status j; link = link j }

-- a body that is an instruction
module _ (head : Response) (body : List ℕ) where
  module _ (instruct : Instruction) (answer : Response) (content : List ℕ) (is : IsBody head body instruct answer content) where
    -- what it asks for isn't refused
    no_bad_asked : (fault : InstructFault) → fault ≢ InstructNoMemory → IsRefused head body fault → ⊥
    no_bad_asked fault not refused =
        let one = one_found body is.held is.part is.members refused.held refused.part refused.members in
        no_bad_part is.held head.fields instruct is.parts fault not (subst (λ (h : Option Hold). IsFirstFault h head.fields fault) (sym one.0) refused.first)

    no_bad_instruct : (fault : InstructFault) → IsBodyRefusal head body (Instruct fault) → ⊥
    no_bad_instruct Mode refused = no_bad_asked Mode (λ e. absurd cc) refused
    no_bad_instruct (Channel fault) refused = no_bad_asked (Channel fault) (λ e. absurd cc) refused
    no_bad_instruct NoChannel refused = no_bad_asked NoChannel (λ e. absurd cc) refused
    no_bad_instruct (TooMany n) refused = no_bad_asked (TooMany n) (λ e. absurd cc) refused
    no_bad_instruct (Reliable n) refused = no_bad_asked (Reliable n) (λ e. absurd cc) refused
    no_bad_instruct Timeout refused = no_bad_asked Timeout (λ e. absurd cc) refused
    no_bad_instruct Status refused = refused
    no_bad_instruct (Link place) refused = no_bad_asked (Link place) (λ e. absurd cc) refused
    no_bad_instruct InstructNoMemory refused = refused

    -- nor its text, nor its members
    no_bad_body : (fault : JsonFault) → IsBodyRefusal head body fault → ⊥
    no_bad_body NotJson none = none is.members.tree is.members.text
    no_bad_body (Member name) (d, text, refused) =
        not_both (members_read d) (is.held, is.part) (OneMember name) (read_of body is.held is.part is.members d text) refused
    no_bad_body (Base64 name) (d, text, refused) =
        not_both (members_read d) (is.held, is.part) (OneBase64 name) (read_of body is.held is.part is.members d text) refused
    no_bad_body (Instruct fault) refused = no_bad_instruct fault refused
    no_bad_body NoMemory refused = refused

    one_body : (instruct' : Instruction) (answer' : Response) (content' : List ℕ) → IsBody head body instruct' answer' content'
        → (instruct ≡ instruct') × (answer ≡ answer') × (content ≡ content')
    one_body instruct' answer' content' is' =
        let one = one_found body is.held is.part is.members is'.held is'.part is'.members in
        let there = subst (λ (h : Option Hold). AreParts h head.fields instruct') (sym one.0) is'.parts in (
          one_parts is.held head.fields instruct is.parts instruct' there,
          is.answer_is ∙ ap (head_of head) one.1 ∙ sym is'.answer_is,
          is.content_is ∙ ap (λ (p : ResponsePart). p.body) one.1 ∙ sym is'.content_is,
        )

  -- by the instruction that the body gives
  no_refusal_by : (instruct : Option Instruction) (answer : Response) (content : List ℕ) (fault : JsonFault)
      → IsBodyAnswer head body instruct answer content → IsBodyRefusal head body fault → ⊥
  no_refusal_by None answer content fault is refused = is
  no_refusal_by (Some instruct) answer content fault is refused = no_bad_body instruct answer content is fault refused

  one_body_by : (a b : Option Instruction) (answer answer' : Response) (content content' : List ℕ) → IsBodyAnswer head body a answer content
      → IsBodyAnswer head body b answer' content'
      → (a ≡ b) × (answer ≡ answer') × (content ≡ content')
  one_body_by None b answer answer' content content' is is' = absurd is
  one_body_by (Some a) None answer answer' content content' is is' = absurd is'
  one_body_by (Some a) (Some b) answer answer' content content' is is' =
      let one = one_body a answer content is b answer' content' is' in
      (ap Some one.0, one.1, one.2)

  -- a refusal of the fields is none by want of memory
  no_bad_fields : (read : Option Instruction) (fault : InstructFault) → IsInstruct head.fields read → IsHeadRefusal head fault → ⊥
  no_bad_fields read Mode is refused = instruct_holds head.fields read Mode is refused (λ e. absurd cc)
  no_bad_fields read (Channel fault) is refused = instruct_holds head.fields read (Channel fault) is refused (λ e. absurd cc)
  no_bad_fields read NoChannel is refused = instruct_holds head.fields read NoChannel is refused (λ e. absurd cc)
  no_bad_fields read (TooMany n) is refused = instruct_holds head.fields read (TooMany n) is refused (λ e. absurd cc)
  no_bad_fields read (Reliable n) is refused = instruct_holds head.fields read (Reliable n) is refused (λ e. absurd cc)
  no_bad_fields read Timeout is refused = instruct_holds head.fields read Timeout is refused (λ e. absurd cc)
  no_bad_fields read Status is refused = instruct_holds head.fields read Status is refused (λ e. absurd cc)
  no_bad_fields read (Link place) is refused = instruct_holds head.fields read (Link place) is refused (λ e. absurd cc)
  no_bad_fields read InstructNoMemory is refused = refused

  -- by the type of the body
  answer_by : (typed : Bool) (a : Answer) → IsAnswerBy typed head body a → IsRefusedBy typed head body → ⊥
  answer_by true a is (fault, refused) = no_refusal_by a.instruct a.head a.body fault is refused
  answer_by false a is (fault, refused) = no_bad_fields a.instruct fault is.instruct refused

  one_answer_by : (typed : Bool) (a b : Answer) → IsAnswerBy typed head body a → IsAnswerBy typed head body b → a ≡ b
  one_answer_by true a b is is' =
      let one = one_body_by a.instruct b.instruct a.head b.head a.body b.body is is' in
      λ j. record { instruct = one.0 j; head = one.1 j; body = one.2 j }
  one_answer_by false a b is is' =
      let instruct : a.instruct ≡ b.instruct = one_instruct_holds head.fields a.instruct b.instruct is.instruct is'.instruct in
      let same : a.head ≡ b.head = is.head_is ∙ sym is'.head_is in
      let content : a.body ≡ b.body = is.body_is ∙ sym is'.body_is in
      λ j. record { instruct = instruct j; head = same j; body = content j }

  pub answer_holds : (a : Answer) → IsAnswer head body a → IsAnswerRefused head body → ⊥
  answer_holds a is refused = answer_by (has_type head.fields) a is refused

  pub one_answer_holds : (a b : Answer) → IsAnswer head body a → IsAnswer head body b → a ≡ b
  one_answer_holds a b is is' = one_answer_by (has_type head.fields) a b is is'
