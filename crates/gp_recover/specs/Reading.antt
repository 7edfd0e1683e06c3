-- An answer whose content comes in parts, and of which nothing has been refused yet.
use Rattle.std.specs.Prelude.{◌≡◌, ℕ, ◌≤◌, Bool, true, false, List, [], length, ◌++◌, Option, IsOk, if◌then◌else◌, ⊤}
use Rattle.gp_plain.specs.declared.http.Response.{Response}
use Rattle.gp_instruct.specs.declared.instruct.Instruct.{Instruct as Given}
use Rattle.gp_instruct.specs.declared.fault.InstructFault.TheVariants.{Link}
use Rattle.gp_instruct.specs.Heads.{IsInstruct, IsLinksFault}
use Rattle.gp_instruct.specs.Page.{max_page, page}
use Rattle.gp_instruct_json.specs.Kinds.{has_type}
use Rattle.gp_instruct_json.specs.Pages.{max_body}
use Rattle.gp_recover.specs.Pages.{IsFaultOf}
use Rattle.gp_recover.specs.declared.reader.Unread.{Unread}
use Rattle.gp_recover.specs.declared.reader.Unread.TheVariants.{Refused, NoMemory}

pub record ReadingView : Type 0 where
  pub head : Response
  pub channel : List ℕ
  pub from : List ℕ
  pub content : List ℕ

-- the most content that is read: of a body of instructions, or of a page
abbrev pub most_by : Bool → ℕ
most_by typed = if typed then max_body else max_page

abbrev pub most_read : Response → ℕ
most_read head = most_by (has_type head.fields)

-- the fields give an instruction, or none, that a page may have
pub record IsGivenPage (head : Response) (channel from : List ℕ) : Type 0 where
  pub given : Option Given
  pub gives : IsInstruct head.fields given
  pub page : IsOk (page given [] channel from)

-- the head refuses nothing: the link of a body of instructions, or the whole instruction of the fields
abbrev pub IsOpenBy : Bool → Response → List ℕ → List ℕ → Type 0
IsOpenBy true head channel from = (place : ℕ) → IsLinksFault head.fields (Link place) → ⊥
IsOpenBy false head channel from = IsGivenPage head channel from

pub record IsHeadOpen (head : Response) (channel from : List ℕ) : Type 0 where
  pub code : head.code ≡ 200
  pub goes : IsOpenBy (has_type head.fields) head channel from

-- so far nothing is refused
pub record IsOpen (r : ReadingView) : Type 0 where
  pub head : IsHeadOpen r.head r.channel r.from
  pub short : length r.content ≤ most_read r.head

-- why an answer with this content is no page; want of memory is free
abbrev pub IsFault : Response → List ℕ → List ℕ → List ℕ → Unread → Type 0
IsFault head content channel from (Refused fault) = IsFaultOf head content channel from fault
IsFault head content channel from NoMemory = ⊤

-- why nothing more of it is read: it is no page, whatever content follows
abbrev pub IsUnread : Response → List ℕ → List ℕ → List ℕ → Unread → Type 0
IsUnread head content channel from unread = (rest : List ℕ) → IsFault head (content ++ rest) channel from unread
