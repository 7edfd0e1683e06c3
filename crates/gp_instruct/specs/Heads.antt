-- The instruction that the fields of a head give, or why it is refused.
use Rattle.std.specs.Prelude.{◌≡◌, ℕ, ◌⊎◌, true, false, List, [], ◌∷◌, codes, Option, Some, None, IsSome, Result, Ok, Err, ⊤}
use Rattle.std.specs.List.{AllByRecursion}
use Rattle.gp_plain.specs.declared.item.Field.{Field}
use Rattle.gp_instruct.specs.declared.instruct.Mode.{Mode as Hold}
use Rattle.gp_instruct.specs.declared.instruct.Instruct.{Instruct}
use Rattle.gp_instruct.specs.declared.fault.InstructFault.{InstructFault}
use Rattle.gp_instruct.specs.declared.fault.InstructFault.TheVariants.{Mode, Channel, NoChannel, TooMany, Reliable, Timeout, Status, Link, NoMemory}
use Rattle.gp_instruct.specs.Fields.{values, is_given}
use Rattle.gp_instruct.specs.Asked.{asked}
use Rattle.gp_instruct.specs.Channels.{IsGoodSub, IsFirstRefusal, firsts}
use Rattle.gp_instruct.specs.Holds.{mode_read, count_read, timeout_read, status_read}
use Rattle.gp_instruct.specs.Taken.{IsLinkOf, IsLinkFault}

-- the first field that gives a link, where one does
abbrev pub IsFirstLink : List (List ℕ) → Option (List ℕ) → Type 0
IsFirstLink [] link = link ≡ None
IsFirstLink (value ∷ more) link = (IsSome link × IsLinkOf value link) ⊎ (IsLinkOf value None × IsFirstLink more link)

-- the first field that is refused; none before it gives a link
abbrev pub IsFirstLinkFault : List (List ℕ) → InstructFault → Type 0
IsFirstLinkFault [] fault = ⊥
IsFirstLinkFault (value ∷ more) fault = IsLinkFault value fault ⊎ (IsLinkOf value None × IsFirstLinkFault more fault)

abbrev pub AreLinksRead : List Field → Option (List ℕ) → Type 0
AreLinksRead fields link = IsFirstLink (values (codes "grip-link") fields) link

abbrev pub IsLinksFault : List Field → InstructFault → Type 0
IsLinksFault fields Mode = ⊥
IsLinksFault fields (Channel fault) = ⊥
IsLinksFault fields NoChannel = ⊥
IsLinksFault fields (TooMany n) = ⊥
IsLinksFault fields (Reliable n) = ⊥
IsLinksFault fields Timeout = ⊥
IsLinksFault fields Status = ⊥
IsLinksFault fields (Link place) = IsFirstLinkFault (values (codes "grip-link") fields) (Link place)
IsLinksFault fields NoMemory = ⊤

-- the hold, and its channels are good
pub record IsHold (fields : List Field) (mode : Option Hold) : Type 0 where
  pub mode_is : mode_read (values (codes "grip-hold") fields) ≡ Ok mode
  pub good : AllByRecursion IsGoodSub (asked fields)

-- so far, and what is said of how many channels there are
pub record IsCounted (fields : List Field) (counted : Result (Unit {0}) InstructFault) : Type 0 where
  pub mode : Option Hold
  pub hold : IsHold fields mode
  pub count : count_read mode (firsts (asked fields)) ≡ counted

-- so far, and what is said of the timeout
pub record IsTimed (fields : List Field) (timed : Result ℕ InstructFault) : Type 0 where
  pub counted : IsCounted fields (Ok tt)
  pub timeout : timeout_read (values (codes "grip-timeout") fields) ≡ timed

-- so far, and what is said of the status
pub record HasStatus (fields : List Field) (status : Result (Option ℕ) InstructFault) : Type 0 where
  pub seconds : ℕ
  pub timed : IsTimed fields (Ok seconds)
  pub status_is : status_read (values (codes "grip-status") fields) ≡ status

-- each part of the instruction
pub record AreParts (fields : List Field) (instruct : Instruct) : Type 0 where
  pub hold : IsHold fields instruct.mode
  pub subs : instruct.subs ≡ firsts (asked fields)
  pub count : count_read instruct.mode instruct.subs ≡ Ok tt
  pub timeout : timeout_read (values (codes "grip-timeout") fields) ≡ Ok instruct.timeout
  pub status : status_read (values (codes "grip-status") fields) ≡ Ok instruct.status
  pub link : AreLinksRead fields instruct.link

-- the instruction, or none where no field gives one
abbrev pub IsInstruct : List Field → Option Instruct → Type 0
IsInstruct fields None = is_given fields ≡ false
IsInstruct fields (Some instruct) = (is_given fields ≡ true) × AreParts fields instruct

-- the first fault; what is tried before it is good
abbrev pub IsFirstFault : List Field → InstructFault → Type 0
IsFirstFault fields Mode = mode_read (values (codes "grip-hold") fields) ≡ Err Mode
IsFirstFault fields (Channel fault) =
    (mode : Option Hold) × (mode_read (values (codes "grip-hold") fields) ≡ Ok mode) × IsFirstRefusal (asked fields) fault
IsFirstFault fields NoChannel = IsCounted fields (Err NoChannel)
IsFirstFault fields (TooMany n) = IsCounted fields (Err (TooMany n))
IsFirstFault fields (Reliable n) = IsCounted fields (Err (Reliable n))
IsFirstFault fields Timeout = IsTimed fields (Err Timeout)
IsFirstFault fields Status = HasStatus fields (Err Status)
IsFirstFault fields (Link place) = (status : Option ℕ) × HasStatus fields (Ok status) × IsLinksFault fields (Link place)
IsFirstFault fields NoMemory = ⊤

-- a field gives an instruction, and this is its first fault; want of memory is free
abbrev pub IsInstructFault : List Field → InstructFault → Type 0
IsInstructFault fields fault = (is_given fields ≡ true) × IsFirstFault fields fault
