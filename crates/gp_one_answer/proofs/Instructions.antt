-- What the fields of a head ask for is read in one way.
use Rattle.std.proofs.Common.{◌≡◌, ◌≢◌, ℕ, ◌<◌, inl, inr, true, false, List, [], ◌∷◌, length, codes, Option, Some, None, IsSome, Result, Ok, Err, refl, sym, ap, ◌∙◌, subst, arith}
use Rattle.std.specs.List.{AllByRecursion}
use Rattle.gp_plain.specs.Names.{IsName}
use Rattle.gp_plain.specs.declared.item.Field.{Field}
use Rattle.gp_plain.specs.declared.name.NameFault.{NameFault}
use Rattle.gp_plain.specs.declared.name.NameFault.TheVariants.{Empty, Long, Byte, NoMemory as NameNoMemory}
use Rattle.gp_instruct.specs.declared.instruct.Sub.{Sub}
use Rattle.gp_instruct.specs.declared.instruct.Mode.{Mode as Hold}
use Rattle.gp_instruct.specs.declared.instruct.Instruct.{Instruct}
use Rattle.gp_instruct.specs.declared.fault.InstructFault.{InstructFault}
use Rattle.gp_instruct.specs.declared.fault.InstructFault.TheVariants.{Mode, Channel, NoChannel, TooMany, Reliable, Timeout, Status, Link, NoMemory}
use Rattle.gp_instruct.specs.Asked.{asked}
use Rattle.gp_instruct.specs.Fields.{values}
use Rattle.gp_instruct.specs.Channels.{IsGoodSub, IsSomeId, IsNameRefusal, IsIdRefusal, IsSubRefusal, IsFirstRefusal, firsts}
use Rattle.gp_instruct.specs.Holds.{mode_read, count_read, timeout_read, status_read}
use Rattle.gp_instruct.specs.Links.{part}
use Rattle.gp_instruct.specs.Targets.{IsTarget}
use Rattle.gp_instruct.specs.Taken.{IsLinkOf, IsLinkFault}
use Rattle.gp_instruct.specs.Heads.{IsFirstLink, IsFirstLinkFault, AreLinksRead, IsCounted, IsTimed, HasStatus, AreParts, IsInstruct, IsFirstFault, IsInstructFault}

-- a result isn't both
pub not_both : {A E : Type 0} (r : Result A E) (x : A) (e : E) → r ≡ Ok x → r ≡ Err e → ⊥
not_both r x e ok err = absurd cc

-- and has one value
pub one_ok : {A E : Type 0} (r : Result A E) (x y : A) → r ≡ Ok x → r ≡ Ok y → x ≡ y
one_ok r x y first second = cc

-- channels

-- a name isn't refused
no_bad_name : (bytes : List ℕ) (fault : NameFault) → IsName bytes → IsNameRefusal bytes fault → ⊥
no_bad_name bytes Empty is refused =
    let some : 0 < length bytes = is.some in
    let none : length bytes ≡ 0 = ap length refused in
    absurd (omega (arith, some, none))
no_bad_name bytes (Long n) is (long, n_is) = absurd (omega (arith, is.short, long))
no_bad_name bytes (Byte place) is (some, short, first) =
    let never : true ≡ false = sym first.bad ∙ is.clean place first.within in
    absurd cc
no_bad_name bytes NameNoMemory is refused = refused

no_bad_id : (id : Option (List ℕ)) (fault : NameFault) → IsSomeId id → IsIdRefusal id fault → ⊥
no_bad_id None fault is refused = refused
no_bad_id (Some id) fault is refused = no_bad_name id fault is refused

-- nor a good channel
no_bad_sub : (sub : Sub) (fault : NameFault) → IsGoodSub sub → IsSubRefusal sub fault → ⊥
no_bad_sub sub fault good (inl refused) = no_bad_name sub.name fault good.name refused
no_bad_sub sub fault good (inr (name, refused)) = no_bad_id sub.prev fault good.prev refused

pub no_bad_channel : (subs : List Sub) (fault : NameFault) → AllByRecursion IsGoodSub subs → IsFirstRefusal subs fault → ⊥
no_bad_channel [] fault good refused = refused
no_bad_channel (sub ∷ more) fault good (inl refused) = no_bad_sub sub fault good.0 refused
no_bad_channel (sub ∷ more) fault good (inr (first, refused)) = no_bad_channel more fault good.1 refused

-- links

-- a field gives one link, or none
one_link : (value : List ℕ) (a b : Option (List ℕ)) → IsLinkOf value a → IsLinkOf value b → a ≡ b
one_link value None None x y = refl
one_link value None (Some uri) x (span, whole, is, target) = absurd cc
one_link value (Some uri) None (span, whole, is, target) y = absurd cc
one_link value (Some uri) (Some other) (span, whole, is, target) (span', whole', is', target') =
    let same : span ≡ span' = cc in
    ap Some (is ∙ ap (part value) same ∙ sym is')

-- and isn't refused
no_bad_value : (value : List ℕ) (link : Option (List ℕ)) (place : ℕ) → IsLinkOf value link → IsLinkFault value (Link place) → ⊥
no_bad_value value None place of (inl (n, stop, at)) = absurd cc
no_bad_value value None place of (inr (span, whole, not, at)) = absurd cc
no_bad_value value (Some uri) place (span, whole, is, target) (inl (n, stop, at)) = absurd cc
no_bad_value value (Some uri) place (span, whole, is, target) (inr (other, again, not, at)) =
    let same : span ≡ other = cc in
    not (subst (λ s. IsTarget (part value s)) same (subst IsTarget is target))

-- one that gives a link doesn't give none
not_missing : (value : List ℕ) (link : Option (List ℕ)) → IsSome link → IsLinkOf value link → IsLinkOf value None → ⊥
not_missing value None some of none = absurd cc
not_missing value (Some uri) some (span, whole, is, target) none = absurd cc

one_first_link : (given : List (List ℕ)) (a b : Option (List ℕ)) → IsFirstLink given a → IsFirstLink given b → a ≡ b
one_first_link [] a b x y = x ∙ sym y
one_first_link (value ∷ more) a b (inl (some, of)) (inl (some', of')) = one_link value a b of of'
one_first_link (value ∷ more) a b (inl (some, of)) (inr (none, first)) = absurd (not_missing value a some of none)
one_first_link (value ∷ more) a b (inr (none, first)) (inl (some, of)) = absurd (not_missing value b some of none)
one_first_link (value ∷ more) a b (inr (none, first)) (inr (none', first')) = one_first_link more a b first first'

no_bad_first : (given : List (List ℕ)) (link : Option (List ℕ)) (place : ℕ) → IsFirstLink given link → IsFirstLinkFault given (Link place) → ⊥
no_bad_first [] link place first fault = fault
no_bad_first (value ∷ more) link place (inl (some, of)) (inl fault) = no_bad_value value link place of fault
no_bad_first (value ∷ more) link place (inl (some, of)) (inr (none, fault)) = not_missing value link some of none
no_bad_first (value ∷ more) link place (inr (none, first)) (inl fault) = no_bad_value value None place none fault
no_bad_first (value ∷ more) link place (inr (none, first)) (inr (again, fault)) = no_bad_first more link place first fault

-- the same of all fields of a head
pub one_links : (fields : List Field) (a b : Option (List ℕ)) → AreLinksRead fields a → AreLinksRead fields b → a ≡ b
one_links fields a b x y = one_first_link (values (codes "grip-link") fields) a b x y

pub no_bad_links : (fields : List Field) (link : Option (List ℕ)) (place : ℕ) → AreLinksRead fields link
    → IsFirstLinkFault (values (codes "grip-link") fields) (Link place) → ⊥
no_bad_links fields link place read fault = no_bad_first (values (codes "grip-link") fields) link place read fault

-- the whole instruction of fields
module _ (fields : List Field) (instruct : Instruct) (parts : AreParts fields instruct) where
  one_count : (counted : Result (Unit {0}) InstructFault) → IsCounted fields counted → counted ≡ Ok tt
  one_count counted is =
      let mode : instruct.mode ≡ is.mode = one_ok (mode_read (values (codes "grip-hold") fields)) instruct.mode is.mode parts.hold.mode_is is.hold.mode_is in
      let modes = ap (λ (m : Option Hold). count_read m (firsts (asked fields))) mode in
      sym is.count ∙ sym modes ∙ ap (count_read instruct.mode) (sym parts.subs) ∙ parts.count

  one_time : (timed : Result ℕ InstructFault) → IsTimed fields timed → timed ≡ Ok instruct.timeout
  one_time timed is = sym is.timeout ∙ parts.timeout

  one_status : (status : Result (Option ℕ) InstructFault) → HasStatus fields status → status ≡ Ok instruct.status
  one_status status is = sym is.status_is ∙ parts.status

  -- no part is refused
  no_bad_part : (fault : InstructFault) → fault ≢ NoMemory → IsFirstFault fields fault → ⊥
  no_bad_part Mode not refused = not_both (mode_read (values (codes "grip-hold") fields)) instruct.mode Mode parts.hold.mode_is refused
  no_bad_part (Channel fault) not (mode, mode_is, refused) = no_bad_channel (asked fields) fault parts.hold.good refused
  no_bad_part NoChannel not refused = not_both (Err NoChannel) tt NoChannel (one_count (Err NoChannel) refused) refl
  no_bad_part (TooMany n) not refused = not_both (Err (TooMany n)) tt (TooMany n) (one_count (Err (TooMany n)) refused) refl
  no_bad_part (Reliable n) not refused = not_both (Err (Reliable n)) tt (Reliable n) (one_count (Err (Reliable n)) refused) refl
  no_bad_part Timeout not refused = not_both (Err Timeout) instruct.timeout Timeout (one_time (Err Timeout) refused) refl
  no_bad_part Status not refused = not_both (Err Status) instruct.status Status (one_status (Err Status) refused) refl
  no_bad_part (Link place) not (status, before, refused) = no_bad_links fields instruct.link place parts.link refused
  no_bad_part NoMemory not refused = not refl

  -- each part is one
  one_parts : (other : Instruct) → AreParts fields other → instruct ≡ other
  one_parts other parts' =
      let modes = mode_read (values (codes "grip-hold") fields) in
      let mode : instruct.mode ≡ other.mode = one_ok modes instruct.mode other.mode parts.hold.mode_is parts'.hold.mode_is in
      let subs : instruct.subs ≡ other.subs = parts.subs ∙ sym parts'.subs in
      let timeouts = timeout_read (values (codes "grip-timeout") fields) in
      let timeout : instruct.timeout ≡ other.timeout = one_ok timeouts instruct.timeout other.timeout parts.timeout parts'.timeout in
      let statuses = status_read (values (codes "grip-status") fields) in
      let status : instruct.status ≡ other.status = one_ok statuses instruct.status other.status parts.status parts'.status in
      let link : instruct.link ≡ other.link = one_links fields instruct.link other.link parts.link parts'.link in
      λ j. record { mode = mode j; subs = subs j; timeout = timeout j; status = status j; link = link j }

pub instruct_holds : (fields : List Field) (read : Option Instruct) (fault : InstructFault) → IsInstruct fields read → IsInstructFault fields fault
    → fault ≢ NoMemory → ⊥
instruct_holds fields None fault none (given, refused) not = let never : true ≡ false = sym given ∙ none in absurd cc
instruct_holds fields (Some instruct) fault (given, parts) (again, refused) not = no_bad_part fields instruct parts fault not refused

pub one_instruct_holds : (fields : List Field) (a b : Option Instruct) → IsInstruct fields a → IsInstruct fields b → a ≡ b
one_instruct_holds fields None None x y = refl
one_instruct_holds fields None (Some b) x (given, parts) = let never : true ≡ false = sym given ∙ x in absurd cc
one_instruct_holds fields (Some a) None (given, parts) y = let never : true ≡ false = sym given ∙ y in absurd cc
one_instruct_holds fields (Some a) (Some b) (given, parts) (again, parts') = ap Some (one_parts fields a parts b parts')
