-- The links of the fields, one after another.
use Rattle.std.proofs.Common.{◌≡◌, ℕ, inl, inr, List, [], ◌∷◌, Option, Some, None, Ok, Err, codes, is_some, true, false, refl, sym, ap, ◌∙◌, subst}
use Rattle.gp_plain.specs.declared.item.Field.{Field}
use Rattle.gp_instruct.specs.declared.fault.InstructFault.{InstructFault}
use Rattle.gp_instruct.specs.declared.fault.InstructFault.TheVariants.{Status}
use Rattle.gp_instruct.specs.declared.instruct.Sub.{Sub}
use Rattle.gp_instruct.specs.declared.instruct.Mode.{Mode as Hold}
use Rattle.gp_instruct.specs.Asked.{asked}
use Rattle.gp_instruct.specs.Channels.{AreAdded}
use Rattle.gp_instruct.specs.Fields.{values}
use Rattle.gp_instruct.specs.Holds.{mode_read, count_read, timeout_read, status_read, some_status}
use Rattle.gp_instruct.specs.Numbers.{status_of}
use Rattle.gp_instruct.specs.Taken.{IsLinkOf, IsLinkFault}
use Rattle.gp_instruct.specs.Heads.{IsFirstLink, IsFirstLinkFault, IsFirstFault, HasStatus}

-- what is read of all values is what is read of the rest
pub record Follows (all rest : List (List ℕ)) : Type 0 where
  pub on : (link : Option (List ℕ)) → IsFirstLink rest link → IsFirstLink all link
  pub refused : (fault : InstructFault) → IsFirstLinkFault rest fault → IsFirstLinkFault all fault

pub follows_start : (all : List (List ℕ)) → Follows all all
follows_start all = record { on = λ link is. is; refused = λ fault is. is }

module _ (all rest more : List (List ℕ)) (value : List ℕ) (follows : Follows all rest) (is : rest ≡ value ∷ more) where
  abbrev by : Follows all (value ∷ more)
  by = subst (Follows all) is follows

  pub follows_on : (link : Option (List ℕ)) → IsLinkOf value link → is_some link ≡ false → Follows all more
  follows_on None none missing = record {
    on = λ link then. by.on link (inr (none, then));
    refused = λ fault then. by.refused fault (inr (none, then));
  }
  follows_on (Some link) none missing = cc

  pub follows_link : (link : Option (List ℕ)) → IsLinkOf value link → is_some link ≡ true → IsFirstLink all link
  follows_link None found there = cc
  follows_link (Some link) found there = by.on (Some link) (inl (refl, found))

  pub follows_fault : (fault : InstructFault) → IsLinkFault value fault → IsFirstLinkFault all fault
  follows_fault fault refused = by.refused fault (inl refused)

status_only : (texts : List (List ℕ)) (fault : InstructFault) → Err fault ≡ status_read texts → fault ≡ Status
status_only [] fault is = cc
status_only (text ∷ more) fault is = by_code (status_of text) is
  where
    by_code : (code : Option ℕ) → Err fault ≡ some_status code → fault ≡ Status
    by_code None is = cc
    by_code (Some code) is = cc

pub status_fault : (fields : List Field) (mode : Option Hold) (subs : List Sub) (seconds : ℕ) (fault : InstructFault)
    → Ok mode ≡ mode_read (values (codes "grip-hold") fields) → AreAdded [] (asked fields) subs → Ok tt ≡ count_read mode subs
    → Ok seconds ≡ timeout_read (values (codes "grip-timeout") fields) → Err fault ≡ status_read (values (codes "grip-status") fields) → IsFirstFault fields fault
status_fault fields mode subs seconds fault mode_is added counted timed is =
    let only = status_only (values (codes "grip-status") fields) fault is in
    let has : HasStatus fields (Err Status) = record {
      seconds = seconds;
      timed = record {
        counted = record {
          mode = mode;
          hold = record { mode_is = sym mode_is; good = added.good };
          count = ap (count_read mode) (sym added.subs_are) ∙ sym counted;
        };
        timeout = sym timed;
      };
      status_is = sym is ∙ ap Err only;
    } in
    subst (IsFirstFault fields) (sym only) has
