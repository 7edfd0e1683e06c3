-- The parts of a text, one after another, and the channels that they ask for.
use Rattle.std.proofs.Common.{◌≡◌, ℕ, ◌+◌, ◌<◌, ◌≤◌, ◌⊎◌, inl, inr, Bool, false, cond, List, [], ◌∷◌, ◌++◌, length, drop, Option, Some, None, option_map, IfSome, Bor, refl, sym, ap, ◌∙◌, subst, arith}
use Rattle.std.specs.List.{before_first, position_or_len, slice_split, fold, AllByRecursion}
use Rattle.std.proofs.lemmas.Bool.{lt-ltb, le-ltb, cases_lt}
use Rattle.std.proofs.lemmas.List.{take_all}
use Rattle.std.proofs.lemmas.List.Elements.{All-from_get_or}
use Rattle.std.proofs.lemmas.List.Splits.{slice_split_first, slice_split_none}
use Rattle.std.proofs.lemmas.List.Sums.{fails_before_first}
use Rattle.gp_plain.specs.declared.name.NameFault.{NameFault}
use Rattle.gp_instruct.specs.declared.instruct.Sub.{Sub}
use Rattle.gp_instruct.specs.declared.fault.InstructFault.{InstructFault}
use Rattle.gp_instruct.specs.declared.fault.InstructFault.TheVariants.{Mode, Channel, NoChannel, TooMany, Reliable, Timeout, Status, Link, NoMemory}
use Rattle.gp_instruct.specs.Texts.{is, behind, parts_in}
use Rattle.gp_instruct.specs.Channels.{AreAdded, IsChannelsFault, IsFirstRefusal, IsGoodSub, with_sub}

-- a text is its first part, and the parts behind the first mark
pub parts_cut : (mark : ℕ) (text : List ℕ) → slice_split (is mark) text ≡ before_first (is mark) text ∷ parts_in mark (behind mark text)
parts_cut mark text = by_place (cases_lt (position_or_len (is mark) text) (length text))
  where
    n : ℕ
    n = position_or_len (is mark) text

    by_place : (position_or_len (is mark) text < length text) ⊎ (length text ≤ position_or_len (is mark) text) → slice_split (is mark) text ≡ before_first (is mark) text ∷ parts_in mark (behind mark text)
    by_place (inl inside) =
        slice_split_first (is mark) text 0 inside
        ∙ ap (λ (b : Bool). before_first (is mark) text ∷ parts_in mark (cond b (Some (drop (position_or_len (is mark) text + 1) text)) None)) (sym (lt-ltb (position_or_len (is mark) text) (length text) inside))
    by_place (inr past) =
        slice_split_none (is mark) text (All-from_get_or (λ (b : ℕ). is mark b ≡ false) text 0 (λ k inside. fails_before_first (is mark) text k 0 (omega arith)))
        ∙ ap (λ (t : List ℕ). t ∷ []) (sym (take_all (position_or_len (is mark) text) text past))
        ∙ ap (λ (b : Bool). before_first (is mark) text ∷ parts_in mark (cond b (Some (drop (position_or_len (is mark) text + 1) text)) None)) (sym (le-ltb (position_or_len (is mark) text) (length text) past))

-- how much is left of a text whose rest may be over
abbrev pub room : Option (List ℕ) → ℕ
room None = 0
room (Some text) = length text + 1

-- the text of a rest
abbrev pub text_of : Option (Bor (List ℕ)) → Option (List ℕ)
text_of rest = option_map (λ (text : Bor (List ℕ)). text.now) rest

module _ (rest more : Option (Bor (List ℕ))) (text : Bor (List ℕ)) (begins : rest ≡ Some text) where
  pub room_smaller : IfSome more (λ (after : Bor (List ℕ)). length after.now < length text.now) → room (text_of more) < room (text_of rest)
  room_smaller shorter = subst (λ (r : Option (Bor (List ℕ))). room (text_of more) < room (text_of r)) (sym begins) (by_rest more shorter)
    where
      by_rest : (after : Option (Bor (List ℕ))) → IfSome after (λ (a : Bor (List ℕ)). length a.now < length text.now) → room (text_of after) < length text.now + 1
      by_rest None short = omega arith
      by_rest (Some after) short = omega arith

  -- the parts of the rest are this one and those behind it
  pub parts_of_rest : (mark : ℕ) (part : List ℕ) → part ≡ before_first (is mark) text.now → text_of more ≡ behind mark text.now → parts_in mark (text_of rest) ≡ part ∷ parts_in mark (text_of more)
  parts_of_rest mark part front after =
      ap (λ (r : Option (Bor (List ℕ))). parts_in mark (text_of r)) begins ∙ parts_cut mark text.now
      ∙ ap (λ (p : List ℕ). p ∷ parts_in mark (behind mark text.now)) (sym front) ∙ ap (λ (r : Option (List ℕ)). part ∷ parts_in mark r) (sym after)

-- channels asked for in two lists
good_both : (asked more : List Sub) → AllByRecursion IsGoodSub asked → AllByRecursion IsGoodSub more → AllByRecursion IsGoodSub (asked ++ more)
good_both [] more first then = then
good_both (sub ∷ asked) more first then = (first.0, good_both asked more first.1 then)

fold_both : (subs asked more : List Sub) → fold with_sub subs (asked ++ more) ≡ fold with_sub (fold with_sub subs asked) more
fold_both subs [] more = refl
fold_both subs (sub ∷ asked) more = fold_both (with_sub subs sub) asked more

pub added_both : (subs asked more between now : List Sub) → AreAdded subs asked between → AreAdded between more now → AreAdded subs (asked ++ more) now
added_both subs asked more between now first then = record {
  good = good_both asked more first.good then.good;
  subs_are = then.subs_are ∙ ap (λ (b : List Sub). fold with_sub b more) first.subs_are ∙ sym (fold_both subs asked more);
}

pub added_none : (subs : List Sub) → AreAdded subs [] subs
added_none subs = record { good = tt; subs_are = refl }

refused_first : (asked more : List Sub) (fault : NameFault) → IsFirstRefusal asked fault → IsFirstRefusal (asked ++ more) fault
refused_first [] more fault refused = absurd refused
refused_first (sub ∷ asked) more fault (inl here) = inl here
refused_first (sub ∷ asked) more fault (inr later) = inr (later.0, refused_first asked more fault later.1)

refused_later : (asked more : List Sub) (fault : NameFault) → AllByRecursion IsGoodSub asked → IsFirstRefusal more fault → IsFirstRefusal (asked ++ more) fault
refused_later [] more fault good refused = refused
refused_later (sub ∷ asked) more fault good refused = inr (good.0, refused_later asked more fault good.1 refused)

pub fault_first : (asked more : List Sub) (fault : InstructFault) → IsChannelsFault asked fault → IsChannelsFault (asked ++ more) fault
fault_first asked more Mode refused = refused
fault_first asked more (Channel fault) refused = refused_first asked more fault refused
fault_first asked more NoChannel refused = refused
fault_first asked more (TooMany n) refused = refused
fault_first asked more (Reliable n) refused = refused
fault_first asked more Timeout refused = refused
fault_first asked more Status refused = refused
fault_first asked more (Link place) refused = refused
fault_first asked more NoMemory refused = refused

pub fault_later : (asked more : List Sub) (fault : InstructFault) → AllByRecursion IsGoodSub asked → IsChannelsFault more fault → IsChannelsFault (asked ++ more) fault
fault_later asked more Mode good refused = refused
fault_later asked more (Channel fault) good refused = refused_later asked more fault good refused
fault_later asked more NoChannel good refused = refused
fault_later asked more (TooMany n) good refused = refused
fault_later asked more (Reliable n) good refused = refused
fault_later asked more Timeout good refused = refused
fault_later asked more Status good refused = refused
fault_later asked more (Link place) good refused = refused
fault_later asked more NoMemory good refused = refused

-- how the channels of all that is asked for go on with those of the rest
pub record Leads (start subs all rest : List Sub) : Type 0 where
  pub added : (now : List Sub) → AreAdded subs rest now → AreAdded start all now
  pub refused : (fault : InstructFault) → IsChannelsFault rest fault → IsChannelsFault all fault

pub leads_start : (start all : List Sub) → Leads start start all all
leads_start start all = record { added = λ now is. is; refused = λ fault is. is }

module _ (start subs all asked more : List Sub) (leads : Leads start subs all (asked ++ more)) where
  pub leads_on : (next : List Sub) → AreAdded subs asked next → Leads start next all more
  leads_on next is = record {
    added = λ now then. leads.added now (added_both subs asked more next now is then);
    refused = λ fault then. leads.refused fault (fault_later asked more fault is.good then);
  }

  pub leads_refused : (fault : InstructFault) → IsChannelsFault asked fault → IsChannelsFault all fault
  leads_refused fault is = leads.refused fault (fault_first asked more fault is)

-- the same where the rest is given by an equation
module _ (start subs all rest asked more : List Sub) (leads : Leads start subs all rest) (is : rest ≡ asked ++ more) where
  abbrev leads_by : Leads start subs all (asked ++ more)
  leads_by = subst (Leads start subs all) is leads

  pub leads_by_on : (next : List Sub) → AreAdded subs asked next → Leads start next all more
  leads_by_on = leads_on start subs all asked more leads_by

  pub leads_by_refused : (fault : InstructFault) → IsChannelsFault asked fault → IsChannelsFault all fault
  leads_by_refused = leads_refused start subs all asked more leads_by
