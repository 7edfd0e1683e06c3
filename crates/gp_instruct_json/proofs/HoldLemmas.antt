-- The channels of a hold, one after another.
use Rattle.std.proofs.Common.{◌≡◌, ℕ, ◌+◌, ◌<◌, ◌≤◌, List, [], ◌∷◌, length, get_or, drop, map, Option, option_map, Bor, sym, ap, ◌∙◌, subst}
use Rattle.std.proofs.lemmas.List.{at_drop_more, at_drop_all}
use Rattle.serde_json.specs.View.{view}
use Rattle.serde_json.specs.declared.value.Value.{Value}
use Rattle.gp_instruct.specs.declared.instruct.Sub.{Sub}
use Rattle.gp_instruct.specs.Channels.{AreAdded, AreWith, named}
use Rattle.gp_instruct.proofs.PartLemmas.{Leads, added_none, leads_by_on}
use Rattle.gp_instruct_json.specs.Members.{name_in, prev_in, sub_in}

abbrev pub asked_in : List Value → List Sub
asked_in channels = map sub_in (map view channels)

module _ (channels : List Value) (i : ℕ) (subs : List Sub) (leads : Leads [] subs (asked_in channels) (asked_in (drop i channels))) where
  pub leads_channel : (item : Value) (name : List ℕ) (prev : Option (Bor (List ℕ))) (now : List Sub) → i < length channels → item ≡ get_or channels i item
      → name ≡ name_in (view item) → option_map (λ (p : Bor (List ℕ)). p.now) prev ≡ prev_in (view item) → AreWith subs (named name prev) now
      → Leads [] now (asked_in channels) (asked_in (drop (i + 1) channels))
  leads_channel item name prev now inside is name_is prev_is with_it =
      let own : sub_in (view item) ≡ named name prev = λ j. record { name = sym name_is j; prev = sym prev_is j } in
      let here = at_drop_more asked_in channels i item inside in
      let first = ap (λ (v : Value). sub_in (view v) ∷ asked_in (drop (i + 1) channels)) (sym is) ∙ ap (λ (s : Sub). s ∷ asked_in (drop (i + 1) channels)) own in
      leads_by_on [] subs (asked_in channels) (asked_in (drop i channels)) (named name prev ∷ []) (asked_in (drop (i + 1) channels)) leads (here ∙ first) now
      (record { good = (with_it.good, tt); subs_are = with_it.subs_are })

  pub leads_end : (now : List Sub) → length channels ≤ i → now ≡ subs → AreAdded [] (asked_in channels) now
  leads_end now end is =
      let none = at_drop_all asked_in channels i end in
      let whole = leads.added subs (subst (λ (rest : List Sub). AreAdded subs rest subs) (sym none) (added_none subs)) in
      subst (AreAdded [] (asked_in channels)) (sym is) whole
