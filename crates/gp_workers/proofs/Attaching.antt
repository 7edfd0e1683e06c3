-- A hold that a history attaches further is of a number of a further entry.
use Rattle.std.proofs.Common.{◌≡◌, ℕ, zero, suc, ◌≤◌, ◌⊎◌, inl, inr, ◌==◌, Bool, true, false, cond, not, List, [], ◌∷◌, ◌++◌, append_assoc, append-nil, map, fold, length, refl, sym, ap, subst, ◌∙◌, ⊎_elim, arith, slice_get, Some}
use Rattle.std.specs.List.{All}
use Rattle.std.proofs.Math.ListN.{length-map}
use Rattle.std.proofs.lemmas.List.Sums.{fold-append}
use Rattle.std.proofs.lemmas.List.Elements.{All-nil, All-cons, All-head, All-tail}
use Rattle.gp_plain.specs.declared.item.Item.{Item}
use Rattle.gp_plain.specs.declared.event.Entry.{Entry}
use Rattle.gp_plain.specs.declared.event.Event.{Event}
use Rattle.gp_plain.specs.declared.event.Event.TheVariants.{Attach, Publish, Take, Page, PageFailed, Push, Join, Leave, Detach}
use Rattle.gp_plain.specs.Follow.{last_items, is_repeat}
use Rattle.gp_plain.specs.Holds.{Held, push, join, leave, begun, taken_from, paged_from, failed, changed_by, let_go}
use Rattle.gp_plain.specs.History.{Past, page_of, has_place, changed, served_by, with_item, with_hold, after_event, after, nothing, past_of, held}
use Rattle.gp_workers.proofs.Working.{map_push}

abbrev owners : List Held → List ℕ
owners holds = map (λ (h : Held). h.owner) holds

served_owners : (item : Item) (before later : List Item) (hs : List Held) → owners (map (served_by item before later) hs) ≡ owners hs
served_owners item before later [] = refl
served_owners item before later (h ∷ hs) = ap (λ (l : List ℕ). h.owner ∷ l) (served_owners item before later hs)

changed_owner : (f : Held → Held) (h : Held) (kept own : Bool) → (f h).owner ≡ h.owner → (cond kept (cond own (f h) h) h).owner ≡ h.owner
changed_owner f h true true same = same
changed_owner f h true false same = refl
changed_owner f h false own same = refl

changed_owners : (who m : ℕ) (f : Held → Held) (hs : List Held) → ((h : Held) → (f h).owner ≡ h.owner) → owners (changed who m f hs) ≡ owners hs
changed_owners who m f [] same = refl
changed_owners who zero f (h ∷ hs) same = ap (λ (n : ℕ). n ∷ owners hs) (changed_owner f h (not h.released) (h.owner == who) (same h))
changed_owners who (suc m) f (h ∷ hs) same = ap (λ (l : List ℕ). h.owner ∷ l) (changed_owners who m f hs same)

published_owners : (past : Past) (item : Item) (repeat : Bool) → owners (cond repeat past (with_item past item)).holds ≡ owners past.holds
published_owners past item true = refl
published_owners past item false = served_owners item (last_items past.published) (last_items (past.published ++ item ∷ [])) past.holds

attached_owners : (past : Past) (h : Held) (place : Bool) → (owners (cond place (with_hold past h) past).holds ≡ owners past.holds) ⊎ (owners (cond place (with_hold past h) past).holds ≡ owners past.holds ++ h.owner ∷ [])
attached_owners past h true = inr (map_push (λ (h : Held). h.owner) past.holds h)
attached_owners past h false = inl refl

one_owners : (who : ℕ) (past : Past) (event : Event) → (owners (after_event past who event).holds ≡ owners past.holds) ⊎ (owners (after_event past who event).holds ≡ owners past.holds ++ who ∷ [])
one_owners who past (Attach spec) = attached_owners past (begun who spec (last_items past.published)) (has_place past.holds)
one_owners who past (Publish item) = inl (published_owners past item (is_repeat (last_items past.published) item))
one_owners who past (Take hold now) = inl (changed_owners who hold (taken_from now) past.holds (λ h. refl))
one_owners who past (Detach hold) = inl (changed_owners who hold let_go past.holds (λ h. refl))
one_owners who past (Page hold from to bytes then) = inl (changed_owners who hold (paged_from (last_items past.published) (page_of from to bytes then)) past.holds (λ h. refl))
one_owners who past (PageFailed hold) = inl (changed_owners who hold failed past.holds (λ h. refl))
one_owners who past (Push hold message) = inl (changed_owners who hold (changed_by (push message)) past.holds (λ h. refl))
one_owners who past (Join hold channel) = inl (changed_owners who hold (changed_by (join channel)) past.holds (λ h. refl))
one_owners who past (Leave hold channel) = inl (changed_owners who hold (changed_by (leave channel)) past.holds (λ h. refl))

module _ (P : ℕ → Type 0) where
  record Adds (before now : List ℕ) : Type 0 where
    new : List ℕ
    is : now ≡ before ++ new
    all : All P new

  more_owners : (more : List Entry) (past : Past) → All (λ (e : Entry). P e.who) more → Adds (owners past.holds) (owners (fold after past more).holds)
  more_owners [] past all = record { new = []; is = sym (append-nil (owners past.holds)); all = All-nil P }
  more_owners (e ∷ es) past all =
      let rest = more_owners es (after past e) (All-tail (λ (e : Entry). P e.who) e es all) in ⊎_elim
      (λ (same : owners (after_event past e.who e.event).holds ≡ owners past.holds). record {
        new = rest.new;
        is = rest.is ∙ ap (λ (l : List ℕ). l ++ rest.new) same;
        all = rest.all;
      })
      (λ (one : owners (after_event past e.who e.event).holds ≡ owners past.holds ++ e.who ∷ []). record {
        new = e.who ∷ rest.new;
        is = rest.is ∙ (ap (λ (l : List ℕ). l ++ rest.new) one ∙ append_assoc (owners past.holds) (e.who ∷ []) rest.new);
        all = All-cons P e.who rest.new (All-head (λ (e : Entry). P e.who) e es all) rest.all;
      })
      (one_owners e.who past e.event)

  owner_at : (hs : List Held) (k : ℕ) (h : Held) → All P (owners hs) → slice_get hs k ≡ Some h → P h.owner
  owner_at [] k h all at = absurd cc
  owner_at (x ∷ xs) zero h all at = let same : x ≡ h = cc in subst (λ (h : Held). P h.owner) same (All-head P x.owner (owners xs) all)
  owner_at (x ∷ xs) (suc k) h all at = owner_at xs k h (All-tail P x.owner (owners xs) all) at

  owner_from : (front new : List ℕ) (hs : List Held) (k : ℕ) (h : Held) → owners hs ≡ front ++ new → All P new → length front ≤ k → slice_get hs k ≡ Some h → P h.owner
  owner_from [] new hs k h is all le at = owner_at hs k h (subst (All P) (sym is) all) at
  owner_from (f ∷ fs) new [] k h is all le at = absurd cc
  owner_from (f ∷ fs) new (x ∷ xs) zero h is all le at = absurd (omega arith)
  owner_from (f ∷ fs) new (x ∷ xs) (suc k) h is all le at = let rest : owners xs ≡ fs ++ new = cc in owner_from fs new xs k h rest all (omega arith) at

  -- what holds of the number of each further entry holds of the owner of each further hold
  pub new_owner : (seen more : List Entry) (k : ℕ) (h : Held) → All (λ (e : Entry). P e.who) more → length (held seen) ≤ k → slice_get (held (seen ++ more)) k ≡ Some h → P h.owner
  new_owner seen more k h all le at =
      let adds = more_owners more (past_of seen) all in
      let holds : held (seen ++ more) ≡ (fold after (past_of seen) more).holds = ap (λ (past : Past). past.holds) (fold-append after nothing seen more) in
      let short : length (owners (held seen)) ≡ length (held seen) = length-map (held seen) (λ (h : Held). h.owner) in
      owner_from (owners (held seen)) adds.new (held (seen ++ more)) k h (ap owners holds ∙ adds.is) adds.all (omega arith) at
