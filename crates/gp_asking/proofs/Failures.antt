-- Of a hold that ended as unrecovered, its owner told that a page can't be had.
use Rattle.std.proofs.Common.{◌≡◌, ◌≢◌, ℕ, zero, suc, ◌==◌, Bool, true, false, cond, not, List, [], ◌∷◌, ◌++◌, map, filter, fold, arith, refl, sym, ap, ◌∙◌, subst, eq-eqb, slice_get, Option, Some, None, option_map}
use Rattle.std.specs.List.{All, Contains}
use Rattle.std.proofs.lemmas.Bool.Decides.{nat_tests}
use Rattle.std.proofs.lemmas.List.Elements.{All-contains, All-nil, All-cons, All-head, All-tail, All-weaker, Contains-append_left, Contains-append_right, Contains-push}
use Rattle.gp_plain.specs.declared.item.Item.{Item}
use Rattle.gp_plain.specs.declared.event.Entry.{Entry}
use Rattle.gp_plain.specs.declared.event.Event.{Event}
use Rattle.gp_plain.specs.declared.event.Event.TheVariants.{Attach, Publish, Take, Page, PageFailed, Push, Join, Leave, Detach}
use Rattle.gp_plain.specs.declared.reply.EndCause.TheVariants.{Unrecovered}
use Rattle.gp_plain.specs.Follow.{last_items, is_repeat}
use Rattle.gp_plain.specs.Holds.{Held, begun, taken_from, paged_from, failed, let_go, SocketChange, push, join, leave, changed_by}
use Rattle.gp_plain.specs.History.{Past, page_of, has_place, changed, served_by, with_item, with_hold, after_event, after, nothing, held}
use Rattle.gp_plain.specs.Others.{Share, share_of, share_at}
use Rattle.gp_plain.proofs.EndLaws.{told_law_holds}
use Rattle.gp_hub.specs.Passes.{HubView, entry_of}
use Rattle.gp_hub.specs.Own.{mine}
use Rattle.gp_asking.specs.Failing.{FailingLaw}
use Rattle.gp_asking.proofs.Untouched.{no_some, same_some}
use Rattle.gp_asking.proofs.Unrecovered.{IsUnrecovered, served_before, begun_not, taken_before, let_go_before, paged_before, changed_before}

-- what is said of each hold by its number

abbrev AllAt : (ℕ → Held → Type 0) → List Held → Type 0
AllAt says [] = Unit {0}
AllAt says (h ∷ holds) = says 0 h × AllAt (λ n. says (suc n)) holds

-- the hold of a number
at_number : (says : ℕ → Held → Type 0) (holds : List Held) (n : ℕ) (h : Held) → AllAt says holds → slice_get holds n ≡ Some h → says n h
at_number says [] n h all at = absurd (no_some at)
at_number says (x ∷ holds) zero h all at = subst (says 0) (same_some at) all.0
at_number says (x ∷ holds) (suc n) h all at = at_number (λ n. says (suc n)) holds n h all.1 at

-- each hold is changed
mapped : (says : ℕ → Held → Type 0) (f : Held → Held) (holds : List Held)
    → ((n : ℕ) (h : Held) → says n h → says n (f h)) → AllAt says holds → AllAt says (map f holds)
mapped says f [] keeps all = tt
mapped says f (h ∷ holds) keeps all = (keeps 0 h all.0, mapped (λ n. says (suc n)) f holds (λ n. keeps (suc n)) all.1)

-- one more hold
pushed : (says : ℕ → Held → Type 0) (holds : List Held) (k : Held) → ((n : ℕ) → says n k) → AllAt says holds → AllAt says (holds ++ k ∷ [])
pushed says [] k new all = (new 0, tt)
pushed says (h ∷ holds) k new all = (all.0, pushed (λ n. says (suc n)) holds k (λ n. new (suc n)) all.1)

-- one hold is changed, by its owner
same_number : (a b : ℕ) → (a == b) ≡ true → a ≡ b
same_number a b e = grind (arith, nat_tests, e)

changed_one : (says : Held → Type 0) (who : ℕ) (f : Held → Held) (h : Held) (kept own : Bool) → (h.owner == who) ≡ own
    → (h.owner ≡ who → says h → says (f h)) → says h → says (cond kept (cond own (f h) h) h)
changed_one says who f h true true own keeps is = keeps (same_number h.owner who own) is
changed_one says who f h true false own keeps is = is
changed_one says who f h false owns own keeps is = is

changed_at : (says : ℕ → Held → Type 0) (who number : ℕ) (f : Held → Held) (holds : List Held) → ((h : Held) → h.owner ≡ who → says number h → says number (f h))
    → AllAt says holds → AllAt says (changed who number f holds)
changed_at says who number f [] keeps all = tt
changed_at says who zero f (h ∷ holds) keeps all = (changed_one (says 0) who f h (not h.released) (h.owner == who) refl (keeps h) all.0, all.1)
changed_at says who (suc number) f (h ∷ holds) keeps all = (all.0, changed_at (λ n. says (suc n)) who number f holds keeps all.1)

-- where something is known of each entry, it is known of the failures by which holds ended as unrecovered

module _ (Known : Entry → Type 0) where
  abbrev Says : ℕ → Held → Type 0
  Says n h = IsUnrecovered h.state → Known (entry_of h.owner (PageFailed n))

  attached_holds : (past : Past) (k : Held) (place : Bool) → ((n : ℕ) → Says n k) → AllAt Says past.holds → AllAt Says (cond place (with_hold past k) past).holds
  attached_holds past k true new all = pushed Says past.holds k new all
  attached_holds past k false new all = all

  published_holds : (past : Past) (item : Item) (repeat : Bool) → AllAt Says past.holds → AllAt Says (cond repeat past (with_item past item)).holds
  published_holds past item true all = all
  published_holds past item false all =
      let before = last_items past.published in
      let later = last_items (past.published ++ item ∷ []) in
      mapped Says (served_by item before later) past.holds (λ n h says ended. says (served_before item before later h.state ended)) all

  changed_holds : (past : Past) (who hold : ℕ) (change : SocketChange) → AllAt Says past.holds → AllAt Says (changed who hold (changed_by change) past.holds)
  changed_holds past who hold change all = changed_at Says who hold (changed_by change) past.holds (λ h own says ended. says (changed_before change h.state ended)) all

  -- one entry
  one_holds : (past : Past) (who : ℕ) (event : Event) → Known (entry_of who event) → AllAt Says past.holds → AllAt Says (after_event past who event).holds
  one_holds past who (Attach spec) known all =
      let window = last_items past.published in
      attached_holds past (begun who spec window) (has_place past.holds) (λ n ended. absurd (begun_not spec window ended)) all
  one_holds past who (Publish item) known all = published_holds past item (is_repeat (last_items past.published) item) all
  one_holds past who (Take hold now) known all = changed_at Says who hold (taken_from now) past.holds (λ h own says ended. says (taken_before now h.state ended)) all
  one_holds past who (Detach hold) known all = changed_at Says who hold let_go past.holds (λ h own says ended. says (let_go_before h.state.ended ended)) all
  one_holds past who (Page hold from to bytes then) known all =
      let window = last_items past.published in
      let page = page_of from to bytes then in
      changed_at Says who hold (paged_from window page) past.holds (λ h own says ended. says (paged_before window page h.state ended)) all
  one_holds past who (PageFailed hold) known all =
      changed_at Says who hold failed past.holds (λ h own says ended. subst (λ n. Known (entry_of n (PageFailed hold))) (sym own) known) all
  one_holds past who (Push hold message) known all = changed_holds past who hold (push message) all
  one_holds past who (Join hold channel) known all = changed_holds past who hold (join channel) all
  one_holds past who (Leave hold channel) known all = changed_holds past who hold (leave channel) all

  -- all of them
  all_hold : (entries : List Entry) (past : Past) → All Known entries → AllAt Says past.holds → AllAt Says (fold after past entries).holds
  all_hold [] past known all = all
  all_hold (e ∷ es) past known all = all_hold es (after past e) (All-tail Known e es known) (one_holds past e.who e.event (All-head Known e es known) all)

  pub failure_known : (entries : List Entry) (n : ℕ) (h : Held)
      → All Known entries → slice_get (held entries) n ≡ Some h → IsUnrecovered h.state → Known (entry_of h.owner (PageFailed n))
  failure_known entries n h known at = at_number Says (held entries) n h (all_hold entries nothing known tt) at

-- entries of one's own

module _ {X : Type 0} (own : X → Bool) where
  first_stands : (x : X) (xs : List X) (is : Bool) → is ≡ true → Contains (cond is (x ∷ xs) xs) x
  first_stands x xs true e = Contains-append_left (x ∷ []) xs x (Contains-push [] x)
  first_stands x xs false e = cc e

  later_stands : (x y : X) (xs : List X) (is : Bool) → Contains xs y → Contains (cond is (x ∷ xs) xs) y
  later_stands x y xs true there = Contains-append_right (x ∷ []) xs y there
  later_stands x y xs false there = there

  -- each of one's own stands among those of one's own
  own_stand : (xs : List X) → All (λ y. own y ≡ true → Contains (filter own xs) y) xs
  own_stand [] = All-nil (λ y. own y ≡ true → Contains [] y)
  own_stand (x ∷ xs) =
      let Rest : X → Type 0 = λ y. own y ≡ true → Contains (filter own xs) y in
      let Whole : X → Type 0 = λ y. own y ≡ true → Contains (filter own (x ∷ xs)) y in
      All-cons Whole x xs (λ is. first_stands x (filter own xs) (own x) is)
      (All-weaker Rest Whole (λ y there is. later_stands x y (filter own xs) (own x) (there is)) xs (own_stand xs))

-- where that end was told of a hold of a pass
told_by : (p : HubView) (number : ℕ) (share : Share) (found : Option Held) → slice_get (held p.seen) number ≡ found
    → option_map share_of found ≡ Some share → share.owner ≡ p.number → share.told ≡ Some Unrecovered → Contains (mine p) (entry_of p.number (PageFailed number))
told_by p number share None at is owner told = absurd (no_some is)
told_by p number share (Some h) at is owner told =
    let own : Entry → Bool = λ entry. entry.who == p.number in
    let same : share_of h ≡ share = same_some is in
    let owned : h.owner ≡ p.number = ap (λ (s : Share). s.owner) same ∙ owner in
    let ended = (told_law_holds p.seen number h at).told Unrecovered (ap (λ (s : Share). s.told) same ∙ told) in
    let stands = failure_known (λ entry. own entry ≡ true → Contains (mine p) entry) p.seen number h (own_stand own p.seen) at ended.1 in
    subst (λ n. Contains (mine p) (entry_of n (PageFailed number))) owned (stands (eq-eqb h.owner p.number owned))

told_so : (p : HubView) (number : ℕ) (share : Share) → share_at (held p.seen) number ≡ Some share → share.owner ≡ p.number
    → share.told ≡ Some Unrecovered → Contains (mine p) (entry_of p.number (PageFailed number))
told_so p number share there owner told = told_by p number share (slice_get (held p.seen) number) refl there owner told

pub failing_law_holds : FailingLaw
failing_law_holds = record {
  told = told_so;
  unpaged = λ p number share there owner none told.
      All-contains (λ (entry : Entry). entry.event ≢ PageFailed number) (mine p) (entry_of p.number (PageFailed number)) none (told_so p number share there owner told) refl;
}
