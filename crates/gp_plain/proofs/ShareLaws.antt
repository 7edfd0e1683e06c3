-- What later entries leave of the shares of holds.
use Rattle.std.proofs.Common.{◌≡◌, ℕ, zero, suc, ◌+◌, ◌==◌, Bool, true, false, cond, not, List, [], ◌∷◌, ◌++◌, fold, refl, sym, ap, ◌∙◌, subst, slice_get, Option, Some, None, option_map}
use Rattle.std.specs.List.{All, AllByRecursion}
use Rattle.std.proofs.lemmas.List.Sums.{fold-append}
use Rattle.std.proofs.lemmas.List.Elements.{All-head, All-tail, recursion_from_All}
use Rattle.gp_plain.specs.declared.event.Entry.{Entry}
use Rattle.gp_plain.specs.declared.event.Event.{Event}
use Rattle.gp_plain.specs.declared.event.Event.TheVariants.{Attach, Publish, Take, Page, PageFailed, Push, Join, Leave, Detach}
use Rattle.gp_plain.specs.Follow.{last_items, is_repeat}
use Rattle.gp_plain.specs.Holds.{Held, begun, taken_from, paged_from, failed, let_go, push, join, leave, changed_by}
use Rattle.gp_plain.specs.History.{Past, page_of, has_place, changed, with_hold, after_event, after, nothing, past_of, held}
use Rattle.gp_plain.specs.Order.{Attaches}
use Rattle.gp_plain.specs.Others.{Share, share_of, share_at, shares_from, IsNoAttachOf, MovesShares, ReleasedShareLaw, ReleasedSharesLaw, MovesLaw}
use Rattle.gp_plain.proofs.OthersLaw.{released_law_holds, share_if, attached_shares, published_shares, differs}

-- one hold that was let go

none_some : {A : Type 0} {x : A} → None ≡ Some x → ⊥
none_some e = cc

some_same : {A : Type 0} {x y : A} → Some x ≡ Some y → x ≡ y
some_same e = cc

share_later : (seen more : List Entry) (number : ℕ) (share : Share) (at : Option Held) → slice_get (held seen) number ≡ at → option_map share_of at ≡ Some share → share.released ≡ true
    → share_at (held (seen ++ more)) number ≡ Some share
share_later seen more number share None there is gone = absurd (none_some is)
share_later seen more number share (Some h) there is gone =
    let own : share_of h ≡ share = some_same is in
    ap (option_map share_of) (released_law_holds seen more number h there (ap (λ (s : Share). s.released) own ∙ gone)) ∙ ap Some own

pub released_share_law_holds : ReleasedShareLaw
released_share_law_holds = λ seen more number share is gone. share_later seen more number share (slice_get (held seen) number) refl is gone

-- all holds of an owner, once they were let go

abbrev AllGone : ℕ → ℕ → List Held → Type 0
AllGone owner k hs = AllByRecursion (λ (s : ℕ × Share). s.1.released ≡ true) (shares_from owner k hs)

gone_tail : (owner k : ℕ) (h : Held) (rest : List (ℕ × Share)) (own : Bool) → AllByRecursion (λ (s : ℕ × Share). s.1.released ≡ true) (cond own ((k, share_of h) ∷ rest) rest)
    → AllByRecursion (λ (s : ℕ × Share). s.1.released ≡ true) rest
gone_tail owner k h rest true all = all.1
gone_tail owner k h rest false all = all

gone_head : (owner k : ℕ) (h : Held) (rest : List (ℕ × Share)) (own : Bool) → own ≡ true → AllByRecursion (λ (s : ℕ × Share). s.1.released ≡ true) (cond own ((k, share_of h) ∷ rest) rest) → h.released ≡ true
gone_head owner k h rest true e all = all.0
gone_head owner k h rest false e all = absurd cc

stays_by : (owner k : ℕ) (f : Held → Held) (h : Held) (rest : List (ℕ × Share)) (who : ℕ) (own asked : Bool) → (h.owner == owner) ≡ own → (h.owner == who) ≡ asked → (own ≡ true → h.released ≡ true) → (f h).owner ≡ h.owner
    → share_if owner k (cond (not h.released) (cond asked (f h) h) h) rest ≡ share_if owner k h rest
stays_by owner k f h rest who true asked e a gone same = ap (λ b. share_if owner k (cond (not b) (cond asked (f h) h) h) rest) (gone refl)
stays_by owner k f h rest who false asked e a gone same = stays_other owner k f h rest (not h.released) asked e same
  where
    stays_other : (owner k : ℕ) (f : Held → Held) (h : Held) (rest : List (ℕ × Share)) (kept asked : Bool) → (h.owner == owner) ≡ false → (f h).owner ≡ h.owner
        → share_if owner k (cond kept (cond asked (f h) h) h) rest ≡ share_if owner k h rest
    stays_other owner k f h rest true true e same =
        ap (λ b. cond b ((k, share_of (f h)) ∷ rest) rest) (ap (λ n. n == owner) same ∙ e) ∙ sym (ap (λ b. cond b ((k, share_of h) ∷ rest) rest) e)
    stays_other owner k f h rest true false e same = refl
    stays_other owner k f h rest false asked e same = refl

changed_gone : (owner who k m : ℕ) (f : Held → Held) (hs : List Held) → ((h : Held) → (f h).owner ≡ h.owner) → AllGone owner k hs → shares_from owner k (changed who m f hs) ≡ shares_from owner k hs
changed_gone owner who k m f [] same all = refl
changed_gone owner who k zero f (h ∷ hs) same all =
    stays_by owner k f h (shares_from owner (k + 1) hs) who (h.owner == owner) (h.owner == who) refl refl (λ e. gone_head owner k h (shares_from owner (k + 1) hs) (h.owner == owner) e all) (same h)
changed_gone owner who k (suc m) f (h ∷ hs) same all =
    ap (share_if owner k h) (changed_gone owner who (k + 1) m f hs same (gone_tail owner k h (shares_from owner (k + 1) hs) (h.owner == owner) all))

attach_gone : (owner who : ℕ) (past : Past) (h : Held) (own : Bool) → (who == owner) ≡ own → h.owner ≡ who → (who ≡ owner → ⊥) → shares_from owner 0 (cond (has_place past.holds) (with_hold past h) past).holds ≡ shares_from owner 0 past.holds
attach_gone owner who past h own e is not = attached_shares owner past h (has_place past.holds) (ap (λ n. n == owner) is ∙ differs who owner not)

one_gone : (owner who : ℕ) (past : Past) (event : Event) → (who ≡ owner → Attaches event → ⊥) → AllGone owner 0 past.holds → shares_from owner 0 (after_event past who event).holds ≡ shares_from owner 0 past.holds
one_gone owner who past (Attach spec) not all = attach_gone owner who past (begun who spec (last_items past.published)) (who == owner) refl refl (λ e. not e tt)
one_gone owner who past (Publish item) not all = published_shares owner past item (is_repeat (last_items past.published) item)
one_gone owner who past (Take hold now) not all = changed_gone owner who 0 hold (taken_from now) past.holds (λ h. refl) all
one_gone owner who past (Detach hold) not all = changed_gone owner who 0 hold let_go past.holds (λ h. refl) all
one_gone owner who past (Page hold from to bytes then) not all = changed_gone owner who 0 hold (paged_from (last_items past.published) (page_of from to bytes then)) past.holds (λ h. refl) all
one_gone owner who past (PageFailed hold) not all = changed_gone owner who 0 hold failed past.holds (λ h. refl) all
one_gone owner who past (Push hold message) not all = changed_gone owner who 0 hold (changed_by (push message)) past.holds (λ h. refl) all
one_gone owner who past (Join hold channel) not all = changed_gone owner who 0 hold (changed_by (join channel)) past.holds (λ h. refl) all
one_gone owner who past (Leave hold channel) not all = changed_gone owner who 0 hold (changed_by (leave channel)) past.holds (λ h. refl) all

all_gone : (owner : ℕ) (more : List Entry) (past : Past) → All (IsNoAttachOf owner) more → AllGone owner 0 past.holds → shares_from owner 0 (fold after past more).holds ≡ shares_from owner 0 past.holds
all_gone owner [] past none all = refl
all_gone owner (e ∷ es) past none all =
    let one = one_gone owner e.who past e.event (All-head (IsNoAttachOf owner) e es none) all in
    all_gone owner es (after past e) (All-tail (IsNoAttachOf owner) e es none) (subst (AllByRecursion (λ (s : ℕ × Share). s.1.released ≡ true)) (sym one) all) ∙ one

pub released_shares_law_holds : ReleasedSharesLaw
released_shares_law_holds = λ seen more owner gone none.
    ap (λ (past : Past). shares_from owner 0 past.holds) (fold-append after nothing seen more)
    ∙ all_gone owner more (past_of seen) none (recursion_from_All (λ (s : ℕ × Share). s.1.released ≡ true) (shares_from owner 0 (held seen)) gone)

-- events that move no share

same_by : (owner k : ℕ) (f : Held → Held) (h : Held) (rest : List (ℕ × Share)) (kept asked : Bool) → (f h).owner ≡ h.owner → share_of (f h) ≡ share_of h
    → share_if owner k (cond kept (cond asked (f h) h) h) rest ≡ share_if owner k h rest
same_by owner k f h rest true true own same = ap (λ n. cond (n == owner) ((k, share_of (f h)) ∷ rest) rest) own ∙ ap (λ s. cond (h.owner == owner) ((k, s) ∷ rest) rest) same
same_by owner k f h rest true false own same = refl
same_by owner k f h rest false asked own same = refl

changed_same : (owner who k m : ℕ) (f : Held → Held) (hs : List Held) → ((h : Held) → (f h).owner ≡ h.owner) → ((h : Held) → share_of (f h) ≡ share_of h) → shares_from owner k (changed who m f hs) ≡ shares_from owner k hs
changed_same owner who k m f [] own same = refl
changed_same owner who k zero f (h ∷ hs) own same = same_by owner k f h (shares_from owner (k + 1) hs) (not h.released) (h.owner == who) (own h) (same h)
changed_same owner who k (suc m) f (h ∷ hs) own same = ap (share_if owner k h) (changed_same owner who (k + 1) m f hs own same)

one_moves : (owner who : ℕ) (past : Past) (event : Event) → (MovesShares event → ⊥) → shares_from owner 0 (after_event past who event).holds ≡ shares_from owner 0 past.holds
one_moves owner who past (Attach spec) not = absurd (not tt)
one_moves owner who past (Publish item) not = published_shares owner past item (is_repeat (last_items past.published) item)
one_moves owner who past (Take hold now) not = absurd (not tt)
one_moves owner who past (Detach hold) not = absurd (not tt)
one_moves owner who past (Page hold from to bytes then) not = changed_same owner who 0 hold (paged_from (last_items past.published) (page_of from to bytes then)) past.holds (λ h. refl) (λ h. refl)
one_moves owner who past (PageFailed hold) not = changed_same owner who 0 hold failed past.holds (λ h. refl) (λ h. refl)
one_moves owner who past (Push hold message) not = changed_same owner who 0 hold (changed_by (push message)) past.holds (λ h. refl) (λ h. refl)
one_moves owner who past (Join hold channel) not = changed_same owner who 0 hold (changed_by (join channel)) past.holds (λ h. refl) (λ h. refl)
one_moves owner who past (Leave hold channel) not = changed_same owner who 0 hold (changed_by (leave channel)) past.holds (λ h. refl) (λ h. refl)

all_move : (owner : ℕ) (more : List Entry) (past : Past) → All (λ (e : Entry). MovesShares e.event → ⊥) more → shares_from owner 0 (fold after past more).holds ≡ shares_from owner 0 past.holds
all_move owner [] past none = refl
all_move owner (e ∷ es) past none =
    all_move owner es (after past e) (All-tail (λ (x : Entry). MovesShares x.event → ⊥) e es none)
    ∙ one_moves owner e.who past e.event (All-head (λ (x : Entry). MovesShares x.event → ⊥) e es none)

pub moves_law_holds : MovesLaw
moves_law_holds = λ seen more owner none. ap (λ (past : Past). shares_from owner 0 past.holds) (fold-append after nothing seen more) ∙ all_move owner more (past_of seen) none
