-- Entries of others leave whether a hold has asked.
use Rattle.std.proofs.Common.{◌≡◌, ◌≢◌, ℕ, zero, suc, ◌==◌, Bool, true, false, cond, not, List, [], ◌∷◌, ◌++◌, map, fold, refl, sym, ap, ◌∙◌, subst, slice_get, Option, Some, None, option_map}
use Rattle.std.specs.List.{All}
use Rattle.std.proofs.lemmas.List.Sums.{fold-append}
use Rattle.std.proofs.lemmas.List.Elements.{All-head, All-tail}
use Rattle.gp_plain.specs.declared.item.Item.{Item}
use Rattle.gp_plain.specs.declared.event.Entry.{Entry}
use Rattle.gp_plain.specs.declared.event.Event.{Event}
use Rattle.gp_plain.specs.declared.event.Event.TheVariants.{Attach, Publish, Take, Page, PageFailed, Push, Join, Leave, Detach}
use Rattle.gp_plain.specs.Follow.{last_items, is_repeat}
use Rattle.gp_plain.specs.Holds.{Held, begun, taken_from, paged_from, failed, let_go, push, join, leave, changed_by}
use Rattle.gp_plain.specs.History.{Past, page_of, has_place, changed, served_by, with_item, with_hold, after_event, after, nothing, past_of, held}
use Rattle.gp_plain.specs.Others.{Share, share_of, IsOfAnother}
use Rattle.gp_plain.proofs.OthersLaw.{differs}
use Rattle.gp_asking.proofs.Asked.{served_leaves}

pub no_some : {A : Type 0} {x : A} → None ≡ Some x → ⊥
no_some e = cc

pub same_some : {A : Type 0} {x y : A} → Some x ≡ Some y → x ≡ y
same_some e = cc

-- what others leave of a hold: its share, and whether it has asked
abbrev pub Mark : Type 0
Mark = Share × Bool

abbrev pub mark_of : Held → Mark
mark_of h = (share_of h, h.state.asked)

-- that of the hold of a number, where there is one
abbrev pub mark_at : List Held → ℕ → Option Mark
mark_at holds number = option_map mark_of (slice_get holds number)

-- an item leaves that of each hold
served_marks : (item : Item) (before later : List Item) (holds : List Held) (n : ℕ) → mark_at (map (served_by item before later) holds) n ≡ mark_at holds n
served_marks item before later [] n = refl
served_marks item before later (h ∷ holds) zero = ap (λ b. let m : Mark = (share_of h, b) in Some m) (served_leaves item before later h.state)
served_marks item before later (h ∷ holds) (suc n) = served_marks item before later holds n

-- so does its publication, also where it is a repeat
published_marks : (past : Past) (item : Item) (repeat : Bool) (n : ℕ) → mark_at (cond repeat past (with_item past item)).holds n ≡ mark_at past.holds n
published_marks past item true n = refl
published_marks past item false n = served_marks item (last_items past.published) (last_items (past.published ++ item ∷ [])) past.holds n

-- one more hold leaves those that were there
pushed_mark : (holds : List Held) (k : Held) (n : ℕ) (m : Mark) → mark_at holds n ≡ Some m → mark_at (holds ++ k ∷ []) n ≡ Some m
pushed_mark [] k n m at = absurd (no_some at)
pushed_mark (h ∷ holds) k zero m at = at
pushed_mark (h ∷ holds) k (suc n) m at = pushed_mark holds k n m at

-- so does an Attach, whether there is a place or not
attached_mark : (past : Past) (k : Held) (place : Bool) (n : ℕ) (m : Mark) → mark_at past.holds n ≡ Some m → mark_at (cond place (with_hold past k) past).holds n ≡ Some m
attached_mark past k true n m at = pushed_mark past.holds k n m at
attached_mark past k false n m at = at

-- a hold isn't changed for another than its owner
unchanged : (f : Held → Held) (h : Held) (kept own : Bool) → own ≡ false → cond kept (cond own (f h) h) h ≡ h
unchanged f h true true e = absurd cc
unchanged f h true false e = refl
unchanged f h false own e = refl

-- nor is any hold that isn't the one changed
changed_mark : (who number : ℕ) (f : Held → Held) (holds : List Held) (n : ℕ) (m : Mark) → who ≢ m.0.owner → mark_at holds n ≡ Some m → mark_at (changed who number f holds) n ≡ Some m
changed_mark who number f [] n m ne at = absurd (no_some at)
changed_mark who zero f (h ∷ holds) zero m ne at =
    let owner : h.owner ≡ m.0.owner = ap (λ (x : Mark). x.0.owner) (same_some at) in
    ap (λ (x : Held). Some (mark_of x)) (unchanged f h (not h.released) (h.owner == who) (differs h.owner who (λ e. ne (sym e ∙ owner)))) ∙ at
changed_mark who zero f (h ∷ holds) (suc n) m ne at = at
changed_mark who (suc number) f (h ∷ holds) zero m ne at = at
changed_mark who (suc number) f (h ∷ holds) (suc n) m ne at = changed_mark who number f holds n m ne at

-- one entry of another
one_leaves : (past : Past) (who : ℕ) (event : Event) (n : ℕ) (m : Mark) → who ≢ m.0.owner → mark_at past.holds n ≡ Some m → mark_at (after_event past who event).holds n ≡ Some m
one_leaves past who (Attach spec) n m ne at = attached_mark past (begun who spec (last_items past.published)) (has_place past.holds) n m at
one_leaves past who (Publish item) n m ne at = published_marks past item (is_repeat (last_items past.published) item) n ∙ at
one_leaves past who (Take hold now) n m ne at = changed_mark who hold (taken_from now) past.holds n m ne at
one_leaves past who (Detach hold) n m ne at = changed_mark who hold let_go past.holds n m ne at
one_leaves past who (Page hold from to bytes then) n m ne at = changed_mark who hold (paged_from (last_items past.published) (page_of from to bytes then)) past.holds n m ne at
one_leaves past who (PageFailed hold) n m ne at = changed_mark who hold failed past.holds n m ne at
one_leaves past who (Push hold message) n m ne at = changed_mark who hold (changed_by (push message)) past.holds n m ne at
one_leaves past who (Join hold channel) n m ne at = changed_mark who hold (changed_by (join channel)) past.holds n m ne at
one_leaves past who (Leave hold channel) n m ne at = changed_mark who hold (changed_by (leave channel)) past.holds n m ne at

-- all of them
all_leave : (others : List Entry) (past : Past) (n : ℕ) (m : Mark) → All (IsOfAnother m.0.owner) others → mark_at past.holds n ≡ Some m → mark_at (fold after past others).holds n ≡ Some m
all_leave [] past n m all at = at
all_leave (e ∷ es) past n m all at =
    all_leave es (after past e) n m (All-tail (IsOfAnother m.0.owner) e es all) (one_leaves past e.who e.event n m (All-head (IsOfAnother m.0.owner) e es all) at)

-- behind a history
pub others_leave : (seen others : List Entry) (n : ℕ) (m : Mark) → mark_at (held seen) n ≡ Some m → All (IsOfAnother m.0.owner) others → mark_at (held (seen ++ others)) n ≡ Some m
others_leave seen others n m at all =
    subst (λ (past : Past). mark_at past.holds n ≡ Some m) (sym (fold-append after nothing seen others)) (all_leave others (past_of seen) n m all at)
