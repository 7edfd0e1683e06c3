-- Entries of others leave the holds of a range of numbers as their owners have them.
use Rattle.std.proofs.Common.{◌≡◌, ℕ, zero, suc, ◌+◌, ◌==◌, Bool, true, false, cond, not, List, [], ◌∷◌, ◌++◌, map, fold, refl, sym, ap, ◌∙◌, arith}
use Rattle.std.specs.List.{All}
use Rattle.std.proofs.lemmas.List.Sums.{fold-append}
use Rattle.std.proofs.lemmas.List.Elements.{All-head, All-tail, All-weaker}
use Rattle.std.proofs.lemmas.Bool.Decides.{nat_tests}
use Rattle.gp_plain.specs.declared.item.Item.{Item}
use Rattle.gp_plain.specs.declared.event.Entry.{Entry}
use Rattle.gp_plain.specs.declared.event.Event.{Event}
use Rattle.gp_plain.specs.declared.event.Event.TheVariants.{Attach, Publish, Take, Page, PageFailed, Push, Join, Leave, Detach}
use Rattle.gp_plain.specs.Follow.{last_items, is_repeat}
use Rattle.gp_plain.specs.Holds.{Held, push, join, leave, begun, taken_from, paged_from, failed, changed_by, let_go}
use Rattle.gp_plain.specs.History.{Past, page_of, has_place, changed, served_by, with_item, with_hold, after_event, after, nothing, past_of}
use Rattle.gp_plain.specs.Others.{Share, share_of}
use Rattle.gp_turn.specs.declared.range.Range.{Range}
use Rattle.gp_turn.specs.Passes.{is_in, times_in}
use Rattle.gp_turn.proofs.Ranges.{once, times-cons}
use Rattle.gp_workers.specs.Reports.{owned, owned_from}

same_by : (a b : ℕ) → (a == b) ≡ true → a ≡ b
same_by a b e = grind (arith, nat_tests, e)

not_by : (n : ℕ) (r : Range) (b : Bool) → is_in n r ≡ b → times_in n (r ∷ []) ≡ 0 → is_in n r ≡ false
not_by n r true e none = absurd (let one : once n r ≡ 1 = ap (λ (b : Bool). cond b 1 0) e in omega (arith, times-cons n r []))
not_by n r false e none = e

pub not_in : (n : ℕ) (r : Range) → times_in n (r ∷ []) ≡ 0 → is_in n r ≡ false
not_in n r none = not_by n r (is_in n r) refl none

abbrev owned_if : Range → ℕ → Held → List (ℕ × Share) → List (ℕ × Share)
owned_if r k h rest = cond (is_in h.owner r) ((k, share_of h) ∷ rest) rest

served_owned : (r : Range) (k : ℕ) (item : Item) (before later : List Item) (hs : List Held) → owned_from r k (map (served_by item before later) hs) ≡ owned_from r k hs
served_owned r k item before later [] = refl
served_owned r k item before later (h ∷ hs) = ap (owned_if r k h) (served_owned r (k + 1) item before later hs)

pushed_owned : (r : Range) (k : ℕ) (hs : List Held) (h : Held) → is_in h.owner r ≡ false → owned_from r k (hs ++ h ∷ []) ≡ owned_from r k hs
pushed_owned r k [] h e = ap (λ (b : Bool). cond b ((k, share_of h) ∷ []) []) e
pushed_owned r k (x ∷ xs) h e = ap (owned_if r k x) (pushed_owned r (k + 1) xs h e)

changed_one : (r : Range) (k : ℕ) (f : Held → Held) (h : Held) (rest : List (ℕ × Share)) (kept own : Bool) → (own ≡ true → is_in h.owner r ≡ false) → (f h).owner ≡ h.owner
    → owned_if r k (cond kept (cond own (f h) h) h) rest ≡ owned_if r k h rest
changed_one r k f h rest true true other same =
    let out : is_in h.owner r ≡ false = other refl in
    let gone : is_in (f h).owner r ≡ false = ap (λ (n : ℕ). is_in n r) same ∙ out in
    ap (λ (b : Bool). cond b ((k, share_of (f h)) ∷ rest) rest) gone ∙ sym (ap (λ (b : Bool). cond b ((k, share_of h) ∷ rest) rest) out)
changed_one r k f h rest true false other same = refl
changed_one r k f h rest false own other same = refl

changed_owned : (r : Range) (who k m : ℕ) (f : Held → Held) (hs : List Held) → is_in who r ≡ false → ((h : Held) → (f h).owner ≡ h.owner) → owned_from r k (changed who m f hs) ≡ owned_from r k hs
changed_owned r who k m f [] out same = refl
changed_owned r who k zero f (h ∷ hs) out same =
    changed_one r k f h (owned_from r (k + 1) hs) (not h.released) (h.owner == who) (λ own. ap (λ (n : ℕ). is_in n r) (same_by h.owner who own) ∙ out) (same h)
changed_owned r who k (suc m) f (h ∷ hs) out same = ap (owned_if r k h) (changed_owned r who (k + 1) m f hs out same)

attached_owned : (r : Range) (past : Past) (h : Held) (place : Bool) → is_in h.owner r ≡ false → owned_from r 0 (cond place (with_hold past h) past).holds ≡ owned_from r 0 past.holds
attached_owned r past h true e = pushed_owned r 0 past.holds h e
attached_owned r past h false e = refl

published_owned : (r : Range) (past : Past) (item : Item) (repeat : Bool) → owned_from r 0 (cond repeat past (with_item past item)).holds ≡ owned_from r 0 past.holds
published_owned r past item true = refl
published_owned r past item false = served_owned r 0 item (last_items past.published) (last_items (past.published ++ item ∷ [])) past.holds

one_owned : (r : Range) (who : ℕ) (past : Past) (event : Event) → is_in who r ≡ false → owned_from r 0 (after_event past who event).holds ≡ owned_from r 0 past.holds
one_owned r who past (Attach spec) out = attached_owned r past (begun who spec (last_items past.published)) (has_place past.holds) out
one_owned r who past (Publish item) out = published_owned r past item (is_repeat (last_items past.published) item)
one_owned r who past (Take hold now) out = changed_owned r who 0 hold (taken_from now) past.holds out (λ h. refl)
one_owned r who past (Detach hold) out = changed_owned r who 0 hold let_go past.holds out (λ h. refl)
one_owned r who past (Page hold from to bytes then) out = changed_owned r who 0 hold (paged_from (last_items past.published) (page_of from to bytes then)) past.holds out (λ h. refl)
one_owned r who past (PageFailed hold) out = changed_owned r who 0 hold failed past.holds out (λ h. refl)
one_owned r who past (Push hold message) out = changed_owned r who 0 hold (changed_by (push message)) past.holds out (λ h. refl)
one_owned r who past (Join hold channel) out = changed_owned r who 0 hold (changed_by (join channel)) past.holds out (λ h. refl)
one_owned r who past (Leave hold channel) out = changed_owned r who 0 hold (changed_by (leave channel)) past.holds out (λ h. refl)

abbrev IsOut : Range → Entry → Type 0
IsOut r entry = is_in entry.who r ≡ false

all_owned : (r : Range) (others : List Entry) (past : Past) → All (IsOut r) others → owned_from r 0 (fold after past others).holds ≡ owned_from r 0 past.holds
all_owned r [] past all = refl
all_owned r (e ∷ es) past all = all_owned r es (after past e) (All-tail (IsOut r) e es all) ∙ one_owned r e.who past e.event (All-head (IsOut r) e es all)

pub owned_later : (r : Range) (seen more : List Entry) → All (λ (e : Entry). times_in e.who (r ∷ []) ≡ 0) more → owned r (seen ++ more) ≡ owned r seen
owned_later r seen more others =
    ap (λ (past : Past). owned_from r 0 past.holds) (fold-append after nothing seen more)
    ∙ all_owned r more (past_of seen) (All-weaker (λ (e : Entry). times_in e.who (r ∷ []) ≡ 0) (IsOut r) (λ e none. not_in e.who r none) more others)
