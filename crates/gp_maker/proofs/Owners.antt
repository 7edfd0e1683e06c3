-- Of a session's numbers only that of its pass makes entries: its holds, and its publications, are those of that number.
use Rattle.std.proofs.Common.{◌≡◌, ℕ, zero, suc, ◌+◌, ◌==◌, ◌&&◌, inl, inr, Bool, true, false, cond, not, List, [], ◌∷◌, ◌++◌, map, fold, filter, length, refl, sym, ap, ◌∙◌, arith, subst}
use Rattle.std.specs.List.{All, count_by}
use Rattle.std.proofs.lemmas.List.Sums.{sum_by-cons}
use Rattle.std.proofs.lemmas.List.Elements.{All-head, All-tail, All-append, All-weaker}
use Rattle.std.proofs.lemmas.Bool.Decides.{nat_tests}
use Rattle.gp_plain.specs.declared.item.Item.{Item}
use Rattle.gp_plain.specs.declared.event.Entry.{Entry}
use Rattle.gp_plain.specs.declared.event.Event.{Event}
use Rattle.gp_plain.specs.declared.event.Event.TheVariants.{Attach, Publish, Take, Page, PageFailed, Push, Join, Leave, Detach}
use Rattle.gp_plain.specs.Follow.{last_items, is_repeat}
use Rattle.gp_plain.specs.Holds.{Held, push, join, leave, begun, taken_from, paged_from, failed, changed_by, let_go}
use Rattle.gp_plain.specs.History.{Past, page_of, has_place, changed, served_by, with_item, with_hold, after_event, after, nothing, held}
use Rattle.gp_plain.specs.Others.{Share, share_of, shares, shares_from}
use Rattle.gp_turn.specs.declared.range.Range.{Range}
use Rattle.gp_turn.specs.Passes.{is_in, times_in, range}
use Rattle.gp_turn.proofs.Ranges.{once, times-cons}
use Rattle.gp_hub.specs.Passes.{HubView}
use Rattle.gp_session.specs.Seats.{IsApart, IsFresh, SeatRow, SeatView, publish_of}
use Rattle.gp_workers.specs.Reports.{owned, owned_from, is_publish, published_by}
use Rattle.gp_workers.specs.Makers.{numbers}
use Rattle.gp_maker.specs.Owners.{IsOne}

abbrev OneBy : Range → ℕ → ℕ → Type 0
OneBy r n who = is_in who r ≡ (who == n)

-- of each hold the owner is the number, or out of the range
abbrev OneOwners : Range → ℕ → List Held → Type 0
OneOwners r n [] = Unit {0}
OneOwners r n (h ∷ hs) = OneBy r n h.owner × OneOwners r n hs

same_from : (r : Range) (n k : ℕ) (hs : List Held) → OneOwners r n hs → owned_from r k hs ≡ shares_from n k hs
same_from r n k [] one = refl
same_from r n k (h ∷ hs) (one, rest) =
    ap (λ (b : Bool). cond b ((k, share_of h) ∷ owned_from r (k + 1) hs) (owned_from r (k + 1) hs)) one
    ∙ ap (λ (xs : List (ℕ × Share)). cond (h.owner == n) ((k, share_of h) ∷ xs) xs) (same_from r n (k + 1) hs rest)

pushed_one : (r : Range) (n : ℕ) (hs : List Held) (h : Held) → OneOwners r n hs → OneBy r n h.owner → OneOwners r n (hs ++ h ∷ [])
pushed_one r n [] h all one = (one, tt)
pushed_one r n (x ∷ hs) h (first, rest) one = (first, pushed_one r n hs h rest one)

served_one : (r : Range) (n : ℕ) (item : Item) (before later : List Item) (hs : List Held) → OneOwners r n hs → OneOwners r n (map (served_by item before later) hs)
served_one r n item before later [] all = tt
served_one r n item before later (h ∷ hs) (first, rest) = (first, served_one r n item before later hs rest)

owner_by : (f : Held → Held) (h : Held) (kept own : Bool) → (f h).owner ≡ h.owner → h.owner ≡ (cond kept (cond own (f h) h) h).owner
owner_by f h true true same = sym same
owner_by f h true false same = refl
owner_by f h false own same = refl

changed_one : (r : Range) (n who m : ℕ) (f : Held → Held) (hs : List Held) → ((h : Held) → (f h).owner ≡ h.owner) → OneOwners r n hs → OneOwners r n (changed who m f hs)
changed_one r n who m f [] same all = tt
changed_one r n who zero f (h ∷ hs) same (first, rest) = (subst (OneBy r n) (owner_by f h (not h.released) (h.owner == who) (same h)) first, rest)
changed_one r n who (suc m) f (h ∷ hs) same (first, rest) = (first, changed_one r n who m f hs same rest)

attached_one : (r : Range) (n : ℕ) (past : Past) (h : Held) (place : Bool) → OneBy r n h.owner → OneOwners r n past.holds → OneOwners r n (cond place (with_hold past h) past).holds
attached_one r n past h true one all = pushed_one r n past.holds h all one
attached_one r n past h false one all = all

published_one : (r : Range) (n : ℕ) (past : Past) (item : Item) (repeat : Bool) → OneOwners r n past.holds → OneOwners r n (cond repeat past (with_item past item)).holds
published_one r n past item true all = all
published_one r n past item false all = served_one r n item (last_items past.published) (last_items (past.published ++ item ∷ [])) past.holds all

one_more : (r : Range) (n who : ℕ) (past : Past) (event : Event) → OneBy r n who → OneOwners r n past.holds → OneOwners r n (after_event past who event).holds
one_more r n who past (Attach spec) one all = attached_one r n past (begun who spec (last_items past.published)) (has_place past.holds) one all
one_more r n who past (Publish item) one all = published_one r n past item (is_repeat (last_items past.published) item) all
one_more r n who past (Take hold now) one all = changed_one r n who hold (taken_from now) past.holds (λ h. refl) all
one_more r n who past (Detach hold) one all = changed_one r n who hold let_go past.holds (λ h. refl) all
one_more r n who past (Page hold from to bytes then) one all = changed_one r n who hold (paged_from (last_items past.published) (page_of from to bytes then)) past.holds (λ h. refl) all
one_more r n who past (PageFailed hold) one all = changed_one r n who hold failed past.holds (λ h. refl) all
one_more r n who past (Push hold message) one all = changed_one r n who hold (changed_by (push message)) past.holds (λ h. refl) all
one_more r n who past (Join hold channel) one all = changed_one r n who hold (changed_by (join channel)) past.holds (λ h. refl) all
one_more r n who past (Leave hold channel) one all = changed_one r n who hold (changed_by (leave channel)) past.holds (λ h. refl) all

all_one : (r : Range) (n : ℕ) (entries : List Entry) (past : Past) → All (IsOne r n) entries → OneOwners r n past.holds → OneOwners r n (fold after past entries).holds
all_one r n [] past one all = all
all_one r n (e ∷ es) past one all = all_one r n es (after past e) (All-tail (IsOne r n) e es one) (one_more r n e.who past e.event (All-head (IsOne r n) e es one) all)

-- the holds of the range are those of the number
pub owned_shares : (r : Range) (n : ℕ) (entries : List Entry) → All (IsOne r n) entries → owned r entries ≡ shares n entries
owned_shares r n entries one = same_from r n 0 (held entries) (all_one r n entries nothing one tt)

abbrev pub publishes : Entry → Bool
publishes e = is_publish e.event

counted_if : (b is : Bool) (e : Entry) (es : List Entry) → is ≡ b → cond (is && publishes e) 1 0 + count_by publishes es ≡ count_by publishes (cond b (e ∷ es) es)
counted_if true is e es same = ap (λ (c : Bool). cond (c && publishes e) 1 0 + count_by publishes es) same ∙ sym (sum_by-cons (λ (x : Entry). cond (publishes x) 1 0) e es)
counted_if false is e es same = let none : cond {A = ℕ} (is && publishes e) 1 0 ≡ 0 = ap (λ (c : Bool). cond (c && publishes e) 1 0) same in omega (arith, none)

-- the publications of the range are those of the number
pub published_mine : (r : Range) (n : ℕ) (entries : List Entry) → All (IsOne r n) entries → published_by r entries ≡ count_by publishes (filter (λ (e : Entry). e.who == n) entries)
published_mine r n [] one = refl
published_mine r n (e ∷ es) one =
    let mine = filter (λ (e : Entry). e.who == n) es in
    sum_by-cons (λ (x : Entry). cond (is_in x.who r && is_publish x.event) 1 0) e es
    ∙ ap (λ (k : ℕ). cond (is_in e.who r && is_publish e.event) 1 0 + k) (published_mine r n es (All-tail (IsOne r n) e es one))
    ∙ counted_if (e.who == n) (is_in e.who r) e mine (All-head (IsOne r n) e es one)

-- each publication counts
pub count_published : (n : ℕ) (items : List Item) → count_by publishes (map (publish_of n) items) ≡ length (map (publish_of n) items)
count_published n [] = refl
count_published n (item ∷ items) =
    let one : count_by publishes (publish_of n item ∷ map (publish_of n) items) ≡ 1 + count_by publishes (map (publish_of n) items) = sum_by-cons (λ (x : Entry). cond (publishes x) 1 0) (publish_of n item) (map (publish_of n) items) in
    omega (arith, one, count_published n items)

own_in : (n : ℕ) → is_in n (range n numbers) ≡ true
own_in n = grind (arith, nat_tests)

own_eq : (n : ℕ) → (n == n) ≡ true
own_eq n = grind (arith, nat_tests)

true_false : true ≡ false → ⊥
true_false e = cc

same_by : (a b : ℕ) → (a == b) ≡ true → a ≡ b
same_by a b e = grind (arith, nat_tests, e)

another_by : (n who : ℕ) (same : Bool) → is_in who (range n numbers) ≡ false → (who == n) ≡ same → same ≡ false
another_by n who false out eq = refl
another_by n who true out eq =
    let bad : true ≡ false = sym (own_in n) ∙ ap (λ (m : ℕ). is_in m (range n numbers)) (sym (same_by who n eq)) ∙ out in
    bad

not_by : (who : ℕ) (r : Range) (rs : List Range) (b : Bool) → is_in who r ≡ b → times_in who (r ∷ rs) ≡ 0 → is_in who r ≡ false
not_by who r rs true e none = absurd (let one : once who r ≡ 1 = ap (λ (b : Bool). cond b 1 0) e in omega (arith, times-cons who r rs))
not_by who r rs false e none = e

-- an entry of the number, or of none of the range
one_apart : (p : HubView) (e : Entry) → p.spare ≡ numbers → IsApart p e → IsOne (range p.number numbers) p.number e
one_apart p e spare (inl own) =
    ap (λ (n : ℕ). is_in n (range p.number numbers)) own ∙ own_in p.number ∙ sym (own_eq p.number) ∙ ap (λ (n : ℕ). n == p.number) (sym own)
one_apart p e spare (inr none) =
    let r = range p.number p.spare in
    let out : is_in e.who (range p.number numbers) ≡ false = ap (λ (k : ℕ). is_in e.who (range p.number k)) (sym spare) ∙ not_by e.who r p.past (is_in e.who r) refl none in
    out ∙ sym (another_by p.number e.who (e.who == p.number) out refl)

one_before : (p : HubView) (e : Entry) → p.spare ≡ numbers → times_in e.who (range p.number p.spare ∷ []) ≡ 0 → IsOne (range p.number numbers) p.number e
one_before p e spare none =
    let r = range p.number p.spare in
    let out : is_in e.who (range p.number numbers) ≡ false = ap (λ (k : ℕ). is_in e.who (range p.number k)) (sym spare) ∙ not_by e.who r [] (is_in e.who r) refl none in
    out ∙ sym (another_by p.number e.who (e.who == p.number) out refl)

-- of the numbers of a session's range all that was seen has none but that of its pass
pub all_apart : (s : SeatView) → s.start.spare ≡ numbers → IsFresh s.start → SeatRow s → All (IsOne (range s.start.number numbers) s.start.number) s.pass.seen
all_apart s spare fresh row =
    let one = IsOne (range s.start.number numbers) s.start.number in
    let before = All-weaker (λ (e : Entry). times_in e.who (range s.start.number s.start.spare ∷ []) ≡ 0) one (λ e none. one_before s.start e spare none) s.start.seen fresh in
    let more = All-weaker (IsApart s.start) one (λ e apart. one_apart s.start e spare apart) row.since.more row.since.apart in
    subst (All one) (sym row.since.is) (All-append one s.start.seen row.since.more before more)
