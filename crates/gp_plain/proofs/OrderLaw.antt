-- The same items in another order leave a hold where it was.
use Rattle.std.proofs.Common.{◌≡◌, ℕ, zero, suc, ◌-◌, ◌<◌, ◌≤◌, Bool, true, false, cond, not, ◌&&◌, ◌||◌, ◌==◌, List, [], ◌∷◌, ◌++◌, length, map, fold, drop, slice_get, refl, sym, ap, ◌∙◌, subst, arith, append_assoc, Option, Some, None, IsPermutation}
use Rattle.std.specs.List.{AllByRecursion, list_any}
use Rattle.std.specs.Cmp.Lexicographic.{same_text}
use Rattle.std.proofs.lemmas.List.{append-nil, length-append}
use Rattle.std.proofs.lemmas.List.Elements.{recursion_from_All}
use Rattle.std.proofs.lemmas.List.Folds.{list_any-append}
use Rattle.std.proofs.lemmas.List.Sorted.{list_any-IsPermutation, IsPermutation-sym}
use Rattle.std.proofs.lemmas.List.Sums.{fold-append}
use Rattle.gp_plain.specs.declared.item.Item.{Item}
use Rattle.gp_plain.specs.declared.event.Entry.{Entry}
use Rattle.gp_plain.specs.declared.event.Event.{Event}
use Rattle.gp_plain.specs.declared.event.Event.TheVariants.{Attach, Publish, Take, Page, PageFailed, Push, Join, Leave, Detach}
use Rattle.gp_plain.specs.declared.event.HoldSpec.{HoldSpec}
use Rattle.gp_plain.specs.declared.event.HoldSpec.TheVariants.{Stream}
use Rattle.gp_plain.specs.declared.reply.Piece.{Piece}
use Rattle.gp_plain.specs.Names.{same_id}
use Rattle.gp_plain.specs.Items.{is_id, is_on, is_same}
use Rattle.gp_plain.specs.Follow.{last_items, is_repeat}
use Rattle.gp_plain.specs.Pieces.{text, NoPage}
use Rattle.gp_plain.specs.Holds.{State, Held, begun, taken_from, paged_from, failed, let_go, push, join, leave, changed_by}
use Rattle.gp_plain.specs.History.{Past, page_of, has_place, changed, served_by, with_item, with_hold, after_event, after, nothing, past_of, held, published}
use Rattle.gp_plain.specs.Chain.{Link, Chain, AreDistinct, bytes_of, last_id}
use Rattle.gp_plain.specs.Order.{sent_by, sent, are_apart, Attaches, AreFew, OrderLaw}
use Rattle.gp_plain.proofs.ChainLaw.{one_place, Came, Stands, covered_stands, nexts, none_any, and_left, and_right, same_ids, absurd_true}

-- the specifications of holds stay, and new ones come last

abbrev specs : List Held → List HoldSpec
specs hs = map (λ (h : Held). h.spec) hs

specs_append : (xs ys : List Held) → specs (xs ++ ys) ≡ specs xs ++ specs ys
specs_append [] ys = refl
specs_append (x ∷ xs) ys = ap (λ ss. x.spec ∷ ss) (specs_append xs ys)

pub record Longer (before after : List HoldSpec) : Type 0 where
  pub more : List HoldSpec
  pub is : after ≡ before ++ more

same_specs : (xs : List HoldSpec) (ys : List HoldSpec) → ys ≡ xs → Longer xs ys
same_specs xs ys e = record { more = []; is = e ∙ sym (append-nil xs) }

longer_still : (xs ys zs : List HoldSpec) → Longer xs ys → Longer ys zs → Longer xs zs
longer_still xs ys zs a b = record { more = a.more ++ b.more; is = b.is ∙ ap (λ ls. ls ++ b.more) a.is ∙ append_assoc xs a.more b.more }

changed_spec : (change : Held → Held) (h : Held) (kept own : Bool) → ((k : Held) → (change k).spec ≡ k.spec) → (cond kept (cond own (change h) h) h).spec ≡ h.spec
changed_spec change h true true keeps = keeps h
changed_spec change h true false keeps = refl
changed_spec change h false own keeps = refl

changed_specs : (who number : ℕ) (change : Held → Held) (hs : List Held) → ((k : Held) → (change k).spec ≡ k.spec) → specs (changed who number change hs) ≡ specs hs
changed_specs who number change [] keeps = refl
changed_specs who zero change (h ∷ hs) keeps = ap (λ (s : HoldSpec). s ∷ specs hs) (changed_spec change h (not h.released) (h.owner == who) keeps)
changed_specs who (suc number) change (h ∷ hs) keeps = ap (λ ss. h.spec ∷ ss) (changed_specs who number change hs keeps)

served_specs : (item : Item) (before now : List Item) (hs : List Held) → specs (map (served_by item before now) hs) ≡ specs hs
served_specs item before now [] = refl
served_specs item before now (h ∷ hs) = ap (λ ss. h.spec ∷ ss) (served_specs item before now hs)

attach_specs : (past : Past) (h : Held) (place : Bool) → Longer (specs past.holds) (specs (cond place (with_hold past h) past).holds)
attach_specs past h true = record { more = h.spec ∷ []; is = specs_append past.holds (h ∷ []) }
attach_specs past h false = same_specs (specs past.holds) (specs past.holds) refl

publish_specs : (past : Past) (item : Item) (repeat : Bool) → Longer (specs past.holds) (specs (cond repeat past (with_item past item)).holds)
publish_specs past item true = same_specs (specs past.holds) (specs past.holds) refl
publish_specs past item false = same_specs (specs past.holds) (specs (with_item past item).holds) (served_specs item (last_items past.published) (last_items (past.published ++ item ∷ [])) past.holds)

event_specs : (past : Past) (who : ℕ) (event : Event) → Longer (specs past.holds) (specs (after_event past who event).holds)
event_specs past who (Attach spec) = attach_specs past (begun who spec (last_items past.published)) (has_place past.holds)
event_specs past who (Publish item) = publish_specs past item (is_repeat (last_items past.published) item)
event_specs past who (Take hold now) = same_specs (specs past.holds) (specs (changed who hold (taken_from now) past.holds)) (changed_specs who hold (taken_from now) past.holds (λ k. refl))
event_specs past who (Detach hold) = same_specs (specs past.holds) (specs (changed who hold let_go past.holds)) (changed_specs who hold let_go past.holds (λ k. refl))
event_specs past who (Page hold from to bytes then) =
    let f = paged_from (last_items past.published) (page_of from to bytes then) in
    same_specs (specs past.holds) (specs (changed who hold f past.holds)) (changed_specs who hold f past.holds (λ k. refl))
event_specs past who (PageFailed hold) = same_specs (specs past.holds) (specs (changed who hold failed past.holds)) (changed_specs who hold failed past.holds (λ k. refl))
event_specs past who (Push hold message) = same_specs (specs past.holds) (specs (changed who hold (changed_by (push message)) past.holds)) (changed_specs who hold (changed_by (push message)) past.holds (λ k. refl))
event_specs past who (Join hold channel) = same_specs (specs past.holds) (specs (changed who hold (changed_by (join channel)) past.holds)) (changed_specs who hold (changed_by (join channel)) past.holds (λ k. refl))
event_specs past who (Leave hold channel) = same_specs (specs past.holds) (specs (changed who hold (changed_by (leave channel)) past.holds)) (changed_specs who hold (changed_by (leave channel)) past.holds (λ k. refl))

all_specs : (past : Past) (entries : List Entry) → Longer (specs past.holds) (specs (fold after past entries).holds)
all_specs past [] = same_specs (specs past.holds) (specs past.holds) refl
all_specs past (e ∷ es) = longer_still (specs past.holds) (specs (after past e).holds) (specs (fold after (after past e) es).holds) (event_specs past e.who e.event) (all_specs (after past e) es)

none_below : (n : ℕ) → n < 0 → ⊥
none_below n h = omega (arith, h)

get_front : (xs ys : List HoldSpec) (n : ℕ) → n < length xs → slice_get (xs ++ ys) n ≡ slice_get xs n
get_front [] ys n h = absurd (none_below n h)
get_front (x ∷ xs) ys zero h = refl
get_front (x ∷ xs) ys (suc n) h = get_front xs ys n (omega (arith, h))

absurd_none : {A : Type 0} {h : Held} → None ≡ Some h → A
absurd_none e = cc

get_specs : (hs : List Held) (n : ℕ) (h : Held) → slice_get hs n ≡ Some h → slice_get (specs hs) n ≡ Some h.spec
get_specs [] n h e = absurd_none e
get_specs (x ∷ hs) zero h e = let same : x ≡ h = cc e in ap (λ (k : Held). Some k.spec) same
get_specs (x ∷ hs) (suc n) h e = get_specs hs n h e

length_specs : (hs : List Held) → length (specs hs) ≡ length hs
length_specs [] = refl
length_specs (h ∷ hs) = ap (λ n. suc n) (length_specs hs)

spec_of : (attaches more : List Entry) (number : ℕ) (h : Held) → number < length (held attaches) → slice_get (held (attaches ++ more)) number ≡ Some h
    → Some h.spec ≡ slice_get (specs (held attaches)) number
spec_of attaches more number h within at =
    let longer = all_specs (past_of attaches) more in
    sym (get_specs (held (attaches ++ more)) number h at) ∙ ap (λ (p : Past). slice_get (specs p.holds) number) (fold-append after nothing attaches more)
    ∙ ap (λ ss. slice_get ss number) longer.is ∙ get_front (specs (held attaches)) longer.more number (omega (arith, within, length_specs (held attaches)))

-- items without a repeat are all published

not_same : (xs ys : List ℕ) (b : Bool) → same_id ys xs ≡ b → same_id xs ys ≡ false → b ≡ false
not_same xs ys false e f = refl
not_same xs ys true e f = sym (ap (λ zs. same_id xs zs) (same_text ys xs (sym e)) ∙ same_ids xs) ∙ f

same_both : (xs ys : List ℕ) (b : Bool) → same_id xs ys ≡ b → same_id ys xs ≡ b
same_both xs ys true e = ap (λ zs. same_id ys zs) (same_text xs ys (sym e)) ∙ same_ids ys
same_both xs ys false e = not_same xs ys (same_id ys xs) refl e

same_sides : (xs ys : List ℕ) → same_id xs ys ≡ same_id ys xs
same_sides xs ys = sym (same_both xs ys (same_id xs ys) refl)

id_sides : (a b : Option (List ℕ)) → is_same a b ≡ is_same b a
id_sides None None = refl
id_sides None (Some y) = refl
id_sides (Some x) None = refl
id_sides (Some x) (Some y) = same_sides x y

abbrev alike : Item → Item → Bool
alike x y = is_on x.channel y && is_same x.id y.id

alike_sides : (x y : Item) → alike x y ≡ alike y x
alike_sides x y = cc (same_sides y.channel x.channel, id_sides x.id y.id)

or_left_no : (a b : Bool) → (a || b) ≡ false → a ≡ false
or_left_no true b e = e
or_left_no false b e = refl

or_right_no : (a b : Bool) → (a || b) ≡ false → b ≡ false
or_right_no true b e = absurd_true (sym e)
or_right_no false b e = e

or_both_no : (a b : Bool) → a ≡ false → b ≡ false → (a || b) ≡ false
or_both_no true b e f = e
or_both_no false b e f = f

not_no : (a : Bool) → not a ≡ true → a ≡ false
not_no true e = absurd_true e
not_no false e = refl

-- an item is no repeat of those before it
apart_before : (xs : List Item) (x : Item) (ys : List Item) → are_apart (xs ++ x ∷ ys) ≡ true → is_repeat xs x ≡ false
apart_before [] x ys e = refl
apart_before (z ∷ xs) x ys e =
    let here : is_repeat (xs ++ x ∷ ys) z ≡ false = not_no (is_repeat (xs ++ x ∷ ys) z) (and_left (not (is_repeat (xs ++ x ∷ ys) z)) (are_apart (xs ++ x ∷ ys)) e) in
    let parts : (is_repeat xs z || (alike z x || is_repeat ys z)) ≡ false = sym (list_any-append (alike z) xs (x ∷ ys)) ∙ here in
    let this : alike z x ≡ false = or_left_no (alike z x) (is_repeat ys z) (or_right_no (is_repeat xs z) (alike z x || is_repeat ys z) parts) in
    or_both_no (alike x z) (is_repeat xs x) (alike_sides x z ∙ this) (apart_before xs x ys (and_right (not (is_repeat (xs ++ x ∷ ys) z)) (are_apart (xs ++ x ∷ ys)) e))

all_last : (xs : List Item) → length xs ≤ 4096 → last_items xs ≡ xs
all_last xs h = let none : length xs - 4096 ≡ 0 = omega (arith, h) in ap (λ n. drop n xs) none

abbrev Publishes : List Entry → Past → Type 0
Publishes es past = are_apart (past.published ++ sent es) ≡ true → length (past.published ++ sent es) ≤ 4096 → (fold after past es).published ≡ past.published ++ sent es

quiet : (past next : Past) (es : List Entry) → next.published ≡ past.published → Publishes es next
    → are_apart (past.published ++ sent es) ≡ true → length (past.published ++ sent es) ≤ 4096 → (fold after next es).published ≡ past.published ++ sent es
quiet past next es same rest apart few =
    rest (ap (λ ps. are_apart (ps ++ sent es)) same ∙ apart) (subst (λ ps. length (ps ++ sent es) ≤ 4096) (sym same) few) ∙ ap (λ ps. ps ++ sent es) same

attach_published : (past : Past) (h : Held) (place : Bool) → (cond place (with_hold past h) past).published ≡ past.published
attach_published past h true = refl
attach_published past h false = refl

short_front : (xs ys : List Item) → length (xs ++ ys) ≤ 4096 → length xs ≤ 4096
short_front xs ys h = omega (arith, h, length-append xs ys)

publish_by : (past : Past) (item : Item) (es : List Entry) (repeat : Bool) → is_repeat (last_items past.published) item ≡ repeat → ((next : Past) → Publishes es next)
    → are_apart (past.published ++ item ∷ sent es) ≡ true → length (past.published ++ item ∷ sent es) ≤ 4096
    → (fold after (cond repeat past (with_item past item)) es).published ≡ past.published ++ item ∷ sent es
publish_by past item es true e rest apart few =
    let none = ap (λ xs. is_repeat xs item) (all_last past.published (short_front past.published (item ∷ sent es) few)) ∙ apart_before past.published item (sent es) apart in
    absurd_true (sym none ∙ e)
publish_by past item es false e rest apart few =
    let next = with_item past item in
    let items : next.published ++ sent es ≡ past.published ++ item ∷ sent es = append_assoc past.published (item ∷ []) (sent es) in
    rest next (ap are_apart items ∙ apart) (subst (λ xs. length xs ≤ 4096) (sym items) few) ∙ items

by_event : (past : Past) (who : ℕ) (event : Event) (es : List Entry) → ((next : Past) → Publishes es next)
    → are_apart (past.published ++ (sent_by event ++ sent es)) ≡ true → length (past.published ++ (sent_by event ++ sent es)) ≤ 4096
    → (fold after (after_event past who event) es).published ≡ past.published ++ (sent_by event ++ sent es)
by_event past who (Attach spec) es rest apart few =
    let h = begun who spec (last_items past.published) in
    quiet past (cond (has_place past.holds) (with_hold past h) past) es (attach_published past h (has_place past.holds)) (rest (cond (has_place past.holds) (with_hold past h) past)) apart few
by_event past who (Publish item) es rest apart few = publish_by past item es (is_repeat (last_items past.published) item) refl rest apart few
by_event past who (Take hold now) es rest apart few = rest (after_event past who (Take hold now)) apart few
by_event past who (Detach hold) es rest apart few = rest (after_event past who (Detach hold)) apart few
by_event past who (Page hold from to bytes then) es rest apart few = rest (after_event past who (Page hold from to bytes then)) apart few
by_event past who (PageFailed hold) es rest apart few = rest (after_event past who (PageFailed hold)) apart few
by_event past who (Push hold message) es rest apart few = rest (after_event past who (Push hold message)) apart few
by_event past who (Join hold channel) es rest apart few = rest (after_event past who (Join hold channel)) apart few
by_event past who (Leave hold channel) es rest apart few = rest (after_event past who (Leave hold channel)) apart few

all_published : (es : List Entry) (past : Past) → Publishes es past
all_published [] past = λ apart few. sym (append-nil past.published)
all_published (e ∷ es) past = λ apart few. by_event past e.who e.event es (all_published es) apart few

attached_none : (who : ℕ) (event : Event) (past : Past) → Attaches event → (after_event past who event).published ≡ past.published
attached_none who (Attach spec) past a = attach_published past (begun who spec (last_items past.published)) (has_place past.holds)
attached_none who (Publish item) past a = absurd a
attached_none who (Take hold now) past a = absurd a
attached_none who (Page hold from to bytes then) past a = absurd a
attached_none who (PageFailed hold) past a = absurd a
attached_none who (Push hold message) past a = absurd a
attached_none who (Join hold channel) past a = absurd a
attached_none who (Leave hold channel) past a = absurd a
attached_none who (Detach hold) past a = absurd a

attached_all : (es : List Entry) (past : Past) → AllByRecursion (λ (e : Entry). Attaches e.event) es → (fold after past es).published ≡ past.published
attached_all [] past all = refl
attached_all (e ∷ es) past all = attached_all es (after past e) all.1 ∙ attached_none e.who e.event past all.0

published_is : (attaches more : List Entry) → AllByRecursion (λ (e : Entry). Attaches e.event) attaches → AreFew (sent more) → published (attaches ++ more) ≡ sent more
published_is attaches more all few =
    let none = attached_all attaches nothing all in
    let few' : length (sent more) ≤ 4096 = omega (arith, few.few) in
    ap (λ (p : Past). p.published) (fold-append after nothing attaches more)
    ∙ all_published more (past_of attaches) (ap (λ ps. are_apart (ps ++ sent more)) none ∙ few.apart) (subst (λ ps. length (ps ++ sent more) ≤ 4096) (sym none) few')
    ∙ ap (λ ps. ps ++ sent more) none

-- two beginnings of one chain

-- one goes further than the other
pub record Further (short long : List Link) : Type 0 where
  pub link : Link
  pub more : List Link
  pub is : long ≡ short ++ link ∷ more

grown : (x : Link) (xs ys : List Link) → Further xs ys → Further (x ∷ xs) (x ∷ ys)
grown x xs ys f = record { link = f.link; more = f.more; is = ap (λ ls. x ∷ ls) f.is }

-- of two beginnings of one list, both are one, or one goes further
beginnings : {A : Type 0} (xs ys r t : List Link) → xs ++ r ≡ ys ++ t → (xs ≡ ys → A) → (Further xs ys → A) → (Further ys xs → A) → A
beginnings [] [] r t e same less more = same refl
beginnings [] (y ∷ ys) r t e same less more = less (record { link = y; more = ys; is = refl })
beginnings (x ∷ xs) [] r t e same less more = more (record { link = x; more = xs; is = refl })
beginnings (x ∷ xs) (y ∷ ys) r t e same less more =
    let heads : x ≡ y = cc e in
    let tails : xs ++ r ≡ ys ++ t = cc e in
    beginnings xs ys r t tails
    (λ s. same (cc (heads, s)))
    (λ f. less (subst (λ (z : Link). Further (x ∷ xs) (z ∷ ys)) heads (grown x xs ys f)))
    (λ f. more (subst (λ (z : Link). Further (z ∷ ys) (x ∷ xs)) heads (grown x ys xs f)))

came_at : (c : Chain) (items : List Item) (from : List ℕ) (xs ys : List Link) (l : Link) → Came c items from (xs ++ l ∷ ys) → list_any (λ (i : Item). nexts c (last_id from xs) i && is_id i.id l.id) items ≡ true
came_at c items from [] ys l p = p.0
came_at c items from (x ∷ xs) ys l p = came_at c items x.id xs ys l p.1

any_by : (q p some one : Bool) → ((q && p) || one) ≡ true → (one ≡ true → some ≡ true) → (q || some) ≡ true
any_by true p some one e f = refl
any_by false p some one e f = f e

any_less : (q p : Item → Bool) (xs : List Item) → list_any (λ (i : Item). q i && p i) xs ≡ true → list_any q xs ≡ true
any_less q p [] e = e
any_less q p (x ∷ xs) e = any_by (q x) (p x) (list_any q xs) (list_any (λ (i : Item). q i && p i) xs) e (any_less q p xs)

-- a hold that didn't go as far as another left an item of the window behind
left_behind : {A : Type 0} (c : Chain) (first second : List Item) (opening start : List ℕ) (taken taken' : List Piece) (s t : State) → IsPermutation second first → length first ≤ 4096
    → (f : Stands c first opening start taken s) (g : Stands c second opening start taken' t) → s.ended ≡ None → NoPage (taken' ++ t.pending) → Further f.between g.between → A
left_behind c first second opening start taken taken' s t same few f g live unpaged further =
    let came = came_at c second start f.between further.more further.link (subst (Came c second start) further.is (g.now.came unpaged)) in
    let q : Item → Bool = λ (i : Item). nexts c (last_id start f.between) i in
    let there : list_any q first ≡ true = sym (list_any-IsPermutation q second first same) ∙ any_less q (λ (i : Item). is_id i.id further.link.id) second came in
    let none : list_any q first ≡ false = ap (λ p. list_any (nexts c p) first) f.now.place.to_is ∙ ap (list_any (nexts c f.at)) (sym (all_last first few)) ∙ none_any (nexts c f.at) (last_items first) (f.none live) in
    absurd_true (sym none ∙ there)

-- two holds of one specification stand at one place
same_stands : (c : Chain) (first second : List Item) (opening start : List ℕ) (taken taken' : List Piece) (s t : State) → AreDistinct c.root c.links → IsPermutation first second → length first ≤ 4096 → length second ≤ 4096
    → Stands c first opening start taken s → Stands c second opening start taken' t → s.ended ≡ None → t.ended ≡ None → NoPage (taken ++ s.pending) → NoPage (taken' ++ t.pending)
    → (text (taken ++ s.pending) ≡ text (taken' ++ t.pending)) × (s.position ≡ t.position)
same_stands c first second opening start taken taken' s t d same few few' f g live live' unpaged unpaged' =
    let a = f.now.place in
    let b = g.now.place in
    let place = one_place c.root a.before (f.between ++ a.rest) b.before (g.between ++ b.rest) (subst (AreDistinct c.root) a.whole d) (sym a.whole ∙ b.whole) (a.from_is ∙ sym b.from_is) in
    beginnings f.between g.between a.rest b.rest place.1
    (λ e. (
      f.now.bytes ∙ ap (λ ls. opening ++ bytes_of ls) e ∙ sym g.now.bytes,
      f.now.position_is ∙ ap Some (sym a.to_is ∙ ap (last_id start) e ∙ b.to_is) ∙ sym g.now.position_is,
    ))
    (λ e. left_behind c first second opening start taken taken' s t (IsPermutation-sym first second same) few f g live unpaged' e)
    (λ e. left_behind c second first opening start taken' taken t s same few' g f live' unpaged e)

same_some : {spec other : HoldSpec} → Some spec ≡ Some other → spec ≡ other
same_some e = cc e

same_stream : {opening opening' channel start start' : List ℕ} {link link' : Bool} → Stream opening channel start link ≡ Stream opening' channel start' link' → (opening ≡ opening') × (start ≡ start')
same_stream e = (cc e, cc e)

pub order_law_holds : OrderLaw
order_law_holds = λ c attaches first second number h k attach within few few' same at v unpaged live at' v' unpaged' live'.
    let all = recursion_from_All (λ (e : Entry). Attaches e.event) attaches attach in
    let ps = published_is attaches first all few in
    let qs = published_is attaches second all few' in
    let items = published (attaches ++ first) in
    let items' = published (attaches ++ second) in
    let perm : IsPermutation items items' = subst (λ xs. IsPermutation xs items') (sym ps) (subst (IsPermutation (sent first)) (sym qs) same) in
    let short : length items ≤ 4096 = omega (arith, few.few, ap length ps) in
    let short' : length items' ≤ 4096 = omega (arith, few'.few, ap length qs) in
    let one : h.spec ≡ k.spec = same_some (spec_of attaches first number h within at ∙ sym (spec_of attaches second number k within at')) in
    let both = same_stream (sym v.channel ∙ one ∙ v'.channel) in
    let f = covered_stands c (attaches ++ first) number h at v in
    let g = covered_stands c (attaches ++ second) number k at' v' in
    let g' = subst (λ o. Stands c items' o v.start k.taken k.state) (sym both.0) (subst (λ p. Stands c items' v'.opening p k.taken k.state) (sym both.1) g) in
    let alike = same_stands c items items' v.opening v.start h.taken k.taken h.state k.state v.distinct perm short short' f g' live live' unpaged unpaged' in
    record { text = alike.0; position = alike.1 }
