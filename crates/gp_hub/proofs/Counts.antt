-- A history has at most as many holds as entries.
use Rattle.std.proofs.Common.{◌≡◌, ℕ, zero, suc, ◌+◌, ◌<◌, ◌≤◌, Bool, true, false, cond, List, [], ◌∷◌, ◌++◌, length, fold, arith, ap, refl, length-append}
use Rattle.std.proofs.lemmas.List.{length-map}
use Rattle.gp_plain.specs.declared.item.Item.{Item}
use Rattle.gp_plain.specs.declared.event.Entry.{Entry}
use Rattle.gp_plain.specs.declared.event.Event.{Event}
use Rattle.gp_plain.specs.declared.event.Event.TheVariants.{Attach, Publish, Take, Page, PageFailed, Push, Join, Leave, Detach}
use Rattle.gp_plain.specs.Follow.{last_items, is_repeat}
use Rattle.gp_plain.specs.Holds.{Held, push, join, leave, begun, taken_from, paged_from, failed, changed_by, let_go}
use Rattle.gp_plain.specs.History.{Past, page_of, has_place, changed, served_by, with_item, with_hold, after_event, after, nothing, held}
use Rattle.gp_plain.specs.Standing.{Standing, StandsFor}

changed_count : (who number : ℕ) (change : Held → Held) (hs : List Held) → length (changed who number change hs) ≡ length hs
changed_count who number change [] = refl
changed_count who zero change (h ∷ hs) = refl
changed_count who (suc number) change (h ∷ hs) = ap suc (changed_count who number change hs)

attached_count : (past : Past) (h : Held) (place : Bool) → length (cond place (with_hold past h) past).holds ≤ length past.holds + 1
attached_count past h true = omega (arith, length-append past.holds (h ∷ []))
attached_count past h false = omega arith

served_count : (past : Past) (item : Item) (repeat : Bool) → length (cond repeat past (with_item past item)).holds ≤ length past.holds + 1
served_count past item true = omega arith
served_count past item false = omega (arith, length-map past.holds (served_by item (last_items past.published) (last_items (past.published ++ item ∷ []))))

one_count : (past : Past) (who : ℕ) (event : Event) → length (after_event past who event).holds ≤ length past.holds + 1
one_count past who (Attach spec) = attached_count past (begun who spec (last_items past.published)) (has_place past.holds)
one_count past who (Publish item) = served_count past item (is_repeat (last_items past.published) item)
one_count past who (Take hold now) = omega (arith, changed_count who hold (taken_from now) past.holds)
one_count past who (Detach hold) = omega (arith, changed_count who hold let_go past.holds)
one_count past who (Page hold from to bytes then) = omega (arith, changed_count who hold (paged_from (last_items past.published) (page_of from to bytes then)) past.holds)
one_count past who (PageFailed hold) = omega (arith, changed_count who hold failed past.holds)
one_count past who (Push hold message) = omega (arith, changed_count who hold (changed_by (push message)) past.holds)
one_count past who (Join hold channel) = omega (arith, changed_count who hold (changed_by (join channel)) past.holds)
one_count past who (Leave hold channel) = omega (arith, changed_count who hold (changed_by (leave channel)) past.holds)

all_count : (entries : List Entry) (past : Past) → length (fold after past entries).holds ≤ length past.holds + length entries
all_count [] past = omega arith
all_count (e ∷ es) past =
    let one : length (after past e).holds ≤ length past.holds + 1 = one_count past e.who e.event in
    let rest : length (fold after (after past e) es).holds ≤ length (after past e).holds + length es = all_count es (after past e) in
    omega (arith, one, rest)

pub next_below : (s : Standing) (entries : List Entry) (most : ℕ) → StandsFor s entries → length entries < most → s.next < most
next_below s entries most is few =
    let next : s.next ≡ length (held entries) = ap (λ (t : Standing). t.next) is in
    omega (arith, next, all_count entries nothing, few)
