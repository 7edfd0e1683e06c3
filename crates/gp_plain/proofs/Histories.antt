-- What each event keeps, each history keeps.
use Rattle.std.proofs.Common.{◌≡◌, ℕ, zero, suc, Bool, true, false, cond, not, ◌==◌, List, [], ◌∷◌, ◌++◌, map, fold, slice_get, subst, Some, None}
use Rattle.std.specs.List.{AllByRecursion}
use Rattle.gp_plain.specs.declared.item.Item.{Item}
use Rattle.gp_plain.specs.declared.event.Entry.{Entry}
use Rattle.gp_plain.specs.declared.event.Event.{Event}
use Rattle.gp_plain.specs.declared.event.Event.TheVariants.{Attach, Publish, Take, Page, PageFailed, Push, Join, Leave, Detach}
use Rattle.gp_plain.specs.declared.event.HoldSpec.{HoldSpec}
use Rattle.gp_plain.specs.Follow.{last_items, is_repeat}
use Rattle.gp_plain.specs.Holds.{Held, RecoveryPage, SocketChange, push, join, leave, begun, taken_from, paged_from, failed, changed_by, let_go}
use Rattle.gp_plain.specs.History.{Past, page_of, has_place, changed, served_by, with_item, with_hold, after_event, after, nothing, held, published}

-- what is said of a hold and of the items published so far is kept by each event
pub record IsKept (Says : List Item → Held → Type 0) : Type 0 where
  pub fresh : (items : List Item) (who : ℕ) (spec : HoldSpec) → Says items (begun who spec (last_items items))
  pub serve : (items : List Item) (item : Item) (h : Held) → Says items h → Says (items ++ item ∷ []) (served_by item (last_items items) (last_items (items ++ item ∷ [])) h)
  pub take : (items : List Item) (now : ℕ) (h : Held) → Says items h → Says items (taken_from now h)
  pub page : (items : List Item) (page : RecoveryPage) (h : Held) → Says items h → Says items (paged_from (last_items items) page h)
  pub fail : (items : List Item) (h : Held) → Says items h → Says items (failed h)
  pub change : (items : List Item) (change : SocketChange) (h : Held) → Says items h → Says items (changed_by change h)
  pub go : (items : List Item) (h : Held) → Says items h → Says items (let_go h)

abbrev IsKeptBy : (List Item → Held → Type 0) → Past → Type 0
IsKeptBy says past = AllByRecursion (says past.published) past.holds

changed_one : (says : Held → Type 0) (change : Held → Held) (h : Held) (kept own : Bool) → ((k : Held) → says k → says (change k)) → says h → says (cond kept (cond own (change h) h) h)
changed_one says change h true true keeps f = keeps h f
changed_one says change h true false keeps f = f
changed_one says change h false own keeps f = f

changed_all : (says : Held → Type 0) (who number : ℕ) (change : Held → Held) (hs : List Held) → ((k : Held) → says k → says (change k))
    → AllByRecursion says hs → AllByRecursion says (changed who number change hs)
changed_all says who number change [] keeps all = tt
changed_all says who zero change (h ∷ hs) keeps all = (changed_one says change h (not h.released) (h.owner == who) keeps all.0, all.1)
changed_all says who (suc number) change (h ∷ hs) keeps all = (all.0, changed_all says who number change hs keeps all.1)

all_push : (says : Held → Type 0) (xs : List Held) (h : Held) → AllByRecursion says xs → says h → AllByRecursion says (xs ++ h ∷ [])
all_push says [] h p q = (q, tt)
all_push says (x ∷ xs) h p q = (p.0, all_push says xs h p.1 q)

attached : (says : List Item → Held → Type 0) (past : Past) (h : Held) (place : Bool) → IsKeptBy says past → says past.published h → IsKeptBy says (cond place (with_hold past h) past)
attached says past h true all f = all_push (says past.published) past.holds h all f
attached says past h false all f = all

served_all : (says : List Item → Held → Type 0) (items : List Item) (item : Item) (hs : List Held) → IsKept says → AllByRecursion (says items) hs
    → AllByRecursion (says (items ++ item ∷ [])) (map (served_by item (last_items items) (last_items (items ++ item ∷ []))) hs)
served_all says items item [] k all = tt
served_all says items item (h ∷ hs) k all = (k.serve items item h all.0, served_all says items item hs k all.1)

published_by : (says : List Item → Held → Type 0) (past : Past) (item : Item) (repeat : Bool) → IsKept says → IsKeptBy says past → IsKeptBy says (cond repeat past (with_item past item))
published_by says past item true k all = all
published_by says past item false k all = served_all says past.published item past.holds k all

after_all : (says : List Item → Held → Type 0) (past : Past) (who : ℕ) (event : Event) → IsKept says → IsKeptBy says past → IsKeptBy says (after_event past who event)
after_all says past who (Attach spec) k all = attached says past (begun who spec (last_items past.published)) (has_place past.holds) all (k.fresh past.published who spec)
after_all says past who (Publish item) k all = published_by says past item (is_repeat (last_items past.published) item) k all
after_all says past who (Take hold now) k all = changed_all (says past.published) who hold (taken_from now) past.holds (k.take past.published now) all
after_all says past who (Detach hold) k all = changed_all (says past.published) who hold let_go past.holds (k.go past.published) all
after_all says past who (Page hold from to bytes then) k all =
    let page = page_of from to bytes then in
    changed_all (says past.published) who hold (paged_from (last_items past.published) page) past.holds (k.page past.published page) all
after_all says past who (PageFailed hold) k all = changed_all (says past.published) who hold failed past.holds (k.fail past.published) all
after_all says past who (Push hold message) k all = changed_all (says past.published) who hold (changed_by (push message)) past.holds (k.change past.published (push message)) all
after_all says past who (Join hold channel) k all = changed_all (says past.published) who hold (changed_by (join channel)) past.holds (k.change past.published (join channel)) all
after_all says past who (Leave hold channel) k all = changed_all (says past.published) who hold (changed_by (leave channel)) past.holds (k.change past.published (leave channel)) all

folded_all : (says : List Item → Held → Type 0) (past : Past) (entries : List Entry) → IsKept says → IsKeptBy says past → IsKeptBy says (fold after past entries)
folded_all says past [] k all = all
folded_all says past (e ∷ es) k all = folded_all says (after past e) es k (after_all says past e.who e.event k all)

pub in_each_history : (says : List Item → Held → Type 0) (entries : List Entry) → IsKept says → AllByRecursion (says (published entries)) (held entries)
in_each_history says entries k = folded_all says nothing entries k tt

no_some : {h : Held} → None ≡ Some h → ⊥
no_some e = cc

-- what is said of each hold is said of the hold of a number
pub all_at : (says : Held → Type 0) (hs : List Held) (n : ℕ) (h : Held) → AllByRecursion says hs → slice_get hs n ≡ Some h → says h
all_at says [] n h all e = absurd (no_some e)
all_at says (x ∷ xs) zero h all e = let same : x ≡ h = cc e in subst says same all.0
all_at says (x ∷ xs) (suc n) h all e = all_at says xs n h all.1 e
