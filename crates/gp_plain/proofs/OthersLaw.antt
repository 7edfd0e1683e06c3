-- What an entry leaves of the holds.
use Rattle.std.proofs.Common.{◌≡◌, ◌≢◌, ℕ, zero, suc, ◌+◌, ◌==◌, Bool, true, false, cond, not, List, [], ◌∷◌, ◌++◌, map, fold, arith, refl, sym, ap, ◌∙◌, subst, slice_get, Option, Some, None, option_map}
use Rattle.std.specs.List.{All}
use Rattle.std.proofs.lemmas.List.Sums.{fold-append}
use Rattle.std.proofs.lemmas.List.Elements.{All-head, All-tail}
use Rattle.std.proofs.lemmas.Bool.Decides.{nat_tests}
use Rattle.gp_plain.specs.declared.item.Item.{Item}
use Rattle.gp_plain.specs.declared.event.Entry.{Entry}
use Rattle.gp_plain.specs.declared.event.Event.{Event}
use Rattle.gp_plain.specs.declared.event.Event.TheVariants.{Attach, Publish, Take, Page, PageFailed, Push, Join, Leave, Detach}
use Rattle.gp_plain.specs.Follow.{last_items, is_repeat}
use Rattle.gp_plain.specs.Holds.{State, Held, is_live, offered, grew, settled_if, begun, taken_from, paged_from, failed, let_go, push, join, leave, changed_by}
use Rattle.gp_plain.specs.History.{Past, page_of, has_place, changed_if, changed, served_by, with_item, with_hold, after_event, after, nothing, past_of, held}
use Rattle.gp_plain.specs.Others.{Share, share_of, share_at, shares_from, IsOfAnother, OthersLaw, OwnersLaw, ReleasedLaw}
use Rattle.gp_plain.proofs.Histories.{all_at}
use Rattle.gp_plain.proofs.Released.{have_ended}

differs_by : {a b : ℕ} → a ≢ b → (t : Bool) → (a == b) ≡ t → t ≡ false
differs_by ne true e = absurd (ne (grind (arith, nat_tests, e)))
differs_by ne false e = refl

pub differs : (a b : ℕ) → a ≢ b → (a == b) ≡ false
differs a b ne = let e = differs_by ne (a == b) refl in e

same_by : (a b : ℕ) → (a == b) ≡ true → a ≡ b
same_by a b e = grind (arith, nat_tests, e)

not_true : {b : Bool} → b ≡ true → not b ≡ false
not_true e = ap not e

no_some : {A : Type 0} {x : A} → None ≡ Some x → ⊥
no_some e = cc

same_some : {A : Type 0} {x y : A} → Some x ≡ Some y → x ≡ y
same_some e = cc

-- what is read of the hold of a number, where there is one

module _ {A : Type 0} where
  abbrev view_at : (Held → A) → List Held → ℕ → Option A
  view_at v hs n = option_map v (slice_get hs n)

  map_keeps : (v : Held → A) (x : A) (f : Held → Held) (hs : List Held) (n : ℕ) → ((h : Held) → v h ≡ x → v (f h) ≡ x) → view_at v hs n ≡ Some x → view_at v (map f hs) n ≡ Some x
  map_keeps v x f [] n keeps e = e
  map_keeps v x f (h ∷ hs) zero keeps e = ap Some (keeps h (same_some e))
  map_keeps v x f (h ∷ hs) (suc n) keeps e = map_keeps v x f hs n keeps e

  push_keeps : (v : Held → A) (x : A) (hs : List Held) (k : Held) (n : ℕ) → view_at v hs n ≡ Some x → view_at v (hs ++ k ∷ []) n ≡ Some x
  push_keeps v x [] k n e = absurd (no_some e)
  push_keeps v x (h ∷ hs) k zero e = e
  push_keeps v x (h ∷ hs) k (suc n) e = push_keeps v x hs k n e

  changed_keeps : (v : Held → A) (x : A) (who m : ℕ) (f : Held → Held) (hs : List Held) (n : ℕ) → ((h : Held) → v h ≡ x → v (changed_if who f h) ≡ x)
      → view_at v hs n ≡ Some x → view_at v (changed who m f hs) n ≡ Some x
  changed_keeps v x who m f [] n keeps e = absurd (no_some e)
  changed_keeps v x who zero f (h ∷ hs) zero keeps e = ap Some (keeps h (same_some e))
  changed_keeps v x who zero f (h ∷ hs) (suc n) keeps e = e
  changed_keeps v x who (suc m) f (h ∷ hs) zero keeps e = e
  changed_keeps v x who (suc m) f (h ∷ hs) (suc n) keeps e = changed_keeps v x who m f hs n keeps e

  attach_keeps : (v : Held → A) (x : A) (past : Past) (k : Held) (place : Bool) (n : ℕ) → view_at v past.holds n ≡ Some x → view_at v (cond place (with_hold past k) past).holds n ≡ Some x
  attach_keeps v x past k true n e = push_keeps v x past.holds k n e
  attach_keeps v x past k false n e = e

  publish_keeps : (v : Held → A) (x : A) (past : Past) (item : Item) (repeat : Bool) (n : ℕ)
      → ((before after : List Item) (h : Held) → v h ≡ x → v (served_by item before after h) ≡ x)
      → view_at v past.holds n ≡ Some x → view_at v (cond repeat past (with_item past item)).holds n ≡ Some x
  publish_keeps v x past item true n keeps e = e
  publish_keeps v x past item false n keeps e =
      let before = last_items past.published in
      let later = last_items (past.published ++ item ∷ []) in
      map_keeps v x (served_by item before later) past.holds n (keeps before later) e

  -- what neither items nor changes by this number move
  record Keeps (v : Held → A) (x : A) (who : ℕ) : Type 0 where
    serve : (item : Item) (before after : List Item) (h : Held) → v h ≡ x → v (served_by item before after h) ≡ x
    change : (f : Held → Held) (h : Held) → v h ≡ x → v (changed_if who f h) ≡ x

  one_keeps : (v : Held → A) (x : A) (past : Past) (who : ℕ) (event : Event) (n : ℕ) → Keeps v x who → view_at v past.holds n ≡ Some x → view_at v (after_event past who event).holds n ≡ Some x
  one_keeps v x past who (Attach spec) n k e = attach_keeps v x past (begun who spec (last_items past.published)) (has_place past.holds) n e
  one_keeps v x past who (Publish item) n k e = publish_keeps v x past item (is_repeat (last_items past.published) item) n (k.serve item) e
  one_keeps v x past who (Take hold now) n k e = changed_keeps v x who hold (taken_from now) past.holds n (k.change (taken_from now)) e
  one_keeps v x past who (Detach hold) n k e = changed_keeps v x who hold let_go past.holds n (k.change let_go) e
  one_keeps v x past who (Page hold from to bytes then) n k e =
      let f = paged_from (last_items past.published) (page_of from to bytes then) in
      changed_keeps v x who hold f past.holds n (k.change f) e
  one_keeps v x past who (PageFailed hold) n k e = changed_keeps v x who hold failed past.holds n (k.change failed) e
  one_keeps v x past who (Push hold message) n k e = changed_keeps v x who hold (changed_by (push message)) past.holds n (k.change (changed_by (push message))) e
  one_keeps v x past who (Join hold channel) n k e = changed_keeps v x who hold (changed_by (join channel)) past.holds n (k.change (changed_by (join channel))) e
  one_keeps v x past who (Leave hold channel) n k e = changed_keeps v x who hold (changed_by (leave channel)) past.holds n (k.change (changed_by (leave channel))) e

  all_keep : (v : Held → A) (x : A) (says : ℕ → Type 0) (entries : List Entry) (past : Past) (n : ℕ) → ((who : ℕ) → says who → Keeps v x who)
      → All (λ (entry : Entry). says entry.who) entries → view_at v past.holds n ≡ Some x → view_at v (fold after past entries).holds n ≡ Some x
  all_keep v x says [] past n keeps all e = e
  all_keep v x says (entry ∷ es) past n keeps all e =
      all_keep v x says es (after past entry) n keeps (All-tail (λ (entry : Entry). says entry.who) entry es all)
      (one_keeps v x past entry.who entry.event n (keeps entry.who (All-head (λ (entry : Entry). says entry.who) entry es all)) e)

-- one hold, and entries of others

unchanged : (who : ℕ) (f : Held → Held) (h : Held) (kept own : Bool) → own ≡ false → cond kept (cond own (f h) h) h ≡ h
unchanged who f h true true e = absurd cc
unchanged who f h true false e = refl
unchanged who f h false own e = refl

shares_keep : (share : Share) (who : ℕ) → who ≢ share.owner → Keeps share_of share who
shares_keep share who ne = record {
  serve = λ item before later h e. e;
  change = λ f h e.
      let owner : h.owner ≡ share.owner = ap (λ (s : Share). s.owner) e in
      let other : (h.owner == who) ≡ false = differs h.owner who (λ q. ne (sym q ∙ owner)) in
      ap share_of (unchanged who f h (not h.released) (h.owner == who) other) ∙ e;
}

pub others_law_holds : OthersLaw
others_law_holds = λ seen others number share is all.
    subst (λ (past : Past). share_at past.holds number ≡ Some share) (sym (fold-append after nothing seen others))
    (all_keep share_of share (λ who. who ≢ share.owner) others (past_of seen) number (λ who ne. shares_keep share who ne) all is)

-- all holds of one owner, and entries of others

abbrev pub share_if : ℕ → ℕ → Held → List (ℕ × Share) → List (ℕ × Share)
share_if owner k h rest = cond (h.owner == owner) ((k, share_of h) ∷ rest) rest

served_shares : (owner k : ℕ) (item : Item) (before later : List Item) (hs : List Held) → shares_from owner k (map (served_by item before later) hs) ≡ shares_from owner k hs
served_shares owner k item before later [] = refl
served_shares owner k item before later (h ∷ hs) = ap (share_if owner k h) (served_shares owner (k + 1) item before later hs)

pushed_shares : (owner k : ℕ) (hs : List Held) (h : Held) → (h.owner == owner) ≡ false → shares_from owner k (hs ++ h ∷ []) ≡ shares_from owner k hs
pushed_shares owner k [] h e = ap (λ b. cond b ((k, share_of h) ∷ []) []) e
pushed_shares owner k (x ∷ xs) h e = ap (share_if owner k x) (pushed_shares owner (k + 1) xs h e)

other_stays : (owner k : ℕ) (f : Held → Held) (h : Held) (rest : List (ℕ × Share)) (kept own : Bool) → (own ≡ true → (h.owner == owner) ≡ false) → (f h).owner ≡ h.owner
    → share_if owner k (cond kept (cond own (f h) h) h) rest ≡ share_if owner k h rest
other_stays owner k f h rest true true other same =
    let out : (h.owner == owner) ≡ false = other refl in
    let gone : ((f h).owner == owner) ≡ false = ap (λ n. n == owner) same ∙ out in
    ap (λ b. cond b ((k, share_of (f h)) ∷ rest) rest) gone ∙ sym (ap (λ b. cond b ((k, share_of h) ∷ rest) rest) out)
other_stays owner k f h rest true false other same = refl
other_stays owner k f h rest false own other same = refl

changed_shares : (owner who k m : ℕ) (f : Held → Held) (hs : List Held) → who ≢ owner → ((h : Held) → (f h).owner ≡ h.owner) → shares_from owner k (changed who m f hs) ≡ shares_from owner k hs
changed_shares owner who k m f [] ne same = refl
changed_shares owner who k zero f (h ∷ hs) ne same =
    other_stays owner k f h (shares_from owner (k + 1) hs) (not h.released) (h.owner == who) (λ own. differs h.owner owner (λ q. ne (sym (same_by h.owner who own) ∙ q))) (same h)
changed_shares owner who k (suc m) f (h ∷ hs) ne same = ap (share_if owner k h) (changed_shares owner who (k + 1) m f hs ne same)

pub attached_shares : (owner : ℕ) (past : Past) (h : Held) (place : Bool) → (h.owner == owner) ≡ false → shares_from owner 0 (cond place (with_hold past h) past).holds ≡ shares_from owner 0 past.holds
attached_shares owner past h true e = pushed_shares owner 0 past.holds h e
attached_shares owner past h false e = refl

pub published_shares : (owner : ℕ) (past : Past) (item : Item) (repeat : Bool) → shares_from owner 0 (cond repeat past (with_item past item)).holds ≡ shares_from owner 0 past.holds
published_shares owner past item true = refl
published_shares owner past item false = served_shares owner 0 item (last_items past.published) (last_items (past.published ++ item ∷ [])) past.holds

one_shares : (owner who : ℕ) (past : Past) (event : Event) → who ≢ owner → shares_from owner 0 (after_event past who event).holds ≡ shares_from owner 0 past.holds
one_shares owner who past (Attach spec) ne = attached_shares owner past (begun who spec (last_items past.published)) (has_place past.holds) (differs who owner ne)
one_shares owner who past (Publish item) ne = published_shares owner past item (is_repeat (last_items past.published) item)
one_shares owner who past (Take hold now) ne = changed_shares owner who 0 hold (taken_from now) past.holds ne (λ h. refl)
one_shares owner who past (Detach hold) ne = changed_shares owner who 0 hold let_go past.holds ne (λ h. refl)
one_shares owner who past (Page hold from to bytes then) ne = changed_shares owner who 0 hold (paged_from (last_items past.published) (page_of from to bytes then)) past.holds ne (λ h. refl)
one_shares owner who past (PageFailed hold) ne = changed_shares owner who 0 hold failed past.holds ne (λ h. refl)
one_shares owner who past (Push hold message) ne = changed_shares owner who 0 hold (changed_by (push message)) past.holds ne (λ h. refl)
one_shares owner who past (Join hold channel) ne = changed_shares owner who 0 hold (changed_by (join channel)) past.holds ne (λ h. refl)
one_shares owner who past (Leave hold channel) ne = changed_shares owner who 0 hold (changed_by (leave channel)) past.holds ne (λ h. refl)

all_shares : (owner : ℕ) (others : List Entry) (past : Past) → All (IsOfAnother owner) others → shares_from owner 0 (fold after past others).holds ≡ shares_from owner 0 past.holds
all_shares owner [] past all = refl
all_shares owner (e ∷ es) past all = all_shares owner es (after past e) (All-tail (IsOfAnother owner) e es all) ∙ one_shares owner e.who past e.event (All-head (IsOfAnother owner) e es all)

pub owners_law_holds : OwnersLaw
owners_law_holds = λ seen others owner all.
    ap (λ (past : Past). shares_from owner 0 past.holds) (fold-append after nothing seen others) ∙ all_shares owner others (past_of seen) all

-- a hold that was let go, and any entry

dead_is : (item : Item) (before later : List Item) (s : State) (live : Bool) → live ≡ false
    → cond live (let next = offered item before s in settled_if (grew s next) later next) s ≡ s
dead_is item before later s true e = absurd cc
dead_is item before later s false e = refl

dead_stays : (item : Item) (before later : List Item) (h : Held) → is_live h.state ≡ false → served_by item before later h ≡ h
dead_stays item before later h e = ap (λ (s : State). let k : Held = record h { state = s } in k) (dead_is item before later h.state (is_live h.state) e)

let_go_stays : (who : ℕ) (f : Held → Held) (h : Held) (kept own : Bool) → kept ≡ false → cond kept (cond own (f h) h) h ≡ h
let_go_stays who f h true own e = absurd cc
let_go_stays who f h false own e = refl

released_keep : (x : Held) (who : ℕ) → x.released ≡ true → is_live x.state ≡ false → Keeps (λ (h : Held). h) x who
released_keep x who gone dead = record {
  serve = λ item before later h e. dead_stays item before later h (ap (λ (k : Held). is_live k.state) e ∙ dead) ∙ e;
  change = λ f h e. let_go_stays who f h (not h.released) (h.owner == who) (not_true (ap (λ (k : Held). k.released) e ∙ gone)) ∙ e;
}

same_view : {A : Type 0} (at : Option A) → option_map (λ (x : A). x) at ≡ at
same_view None = refl
same_view (Some x) = refl

all_true : (entries : List Entry) → All (λ (entry : Entry). Unit {0}) entries
all_true entries = λ k d lt. tt

pub released_law_holds : ReleasedLaw
released_law_holds = λ seen more number h is gone.
    let dead : is_live h.state ≡ false = all_at (λ (k : Held). k.released ≡ true → is_live k.state ≡ false) (held seen) number h (have_ended seen) is gone in
    let kept : option_map (λ (k : Held). k) (slice_get (fold after (past_of seen) more).holds number) ≡ Some h =
    all_keep (λ (k : Held). k) h (λ who. Unit {0}) more (past_of seen) number (λ who t. released_keep h who gone dead) (all_true more) (same_view (slice_get (held seen) number) ∙ is) in
    subst (λ (past : Past). slice_get past.holds number ≡ Some h) (sym (fold-append after nothing seen more)) (sym (same_view (slice_get (fold after (past_of seen) more).holds number)) ∙ kept)
