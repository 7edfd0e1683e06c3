-- Every reliable stream hold follows every chain that covers it, and leaves nothing of the window behind.
use Rattle.std.proofs.Common.{◌≡◌, ℕ, zero, suc, ◌+◌, ◌-◌, ◌≤◌, Bool, true, false, cond, not, ◌&&◌, ◌||◌, nat_le, List, [], ◌∷◌, ◌++◌, length, map, eqb, refl, sym, ap, ◌∙◌, subst, arith, append_assoc, slice_get, Option, Some, None, is_none, is_some, option_map}
use Rattle.std.specs.List.{AllByRecursion, list_any, find}
use Rattle.std.specs.Option.{option_map_or}
use Rattle.std.specs.Cmp.Lexicographic.{same_text}
use Rattle.std.proofs.Math.Bool.{or-false}
use Rattle.std.proofs.lemmas.Bool.{eq-eqb}
use Rattle.std.proofs.lemmas.List.{append-nil, length-append}
use Rattle.std.proofs.lemmas.List.Elements.{All-from_recursion, recursion_from_All}
use Rattle.std.proofs.lemmas.List.Folds.{list_any-append, list_any_none}
use Rattle.gp_plain.specs.declared.item.Item.{Item}
use Rattle.gp_plain.specs.declared.item.StreamPart.{StreamPart}
use Rattle.gp_plain.specs.declared.event.Entry.{Entry}
use Rattle.gp_plain.specs.declared.event.HoldKind.TheVariants.{Stream as StreamKind}
use Rattle.gp_plain.specs.declared.event.Then.{Then}
use Rattle.gp_plain.specs.declared.event.Then.TheVariants.{Hold as HoldOn, Next, End}
use Rattle.gp_plain.specs.declared.event.HoldSpec.{HoldSpec}
use Rattle.gp_plain.specs.declared.event.HoldSpec.TheVariants.{Stream, Plain, Response, Socket}
use Rattle.gp_plain.specs.declared.reply.Piece.{Piece}
use Rattle.gp_plain.specs.declared.reply.Piece.TheVariants.{Page as PagePiece}
use Rattle.gp_plain.specs.declared.reply.EndCause.{EndCause}
use Rattle.gp_plain.specs.declared.reply.EndCause.TheVariants.{Closed, Gap, Unrecovered, Overflow}
use Rattle.gp_plain.specs.Names.{same_id}
use Rattle.gp_plain.specs.Items.{is_chained, is_id, comes_after, content_of, closes, is_on, goes_on_from}
use Rattle.gp_plain.specs.Follow.{last_items, is_heard, without_first, going_on, follow_within, follow}
use Rattle.gp_plain.specs.Pieces.{piece_bytes, text, moved, id_or, closed_by, end_by, has_room, batch, is_page, NoPage}
use Rattle.gp_plain.specs.Holds.{Terms, State, Held, terms_of, is_live, added, run, marked, gapped, can_ask, offered, shows_gap, run_for, piece_of, settled_if, grew, served, opened, begun_state, timed, rest_of, end_or_detached, RecoveryPage, followers, is_stream, page_refusal, begins_at, takes_page, is_end, is_next, page_run, closed_behind, marked_anew, with_page, with_stale, after_page, SocketChange, is_socket, after_change}
use Rattle.gp_plain.specs.History.{held, published, window}
use Rattle.gp_plain.specs.Chain.{Link, Chain, IsNoneOf, AreDistinct, bytes_of, last_id, IsIn, IsLinked, IsBetween, CoversIds, CoversItem, NoneCloses, ClosesLast, ClosesBy, IsHonest, Covers, ChainLaw, WindowLaw}
use Rattle.gp_plain.proofs.Windows.{drop_all, all_front, all_last, window_more}
use Rattle.gp_plain.proofs.Histories.{IsKept, in_each_history, all_at}
use Rattle.gp_plain.proofs.Soundness.{Fits, taken_again, sound, HasTerms}
use Rattle.gp_plain.proofs.Paging.{live_unrefused, change_other}

pub text-append : (ps qs : List Piece) → text (ps ++ qs) ≡ text ps ++ text qs
text-append [] qs = refl
text-append (p ∷ ps) qs = ap (λ b. piece_bytes p ++ b) (text-append ps qs) ∙ sym (append_assoc (piece_bytes p) (text ps) (text qs))

pub bytes_of-append : (xs ys : List Link) → bytes_of (xs ++ ys) ≡ bytes_of xs ++ bytes_of ys
bytes_of-append [] ys = refl
bytes_of-append (x ∷ xs) ys = ap (λ b. content_of x.stream ++ b) (bytes_of-append xs ys) ∙ sym (append_assoc (content_of x.stream) (bytes_of xs) (bytes_of ys))

pub last_id-append : (root : List ℕ) (xs ys : List Link) → last_id root (xs ++ ys) ≡ last_id (last_id root xs) ys
last_id-append root [] ys = refl
last_id-append root (x ∷ xs) ys = last_id-append x.id xs ys

-- the root is not the last id after a link
absent : {A : Type 0} (root : List ℕ) (x : Link) (xs ys : List Link) → IsNoneOf root (x ∷ (xs ++ ys)) → last_id x.id xs ≡ root → A
absent root x [] ys none e = absurd (none.0 (sym e))
absent root x (z ∷ xs) ys none e = absent root z xs ys none.1 e

-- an id stands at one place of a chain
pub one_place : (root : List ℕ) (a b a' b' : List Link) → AreDistinct root (a ++ b) → a ++ b ≡ a' ++ b' → last_id root a ≡ last_id root a' → (a ≡ a') × (b ≡ b')
one_place root [] b [] b' d e l = (refl, e)
one_place root [] b (y ∷ a') b' d e l = let d' = subst (AreDistinct root) e d in absent root y a' b' d'.0 (sym l)
one_place root (x ∷ a) b [] b' d e l = absent root x a b d.0 l
one_place root (x ∷ a) b (y ∷ a') b' d e l =
    let heads : x ≡ y = cc e in
    let tails : a ++ b ≡ a' ++ b' = cc e in
    let p = one_place x.id a b a' b' d.1 tails (l ∙ ap (λ (z : Link). last_id z.id a') (sym heads)) in
    (cc (heads, p.0), p.1)

absurd_nil : {A : Type 0} {x : Link} {xs : List Link} → ([] ≡ x ∷ xs) → A
absurd_nil e = cc

no_snoc : (front : List Link) (l : Link) → [] ≡ front ++ l ∷ [] → NoneCloses front
no_snoc [] l e = tt
no_snoc (x ∷ front) l e = absurd_nil {x = x} {xs = front ++ l ∷ []} e

absurd_some : {A : Type 0} {cause : EndCause} → Some cause ≡ None → A
absurd_some e = cc

pub absurd_true : {A : Type 0} → false ≡ true → A
absurd_true e = cc

none_closes-append : (xs ys : List Link) → NoneCloses xs → NoneCloses ys → NoneCloses (xs ++ ys)
none_closes-append [] ys p q = q
none_closes-append (x ∷ xs) ys p q = (p.0, none_closes-append xs ys p.1 q)

snoc_front : (xs ys : List Link) (x y : Link) → xs ++ x ∷ [] ≡ ys ++ y ∷ [] → xs ≡ ys
snoc_front [] [] x y e = refl
snoc_front [] (v ∷ []) x y e = cc e
snoc_front [] (v ∷ w ∷ ys) x y e = cc e
snoc_front (u ∷ []) [] x y e = cc e
snoc_front (u ∷ w ∷ xs) [] x y e = cc e
snoc_front (u ∷ xs) (v ∷ ys) x y e =
    let heads : u ≡ v = cc e in
    let tails : xs ++ x ∷ [] ≡ ys ++ y ∷ [] = cc e in
    cc (heads, snoc_front xs ys x y tails)

open_by : (xs : List Link) (l : Link) (b : Bool) → closes l.stream ≡ b → closed_by b ≡ None → NoneCloses xs → NoneCloses (xs ++ l ∷ [])
open_by xs l true e n p = absurd_some n
open_by xs l false e n p = none_closes-append xs (l ∷ []) p (e, tt)

none_more : (m n : ℕ) → suc m + n ≡ n → ⊥
none_more m n e = omega (arith, e)

-- an id further on in a chain is another
moved_on : {A : Type 0} (root : List ℕ) (up more rest : List Link) (l : Link) → AreDistinct root (up ++ ((l ∷ more) ++ rest)) → last_id root up ≡ last_id root (up ++ l ∷ more) → A
moved_on root up more rest l d e =
    let p = one_place root up ((l ∷ more) ++ rest) (up ++ l ∷ more) rest d (sym (append_assoc up (l ∷ more) rest)) e in
    let same : length ((l ∷ more) ++ rest) ≡ length rest = ap length p.1 in
    let long : length ((l ∷ more) ++ rest) ≡ length (l ∷ more) + length rest = length-append (l ∷ more) rest in
    absurd (none_more (length more) (length rest) (sym long ∙ same))

-- what the items are that a chain's next item can be
abbrev pub nexts : Chain → List ℕ → Item → Bool
nexts c at item = goes_on_from c.channel at item

abbrev pub None-next : Chain → List ℕ → List Item → Type 0
None-next c at items = AllByRecursion (λ (i : Item). nexts c at i ≡ false) items

-- each link is that of an item that was published
abbrev pub Came : Chain → List Item → List ℕ → List Link → Type 0
Came c items from [] = Unit {0}
Came c items from (l ∷ links) = (list_any (λ (i : Item). nexts c from i && is_id i.id l.id) items ≡ true) × Came c items l.id links

came-append : (c : Chain) (items : List Item) (from : List ℕ) (xs ys : List Link) → Came c items from xs → Came c items (last_id from xs) ys → Came c items from (xs ++ ys)
came-append c items from [] ys p q = q
came-append c items from (x ∷ xs) ys p q = (p.0, came-append c items x.id xs ys p.1 q)

or_true : (a b : Bool) → a ≡ true → (a || b) ≡ true
or_true true b e = refl
or_true false b e = absurd_true e

came_more : (c : Chain) (items : List Item) (item : Item) (from : List ℕ) (links : List Link) → Came c items from links → Came c (items ++ item ∷ []) from links
came_more c items item from [] p = tt
came_more c items item from (l ∷ links) p =
    let q : Item → Bool = λ (i : Item). nexts c from i && is_id i.id l.id in
    (list_any-append q items (item ∷ []) ∙ or_true (list_any q items) (list_any q (item ∷ [])) p.0, came_more c items item l.id links p.1)

front_nopage : (xs ys : List Piece) → NoPage (xs ++ ys) → NoPage xs
front_nopage [] ys n = tt
front_nopage (x ∷ xs) ys n = (n.0, front_nopage xs ys n.1)

last_nopage : (xs : List Piece) (p : Piece) → NoPage (xs ++ p ∷ []) → is_page p ≡ false
last_nopage [] p n = n.0
last_nopage (x ∷ xs) p n = last_nopage xs p n.1

before_nopage : (taken pending : List Piece) (p : Piece) → NoPage (taken ++ (pending ++ p ∷ [])) → NoPage (taken ++ pending)
before_nopage taken pending p n = front_nopage (taken ++ pending) (p ∷ []) (subst NoPage (sym (append_assoc taken pending (p ∷ []))) n)

-- a hold of which some was taken stands at a place of a chain. Without a page each of its items was published
pub record At (c : Chain) (items : List Item) (opening start : List ℕ) (taken : List Piece) (between : List Link) (at : List ℕ) (s : State) : Type 0 where
  pub position_is : s.position ≡ Some at
  pub place : IsBetween c start at between
  pub bytes : text (taken ++ s.pending) ≡ opening ++ bytes_of between
  pub still_open : s.ended ≡ None → NoneCloses between
  pub closes_last : ClosesLast between
  pub came : NoPage (taken ++ s.pending) → Came c items start between

-- an item that was published
pub record Good (c : Chain) (items : List Item) (item : Item) : Type 0 where
  pub covered : CoversItem c item
  pub there : (q : Item → Bool) → q item ≡ true → list_any q items ≡ true

-- a run took it further, and nothing of a list is left
pub record Went (c : Chain) (items : List Item) (opening start : List ℕ) (taken : List Piece) (from : List Item) (between : List Link) (s : State) : Type 0 where
  pub more : List Link
  pub at : List ℕ
  pub now : At c items opening start taken (between ++ more) at s
  pub none : s.ended ≡ None → None-next c at from

stays : (c : Chain) (items : List Item) (opening start : List ℕ) (taken : List Piece) (from : List Item) (between : List Link) (at : List ℕ) (s : State)
    → At c items opening start taken between at s → (s.ended ≡ None → None-next c at from) → Went c items opening start taken from between s
stays c items opening start taken from between at s a none = record {
  more = [];
  at = at;
  now = subst (λ ls. At c items opening start taken ls at s) (sym (append-nil between)) a;
  none = none;
}

ids_of : (id prev : Option (List ℕ)) (at : List ℕ) → (is_some id && is_id prev at) ≡ true → (own : List ℕ) × (id ≡ Some own) × (prev ≡ Some at)
ids_of None prev at e = absurd_true e
ids_of (Some own) None at e = absurd_true e
ids_of (Some own) (Some p) at e = (own, refl, ap Some (same_text p at (sym e)))

pub and_left : (a b : Bool) → (a && b) ≡ true → a ≡ true
and_left true b e = refl
and_left false b e = absurd_true e

pub and_right : (a b : Bool) → (a && b) ≡ true → b ≡ true
and_right true b e = e
and_right false b e = absurd_true e

same_channel : (item : Item) (channel : List ℕ) → is_on channel item ≡ true → item.channel ≡ channel
same_channel item channel e = same_text item.channel channel (sym e)

heard_on : (channel : List ℕ) (item : Item) (heard : Bool) → is_heard (channel ∷ []) item ≡ heard → is_on channel item ≡ heard
heard_on channel item heard e = sym (or-false (is_on channel item)) ∙ e

linked_by : (c : Chain) (id prev : Option (List ℕ)) (own at : List ℕ) (stream : Option StreamPart) → id ≡ Some own → prev ≡ Some at → CoversIds c id prev stream → IsLinked c own at stream
linked_by c id prev own at stream e f cov = subst (λ i. CoversIds c i (Some at) stream) e (subst (λ p. CoversIds c id p stream) f cov)

-- the item as a link of the chain
pub record Linked (c : Chain) (item : Item) (at : List ℕ) : Type 0 where
  pub own : List ℕ
  pub id_is : item.id ≡ Some own
  pub linked : IsLinked c own at item.stream

linked_of : (c : Chain) (items : List Item) (item : Item) (at : List ℕ) → Good c items item → nexts c at item ≡ true → Linked c item at
linked_of c items item at g e =
    let on = and_right (comes_after item at) (is_on c.channel item) e in
    let ids = ids_of item.id item.prev at (and_left (comes_after item at) (is_on c.channel item) e) in
    record { own = ids.0; id_is = ids.1; linked = linked_by c item.id item.prev ids.0 at item.stream ids.1 ids.2 (g.covered (same_channel item c.channel on)) }

pub and_both : (a b : Bool) → a ≡ true → b ≡ true → (a && b) ≡ true
and_both true b e f = f
and_both false b e f = absurd_true e

pub same_ids : (xs : List ℕ) → same_id xs xs ≡ true
same_ids [] = refl
same_ids (x ∷ xs) = and_both (eqb x x) (same_id xs xs) (eq-eqb x x refl) (same_ids xs)

own_id : (id : Option (List ℕ)) (own : List ℕ) → id ≡ Some own → is_id id own ≡ true
own_id id own e = ap (λ i. is_id i own) e ∙ same_ids own

-- the chain's next item goes on from a hold that isn't closed
next_at : (c : Chain) (items : List Item) (opening start : List ℕ) (taken : List Piece) (between : List Link) (at : List ℕ) (s : State) (item : Item) (k : Linked c item at)
    → AreDistinct c.root c.links → Good c items item → nexts c at item ≡ true → s.ended ≡ None → At c items opening start taken between at s
    → At c items opening start taken (between ++ (record { id = k.own; stream = item.stream }) ∷ []) k.own
    (record s { pending = s.pending ++ piece_of item ∷ []; position = option_map (λ (p : List ℕ). moved p (piece_of item)) s.position; ended = end_by (piece_of item); misses = 0 })
next_at c items opening start taken between at s item k d g e live a =
    let before = a.place.before in
    let up = before ++ between in
    let whole : c.links ≡ up ++ a.place.rest = a.place.whole ∙ sym (append_assoc before between a.place.rest) in
    let last : last_id c.root up ≡ at = last_id-append c.root before between ∙ ap (λ p. last_id p between) a.place.from_is ∙ a.place.to_is in
    let l : Link = record { id = k.own; stream = item.stream } in
    let p = one_place c.root up a.place.rest k.linked.before (l ∷ k.linked.rest) (subst (AreDistinct c.root) whole d) (sym whole ∙ k.linked.whole) (last ∙ sym k.linked.prev_is) in
    record {
      position_is = ap (option_map (λ (q : List ℕ). moved q (piece_of item))) a.position_is ∙ ap (λ i. Some (id_or i at)) k.id_is;
      place = record {
        before = before;
        rest = k.linked.rest;
        whole = a.place.whole ∙ ap (λ r. before ++ (between ++ r)) p.1 ∙ ap (λ r. before ++ r) (sym (append_assoc between (l ∷ []) k.linked.rest));
        from_is = a.place.from_is;
        to_is = last_id-append start between (l ∷ []);
      };
      bytes = ap text (sym (append_assoc taken s.pending (piece_of item ∷ []))) ∙ text-append (taken ++ s.pending) (piece_of item ∷ [])
          ∙ ap (λ b. b ++ (content_of item.stream ++ [])) a.bytes
          ∙ append_assoc opening (bytes_of between) (content_of item.stream ++ []) ∙ ap (λ b. opening ++ b) (sym (bytes_of-append between (l ∷ [])));
      still_open = λ n. open_by between l (closes item.stream) refl n (a.still_open live);
      closes_last = λ front m q. subst NoneCloses (snoc_front between front l m q) (a.still_open live);
      came = λ n. came-append c items start between (l ∷ []) (a.came (before_nopage taken s.pending (piece_of item) n)) (
        g.there (λ (i : Item). nexts c (last_id start between) i && is_id i.id k.own)
            (and_both (nexts c (last_id start between) item) (is_id item.id k.own) (ap (λ q. nexts c q item) a.place.to_is ∙ e) (own_id item.id k.own k.id_is)),
        tt,
      );
    }

-- a hold that has ended is where it was
ended_at : (c : Chain) (items : List Item) (opening start : List ℕ) (taken : List Piece) (between : List Link) (at : List ℕ) (s : State) (cause : EndCause)
    → At c items opening start taken between at s → At c items opening start taken between at (record s { ended = Some cause })
ended_at c items opening start taken between at s cause a = record { position_is = a.position_is; place = a.place; bytes = a.bytes; still_open = λ n. absurd_some n; closes_last = a.closes_last; came = a.came }

live_by : (e : Option EndCause) → not (is_some e) ≡ true → e ≡ None
live_by None p = refl
live_by (Some cause) p = absurd_true p

dead_by : {A : Type 0} (e : Option EndCause) → not (is_some e) ≡ false → e ≡ None → A
dead_by None p n = absurd_true (sym p)
dead_by (Some cause) p n = absurd_some n

dead_added : (s : State) (p : Piece) → is_live s ≡ false → added s p ≡ s
dead_added s p e = ap (λ b. cond b (cond (has_room s.pending p) (record s { pending = s.pending ++ p ∷ []; position = option_map (λ (at : List ℕ). moved at p) s.position; ended = end_by p; misses = 0 }) (record s { ended = Some Overflow })) s) e

-- nothing is added to a hold that ended
pub dead_run : (s : State) (ps : List Piece) → is_live s ≡ false → run s ps ≡ s
dead_run s [] e = refl
dead_run s (p ∷ ps) e = ap (λ t. run t ps) (dead_added s p e) ∙ dead_run s ps e

-- the item behind which a hold stands doesn't come next
behind : (c : Chain) (items : List Item) (opening start : List ℕ) (taken : List Piece) (between more : List Link) (l : Link) (at now : List ℕ) (s : State) (item : Item) (b : Bool)
    → AreDistinct c.root c.links → last_id start between ≡ at → nexts c at item ≡ true → At c items opening start taken (between ++ l ∷ more) now s → nexts c now item ≡ b → b ≡ false
behind c items opening start taken between more l at now s item false d from e a f = refl
behind c items opening start taken between more l at now s item true d from e a f =
    let there = ids_of item.id item.prev now (and_left (comes_after item now) (is_on c.channel item) f) in
    let here = ids_of item.id item.prev at (and_left (comes_after item at) (is_on c.channel item) e) in
    let same : at ≡ now = cc (here.2, there.2) in
    let up = a.place.before ++ between in
    let whole : c.links ≡ up ++ ((l ∷ more) ++ a.place.rest) =
    a.place.whole ∙ ap (λ ls. a.place.before ++ ls) (append_assoc between (l ∷ more) a.place.rest) ∙ sym (append_assoc a.place.before between ((l ∷ more) ++ a.place.rest)) in
    let last : last_id c.root up ≡ at = last_id-append c.root a.place.before between ∙ ap (λ p. last_id p between) a.place.from_is ∙ from in
    let far : last_id c.root (up ++ l ∷ more) ≡ now =
    ap (last_id c.root) (append_assoc a.place.before between (l ∷ more)) ∙ last_id-append c.root a.place.before (between ++ l ∷ more) ∙ ap (λ p. last_id p (between ++ l ∷ more)) a.place.from_is ∙ a.place.to_is in
    moved_on c.root up more a.place.rest l (subst (AreDistinct c.root) whole d) (last ∙ same ∙ sym far)

-- what is there after an item that comes next, by what comes of the rest
stepped : (c : Chain) (items : List Item) (opening start : List ℕ) (taken : List Piece) (from : List Item) (between : List Link) (at : List ℕ) (s : State) (item : Item) (next : List ℕ → List Item) (live room close : Bool)
    → AreDistinct c.root c.links → Good c items item → nexts c at item ≡ true → At c items opening start taken between at s → is_live s ≡ live → closes item.stream ≡ close
    → ((b : List Link) (p : List ℕ) (t : State) → At c items opening start taken b p t → Went c items opening start taken from b (run t (map piece_of (next p))))
    → Went c items opening start taken (item ∷ from) between
    (run (cond live (cond room (record s { pending = s.pending ++ piece_of item ∷ []; position = option_map (λ (q : List ℕ). moved q (piece_of item)) s.position; ended = end_by (piece_of item); misses = 0 }) (record s { ended = Some Overflow })) s)
    (map piece_of (cond close [] (next (id_or item.id at)))))
stepped c items opening start taken from between at s item next false room close d g e a l k rest =
    subst (Went c items opening start taken (item ∷ from) between) (sym (dead_run s (map piece_of (cond close [] (next (id_or item.id at)))) l))
    (stays c items opening start taken (item ∷ from) between at s a (λ n. dead_by s.ended l n))
stepped c items opening start taken from between at s item next true false close d g e a l k rest =
    let t : State = record s { ended = Some Overflow } in
    subst (Went c items opening start taken (item ∷ from) between) (sym (dead_run t (map piece_of (cond close [] (next (id_or item.id at)))) refl))
    (stays c items opening start taken (item ∷ from) between at t (ended_at c items opening start taken between at s Overflow a) (λ n. absurd_some n))
stepped c items opening start taken from between at s item next true true true d g e a l k rest =
    let link = linked_of c items item at g e in
    let now = next_at c items opening start taken between at s item link d g e (live_by s.ended l) a in
    record { more = (record { id = link.own; stream = item.stream }) ∷ []; at = link.own; now = now; none = λ n. absurd_some (sym (ap closed_by k) ∙ n) }
stepped c items opening start taken from between at s item next true true false d g e a l k rest =
    let link = linked_of c items item at g e in
    let x : Link = record { id = link.own; stream = item.stream } in
    let t : State = record s { pending = s.pending ++ piece_of item ∷ []; position = option_map (λ (q : List ℕ). moved q (piece_of item)) s.position; ended = end_by (piece_of item); misses = 0 } in
    let now = next_at c items opening start taken between at s item link d g e (live_by s.ended l) a in
    let went = subst (λ p. Went c items opening start taken from (between ++ x ∷ []) (run t (map piece_of (next p)))) (sym (ap (λ i. id_or i at) link.id_is)) (rest (between ++ x ∷ []) link.own t now) in
    let there = subst (λ ls. At c items opening start taken ls went.at (run t (map piece_of (next (id_or item.id at))))) (append_assoc between (x ∷ []) went.more) went.now in
    record {
      more = x ∷ went.more;
      at = went.at;
      now = there;
      none = λ n. (behind c items opening start taken between went.more x at went.at (run t (map piece_of (next (id_or item.id at)))) item (nexts c went.at item) d a.place.to_is e there refl, went.none n);
    }

absurd_found : {A : Type 0} {item : Item} → None ≡ Some item → A
absurd_found e = cc

-- what is found in a list
pub record Found (P : Item → Type 0) (q : Item → Bool) (item : Item) : Type 0 where
  pub good : P item
  pub test : q item ≡ true

mutual_found : (q : Item → Bool) (P : Item → Type 0) (x item : Item) (b : Bool) (o : Option Item) → q x ≡ b → cond b (Some x) o ≡ Some item → P x → (o ≡ Some item → Found P q item) → Found P q item
mutual_found q P x item true o t e p rest = let same : x ≡ item = cc e in record { good = subst P same p; test = ap q (sym same) ∙ t }
mutual_found q P x item false o t e p rest = rest e

find_good : (q : Item → Bool) (P : Item → Type 0) (items : List Item) (item : Item) → find q items ≡ Some item → AllByRecursion P items → Found P q item
find_good q P [] item e all = absurd_found e
find_good q P (x ∷ items) item e all = mutual_found q P x item (q x) (find q items) refl e all.0 (λ f. find_good q P items item f all.1)

not_found_by : (q : Item → Bool) (x : Item) (items : List Item) (b : Bool) → q x ≡ b → cond b (Some x) (find q items) ≡ None → (find q items ≡ None → AllByRecursion (λ (i : Item). q i ≡ false) items)
    → AllByRecursion (λ (i : Item). q i ≡ false) (x ∷ items)
not_found_by q x items true t e rest = absurd_found (sym e)
not_found_by q x items false t e rest = (t, rest e)

none_found : (q : Item → Bool) (items : List Item) → find q items ≡ None → AllByRecursion (λ (i : Item). q i ≡ false) items
none_found q [] e = tt
none_found q (x ∷ items) e = not_found_by q x items (q x) refl e (none_found q items)

left_by : (q : Item → Bool) (P : Item → Type 0) (x : Item) (items : List Item) (b : Bool) → P x → AllByRecursion P items → AllByRecursion P (without_first q items) → AllByRecursion P (cond b items (x ∷ without_first q items))
left_by q P x items true p all rest = all
left_by q P x items false p all rest = (p, rest)

left_good : (q : Item → Bool) (P : Item → Type 0) (items : List Item) → AllByRecursion P items → AllByRecursion P (without_first q items)
left_good q P [] all = tt
left_good q P (x ∷ items) all = left_by q P x items (q x) all.0 all.1 (left_good q P items all.1)

back_by : (q : Item → Bool) (P : Item → Type 0) (x item : Item) (items : List Item) (b : Bool) → cond b (Some x) (find q items) ≡ Some item → P item → AllByRecursion P (cond b items (x ∷ without_first q items))
    → (find q items ≡ Some item → AllByRecursion P (without_first q items) → AllByRecursion P items) → AllByRecursion P (x ∷ items)
back_by q P x item items true e p all rest = let same : x ≡ item = cc e in (subst P (sym same) p, all)
back_by q P x item items false e p all rest = (all.0, rest e all.1)

back : (q : Item → Bool) (P : Item → Type 0) (items : List Item) (item : Item) → find q items ≡ Some item → P item → AllByRecursion P (without_first q items) → AllByRecursion P items
back q P [] item e p all = tt
back q P (x ∷ items) item e p all = back_by q P x item items (q x) e p all (λ f r. back q P items item f p r)

shorter_by : (q : Item → Bool) (x item : Item) (items : List Item) (b : Bool) → cond b (Some x) (find q items) ≡ Some item → (find q items ≡ Some item → length items ≡ length (without_first q items) + 1)
    → length items + 1 ≡ length (cond b items (x ∷ without_first q items)) + 1
shorter_by q x item items true e rest = refl
shorter_by q x item items false e rest = let r = rest e in omega (arith, r)

pub shorter : (q : Item → Bool) (items : List Item) (item : Item) → find q items ≡ Some item → length items ≡ length (without_first q items) + 1
shorter q [] item e = absurd_found e
shorter q (x ∷ items) item e = let r = shorter_by q x item items (q x) e (shorter q items item) in omega (arith, r)

-- a run of what follows leaves nothing that goes on
went_by : (c : Chain) (items : List Item) (opening start : List ℕ) (taken : List Piece) (n : ℕ) (from : List Item) (between : List Link) (at : List ℕ) (s : State) (found : Option Item)
    → AreDistinct c.root c.links → AllByRecursion (Good c items) from → At c items opening start taken between at s → find (nexts c at) from ≡ found → length from ≤ suc n
    → ((f : List Item) (b : List Link) (p : List ℕ) (t : State) → AllByRecursion (Good c items) f → length f ≤ n → At c items opening start taken b p t
    → Went c items opening start taken f b (run t (map piece_of (follow_within n c.channel (λ i. closes i.stream) p f))))
    → Went c items opening start taken from between
    (run s (map piece_of (going_on (λ i. closes i.stream) at (λ (next : List ℕ). follow_within n c.channel (λ i. closes i.stream) next (without_first (nexts c at) from)) found)))
went_by c items opening start taken n from between at s None d good a e short rest = stays c items opening start taken from between at s a (λ _. none_found (nexts c at) from e)
went_by c items opening start taken n from between at s (Some item) d good a e short rest =
    let found = find_good (nexts c at) (Good c items) from item e good in
    let left = without_first (nexts c at) from in
    let few : length left ≤ n = let r = shorter (nexts c at) from item e in omega (arith, r, short) in
    let went = stepped c items opening start taken left between at s item (λ (next : List ℕ). follow_within n c.channel (λ i. closes i.stream) next left) (is_live s) (has_room s.pending (piece_of item)) (closes item.stream)
    d found.good found.test a refl refl (λ b p t there. rest left b p t (left_good (nexts c at) (Good c items) from good) few there) in
    record { more = went.more; at = went.at; now = went.now; none = λ n. let all = went.none n in back (nexts c at) (λ (i : Item). nexts c went.at i ≡ false) from item e all.0 all.1 }

none_short : (n : ℕ) → suc n ≤ 0 → ⊥
none_short n h = omega (arith, h)

went : (c : Chain) (items : List Item) (opening start : List ℕ) (taken : List Piece) (n : ℕ) (from : List Item) (between : List Link) (at : List ℕ) (s : State)
    → AreDistinct c.root c.links → AllByRecursion (Good c items) from → length from ≤ n → At c items opening start taken between at s
    → Went c items opening start taken from between (run s (map piece_of (follow_within n c.channel (λ i. closes i.stream) at from)))
went c items opening start taken zero [] between at s d good short a = stays c items opening start taken [] between at s a (λ n. tt)
went c items opening start taken zero (x ∷ from) between at s d good short a = absurd (none_short (length from) short)
went c items opening start taken (suc n) from between at s d good short a =
    went_by c items opening start taken n from between at s (find (nexts c at) from) d good a refl short (λ f b p t g few there. went c items opening start taken n f b p t d g few there)

-- what is said of a stream that the chain covers
pub record Stands (c : Chain) (items : List Item) (opening start : List ℕ) (taken : List Piece) (s : State) : Type 0 where
  pub between : List Link
  pub at : List ℕ
  pub now : At c items opening start taken between at s
  pub none : s.ended ≡ None → None-next c at (last_items items)

-- what is said of a reliable stream hold on the chain's channel that has its first position in the chain
abbrev pub OfStream : Chain → HoldSpec → (List ℕ → List ℕ → Type 0) → Type 0
OfStream chain (Stream opening channel prev link) says = channel ≡ chain.channel → IsIn chain prev → says opening prev
OfStream chain (Plain opening channels) says = Unit {0}
OfStream chain (Response channels prev deadline again) says = Unit {0}
OfStream chain Socket says = Unit {0}

abbrev pub Covered : Chain → List Item → HoldSpec → List Piece → State → Type 0
Covered c items spec taken s = OfStream c spec (λ opening start. Stands c items opening start taken s)

pub record Law (c : Chain) (items : List Item) (h : Held) : Type 0 where
  pub fits : Fits h.spec h.taken h.state
  pub law : AllByRecursion (CoversItem c) items → AllByRecursion (IsHonest c) h.pages → Covered c items h.spec h.taken h.state

or_right : (a b : Bool) → b ≡ true → (a || b) ≡ true
or_right true b e = refl
or_right false b e = e

good_all : (c : Chain) (items ys : List Item) → ((q : Item → Bool) → list_any q ys ≡ true → list_any q items ≡ true) → AllByRecursion (CoversItem c) ys → AllByRecursion (Good c items) ys
good_all c items [] lift all = tt
good_all c items (y ∷ ys) lift all =
    (record { covered = all.0; there = λ q e. lift q (or_true (q y) (list_any q ys) e) }, good_all c items ys (λ q e. lift q (or_right (q y) (list_any q ys) e)) all.1)

window_good : (c : Chain) (items : List Item) → AllByRecursion (CoversItem c) items → AllByRecursion (Good c items) (last_items items)
window_good c items all = drop_all (Good c items) (length items - 4096) items (good_all c items items (λ q e. e) all)

at_more : (c : Chain) (items : List Item) (opening start : List ℕ) (taken : List Piece) (between : List Link) (at : List ℕ) (s : State) (item : Item)
    → At c items opening start taken between at s → At c (items ++ item ∷ []) opening start taken between at s
at_more c items opening start taken between at s item a =
    record { position_is = a.position_is; place = a.place; bytes = a.bytes; still_open = a.still_open; closes_last = a.closes_last; came = λ n. came_more c items item start between (a.came n) }

-- a hold that stays, while one more item is published
stands_more : (c : Chain) (items : List Item) (opening start : List ℕ) (taken : List Piece) (between : List Link) (at : List ℕ) (s : State) (item : Item)
    → At c items opening start taken between at s → (s.ended ≡ None → nexts c at item ≡ false) → (s.ended ≡ None → None-next c at (last_items items)) → Stands c (items ++ item ∷ []) opening start taken s
stands_more c items opening start taken between at s item a not all = record {
  between = between;
  at = at;
  now = at_more c items opening start taken between at s item a;
  none = λ n. window_more (λ (i : Item). nexts c at i ≡ false) items item (not n) (all n);
}

settled_stands : (c : Chain) (items : List Item) (opening start : List ℕ) (taken : List Piece) (s : State) (window : List Item) (went_on : Bool) → Stands c items opening start taken s → Stands c items opening start taken (settled_if went_on window s)
settled_stands c items opening start taken s window true f = record {
  between = f.between;
  at = f.at;
  now = record { position_is = f.now.position_is; place = f.now.place; bytes = f.now.bytes; still_open = f.now.still_open; closes_last = f.now.closes_last; came = f.now.came };
  none = f.none;
}
settled_stands c items opening start taken s window false f = f

gapped_stands : (c : Chain) (items : List Item) (opening start : List ℕ) (taken : List Piece) (s : State) (item : Item) (f : Stands c items opening start taken s) (ask more : Bool)
    → s.ended ≡ None → nexts c f.at item ≡ false
    → Stands c (items ++ item ∷ []) opening start taken (cond ask (marked s) (record s { misses = s.misses + 1; ended = cond more (Some Gap) s.ended }))
gapped_stands c items opening start taken s item f true more live not =
    stands_more c items opening start taken f.between f.at (marked s) item
    (record { position_is = f.now.position_is; place = f.now.place; bytes = f.now.bytes; still_open = f.now.still_open; closes_last = f.now.closes_last; came = f.now.came }) (λ n. not) (λ n. f.none live)
gapped_stands c items opening start taken s item f false true live not =
    stands_more c items opening start taken f.between f.at (record s { misses = s.misses + 1; ended = Some Gap }) item
    (record { position_is = f.now.position_is; place = f.now.place; bytes = f.now.bytes; still_open = λ n. absurd_some n; closes_last = f.now.closes_last; came = f.now.came }) (λ n. not) (λ n. absurd_some n)
gapped_stands c items opening start taken s item f false false live not =
    stands_more c items opening start taken f.between f.at (record s { misses = s.misses + 1 }) item
    (record { position_is = f.now.position_is; place = f.now.place; bytes = f.now.bytes; still_open = f.now.still_open; closes_last = f.now.closes_last; came = f.now.came }) (λ n. not) (λ n. f.none live)

gap_not : {A : Type 0} (heard chained id : Bool) → (heard && (chained && false && not id)) ≡ true → A
gap_not true true true e = absurd_true e
gap_not true true false e = absurd_true e
gap_not true false id e = absurd_true e
gap_not false chained id e = absurd_true e

and_false : (a b : Bool) → b ≡ false → (a && b) ≡ false
and_false true b e = e
and_false false b e = refl

not_next : (heard chained prev id own on : Bool) → (heard && (chained && not prev && not id)) ≡ true → ((own && prev) && on) ≡ false
not_next heard chained true id own on e = gap_not heard chained id e
not_next heard chained false id true on e = refl
not_next heard chained false id false on e = refl

same_rest : (own at : List ℕ) (id : Option (List ℕ)) (close : Bool) (next : List ℕ → List Item) → id ≡ Some own
    → map piece_of (cond close [] (next (id_or id at))) ≡ cond close [] (option_map_or (λ (i : List ℕ). map piece_of (next i)) id [])
same_rest own at id true next e = refl
same_rest own at id false next e = rw e refl

le_self : (n : ℕ) → n ≤ n
le_self n = omega arith

-- an item that comes next, and then those of the window that follow it
chained_stands : (c : Chain) (items : List Item) (opening start : List ℕ) (taken : List Piece) (s : State) (item : Item) (f : Stands c items opening start taken s)
    → AreDistinct c.root c.links → AllByRecursion (CoversItem c) (items ++ item ∷ []) → s.ended ≡ None → nexts c f.at item ≡ true
    → Stands c (items ++ item ∷ []) opening start taken
    (run s (piece_of item ∷ cond (closes item.stream) [] (option_map_or (λ (id : List ℕ). map piece_of (follow c.channel (λ (i : Item). closes i.stream) id (last_items items))) item.id [])))
chained_stands c items opening start taken s item f d cov live next =
    let more = items ++ item ∷ [] in
    let w = last_items items in
    let after : List ℕ → List Item = λ (p : List ℕ). follow c.channel (λ (i : Item). closes i.stream) p w in
    let goods = good_all c more more (λ q e. e) cov in
    let good_w = drop_all (Good c more) (length items - 4096) items (all_front (Good c more) items item goods) in
    let good_i = all_last (Good c more) items item goods in
    let link = linked_of c more item f.at good_i next in
    let went_on = stepped c more opening start taken w f.between f.at s item after (is_live s) (has_room s.pending (piece_of item)) (closes item.stream) d good_i next
    (at_more c items opening start taken f.between f.at s item f.now) refl refl (λ b p t there. went c more opening start taken (length w) w b p t d good_w (le_self (length w)) there) in
    let same = same_rest link.own f.at item.id (closes item.stream) after link.id_is in
    subst (λ ps. Stands c more opening start taken (run (added s (piece_of item)) ps)) same (record {
      between = f.between ++ went_on.more;
      at = went_on.at;
      now = went_on.now;
      none = λ n. window_more (λ (i : Item). nexts c went_on.at i ≡ false) items item (went_on.none n).0 (went_on.none n).1;
    })

-- what an item on the channel brings a live hold that it leaves no gap for, by whether it comes next
run_stands : (c : Chain) (items : List Item) (opening start : List ℕ) (taken : List Piece) (s : State) (item : Item) (f : Stands c items opening start taken s) (heard next : Bool)
    → AreDistinct c.root c.links → AllByRecursion (CoversItem c) (items ++ item ∷ []) → s.ended ≡ None → is_heard (c.channel ∷ []) item ≡ heard → comes_after item f.at ≡ next
    → Stands c (items ++ item ∷ []) opening start taken
    (run s (cond heard (cond next (piece_of item ∷ cond (closes item.stream) [] (option_map_or (λ (id : List ℕ). map piece_of (follow c.channel (λ (i : Item). closes i.stream) id (last_items items))) item.id [])) []) []))
run_stands c items opening start taken s item f false next d cov live h n =
    stands_more c items opening start taken f.between f.at s item f.now (λ _. and_false (comes_after item f.at) (is_on c.channel item) (heard_on c.channel item false h)) f.none
run_stands c items opening start taken s item f true false d cov live h n =
    stands_more c items opening start taken f.between f.at s item f.now (λ _. ap (λ b. b && is_on c.channel item) n) f.none
run_stands c items opening start taken s item f true true d cov live h n = chained_stands c items opening start taken s item f d cov live (and_both (comes_after item f.at) (is_on c.channel item) n (heard_on c.channel item true h))

-- the same by the terms and the position of the hold
offered_by : (c : Chain) (items : List Item) (opening start : List ℕ) (link : Bool) (taken : List Piece) (s : State) (item : Item) (f : Stands c items opening start taken s) (terms : Terms) (gap : Bool)
    → AreDistinct c.root c.links → AllByRecursion (CoversItem c) (items ++ item ∷ []) → s.ended ≡ None → terms ≡ terms_of (Stream opening c.channel start link) → shows_gap (terms_of (Stream opening c.channel start link)) (Some f.at) item ≡ gap
    → Stands c (items ++ item ∷ []) opening start taken (cond gap (gapped s) (run s (run_for (terms_of (Stream opening c.channel start link)) (Some f.at) item (last_items items))))
offered_by c items opening start link taken s item f terms true d cov live t g =
    gapped_stands c items opening start taken s item f (can_ask s.terms) (nat_le 64 (s.misses + 1)) live
    (not_next (is_heard (c.channel ∷ []) item) (is_chained item) (is_id item.prev f.at) (is_id item.id f.at) (is_some item.id) (is_on c.channel item) g)
offered_by c items opening start link taken s item f terms false d cov live t g =
    run_stands c items opening start taken s item f (is_heard (c.channel ∷ []) item) (comes_after item f.at) d cov live refl refl

offered_stands : (c : Chain) (items : List Item) (opening start : List ℕ) (link : Bool) (taken : List Piece) (s : State) (item : Item)
    → AreDistinct c.root c.links → AllByRecursion (CoversItem c) (items ++ item ∷ []) → s.ended ≡ None → s.terms ≡ terms_of (Stream opening c.channel start link) → Stands c items opening start taken s
    → Stands c (items ++ item ∷ []) opening start taken (offered item (last_items items) s)
offered_stands c items opening start link taken s item d cov live t f =
    let terms = terms_of (Stream opening c.channel start link) in
    let w = last_items items in
    subst (λ (p : Option (List ℕ)). Stands c (items ++ item ∷ []) opening start taken (cond (shows_gap s.terms p item) (gapped s) (run s (run_for s.terms p item w)))) (sym f.now.position_is)
    (subst (λ (k : Terms). Stands c (items ++ item ∷ []) opening start taken (cond (shows_gap k (Some f.at) item) (gapped s) (run s (run_for k (Some f.at) item w)))) (sym t)
    (offered_by c items opening start link taken s item f s.terms (shows_gap terms (Some f.at) item) d cov live t refl))

served_stands : (c : Chain) (items : List Item) (opening start : List ℕ) (link : Bool) (taken : List Piece) (s : State) (item : Item) (live : Bool)
    → AreDistinct c.root c.links → AllByRecursion (CoversItem c) (items ++ item ∷ []) → is_live s ≡ live → s.terms ≡ terms_of (Stream opening c.channel start link) → Stands c items opening start taken s
    → Stands c (items ++ item ∷ []) opening start taken (cond live (let next = offered item (last_items items) s in settled_if (grew s next) (last_items (items ++ item ∷ [])) next) s)
served_stands c items opening start link taken s item false d cov l t f =
    stands_more c items opening start taken f.between f.at s item f.now (λ n. dead_by s.ended l n) f.none
served_stands c items opening start link taken s item true d cov l t f =
    settled_stands c (items ++ item ∷ []) opening start taken (offered item (last_items items) s) (last_items (items ++ item ∷ [])) (grew s (offered item (last_items items) s))
    (offered_stands c items opening start link taken s item d cov (live_by s.ended l) t f)

served_law : (c : Chain) (items : List Item) (spec : HoldSpec) (taken : List Piece) (s : State) (item : Item) → AreDistinct c.root c.links → HasTerms spec s.terms
    → (AllByRecursion (CoversItem c) items → Covered c items spec taken s) → AllByRecursion (CoversItem c) (items ++ item ∷ [])
    → Covered c (items ++ item ∷ []) spec taken (served item (last_items items) (last_items (items ++ item ∷ [])) s)
served_law c items (Stream opening channel prev link) taken s item d t f cov = λ same at.
    served_stands c items opening prev link taken s item (is_live s) d cov refl (t ∙ ap (λ (ch : List ℕ). terms_of (Stream opening ch prev link)) same) (f (all_front (CoversItem c) items item cov) same at)
served_law c items (Plain opening channels) taken s item d t f cov = tt
served_law c items (Response channels prev deadline again) taken s item d t f cov = tt
served_law c items Socket taken s item d t f cov = tt

-- a fresh stream has its opening, and what follows its first position
fresh_at : (c : Chain) (items : List Item) (opening prev : List ℕ) (link : Bool) → IsIn c prev → At c items opening prev [] [] prev (opened (Stream opening c.channel prev link))
fresh_at c items opening prev link at = record {
  position_is = refl;
  place = record { before = at.before; rest = at.rest; whole = at.whole; from_is = at.at; to_is = refl };
  bytes = refl;
  still_open = λ n. tt;
  closes_last = no_snoc;
  came = λ n. tt;
}

fresh_stands : (c : Chain) (items : List Item) (opening prev : List ℕ) (link : Bool) → AreDistinct c.root c.links → AllByRecursion (CoversItem c) items → IsIn c prev
    → Stands c items opening prev [] (begun_state (Stream opening c.channel prev link) (last_items items))
fresh_stands c items opening prev link d cov at =
    let w = last_items items in
    let g = went c items opening prev [] (length w) w [] prev (opened (Stream opening c.channel prev link)) d (window_good c items cov) (le_self (length w)) (fresh_at c items opening prev link at) in
    record {
      between = g.more;
      at = g.at;
      now = record { position_is = g.now.position_is; place = g.now.place; bytes = g.now.bytes; still_open = g.now.still_open; closes_last = g.now.closes_last; came = g.now.came };
      none = g.none;
    }

fresh_law : (c : Chain) (items : List Item) (spec : HoldSpec) → AreDistinct c.root c.links → AllByRecursion (CoversItem c) items → Covered c items spec [] (begun_state spec (last_items items))
fresh_law c items (Stream opening channel prev link) d cov = λ same at.
    subst (λ (ch : List ℕ). Stands c items opening prev [] (begun_state (Stream opening ch prev link) (last_items items))) (sym same) (fresh_stands c items opening prev link d cov at)
fresh_law c items (Plain opening channels) d cov = tt
fresh_law c items (Response channels prev deadline again) d cov = tt
fresh_law c items Socket d cov = tt

-- a Take leaves the log, the position and the end of a stream
rest_stands : (c : Chain) (items : List Item) (opening start : List ℕ) (taken : List Piece) (s : State) → Stands c items opening start taken s → Stands c items opening start (taken ++ batch s.pending) (rest_of s)
rest_stands c items opening start taken s f = record {
  between = f.between;
  at = f.at;
  now = record { position_is = f.now.position_is; place = f.now.place; bytes = ap text (taken_again taken s.pending) ∙ f.now.bytes; still_open = f.now.still_open; closes_last = f.now.closes_last; came = λ n. f.now.came (subst NoPage (taken_again taken s.pending) n) };
  none = f.none;
}

take_law : (c : Chain) (items : List Item) (spec : HoldSpec) (taken : List Piece) (now : ℕ) (s : State) → HasTerms spec s.terms → Covered c items spec taken s
    → let t = timed now s.terms.deadline s in Covered c items spec (taken ++ batch t.pending) (rest_of t)
take_law c items (Stream opening channel prev link) taken now s t f = λ same at.
    subst (λ (deadline : Option ℕ). let u = timed now deadline s in Stands c items opening prev (taken ++ batch u.pending) (rest_of u)) (sym (ap (λ (k : Terms). k.deadline) t))
    (rest_stands c items opening prev taken s (f same at))
take_law c items (Plain opening channels) taken now s t f = tt
take_law c items (Response channels prev deadline again) taken now s t f = tt
take_law c items Socket taken now s t f = tt

go_law : (c : Chain) (items : List Item) (spec : HoldSpec) (taken : List Piece) (s : State) (cause : EndCause) → Covered c items spec taken s → Covered c items spec taken (record s { ended = Some cause })
go_law c items (Stream opening channel prev link) taken s cause f = λ same at.
    let g = f same at in
    record { between = g.between; at = g.at; now = ended_at c items opening prev taken g.between g.at s cause g.now; none = λ n. absurd_some n }
go_law c items (Plain opening channels) taken s cause f = tt
go_law c items (Response channels prev deadline again) taken s cause f = tt
go_law c items Socket taken s cause f = tt

-- pages

none_front : (xs ys : List Link) → NoneCloses (xs ++ ys) → NoneCloses xs
none_front [] ys n = tt
none_front (x ∷ xs) ys n = (n.0, none_front xs ys n.1)

none_last : (links : List Link) → NoneCloses links → ClosesLast links
none_last links n = λ front l e. none_front front (l ∷ []) (subst NoneCloses e n)

last_by : (follows : Then) (links : List Link) → ClosesBy follows links → ClosesLast links
last_by HoldOn links n = none_last links n
last_by Next links n = none_last links n
last_by End links n = n

none_by : (follows : Then) (links : List Link) → is_end follows ≡ false → ClosesBy follows links → NoneCloses links
none_by HoldOn links e n = n
none_by Next links e n = n
none_by End links e n = absurd_true (sym e)

-- what closes at its end at most, behind what doesn't close
last_front : (x : Link) (links : List Link) (front : List Link) (l : Link) → closes x.stream ≡ false → ClosesLast links → x ∷ links ≡ front ++ l ∷ [] → NoneCloses front
last_front x links [] l quiet last e = tt
last_front x links (y ∷ front) l quiet last e =
    let heads : x ≡ y = cc e in
    let tails : links ≡ front ++ l ∷ [] = cc e in
    (ap (λ (z : Link). closes z.stream) (sym heads) ∙ quiet, last front l tails)

last_append : (xs ys : List Link) → NoneCloses xs → ClosesLast ys → ClosesLast (xs ++ ys)
last_append [] ys n last = last
last_append (x ∷ xs) ys n last = λ front l e. last_front x (xs ++ ys) front l n.0 (last_append xs ys n.1 last) e

abbrev piece_of_page : RecoveryPage → Piece
piece_of_page page = PagePiece page.from page.to page.bytes

-- the items of an honest page that begins at the position
page_at : (c : Chain) (items : List Item) (opening start : List ℕ) (taken : List Piece) (between : List Link) (at : List ℕ) (s : State) (page : RecoveryPage) (end : Option EndCause) (honest : IsHonest c page)
    → AreDistinct c.root c.links → page.from ≡ at → s.ended ≡ None → (end ≡ None → NoneCloses honest.between) → At c items opening start taken between at s
    → At c items opening start taken (between ++ honest.between) page.to
    (record s { pending = s.pending ++ piece_of_page page ∷ []; position = option_map (λ (p : List ℕ). moved p (piece_of_page page)) s.position; ended = end; misses = 0 })
page_at c items opening start taken between at s page end honest d from live open_still a =
    let before = a.place.before in
    let more = honest.between in
    let up = before ++ between in
    let p = piece_of_page page in
    let whole : c.links ≡ up ++ a.place.rest = a.place.whole ∙ sym (append_assoc before between a.place.rest) in
    let last : last_id c.root up ≡ at = last_id-append c.root before between ∙ ap (λ q. last_id q between) a.place.from_is ∙ a.place.to_is in
    let one = one_place c.root up a.place.rest honest.place.before (more ++ honest.place.rest) (subst (AreDistinct c.root) whole d) (sym whole ∙ honest.place.whole) (last ∙ sym (honest.place.from_is ∙ from)) in
    record {
      position_is = ap (option_map (λ (q : List ℕ). moved q p)) a.position_is;
      place = record {
        before = before;
        rest = honest.place.rest;
        whole = a.place.whole ∙ ap (λ r. before ++ (between ++ r)) one.1 ∙ ap (λ r. before ++ r) (sym (append_assoc between more honest.place.rest));
        from_is = a.place.from_is;
        to_is = last_id-append start between more ∙ ap (λ q. last_id q more) (a.place.to_is ∙ sym from) ∙ honest.place.to_is;
      };
      bytes = ap text (sym (append_assoc taken s.pending (p ∷ []))) ∙ text-append (taken ++ s.pending) (p ∷ [])
          ∙ ap (λ b. b ++ (page.bytes ++ [])) a.bytes
          ∙ append_assoc opening (bytes_of between) (page.bytes ++ [])
          ∙ ap (λ b. opening ++ (bytes_of between ++ b)) (append-nil page.bytes ∙ honest.bytes)
          ∙ ap (λ b. opening ++ b) (sym (bytes_of-append between more));
      still_open = λ n. none_closes-append between more (a.still_open live) (open_still n);
      closes_last = last_append between more (a.still_open live) (last_by page.follows more honest.closes);
      came = λ n. absurd_true (sym (last_nopage (taken ++ s.pending) p (subst NoPage (sym (append_assoc taken s.pending (p ∷ []))) n)));
    }

-- a page, and what follows it: by whether there is room for it, and whether it is the last
page_stands : (c : Chain) (items : List Item) (opening start : List ℕ) (taken : List Piece) (s : State) (page : RecoveryPage) (f : Stands c items opening start taken s) (live room last : Bool)
    → AreDistinct c.root c.links → AllByRecursion (CoversItem c) items → IsHonest c page → page.from ≡ f.at → s.ended ≡ None → is_live s ≡ live → is_end page.follows ≡ last
    → Stands c items opening start taken
    (closed_behind last (run (cond live (cond room (record s { pending = s.pending ++ piece_of_page page ∷ []; position = option_map (λ (p : List ℕ). moved p (piece_of_page page)) s.position; ended = end_by (piece_of_page page); misses = 0 }) (record s { ended = Some Overflow })) s)
    (cond last [] (followers StreamKind c.channel page.to (last_items items)))))
page_stands c items opening start taken s page f false room last d cov honest from n l e = dead_by s.ended l n
page_stands c items opening start taken s page f true false true d cov honest from n l e =
    record { between = f.between; at = f.at; now = ended_at c items opening start taken f.between f.at s Overflow f.now; none = λ m. absurd_some m }
page_stands c items opening start taken s page f true false false d cov honest from n l e =
    let t : State = record s { ended = Some Overflow } in
    subst (Stands c items opening start taken) (sym (dead_run t (followers StreamKind c.channel page.to (last_items items)) refl))
    (record { between = f.between; at = f.at; now = ended_at c items opening start taken f.between f.at s Overflow f.now; none = λ m. absurd_some m })
page_stands c items opening start taken s page f true true true d cov honest from n l e = record {
  between = f.between ++ honest.between;
  at = page.to;
  now = page_at c items opening start taken f.between f.at s page (Some Closed) honest d from n (λ m. absurd_some m) f.now;
  none = λ m. absurd_some m;
}
page_stands c items opening start taken s page f true true false d cov honest from n l e =
    let w = last_items items in
    let t : State = record s { pending = s.pending ++ piece_of_page page ∷ []; position = option_map (λ (p : List ℕ). moved p (piece_of_page page)) s.position; ended = end_by (piece_of_page page); misses = 0 } in
    let now = page_at c items opening start taken f.between f.at s page None honest d from n (λ m. none_by page.follows honest.between e honest.closes) f.now in
    let g = went c items opening start taken (length w) w (f.between ++ honest.between) page.to t d (window_good c items cov) (le_self (length w)) now in
    record { between = (f.between ++ honest.between) ++ g.more; at = g.at; now = g.now; none = g.none }

anew_stands : (c : Chain) (items : List Item) (opening start : List ℕ) (taken : List Piece) (s : State) (next missed_more : Bool) (window : List Item)
    → Stands c items opening start taken s → Stands c items opening start taken (marked_anew next missed_more window s)
anew_stands c items opening start taken s next missed_more window f = record {
  between = f.between;
  at = f.at;
  now = record { position_is = f.now.position_is; place = f.now.place; bytes = f.now.bytes; still_open = f.now.still_open; closes_last = f.now.closes_last; came = f.now.came };
  none = f.none;
}

honest_front : (c : Chain) (pages : List RecoveryPage) (page : RecoveryPage) → AllByRecursion (IsHonest c) (pages ++ page ∷ []) → AllByRecursion (IsHonest c) pages
honest_front c [] page all = tt
honest_front c (x ∷ pages) page all = (all.0, honest_front c pages page all.1)

honest_last : (c : Chain) (pages : List RecoveryPage) (page : RecoveryPage) → AllByRecursion (IsHonest c) (pages ++ page ∷ []) → IsHonest c page
honest_last c [] page all = all.0
honest_last c (x ∷ pages) page all = honest_last c pages page all.1

begins_there : (position : Option (List ℕ)) (at from : List ℕ) → position ≡ Some at → begins_at position from ≡ true → from ≡ at
begins_there position at from is e = same_text from at (sym (sym (ap (λ (p : Option (List ℕ)). begins_at p from) is) ∙ e))

-- a page of a stream that the chain covers, by whether it is refused and whether it begins at the position
stream_page : (c : Chain) (items : List Item) (opening start : List ℕ) (link : Bool) (taken : List Piece) (pages : List RecoveryPage) (page : RecoveryPage) (s : State) (may begins : Bool)
    → AreDistinct c.root c.links → AllByRecursion (CoversItem c) items → s.terms ≡ terms_of (Stream opening c.channel start link)
    → is_none (page_refusal s) ≡ may → begins_at s.position page.from ≡ begins
    → (AllByRecursion (IsHonest c) pages → Stands c items opening start taken s) → AllByRecursion (IsHonest c) (cond (may && begins) (pages ++ page ∷ []) pages)
    → Stands c items opening start taken (cond may (cond begins (with_page (last_items items) page s) (with_stale (last_items items) s)) s)
stream_page c items opening start link taken pages page s false begins d cov t m b f honest = f honest
stream_page c items opening start link taken pages page s true false d cov t m b f honest = anew_stands c items opening start taken s false true (last_items items) (f honest)
stream_page c items opening start link taken pages page s true true d cov t m b f honest =
    let w = last_items items in
    let g = f (honest_front c pages page honest) in
    let n = live_unrefused s.ended (is_stream s.terms.kind) s.terms.kind m in
    let paged = page_stands c items opening start taken s page g (is_live s) (has_room s.pending (piece_of_page page)) (is_end page.follows) d cov (honest_last c pages page honest)
    (begins_there s.position g.at page.from g.now.position_is b) n refl refl in
    anew_stands c items opening start taken (closed_behind (is_end page.follows) (run s (page_run s.terms page w))) (is_next page.follows) s.late w
    (subst (λ (k : Terms). Stands c items opening start taken (closed_behind (is_end page.follows) (run s (page_run k page w)))) (sym t) paged)

page_law : (c : Chain) (items : List Item) (spec : HoldSpec) (taken : List Piece) (pages : List RecoveryPage) (page : RecoveryPage) (s : State) → AreDistinct c.root c.links → HasTerms spec s.terms
    → AllByRecursion (CoversItem c) items → (AllByRecursion (IsHonest c) pages → Covered c items spec taken s)
    → AllByRecursion (IsHonest c) (cond (takes_page s page.from) (pages ++ page ∷ []) pages) → Covered c items spec taken (after_page (last_items items) page s)
page_law c items (Stream opening channel prev link) taken pages page s d t cov f honest = λ same at.
    stream_page c items opening prev link taken pages page s (is_none (page_refusal s)) (begins_at s.position page.from) d cov (t ∙ ap (λ (ch : List ℕ). terms_of (Stream opening ch prev link)) same) refl refl
    (λ all. f all same at) honest
page_law c items (Plain opening channels) taken pages page s d t cov f honest = tt
page_law c items (Response channels prev deadline again) taken pages page s d t cov f honest = tt
page_law c items Socket taken pages page s d t cov f honest = tt

fail_law : (c : Chain) (items : List Item) (spec : HoldSpec) (taken : List Piece) (s : State) (may : Bool) → Covered c items spec taken s → Covered c items spec taken (cond may (record s { ended = Some Unrecovered }) s)
fail_law c items spec taken s true f = go_law c items spec taken s Unrecovered f
fail_law c items spec taken s false f = f

-- a socket isn't a stream
change_law : (c : Chain) (items : List Item) (spec : HoldSpec) (taken : List Piece) (change : SocketChange) (s : State) → HasTerms spec s.terms → Covered c items spec taken s → Covered c items spec taken (after_change change s)
change_law c items (Stream opening channel prev link) taken change s t f = λ same at.
    subst (Stands c items opening prev taken) (sym (change_other change s (ap (λ (k : Terms). is_socket k.kind) t))) (f same at)
change_law c items (Plain opening channels) taken change s t f = tt
change_law c items (Response channels prev deadline again) taken change s t f = tt
change_law c items Socket taken change s t f = tt

law_kept : (c : Chain) → AreDistinct c.root c.links → IsKept (Law c)
law_kept c d = record {
  fresh = λ items who spec. record { fits = sound.fresh items who spec; law = λ cov honest. fresh_law c items spec d cov };
  serve = λ items item h f. record {
    fits = sound.serve items item h f.fits;
    law = λ cov honest. served_law c items h.spec h.taken h.state item d f.fits.terms_are (λ before. f.law before honest) cov;
  };
  take = λ items now h f. record { fits = sound.take items now h f.fits; law = λ cov honest. take_law c items h.spec h.taken now h.state f.fits.terms_are (f.law cov honest) };
  page = λ items page h f. record {
    fits = sound.page items page h f.fits;
    law = λ cov honest. page_law c items h.spec h.taken h.pages page h.state d f.fits.terms_are cov (λ all. f.law cov all) honest;
  };
  change = λ items change h f. record { fits = sound.change items change h f.fits; law = λ cov honest. change_law c items h.spec h.taken change h.state f.fits.terms_are (f.law cov honest) };
  fail = λ items h f. record { fits = sound.fail items h f.fits; law = λ cov honest. fail_law c items h.spec h.taken h.state (is_none (page_refusal h.state)) (f.law cov honest) };
  go = λ items h f. record { fits = sound.go items h f.fits; law = λ cov honest. go_law c items h.spec h.taken h.state (end_or_detached h.state.ended) (f.law cov honest) };
}

pub laws : (c : Chain) (entries : List Entry) → AreDistinct c.root c.links → AllByRecursion (Law c (published entries)) (held entries)
laws c entries d = in_each_history (Law c) entries (law_kept c d)

pub none_any : (q : Item → Bool) (xs : List Item) → AllByRecursion (λ (x : Item). q x ≡ false) xs → list_any q xs ≡ false
none_any q xs all = list_any_none q xs (All-from_recursion (λ (x : Item). q x ≡ false) xs all)

-- what the law says of a hold that a chain covers
pub covered_stands : (c : Chain) (entries : List Entry) (number : ℕ) (h : Held) → slice_get (held entries) number ≡ Some h → (v : Covers c entries number h)
    → Stands c (published entries) v.opening v.start h.taken h.state
covered_stands c entries number h there v =
    let law = all_at (Law c (published entries)) (held entries) number h (laws c entries v.distinct) there in
    let covered = law.law (recursion_from_All (CoversItem c) (published entries) v.published) (recursion_from_All (IsHonest c) h.pages v.pages) in
    subst (λ (spec : HoldSpec). Covered c (published entries) spec h.taken h.state) v.channel covered refl v.root

pub chain_law_holds : ChainLaw
chain_law_holds = λ entries c number h there v.
    let f = covered_stands c entries number h there v in
    record { between = f.between; at = f.at; position_is = f.now.position_is; place = f.now.place; bytes = f.now.bytes; still_open = f.now.still_open; closes_last = f.now.closes_last }

same_at : {at own : List ℕ} {position : Option (List ℕ)} → position ≡ Some own → position ≡ Some at → own ≡ at
same_at e f = cc (e, f)

pub window_law_holds : WindowLaw
window_law_holds = λ entries c number h there v live at is.
    let f = covered_stands c entries number h there v in
    subst (λ (p : List ℕ). list_any (goes_on_from c.channel p) (window entries) ≡ false) (same_at f.now.position_is is) (none_any (nexts c f.at) (window entries) (f.none live))
