-- A list without the items at used places, and what follows an id in it.
use Rattle.std.proofs.Common.{◌≡◌, ℕ, zero, suc, ◌+◌, ◌<◌, Bool, true, false, cond, not, ◌&&◌, ◌||◌, List, [], ◌∷◌, ◌++◌, length, map, eqb, slice_get, refl, sym, ap, ◌∙◌, arith, add-zero, Option, Some, None, is_none, is_some}
use Rattle.std.specs.List.{list_any, find}
use Rattle.std.specs.Option.{option_map_or}
use Rattle.std.proofs.Math.Bool.{or-false}
use Rattle.std.proofs.lemmas.Bool.{eq-eqb}
use Rattle.std.proofs.lemmas.Bool.Decides.{nat_tests}
use Rattle.std.proofs.lemmas.List.Folds.{list_any-append}
use Rattle.gp_plain.specs.declared.item.Item.{Item}
use Rattle.gp_plain.specs.declared.item.ResponsePart.{ResponsePart}
use Rattle.gp_plain.specs.declared.event.HoldKind.{HoldKind}
use Rattle.gp_plain.specs.declared.event.HoldKind.TheVariants.{Stream, Plain, Response, Socket}
use Rattle.gp_plain.specs.declared.reply.Piece.{Piece}
use Rattle.gp_plain.specs.declared.reply.EndCause.{EndCause}
use Rattle.gp_plain.specs.declared.reply.EndCause.TheVariants.{Overflow}
use Rattle.gp_plain.specs.Items.{goes_on_from, closes}
use Rattle.gp_plain.specs.Tails.{is_next_at, IsNextAfter, IsNoNextAfter}
use Rattle.gp_plain.specs.Follow.{without_first, going_on, follow_within, follow}
use Rattle.gp_plain.specs.Pieces.{id_or, end_by, closed_by, has_room}
use Rattle.gp_plain.specs.Holds.{piece_by, answer_or, ends_by}
use Rattle.gp_plain.specs.Growth.{Growth, with_piece, with_pieces}
use Rattle.gp_plain.proofs.ChainLaw.{shorter, absurd_true}

abbrev pub is_used : List ℕ → ℕ → Bool
is_used used place = list_any (λ (other : ℕ). eqb other place) used

-- the items, the first of which has a place, whose places aren't used
abbrev pub unused : ℕ → List ℕ → List Item → List Item
unused n used [] = []
unused n used (item ∷ items) = cond (is_used used n) (unused (n + 1) used items) (item ∷ unused (n + 1) used items)

abbrev stands : (Item → Bool) → ℕ → List ℕ → List Item → ℕ → Bool
stands q n used items k = not (is_used used (n + k)) && option_map_or q (slice_get items k) false

used_more : (used : List ℕ) (place k : ℕ) (b : Bool) → eqb place k ≡ b → is_used (used ++ place ∷ []) k ≡ (is_used used k || b)
used_more used place k b e = list_any-append (λ (other : ℕ). eqb other k) used (place ∷ []) ∙ ap (λ c. is_used used k || c) (or-false (eqb place k) ∙ e)

other : (m k : ℕ) → m < k → eqb m k ≡ false
other m k h = grind (arith, nat_tests)

other_back : (m k : ℕ) → m < k → eqb k m ≡ false
other_back m k h = grind (arith, nat_tests)

-- a place before those of the items is none of theirs
unused_same : (m n : ℕ) (used : List ℕ) (items : List Item) → m < n → unused n (used ++ m ∷ []) items ≡ unused n used items
unused_same m n used [] h = refl
unused_same m n used (item ∷ items) h =
    ap (λ rest. cond (is_used (used ++ m ∷ []) n) rest (item ∷ rest)) (unused_same m (n + 1) used items (omega (arith, h)))
    ∙ ap (λ b. cond b (unused (n + 1) used items) (item ∷ unused (n + 1) used items)) (used_more used m n false (other m n h) ∙ or-false (is_used used n))

-- the first that stands at a place
pub record First (q : Item → Bool) (n : ℕ) (used : List ℕ) (items : List Item) (k : ℕ) : Type 0 where
  pub item : Item
  pub there : slice_get items k ≡ Some item
  pub found : find q (unused n used items) ≡ Some item
  pub rest : without_first q (unused n used items) ≡ unused n (used ++ (n + k) ∷ []) items

absurd_false : {A : Type 0} → true ≡ false → A
absurd_false e = cc

or_true : (b : Bool) → (b || true) ≡ true
or_true true = refl
or_true false = refl

here_first : (q : Item → Bool) (n : ℕ) (used : List ℕ) (item : Item) (items : List Item) (u p : Bool) → is_used used n ≡ u → q item ≡ p → (not u && p) ≡ true → First q n used (item ∷ items) 0
here_first q n used item items true p eu ep h = absurd_true h
here_first q n used item items false false eu ep h = absurd_true h
here_first q n used item items false true eu ep h =
    let list : unused n used (item ∷ items) ≡ item ∷ unused (n + 1) used items = ap (λ b. cond b (unused (n + 1) used items) (item ∷ unused (n + 1) used items)) eu in
    let now : is_used (used ++ n ∷ []) n ≡ true = used_more used n n true (eq-eqb n n refl) ∙ or_true (is_used used n) in
    let rest : unused n (used ++ n ∷ []) (item ∷ items) ≡ unused (n + 1) used items =
    ap (λ b. cond b (unused (n + 1) (used ++ n ∷ []) items) (item ∷ unused (n + 1) (used ++ n ∷ []) items)) now ∙ unused_same n (n + 1) used items (omega arith) in
    record {
      item = item;
      there = refl;
      found = ap (find q) list ∙ ap (λ b. cond b (Some item) (find q (unused (n + 1) used items))) ep;
      rest = ap (without_first q) list ∙ ap (λ b. cond b (unused (n + 1) used items) (item ∷ without_first q (unused (n + 1) used items))) ep ∙ sym rest ∙ ap (λ m. unused n (used ++ m ∷ []) (item ∷ items)) (sym (add-zero n));
    }

not_yet : (u p : Bool) → (not u && p) ≡ false → u ≡ false → p ≡ false
not_yet true p e f = absurd_false f
not_yet false p e f = e

later_rest : (q : Item → Bool) (item : Item) (xs ys : List Item) (u : Bool) → (u ≡ false → q item ≡ false) → without_first q xs ≡ ys → without_first q (cond u xs (item ∷ xs)) ≡ cond u ys (item ∷ ys)
later_rest q item xs ys true clear e = e
later_rest q item xs ys false clear e = ap (λ b. cond b xs (item ∷ without_first q xs)) (clear refl) ∙ ap (λ zs. item ∷ zs) e

later_found : (q : Item → Bool) (item : Item) (xs : List Item) (found : Item) (u : Bool) → (u ≡ false → q item ≡ false) → find q xs ≡ Some found → find q (cond u xs (item ∷ xs)) ≡ Some found
later_found q item xs found true clear e = e
later_found q item xs found false clear e = ap (λ b. cond b (Some item) (find q xs)) (clear refl) ∙ e

later_first : (q : Item → Bool) (n k : ℕ) (used : List ℕ) (item : Item) (items : List Item) (u : Bool) → is_used used n ≡ u → (u ≡ false → q item ≡ false) → First q (n + 1) used items k → First q n used (item ∷ items) (suc k)
later_first q n k used item items u eu clear f =
    let at : (n + 1) + k ≡ n + suc k = omega arith in
    let still : is_used (used ++ (n + suc k) ∷ []) n ≡ u = used_more used (n + suc k) n false (other_back n (n + suc k) (omega arith)) ∙ or-false (is_used used n) ∙ eu in
    let rest = f.rest ∙ ap (λ m. unused (n + 1) (used ++ m ∷ []) items) at in
    record {
      item = f.item;
      there = f.there;
      found = ap (λ b. find q (cond b (unused (n + 1) used items) (item ∷ unused (n + 1) used items))) eu ∙ later_found q item (unused (n + 1) used items) f.item u clear f.found;
      rest = ap (λ b. without_first q (cond b (unused (n + 1) used items) (item ∷ unused (n + 1) used items))) eu ∙ later_rest q item (unused (n + 1) used items) (unused (n + 1) (used ++ (n + suc k) ∷ []) items) u clear rest
          ∙ ap (λ b. cond b (unused (n + 1) (used ++ (n + suc k) ∷ []) items) (item ∷ unused (n + 1) (used ++ (n + suc k) ∷ []) items)) (sym still);
    }

no_item : (b : Bool) → (not b && false) ≡ false
no_item true = refl
no_item false = refl

shift : (n j : ℕ) → (n + 1) + j ≡ n + suc j
shift n j = omega arith

first_at : (q : Item → Bool) (n k : ℕ) (used : List ℕ) (items : List Item) → stands q n used items k ≡ true → ((j : ℕ) → j < k → stands q n used items j ≡ false) → First q n used items k
first_at q n k used [] here least = absurd_true (sym (no_item (is_used used (n + k))) ∙ here)
first_at q n zero used (item ∷ items) here least = here_first q n used item items (is_used used n) (q item) refl refl (ap (λ m. not (is_used used m) && q item) (sym (add-zero n)) ∙ here)
first_at q n (suc k) used (item ∷ items) here least =
    let next : n + suc k ≡ (n + 1) + k = omega arith in
    later_first q n k used item items (is_used used n) refl (not_yet (is_used used n) (q item) (ap (λ m. not (is_used used m) && q item) (sym (add-zero n)) ∙ least 0 (omega arith)))
    (first_at q (n + 1) k used items (ap (λ m. not (is_used used m) && option_map_or q (slice_get items k) false) (sym next) ∙ here)
    (λ j h. ap (λ m. not (is_used used m) && option_map_or q (slice_get items j) false) (shift n j) ∙ least (suc j) (omega (arith, h))))

none_by : (q : Item → Bool) (item : Item) (xs : List Item) (u : Bool) → (u ≡ false → q item ≡ false) → find q xs ≡ None → find q (cond u xs (item ∷ xs)) ≡ None
none_by q item xs true clear e = e
none_by q item xs false clear e = ap (λ b. cond b (Some item) (find q xs)) (clear refl) ∙ e

none_at : (q : Item → Bool) (n : ℕ) (used : List ℕ) (items : List Item) → ((j : ℕ) → stands q n used items j ≡ false) → find q (unused n used items) ≡ None
none_at q n used [] none = refl
none_at q n used (item ∷ items) none =
    none_by q item (unused (n + 1) used items) (is_used used n) (not_yet (is_used used n) (q item) (ap (λ m. not (is_used used m) && q item) (sym (add-zero n)) ∙ none 0))
    (none_at q (n + 1) used items (λ j. ap (λ m. not (is_used used m) && option_map_or q (slice_get items j) false) (shift n j) ∙ none (suc j)))

zero_plus : (k : ℕ) → 0 + k ≡ k
zero_plus k = omega arith

stands_is : (channel id : List ℕ) (used : List ℕ) (items : List Item) (k : ℕ) → stands (goes_on_from channel id) 0 used items k ≡ is_next_at items channel id used k
stands_is channel id used items k = ap (λ m. not (is_used used m) && option_map_or (goes_on_from channel id) (slice_get items k) false) (zero_plus k)

pub next_first : (channel id used : List ℕ) (items : List Item) (place : ℕ) → IsNextAfter items channel id used place → First (goes_on_from channel id) 0 used items place
next_first channel id used items place next =
    first_at (goes_on_from channel id) 0 place used items (stands_is channel id used items place ∙ next.here) (λ j h. stands_is channel id used items j ∙ next.least j h)

no_next : (channel id used : List ℕ) (items : List Item) → IsNoNextAfter items channel id used → find (goes_on_from channel id) (unused 0 used items) ≡ None
no_next channel id used items none = none_at (goes_on_from channel id) 0 used items (λ j. stands_is channel id used items j ∙ none j)

-- what follows in a list, by its first item that comes next

follow_none_by : (channel : List ℕ) (ends : Item → Bool) (id : List ℕ) (n : ℕ) (items : List Item) → find (goes_on_from channel id) items ≡ None → follow_within n channel ends id items ≡ []
follow_none_by channel ends id zero items e = refl
follow_none_by channel ends id (suc n) items e = ap (going_on ends id (λ (next : List ℕ). follow_within n channel ends next (without_first (goes_on_from channel id) items))) e

pub follow_none : (channel id used : List ℕ) (ends : Item → Bool) (items : List Item) → IsNoNextAfter items channel id used → follow channel ends id (unused 0 used items) ≡ []
follow_none channel id used ends items none = follow_none_by channel ends id (length (unused 0 used items)) (unused 0 used items) (no_next channel id used items none)

one_more : (n : ℕ) → n + 1 ≡ suc n
one_more n = omega arith

follow_some_by : (channel : List ℕ) (ends : Item → Bool) (id : List ℕ) (n : ℕ) (items : List Item) (item : Item) → n ≡ length (without_first (goes_on_from channel id) items) + 1 → find (goes_on_from channel id) items ≡ Some item
    → follow_within n channel ends id items ≡ item ∷ cond (ends item) [] (follow channel ends (id_or item.id id) (without_first (goes_on_from channel id) items))
follow_some_by channel ends id n items item l e =
    let left = without_first (goes_on_from channel id) items in
    ap (λ m. follow_within m channel ends id items) (l ∙ one_more (length left))
    ∙ ap (going_on ends id (λ (next : List ℕ). follow_within (length left) channel ends next left)) e

pub follow_some : (channel id used : List ℕ) (ends : Item → Bool) (items : List Item) (place : ℕ) (f : First (goes_on_from channel id) 0 used items place)
    → follow channel ends id (unused 0 used items) ≡ f.item ∷ cond (ends f.item) [] (follow channel ends (id_or f.item.id id) (unused 0 (used ++ place ∷ []) items))
follow_some channel id used ends items place f =
    let q = goes_on_from channel id in
    follow_some_by channel ends id (length (unused 0 used items)) (unused 0 used items) f.item (shorter q (unused 0 used items) f.item f.found) f.found
    ∙ ap (λ rest. f.item ∷ cond (ends f.item) [] (follow channel ends (id_or f.item.id id) rest)) (f.rest ∙ ap (λ m. unused 0 (used ++ m ∷ []) items) (zero_plus place))

pub unused_all : (n : ℕ) (items : List Item) → unused n [] items ≡ items
unused_all n [] = refl
unused_all n (item ∷ items) = ap (λ rest. item ∷ rest) (unused_all (n + 1) items)

-- pieces behind an end

after_end : (pending : List Piece) (g : Growth) (p : Piece) → is_none g.ended ≡ false → with_piece pending g p ≡ g
after_end pending g p e = ap (λ b. cond b (cond (has_room (pending ++ g.pieces) p) (record g { pieces = g.pieces ++ p ∷ []; ended = end_by p }) (record g { ended = Some Overflow })) g) e

pub all_after_end : (pending : List Piece) (g : Growth) (ps : List Piece) → is_none g.ended ≡ false → with_pieces pending g ps ≡ g
all_after_end pending g [] e = refl
all_after_end pending g (p ∷ ps) e = ap (λ h. with_pieces pending h ps) (after_end pending g p e) ∙ all_after_end pending g ps e

-- the piece of an item that ends a hold brings an end, where there is room or not

close_ends : (b : Bool) → b ≡ true → is_none (closed_by b) ≡ false
close_ends true e = refl
close_ends false e = absurd_true e

answer_ends : (id : Option (List ℕ)) (part : Option ResponsePart) → is_some part ≡ true → is_none (end_by (answer_or id part)) ≡ false
answer_ends id (Some part) e = refl
answer_ends id None e = absurd_true e

piece_ends : (kind : HoldKind) (item : Item) → ends_by kind item ≡ true → is_none (end_by (piece_by kind item)) ≡ false
piece_ends Stream item e = close_ends (closes item.stream) e
piece_ends Plain item e = close_ends (closes item.stream) e
piece_ends Response item e = answer_ends item.id item.response e
piece_ends Socket item e = absurd_true e

added_ends : (pending : List Piece) (g : Growth) (p : Piece) (live room : Bool) → is_none g.ended ≡ live → is_none (end_by p) ≡ false
    → is_none (cond live (cond room (record g { pieces = g.pieces ++ p ∷ []; ended = end_by p }) (record g { ended = Some Overflow })) g).ended ≡ false
added_ends pending g p false room l e = l
added_ends pending g p true true l e = e
added_ends pending g p true false l e = refl

rest_by : (pending : List Piece) (g : Growth) (p : Piece) (kind : HoldKind) (rest : List Item) (ends : Bool) → (ends ≡ true → is_none (end_by p) ≡ false)
    → with_pieces pending (with_piece pending g p) (map (piece_by kind) (cond ends [] rest)) ≡ with_pieces pending (with_piece pending g p) (map (piece_by kind) rest)
rest_by pending g p kind rest true e = sym (all_after_end pending (with_piece pending g p) (map (piece_by kind) rest) (added_ends pending g p (is_none g.ended) (has_room (pending ++ g.pieces) p) refl (e refl)))
rest_by pending g p kind rest false e = refl

-- one step along what follows
pub followed : (kind : HoldKind) (pending : List Piece) (g : Growth) (channel id used : List ℕ) (items : List Item) (place : ℕ) (f : First (goes_on_from channel id) 0 used items place)
    → with_pieces pending g (map (piece_by kind) (follow channel (ends_by kind) id (unused 0 used items)))
    ≡ with_pieces pending (with_piece pending g (piece_by kind f.item)) (map (piece_by kind) (follow channel (ends_by kind) (id_or f.item.id id) (unused 0 (used ++ place ∷ []) items)))
followed kind pending g channel id used items place f =
    ap (λ (xs : List Item). with_pieces pending g (map (piece_by kind) xs)) (follow_some channel id used (ends_by kind) items place f)
    ∙ rest_by pending g (piece_by kind f.item) kind (follow channel (ends_by kind) (id_or f.item.id id) (unused 0 (used ++ place ∷ []) items)) (ends_by kind f.item) (piece_ends kind f.item)

same_item : {x y : Item} → Some x ≡ Some y → x ≡ y
same_item e = cc e

-- the same, once the piece and the place are added
pub follow_step : (kind : HoldKind) (pending : List Piece) (g next : Growth) (channel id used used' own : List ℕ) (items : List Item) (place : ℕ) (item : Item) (piece : Piece)
    → IsNextAfter items channel id used place → slice_get items place ≡ Some item → piece ≡ piece_by kind item → next ≡ with_piece pending g piece → used' ≡ used ++ place ∷ [] → item.id ≡ Some own
    → with_pieces pending next (map (piece_by kind) (follow channel (ends_by kind) own (unused 0 used' items)))
    ≡ with_pieces pending g (map (piece_by kind) (follow channel (ends_by kind) id (unused 0 used items)))
follow_step kind pending g next channel id used used' own items place item piece after there piece_is next_is used_is own_is =
    let f = next_first channel id used items place after in
    let same : f.item ≡ item = same_item (sym f.there ∙ there) in
    let at : id_or f.item.id id ≡ own = ap (λ (x : Item). id_or x.id id) same ∙ ap (λ o. id_or o id) own_is in
    let grown : with_piece pending g (piece_by kind f.item) ≡ next = ap (λ (x : Item). with_piece pending g (piece_by kind x)) same ∙ ap (with_piece pending g) (sym piece_is) ∙ sym next_is in
    sym (
    followed kind pending g channel id used items place f
    ∙ ap (λ h. with_pieces pending h (map (piece_by kind) (follow channel (ends_by kind) (id_or f.item.id id) (unused 0 (used ++ place ∷ []) items)))) grown
    ∙ ap (λ p. with_pieces pending next (map (piece_by kind) (follow channel (ends_by kind) p (unused 0 (used ++ place ∷ []) items)))) at
    ∙ ap (λ us. with_pieces pending next (map (piece_by kind) (follow channel (ends_by kind) own (unused 0 us items)))) (sym used_is)
    )

-- where nothing more follows
pub follow_stops : (kind : HoldKind) (pending : List Piece) (g : Growth) (channel id used : List ℕ) (items : List Item) → IsNoNextAfter items channel id used
    → g ≡ with_pieces pending g (map (piece_by kind) (follow channel (ends_by kind) id (unused 0 used items)))
follow_stops kind pending g channel id used items none = sym (ap (λ (xs : List Item). with_pieces pending g (map (piece_by kind) xs)) (follow_none channel id used (ends_by kind) items none))

pub some_not_none : (o : Option EndCause) → is_some o ≡ true → is_none o ≡ false
some_not_none (Some cause) e = refl
some_not_none None e = absurd_true e
