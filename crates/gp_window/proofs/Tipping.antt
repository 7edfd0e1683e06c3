-- Marks of the items from which nothing goes on, as items come and go.
use Rattle.std.proofs.Common.{◌≡◌, ◌≢◌, ℕ, ◌<◌, ◌⊎◌, inl, inr, Bool, true, false, cond, eqb, not, ◌&&◌, ◌||◌, List, [], ◌∷◌, ◌++◌, length, get_or, set, slice_get, refl, sym, ap, ◌∙◌, arith, length-set, Option, Some, None, is_some}
use Rattle.std.specs.List.{list_any}
use Rattle.std.specs.Option.{option_map_or}
use Rattle.std.specs.Cmp.Lexicographic.{same_text}
use Rattle.std.proofs.Math.Bool.{or-false}
use Rattle.std.proofs.lemmas.Bool.{cases_eq, eq-eqb}
use Rattle.std.proofs.lemmas.List.{get_or-set_other}
use Rattle.std.proofs.lemmas.List.Folds.{list_any-append}
use Rattle.std.proofs.lemmas.Option.{slice_get_within, slice_get-get_or}
use Rattle.gp_plain.specs.declared.item.Item.{Item}
use Rattle.gp_plain.specs.Items.{is_chained, is_id, is_on, goes_on_from}
use Rattle.gp_plain.specs.Names.{same_id}
use Rattle.gp_plain.proofs.ChainLaw.{same_ids}
use Rattle.gp_window.specs.Buckets.{channel_bucket}
use Rattle.gp_window.specs.Searches.{has_id, is_at}
use Rattle.gp_plain.specs.Tails.{is_tip_of}
use Rattle.gp_window.specs.Tips.{IsMarked, IsMarkedOf, goes_from, is_open}
use Rattle.gp_window.specs.Marks.{count_of}
use Rattle.gp_window.proofs.Marking.{no_count, only_one}
use Rattle.gp_window.proofs.Walking.{absurd_true, and_left, and_right, at_item, at_within, none_at_all, not_true}

absurd_some : {A : Type 0} {x : List ℕ} → None ≡ Some x → A
absurd_some e = cc

-- some item goes on from the id, where there is one
abbrev cont : List Item → List ℕ → Option (List ℕ) → Bool
cont items channel id = option_map_or (λ (own : List ℕ). list_any (goes_on_from channel own) items) id false

-- this item does
abbrev back : Item → List ℕ → Option (List ℕ) → Bool
back item channel id = option_map_or (λ (own : List ℕ). goes_on_from channel own item) id false

cont_more : (items : List Item) (item : Item) (channel : List ℕ) (id : Option (List ℕ)) → cont (items ++ item ∷ []) channel id ≡ (cont items channel id || back item channel id)
cont_more items item channel None = refl
cont_more items item channel (Some own) = list_any-append (goes_on_from channel own) items (item ∷ []) ∙ ap (λ b. list_any (goes_on_from channel own) items || b) (or-false (goes_on_from channel own item))

-- an item goes on from one of the channel that has its previous id

back_of : (own prev : Option (List ℕ)) (channel other from : List ℕ) (id : Option (List ℕ)) → cond (is_some own) prev None ≡ Some from → same_id other channel ≡ true → is_id id from ≡ true
    → option_map_or (λ (o : List ℕ). (is_some own && is_id prev o) && same_id channel other) id false ≡ true
back_of None prev channel other from id e c h = absurd_some e
back_of (Some i) None channel other from id e c h = absurd_some e
back_of (Some i) (Some p) channel other from None e c h = absurd_true h
back_of (Some i) (Some p) channel other from (Some o) e c h =
    let prev : p ≡ from = cc e in
    let same : o ≡ from = same_text o from (sym h) in
    let on : other ≡ channel = same_text other channel (sym c) in
    ap (λ b. b && same_id channel other) (ap (same_id p) (same ∙ sym prev) ∙ same_ids p) ∙ ap (same_id channel) on ∙ same_ids channel

-- what is open in the longer list is open in the shorter one

less_open : (chained a b : Bool) → (chained && not (a || b)) ≡ true → (chained && not a) ≡ true
less_open true true b e = absurd_true e
less_open true false b e = refl
less_open false a b e = absurd_true e

still_open : (items : List Item) (x y : Item) → is_open (items ++ x ∷ []) y ≡ true → is_open items y ≡ true
still_open items x y e = less_open (is_chained y) (cont items y.channel y.id) (back x y.channel y.id) (ap (λ b. is_chained y && not b) (sym (cont_more items x y.channel y.id)) ∙ e)

not_open : (chained a b : Bool) → b ≡ true → (chained && not (a || b)) ≡ true → ⊥
not_open true true b e h = absurd_true h
not_open true false true e h = absurd_true h
not_open true false false e h = absurd_true e
not_open false a b e h = absurd_true h

closed_by : (items : List Item) (x y : Item) (from : List ℕ) → goes_from x ≡ Some from → has_id x.channel from y ≡ true → is_open (items ++ x ∷ []) y ≡ true → ⊥
closed_by items x y from e h stays =
    not_open (is_chained y) (cont items y.channel y.id) (back x y.channel y.id) (back_of x.id x.prev x.channel y.channel from y.id e (and_left (is_on x.channel y) (is_id y.id from) h) (and_right (is_on x.channel y) (is_id y.id from) h))
    (ap (λ b. is_chained y && not b) (sym (cont_more items x y.channel y.id)) ∙ stays)

close_by : (items : List Item) (x y : Item) (marks : List ℕ) (place k : ℕ) (from : List ℕ) → (k ≡ place) ⊎ (k ≢ place) → goes_from x ≡ Some from → is_at (has_id x.channel from) items place ≡ true → IsMarked items items marks → slice_get items k ≡ Some y → is_open (items ++ x ∷ []) y ≡ true → get_or (set marks place 16384) k 0 ≡ channel_bucket y.channel
close_by items x y marks place k from (inl same) e h t there stays =
    absurd (closed_by items x y from e (sym (at_item (has_id x.channel from) items place y (ap (slice_get items) (sym same) ∙ there)) ∙ h) stays)
close_by items x y marks place k from (inr other) e h t there stays = get_or-set_other marks place k 16384 0 other ∙ t.mark k y there (still_open items x y stays)

pub closed : (items : List Item) (x : Item) (marks : List ℕ) (place : ℕ) (from : List ℕ) → goes_from x ≡ Some from → is_at (has_id x.channel from) items place ≡ true → IsMarked items items marks → IsMarked (items ++ x ∷ []) items (set marks place 16384)
closed items x marks place from e h t = record {
  same = length-set marks place 16384 ∙ t.same;
  mark = λ k y there stays. close_by items x y marks place k from (cases_eq k place) e h t there stays;
}

-- what shows that there is more than an id is open, and has the mark of its channel

-- an item that isn't on the channel, or that has the id, is none

pub not_on : (items : List Item) (channel id : List ℕ) (y : Item) → is_on channel y ≡ false → is_tip_of items channel id y ≡ false
not_on items channel id y e = ap (λ b. (b && is_chained y && not (is_id y.id id)) && not (cont items channel y.id)) e

and_false : (a : Bool) → (a && false) ≡ false
and_false true = refl
and_false false = refl

pub not_other : (items : List Item) (channel id : List ℕ) (y : Item) → is_id y.id id ≡ true → is_tip_of items channel id y ≡ false
not_other items channel id y e =
    ap (λ b. (is_on channel y && is_chained y && not b) && not (cont items channel y.id)) e
    ∙ ap (λ b. b && not (cont items channel y.id)) (and_false (is_on channel y && is_chained y))

and_true : (a : Bool) → (a && true) ≡ a
and_true true = refl
and_true false = refl

pub open_is_tip : (items : List Item) (channel id : List ℕ) (y : Item) → is_on channel y ≡ true → is_id y.id id ≡ false → is_open items y ≡ is_tip_of items channel id y
open_is_tip items channel id y on other =
    ap (λ ch. is_chained y && not (cont items ch y.id)) (same_text y.channel channel (sym on))
    ∙ ap (λ b. b && not (cont items channel y.id)) (sym (and_true (is_chained y)))
    ∙ ap (λ b. (is_chained y && not b) && not (cont items channel y.id)) (sym other)
    ∙ ap (λ b. (b && is_chained y && not (is_id y.id id)) && not (cont items channel y.id)) (sym on)

tip_by : (items : List Item) (channel id : List ℕ) (y : Item) (on other : Bool) → is_on channel y ≡ on → is_id y.id id ≡ other → is_tip_of items channel id y ≡ true → (is_open items y ≡ true) × (is_on channel y ≡ true) × (is_id y.id id ≡ false)
tip_by items channel id y false other c d e = absurd_true (sym (not_on items channel id y c) ∙ e)
tip_by items channel id y true true c d e = absurd_true (sym (not_other items channel id y d) ∙ e)
tip_by items channel id y true false c d e = (open_is_tip items channel id y c d ∙ e, c, d)

pub tip : (items : List Item) (channel id : List ℕ) (y : Item) → is_tip_of items channel id y ≡ true → (is_open items y ≡ true) × (is_on channel y ≡ true) × (is_id y.id id ≡ false)
tip items channel id y e = tip_by items channel id y (is_on channel y) (is_id y.id id) refl refl e

pub tip_mark : (items : List Item) (marks : List ℕ) (channel id : List ℕ) (place : ℕ) (y : Item) → IsMarked items items marks → slice_get items place ≡ Some y → is_tip_of items channel id y ≡ true → get_or marks place 0 ≡ channel_bucket channel
tip_mark items marks channel id place y t there e = let h = tip items channel id y e in t.mark place y there h.0 ∙ ap channel_bucket (same_text y.channel channel (sym h.1))

-- a place without the mark of the channel
pub not_marked : (items : List Item) (marks : List ℕ) (channel id : List ℕ) (bucket place : ℕ) (y : Item) → IsMarked items items marks → bucket ≡ channel_bucket channel → slice_get items place ≡ Some y → option_map_or (λ (mark : ℕ). eqb mark bucket) (slice_get marks place) false ≡ false
    → is_tip_of items channel id y ≡ false
not_marked items marks channel id bucket place y t e there none =
    not_true (is_tip_of items channel id y) (λ h. absurd_true (sym none ∙ mark_test marks place bucket (omega (arith, t.same, slice_get_within items place y there)) (tip_mark items marks channel id place y t there h ∙ sym e)))
  where
    mark_test : (marks : List ℕ) (place bucket : ℕ) → place < length marks → get_or marks place 0 ≡ bucket → option_map_or (λ (mark : ℕ). eqb mark bucket) (slice_get marks place) false ≡ true
    mark_test marks place bucket h e = ap (λ (o : Option ℕ). option_map_or (λ (mark : ℕ). eqb mark bucket) o false) (slice_get-get_or marks place 0 h) ∙ eq-eqb (get_or marks place 0) bucket e

-- where no place has the mark, or the one that has it is that of the id, nothing is ahead

none_from : (is : Item → Bool) (o : Option Item) → ((y : Item) → o ≡ Some y → is y ≡ false) → option_map_or is o false ≡ false
none_from is None f = refl
none_from is (Some y) f = f y refl

pub none_marked : (items : List Item) (marks : List ℕ) (channel id : List ℕ) (bucket : ℕ) → IsMarked items items marks → bucket ≡ channel_bucket channel → count_of bucket marks ≡ 0 → list_any (is_tip_of items channel id) items ≡ false
none_marked items marks channel id bucket t e none =
    none_at_all (is_tip_of items channel id) items (λ j h. none_from (is_tip_of items channel id) (slice_get items j) (λ y there. not_true (is_tip_of items channel id y) (λ yes. no_count marks bucket j (omega (arith, t.same, slice_get_within items j y there)) (tip_mark items marks channel id j y t there yes ∙ sym e) none)))

has_at : (channel id : List ℕ) (items : List Item) (k : ℕ) (y : Item) → slice_get items k ≡ Some y → is_at (has_id channel id) items k ≡ true → is_id y.id id ≡ true
has_at channel id items k y there h = and_right (is_on channel y) (is_id y.id id) (sym (at_item (has_id channel id) items k y there) ∙ h)

pub own_marked : (items : List Item) (marks : List ℕ) (channel id : List ℕ) (bucket place : ℕ) → IsMarked items items marks → bucket ≡ channel_bucket channel → count_of bucket marks ≡ 1 → IsMarkedOf items marks channel id bucket place → list_any (is_tip_of items channel id) items ≡ false
own_marked items marks channel id bucket place t e one own =
    let within : place < length marks = omega (arith, t.same, at_within (has_id channel id) items place own.here) in
    none_at_all (is_tip_of items channel id) items (λ j h. none_from (is_tip_of items channel id) (slice_get items j)
    (λ y there. not_true (is_tip_of items channel id y) (λ yes.
    let same : j ≡ place = only_one marks bucket place j within (omega (arith, t.same, slice_get_within items j y there)) own.mark (tip_mark items marks channel id j y t there yes ∙ sym e) one in
    absurd_true (sym (tip items channel id y yes).2 ∙ has_at channel id items place y (ap (slice_get items) (sym same) ∙ there) own.here))))
