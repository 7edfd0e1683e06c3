-- Walks along a chain, from newer places to older ones.
use Rattle.std.proofs.Common.{◌≡◌, ◌≢◌, ℕ, zero, suc, ◌+◌, ◌<◌, ◌≤◌, ◌⊎◌, inl, inr, Bool, true, false, cond, not, ◌&&◌, ◌||◌, eqb, List, [], ◌∷◌, length, length-set, map, get_or, set, slice_get, refl, sym, ap, ◌∙◌, subst, arith, MatchOption, Option, Some, None, is_some}
use Rattle.std.specs.List.{list_any}
use Rattle.std.specs.Option.{option_map_or}
use Rattle.std.specs.Cmp.Lexicographic.{same_text}
use Rattle.std.proofs.lemmas.Bool.{cases_lt, cases_eq}
use Rattle.std.proofs.lemmas.List.{get_or-set_same, get_or-set_other}
use Rattle.std.proofs.lemmas.List.Folds.{list_any_none}
use Rattle.gp_plain.specs.declared.item.Item.{Item}
use Rattle.gp_plain.specs.Items.{is_id, comes_after, is_on, goes_on_from}
use Rattle.gp_plain.specs.Names.{same_id}
use Rattle.gp_plain.specs.Tails.{is_next_at, IsNextAfter, IsNoNextAfter}
use Rattle.gp_window.specs.Buckets.{bucket, bucket_or, id_bucket, prev_bucket}
use Rattle.gp_window.specs.Chains.{IsNewest, HasNone}
use Rattle.gp_window.specs.Searches.{has_id, is_at, is_next_of}

-- all places from here on were looked at
abbrev pub behind : Option ℕ → ℕ
behind None = 0
behind (Some place) = place + 1

-- the walk stands at a place of the bucket, or it has ended
pub record IsAlong (keys : List ℕ) (b : ℕ) (at : Option ℕ) : Type 0 where
  pub within : (place : ℕ) → at ≡ Some place → place < length keys
  pub here : (place : ℕ) → at ≡ Some place → get_or keys place 0 ≡ b

-- what is looked for stands only at places of the bucket
pub record IsIn (is : ℕ → Bool) (keys : List ℕ) (b : ℕ) : Type 0 where
  pub within : (j : ℕ) → is j ≡ true → j < length keys
  pub here : (j : ℕ) → is j ≡ true → get_or keys j 0 ≡ b

-- tests that have answered

pub not_true : (b : Bool) → (b ≡ true → ⊥) → b ≡ false
not_true true f = absurd (f refl)
not_true false f = refl

pub absurd_true : {A : Type 0} → false ≡ true → A
absurd_true e = cc

pub and_right : (a b : Bool) → (a && b) ≡ true → b ≡ true
and_right true b e = e
and_right false b e = absurd_true e

pub and_left : (a b : Bool) → (a && b) ≡ true → a ≡ true
and_left true b e = refl
and_left false b e = absurd_true e

-- between a place and the next older one of the bucket nothing stands
pub skipped : (is : ℕ → Bool) (keys : List ℕ) (b place : ℕ) (next : Option ℕ) → IsIn is keys b → MatchOption next (HasNone keys b place) (IsNewest keys b place) → (j : ℕ) → behind next ≤ j → j < place → is j ≡ false
skipped is keys b place None f m j h less = not_true (is j) (λ e. m.none j less (f.here j e))
skipped is keys b place (Some next) f m j h less = not_true (is j) (λ e. m.between j (omega (arith, h)) less (f.here j e))

-- a walk begins
pub begun : (keys : List ℕ) (b : ℕ) (at : Option ℕ) → MatchOption at (HasNone keys b (length keys)) (IsNewest keys b (length keys)) → IsAlong keys b at
begun keys b None m = record { within = λ place e. cc; here = λ place e. cc }
begun keys b (Some at) m = record { within = λ place e. let same : at ≡ place = cc e in omega (arith, same, m.within); here = λ place e. let same : at ≡ place = cc e in ap (λ k. get_or keys k 0) (sym same) ∙ m.here }

pub begun_none : (is : ℕ → Bool) (keys : List ℕ) (b : ℕ) (at : Option ℕ) → IsIn is keys b → MatchOption at (HasNone keys b (length keys)) (IsNewest keys b (length keys)) → (j : ℕ) → behind at ≤ j → is j ≡ false
begun_none is keys b at f m j h = not_true (is j) (λ e. absurd_true (sym (skipped is keys b (length keys) at f m j h (f.within j e)) ∙ e))

-- a walk goes on
pub gone_on : (keys : List ℕ) (b place : ℕ) (next : Option ℕ) → place < length keys → MatchOption next (HasNone keys b place) (IsNewest keys b place) → IsAlong keys b next
gone_on keys b place None h m = record { within = λ k e. cc; here = λ k e. cc }
gone_on keys b place (Some next) h m = record { within = λ k e. let same : next ≡ k = cc e in omega (arith, same, m.within, h); here = λ k e. let same : next ≡ k = cc e in ap (λ i. get_or keys i 0) (sym same) ∙ m.here }

pub shorter : (keys : List ℕ) (b place : ℕ) (next : Option ℕ) → MatchOption next (HasNone keys b place) (IsNewest keys b place) → behind next < place + 1
shorter keys b place None m = omega arith
shorter keys b place (Some next) m = omega (arith, m.within)

none_by : (is : ℕ → Bool) (keys : List ℕ) (b place : ℕ) (next : Option ℕ) (j : ℕ) → (j < place) ⊎ (place ≤ j) → (j ≡ place) ⊎ (place + 1 ≤ j) ⊎ (j < place) → IsIn is keys b → MatchOption next (HasNone keys b place) (IsNewest keys b place) → is place ≡ false → ((k : ℕ) → place + 1 ≤ k → is k ≡ false) → behind next ≤ j → is j ≡ false
none_by is keys b place next j (inl less) c f m here later h = skipped is keys b place next f m j h less
none_by is keys b place next j (inr more) (inl same) f m here later h = ap is same ∙ here
none_by is keys b place next j (inr more) (inr (inl above)) f m here later h = later j above
none_by is keys b place next j (inr more) (inr (inr less)) f m here later h = skipped is keys b place next f m j h less

side_by : (j place : ℕ) → (j < place) ⊎ (place ≤ j) → (j < place + 1) ⊎ (place + 1 ≤ j) → (j ≡ place) ⊎ (place + 1 ≤ j) ⊎ (j < place)
side_by j place (inl less) c = inr (inr less)
side_by j place (inr more) (inl near) = inl (omega (arith, more, near))
side_by j place (inr more) (inr above) = inr (inl above)

-- nothing stands from the next place on either
pub none_on : (is : ℕ → Bool) (keys : List ℕ) (b place : ℕ) (next : Option ℕ) → IsIn is keys b → MatchOption next (HasNone keys b place) (IsNewest keys b place) → is place ≡ false → ((k : ℕ) → place + 1 ≤ k → is k ≡ false) → (j : ℕ) → behind next ≤ j → is j ≡ false
none_on is keys b place next f m here later j h = none_by is keys b place next j (cases_lt j place) (side_by j place (cases_lt j place) (cases_lt j (place + 1))) f m here later h

-- items that share a bucket

pub keyed : (key : Item → ℕ) (is : Item → Bool) (items : List Item) (b : ℕ) → ((x : Item) → is x ≡ true → key x ≡ b) → (j : ℕ) → is_at is items j ≡ true → get_or (map key items) j 0 ≡ b
keyed key is [] b f j e = absurd_true e
keyed key is (x ∷ items) b f zero e = f x e
keyed key is (x ∷ items) b f (suc j) e = keyed key is items b f j e

pub at_within : (is : Item → Bool) (items : List Item) (j : ℕ) → is_at is items j ≡ true → j < length items
at_within is [] j e = absurd_true e
at_within is (x ∷ items) zero e = omega arith
at_within is (x ∷ items) (suc j) e = let less = at_within is items j e in omega (arith, less)

pub long_map : (key : Item → ℕ) (items : List Item) → length (map key items) ≡ length items
long_map key [] = refl
long_map key (x ∷ items) = ap suc (long_map key items)

pub is_in : (key : Item → ℕ) (is : Item → Bool) (items : List Item) (b : ℕ) → ((x : Item) → is x ≡ true → key x ≡ b) → IsIn (is_at is items) (map key items) b
is_in key is items b f = record {
  within = λ j e. omega (arith, at_within is items j e, long_map key items);
  here = λ j e. keyed key is items b f j e;
}

same_bucket : (own : Option (List ℕ)) (own_channel channel id : List ℕ) → same_id own_channel channel ≡ true → is_id own id ≡ true → bucket_or own_channel own ≡ bucket channel id
same_bucket None own_channel channel id c e = absurd_true e
same_bucket (Some own) own_channel channel id c e = ap (λ ch. bucket ch own) (same_text own_channel channel (sym c)) ∙ ap (bucket channel) (same_text own id (sym e))

pub has_id_in : (channel id : List ℕ) (items : List Item) → IsIn (is_at (has_id channel id) items) (map id_bucket items) (bucket channel id)
has_id_in channel id items = is_in id_bucket (has_id channel id) items (bucket channel id) (λ x e. same_bucket x.id x.channel channel id (and_left (is_on channel x) (is_id x.id id) e) (and_right (is_on channel x) (is_id x.id id) e))

pub goes_on_in : (channel id : List ℕ) (items : List Item) → IsIn (is_at (goes_on_from channel id) items) (map prev_bucket items) (bucket channel id)
goes_on_in channel id items = is_in prev_bucket (goes_on_from channel id) items (bucket channel id)
    (λ x e. same_bucket x.prev x.channel channel id (and_right (comes_after x id) (is_on channel x) e) (and_right (is_some x.id) (is_id x.prev id) (and_left (comes_after x id) (is_on channel x) e)))

-- the item at a place
pub at_item : (is : Item → Bool) (items : List Item) (j : ℕ) (item : Item) → slice_get items j ≡ Some item → is_at is items j ≡ is item
at_item is items j item e = ap (λ o. option_map_or is o false) e

at_get : (is : Item → Bool) (items : List Item) (j : ℕ) (d : Item) → j < length items → is_at is items j ≡ false → is (get_or items j d) ≡ false
at_get is [] j d h e = absurd (not_below j h)
  where
    not_below : (k : ℕ) → k < 0 → ⊥
    not_below k h = omega (arith, h)
at_get is (x ∷ items) zero d h e = e
at_get is (x ∷ items) (suc j) d h e = at_get is items j d (omega (arith, h)) e

-- none at any place
pub none_at_all : (is : Item → Bool) (items : List Item) → ((j : ℕ) → 0 ≤ j → is_at is items j ≡ false) → list_any is items ≡ false
none_at_all is items f = list_any_none is items (λ j d h. at_get is items j d h (f j (omega arith)))

pub some_at : (is : Item → Bool) (items : List Item) (j : ℕ) → is_at is items j ≡ true → list_any is items ≡ true
some_at is [] j e = absurd_true e
some_at is (x ∷ items) zero e = ap (λ b. b || list_any is items) e
some_at is (x ∷ items) (suc j) e = ap (λ b. is x || b) (some_at is items j e) ∙ or_true (is x)
  where
    or_true : (b : Bool) → (b || true) ≡ true
    or_true true = refl
    or_true false = refl

-- the least place so far

pub record IsLeastFrom (is : ℕ → Bool) (n : ℕ) (least : Option ℕ) : Type 0 where
  pub here : (k : ℕ) → least ≡ Some k → is k ≡ true
  pub behind : (k : ℕ) → least ≡ Some k → n ≤ k
  pub before : (k j : ℕ) → least ≡ Some k → n ≤ j → j < k → is j ≡ false
  pub none : (j : ℕ) → least ≡ None → n ≤ j → is j ≡ false

pub least_begun : (is : ℕ → Bool) (n : ℕ) → ((j : ℕ) → n ≤ j → is j ≡ false) → IsLeastFrom is n None
least_begun is n f = record { here = λ k e. cc; behind = λ k e. cc; before = λ k j e. cc; none = λ j e h. f j h }

-- the place is one that is looked for
pub least_here : (is : ℕ → Bool) (n place : ℕ) → n ≤ place → is place ≡ true → ((j : ℕ) → n ≤ j → j < place → is j ≡ false) → IsLeastFrom is n (Some place)
least_here is n place h e f = record {
  here = λ k s. let same : place ≡ k = cc s in ap is (sym same) ∙ e;
  behind = λ k s. let same : place ≡ k = cc s in omega (arith, same, h);
  before = λ k j s near less. let same : place ≡ k = cc s in f j near (omega (arith, same, less));
  none = λ j s. cc;
}

cut : (is : ℕ → Bool) (n place j : ℕ) → (j < place) ⊎ (place ≤ j) → (j < place + 1) ⊎ (place + 1 ≤ j) → is place ≡ false → ((k : ℕ) → n ≤ k → k < place → is k ≡ false) → (place + 1 ≤ j → is j ≡ false) → n ≤ j → is j ≡ false
cut is n place j (inl less) c here f later h = f j h less
cut is n place j (inr more) (inl near) here f later h = let same : j ≡ place = omega (arith, more, near) in ap is same ∙ here
cut is n place j (inr more) (inr above) here f later h = later above

-- the place is none
pub least_before : (is : ℕ → Bool) (n place : ℕ) (least : Option ℕ) → n ≤ place + 1 → is place ≡ false → ((j : ℕ) → n ≤ j → j < place → is j ≡ false) → IsLeastFrom is (place + 1) least → IsLeastFrom is n least
least_before is n place least h here f t = record {
  here = t.here;
  behind = λ k s. omega (arith, h, t.behind k s);
  before = λ k j s near less. cut is n place j (cases_lt j place) (cases_lt j (place + 1)) here f (λ above. t.before k j s above less) near;
  none = λ j s near. cut is n place j (cases_lt j place) (cases_lt j (place + 1)) here f (λ above. t.none j s above) near;
}

-- all places were looked at
pub least_all : (items : List Item) (channel id used : List ℕ) (least : Option ℕ) → IsLeastFrom (is_next_at items channel id used) 0 least → MatchOption least (IsNoNextAfter items channel id used) (IsNextAfter items channel id used)
least_all items channel id used None t = λ k. t.none k refl (omega arith)
least_all items channel id used (Some k) t = record { here = t.here k refl; least = λ j less. t.before k j refl (omega arith) less }

-- the same, said of the chain itself

pub newest_of : (chain keys : List ℕ) (found b : ℕ) (at : Option ℕ) → chain ≡ keys → found ≡ b → MatchOption at (HasNone chain found (length chain)) (IsNewest chain found (length chain)) → MatchOption at (HasNone keys b (length keys)) (IsNewest keys b (length keys))
newest_of chain keys found b at e e' m = subst (λ (ks : List ℕ). MatchOption at (HasNone ks b (length ks)) (IsNewest ks b (length ks))) e (subst (λ n. MatchOption at (HasNone chain n (length chain)) (IsNewest chain n (length chain))) e' m)

pub older_of : (chain keys : List ℕ) (b place : ℕ) (next : Option ℕ) → chain ≡ keys → get_or keys place 0 ≡ b → MatchOption next (HasNone chain (get_or chain place 0) place) (IsNewest chain (get_or chain place 0) place) → MatchOption next (HasNone keys b place) (IsNewest keys b place)
older_of chain keys b place next e e' m =
    subst (λ n. MatchOption next (HasNone keys n place) (IsNewest keys n place)) e'
    (subst (λ (ks : List ℕ). MatchOption next (HasNone ks (get_or ks place 0) place) (IsNewest ks (get_or ks place 0) place)) e m)

-- the next item that is looked for is one that goes on

pub next_in : (channel id used : List ℕ) (items : List Item) → IsIn (is_next_at items channel id used) (map prev_bucket items) (bucket channel id)
next_in channel id used items =
    let f = goes_on_in channel id items in
    record {
      within = λ j e. f.within j (and_right (not (list_any (λ (other : ℕ). eqb other j) used)) (is_at (goes_on_from channel id) items j) e);
      here = λ j e. f.here j (and_right (not (list_any (λ (other : ℕ). eqb other j) used)) (is_at (goes_on_from channel id) items j) e);
    }

turned : (a u : Bool) → (a && not u) ≡ (not u && a)
turned true true = refl
turned true false = refl
turned false true = refl
turned false false = refl

pub next_there : (channel id used : List ℕ) (items : List Item) (place : ℕ) (item : Item) → slice_get items place ≡ Some item → is_next_of channel id used place item ≡ is_next_at items channel id used place
next_there channel id used items place item e =
    turned (goes_on_from channel id item) (list_any (λ (other : ℕ). eqb other place) used)
    ∙ ap (λ b. not (list_any (λ (other : ℕ). eqb other place) used) && b) (sym (at_item (goes_on_from channel id) items place item e))

-- a walk stands at an item
pub not_there : (key : Item → ℕ) (items : List Item) (place : ℕ) → place < length (map key items) → slice_get items place ≡ None → ⊥
not_there key [] place h e = omega (arith, h)
not_there key (x ∷ items) zero h e = cc
not_there key (x ∷ items) (suc place) h e = not_there key items place (omega (arith, h)) e

-- one more place was looked at
pub least_step : (is : ℕ → Bool) (keys : List ℕ) (b place : ℕ) (next : Option ℕ) (own : Bool) (now least at : Option ℕ) → IsIn is keys b → MatchOption next (HasNone keys b place) (IsNewest keys b place) → is place ≡ own → now ≡ cond own (Some place) least → at ≡ Some place
    → IsLeastFrom is (behind at) least → IsLeastFrom is (behind next) now
least_step is keys b place next true now least at f m here s e t =
    subst (λ found. IsLeastFrom is (behind next) found) (sym s) (least_here is (behind next) place (omega (arith, shorter keys b place next m)) here (skipped is keys b place next f m))
least_step is keys b place next false now least at f m here s e t =
    subst (λ found. IsLeastFrom is (behind next) found) (sym s)
    (least_before is (behind next) place least (omega (arith, shorter keys b place next m)) here (skipped is keys b place next f m) (subst (λ n. IsLeastFrom is n least) (ap behind e) t))

-- marks along a walk

pub put_length : (old now : List ℕ) (place mark : ℕ) (asked : Bool) → now ≡ cond asked (set old place mark) old → length now ≡ length old
put_length old now place mark true e = ap length e ∙ length-set old place mark
put_length old now place mark false e = ap length e

pub others_step : (is : ℕ → Bool) (place : ℕ) (own : Bool) (old now first : List ℕ) (mark : ℕ) → is place ≡ own → now ≡ cond own (set old place mark) old → ((k : ℕ) → is k ≡ false → get_or old k 0 ≡ get_or first k 0) → (k : ℕ) → is k ≡ false → get_or now k 0 ≡ get_or first k 0
others_step is place true old now first mark here e f k h = ap (λ ns. get_or ns k 0) e ∙ get_or-set_other old place k mark 0 (λ same. absurd_true (sym h ∙ ap is same ∙ here)) ∙ f k h
others_step is place false old now first mark here e f k h = ap (λ ns. get_or ns k 0) e ∙ f k h

marked_at : (is : ℕ → Bool) (place mark : ℕ) (own : Bool) (old now : List ℕ) (put k : ℕ) → (k ≡ place) ⊎ (k ≢ place) → is place ≡ own → put ≡ mark → now ≡ cond own (set old place put) old → place < length old → (k ≢ place → get_or old k 0 ≡ mark) → is k ≡ true → get_or now k 0 ≡ mark
marked_at is place mark true old now put k (inl same) here e s within f h = ap (λ ns. get_or ns k 0) s ∙ ap (λ j. get_or (set old place put) j 0) same ∙ get_or-set_same old place put 0 within ∙ e
marked_at is place mark true old now put k (inr other) here e s within f h = ap (λ ns. get_or ns k 0) s ∙ get_or-set_other old place k put 0 other ∙ f other
marked_at is place mark false old now put k (inl same) here e s within f h = absurd_true (sym here ∙ ap is (sym same) ∙ h)
marked_at is place mark false old now put k (inr other) here e s within f h = ap (λ ns. get_or ns k 0) s ∙ f other

above_by : (is : ℕ → Bool) (keys : List ℕ) (b place : ℕ) (next : Option ℕ) (k : ℕ) → (k < place) ⊎ (place ≤ k) → IsIn is keys b → MatchOption next (HasNone keys b place) (IsNewest keys b place) → behind next ≤ k → is k ≡ true → k ≢ place → place + 1 ≤ k
above_by is keys b place next k (inl less) f m h e other = absurd_true (sym (skipped is keys b place next f m k h less) ∙ e)
above_by is keys b place next k (inr more) f m h e other = omega (arith, more, other)

pub marked_step : (is : ℕ → Bool) (keys : List ℕ) (b place mark : ℕ) (next : Option ℕ) (own : Bool) (old now : List ℕ) (put : ℕ) → IsIn is keys b → MatchOption next (HasNone keys b place) (IsNewest keys b place) → is place ≡ own → put ≡ mark → now ≡ cond own (set old place put) old → place < length old
    → ((k : ℕ) → place + 1 ≤ k → is k ≡ true → get_or old k 0 ≡ mark) → (k : ℕ) → behind next ≤ k → is k ≡ true → get_or now k 0 ≡ mark
marked_step is keys b place mark next own old now put f m here e s within t k h here' =
    marked_at is place mark own old now put k (cases_eq k place) here e s within (λ other. t k (above_by is keys b place next k (cases_lt k place) f m h here' other) here') here'
