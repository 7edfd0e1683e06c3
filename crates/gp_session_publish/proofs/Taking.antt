-- The items of a publish request, as they are taken one after another.
use Rattle.std.proofs.Common.{◌≡◌, ℕ, ◌+◌, ◌<◌, ◌≤◌, ◌^◌, List, [], ◌∷◌, ◌++◌, length, map, Option, Some, None, refl, sym, ap, ◌∙◌, subst, arith, append_assoc, append-nil, ◌==◌, filter, length-append}
use Rattle.std.specs.Prelude.{option_to_list}
use Rattle.std.specs.List.{All}
use Rattle.gp_plain.specs.declared.event.Entry.{Entry}
use Rattle.gp_plain.specs.declared.item.Item.{Item}
use Rattle.gp_items.specs.Items.{AreItemsOf, IsItemsFault}
use Rattle.gp_items.proofs.CountLemmas.{few_items}
use Rattle.gp_items.specs.declared.fault.ItemsFault.{ItemsFault}
use Rattle.gp_hub.specs.declared.outcome.SessionEnd.TheVariants as end
use Rattle.gp_hub.specs.declared.outcome.Why.TheVariants as why
use Rattle.gp_hub.specs.Own.{mine}
use Rattle.gp_intake.specs.declared.body.Whole.{Whole}
use Rattle.gp_intake.proofs.Asking.{none_begun}
use Rattle.gp_plain.specs.Others.{shares}
use Rattle.gp_session.specs.Seats.{SeatView, MovedSeat, SeatRow, IsServed, IsWorn, Busied, Publishes, publish_of}
use Rattle.gp_session.proofs.Moving.{moved_seat_same, moved_seat_again, busied_from}
use Rattle.gp_session_publish.specs.declared.cause.Cause.TheVariants as cause
use Rattle.gp_session_publish.specs.declared.stage.Stage.TheVariants.{ReadingHead, Publishing}
use Rattle.gp_session_publish.specs.declared.stage.Ended.{Ended}
use Rattle.gp_session_publish.specs.declared.stage.Next.TheVariants.{Go, End}
use Rattle.gp_session_publish.specs.declared.reading_head.ReadingHead.{ReadingHead as HeadStage}
use Rattle.gp_session_publish.specs.declared.publishing.AllPublished.TheVariants as all
use Rattle.gp_session_publish.specs.declared.publishing.Reached.TheVariants as reached
use Rattle.std.proofs.lemmas.List.Elements.{All-tail}
use Rattle.gp_session_publish.specs.declared.publishing.Publishing.{Publishing as PublishingStage}
use Rattle.gp_session_publish.specs.Routing.{IsPublish, IsRefusedFor, place_of}
use Rattle.gp_session_publish.specs.Views.{LiveView}
use Rattle.gp_session_publish.specs.Trace.{Asks, Fits, Told}
use Rattle.gp_session_publish.specs.Moves.{PublishedSome, IsPublishing, PublishesAll, PublishesLeft, Used, Leads, IsUnanswered, IsWholeAt}
use Rattle.gp_session_publish.proofs.Hearing.{unanswered_as, moved_same, no_memory_end}

-- the items were read
module _ (l : LiveView) (w : Whole) (told : IsWholeAt l w) (bytes : List ℕ) (same : bytes ≡ w.body) where
  few : (n k : ℕ) (items left : List Item) → 0 ≡ n → items ≡ left → length items ≤ 1000 → n + length left < 2 ^ 32
  few n k items left none same le = omega (arith, none, ap length same, le)

  pub begins : (s : PublishingStage) (items : List Item) → s.request.value ≡ w → s.published ≡ 0 → s.left ≡ items → AreItemsOf bytes items → All Fits items → Leads l l 3 (Go (Publishing s))
  begins s items request none rest are fit =
      let left : items ≡ s.left = sym rest in
      let here : Told l (Publishing s) = record {
        request = (unanswered_as l (IsPublish w) (Asks (Publishing s)) told (λ received h. subst (λ (x : Whole). IsPublish x received) (sym request) h)).request;
        entries = record {
          all = items;
          done = [];
          items = subst (λ (x : Whole). AreItemsOf x.body items) (sym request) (subst (λ (xs : List ℕ). AreItemsOf xs items) same are);
          split = left;
          entries = told.entries;
          count = none;
          fit = subst (All Fits) left fit;
          few = few s.published 0 items s.left (sym none) left (few_items bytes items are);
        };
        bytes = told.bytes;
        stays = told.stays;
      } in
      record { moved = moved_same l; to = (here, omega arith) }

  pub refused_items : (fault : ItemsFault) (place : ℕ) → IsItemsFault bytes fault → place_of fault ≡ Some place → IsUnanswered l (IsRefusedFor (cause.Items place) w.head.method)
  refused_items fault place refused is = unanswered_as l (IsPublish w) (IsRefusedFor (cause.Items place) w.head.method) told
      (λ received h. record { w = w; publish = h; fault = fault; refused = subst (λ (xs : List ℕ). IsItemsFault xs fault) same refused; place_is = is; method_is = refl })

  pub no_memory_items : (ended : Ended) → ended ≡ record { end = end.NoMemory; why = why.Nothing; published = 0 } → Leads l l 3 (End ended)
  no_memory_items ended is =
      let t : HeadStage = record { intake = [] } in
      let u = unanswered_as l (IsPublish w) (Used (ReadingHead t)) told (λ received h. record { used = []; unused = received; split = refl; asks = (refl, none_begun) }) in
      no_memory_end l (ReadingHead t) tt u.entries u.entries 3 l (moved_same l) refl refl u.request u.bytes u.stays ended is

-- publishing one after another

pub none_published : (s : SeatView) (left : List Item) (n : ℕ) → PublishedSome s s left left n n
none_published s left n = record {
  done = [];
  split = refl;
  made = sym (append-nil (mine s.pass));
  count = omega arith;
  holds = refl;
  moved = moved_seat_same s;
  row = λ row. row;
}

pub map-append : (f : Item → Entry) (xs ys : List Item) → map f (xs ++ ys) ≡ map f xs ++ map f ys
map-append f [] ys = refl
map-append f (x ∷ xs) ys = ap (λ (es : List Entry). f x ∷ es) (map-append f xs ys)

pub one_published : (s t u : SeatView) (left items next : List Item) (item : Item) (before now : ℕ) → PublishedSome s t left (item ∷ items) before now → items ≡ next
    → MovedSeat t u → (SeatRow t → SeatRow u) → Publishes t u item → PublishedSome s u left next before (now + 1)
one_published s t u left items next item before now p same moved row one =
    let number = s.pass.number in
    record {
      done = p.done ++ item ∷ [];
      split = p.split ∙ ap (λ (xs : List Item). p.done ++ item ∷ xs) same ∙ sym (append_assoc p.done (item ∷ []) next);
      made = one.made.mine ∙ ap (λ (n : ℕ). mine t.pass ++ publish_of n item ∷ []) p.moved.same.number ∙ ap (λ (es : List Entry). es ++ publish_of number item ∷ []) p.made
          ∙ append_assoc (mine s.pass) (map (publish_of number) p.done) (publish_of number item ∷ []) ∙ ap (λ (es : List Entry). mine s.pass ++ es) (sym (map-append (publish_of number) p.done (item ∷ [])));
      count = omega (arith, p.count, length-append p.done (item ∷ []));
      holds = one.holds ∙ p.holds;
      moved = moved_seat_again s t u p.moved moved;
      row = λ r. row (p.row r);
    }

-- no item was published by a call that was refused
pub none_more : (s t u : SeatView) (left rest : List Item) (before now : ℕ) → PublishedSome s t left rest before now → MovedSeat t u → (SeatRow t → SeatRow u) → u.pass.seen ≡ t.pass.seen → PublishedSome s u left rest before now
none_more s t u left rest before now p moved row seen = record {
  done = p.done;
  split = p.split;
  made = ap (λ (n : ℕ). filter (λ (e : Entry). e.who == n) u.pass.seen) moved.same.number ∙ ap (filter (λ (e : Entry). e.who == t.pass.number)) seen ∙ p.made;
  count = p.count;
  holds = ap (λ (n : ℕ). shares n u.pass.seen) moved.same.number ∙ ap (shares t.pass.number) seen ∙ p.holds;
  moved = moved_seat_again s t u p.moved moved;
  row = λ r. row (p.row r);
}

pub begins_all : (s : SeatView) (left : List Item) (next : Option Item) (items : List Item) (n : ℕ) → All Fits left → n + length left < 2 ^ 32 → option_to_list next ++ items ≡ left → (next ≡ None → items ≡ [])
    → IsPublishing s s left next items n n
begins_all s left next items n fit few same none = record {
  some = subst (λ (xs : List Item). PublishedSome s s left xs n n) (sym same) (none_published s left n);
  fit = subst (All Fits) (sym same) fit;
  few = omega (arith, few, ap length same);
  served = λ h. h;
  none = none;
}

module _ (s t u : SeatView) (left items : List Item) (next : Option Item) (item : Item) (before now : ℕ) (p : IsPublishing s t left next items before now) (is : next ≡ Some item)
    (moved : MovedSeat t u) (row : SeatRow t → SeatRow u) where
  here : PublishedSome s t left (item ∷ items) before now
  here = subst (λ (o : Option Item). PublishedSome s t left (option_to_list o ++ items) before now) is p.some

  fits_here : All Fits (item ∷ items)
  fits_here = subst (λ (o : Option Item). All Fits (option_to_list o ++ items)) is p.fit

  few_here : now + length (item ∷ items) < 2 ^ 32
  few_here = subst (λ (o : Option Item). now + length (option_to_list o ++ items) < 2 ^ 32) is p.few

  pub goes_on_all : (next' : Option Item) (items' : List Item) → Publishes t u item → IsServed u → option_to_list next' ++ items' ≡ items → (next' ≡ None → items' ≡ []) → IsPublishing s u left next' items' before (now + 1)
  goes_on_all next' items' one served same none = record {
    some = one_published s t u left items (option_to_list next' ++ items') item before now here (sym same) moved row one;
    fit = subst (All Fits) (sym same) (All-tail Fits item items fits_here);
    few = omega (arith, few_here, ap length same);
    served = λ h. served;
    none = none;
  }

  left_all : u.pass.seen ≡ t.pass.seen → PublishedSome s u left (item ∷ items) before now
  left_all seen = none_more s t u left (item ∷ items) before now here moved row seen

  pub busy_all : (back : Item) → (back ≡ item) × (u.pass.seen ≡ t.pass.seen) × Busied t u → IsServed u → PublishesAll s u left items before now (all.Busy back)
  busy_all back h served = record { rest = item ∷ items; some = left_all h.1; fit = fits_here; says = (ap (λ (x : Item). x ∷ items) (sym h.0), busied_from s t u p.some.moved h.2, served) }

  pub worn_all : (u.pass.seen ≡ t.pass.seen) × IsWorn u → PublishesAll s u left items before now all.Worn
  worn_all h = record { rest = item ∷ items; some = left_all h.0; fit = fits_here; says = h.1 }

  pub no_memory_all : u.pass.seen ≡ t.pass.seen → IsServed u → PublishesAll s u left items before now all.NoMemory
  no_memory_all h served = record { rest = item ∷ items; some = left_all h; fit = fits_here; says = λ before. served }

pub done_all : (s t : SeatView) (left items : List Item) (next : Option Item) (before now : ℕ) → IsPublishing s t left next items before now → next ≡ None → PublishesAll s t left items before now all.Done
done_all s t left items next before now p is =
    let empty : items ≡ [] = p.none is in
    let rest : option_to_list next ++ items ≡ [] = ap (λ (o : Option Item). option_to_list o ++ items) is ∙ empty in
    record { rest = option_to_list next ++ items; some = p.some; fit = p.fit; says = (rest, empty, p.served) }

-- the item that was handed back is the first of those that are left
pub left_busy : (s t : SeatView) (all_left before items : List Item) (item : Item) (was now : ℕ) → all_left ≡ before → PublishesAll s t all_left items was now (all.Busy item) → PublishesLeft s t before (item ∷ items) was now reached.Busy
left_busy s t all_left before items item was now same p = record {
  rest = p.rest;
  some = subst (λ (xs : List Item). PublishedSome s t xs p.rest was now) same p.some;
  fit = p.fit;
  says = p.says;
}
