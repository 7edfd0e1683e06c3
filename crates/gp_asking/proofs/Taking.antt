-- A Take of a hold of one's own, and whether the hold has asked.
use Rattle.std.proofs.Common.{◌≡◌, ℕ, zero, suc, ◌==◌, Bool, true, false, cond, not, List, [], ◌∷◌, ◌++◌, filter, refl, sym, ap, ◌∙◌, subst, append-nil, eq-eqb, slice_get, Option, Some, None, option_map}
use Rattle.std.specs.List.{All}
use Rattle.std.proofs.lemmas.List.{append_cancel_left, append_cancel_right}
use Rattle.std.proofs.lemmas.List.Sums.{fold-append}
use Rattle.std.proofs.lemmas.List.Elements.{filter-append, All-nil, All-cons}
use Rattle.gp_plain.specs.declared.event.Entry.{Entry}
use Rattle.gp_plain.specs.declared.event.Event.{Event}
use Rattle.gp_plain.specs.declared.event.Event.TheVariants.{Take}
use Rattle.gp_plain.specs.declared.reply.Reply.{Reply}
use Rattle.gp_plain.specs.declared.reply.Reply.TheVariants as reply
use Rattle.gp_plain.specs.declared.reply.Taken.{Taken}
use Rattle.gp_plain.specs.Holds.{Held, taken_of, taken_from, timed}
use Rattle.gp_plain.specs.History.{Past, if_kept, kept_at, refused_or, changed_if, changed, after, nothing, held}
use Rattle.gp_plain.specs.Others.{Share, share_of, IsOfAnother}
use Rattle.gp_hub.specs.Passes.{HubView, entry_of}
use Rattle.gp_hub.specs.Own.{Keeps, HasTaken, share_with}
use Rattle.gp_asking.specs.Asking.{IsAsking, AskingLaw}
use Rattle.gp_asking.proofs.Asked.{timed_leaves, begins_asking, tells_none, asks_on}
use Rattle.gp_asking.proofs.Untouched.{no_some, same_some, Mark, mark_of, mark_at, others_leave}

-- the entries between what the pass had seen and its own are of others

abbrev is_own : ℕ → Entry → Bool
is_own who entry = entry.who == who

-- its own entry is its own
own_one : (who : ℕ) (event : Event) → filter (is_own who) (entry_of who event ∷ []) ≡ entry_of who event ∷ []
own_one who event = ap (λ b. cond b (entry_of who event ∷ []) []) (eq-eqb who who refl)

-- where that is the one that it made since, it made none before
none_own : (who : ℕ) (event : Event) (seen more : List Entry) → filter (is_own who) ((seen ++ more) ++ entry_of who event ∷ []) ≡ filter (is_own who) seen ++ entry_of who event ∷ [] → filter (is_own who) more ≡ []
none_own who event seen more is =
    let own : List Entry → List Entry = filter (is_own who) in
    let last = entry_of who event ∷ [] in
    let parts : own ((seen ++ more) ++ last) ≡ (own seen ++ own more) ++ last =
    filter-append (is_own who) (seen ++ more) last ∙ ap (λ xs. xs ++ own last) (filter-append (is_own who) seen more) ∙ ap (λ xs. (own seen ++ own more) ++ xs) (own_one who event) in
    let front : own seen ++ own more ≡ own seen = append_cancel_right (own seen ++ own more) (own seen) last (sym parts ∙ is) in
    append_cancel_left (own seen) (own more) [] (front ∙ sym (append-nil (own seen)))

-- an entry that isn't its own is of another, and so are the rest
others_by : (who : ℕ) (x : Entry) (xs : List Entry) (own : Bool) → is_own who x ≡ own → (filter (is_own who) xs ≡ [] → All (IsOfAnother who) xs)
    → cond own (x ∷ filter (is_own who) xs) (filter (is_own who) xs) ≡ [] → All (IsOfAnother who) (x ∷ xs)
others_by who x xs true is rest none = absurd cc
others_by who x xs false is rest none = All-cons (IsOfAnother who) x xs (λ same. let own : is_own who x ≡ true = eq-eqb x.who who same in absurd cc) (rest none)

all_others : (who : ℕ) (xs : List Entry) → filter (is_own who) xs ≡ [] → All (IsOfAnother who) xs
all_others who [] none = All-nil (IsOfAnother who)
all_others who (x ∷ xs) none = others_by who x xs (is_own who x) refl (λ e. all_others who xs e) none

-- the pass keeps its number, since it keeps the hold
same_number : (p q : HubView) (hold now : ℕ) (taken : Taken) → Keeps p hold → HasTaken p q hold now taken → taken.ended ≡ None → q.number ≡ p.number
same_number p q hold now taken k t none =
    let later = t.keeps none in
    let share : share_with k.share taken ≡ later.share = same_some (sym (t.share k.share k.there) ∙ later.there) in
    sym later.own ∙ sym (ap (λ (s : Share). s.owner) share) ∙ k.own

others_between : (p q : HubView) (hold now : ℕ) (taken : Taken) → (t : HasTaken p q hold now taken) → q.number ≡ p.number → All (IsOfAnother p.number) t.made.called.goes_on.more
others_between p q hold now taken t number =
    let c = t.made.called in
    let last = entry_of p.number (Take hold now) ∷ [] in
    let seen : q.seen ≡ (p.seen ++ c.goes_on.more) ++ last = c.seen ∙ ap (λ xs. xs ++ last) c.goes_on.is in
    let own : filter (is_own p.number) q.seen ≡ filter (is_own p.number) p.seen ++ last = ap (λ n. filter (is_own n) q.seen) (sym number) ∙ t.made.mine in
    all_others p.number c.goes_on.more (none_own p.number (Take hold now) p.seen c.goes_on.more (ap (filter (is_own p.number)) (sym seen) ∙ own))

-- a kept hold of the pass

-- what an event on it answers
kept_reply : (holds : List Held) (who hold : ℕ) (h : Held) (answer : Held → Reply) → slice_get holds hold ≡ Some h → h.released ≡ false → h.owner ≡ who
    → refused_or who hold (kept_at holds hold) answer ≡ answer h
kept_reply holds who hold h answer there kept own =
    let at : kept_at holds hold ≡ Some h = ap if_kept there ∙ ap (λ b. cond b None (Some h)) kept in
    ap (λ (o : Option Held). refused_or who hold o answer) at ∙ ap (λ b. cond b (answer h) (reply.Foreign h.owner)) (eq-eqb h.owner who own)

-- and changes
own_changed : (who : ℕ) (f : Held → Held) (h : Held) → h.released ≡ false → h.owner ≡ who → changed_if who f h ≡ f h
own_changed who f h kept own = ap (λ b. cond (not b) (cond (h.owner == who) (f h) h) h) kept ∙ ap (λ b. cond b (f h) h) (eq-eqb h.owner who own)

changed_at : (who : ℕ) (f : Held → Held) (holds : List Held) (hold : ℕ) (h : Held) → slice_get holds hold ≡ Some h → h.released ≡ false → h.owner ≡ who
    → slice_get (changed who hold f holds) hold ≡ Some (f h)
changed_at who f [] hold h there kept own = absurd (no_some there)
changed_at who f (x ∷ xs) zero h there kept own = ap Some (ap (changed_if who f) (same_some there) ∙ own_changed who f h kept own)
changed_at who f (x ∷ xs) (suc hold) h there kept own = changed_at who f xs hold h there kept own

-- the hold of a number, of which something is known
module _ {A : Type 0} where
  record Stands (v : Held → A) (holds : List Held) (hold : ℕ) (x : A) : Type 0 where
    h : Held
    there : slice_get holds hold ≡ Some h
    is : v h ≡ x

  stands_by : (v : Held → A) (holds : List Held) (hold : ℕ) (x : A) (found : Option Held) → slice_get holds hold ≡ found → option_map v found ≡ Some x → Stands v holds hold x
  stands_by v holds hold x None at is = absurd (no_some is)
  stands_by v holds hold x (Some h) at is = record { h = h; there = at; is = same_some is }

  stands : (v : Held → A) (holds : List Held) (hold : ℕ) (x : A) → option_map v (slice_get holds hold) ≡ Some x → Stands v holds hold x
  stands v holds hold x is = stands_by v holds hold x (slice_get holds hold) refl is

-- the hold when the Take was served: it has asked as before, what it gave was answered, and what is left stands
record Serves (p q : HubView) (hold now : ℕ) (taken : Taken) : Type 0 where
  first : Held
  there : slice_get (held p.seen) hold ≡ Some first
  h : Held
  same : h.state.asked ≡ first.state.asked
  gave : taken ≡ taken_of now h.state
  left : slice_get (held q.seen) hold ≡ Some (taken_from now h)

same_taken : {a b : Taken} → reply.Taken a ≡ reply.Taken b → a ≡ b
same_taken e = cc

serves : (p q : HubView) (hold now : ℕ) (taken : Taken) → Keeps p hold → HasTaken p q hold now taken → taken.ended ≡ None → Serves p q hold now taken
serves p q hold now taken k t none =
    let c = t.made.called in
    let others = others_between p q hold now taken t (same_number p q hold now taken k t none) in
    let first = stands share_of (held p.seen) hold k.share k.there in
    let mark = mark_of first.h in
    let owner : first.h.owner ≡ p.number = ap (λ (s : Share). s.owner) first.is ∙ k.own in
    let at : mark_at (held (p.seen ++ c.goes_on.more)) hold ≡ Some mark =
    others_leave p.seen c.goes_on.more hold mark (ap (option_map mark_of) first.there) (subst (λ n. All (IsOfAnother n) c.goes_on.more) (sym owner) others) in
    let st = stands mark_of (held c.before) hold mark (ap (λ es. mark_at (held es) hold) c.goes_on.is ∙ at) in
    let own : st.h.owner ≡ p.number = ap (λ (m : Mark). m.0.owner) st.is ∙ owner in
    let kept : st.h.released ≡ false = ap (λ (m : Mark). m.0.released) st.is ∙ ap (λ (s : Share). s.released) first.is ∙ k.kept in
    record {
      first = first.h;
      there = first.there;
      h = st.h;
      same = ap (λ (m : Mark). m.1) st.is;
      gave = same_taken (c.reply_is ∙ kept_reply (held c.before) p.number hold st.h (λ (h : Held). reply.Taken (taken_of now h.state)) st.there kept own);
      left = ap (λ es. slice_get (held es) hold) c.seen ∙ ap (λ (past : Past). slice_get past.holds hold) (fold-append after nothing c.before (entry_of p.number (Take hold now) ∷ []))
          ∙ changed_at p.number (taken_from now) (held c.before) hold st.h st.there kept own;
    }

-- what is left has asked, and so the hold of the number has
asks_now : (p q : HubView) (hold now : ℕ) (taken : Taken) → (s : Serves p q hold now taken) → (taken_from now s.h).state.asked ≡ true → IsAsking q hold
asks_now p q hold now taken s asked = λ h there. ap (λ (x : Held). x.state.asked) (same_some (sym there ∙ s.left)) ∙ asked

pub asking_law_holds : AskingLaw
asking_law_holds = record {
  begins = λ p q hold now taken from k t recover none.
      let s = serves p q hold now taken k t none in
      let state = timed now s.h.state.terms.deadline s.h.state in
      let told : taken_of now s.h.state ≡ taken = sym s.gave in
      asks_now p q hold now taken s (begins_asking state from (ap (λ (x : Taken). x.recover) told ∙ recover) (ap (λ (x : Taken). x.ended) told ∙ none));
  stays = λ p q hold now taken k asking t none.
      let s = serves p q hold now taken k t none in
      let state = timed now s.h.state.terms.deadline s.h.state in
      let asked : state.asked ≡ true = timed_leaves now s.h.state.terms.deadline s.h.state ∙ s.same ∙ asking s.first s.there in
      (ap (λ (x : Taken). x.recover) s.gave ∙ tells_none state asked (ap (λ (x : Taken). x.ended) (sym s.gave) ∙ none), asks_now p q hold now taken s (asks_on state asked));
}
