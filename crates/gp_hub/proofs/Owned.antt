-- What a call for a hold of one's own does.
use Rattle.std.proofs.Common.{◌≡◌, ℕ, zero, suc, ◌+◌, ◌<◌, ◌≤◌, ◌==◌, ◌||◌, Bool, true, false, cond, not, List, [], ◌∷◌, ◌++◌, length, filter, arith, refl, sym, ap, ◌∙◌, subst, append_assoc, append-nil, eq-eqb, slice_get, Option, Some, None, is_some, option_map}
use Rattle.std.specs.Prelude.{option_to_list}
use Rattle.std.specs.List.{All}
use Rattle.std.proofs.lemmas.List.Sums.{fold-append}
use Rattle.std.proofs.lemmas.List.Elements.{filter-append, All-head, All-tail, All-nil, All-cons}
use Rattle.gp_plain.specs.declared.event.Entry.{Entry}
use Rattle.gp_plain.specs.declared.event.Event.{Event}
use Rattle.gp_plain.specs.declared.event.Event.TheVariants.{Attach, Publish, Take, PageFailed, Detach}
use Rattle.gp_plain.specs.declared.event.HoldKind.{HoldKind}
use Rattle.gp_plain.specs.declared.event.HoldSpec.{HoldSpec}
use Rattle.gp_plain.specs.declared.reply.Reply.{Reply}
use Rattle.gp_plain.specs.declared.reply.Reply.TheVariants as reply
use Rattle.gp_plain.specs.declared.reply.EndCause.{EndCause}
use Rattle.gp_plain.specs.declared.reply.Taken.{Taken}
use Rattle.gp_plain.specs.Pieces.{id_or}
use Rattle.gp_plain.specs.Follow.{last_items, is_repeat}
use Rattle.gp_plain.specs.Kinds.{TakenFits}
use Rattle.gp_plain.specs.declared.item.Item.{Item}
use Rattle.gp_plain.specs.Holds as holds
use Rattle.gp_plain.specs.Holds.{Terms, Held, RecoveryPage, begun, taken_of, taken_from, paged_from, failed, begins_at, is_stream, refusal, page_refusal, reply_or, failure_reply, let_go}
use Rattle.gp_plain.specs.History as history
use Rattle.gp_plain.specs.History.{Past, window, has_place, if_kept, kept_at, refused_or, changed_if, changed, with_hold, after_event, after, nothing, past_of, held, published as published_items, grown_count}
use Rattle.gp_plain.specs.Others.{Share, share_of, share_at, shares_from, shares, IsOfAnother, MovesShares}
use Rattle.gp_plain.proofs.OthersLaw.{differs, others_law_holds, owners_law_holds, published_shares, share_if}
use Rattle.gp_plain.proofs.KindLaws.{kind_law_holds}
use Rattle.gp_plain.proofs.ShareLaws.{moves_law_holds}
use Rattle.gp_plain.proofs.Histories.{all_at}
use Rattle.gp_plain.proofs.Soundness.{IsSound, are_sound, kind_is}
use Rattle.gp_turn.proofs.Owners.{others_by_number}
use Rattle.gp_hub.specs.Passes.{HubView, GoesOnFrom, IsSame, entry_of, who_of}
use Rattle.gp_hub.specs.Calls.{HasCalled}
use Rattle.gp_hub.specs.declared.own.PageReply.{PageReply}
use Rattle.gp_hub.specs.declared.own.PageReply.TheVariants as answer
use Rattle.gp_hub.specs.declared.own.FailedReply.{FailedReply}
use Rattle.gp_hub.specs.declared.own.FailedReply.TheVariants as failure
use Rattle.gp_hub.specs.Own.{Keeps, HasMade, HasNewHold, HasAttached, HasTaken, HasPaged, HasFailed, HasDetached, HasPublished, FreshLaw, fresh_share, share_with, share_gone, with_share, attach_reply, publish_reply, IsOtherKind, page_reply, page_event, failed_reply}

same_some : {A : Type 0} {x y : A} → Some x ≡ Some y → x ≡ y
same_some e = cc

no_some : {A : Type 0} {x : A} → None ≡ Some x → ⊥
no_some e = cc

-- the entries that are the pass's own

own_one : (who : ℕ) (event : Event) → filter (λ (e : Entry). e.who == who) (entry_of who event ∷ []) ≡ entry_of who event ∷ []
own_one who event = ap (λ b. cond b (entry_of who event ∷ []) []) (eq-eqb who who refl)

none_own : (who : ℕ) (others : List Entry) → All (IsOfAnother who) others → filter (λ (e : Entry). e.who == who) others ≡ []
none_own who [] all = refl
none_own who (e ∷ es) all =
    ap (λ b. cond b (e ∷ filter (λ (e : Entry). e.who == who) es) (filter (λ (e : Entry). e.who == who) es)) (differs e.who who (All-head (IsOfAnother who) e es all))
    ∙ none_own who es (All-tail (IsOfAnother who) e es all)

pub own_more : (who : ℕ) (event : Event) (seen others : List Entry) → All (IsOfAnother who) others
    → filter (λ (e : Entry). e.who == who) ((seen ++ others) ++ entry_of who event ∷ []) ≡ filter (λ (e : Entry). e.who == who) seen ++ entry_of who event ∷ []
own_more who event seen others all =
    let own : Entry → Bool = λ (e : Entry). e.who == who in
    filter-append own (seen ++ others) (entry_of who event ∷ [])
    ∙ ap (λ xs. xs ++ filter own (entry_of who event ∷ [])) (filter-append own seen others ∙ ap (λ xs. filter own seen ++ xs) (none_own who others all) ∙ append-nil (filter own seen))
    ∙ ap (λ xs. filter own seen ++ xs) (own_one who event)

pub others_of : (p : HubView) (before : List Entry) (c : GoesOnFrom p before) → 1 ≤ p.spare → All (IsOfAnother p.number) c.more
others_of p before c some = others_by_number who_of p c.more some c.others

unfoldable pub made : (p q : HubView) (event : Event) (r : Reply) → IsSame p q → HasCalled p q event r → HasMade p q event r
made p q event r same c =
    let seen : q.seen ≡ (p.seen ++ c.goes_on.more) ++ entry_of p.number event ∷ [] = c.seen ∙ ap (λ xs. xs ++ entry_of p.number event ∷ []) c.goes_on.is in
    record {
      called = c;
      mine = ap (λ n. filter (λ (e : Entry). e.who == n) q.seen) same.number ∙ ap (filter (λ (e : Entry). e.who == p.number)) seen
          ∙ own_more p.number event p.seen c.goes_on.more (others_of p c.before c.goes_on same.some);
      grown = (c.goes_on.more ++ entry_of p.number event ∷ [], sym (seen ∙ append_assoc p.seen c.goes_on.more (entry_of p.number event ∷ [])));
    }

-- a kept hold of the pass when the call is served

after_last : (before : List Entry) (who : ℕ) (event : Event) → past_of (before ++ entry_of who event ∷ []) ≡ after_event (past_of before) who event
after_last before who event = fold-append after nothing before (entry_of who event ∷ [])

record Stands (holds : List Held) (hold : ℕ) (s : Share) : Type 0 where
  h : Held
  there : slice_get holds hold ≡ Some h
  is : share_of h ≡ s

stands_by : (holds : List Held) (hold : ℕ) (s : Share) (found : Option Held) → slice_get holds hold ≡ found → option_map share_of found ≡ Some s → Stands holds hold s
stands_by holds hold s None at is = absurd (no_some is)
stands_by holds hold s (Some h) at is = record { h = h; there = at; is = same_some is }

stands : (p : HubView) (before : List Entry) (hold : ℕ) (s : Share) → GoesOnFrom p before → 1 ≤ p.spare → share_at (held p.seen) hold ≡ Some s → s.owner ≡ p.number → Stands (held before) hold s
stands p before hold s c some there own =
    let others : All (IsOfAnother s.owner) c.more = subst (λ n. All (IsOfAnother n) c.more) (sym own) (others_of p before c some) in
    let at : share_at (held (p.seen ++ c.more)) hold ≡ Some s = others_law_holds p.seen c.more hold s there others in
    stands_by (held before) hold s (slice_get (held before) hold) refl (subst (λ (es : List Entry). share_at (held es) hold ≡ Some s) (sym c.is) at)

-- what an event on it answers and changes
kept_reply : (holds : List Held) (who hold : ℕ) (h : Held) (answer : Held → Reply) → slice_get holds hold ≡ Some h → h.released ≡ false → h.owner ≡ who
    → refused_or who hold (kept_at holds hold) answer ≡ answer h
kept_reply holds who hold h answer there kept own =
    let at : kept_at holds hold ≡ Some h = ap if_kept there ∙ ap (λ b. cond b None (Some h)) kept in
    ap (λ (o : Option Held). refused_or who hold o answer) at ∙ ap (λ b. cond b (answer h) (reply.Foreign h.owner)) (eq-eqb h.owner who own)

own_changed : (who : ℕ) (f : Held → Held) (h : Held) → h.released ≡ false → h.owner ≡ who → changed_if who f h ≡ f h
own_changed who f h kept own = ap (λ b. cond (not b) (cond (h.owner == who) (f h) h) h) kept ∙ ap (λ b. cond b (f h) h) (eq-eqb h.owner who own)

changed_at : (who : ℕ) (f : Held → Held) (holds : List Held) (hold : ℕ) (h : Held) → slice_get holds hold ≡ Some h → h.released ≡ false → h.owner ≡ who
    → slice_get (changed who hold f holds) hold ≡ Some (f h)
changed_at who f [] hold h there kept own = absurd (no_some there)
changed_at who f (x ∷ xs) zero h there kept own = ap Some (ap (changed_if who f) (same_some there) ∙ own_changed who f h kept own)
changed_at who f (x ∷ xs) (suc hold) h there kept own = changed_at who f xs hold h there kept own

pub record OwnCall (p q : HubView) (before : List Entry) (hold : ℕ) (r : Reply) (answer : Held → Reply) (f : Held → Held) (s : Share) : Type 0 where
  pub h : Held
  pub is : share_of h ≡ s
  pub there : slice_get (held before) hold ≡ Some h
  pub own : h.owner ≡ p.number
  pub kept : h.released ≡ false
  pub holds : held q.seen ≡ changed p.number hold f (held before)
  pub replied : r ≡ answer h
  pub now : slice_get (held q.seen) hold ≡ Some (f h)

pub own_call : (p q : HubView) (hold : ℕ) (event : Event) (r : Reply) (answer : Held → Reply) (f : Held → Held) (k : Keeps p hold) → IsSame p q → (c : HasCalled p q event r)
    → history.answer (past_of c.before) p.number event ≡ refused_or p.number hold (kept_at (held c.before) hold) answer
    → (after_event (past_of c.before) p.number event).holds ≡ changed p.number hold f (held c.before)
    → OwnCall p q c.before hold r answer f k.share
own_call p q hold event r answer f k same c answers changes =
    let st : Stands (held c.before) hold k.share = stands p c.before hold k.share c.goes_on same.some k.there k.own in
    let own : st.h.owner ≡ p.number = ap (λ (s : Share). s.owner) st.is ∙ k.own in
    let kept : st.h.released ≡ false = ap (λ (s : Share). s.released) st.is ∙ k.kept in
    let holds : held q.seen ≡ changed p.number hold f (held c.before) =
    ap held c.seen ∙ ap (λ (past : Past). past.holds) (after_last c.before p.number event) ∙ changes in
    record {
      h = st.h;
      is = st.is;
      there = st.there;
      own = own;
      kept = kept;
      holds = holds;
      replied = c.reply_is ∙ answers ∙ kept_reply (held c.before) p.number hold st.h answer st.there kept own;
      now = ap (λ (hs : List Held). slice_get hs hold) holds ∙ changed_at p.number f (held c.before) hold st.h st.there kept own;
    }

-- the list of the shares of the pass

shares_before : (p q : HubView) (before : List Entry) → IsSame p q → GoesOnFrom p before → shares p.number before ≡ shares p.number p.seen
shares_before p q before same c = ap (shares p.number) c.is ∙ owners_law_holds p.seen c.more p.number (others_of p before c same.some)

later_by : (j m : ℕ) (g : Share → Share) (h : Held) (rest : List (ℕ × Share)) (own : Bool) → (j == m) ≡ false → with_share m g rest ≡ rest
    → with_share m g (cond own ((j, share_of h) ∷ rest) rest) ≡ cond own ((j, share_of h) ∷ rest) rest
later_by j m g h rest true e same = ap (λ b. cond b (j, g (share_of h)) (j, share_of h) ∷ with_share m g rest) e ∙ ap (λ xs. (j, share_of h) ∷ xs) same
later_by j m g h rest false e same = same

later_stay : (owner j m : ℕ) (g : Share → Share) (hs : List Held) → m < j → with_share m g (shares_from owner j hs) ≡ shares_from owner j hs
later_stay owner j m g [] less = refl
later_stay owner j m g (h ∷ hs) less =
    later_by j m g h (shares_from owner (j + 1) hs) (h.owner == owner) (differs j m (λ e. absurd (omega (arith, e, less)))) (later_stay owner (j + 1) m g hs (omega (arith, less)))

head_stays : (k m : ℕ) (g : Share → Share) (h : Held) (rest : List (ℕ × Share)) (own : Bool) → (k == m) ≡ false
    → with_share m g (cond own ((k, share_of h) ∷ rest) rest) ≡ cond own ((k, share_of h) ∷ with_share m g rest) (with_share m g rest)
head_stays k m g h rest true e = ap (λ b. cond b (k, g (share_of h)) (k, share_of h) ∷ with_share m g rest) e
head_stays k m g h rest false e = refl

shares_changed : (owner k m : ℕ) (f : Held → Held) (g : Share → Share) (hs : List Held) (h : Held) → slice_get hs m ≡ Some h → h.released ≡ false → h.owner ≡ owner
    → (f h).owner ≡ h.owner → share_of (f h) ≡ g (share_of h) → shares_from owner k (changed owner m f hs) ≡ with_share (k + m) g (shares_from owner k hs)
shares_changed owner k m f g [] h there kept own same is = absurd (no_some there)
shares_changed owner k zero f g (x ∷ xs) h there kept own same is =
    let here : x ≡ h = same_some there in
    let rest = shares_from owner (k + 1) xs in
    let place : k + 0 ≡ k = omega arith in
    let left : share_if owner k (changed_if owner f x) rest ≡ (k, g (share_of h)) ∷ rest =
    ap (λ (y : Held). share_if owner k y rest) (ap (changed_if owner f) here ∙ own_changed owner f h kept own)
    ∙ ap (λ b. cond b ((k, share_of (f h)) ∷ rest) rest) (eq-eqb (f h).owner owner (same ∙ own))
    ∙ ap (λ s. (k, s) ∷ rest) is in
    let right : with_share (k + 0) g (share_if owner k x rest) ≡ (k, g (share_of h)) ∷ rest =
    ap (λ n. with_share n g (share_if owner k x rest)) place
    ∙ ap (λ (y : Held). with_share k g (share_if owner k y rest)) here
    ∙ ap (λ b. with_share k g (cond b ((k, share_of h) ∷ rest) rest)) (eq-eqb h.owner owner own)
    ∙ ap (λ b. cond b (k, g (share_of h)) (k, share_of h) ∷ with_share k g rest) (eq-eqb k k refl)
    ∙ ap (λ ys. (k, g (share_of h)) ∷ ys) (later_stay owner (k + 1) k g xs (omega arith)) in
    left ∙ sym right
shares_changed owner k (suc m) f g (x ∷ xs) h there kept own same is =
    let rest = shares_from owner (k + 1) xs in
    let place : (k + 1) + m ≡ k + suc m = omega arith in
    ap (share_if owner k x) (shares_changed owner (k + 1) m f g xs h there kept own same is)
    ∙ ap (λ n. share_if owner k x (with_share n g rest)) place
    ∙ sym (head_stays k (k + suc m) g x rest (x.owner == owner) (differs k (k + suc m) (λ e. absurd (omega (arith, e)))))

own_shares : (p q : HubView) (before : List Entry) (hold : ℕ) (r : Reply) (answer : Held → Reply) (f : Held → Held) (g : Share → Share) (s : Share) → IsSame p q → GoesOnFrom p before
    → (o : OwnCall p q before hold r answer f s) → (f o.h).owner ≡ o.h.owner → share_of (f o.h) ≡ g (share_of o.h)
    → shares p.number q.seen ≡ with_share hold g (shares p.number p.seen)
own_shares p q before hold r answer f g s same c o owner is =
    let place : 0 + hold ≡ hold = omega arith in
    ap (shares_from p.number 0) o.holds
    ∙ shares_changed p.number 0 hold f g (held before) o.h o.there o.kept o.own owner is
    ∙ ap (λ n. with_share n g (shares p.number before)) place
    ∙ ap (with_share hold g) (shares_before p q before same c)

-- a Take

same_taken : {a b : Taken} → reply.Taken a ≡ reply.Taken b → a ≡ b
same_taken e = cc

take_call : (p q : HubView) (hold now : ℕ) (r : Reply) (k : Keeps p hold) → IsSame p q → (c : HasCalled p q (Take hold now) r)
    → OwnCall p q c.before hold r (λ (h : Held). reply.Taken (taken_of now h.state)) (taken_from now) k.share
take_call p q hold now r k same c =
    own_call p q hold (Take hold now) r (λ (h : Held). reply.Taken (taken_of now h.state)) (taken_from now) k same c refl refl

pub take_answers : (p q : HubView) (hold now : ℕ) (r : Reply) → Keeps p hold → IsSame p q → HasCalled p q (Take hold now) r → (t : Taken) × (r ≡ reply.Taken t)
take_answers p q hold now r k same c = let o = take_call p q hold now r k same c in (taken_of now o.h.state, o.replied)

share_after : (h : Held) (t : Taken) (s : Share) → share_of h ≡ s → s.released ≡ false
    → (let now : Share = record { owner = h.owner; spec = h.spec; taken = h.taken ++ t.pieces; recovers = h.recovers ++ option_to_list t.recover; told = t.ended; released = h.released || is_some t.ended } in now) ≡ share_with s t
share_after h t s is kept =
    let gone : h.released ≡ false = ap (λ (x : Share). x.released) is ∙ kept in
    ap (λ b. let now : Share = record { owner = h.owner; spec = h.spec; taken = h.taken ++ t.pieces; recovers = h.recovers ++ option_to_list t.recover; told = t.ended; released = b || is_some t.ended } in now) gone
    ∙ ap (λ (x : Share). share_with x t) is

pub took : (p q : HubView) (hold now : ℕ) (t : Taken) → Keeps p hold → IsSame p q → HasCalled p q (Take hold now) (reply.Taken t) → HasTaken p q hold now t
took p q hold now t k same c =
    let o = take_call p q hold now (reply.Taken t) k same c in
    let gave : t ≡ taken_of now o.h.state = same_taken o.replied in
    let share : share_at (held q.seen) hold ≡ Some (share_with k.share t) =
    ap (option_map share_of) o.now ∙ ap Some (share_after o.h (taken_of now o.h.state) k.share o.is k.kept ∙ ap (share_with k.share) (sym gave)) in
    record {
      made = made p q (Take hold now) (reply.Taken t) same c;
      fits = λ before is.
          let spec : o.h.spec ≡ before.spec = ap (λ (s : Share). s.spec) (o.is ∙ same_some (sym k.there ∙ is)) in
          subst (λ (x : Taken). TakenFits before.spec x) (sym gave) (subst (λ (x : HoldSpec). TakenFits x (taken_of now o.h.state)) spec (kind_law_holds c.before hold now o.h o.there o.kept));
      shares = own_shares p q c.before hold (reply.Taken t) (λ (h : Held). reply.Taken (taken_of now h.state)) (taken_from now) (λ s. share_with s t) k.share same c.goes_on o refl
          (share_after o.h (taken_of now o.h.state) (share_of o.h) refl o.kept ∙ ap (share_with (share_of o.h)) (sym gave));
      share = λ before is. share ∙ ap (λ (s : Share). Some (share_with s t)) (same_some (sym k.there ∙ is));
      keeps = λ e. record { share = share_with k.share t; there = share; own = k.own ∙ sym same.number; kept = ap is_some e };
    }

-- an event that moves no share of a hold

pub unmoved : (p q : HubView) (event : Event) (before : List Entry) → q.seen ≡ before ++ entry_of p.number event ∷ [] → (MovesShares event → ⊥) → IsSame p q → GoesOnFrom p before
    → shares p.number q.seen ≡ shares p.number p.seen
unmoved p q event before seen moves same c =
    let still : Entry → Type 0 = λ (entry : Entry). MovesShares entry.event → ⊥ in
    ap (shares p.number) seen
    ∙ moves_law_holds before (entry_of p.number event ∷ []) p.number (All-cons still (entry_of p.number event) [] moves (All-nil still))
    ∙ shares_before p q before same c

pub same_share : (p q : HubView) (before : List Entry) (hold : ℕ) (r : Reply) (answer : Held → Reply) (f : Held → Held) (k : Keeps p hold) → (o : OwnCall p q before hold r answer f k.share) → share_of (f o.h) ≡ share_of o.h
    → share_at (held q.seen) hold ≡ share_at (held p.seen) hold
same_share p q before hold r answer f k o is = ap (option_map share_of) o.now ∙ ap Some (is ∙ o.is) ∙ sym k.there

pub keeps_on : (p q : HubView) (hold : ℕ) → (k : Keeps p hold) → IsSame p q → share_at (held q.seen) hold ≡ share_at (held p.seen) hold → Keeps q hold
keeps_on p q hold k same share = record { share = k.share; there = share ∙ k.there; own = k.own ∙ sym same.number; kept = k.kept }

-- another kind, by what the hold was attached with

same_kind : {a b : HoldKind} → reply.OtherKind a ≡ reply.OtherKind b → a ≡ b
same_kind e = cc

pub other_by : (other kind : HoldKind) (ended : Option EndCause) (has : Bool) (rest : Reply) → (reply.OtherKind other ≡ rest → ⊥) → reply.OtherKind other ≡ reply_or (refusal ended has kind) rest → (other ≡ kind) × (has ≡ false)
other_by other kind (Some cause) has rest none e = absurd cc
other_by other kind None true rest none e = absurd (none e)
other_by other kind None false rest none e = (same_kind e, refl)

other_kind : (before : List Entry) (hold : ℕ) (h : Held) (other : HoldKind) (rest : Reply) → slice_get (held before) hold ≡ Some h → (reply.OtherKind other ≡ rest → ⊥)
    → reply.OtherKind other ≡ reply_or (page_refusal h.state) rest → IsOtherKind h.spec other
other_kind before hold h other rest there none e =
    let is = other_by other h.state.terms.kind h.state.ended (is_stream h.state.terms.kind) rest none e in
    let sound = all_at (IsSound (published_items before)) (held before) hold h (are_sound before) there in
    record { own = is.0 ∙ kind_is h.spec h.state.terms sound.terms_are; other = ap is_stream is.0 ∙ is.1 }

pub spec_of : (p q : HubView) (before : List Entry) (hold : ℕ) (r : Reply) (answer : Held → Reply) (f : Held → Held) (k : Keeps p hold) → (o : OwnCall p q before hold r answer f k.share)
    → (s : Share) → share_at (held p.seen) hold ≡ Some s → o.h.spec ≡ s.spec
spec_of p q before hold r answer f k o s is = ap (λ (x : Share). x.spec) (o.is ∙ same_some (sym k.there ∙ is))

-- a page

page_call : (p q : HubView) (hold : ℕ) (page : RecoveryPage) (r : Reply) (k : Keeps p hold) → IsSame p q → (c : HasCalled p q (page_event hold page) r)
    → OwnCall p q c.before hold r (λ (h : Held). holds.page_reply page.from h.state) (paged_from (window c.before) page) k.share
page_call p q hold page r k same c = own_call p q hold (page_event hold page) r (λ (h : Held). holds.page_reply page.from h.state) (paged_from (window c.before) page) k same c refl refl

page_by : (from position : List ℕ) (r : Reply) (ended : Option EndCause) (has begins : Bool) (kind : HoldKind) → r ≡ reply_or (refusal ended has kind) (cond begins reply.Paged (reply.Stale from position))
    → (a : PageReply) × (r ≡ page_reply from a)
page_by from position r (Some cause) has begins kind e = (answer.Gone cause, e)
page_by from position r None true true kind e = (answer.Paged, e)
page_by from position r None true false kind e = (answer.Stale position, e)
page_by from position r None false begins kind e = (answer.OtherKind kind, e)

pub page_answers : (p q : HubView) (hold : ℕ) (page : RecoveryPage) (r : Reply) → Keeps p hold → IsSame p q → HasCalled p q (page_event hold page) r → (a : PageReply) × (r ≡ page_reply page.from a)
page_answers p q hold page r k same c =
    let o = page_call p q hold page r k same c in
    let s = o.h.state in
    page_by page.from (id_or s.position []) r s.ended (is_stream s.terms.kind) (begins_at s.position page.from) s.terms.kind o.replied

no_kind : (other : HoldKind) (from position : List ℕ) (begins : Bool) → reply.OtherKind other ≡ cond begins reply.Paged (reply.Stale from position) → ⊥
no_kind other from position true e = cc
no_kind other from position false e = cc

pub paged : (p q : HubView) (hold : ℕ) (page : RecoveryPage) (a : PageReply) → Keeps p hold → IsSame p q → HasCalled p q (page_event hold page) (page_reply page.from a) → HasPaged p q hold page a
unfolding made
paged p q hold page a k same c =
    let r = page_reply page.from a in
    let o = page_call p q hold page r k same c in
    let f = paged_from (window c.before) page in
    let answer : Held → Reply = λ h. holds.page_reply page.from h.state in
    let at = o.h.state.position in
    let rest = cond (begins_at at page.from) reply.Paged (reply.Stale page.from (id_or at [])) in
    let share : share_at (held q.seen) hold ≡ share_at (held p.seen) hold = same_share p q c.before hold r answer f k o refl in
    record {
      made = made p q (page_event hold page) r same c;
      stood = o.h;
      there = o.there;
      answered = o.replied;
      left = o.now;
      kind = λ before kind is e.
          subst (λ (spec : HoldSpec). IsOtherKind spec kind) (spec_of p q c.before hold r answer f k o before is)
          (other_kind c.before hold o.h kind rest o.there (no_kind kind page.from (id_or at []) (begins_at at page.from)) (sym (ap (page_reply page.from) e) ∙ o.replied));
      shares = unmoved p q (page_event hold page) c.before c.seen (λ moves. moves) same c.goes_on;
      share = share;
      keeps = keeps_on p q hold k same share;
    }

-- a page that can't be had

failed_call : (p q : HubView) (hold : ℕ) (r : Reply) (k : Keeps p hold) → IsSame p q → (c : HasCalled p q (PageFailed hold) r) → OwnCall p q c.before hold r (λ (h : Held). failure_reply h.state) failed k.share
failed_call p q hold r k same c = own_call p q hold (PageFailed hold) r (λ (h : Held). failure_reply h.state) failed k same c refl refl

failed_by : (r : Reply) (ended : Option EndCause) (has : Bool) (kind : HoldKind) → r ≡ reply_or (refusal ended has kind) reply.Done → (a : FailedReply) × (r ≡ failed_reply a)
failed_by r (Some cause) has kind e = (failure.Gone cause, e)
failed_by r None true kind e = (failure.Done, e)
failed_by r None false kind e = (failure.OtherKind kind, e)

pub failed_answers : (p q : HubView) (hold : ℕ) (r : Reply) → Keeps p hold → IsSame p q → HasCalled p q (PageFailed hold) r → (a : FailedReply) × (r ≡ failed_reply a)
failed_answers p q hold r k same c =
    let o = failed_call p q hold r k same c in
    let s = o.h.state in
    failed_by r s.ended (is_stream s.terms.kind) s.terms.kind o.replied

pub page_failed : (p q : HubView) (hold : ℕ) (a : FailedReply) → Keeps p hold → IsSame p q → HasCalled p q (PageFailed hold) (failed_reply a) → HasFailed p q hold a
unfolding made
page_failed p q hold a k same c =
    let r = failed_reply a in
    let o = failed_call p q hold r k same c in
    let answer : Held → Reply = λ h. failure_reply h.state in
    let share : share_at (held q.seen) hold ≡ share_at (held p.seen) hold = same_share p q c.before hold r answer failed k o refl in
    record {
      made = made p q (PageFailed hold) r same c;
      stood = o.h;
      there = o.there;
      answered = o.replied;
      left = o.now;
      kind = λ before kind is e.
          subst (λ (spec : HoldSpec). IsOtherKind spec kind) (spec_of p q c.before hold r answer failed k o before is)
          (other_kind c.before hold o.h kind reply.Done o.there (λ (n : reply.OtherKind kind ≡ reply.Done). cc) (sym (ap failed_reply e) ∙ o.replied));
      shares = unmoved p q (PageFailed hold) c.before c.seen (λ moves. moves) same c.goes_on;
      share = share;
      keeps = keeps_on p q hold k same share;
    }

-- a Detach

pub detached : (p q : HubView) (hold : ℕ) (r : Reply) → Keeps p hold → IsSame p q → HasCalled p q (Detach hold) r → HasDetached p q hold
detached p q hold r k same c =
    let o = own_call p q hold (Detach hold) r (λ (h : Held). reply.Done) let_go k same c refl refl in
    let share : share_at (held q.seen) hold ≡ Some (share_gone k.share) = ap (option_map share_of) o.now ∙ ap (λ (s : Share). Some (share_gone s)) o.is in
    record {
      made = made p q (Detach hold) reply.Done same (subst (HasCalled p q (Detach hold)) o.replied c);
      shares = own_shares p q c.before hold r (λ (h : Held). reply.Done) let_go share_gone k.share same c.goes_on o refl refl;
      share = λ before is. share ∙ ap (λ (s : Share). Some (share_gone s)) (same_some (sym k.there ∙ is));
    }

-- an Attach

attach_by : (number : ℕ) (r : Reply) (place : Bool) → r ≡ cond place (reply.Attached number) (reply.Full 4096) → (hold : Option ℕ) × (r ≡ attach_reply hold)
attach_by number r true e = (Some number, e)
attach_by number r false e = (None, e)

pub attach_answers : (p q : HubView) (spec : HoldSpec) (r : Reply) → HasCalled p q (Attach spec) r → (hold : Option ℕ) × (r ≡ attach_reply hold)
attach_answers p q spec r c = attach_by (length (held c.before)) r (has_place (held c.before)) c.reply_is

new_at : (holds : List Held) (h : Held) → slice_get (holds ++ h ∷ []) (length holds) ≡ Some h
new_at [] h = refl
new_at (x ∷ xs) h = new_at xs h

more_if : (b : Bool) (x y : ℕ × Share) (rest : List (ℕ × Share)) → cond b (x ∷ (rest ++ y ∷ [])) (rest ++ y ∷ []) ≡ cond b (x ∷ rest) rest ++ y ∷ []
more_if true x y rest = refl
more_if false x y rest = refl

new_shares : (owner k : ℕ) (holds : List Held) (h : Held) → h.owner ≡ owner → shares_from owner k (holds ++ h ∷ []) ≡ shares_from owner k holds ++ (k + length holds, share_of h) ∷ []
new_shares owner k [] h own =
    let here : k ≡ k + 0 = omega arith in
    ap (λ b. cond b ((k, share_of h) ∷ []) []) (eq-eqb h.owner owner own) ∙ ap (λ n. (n, share_of h) ∷ []) here
new_shares owner k (x ∷ xs) h own =
    let rest = shares_from owner (k + 1) xs in
    let there : (k + 1) + length xs ≡ k + suc (length xs) = omega arith in
    ap (λ ys. cond (x.owner == owner) ((k, share_of x) ∷ ys) ys) (new_shares owner (k + 1) xs h own)
    ∙ more_if (x.owner == owner) (k, share_of x) ((k + 1) + length xs, share_of h) rest
    ∙ ap (λ n. cond (x.owner == owner) ((k, share_of x) ∷ rest) rest ++ (n, share_of h) ∷ []) there

placed : (past : Past) (h : Held) (hold : ℕ) (place : Bool) → reply.Attached hold ≡ cond place (reply.Attached (length past.holds)) (reply.Full 4096)
    → (hold ≡ length past.holds) × ((cond place (with_hold past h) past).holds ≡ past.holds ++ h ∷ [])
placed past h hold true e = (cc, refl)
placed past h hold false e = absurd cc

new_hold : (p q : HubView) (spec : HoldSpec) (hold : ℕ) → IsSame p q → HasCalled p q (Attach spec) (reply.Attached hold) → HasNewHold p q spec hold
new_hold p q spec hold same c =
    let past = past_of c.before in
    let h : Held = begun p.number spec (last_items past.published) in
    let at = placed past h hold (has_place past.holds) c.reply_is in
    let holds : held q.seen ≡ past.holds ++ h ∷ [] = ap held c.seen ∙ ap (λ (x : Past). x.holds) (after_last c.before p.number (Attach spec)) ∙ at.1 in
    let share : share_at (held q.seen) hold ≡ Some (fresh_share p.number spec) =
    ap (λ (hs : List Held). share_at hs hold) holds ∙ ap (λ n. share_at (past.holds ++ h ∷ []) n) at.0 ∙ ap (option_map share_of) (new_at past.holds h) in
    let number : 0 + length past.holds ≡ hold = omega (arith, at.0) in
    let mine_is = shares_before p q c.before same c.goes_on in
    record {
      made = made p q (Attach spec) (reply.Attached hold) same c;
      share = share;
      keeps = record { share = fresh_share p.number spec; there = share; own = sym same.number; kept = refl };
      shares = ap (shares_from p.number 0) holds ∙ new_shares p.number 0 past.holds h refl ∙ ap (λ n. shares p.number c.before ++ (n, fresh_share p.number spec) ∷ []) number
          ∙ ap (λ xs. xs ++ (hold, fresh_share p.number spec) ∷ []) mine_is;
    }

full_shares : (owner : ℕ) (past : Past) (h : Held) (place : Bool) → reply.Full 4096 ≡ cond place (reply.Attached (length past.holds)) (reply.Full 4096)
    → shares_from owner 0 (cond place (with_hold past h) past).holds ≡ shares_from owner 0 past.holds
full_shares owner past h true e = absurd cc
full_shares owner past h false e = refl

pub attached : (p q : HubView) (spec : HoldSpec) (hold : Option ℕ) → IsSame p q → HasCalled p q (Attach spec) (attach_reply hold) → HasAttached p q spec hold
attached p q spec (Some hold) same c = new_hold p q spec hold same c
attached p q spec None same c = record {
  made = made p q (Attach spec) (reply.Full 4096) same c;
  shares = ap (shares p.number) c.seen
      ∙ ap (λ (past : Past). shares_from p.number 0 past.holds) (after_last c.before p.number (Attach spec))
      ∙ full_shares p.number (past_of c.before) (begun p.number spec (last_items (past_of c.before).published)) (has_place (held c.before)) c.reply_is
      ∙ shares_before p q c.before same c.goes_on;
}

-- a Publish

publish_by : (id : List ℕ) (n : ℕ) (r : Reply) (repeat : Bool) → r ≡ cond repeat (reply.Repeat id) (reply.Published n) → (count : Option ℕ) × (r ≡ publish_reply id count)
publish_by id n r true e = (None, e)
publish_by id n r false e = (Some n, e)

pub publish_answers : (p q : HubView) (item : Item) (r : Reply) → HasCalled p q (Publish item) r → (count : Option ℕ) × (r ≡ publish_reply (id_or item.id []) count)
publish_answers p q item r c =
    let past = past_of c.before in
    publish_by (id_or item.id []) (grown_count past item) r (is_repeat (last_items past.published) item) c.reply_is

pub published : (p q : HubView) (item : Item) (count : Option ℕ) → IsSame p q → HasCalled p q (Publish item) (publish_reply (id_or item.id []) count) → HasPublished p q item count
published p q item count same c =
    let past = past_of c.before in
    record {
      made = made p q (Publish item) (publish_reply (id_or item.id []) count) same c;
      shares = ap (shares p.number) c.seen
          ∙ ap (λ (past : Past). shares_from p.number 0 past.holds) (after_last c.before p.number (Publish item))
          ∙ published_shares p.number past item (is_repeat (last_items past.published) item)
          ∙ shares_before p q c.before same c.goes_on;
    }

-- a fresh pass

pub fresh_law_holds : FreshLaw
fresh_law_holds = λ p some none.
    let all = others_by_number who_of p p.seen some none in
    (none_own p.number p.seen all, owners_law_holds [] p.seen p.number all)
