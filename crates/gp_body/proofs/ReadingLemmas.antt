-- How a reading goes over several bytes.
use Rattle.std.proofs.Common.{◌≡◌, ℕ, zero, suc, ◌+◌, ◌-◌, ◌^◌, ◌<◌, ◌≤◌, min, Bool, true, false, not, ◌||◌, List, [], ◌∷◌, ◌++◌, length, take, drop, get_or, Option, Some, None, refl, sym, ap, ◌∙◌, arith, append_assoc, add-zero, take-append-drop, length-append}
use Rattle.std.proofs.lemmas.Bool.{cond_both}
use Rattle.std.proofs.lemmas.List.{take_more}
use Rattle.gp_body.specs.declared.state.State.{State}
use Rattle.gp_body.specs.declared.fed.FedFault.{FedFault}
use Rattle.gp_body.specs.declared.fed.FedFault.TheVariants.{Chunk}
use Rattle.gp_body.specs.declared.reading.Reading.{Reading}
use Rattle.gp_body.specs.Steps.{is_end, is_content, is_framing, after}
use Rattle.gp_body.specs.Readings.{has_stopped, is_full, refused_by, moved_or_refused, step, given_of, after_all, content_from, Refuses}

pub after_all-append : (xs ys : List ℕ) (r : Reading) → after_all (xs ++ ys) r ≡ after_all ys (after_all xs r)
unfolding after_all
after_all-append [] ys r = refl
after_all-append (x ∷ xs) ys r = after_all-append xs ys (step x r)

pub content-append : (xs ys : List ℕ) (r : Reading) → content_from (xs ++ ys) r ≡ content_from xs r ++ content_from ys (after_all xs r)
unfolding after_all content_from
content-append [] ys r = refl
content-append (x ∷ xs) ys r =
    ap (λ (c : List ℕ). given_of x r ++ c) (content-append xs ys (step x r)) ∙ sym (append_assoc (given_of x r) (content_from xs (step x r)) (content_from ys (after_all xs (step x r))))

-- a reading that has stopped takes nothing more
pub step_stopped : (b : ℕ) (r : Reading) → has_stopped r ≡ true → step b r ≡ r
unfolding step
step_stopped b r h = rw h refl

pub given_stopped : (b : ℕ) (r : Reading) → has_stopped r ≡ true → given_of b r ≡ []
unfolding given_of
given_stopped b r h = rw h refl

pub stays : (bs : List ℕ) (r : Reading) → has_stopped r ≡ true → after_all bs r ≡ r
unfolding after_all
stays [] r h = refl
stays (b ∷ bs) r h = ap (after_all bs) (step_stopped b r h) ∙ stays bs r h

pub gives_none : (bs : List ℕ) (r : Reading) → has_stopped r ≡ true → content_from bs r ≡ []
unfolding content_from
gives_none [] r h = refl
gives_none (b ∷ bs) r h = rw (given_stopped b r h, step_stopped b r h) (gives_none bs r h)

given_few : (b : ℕ) (r : Reading) → length (given_of b r) ≤ 1
unfolding given_of
given_few b r =
    cond_both (has_stopped r) [] _ (λ (x : List ℕ). length x ≤ 1) (λ e. omega arith)
    (λ e. cond_both (is_full r) [] _ (λ (x : List ℕ). length x ≤ 1) (λ f. omega arith)
    (λ f. cond_both (is_content r.state) (b ∷ []) [] (λ (x : List ℕ). length x ≤ 1) (λ g. omega arith) (λ g. omega arith)))

-- no more content than bytes
pub content_few : (bs : List ℕ) (r : Reading) → length (content_from bs r) ≤ length bs
unfolding content_from
content_few [] r = omega arith
content_few (b ∷ bs) r = omega (arith, given_few b r, content_few bs (step b r), length-append (given_of b r) (content_from bs (step b r)))

-- what framing is
pub not_end : (e c : Bool) → not (e || c) ≡ true → e ≡ false
not_end true c h = cc
not_end false c h = refl

not_content : (e c : Bool) → not (e || c) ≡ true → c ≡ false
not_content true c h = cc
not_content false true h = cc
not_content false false h = refl

pub framing_goes_on : (r : Reading) → r.refused ≡ None → is_framing r.state ≡ true → has_stopped r ≡ false
framing_goes_on r none framing = rw (none, not_end (is_end r.state) (is_content r.state) framing) refl

-- a byte that isn't content
pub step_framing : (b : ℕ) (r : Reading) → r.refused ≡ None → is_framing r.state ≡ true → step b r ≡ moved_or_refused (after r.state b) r
unfolding step
step_framing b r none framing =
    rw (framing_goes_on r none framing, not_content (is_end r.state) (is_content r.state) framing) refl

pub given_framing : (b : ℕ) (r : Reading) → r.refused ≡ None → is_framing r.state ≡ true → given_of b r ≡ []
unfolding given_of
given_framing b r none framing =
    rw (framing_goes_on r none framing, not_content (is_end r.state) (is_content r.state) framing) refl

-- what the code's loop does at a byte that isn't content
pub one_more : (bytes : List ℕ) (i : ℕ) (r now : Reading) → i < length bytes → now ≡ after_all (take i bytes) r → now.refused ≡ None → is_framing now.state ≡ true
    → after_all (take (i + 1) bytes) r ≡ moved_or_refused (after now.state (get_or bytes i 0)) now
unfolding after_all
one_more bytes i r now inside so_far none framing =
    rw (take_more bytes i 0 inside, after_all-append (take i bytes) (get_or bytes i 0 ∷ []) r, ← so_far) (step_framing (get_or bytes i 0) now none framing)

pub one_more_none : (bytes : List ℕ) (i : ℕ) (r now : Reading) → i < length bytes → now ≡ after_all (take i bytes) r → content_from (take i bytes) r ≡ [] → now.refused ≡ None → is_framing now.state ≡ true
    → content_from (take (i + 1) bytes) r ≡ []
unfolding content_from
one_more_none bytes i r now inside so_far before none framing =
    rw (take_more bytes i 0 inside, content-append (take i bytes) (get_or bytes i 0 ∷ []) r, ← so_far, before, given_framing (get_or bytes i 0) now none framing) refl

-- behind a refusal nothing more is read
refused_stops : (r : Reading) (fault : FedFault) → r.refused ≡ Some fault → has_stopped r ≡ true
refused_stops r fault e = rw e refl

pub refused_all : (xs ys : List ℕ) (r now : Reading) (fault : FedFault) → now ≡ after_all xs r → now.refused ≡ Some fault → now ≡ after_all (xs ++ ys) r
refused_all xs ys r now fault e told = sym (after_all-append xs ys r ∙ ap (after_all ys) (sym e) ∙ stays ys now (refused_stops now fault told))

pub refused_none : (xs ys : List ℕ) (r now : Reading) (fault : FedFault) → now ≡ after_all xs r → now.refused ≡ Some fault → content_from xs r ≡ [] → content_from (xs ++ ys) r ≡ []
refused_none xs ys r now fault e told none =
    rw (content-append xs ys r, none, ← e) (gives_none ys now (refused_stops now fault told))

-- a byte was taken where the first one isn't what is waited for at the end
pub has_moved : (bytes : List ℕ) (n : ℕ) (r now : Reading) → now ≡ after_all (take n bytes) r → is_framing now.state ≡ false → is_framing r.state ≡ true → 0 < n
unfolding after_all
has_moved bytes zero r now e stopped framing = let same : now.state ≡ r.state = ap (λ (x : Reading). x.state) e in cc
has_moved bytes (suc n) r now e stopped framing = omega arith

pub moved_framing : (now : Reading) (s : State) (place : ℕ) → is_framing now.state ≡ true → place ≡ min (now.place + 1) (2 ^ 64 - 1)
    → moved_or_refused (Some s) now ≡ record { state = s; refused = now.refused; limit = now.limit; place = place; given = now.given }
moved_framing now s place framing e =
    rw (not_content (is_end now.state) (is_content now.state) framing, ← e, add-zero now.given) refl

-- the grammar can't go on at a byte
pub refused_from : (bytes : List ℕ) (i : ℕ) (r now : Reading) → i < length bytes → now ≡ after_all (take i bytes) r → content_from (take i bytes) r ≡ [] → now.refused ≡ None
    → is_framing now.state ≡ true → after now.state (get_or bytes i 0) ≡ None → Refuses r bytes (Chunk now.place) (refused_by (Chunk now.place) now)
refused_from bytes i r now inside so_far before none framing bad =
    let behind : after_all (take (i + 1) bytes) r ≡ refused_by (Chunk now.place) now =
    one_more bytes i r now inside so_far none framing ∙ ap (λ (o : Option State). moved_or_refused o now) bad in
    let all = refused_all (take (i + 1) bytes) (drop (i + 1) bytes) r (refused_by (Chunk now.place) now) (Chunk now.place) (sym behind) refl in
    let nothing = refused_none (take (i + 1) bytes) (drop (i + 1) bytes) r (refused_by (Chunk now.place) now) (Chunk now.place) (sym behind) refl (one_more_none bytes i r now inside so_far before none framing) in
    let whole : take (i + 1) bytes ++ drop (i + 1) bytes ≡ bytes = take-append-drop (i + 1) bytes in
    record {
      reading = rw whole at all;
      no_content = rw whole at nothing;
      told = refl;
    }
