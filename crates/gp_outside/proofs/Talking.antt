-- Talks that are kept as parts of one list of bytes, as it grows at its end.
use Rattle.std.proofs.Common.{◌≡◌, ℕ, ◌+◌, ◌<◌, ◌≤◌, Bool, true, slice_get, option_map, Result, Ok, Err, is_ok, if◌then◌else◌, All, length, List, [], ◌∷◌, ◌++◌, map, take, drop, arith, ap, ◌∙◌, sym, refl, Option, Some, None, length-drop, length-append}
use Rattle.std.specs.Result.{OnErr}
use Rattle.std.specs.List.{AllByRecursion}
use Rattle.std.proofs.Math.Seq.{take-add, drop-append_seam}
use Rattle.std.proofs.lemmas.Bool.{le-leb}
use Rattle.std.proofs.lemmas.List.{take_all, take-append-le, drop-append-le}
use Rattle.std.proofs.lemmas.List.Elements.{recursion_from_All}
use Rattle.gp_plain.specs.declared.http.Address.{Address}
use Rattle.gp_outside.specs.Talks.{Talk, dialed, wrote, came}
use Rattle.gp_outside.specs.MemDials.{DialState, begun_if_room, begun_with, in_talk, in_talk_by}
use Rattle.gp_outside.specs.Kept.{IsWithin, talk_of, talks_of}
use Rattle.gp_outside.specs.declared.mem_dial.Kept.{Kept}

-- what was added where there was room
pub added : {A E : Type 0} (r : Result A E) (was now more : List ℕ) (room all : ℕ) → now ≡ (if is_ok r then was ++ more else was) → OnErr r (room < all) → all ≤ room → now ≡ was ++ more
added (Ok x) was now more room all is full fits = is
added (Err e) was now more room all is full fits = absurd (omega (arith, full, fits))

-- a part of the bytes stays as it was
part_stays : (bytes more : List ℕ) (d n : ℕ) → d + n ≤ length bytes → take n (drop d (bytes ++ more)) ≡ take n (drop d bytes)
part_stays bytes more d n le =
    ap (take n) (drop-append-le d bytes more (omega (arith, le))) ∙ take-append-le n (drop d bytes) more (omega (arith, le, length-drop d bytes))

talk_at : Address → List ℕ → List ℕ → Talk
talk_at to sent received = record { to = to; sent = sent; received = received }

talk_stays : (bytes more : List ℕ) (k : Kept) → IsWithin (length bytes) k → talk_of (bytes ++ more) k ≡ talk_of bytes k
talk_stays bytes more k within =
    rw (part_stays bytes more k.from k.host (omega (arith, within)), part_stays bytes more (k.from + k.host) k.sent (omega (arith, within))) refl

over_stays : (bytes more : List ℕ) (over : List Kept) → AllByRecursion (IsWithin (length bytes)) over → map (talk_of (bytes ++ more)) over ≡ map (talk_of bytes) over
over_stays bytes more [] within = refl
over_stays bytes more (k ∷ over) within = rw (talk_stays bytes more k within.0, over_stays bytes more over within.1) refl

pub talks_stay : (bytes more : List ℕ) (over : List Kept) → All (IsWithin (length bytes)) over → map (talk_of (bytes ++ more)) over ≡ map (talk_of bytes) over
talks_stay bytes more over within = over_stays bytes more over (recursion_from_All (IsWithin (length bytes)) over within)

-- what stands last grows
last_grows : (bytes more : List ℕ) (d n : ℕ) → d + n ≡ length bytes → take (n + length more) (drop d (bytes ++ more)) ≡ take n (drop d bytes) ++ more
last_grows bytes more d n is =
    let len = length-drop d bytes in
    ap (take (n + length more)) (drop-append-le d bytes more (omega (arith, is)))
    ∙ take_all (n + length more) (drop d bytes ++ more) (omega (arith, is, len, length-append (drop d bytes) more))
    ∙ ap (λ (xs : List ℕ). xs ++ more) (sym (take_all n (drop d bytes) (omega (arith, is, len))))

pub talks_sent : (bytes more : List ℕ) (over : List Kept) (k : Kept) → All (IsWithin (length bytes)) over → k.from + k.host + k.sent ≡ length bytes
    → talks_of (bytes ++ more) over (Some (record k { sent = k.sent + length more })) ≡ wrote more (talks_of bytes over (Some k))
talks_sent bytes more over k within last =
    rw (talks_stay bytes more over within, part_stays bytes more k.from k.host (omega (arith, last)), last_grows bytes more (k.from + k.host) k.sent last) refl

pub talks_received : (bytes : List ℕ) (over : List Kept) (k : Kept) (n : ℕ)
    → talks_of bytes over (Some (record k { done = k.done + n })) ≡ came (take n (drop k.done k.answer)) (talks_of bytes over (Some k))
talks_received bytes over k n = rw (take-add k.done n k.answer) refl

pub talks_begun : (bytes host : List ℕ) (over : List Kept) (port : ℕ) (answer : List ℕ) → All (IsWithin (length bytes)) over
    → talks_of (bytes ++ host) over (Some (record { from = length bytes; host = length host; sent = 0; port = port; answer = answer; done = 0 })) ≡ dialed (record { host = host; port = port }) (talks_of bytes over None)
talks_begun bytes host over port answer within =
    rw (talks_stay bytes host over within, drop-append_seam bytes host, take_all (length host) host (omega arith)) refl

absurd_none : {A B : Type 0} {x : A} → Some x ≡ None → B
absurd_none is = cc

begun_first : (dial : DialState) (to : Address) (answer : List ℕ) (answers : List (List ℕ)) → Some answer ≡ slice_get answers 0 → begun_if_room true dial to answers ≡ Some (begun_with dial to answer (drop 1 answers))
begun_first dial to answer [] first = absurd_none first
begun_first dial to answer (a ∷ answers) first = let same : a ≡ answer = cc first in ap (λ (x : List ℕ). Some (begun_with dial to x answers)) same

pub no_talk : {A : Type 0} (f : A → Talk) (x : Option A) → option_map f x ≡ None → x ≡ None
no_talk f None is = refl
no_talk f (Some x) is = absurd_none is

-- the next talk begins where there is room for its host, and an answer
pub begins : (dial : DialState) (to : Address) (answer : List ℕ) → dial.talks.present ≡ None → length to.host ≤ dial.room → Some answer ≡ slice_get dial.answers 0 → in_talk dial to ≡ Some (begun_with dial to answer (drop 1 dial.answers))
begins dial to answer none room first = ap (λ (p : Option Talk). in_talk_by p dial to) none ∙ ap (λ (b : Bool). begun_if_room b dial to dial.answers) (le-leb (length to.host) dial.room room) ∙ begun_first dial to answer dial.answers first
