-- Writes one after another, and segments one after another.
use Rattle.std.proofs.Common.{◌≡◌, ◌≢◌, ℕ, ◌+◌, ◌-◌, ◌<◌, ◌≤◌, length, List, [], ◌++◌, take, drop, arith, ap, ◌∙◌, sym, refl, append_assoc, length-drop, length-append, Option, Some, None}
use Rattle.std.proofs.lemmas.List.{take_all, take-append-drop}
use Rattle.std.proofs.lemmas.Grind.{common_steps}
use Rattle.gp_outside.specs.Counts.{grown}
use Rattle.gp_outside.specs.Links.{LinkTells, LinkLater, IsLinkWrite}
use Rattle.gp_outside.specs.declared.link.Put.TheVariants.{Took}
use Rattle.gp_outbox.specs.Flush.{Passed}

grown_twice : (told : Option (List ℕ)) (some more : List ℕ) → grown (grown told some) more ≡ grown told (some ++ more)
grown_twice None some more = refl
grown_twice (Some bytes) some more = ap Some (append_assoc bytes some more)

later_later : (a b c : LinkTells) → LinkLater a b → LinkLater b c → LinkLater a c
later_later a b c h k = record { faults = omega (arith, h.faults, k.faults); read_waits = omega (arith, h.read_waits, k.read_waits); write_waits = omega (arith, h.write_waits, k.write_waits); ends = omega (arith, h.ends, k.ends) }

-- the slice that is handed over from a place
abbrev from_on : ℕ → List ℕ → List ℕ
from_on done front = take (length front - done) (drop done front)

from_all : (done : ℕ) (front : List ℕ) → from_on done front ≡ drop done front
from_all done front = take_all (length front - done) (drop done front) (omega (arith, length-drop done front))

drop_twice : (front : List ℕ) (done n : ℕ) → drop n (drop done front) ≡ drop (done + n) front
drop_twice front done n = grind (arith, common_steps)

-- a write after those before it
pub passed_more : (a b c : LinkTells) (was front rest given : List ℕ) (done n : ℕ) → given ≡ front → Passed a b was (drop done front ++ rest) → IsLinkWrite b c (from_on done given) (Took n) → Passed a c was (drop (done + n) front ++ rest)
passed_more a b c was front rest given done n same p w =
    let out = take n (drop done front) in
    let cut : drop done front ++ rest ≡ out ++ (drop (done + n) front ++ rest) =
    ap (λ (xs : List ℕ). xs ++ rest) (sym (take-append-drop n (drop done front)) ∙ ap (λ (xs : List ℕ). out ++ xs) (drop_twice front done n)) ∙ append_assoc out (drop (done + n) front) rest in
    let sent : c.sent ≡ grown b.sent out = w.moved.2 ∙ ap (λ (xs : List ℕ). grown b.sent (take n xs)) (from_all done given ∙ ap (drop done) same) in
    record {
      out = p.out ++ out;
      split = p.split ∙ ap (λ (xs : List ℕ). p.out ++ xs) cut ∙ sym (append_assoc p.out out (drop (done + n) front ++ rest));
      sent = sent ∙ ap (λ (told : Option (List ℕ)). grown told out) p.sent ∙ grown_twice a.sent p.out out;
      received = w.received ∙ p.received;
      read_waits = w.read_waits ∙ p.read_waits;
      ends = w.ends ∙ p.ends;
      later = later_later a b c p.later w.later;
    }

pub within_write : (b c : LinkTells) (front given : List ℕ) (done n : ℕ) → given ≡ front → done ≤ length front → IsLinkWrite b c (from_on done given) (Took n) → done + n ≤ length front
within_write b c front given done n same le w =
    let m : n ≤ length (from_on done given) = w.moved.1 in
    let l : length (from_on done given) ≡ length front - done = ap length (from_all done given) ∙ length-drop done given ∙ ap (λ (xs : List ℕ). length xs - done) same in
    omega (arith, le, m, l)

-- something waits where the front segment wasn't sent whole
pub some_wait : (front rest : List ℕ) (done : ℕ) → done < length front → drop done front ++ rest ≢ []
some_wait front rest done more none = omega (arith, more, ap length none, length-append (drop done front) rest, length-drop done front)
