-- One read after another.
use Rattle.std.proofs.Common.{◌≡◌, ℕ, ◌≤◌, List, [], ◌++◌, take, Option, Some, None, refl, sym, ap, ◌∙◌, subst, arith, append_assoc, append-nil, inl, inr}
use Rattle.gp_outside.specs.Counts.{Rose, grown}
use Rattle.gp_outside.specs.Links.{LinkTells, LinkLater, IsLinkRead}
use Rattle.gp_outside.specs.declared.link.Got.TheVariants.{Took}
use Rattle.gp_intake.specs.Bodies.{ReadingView, HasCome, ComesOn}
use Rattle.gp_intake.specs.Polls.{Hears, HasReadHead, HasReadBody, IsGone}

grown_none : (told : Option (List ℕ)) → told ≡ grown told []
grown_none None = refl
grown_none (Some bytes) = ap Some (sym (append-nil bytes))

grown_twice : (told : Option (List ℕ)) (some more : List ℕ) → grown (grown told some) more ≡ grown told (some ++ more)
grown_twice None some more = refl
grown_twice (Some bytes) some more = ap Some (append_assoc bytes some more)

later_same : (a : LinkTells) → LinkLater a a
later_same a = record { faults = omega arith; read_waits = omega arith; write_waits = omega arith; ends = omega arith }

later_later : (a b c : LinkTells) → LinkLater a b → LinkLater b c → LinkLater a c
later_later a b c h k = record { faults = omega (arith, h.faults, k.faults); read_waits = omega (arith, h.read_waits, k.read_waits); write_waits = omega (arith, h.write_waits, k.write_waits); ends = omega (arith, h.ends, k.ends) }

pub hears_none : (a : LinkTells) → Hears a a []
hears_none a = record { received = grown_none a.received; sent = refl; write_waits = refl; later = later_same a }

pub hears_more : (a b c : LinkTells) (some more : List ℕ) → Hears a b some → Hears b c more → Hears a c (some ++ more)
hears_more a b c some more h k = record {
  received = k.received ∙ ap (λ (told : Option (List ℕ)). grown told more) h.received ∙ grown_twice a.received some more;
  sent = k.sent ∙ h.sent;
  write_waits = k.write_waits ∙ h.write_waits;
  later = later_later a b c h.later k.later;
}

-- a read that took bytes, and one that took none
pub hears_took : (a b : LinkTells) (into : List ℕ) (n : ℕ) → IsLinkRead a b into (Took n) → Hears a b (take n into)
hears_took a b into n r = record { received = r.moved.2; sent = r.sent; write_waits = r.write_waits; later = r.later }

pub hears_nothing : (a b : LinkTells) → b.received ≡ a.received → b.sent ≡ a.sent → b.write_waits ≡ a.write_waits → LinkLater a b → Hears a b []
hears_nothing a b received sent write_waits later = record { received = received ∙ grown_none a.received; sent = sent; write_waits = write_waits; later = later }

-- a count that rose in the last part of a poll rose in the poll
pub rose_from : (a b c : ℕ) → a ≤ b → Rose b c → Rose a c
rose_from a b c le rose = omega arith

pub gone_from : (a b c : LinkTells) → LinkLater a b → IsGone b c → IsGone a c
gone_from a b c later (inl ends) = inl (rose_from a.ends b.ends c.ends later.ends ends)
gone_from a b c later (inr faults) = inr (rose_from a.faults b.faults c.faults later.faults faults)

-- nothing was read yet
pub read_no_head : (a : LinkTells) (bytes : List ℕ) → HasReadHead a a bytes bytes
read_no_head a bytes = record { more = []; hears = hears_none a; bytes = sym (append-nil bytes) }

pub read_more_head : (a b c : LinkTells) (was is now more : List ℕ) → HasReadHead a b was is → Hears b c more → now ≡ is ++ more → HasReadHead a c was now
read_more_head a b c was is now more h k e = record {
  more = h.more ++ more;
  hears = hears_more a b c h.more more h.hears k;
  bytes = e ∙ ap (λ (xs : List ℕ). xs ++ more) h.bytes ∙ append_assoc was h.more more;
}

pub read_no_body : (a : LinkTells) (v : ReadingView) → HasReadBody a a v v
read_no_body a v = record { more = []; hears = hears_none a; comes = λ plan bytes come. subst (λ (xs : List ℕ). HasCome plan xs v) (sym (append-nil bytes)) come }

pub read_more_body : (a b c : LinkTells) (u v w : ReadingView) (more : List ℕ) → HasReadBody a b u v → Hears b c more → ComesOn more v w → HasReadBody a c u w
read_more_body a b c u v w more h k on = record {
  more = h.more ++ more;
  hears = hears_more a b c h.more more h.hears k;
  comes = λ plan bytes come. subst (λ (xs : List ℕ). HasCome plan xs w) (append_assoc bytes h.more more) (on plan (bytes ++ h.more) (h.comes plan bytes come));
}
