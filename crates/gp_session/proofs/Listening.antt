-- Reads one after another, all of which are dropped.
use Rattle.std.proofs.Common.{◌≡◌, ℕ, ◌≤◌, ◌-◌, List, [], ◌++◌, length, take, refl, ◌∙◌, arith, length-append, inl, inr}
use Rattle.std.proofs.lemmas.List.{length-take-le}
use Rattle.gp_outside.specs.Links.{LinkTells, IsLinkRead}
use Rattle.gp_outside.specs.declared.link.Got.TheVariants as got
use Rattle.gp_intake.proofs.Hearing.{hears_none, hears_more, hears_took, hears_nothing, rose_from, gone_from}
use Rattle.gp_session.specs.Hearing.{most_heard, HearsOnce, HasHeard, HearsTo}
use Rattle.gp_session.specs.declared.hearing.Heard.TheVariants.{NotReady, Much, Gone}
use Rattle.gp_session.specs.declared.hearing.Once.TheVariants as once

module _ (a b : LinkTells) (into : List ℕ) (most : ℕ) where
  pub once_took : (n : ℕ) → length into ≤ most → IsLinkRead a b into (got.Took n) → HearsOnce a b most (once.Bytes n)
  once_took n within r =
      let m : n ≤ length into = r.moved.1 in
      record { more = take n into; hears = hears_took a b into n r; says = (r.moved.0, omega (arith, m, within), length-take-le n into m, r.faulted) }

  pub once_not : IsLinkRead a b into got.NotReady → HearsOnce a b most once.NotReady
  once_not r = record { more = []; hears = hears_nothing a b r.moved.0 r.sent r.write_waits r.later; says = (refl, r.moved.1, r.faulted) }

  pub once_end : IsLinkRead a b into got.End → HearsOnce a b most once.Gone
  once_end r = record { more = []; hears = hears_nothing a b r.moved.0 r.sent r.write_waits r.later; says = (refl, inl r.moved.1) }

  pub once_failed : IsLinkRead a b into got.Failed → HearsOnce a b most once.Gone
  once_failed r = record { more = []; hears = hears_nothing a b r.moved r.sent r.write_waits r.later; says = (refl, inr r.faulted) }

pub heard_none : (a : LinkTells) → HasHeard a a 1048576
heard_none a = record { more = []; hears = hears_none a; few = refl; sound = refl }

module _ (a b c : LinkTells) (left : ℕ) (h : HasHeard a b left) where
  pub heard_more : (n : ℕ) → HearsOnce b c left (once.Bytes n) → HasHeard a c (left - n)
  heard_more n o = record {
    more = h.more ++ o.more;
    hears = hears_more a b c h.more o.more h.hears o.hears;
    few = omega (arith, length-append h.more o.more, o.says.2, o.says.1, h.few);
    sound = o.says.3 ∙ h.sound;
  }

  few_more : (more : List ℕ) → length more ≡ 0 → length (h.more ++ more) ≤ most_heard
  few_more more none = omega (arith, length-append h.more more, none, h.few)

  pub heard_not : HearsOnce b c left once.NotReady → HearsTo a c NotReady
  heard_not o = record {
    more = h.more ++ o.more;
    hears = hears_more a b c h.more o.more h.hears o.hears;
    most = few_more o.more o.says.0;
    says = (rose_from a.read_waits b.read_waits c.read_waits h.hears.later.read_waits o.says.1, o.says.2 ∙ h.sound);
  }

  pub heard_gone : HearsOnce b c left once.Gone → HearsTo a c Gone
  heard_gone o = record {
    more = h.more ++ o.more;
    hears = hears_more a b c h.more o.more h.hears o.hears;
    most = few_more o.more o.says.0;
    says = gone_from a b c h.hears.later o.says.1;
  }

pub heard_much : (a b : LinkTells) (left : ℕ) → left ≤ 0 → HasHeard a b left → HearsTo a b Much
heard_much a b left none h =
    let all : length h.more ≡ most_heard = omega (arith, h.few, none) in
    record { more = h.more; hears = h.hears; most = omega (arith, all); says = (all, h.sound) }
