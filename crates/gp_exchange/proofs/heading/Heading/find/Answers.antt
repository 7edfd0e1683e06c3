use Rattle.std.proofs.Common.{length, drop, inl, inr, refl, sym, ◌∙◌, ap, arith}
use Rattle.gp_head.specs.declared.read.HeadRead.TheVariants.{Bad, TooMany, TooLong}
use Rattle.gp_exchange.proofs.Interim.{whole_within, heads_cut, found_head, no_head, no_interim}
use Rattle.gp_exchange.proofs.heading.Heading.find.Goals as goal
use Rattle.gp_exchange.proofs.heading.Heading.find.Goals.{then-head-eq101-via-then-head-eq101, then-head-eq101-via-else-head-eq101+then-self-eq-MAX_INTERIM}

pub from-requires : goal.from-requires
from-requires c =
    let within = whole_within c.loop-head.self.bytes c.in-Whole.head c.in-Whole.count c.in-Whole.ensures.read in
    omega (arith, within, ap length c.in-Whole.ensures.same)

pub cut-requires : goal.cut-requires
cut-requires c =
    let within = whole_within c.loop-head.self.bytes c.in-Whole.head c.in-Whole.count c.in-Whole.ensures.read in
    omega (arith, within, ap length c.in-Whole.ensures.same)

pub returns-then-not-is_interim-clause-found : goal.returns-then-not-is_interim-clause-found
returns-then-not-is_interim-clause-found c = λ received heads.
    found_head c.args.asked.now received c.loop-head.self _ (c.loop-head.invariant.heads received heads) c.loop-head.invariant.few c.in-Whole.head c.in-Whole.count c.from.result.now c.begin.result
    c.in-Whole.ensures.read (sym c.is_interim.ensures ∙ c.if-not-is_interim.true) (c.from.ensures ∙ ap (drop c.in-Whole.count) c.in-Whole.ensures.same) c.begin.ensures

pub returns-then-head-eq101-clause-found : goal.returns-then-head-eq101-clause-found
returns-then-head-eq101-clause-found c = λ received heads.
    let refuses = no_interim c.args.asked.now received c.loop-head.self c.loop-head.self (c.loop-head.invariant.heads received heads) c.loop-head.invariant.few c.in-Whole.head c.in-Whole.count
    c.in-Whole.ensures.read (sym c.is_interim.ensures ∙ c.if-not-is_interim.false) in
    elim c.then-head-eq101.branch [
      | then-head-eq101-via-then-head-eq101 w ↦ (refl, refuses (inl w.if-head-eq101.true))
      | then-head-eq101-via-else-head-eq101+then-self-eq-MAX_INTERIM w ↦ (refl, refuses (inr w.if-self-eq-MAX_INTERIM.true))
    ]

pub loop-head-preserved : goal.loop-head-preserved
loop-head-preserved c = record {
  few = omega (arith, c.loop-head.invariant.few, c.if-self-eq-MAX_INTERIM.false);
  up = omega (arith, c.loop-head.invariant.up);
  same = λ e. absurd (omega (arith, e, c.loop-head.invariant.up));
  heads = λ received heads. heads_cut received c.loop-head.self _ c.in-Whole.head c.in-Whole.count c.in-Whole.ensures.read (sym c.is_interim.ensures ∙ c.if-not-is_interim.false) c.if-head-eq101.false refl
      (c.in-Ok.ensures ∙ ap (drop c.in-Whole.count) c.in-Whole.ensures.same) (c.loop-head.invariant.heads received heads);
}

pub returns-in-Bad-clause-found : goal.returns-in-Bad-clause-found
returns-in-Bad-clause-found c = λ received heads.
    (refl, no_head c.args.asked.now received c.loop-head.self c.loop-head.self (c.loop-head.invariant.heads received heads) c.loop-head.invariant.few Bad _ c.in-Bad.ensures.read tt)

pub returns-in-TooMany-clause-found : goal.returns-in-TooMany-clause-found
returns-in-TooMany-clause-found c = λ received heads.
    (refl, no_head c.args.asked.now received c.loop-head.self c.loop-head.self (c.loop-head.invariant.heads received heads) c.loop-head.invariant.few TooMany _ c.in-TooMany.ensures.read tt)

pub returns-in-TooLong-clause-found : goal.returns-in-TooLong-clause-found
returns-in-TooLong-clause-found c = λ received heads.
    (refl, no_head c.args.asked.now received c.loop-head.self c.loop-head.self (c.loop-head.invariant.heads received heads) c.loop-head.invariant.few TooLong _ c.in-TooLong.ensures.read tt)
