use Rattle.std.proofs.Common.{◌≡◌, true, false, refl, sym, ap, ◌∙◌, arith, below_more}
use Rattle.gp_body.specs.Steps.{is_framing}
use Rattle.gp_body.specs.Readings.{after_all, content_from, moved_or_refused}
use Rattle.gp_body.proofs.ReadingLemmas.{one_more, one_more_none, moved_framing, refused_from, has_moved}
use Rattle.gp_body.proofs.reading.Reading.skip.Goals as goal

pub loop-taken-init : goal.loop-taken-init
unfolding after_all content_from
loop-taken-init c = record { reading = refl; no_content = refl; goes_on = c.requires.«open»; waits = λ k less. absurd (omega arith); sound = c.requires.sound }

pub returns-then-not-is_framing : goal.returns-then-not-is_framing
returns-then-not-is_framing c =
    let stopped : is_framing c.loop-taken.self.state ≡ false = sym c.is_framing.ensures ∙ c.if-not-is_framing.true in
    record {
      read = record {
        within = omega arith;
        reading = c.loop-taken.invariant.reading;
        no_content = c.loop-taken.invariant.no_content;
        goes_on = c.loop-taken.invariant.goes_on;
        waits = c.loop-taken.invariant.waits;
        stops = λ inside. stopped;
        moves = λ framing some. has_moved c.args.bytes.now c.loop-taken.taken c.args.self.now c.loop-taken.self c.loop-taken.invariant.reading stopped framing;
      };
      sound = c.loop-taken.invariant.sound;
    }

pub returns-in_default : goal.returns-in_default
returns-in_default c =
    let framing : is_framing c.loop-taken.self.state ≡ true = sym c.is_framing.ensures ∙ c.if-not-is_framing.false in
    let bad = sym c.after.ensures.next ∙ c.in_default.is in
    record {
      read = refused_from c.args.bytes.now c.loop-taken.taken c.args.self.now c.loop-taken.self c.loop-taken-test.true c.loop-taken.invariant.reading c.loop-taken.invariant.no_content c.loop-taken.invariant.goes_on framing bad;
      sound = record { state = c.loop-taken.invariant.sound.state; within = c.loop-taken.invariant.sound.within };
    }

pub loop-taken-preserved : goal.loop-taken-preserved
loop-taken-preserved c =
    let now = c.loop-taken.self in
    let framing : is_framing now.state ≡ true = sym c.is_framing.ensures ∙ c.if-not-is_framing.false in
    let moved = one_more c.args.bytes.now c.loop-taken.taken c.args.self.now now c.loop-taken-test.true c.loop-taken.invariant.reading c.loop-taken.invariant.goes_on framing in
    let next = ap (λ o. moved_or_refused o now) (sym c.in-Some.ensures.next) ∙ moved_framing now c.in-Some.state c.saturating_add-self.result framing c.saturating_add-self.ensures in
    record {
      reading = sym (moved ∙ next);
      no_content = one_more_none c.args.bytes.now c.loop-taken.taken c.args.self.now now c.loop-taken-test.true c.loop-taken.invariant.reading c.loop-taken.invariant.no_content c.loop-taken.invariant.goes_on framing;
      goes_on = c.loop-taken.invariant.goes_on;
      waits = below_more _ _ c.loop-taken.invariant.waits (ap (λ r. is_framing r.state) (sym c.loop-taken.invariant.reading) ∙ framing);
      sound = record { state = c.in-Some.ensures.sound; within = c.loop-taken.invariant.sound.within };
    }
