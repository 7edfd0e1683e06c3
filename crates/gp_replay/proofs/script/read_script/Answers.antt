use Rattle.std.proofs.Common.{◌≡◌, ◌∷◌, [], true, List, length, sym, ap, ◌∙◌, subst, arith, length-append, All, refl}
use Rattle.std.proofs.lemmas.List.Elements.{All-push}
use Rattle.gp_plain.specs.Fit.{fits}
use Rattle.gp_plain.specs.declared.event.Event.{Event}
use Rattle.gp_replay.specs.Reads.{IsLine, Reads}
use Rattle.gp_replay.proofs.Lines.{reads-push, leaves_of, only_of, bad_line_of, no_feed, not_in_grammar, next_shorter, none_left, some_left}
use Rattle.gp_replay.proofs.script.read_script.Goals as goal

pub loop-rest-init : goal.loop-rest-init
loop-rest-init c =
    let items = c.new-events.ensures.items in
    record {
      reads = subst (λ (es : List Event). Reads c.args.bytes.now es c.args.bytes.now) (sym items) refl;
      fit = λ k d h. absurd (omega (arith, ap length items));
      number = omega (arith, ap length items);
      few = omega (arith, ap length items);
    }

pub loop-rest-preserved : goal.loop-rest-preserved
loop-rest-preserved c =
    let event = c.in-Ok.event in
    let items = c.in-Ok-keep.ensures in
    let line : IsLine c.in-Some.line.now event = record { made = c.in-Ok.ensures.made; spells = c.in-Ok.ensures.ok; only = c.in-Ok.ensures.only } in
    let count = ap length items ∙ length-append c.loop-rest.events.items (event ∷ []) in
    record {
      reads = subst (λ (es : List Event). Reads c.args.bytes.now es c.in-Some.next.now) (sym items) (reads-push c.args.bytes.now c.loop-rest.events.items c.loop-rest.rest.now c.in-Some.line.now c.in-Some.next.now event c.loop-rest.invariant.reads c.in-Some.ensures line);
      fit = subst (All (λ (e : Event). fits e ≡ true)) (sym items) (All-push (λ (e : Event). fits e ≡ true) c.loop-rest.events.items event c.loop-rest.invariant.fit c.in-Ok.ensures.ok.fit);
      number = omega (arith, c.saturating_add-number.ensures, c.loop-rest.invariant.number, count);
      few = omega (arith, count, next_shorter c.loop-rest.rest.now c.in-Some.line.now c.in-Some.next.now c.in-Some.ensures, c.loop-rest.invariant.few);
    }

pub loop-rest-smaller : goal.loop-rest-smaller
loop-rest-smaller c = next_shorter c.loop-rest.rest.now c.in-Some.line.now c.in-Some.next.now c.in-Some.ensures

pub returns-clause-read : goal.returns-clause-read
returns-clause-read c =
    let none = none_left c.loop-rest.rest.now c.loop-rest-test.ensures in
    let all = subst (Reads c.args.bytes.now c.loop-rest.events.items) none c.loop-rest.invariant.reads in
    record { script = leaves_of c.args.bytes.now c.loop-rest.events.items [] all; only = only_of c.args.bytes.now c.loop-rest.events.items all }

pub returns-in_default-clause-read : goal.returns-in_default-clause-read
returns-in_default-clause-read c =
    let some = some_left c.loop-rest.rest.now c.loop-rest-test.ensures in
    bad_line_of c.args.bytes.now c.loop-rest.events.items c.loop-rest.rest.now c.loop-rest.number c.loop-rest.invariant.reads (no_feed c.loop-rest.rest.now some c.in_default.ensures) c.loop-rest.invariant.number

pub returns-in-Err-Bad-clause-read : goal.returns-in-Err-Bad-clause-read
returns-in-Err-Bad-clause-read c =
    let bad = rw c.in-Err-Bad.field-0-is at c.in-Err-Bad.ensures.bad in
    bad_line_of c.args.bytes.now c.loop-rest.events.items c.loop-rest.rest.now c.loop-rest.number c.loop-rest.invariant.reads
    (not_in_grammar c.loop-rest.rest.now c.in-Some.line.now c.in-Some.next.now c.in-Some.ensures bad) c.loop-rest.invariant.number
