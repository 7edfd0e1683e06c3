use Rattle.std.proofs.Common.{◌≡◌, ◌<◌, ◌∙◌, length, [], ap, sym, inr, refl, arith, Some, false}
use Rattle.std.proofs.lemmas.List.{nil_from_length}
use Rattle.gp_exchange.specs.Answers.{told}
use Rattle.gp_exchange.specs.declared.answer.Last.TheVariants.{NoMemory}
use Rattle.gp_exchange.specs.declared.place.Over.{Over}
use Rattle.gp_exchange.specs.declared.place.Place.TheVariants as place
use Rattle.gp_exchange.proofs.Framing.{falls_all, goes_on}
use Rattle.gp_exchange.proofs.Bodies.{met_end}
use Rattle.gp_exchange.proofs.Leading.{leads_before, later_same, later_later}
use Rattle.gp_exchange.proofs.Parts.{reading_over, reading_lost, stands_on, gives_part, on_without, met_gives, body_gives, from_none, none_met}
use Rattle.gp_exchange.proofs.reading.Reading.receive.Goals as goal

pub returns-in-Some : goal.returns-in-Some
returns-in-Some g c = λ asked.
    let r = c.loop-last.self in
    let at = g.D.Dial.tells c.loop-last.dial in
    let over : Over = record { last = c.in-Some.last; ended = false; head = Some r.head } in
    let met = sym c.last.ensures ∙ c.in-Some.is in
    leads_before asked (place.Reading c.args.self) (place.Reading r) (g.D.Dial.tells c.args.dial.now) at (g.D.Dial.tells c.hang_up.new.dial) c.loop-last.invariant.later (omega arith) (inr refl) (omega arith) c.loop-last.invariant.head c.hang_up.result (c.loop-last.invariant.stands asked)
    (reading_over asked r c.loop-last.invariant.part at at (g.D.Dial.tells c.hang_up.new.dial) over c.hang_up.result refl
    (c.hang_up.ensures.place ∙ ap (λ (o : Over). place.Over o) c.over.ensures) (c.hang_up.ensures.progress ∙ ap (λ (o : Over). told o.last) c.over.ensures) c.hang_up.ensures.dial
    (later_same at) refl (met_gives r r.reader at at c.in-Some.last met) (λ mark. cc) (λ given received reads. met_end asked r.head r.reader given received reads c.in-Some.last met))

pub returns-then-len-gt0 : goal.returns-then-len-gt0
returns-then-len-gt0 g c = λ asked.
    let r = c.loop-last.self in
    let at = g.D.Dial.tells c.loop-last.dial in
    let now = g.D.Dial.tells c.read_body.new.dial in
    let heard = c.in-Bytes.ensures.heard in
    let on = from_none r.reader c.read_body.new.reader c.new-part.result.items c.read_body.new.part.items c.from_vec-part.result heard.0 c.new-part.ensures.items c.from_vec-part.ensures heard.2 in
    let some : 0 < length c.from_vec-part.result = omega (arith, c.len.ensures) in
    leads_before asked (place.Reading c.args.self) (place.Reading r) (g.D.Dial.tells c.args.dial.now) at now c.loop-last.invariant.later (omega arith) (inr refl) (omega arith) c.loop-last.invariant.head _ (c.loop-last.invariant.stands asked)
    (gives_part asked r c.loop-last.invariant.part at now at (record { head = r.head; reader = c.read_body.new.reader; part = r.part }) c.from_vec-part.result heard.0 refl c.loop-last.invariant.part heard.1 on some c.in-Bytes.ensures.later)

pub returns-in-End : goal.returns-in-End
returns-in-End g c = λ asked.
    let r = c.loop-last.self in
    let at = g.D.Dial.tells c.loop-last.dial in
    let now = g.D.Dial.tells c.read_body.new.dial in
    let heard = c.in-End.ensures.heard in
    leads_before asked (place.Reading c.args.self) (place.Reading r) (g.D.Dial.tells c.args.dial.now) at (g.D.Dial.tells c.hang_up-in-End.new.dial) c.loop-last.invariant.later (omega arith) (inr refl) (omega arith) c.loop-last.invariant.head c.hang_up-in-End.result (c.loop-last.invariant.stands asked)
    (reading_over asked r c.loop-last.invariant.part at now (g.D.Dial.tells c.hang_up-in-End.new.dial) c.finish.result c.hang_up-in-End.result c.finish.ensures.head
    c.hang_up-in-End.ensures.place c.hang_up-in-End.ensures.progress c.hang_up-in-End.ensures.dial c.in-End.ensures.later heard.0.0 (body_gives r at now c.finish.result.last c.finish.ensures.last) (λ mark. heard.0.1)
    (λ given received reads. c.finish.ensures.ends asked given received (rw heard.1 reads)))

pub returns-in-NoMemory : goal.returns-in-NoMemory
returns-in-NoMemory g c = λ asked.
    let r = c.loop-last.self in
    let at = g.D.Dial.tells c.loop-last.dial in
    let now = g.D.Dial.tells c.read_body.new.dial in
    let over : Over = record { last = NoMemory; ended = false; head = Some r.head } in
    let heard = c.in-NoMemory.ensures.heard in
    leads_before asked (place.Reading c.args.self) (place.Reading r) (g.D.Dial.tells c.args.dial.now) at (g.D.Dial.tells c.hang_up-in-NoMemory.new.dial) c.loop-last.invariant.later (omega arith) (inr refl) (omega arith) c.loop-last.invariant.head c.hang_up-in-NoMemory.result (c.loop-last.invariant.stands asked)
    (reading_lost asked r c.loop-last.invariant.part at now (g.D.Dial.tells c.hang_up-in-NoMemory.new.dial) heard.0 over c.hang_up-in-NoMemory.result refl
    (c.hang_up-in-NoMemory.ensures.place ∙ ap (λ (o : Over). place.Over o) c.over-in-NoMemory.ensures) (c.hang_up-in-NoMemory.ensures.progress ∙ ap (λ (o : Over). told o.last) c.over-in-NoMemory.ensures)
    c.hang_up-in-NoMemory.ensures.dial c.in-NoMemory.ensures.later heard.1 refl refl)

pub loop-last-smaller : goal.loop-last-smaller
loop-last-smaller g c =
    let r = c.loop-last.self in
    let heard = c.in-Bytes.ensures.heard in
    let none : c.read_body.new.part.items ≡ [] = sym c.from_vec-part.ensures ∙ nil_from_length c.from_vec-part.result (omega (arith, c.len.ensures)) in
    let on = from_none r.reader c.read_body.new.reader c.new-part.result.items c.read_body.new.part.items [] heard.0 c.new-part.ensures.items (sym none) heard.2 in
    rw on.reading (falls_all heard.0 r.reader (goes_on r.reader (sym c.last.ensures ∙ none_met c.last.result c.in_default.not-Some)) (sym on.content) heard.1.some)

pub loop-last-preserved : goal.loop-last-preserved
loop-last-preserved g c =
    let r = c.loop-last.self in
    let at = g.D.Dial.tells c.loop-last.dial in
    let now = g.D.Dial.tells c.read_body.new.dial in
    let heard = c.in-Bytes.ensures.heard in
    let none : c.read_body.new.part.items ≡ [] = sym c.from_vec-part.ensures ∙ nil_from_length c.from_vec-part.result (omega (arith, c.len.ensures)) in
    let on = from_none r.reader c.read_body.new.reader c.new-part.result.items c.read_body.new.part.items c.read_body.new.part.items heard.0 c.new-part.ensures.items refl heard.2 in
    record {
      part = c.loop-last.invariant.part;
      head = c.loop-last.invariant.head;
      later = later_later _ at now c.loop-last.invariant.later c.in-Bytes.ensures.later;
      stands = λ asked before given s. on_without asked before given c.read_body.new.part.items _ now.talks none
          (stands_on asked r c.loop-last.invariant.part at now at (record { head = r.head; reader = c.read_body.new.reader; part = r.part }) c.read_body.new.part.items heard.0 refl c.loop-last.invariant.part heard.1 on before given (c.loop-last.invariant.stands asked before given s));
    }
