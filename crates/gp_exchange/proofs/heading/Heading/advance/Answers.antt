use Rattle.std.proofs.Common.{refl, inr, arith}
use Rattle.gp_exchange.specs.declared.heading.Heading.{Heading}
use Rattle.gp_exchange.specs.declared.place.Place.TheVariants as place
use Rattle.gp_exchange.proofs.Leading.{leads_before, later_later}
use Rattle.gp_exchange.proofs.Headings.{found_end, gives_head, heading_on, head_gives, head_falls}
use Rattle.gp_exchange.proofs.heading.Heading.advance.Goals as goal

pub loop-self-smaller : goal.loop-self-smaller
loop-self-smaller g c =
    let h = c.loop-self.self in
    let came : Heading = record { bytes = c.receive.new.self; interim = h.interim } in
    let heard = c.in-Bytes.ensures.heard in
    head_falls h came c.find.new.self heard.0 c.loop-self.invariant.kept.0 c.loop-self.invariant.kept.1 refl heard.2 heard.1.some c.in-More.ensures.finds

pub loop-self-preserved : goal.loop-self-preserved
loop-self-preserved g c =
    let h = c.loop-self.self in
    let at = g.D.Dial.tells c.loop-self.dial in
    let now = g.D.Dial.tells c.receive.new.dial in
    let came : Heading = record { bytes = c.receive.new.self; interim = h.interim } in
    let heard = c.in-Bytes.ensures.heard in
    record {
      kept = (c.in-More.ensures.finds.more, c.in-More.ensures.finds.few);
      later = later_later _ at now c.loop-self.invariant.later c.in-Bytes.ensures.later;
      stands = λ before given s. heading_on c.args.asked.now h at now at came heard.0 c.in-Bytes.ensures.later heard.1 refl heard.2 c.find.new.self c.in-More.ensures.found before given (c.loop-self.invariant.stands before given s);
    }

pub returns-in-Head : goal.returns-in-Head
returns-in-Head g c =
    let h = c.loop-self.self in
    let at = g.D.Dial.tells c.loop-self.dial in
    let now = g.D.Dial.tells c.receive.new.dial in
    let came : Heading = record { bytes = c.receive.new.self; interim = h.interim } in
    let heard = c.in-Bytes.ensures.heard in
    leads_before c.args.asked.now (place.Heading c.args.self) (place.Heading h) (g.D.Dial.tells c.args.dial.now) at now c.loop-self.invariant.later (omega arith) (inr refl) (omega arith) refl _ c.loop-self.invariant.stands
    (gives_head c.args.asked.now h at now at came heard.0 c.in-Bytes.ensures.later heard.1 refl heard.2 c.in-Head.head c.in-Head.reading c.in-Head.ensures.finds c.in-Head.ensures.found)

pub returns-in-Over : goal.returns-in-Over
returns-in-Over g c =
    let h = c.loop-self.self in
    let at = g.D.Dial.tells c.loop-self.dial in
    let now = g.D.Dial.tells c.receive.new.dial in
    let came : Heading = record { bytes = c.receive.new.self; interim = h.interim } in
    let heard = c.in-Bytes.ensures.heard in
    leads_before c.args.asked.now (place.Heading c.args.self) (place.Heading h) (g.D.Dial.tells c.args.dial.now) at (g.D.Dial.tells c.hang_up.new.dial) c.loop-self.invariant.later (omega arith) (inr refl) (omega arith) refl c.hang_up.result c.loop-self.invariant.stands
    (found_end c.args.asked.now h at now (g.D.Dial.tells c.hang_up.new.dial) came heard.0 c.in-Bytes.ensures.later heard.1 refl heard.2 c.in-Over.last c.before_head.result c.hang_up.result c.before_head.ensures
    c.hang_up.ensures.place c.hang_up.ensures.progress c.hang_up.ensures.dial (head_gives h at now c.in-Over.last c.in-Over.ensures.finds) c.in-Over.ensures.found)
