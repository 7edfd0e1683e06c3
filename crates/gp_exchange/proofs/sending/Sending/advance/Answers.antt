use Rattle.std.proofs.Common.{inl, sym, refl, arith, length, length-drop, ◌+◌, ap, subst, List, ℕ}
use Rattle.gp_head.specs.declared.read.HeadRead.TheVariants.{More as Open}
use Rattle.gp_head.specs.Heads.{IsRead, IsResponseText}
use Rattle.gp_exchange.specs.declared.place.Place.TheVariants as place
use Rattle.gp_exchange.proofs.Leading.{leads_before, later_later, later_same}
use Rattle.gp_exchange.proofs.Sends.{open_at_first, slice_on, wrote_on, sending_over, all_sent}
use Rattle.gp_exchange.proofs.sending.Sending.advance.Goals as goal

pub loop-self-preserved : goal.loop-self-preserved
loop-self-preserved g c =
    let s = c.loop-self.self in
    let at = g.D.Dial.tells c.loop-self.dial in
    let now = g.D.Dial.tells c.write.new.self in
    record {
      kept = (c.loop-self.invariant.kept.0, omega (arith, c.in-Took.ensures.moved.1, ap length (slice_on s.request c.bytes.result.now s.done c.bytes.ensures), length-drop s.done s.request, c.loop-self.invariant.kept.1));
      later = later_later _ at now c.loop-self.invariant.later c.in-Took.ensures.later;
      stands = λ before given stands. wrote_on c.args.asked.now s c.loop-self.invariant.kept.0 at now at (record { request = s.request; done = s.done + c.in-Took.count }) c.bytes.result.now c.in-Took.count c.bytes.ensures refl c.in-Took.ensures.moved.2
          before given (c.loop-self.invariant.stands before given stands);
    }

pub returns-in-Failed : goal.returns-in-Failed
returns-in-Failed g c =
    let s = c.loop-self.self in
    let at = g.D.Dial.tells c.loop-self.dial in
    leads_before c.args.asked.now (place.Sending c.args.self) (place.Sending s) (g.D.Dial.tells c.args.dial.now) at (g.D.Dial.tells c.hang_up.new.dial) c.loop-self.invariant.later (omega arith) (inl (omega arith)) (omega arith) refl c.hang_up.result c.loop-self.invariant.stands
    (sending_over c.args.asked.now s c.loop-self.invariant.kept.0 at (g.D.Dial.tells c.write.new.self) (g.D.Dial.tells c.hang_up.new.dial) c.before_head.result c.hang_up.result c.before_head.ensures
    c.hang_up.ensures.place c.hang_up.ensures.progress c.hang_up.ensures.dial c.in-Failed.ensures.later c.in-Failed.ensures.moved c.in-Failed.ensures.faulted)

pub advance-requires : goal.advance-requires
advance-requires g c =
    (subst (λ (x : List ℕ). IsRead IsResponseText x Open) (sym c.new.ensures.bytes) open_at_first, omega (arith, c.new.ensures.interim))

pub returns : goal.returns
returns g c =
    let s = c.loop-self.self in
    let at = g.D.Dial.tells c.loop-self.dial in
    leads_before c.args.asked.now (place.Sending c.args.self) (place.Sending s) (g.D.Dial.tells c.args.dial.now) at (g.D.Dial.tells c.advance.new.dial) c.loop-self.invariant.later (omega arith) (inl (omega arith)) (omega arith) refl c.advance.result c.loop-self.invariant.stands
    (leads_before c.args.asked.now (place.Sending s) (place.Heading c.new.result) at at (g.D.Dial.tells c.advance.new.dial) (later_same at) (omega arith) (inl (omega arith)) (omega arith) refl c.advance.result
    (all_sent c.args.asked.now s c.loop-self.invariant.kept.0 at at at c.new.result c.new.ensures.bytes c.new.ensures.interim (omega (arith, c.len.ensures, c.loop-self-test.false)))
    c.advance.ensures)
