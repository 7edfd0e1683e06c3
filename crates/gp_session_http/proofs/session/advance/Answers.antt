use Rattle.std.proofs.Common.{◌<◌, subst, sym}
use Rattle.gp_session_http.specs.declared.session.Phase.TheVariants as phase
use Rattle.gp_session_http.specs.declared.session.Phase.{Phase}
use Rattle.gp_session_http.proofs.Turning.{SoFar, so_far_none, goes_free, waits_at, held_waits_at, ends_at, held_ends_at, goes_hold, goes_held, goes_again_to, held_less, phase_rank}
use Rattle.gp_session_http.proofs.session.advance.Goals as goal

pub loop-phase-init : goal.loop-phase-init
loop-phase-init g c = record { so_far = so_far_none c.args.live c.args.phase c.requires.told }

pub loop-phase-preserved-in-Go : goal.loop-phase-preserved-in-Go
loop-phase-preserved-in-Go g c =
    let so = subst (λ (p : Phase). SoFar (record { live = c.args.live; phase = c.args.phase }) c.loop-phase.live p) c.in-Free.is c.loop-phase.invariant.so_far in
    record { so_far = goes_free (record { live = c.args.live; phase = c.args.phase }) c.loop-phase.live c.advance.new.live c.in-Free.stage c.in-Go.next so c.in-Go.ensures.leads }

pub returns-in-Wait : goal.returns-in-Wait
returns-in-Wait g c =
    let so = subst (λ (p : Phase). SoFar (record { live = c.args.live; phase = c.args.phase }) c.loop-phase.live p) c.in-Free.is c.loop-phase.invariant.so_far in
    waits_at (record { live = c.args.live; phase = c.args.phase }) c.loop-phase.live c.advance.new.live c.in-Free.stage c.in-Wait.next so c.in-Wait.ensures.leads

pub returns-in-End : goal.returns-in-End
returns-in-End g c =
    let so = subst (λ (p : Phase). SoFar (record { live = c.args.live; phase = c.args.phase }) c.loop-phase.live p) c.in-Free.is c.loop-phase.invariant.so_far in
    ends_at (record { live = c.args.live; phase = c.args.phase }) c.loop-phase.live c.advance.new.live c.in-Free.stage c.in-End.ended c.left.result.0 c.left.result.1 so c.in-End.ensures.leads c.left.ensures

pub returns-in-Wait-advance : goal.returns-in-Wait-advance
returns-in-Wait-advance g c =
    let so = subst (λ (p : Phase). SoFar (record { live = c.args.live; phase = c.args.phase }) c.loop-phase.live p) c.in-Held.is c.loop-phase.invariant.so_far in
    held_waits_at (record { live = c.args.live; phase = c.args.phase }) c.loop-phase.live c.advance-in-Held.new.live c.in-Held.stage c.in-Wait-advance.next so c.in-Wait-advance.ensures.leads c.in-Wait-advance.ensures.timed

pub returns-in-End-advance : goal.returns-in-End-advance
returns-in-End-advance g c =
    let so = subst (λ (p : Phase). SoFar (record { live = c.args.live; phase = c.args.phase }) c.loop-phase.live p) c.in-Held.is c.loop-phase.invariant.so_far in
    held_ends_at (record { live = c.args.live; phase = c.args.phase }) c.loop-phase.live c.advance-in-Held.new.live c.in-Held.stage c.in-End-advance.ended c.left-in-End-advance.result.0 c.left-in-End-advance.result.1 so c.in-End-advance.ensures.leads c.left-in-End-advance.ensures

pub loop-phase-preserved-in-Hold : goal.loop-phase-preserved-in-Hold
loop-phase-preserved-in-Hold g c =
    let so = subst (λ (p : Phase). SoFar (record { live = c.args.live; phase = c.args.phase }) c.loop-phase.live p) c.in-Free.is c.loop-phase.invariant.so_far in
    record { so_far = goes_hold (record { live = c.args.live; phase = c.args.phase }) c.loop-phase.live c.advance.new.live c.in-Free.stage c.in-Hold.next so c.in-Hold.ensures.leads }

pub loop-phase-preserved-in-Go-advance : goal.loop-phase-preserved-in-Go-advance
loop-phase-preserved-in-Go-advance g c =
    let so = subst (λ (p : Phase). SoFar (record { live = c.args.live; phase = c.args.phase }) c.loop-phase.live p) c.in-Held.is c.loop-phase.invariant.so_far in
    record { so_far = goes_held (record { live = c.args.live; phase = c.args.phase }) c.loop-phase.live c.advance-in-Held.new.live c.in-Held.stage c.in-Go-advance.next so c.in-Go-advance.ensures.leads }

pub loop-phase-preserved : goal.loop-phase-preserved
loop-phase-preserved g c =
    let so = subst (λ (p : Phase). SoFar (record { live = c.args.live; phase = c.args.phase }) c.loop-phase.live p) c.in-Held.is c.loop-phase.invariant.so_far in
    record { so_far = goes_again_to (record { live = c.args.live; phase = c.args.phase }) c.loop-phase.live c.advance-in-Held.new.live c.in-Held.stage c.in-Again.next so c.in-Again.ensures.leads }

pub loop-phase-smaller-in-Go-advance : goal.loop-phase-smaller-in-Go-advance
loop-phase-smaller-in-Go-advance g c =
    subst (λ (p : Phase). phase_rank c.advance-in-Held.new.live (phase.Held c.in-Go-advance.next) < phase_rank c.loop-phase.live p) (sym c.in-Held.is)
    (held_less c.loop-phase.live c.advance-in-Held.new.live c.in-Held.stage c.in-Go-advance.next c.in-Go-advance.ensures.leads)
