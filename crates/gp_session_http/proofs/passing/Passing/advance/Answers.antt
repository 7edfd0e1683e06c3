use Rattle.std.proofs.Common.{◌+◌, sym, subst, arith, Bool}
use Rattle.gp_session_http.specs.Moves.{PassedOn}
use Rattle.gp_session_http.proofs.Rows.{moved_same, moved_again, leads_from}
use Rattle.gp_session_http.proofs.Sending.{none_passed, one_passed, sixteen_passed}
use Rattle.gp_session_http.proofs.passing.Passing.advance.Goals as goal

pub loop-part-init : goal.loop-part-init
loop-part-init g c = record { moved = moved_same c.args.live.now; told = c.requires.told; count = none_passed c.args.live.now c.args.self.passed.chunked }

pub loop-part-preserved : goal.loop-part-preserved
loop-part-preserved g c =
    let u = c.args.live.now in
    let v = c.loop-part.live in
    let w = c.pass.new.live in
    let i = c.loop-part.invariant in
    let e = c.in-Part.ensures.steps in
    record {
      moved = moved_again u v w i.moved e.0.moved;
      told = e.0.told;
      count = subst (λ (b : Bool). PassedOn u w b (c.loop-part._part + 1)) (sym e.1) (one_passed u v w c.loop-part.stage.passed.chunked c.loop-part._part e.0.part i.count e.0.some e.0.says);
    }

pub returns-in-Next : goal.returns-in-Next
returns-in-Next g c = record { leads = leads_from c.args.live.now c.loop-part.live c.pass.new.live 2 2 c.in-Next.next c.loop-part.invariant.moved (omega arith) c.in-Next.ensures.steps }

pub returns : goal.returns
returns g c = record { leads = sixteen_passed c.args.live.now c.loop-part.live c.loop-part.stage c.loop-part._part c.loop-part.invariant.moved c.loop-part.invariant.told (omega arith) c.loop-part.invariant.count }
