use Rattle.std.proofs.Common.{Ok, subst, sym, ◌∙◌, arith, ap}
use Rattle.std.proofs.lemmas.Result.{err_from_is_err_and}
use Rattle.gp_events.specs.Events.{as_found}
use Rattle.gp_events.proofs.ReadLemmas.{ReadSoFar, read_none, read_more, is_fault, read_all, rest_is}
use Rattle.gp_events.proofs.read.read_events.Goals as goal

pub loop-place-init : goal.loop-place-init
loop-place-init c = subst (ReadSoFar c.args.bytes.now 0) (sym c.new-events.ensures.items) (read_none c.args.bytes.now)

pub returns-in_err-text : goal.returns-in_err-text
returns-in_err-text c =
    let p = err_from_is_err_and c.from_residual.result c.from_residual.ensures.1 in
    let rest = rest_is c.args.bytes.now c.loop-place.place in
    rw (p.1, p.2) (is_fault c.args.bytes.now c.loop-place.place c.loop-place.events.items _ c.loop-place.invariant c.loop-place-test.true (rw rest at c.in_err-text.ensures.read))

pub loop-place-preserved : goal.loop-place-preserved
loop-place-preserved c =
    let rest = rest_is c.args.bytes.now c.loop-place.place in
    let found = as_found c.in_ok-text.text in
    let next = read_more c.args.bytes.now c.loop-place.place c.loop-place.events.items found c.loop-place.invariant c.loop-place-test.true
    (rw rest at c.in_ok-text.ensures.read) c.in_ok-text.ensures.within.0 (rw rest at c.in_ok-text.ensures.within.1) in
    rw (c.in_ok-push.ensures.items, c.in_ok-copied.ensures) next

pub returns : goal.returns
returns c = read_all c.args.bytes.now c.loop-place.place c.loop-place.events.items c.loop-place.invariant (omega arith) ∙ ap Ok (sym c.from_vec.ensures)
