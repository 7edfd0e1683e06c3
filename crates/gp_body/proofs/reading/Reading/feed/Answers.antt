use Rattle.std.proofs.Common.{refl}
use Rattle.std.proofs.lemmas.Result.{err_from_is_err_and}
use Rattle.std.proofs.lemmas.List.{take_rest}
use Rattle.gp_body.proofs.WholeLemmas.{feeds, refuses_later, refuses_again}
use Rattle.gp_body.proofs.reading.Reading.feed.Goals as goal

pub returns-in-Some-clause-fed : goal.returns-in-Some-clause-fed
returns-in-Some-clause-fed c = refuses_again c.args.self.now c.args.bytes.now c.in-Some.fault c.in-Some.is

pub returns-in_err-run-clause-fed : goal.returns-in_err-run-clause-fed
returns-in_err-run-clause-fed c =
    let p = err_from_is_err_and c.from_residual-in_err-run.result c.from_residual-in_err-run.ensures.1 in
    let refused = rw (take_rest c.args.bytes.now c.in_ok-from.from) at c.in_err-run.ensures.read in
    rw (p.1, p.2) (refuses_later c.args.self.now c.skip.new.self c.take_content.new.self c.args.bytes.now c.in_ok-from.from c.in_err-run.field-0.0 c.in_ok-from.ensures.read refused)

pub returns-clause-fed : goal.returns-clause-fed
returns-clause-fed c =
    let takes = rw (take_rest c.args.bytes.now c.in_ok-from.from) at c.in_ok-run.ensures.read in
    feeds c.args.self.now c.skip.new.self c.take_content.new.self c.args.bytes.now c.in_ok-from.from c.in_ok-run.run' c.in_ok-from.ensures.read takes _ refl refl refl c.is_end.ensures
