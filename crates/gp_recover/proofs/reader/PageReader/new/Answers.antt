use Rattle.std.proofs.Common.{sym, subst}
use Rattle.gp_recover.proofs.Faults.{head_unread, new_open}
use Rattle.gp_recover.specs.Reading.{IsOpen}
use Rattle.gp_recover.proofs.reader.PageReader.new.Goals as goal

pub returns-in-Err-clause-err : goal.returns-in-Err-clause-err
returns-in-Err-clause-err c = head_unread c.args.head c.args.channel c.args.from c.in-Err.unread (λ content behind. c.in-Err.ensures.err content behind)

pub invariant_of-result : goal.invariant_of-result
invariant_of-result c =
    subst (λ content. IsOpen (record { head = c.args.head; channel = c.args.channel; from = c.args.from; content = content })) (sym c.empty.ensures)
    (new_open c.args.head c.args.channel c.args.from (c.in-Ok.ensures.ok c.args.from))

pub returns-in-Ok-clause-open : goal.returns-in-Ok-clause-open
returns-in-Ok-clause-open c =
    subst (λ content. IsOpen (record { head = c.args.head; channel = c.args.channel; from = c.args.from; content = content })) (sym c.empty.ensures)
    (new_open c.args.head c.args.channel c.args.from (c.in-Ok.ensures.ok c.args.from))
