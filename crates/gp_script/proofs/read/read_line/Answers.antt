use Rattle.std.proofs.Common.{rules}
use Rattle.gp_script.specs.Faults.{IfBad}
use Rattle.gp_script.specs.Lines.{IsInGrammar}
use Rattle.gp_script.proofs.Guesses.{no_grammar, only_event, not_spelled}
use Rattle.gp_script.proofs.read.read_line.Goals as goal

pub returns-in_err-event-clause-bad : goal.returns-in_err-event-clause-bad
returns-in_err-event-clause-bad c =
    let bad : IfBad c.in_err-event.field-0.0 (¬ (IsInGrammar c.args.line.now)) =
    no_grammar _ c.args.line.now _ c.in_ok-words.ensures c.in_err-event.ensures.bad in
    search rules

pub returns-then-branch-clause-only : goal.returns-then-branch-clause-only
returns-then-branch-clause-only c = only_event c.args.line.now _ c.in_ok-event.event c.in_ok-words.ensures c.in_ok-event.ensures.ok

pub returns-clause-bad : goal.returns-clause-bad
returns-clause-bad c =
    let spells = rw c.if-branch.false at c.in_ok-spells.ensures in
    not_spelled c.args.line.now _ c.in_ok-event.event c.in_ok-words.ensures c.in_ok-event.ensures.ok spells
