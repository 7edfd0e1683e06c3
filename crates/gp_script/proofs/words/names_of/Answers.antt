use Rattle.gp_script.specs.Faults.{IfBad}
use Rattle.std.proofs.Common.{ap, not, ◌∙◌, rules, All, map}
use Rattle.gp_script.specs.Guess.{bytes_of}
use Rattle.gp_script.specs.Lines.{IsNamed}
use Rattle.gp_script.proofs.Names.{names_bad, named_more, read_more}
use Rattle.gp_script.proofs.words.names_of.Goals as goal

pub returns-in_err-name_of-clause-bad : goal.returns-in_err-name_of-clause-bad
returns-in_err-name_of-clause-bad c =
    let bad : IfBad c.in_err-name_of.field-0.0 (¬ (All IsNamed (map bytes_of (map (λ word. word.now) c.args.words.now)))) =
    names_bad _ c.args.words.now c.loop-word.word-index _ c.loop-word-test.true c.in_err-name_of.ensures.bad in
    search rules

pub loop-word-preserved : goal.loop-word-preserved
loop-word-preserved c =
    let pushed = c.is_err.ensures.negation ∙ ap not c.if-is_err.false in
    record {
      read = read_more c.args.words.now c.loop-word.word-index _ _ _ _ _ c.loop-word-test.true pushed c.push.ensures.items c.loop-word.invariant.read c.in_ok-name_of.ensures.ok;
      made = named_more _ _ _ _ pushed c.push.ensures.items c.loop-word.invariant.made c.in_ok-name_of.ensures.made;
    }
