use Rattle.std.proofs.Common.{ap, ◌∙◌, map}
use Rattle.gp_script.proofs.words.Words.names.Goals as goal

pub returns-clause-bad : goal.returns-clause-bad
returns-clause-bad c =
    let same = ap (map (λ word. word.now)) c.as_slice.ensures.value ∙ c.in_ok-words.ensures in
    rw (same, c.at.ensures) at c.names_of.ensures.bad
