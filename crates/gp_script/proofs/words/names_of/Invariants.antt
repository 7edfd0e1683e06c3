use Rattle.std.proofs.Common.{◌≡◌, All, map, take}
use Rattle.gp_script.specs.Guess.{bytes_of}
use Rattle.gp_script.specs.Lines.{IsNamed}
use Rattle.gp_script.proofs.words.names_of.Given as goal

abbrev pub invariant-loop-word : goal.invariant-loop-word
invariant-loop-word l = record {
  read : l.names.items ≡ map bytes_of (map (λ word. word.now) (take l.word-index l.words));
  made : All IsNamed l.names.items;
}
