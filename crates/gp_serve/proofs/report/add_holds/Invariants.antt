use Rattle.std.proofs.Common.{string_bytes, ◌≡◌, ◌++◌, take}
use Rattle.std.specs.List.{flat_map}
use Rattle.gp_script.specs.Texts.{report_text}
use Rattle.gp_serve.proofs.report.add_holds.Given as goal

abbrev pub invariant-loop-place : goal.invariant-loop-place
invariant-loop-place l = string_bytes l.text ≡ string_bytes l.initial.text ++ flat_map report_text (take l.place l.holds.items)
