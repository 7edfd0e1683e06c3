use Rattle.std.proofs.Common.{◌≡◌, ◌++◌, ℕ, List, take}
use Rattle.std.specs.List.{flat_map}
use Rattle.gp_head.specs.Texts.{field_text}
use Rattle.gp_forward.specs.Forwards.{last_field}
use Rattle.gp_forward.proofs.write.write_lasts.Given as goal

abbrev pub invariant-loop-last : goal.invariant-loop-last
invariant-loop-last l = l.text.items ≡ l.fn.text.items ++ flat_map (λ (last : List ℕ). field_text (last_field last)) (take l.last-index l.lasts)
