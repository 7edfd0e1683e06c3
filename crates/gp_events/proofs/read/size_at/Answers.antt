use Rattle.std.proofs.Common.{ℕ, take, subst, sym}
use Rattle.std.specs.Str.Parse.{AllDigits}
use Rattle.gp_events.proofs.SizeLemmas.{front_digits}
use Rattle.gp_events.proofs.read.size_at.Goals as goal

pub size_of-requires-clause-hex : goal.size_of-requires-clause-hex
size_of-requires-clause-hex c =
    subst (λ (count : ℕ). AllDigits 16 (take count c.args.text.now)) (sym c.digit_count-digits.ensures.count) (front_digits c.args.text.now)
