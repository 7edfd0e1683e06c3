-- For the crates above: what a pass knows of the entries that aren't its own.
use Rattle.std.proofs.Common.{◌≡◌, ◌≢◌, ℕ, ◌≤◌, List, sym, subst, arith}
use Rattle.std.specs.List.{All}
use Rattle.std.proofs.lemmas.List.Elements.{All-weaker}
use mathlib.Core.List.{IsPrefix}
use Rattle.gp_turn.specs.Passes.{PassView, times_in, OfOthers, ranges_of, GoesOn}
use Rattle.gp_turn.proofs.Ranges.{times-first}

module _ {E : Type 0} where
  -- entries of no number of a pass aren't of its own number
  pub others_by_number : (number : E → ℕ) (p : PassView E) (entries : List E) → 1 ≤ p.spare → OfOthers number (ranges_of p) entries → All (λ e. number e ≢ p.number) entries
  others_by_number number p entries some others = All-weaker (λ (e : E). times_in (number e) (ranges_of p) ≡ 0) (λ (e : E). number e ≢ p.number)
      (λ e none same. let own = times-first p.number p.spare p.past some in let at : times_in p.number (ranges_of p) ≡ 0 = subst (λ (n : ℕ). times_in n (ranges_of p) ≡ 0) same none in absurd (omega arith)) entries others

  -- what goes on from a history begins with it
  pub goes_on_prefix : (number : E → ℕ) (p : PassView E) (later : List E) → GoesOn number p later → IsPrefix p.seen later
  goes_on_prefix number p later c = (c.more, sym c.is)
