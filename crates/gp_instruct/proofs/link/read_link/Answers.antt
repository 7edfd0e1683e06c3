use Rattle.std.proofs.Common.{◌≡◌, List, ℕ, Ok, Some, subst, inr}
use Rattle.std.proofs.lemmas.Bool.{MatchBool-at_false}
use Rattle.gp_instruct.specs.Links.{scanned}
use Rattle.gp_instruct.specs.Targets.{IsTarget}
use Rattle.gp_instruct.proofs.link.read_link.Goals as goal

pub returns-then-not-branch : goal.returns-then-not-branch
returns-then-not-branch c =
    let found : scanned c.args.value.now ≡ Ok (Some c.in-Ok-Some.span) = cc in
    let none = MatchBool-at_false (IsTarget c.of-uri.result.now) (¬ (IsTarget c.of-uri.result.now)) c.if-not-branch.true c.in_ok-is_target.ensures in
    inr (c.in-Ok-Some.span, found, subst (λ (text : List ℕ). ¬ (IsTarget text)) c.of-uri.ensures none, c.place_told-then-not-branch.ensures)
