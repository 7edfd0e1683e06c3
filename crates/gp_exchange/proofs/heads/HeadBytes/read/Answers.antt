use Rattle.std.proofs.Common.{List, ℕ, subst, ◌∙◌}
use Rattle.gp_head.specs.Heads.{IsRead, IsResponseText}
use Rattle.gp_exchange.proofs.heads.HeadBytes.read.Goals as goal

pub returns-clause-read : goal.returns-clause-read
returns-clause-read c = subst (λ (bytes : List ℕ). IsRead IsResponseText bytes c.read_response.result) (c.as_slice.ensures.value ∙ c.self.view_is) c.read_response.ensures.read
