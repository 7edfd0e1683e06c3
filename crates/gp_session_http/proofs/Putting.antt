-- What a refusal puts.
use Rattle.std.proofs.Common.{◌≡◌, ℕ, List, [], ◌++◌, ap, ◌∙◌}
use Rattle.gp_head.specs.Texts.{response_text}
use Rattle.gp_answer.specs.declared.refusal.Refusal.{Refusal}
use Rattle.gp_answer.specs.Refusals.{refusal_head, refusal_body}
use Rattle.gp_session_http.specs.Routing.{refusal_text}

pub put_text : (r refusal : Refusal) (method bytes h b t : List ℕ) → refusal ≡ r → bytes ≡ method → h ≡ response_text (refusal_head refusal) → b ≡ [] → t ≡ refusal_body refusal bytes → h ++ (b ++ t) ≡ refusal_text r method
put_text r refusal method bytes h b t is same head none tail =
    ap (λ (x : List ℕ). x ++ (b ++ t)) head ∙ ap (λ (x : List ℕ). response_text (refusal_head refusal) ++ (x ++ t)) none
    ∙ ap (λ (x : List ℕ). response_text (refusal_head refusal) ++ x) (tail ∙ ap (refusal_body refusal) same)
    ∙ ap (λ (x : Refusal). response_text (refusal_head x) ++ refusal_body x method) is
