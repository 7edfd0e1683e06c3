-- Bytes are read as one head alone: two readers that both find a whole head find the same one, of the same length.
use Rattle.std.proofs.Common.{◌≡◌, ℕ, List, [], take, sym, ap, ◌∙◌, subst}
use Rattle.httparse.proofs.GrammarLemmas.{request_unique, response_unique}
use Rattle.gp_plain.specs.declared.http.Request.{Request}
use Rattle.gp_plain.specs.declared.http.Response.{Response}
use Rattle.gp_head.specs.declared.scan.Extent.TheVariants.{Ends}
use Rattle.gp_head.specs.declared.read.HeadRead.TheVariants.{Whole}
use Rattle.gp_head.specs.Heads.{request_of, response_of, IsRequestText, IsResponseText, IsRead}

pub one_request_text : (text : List ℕ) (a b : Request) → IsRequestText text a → IsRequestText text b → a ≡ b
one_request_text text a b x y = x.2 ∙ ap request_of (request_unique text x.0 y.0 [] [] x.1 y.1).0 ∙ sym y.2

pub one_response_text : (text : List ℕ) (a b : Response) → IsResponseText text a → IsResponseText text b → a ≡ b
one_response_text text a b x y = x.2 ∙ ap response_of (response_unique text x.0 y.0 [] [] x.1 y.1).0 ∙ sym y.2

module _ {T : Type 0} (IsText : List ℕ → T → Type 0) (one : (text : List ℕ) (a b : T) → IsText text a → IsText text b → a ≡ b) where
  one_head : (bytes : List ℕ) (a b : T) (n m : ℕ) → IsRead IsText bytes (Whole a n) → IsRead IsText bytes (Whole b m) → (a ≡ b) × (n ≡ m)
  one_head bytes a b n m x y =
      let ends : Ends n ≡ Ends m = sym x.0 ∙ y.0 in
      let same : n ≡ m = cc in
      (one (take m bytes) a b (subst (λ (k : ℕ). IsText (take k bytes) a) same x.1) y.1, same)

pub one_request : (bytes : List ℕ) (a b : Request) (n m : ℕ) → IsRead IsRequestText bytes (Whole a n) → IsRead IsRequestText bytes (Whole b m) → (a ≡ b) × (n ≡ m)
one_request = one_head IsRequestText one_request_text

pub one_response : (bytes : List ℕ) (a b : Response) (n m : ℕ) → IsRead IsResponseText bytes (Whole a n) → IsRead IsResponseText bytes (Whole b m) → (a ≡ b) × (n ≡ m)
one_response = one_head IsResponseText one_response_text
