-- How pieces are fed.
use Rattle.std.proofs.Common.{◌≡◌, ℕ, ◌+◌, ◌<◌, List, [], ◌∷◌, ◌++◌, length, take, get_or, sym, ap, ◌∙◌, append-nil}
use Rattle.std.specs.List.{flat_map}
use Rattle.std.proofs.lemmas.List.{take_more}
use Rattle.std.proofs.lemmas.Grind.{flat_map-append}
use Rattle.gp_body.specs.declared.plan.BodyPlan.{BodyPlan}
use Rattle.gp_body.specs.declared.reading.Reading.{Reading}
use Rattle.gp_body.specs.Readings.{after_all, content_from}
use Rattle.gp_body.specs.Wholes.{opening, reading_of, content_of}
use Rattle.gp_body.proofs.ReadingLemmas.{after_all-append, content-append}

-- one more piece
module _ (plan : BodyPlan) (limit : ℕ) (pieces : List (List ℕ)) (i : ℕ) (piece : List ℕ) (inside : i < length pieces) (is : piece ≡ get_or pieces i piece) where
  joined : flat_map (λ (p : List ℕ). p) (take (i + 1) pieces) ≡ flat_map (λ (p : List ℕ). p) (take i pieces) ++ piece
  joined =
      ap (flat_map (λ (p : List ℕ). p)) (take_more pieces i piece inside ∙ ap (λ (p : List ℕ). take i pieces ++ p ∷ []) (sym is))
      ∙ flat_map-append (λ (p : List ℕ). p) (take i pieces) (piece ∷ [])
      ∙ ap (λ (p : List ℕ). flat_map (λ (p : List ℕ). p) (take i pieces) ++ p) (append-nil piece)

  pub reads_more : (r r' : Reading) → r ≡ reading_of plan limit (flat_map (λ (p : List ℕ). p) (take i pieces)) → r' ≡ after_all piece r
      → r' ≡ reading_of plan limit (flat_map (λ (p : List ℕ). p) (take (i + 1) pieces))
  unfolding reading_of
  reads_more r r' so_far next =
      next ∙ ap (after_all piece) so_far ∙ sym (after_all-append (flat_map (λ (p : List ℕ). p) (take i pieces)) piece (opening plan limit)) ∙ ap (reading_of plan limit) (sym joined)

  pub gives_more : (r : Reading) (had now : List ℕ) → r ≡ reading_of plan limit (flat_map (λ (p : List ℕ). p) (take i pieces)) → had ≡ content_of plan limit (flat_map (λ (p : List ℕ). p) (take i pieces))
      → now ≡ had ++ content_from piece r → now ≡ content_of plan limit (flat_map (λ (p : List ℕ). p) (take (i + 1) pieces))
  unfolding reading_of content_of
  gives_more r had now so_far before next =
      next ∙ rw (before, so_far) (sym (content-append (flat_map (λ (p : List ℕ). p) (take i pieces)) piece (opening plan limit))) ∙ ap (content_of plan limit) (sym joined)
