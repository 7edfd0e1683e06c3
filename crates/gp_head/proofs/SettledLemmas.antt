-- An answer of a reader other than More stays, whatever bytes follow.
use Rattle.std.proofs.Common.{ℕ, List, sym, ◌∙◌, subst}
use Rattle.std.proofs.lemmas.List.{take-append-le}
use Rattle.gp_head.specs.declared.read.HeadRead.{HeadRead}
use Rattle.gp_head.specs.declared.read.HeadRead.TheVariants.{Whole, More, Bad, TooMany, TooLong, NoMemory}
use Rattle.gp_head.specs.Heads.{IsNoText, IsRead, IsSettled}
use Rattle.gp_head.proofs.ExtentLemmas.{extent_stays, is_head_text}

pub settled : {T : Type 0} (IsText : List ℕ → T → Type 0) (bytes : List ℕ) (r : HeadRead T) → IsRead IsText bytes r → IsSettled IsText bytes r
settled IsText bytes TooMany read = λ more. extent_stays bytes more (λ unsettled. (let same = sym read ∙ unsettled in cc)) ∙ read
settled IsText bytes TooLong read = λ more. extent_stays bytes more (λ unsettled. (let same = sym read ∙ unsettled in cc)) ∙ read
settled IsText bytes More read = tt
settled IsText bytes Bad read = λ more.
    let same = take-append-le read.0 bytes more (is_head_text bytes read.0 (sym read.1)).inside in
    (read.0, extent_stays bytes more (λ unsettled. (let other = sym read.1 ∙ unsettled in cc)) ∙ read.1, subst (IsNoText IsText) (sym same) read.2)
settled IsText bytes (Whole head n) read = λ more.
    let same = take-append-le n bytes more (is_head_text bytes n (sym read.0)).inside in
    (extent_stays bytes more (λ unsettled. (let other = sym read.0 ∙ unsettled in cc)) ∙ read.0, subst (λ (text : List ℕ). IsText text head) (sym same) read.1)
settled IsText bytes NoMemory read = tt
