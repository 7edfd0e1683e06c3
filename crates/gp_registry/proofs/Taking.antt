-- What a Take of one hold is to the kept holds.
use Rattle.std.proofs.Common.{◌≡◌, ℕ, Bool, true, false, cond, [], ◌∷◌, sym, ap, ◌∙◌, is_some, Result, Ok, Err}
use Rattle.std.specs.Result.{OnErr}
use Rattle.gp_plain.specs.declared.reply.Taken.{Taken}
use Rattle.gp_plain.specs.Standing.{Kept}
use Rattle.gp_registry.specs.Keeps.{taken_kept, after_take_kept}
use Rattle.gp_registry.specs.Steps.{kept_after_take}

told_by : (now : ℕ) (k : Kept) (t : Taken) (b : Bool) → t ≡ taken_kept now k → b ≡ is_some t.ended → kept_after_take now k ≡ cond b [] (after_take_kept now k ∷ [])
told_by now k t b is e = ap (λ v. cond v [] (after_take_kept now k ∷ [])) (ap (λ (u : Taken). is_some u.ended) (sym is) ∙ sym e)

-- the Take told the end
pub told_end : (now : ℕ) (k : Kept) (t : Taken) (b : Bool) → t ≡ taken_kept now k → b ≡ is_some t.ended → b ≡ true → kept_after_take now k ≡ []
told_end now k t b is e tells = told_by now k t b is e ∙ ap (λ v. cond v [] (after_take_kept now k ∷ [])) tells

-- the Take told no end
pub told_none : (now : ℕ) (k after : Kept) (t : Taken) (b : Bool) → t ≡ taken_kept now k → b ≡ is_some t.ended → b ≡ false → after ≡ after_take_kept now k → kept_after_take now k ≡ after ∷ []
told_none now k after t b is e tells left = told_by now k t b is e ∙ ap (λ v. cond v [] (after_take_kept now k ∷ [])) tells ∙ ap (λ (u : Kept). u ∷ []) (sym left)

pub on_err_given : {T E P : Type 0} (r : Result T E) → P → OnErr r P
on_err_given (Ok x) p = tt
on_err_given (Err e) p = p
