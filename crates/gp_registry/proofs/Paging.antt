-- What a page and a change of one hold are to the kept holds.
use Rattle.std.proofs.Common.{◌≡◌, ℕ, List, subst, Result, Ok, Err}
use Rattle.std.specs.Result.{IfOk, IfErr, OnOk, OnErr}
use Rattle.gp_plain.specs.declared.item.Item.{Item}
use Rattle.gp_plain.specs.declared.reply.Reply.{Reply}
use Rattle.gp_plain.specs.Standing.{Kept, Standing}
use Rattle.gp_registry.proofs.Finding.{Says}

-- what holds of an answer, and what holds where there is one
pub both_ok : {T E : Type 0} (r : Result T E) (R : T → Type 0) (P : Type 0) → IfOk r R → OnOk r P → IfOk r (λ x. R x × P)
both_ok (Ok x) R P a b = (a, b)
both_ok (Err e) R P a b = tt

-- a number stays, whether there is an answer or want of memory
pub either : {T E P : Type 0} (r : Result T E) → OnOk r P → OnErr r P → P
either (Ok x) a b = a
either (Err e) a b = b

-- a change by the window that is kept
pub says_by : (window now : List Item) (who number : ℕ) (reply : Kept → Reply) (change : List Item → Kept → List Kept) (before : Standing) (answer : Reply) (after : Standing) → window ≡ now
    → Says who number reply (change window) before answer after → Says who number reply (change now) before answer after
says_by window now who number reply change before answer after e says = subst (λ (ws : List Item). Says who number reply (change ws) before answer after) e says

-- what is said where memory was wanting, without what is said of what is handed back
pub err_part : {T E : Type 0} (P : Type 0) (Q : E → Type 0) (r : Result T E) → IfErr r (λ e. Q e × P) → OnErr r P
err_part P Q (Ok x) a = tt
err_part P Q (Err e) a = a.1

pub err_weaker : {T E P R : Type 0} (Q : E → Type 0) (r : Result T E) → (P → R) → IfErr r (λ e. Q e × P) → IfErr r (λ e. Q e × R)
err_weaker Q (Ok x) f a = tt
err_weaker Q (Err e) f a = (a.0, f a.1)
