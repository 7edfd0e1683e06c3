-- Lists that are read place by place, or from their front.
use Rattle.std.proofs.Common.{◌≡◌, ℕ, zero, suc, ◌<◌, ◌≤◌, get_or, Result, Ok, Err, List, [], ◌∷◌, ◌++◌, length, take, drop, slice_get, Option, Some, None, refl, sym, ap, ◌∙◌, arith, append_assoc}
use Rattle.std.specs.List.{flat_map}
use Rattle.std.specs.Result.{OnOk}
use Rattle.std.proofs.Math.ListN.{set}
use Rattle.gp_plain.specs.declared.reply.EndCause.{EndCause}
use Rattle.gp_replay.specs.declared.log.Log.{Log}
use Rattle.gp_replay.specs.Logs.{longer}
use Rattle.gp_plain.specs.declared.reply.Piece.{Piece}
use Rattle.gp_plain.specs.Pieces.{moved, position_after}

absurd_some : {A B : Type 0} {x : A} → None ≡ Some x → B
absurd_some e = cc

-- there is an item at each place below the length
pub some_at : {A : Type 0} (xs : List A) (i : ℕ) → i < length xs → None ≡ slice_get xs i → ⊥
some_at [] i h e = omega arith
some_at (x ∷ xs) zero h e = absurd_some e
some_at (x ∷ xs) (suc i) h e = some_at xs i (omega arith) e

nil_right : (xs : List ℕ) → xs ++ [] ≡ xs
nil_right [] = refl
nil_right (x ∷ xs) = ap (λ ys. x ∷ ys) (nil_right xs)

pub flat_map_more : (f : Piece → List ℕ) (xs : List Piece) (i : ℕ) (x : Piece) → slice_get xs i ≡ Some x → flat_map f (take (suc i) xs) ≡ flat_map f (take i xs) ++ f x
flat_map_more f [] i x e = absurd_some e
flat_map_more f (y ∷ ys) zero x e = let same : y ≡ x = cc e in nil_right (f y) ∙ ap f same
flat_map_more f (y ∷ ys) (suc i) x e = ap (λ b. f y ++ b) (flat_map_more f ys i x e) ∙ sym (append_assoc (f y) (flat_map f (take i ys)) (f x))

pub position_more : (start : List ℕ) (xs : List Piece) (i : ℕ) (x : Piece) → slice_get xs i ≡ Some x → position_after start (take (suc i) xs) ≡ moved (position_after start (take i xs)) x
position_more start [] i x e = absurd_some e
position_more start (y ∷ ys) zero x e = let same : y ≡ x = cc e in ap (moved start) same
position_more start (y ∷ ys) (suc i) x e = position_more (moved start y) ys i x e

-- the first item, and the rest
pub first_rest : (xs : List Piece) (x : Piece) → Some x ≡ slice_get xs 0 → xs ≡ x ∷ drop 1 xs
first_rest [] x e = absurd_some (sym e)
first_rest (y ∷ ys) x e = let same : x ≡ y = cc e in ap (λ z. z ∷ ys) (sym same)

pub none_left : (xs : List Piece) → None ≡ slice_get xs 0 → xs ≡ []
none_left [] e = refl
none_left (y ∷ ys) e = absurd_some e

pub on_ok_given : {T E P : Type 0} (r : Result T E) → P → OnOk r P
on_ok_given (Ok x) p = p
on_ok_given (Err e) p = tt

-- the log at a place gets more
pub longer_set : (ls : List Log) (i : ℕ) (more : List Piece) (ended : Option EndCause) (l now : Log) → i < length ls → l ≡ get_or ls i l → now ≡ record l { pieces = l.pieces ++ more; ended = ended }
    → set ls i now ≡ longer i more ended ls
longer_set [] i more ended l now h is e = absurd (omega arith)
longer_set (x ∷ ls) zero more ended l now h is e = ap (λ y. y ∷ ls) (e ∙ ap (λ (y : Log). record y { pieces = y.pieces ++ more; ended = ended }) is)
longer_set (x ∷ ls) (suc i) more ended l now h is e = ap (λ ys. x ∷ ys) (longer_set ls i more ended l now (omega arith) is e)

pub longer_out : (ls : List Log) (i : ℕ) (more : List Piece) (ended : Option EndCause) → length ls ≤ i → ls ≡ longer i more ended ls
longer_out [] i more ended h = refl
longer_out (x ∷ ls) zero more ended h = absurd (omega arith)
longer_out (x ∷ ls) (suc i) more ended h = ap (λ ys. x ∷ ys) (longer_out ls i more ended (omega arith))
