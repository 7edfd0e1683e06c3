-- The bytes that wait behind a frame.
use Rattle.std.proofs.Common.{◌≡◌, ℕ, ◌+◌, ◌-◌, ◌≤◌, List, [], ◌++◌, length, take, drop, Option, sym, ap, ◌∙◌, subst, arith, append-nil, length-take-le, length-drop}
use Rattle.std.proofs.lemmas.List.{drop-drop, drop_at, take_all}
use Rattle.websocket.specs.declared.protocol.incomplete.MessageType.{MessageType}
use Rattle.gp_ws.specs.Unread.{Unread}
use Rattle.gp_ws.specs.declared.frame.Framed.{Framed}
use Rattle.gp_ws.specs.Frames.{count_of, IsUsed}

rest_is : (xs ys post : List ℕ) (used count : ℕ) → used ≤ length xs → post ≡ [] → drop (used + count) (take used xs ++ (ys ++ post)) ≡ drop count ys
rest_is xs ys post used count within none =
    sym (drop-drop count used (take used xs ++ (ys ++ post))) ∙ ap (drop count) (drop_at (take used xs) (ys ++ post) used (length-take-le used xs within))
    ∙ ap (λ (p : List ℕ). drop count (ys ++ p)) none ∙ ap (drop count) (append-nil ys)

all_taken : (xs : List ℕ) (used : ℕ) → take (length xs - used) (drop used xs) ≡ drop used xs
all_taken xs used = take_all (length xs - used) (drop used xs) (omega (arith, length-drop used xs))

pub used_of : (before : Unread) (fragments after : Option (MessageType × List ℕ)) (items xs ys post new : List ℕ) (used count : ℕ) (r : Framed) → used ≤ length items → xs ≡ items → post ≡ []
    → new ≡ take used xs ++ (ys ++ post) → before ≡ record { fragments = fragments; waiting = drop used items } → count ≡ count_of r
    → IsUsed (record { fragments = fragments; waiting = take (length xs - used) (drop used xs) }) r (record { fragments = after; waiting = drop (count_of r) ys })
    → IsUsed before r (record { fragments = after; waiting = drop (used + count) new })
used_of before fragments after items xs ys post new used count r within same none written is counted is_used =
    let front : used ≤ length xs = subst (λ (zs : List ℕ). used ≤ length zs) (sym same) within in
    let first : ◌≡◌ {A = Unread} (record { fragments = fragments; waiting = take (length xs - used) (drop used xs) }) before =
    ap {B = Unread} (λ (bytes : List ℕ). record { fragments = fragments; waiting = bytes }) (all_taken xs used ∙ ap (drop used) same) ∙ sym is in
    let last : drop (count_of r) ys ≡ drop (used + count) new =
    ap (λ (n : ℕ). drop n ys) (sym counted) ∙ sym (ap (drop (used + count)) written ∙ rest_is xs ys post used count front none) in
    subst (λ (u : Unread). IsUsed u r (record { fragments = after; waiting = drop (used + count) new })) first
    (subst (λ (bytes : List ℕ). IsUsed (record { fragments = fragments; waiting = take (length xs - used) (drop used xs) }) r (record { fragments = after; waiting = bytes })) last is_used)
