-- The list of a session's holds: its numbers rise, and a call of the session's changes the last one alone.
use Rattle.std.proofs.Common.{◌≡◌, ℕ, zero, suc, ◌+◌, ◌<◌, ◌≤◌, ◌==◌, Bool, true, false, cond, List, [], ◌∷◌, ◌++◌, refl, sym, ap, ◌∙◌, subst, arith, eq-eqb, Some, None}
use Rattle.std.specs.Prelude.{⊤}
use Rattle.std.specs.List.{Contains}
use Rattle.std.proofs.lemmas.Bool.{ne_eqb}
use Rattle.std.proofs.lemmas.List.{map-append}
use Rattle.std.proofs.lemmas.List.Elements.{Contains-append_right}
use Rattle.gp_plain.specs.Holds.{Held}
use Rattle.gp_plain.specs.Others.{Share, share_of, share_at, shares_from}
use Rattle.gp_plain.specs.declared.event.HoldSpec.{HoldSpec}
use Rattle.gp_hub.specs.Own.{change_share, with_share}
use Rattle.gp_session_hold.specs.Rows.{numbers_of, specs_of}

-- numbers of holds below a number
abbrev pub AllBelow : ℕ → List (ℕ × Share) → Type 0
AllBelow n [] = ⊤
AllBelow n (h ∷ hs) = (h.0 < n) × AllBelow n hs

first_number : (k n : ℕ) (x y : Share) (rest : List (ℕ × Share)) → (k, x) ∷ rest ≡ (n, y) ∷ [] → k ≡ n
first_number k n x y rest e = let h : (k, x) ≡ (n, y) = (cc) in ap (λ (p : ℕ × Share). p.0) h

first_of : (d : ℕ × Share) (k : ℕ) (x : Share) (rest more : List (ℕ × Share)) → (k, x) ∷ rest ≡ d ∷ more → d.0 ≡ k
first_of d k x rest more e = let h : (k, x) ≡ d = (cc) in ap (λ (p : ℕ × Share). p.0) (sym h)

rest_of : (d e : ℕ × Share) (rest more : List (ℕ × Share)) → d ∷ rest ≡ e ∷ more → rest ≡ more
rest_of d e rest more same = cc

no_last : (done : List (ℕ × Share)) (x : ℕ × Share) → [] ≡ done ++ x ∷ [] → ⊥
no_last [] x e = cc
no_last (d ∷ ds) x e = cc

below_by : (k n : ℕ) (x y : Share) (rest done : List (ℕ × Share)) (own : Bool) → ((ds : List (ℕ × Share)) → rest ≡ ds ++ (n, y) ∷ [] → AllBelow n ds × (k + 1 ≤ n))
    → cond own ((k, x) ∷ rest) rest ≡ done ++ (n, y) ∷ [] → AllBelow n done × (k ≤ n)
below_by k n x y rest done false on e = let r = on done e in (r.0, let m : k + 1 ≤ n = r.1 in omega (arith, m))
below_by k n x y rest [] true on e = (tt, let m : k ≡ n = first_number k n x y rest e in omega (arith, m))
below_by k n x y rest (d ∷ ds) true on e =
    let r = on ds (rest_of (k, x) d rest (ds ++ (n, y) ∷ []) e) in
    let m : k + 1 ≤ n = r.1 in
    let same : d.0 ≡ k = first_of d k x rest (ds ++ (n, y) ∷ []) e in
    ((omega (arith, m, same), r.0), omega (arith, m))

pub below : (owner k : ℕ) (holds : List Held) (done : List (ℕ × Share)) (n : ℕ) (y : Share) → shares_from owner k holds ≡ done ++ (n, y) ∷ [] → AllBelow n done × (k ≤ n)
below owner k [] done n y e = absurd (no_last done (n, y) e)
below owner k (h ∷ hs) done n y e = below_by k n (share_of h) y (shares_from owner (k + 1) hs) done (h.owner == owner) (λ ds is. below owner (k + 1) hs ds n y is) e

-- a change of a hold above leaves those below
stays : (n : ℕ) (change : Share → Share) (done : List (ℕ × Share)) → AllBelow n done → with_share n change done ≡ done
stays n change [] all = refl
stays n change (d ∷ ds) all =
    let apart : (d.0 ≡ n) → ⊥ = λ same. absurd (omega (arith, same, all.0)) in
    ap (λ b. cond b (d.0, change d.1) d ∷ with_share n change ds) (ne_eqb d.0 n apart) ∙ ap (λ xs. d ∷ xs) (stays n change ds all.1)

pub last_changed : (n : ℕ) (change : Share → Share) (done : List (ℕ × Share)) (y : Share) → AllBelow n done → with_share n change (done ++ (n, y) ∷ []) ≡ done ++ (n, change y) ∷ []
last_changed n change done y all =
    map-append (change_share n change) done ((n, y) ∷ [])
    ∙ ap (λ xs. xs ++ with_share n change ((n, y) ∷ [])) (stays n change done all)
    ∙ ap (λ b. done ++ cond b (n, change y) (n, y) ∷ []) (eq-eqb n n refl)

-- a change keeps the numbers, and the specifications where it keeps that of the hold

number_stays : (n : ℕ) (change : Share → Share) (d : ℕ × Share) (b : Bool) → (cond b (d.0, change d.1) d).0 ≡ d.0
number_stays n change d true = refl
number_stays n change d false = refl

pub numbers_stay : (n : ℕ) (change : Share → Share) (holds : List (ℕ × Share)) → numbers_of (with_share n change holds) ≡ numbers_of holds
numbers_stay n change [] = refl
numbers_stay n change (d ∷ ds) = ap (λ (m : ℕ). m ∷ numbers_of (with_share n change ds)) (number_stays n change d (d.0 == n)) ∙ ap (λ xs. d.0 ∷ xs) (numbers_stay n change ds)

spec_stays : (n : ℕ) (change : Share → Share) → ((x : Share) → (change x).spec ≡ x.spec) → (d : ℕ × Share) (b : Bool) → (cond b (d.0, change d.1) d).1.spec ≡ d.1.spec
spec_stays n change same d true = same d.1
spec_stays n change same d false = refl

pub specs_stay : (n : ℕ) (change : Share → Share) → ((x : Share) → (change x).spec ≡ x.spec) → (holds : List (ℕ × Share)) → specs_of (with_share n change holds) ≡ specs_of holds
specs_stay n change same [] = refl
specs_stay n change same (d ∷ ds) =
    ap (λ (x : HoldSpec). x ∷ specs_of (with_share n change ds)) (spec_stays n change same d (d.0 == n)) ∙ ap (λ xs. d.1.spec ∷ xs) (specs_stay n change same ds)

-- a hold of an owner's is in its list

some_same : {A : Type 0} {x y : A} → Some x ≡ Some y → x ≡ y
some_same e = cc

none_some : {A : Type 0} {x : A} → None ≡ Some x → ⊥
none_some e = cc

here : (k : ℕ) (x : Share) (rest : List (ℕ × Share)) (own : Bool) → own ≡ true → Contains (numbers_of (cond own ((k, x) ∷ rest) rest)) k
here k x rest true e = (0, omega arith, refl)
here k x rest false e = absurd cc

behind : (k n : ℕ) (x : Share) (rest : List (ℕ × Share)) (own : Bool) → Contains (numbers_of rest) n → Contains (numbers_of (cond own ((k, x) ∷ rest) rest)) n
behind k n x rest true c = Contains-append_right (k ∷ []) (numbers_of rest) n c
behind k n x rest false c = c

contains_from : (owner k n : ℕ) (holds : List Held) (y : Share) → share_at holds n ≡ Some y → y.owner ≡ owner → Contains (numbers_of (shares_from owner k holds)) (k + n)
contains_from owner k n [] y there own = absurd (none_some there)
contains_from owner k zero (h ∷ hs) y there own =
    let same : share_of h ≡ y = some_same there in
    let at : k ≡ k + 0 = omega arith in
    subst (Contains (numbers_of (shares_from owner k (h ∷ hs)))) at (here k (share_of h) (shares_from owner (k + 1) hs) (h.owner == owner) (eq-eqb h.owner owner (ap (λ (x : Share). x.owner) same ∙ own)))
contains_from owner k (suc m) (h ∷ hs) y there own =
    let at : (k + 1) + m ≡ k + suc m = omega arith in
    behind k (k + suc m) (share_of h) (shares_from owner (k + 1) hs) (h.owner == owner) (subst (Contains (numbers_of (shares_from owner (k + 1) hs))) at (contains_from owner (k + 1) m hs y there own))

pub contains_own : (owner n : ℕ) (holds : List Held) (y : Share) → share_at holds n ≡ Some y → y.owner ≡ owner → Contains (numbers_of (shares_from owner 0 holds)) n
contains_own owner n holds y there own = let at : 0 + n ≡ n = omega arith in subst (Contains (numbers_of (shares_from owner 0 holds))) at (contains_from owner 0 n holds y there own)
