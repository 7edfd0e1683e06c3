-- Names that are read one after the other.
use Rattle.std.proofs.Common.{◌≡◌, ◌<◌, ℕ, List, [], All, map, length, take, get_or, ◌+◌, ◌++◌, ◌∷◌, Bool, true, if◌then◌else◌, ap, sym, ◌∙◌, subst, arith, Bor}
use Rattle.std.proofs.lemmas.List.Elements.{All-push}
use Rattle.std.proofs.lemmas.List.{length-map, get_or-map, map_more, map-append}
use Rattle.std.proofs.lemmas.Bool.{cond-true}
use Rattle.gp_script.specs.declared.fault.LineFault.{LineFault}
use Rattle.gp_script.specs.declared.fault.LineFault.TheVariants.{Bad, NoMemory}
use Rattle.gp_script.specs.Faults.{IfBad}
use Rattle.gp_script.specs.Guess.{bytes_of}
use Rattle.gp_script.specs.Lines.{IsNamed}

pub names_bad : (fault : LineFault) (words : List (Bor (List ℕ))) (i : ℕ) (d : Bor (List ℕ)) → i < length words → IfBad fault (¬ (IsNamed (bytes_of ((get_or words i d).now)))) → IfBad fault (¬ (All IsNamed (map bytes_of (map (λ word. word.now) words))))
names_bad NoMemory words i d within bad = tt
names_bad Bad words i d within bad = λ all.
    let shown = λ (word : Bor (List ℕ)). word.now in
    let here : i < length (map shown words) = omega (arith, length-map words shown) in
    let there : i < length (map bytes_of (map shown words)) = omega (arith, length-map (map shown words) bytes_of, here) in
    bad (subst IsNamed (get_or-map bytes_of (map shown words) i [] [] here ∙ ap bytes_of (get_or-map shown words i d [] within)) (all i [] there))

-- one more name was pushed
pub named_more : (names now : List (List ℕ)) (name : List ℕ) (pushed : Bool) → pushed ≡ true → now ≡ (if pushed then names ++ name ∷ [] else names) → All IsNamed names → IsNamed name → All IsNamed now
named_more names now name pushed held is all one =
    subst (All IsNamed) (sym (is ∙ cond-true _ _ _ held)) (All-push IsNamed names name all one)

pub read_more : (words : List (Bor (List ℕ))) (i : ℕ) (d : Bor (List ℕ)) (names now : List (List ℕ)) (name : List ℕ) (pushed : Bool)
    → i < length words → pushed ≡ true → now ≡ (if pushed then names ++ name ∷ [] else names)
    → names ≡ map bytes_of (map (λ word. word.now) (take i words)) → name ≡ bytes_of ((get_or words i d).now)
    → now ≡ map bytes_of (map (λ word. word.now) (take (i + 1) words))
read_more words i d names now name pushed within held is before one =
    let shown = λ (word : Bor (List ℕ)). word.now in
    let first = map bytes_of (map shown (take i words)) in
    is ∙ cond-true _ _ _ held ∙ ap (λ (xs : List (List ℕ)). xs ++ name ∷ []) before ∙ ap (λ (n : List ℕ). first ++ n ∷ []) one
    ∙ sym (map-append bytes_of (map shown (take i words)) (shown (get_or words i d) ∷ [])) ∙ ap (map bytes_of) (sym (map_more shown words i d within))
