-- Lines, and the scripts that they make.
use Rattle.std.proofs.Common.{◌≡◌, ◌≢◌, ◌==◌, true, false, eqb-true, ℕ, suc, ◌+◌, ◌-◌, ◌^◌, ◌<◌, min, List, [], ◌∷◌, ◌++◌, length, take, drop, get_or, refl, sym, ap, ◌∙◌, subst, arith, add-one, drop-cons, length-append}
use Rattle.std.proofs.lemmas.List.{take_more, take-append-drop}
use Rattle.gp_plain.specs.declared.event.Event.{Event}
use Rattle.gp_script.specs.Lines.{IsInGrammar, Spells}
use Rattle.gp_replay.specs.Scripts.{IsOneLine, BeginsWith, Leaves, IsScript, IsOnlyScript, IsBad, IsBadLine}
use Rattle.gp_replay.specs.Reads.{IsLine, Reads}

one_line-push : (xs : List ℕ) (b : ℕ) → IsOneLine xs → b ≢ 10 → IsOneLine (xs ++ b ∷ [])
one_line-push [] b one ne = (ne, tt)
one_line-push (x ∷ xs) b one ne = (one.0, one_line-push xs b one.1 ne)

pub one_more : (bytes : List ℕ) (i : ℕ) → i < length bytes → IsOneLine (take i bytes) → get_or bytes i 0 ≢ 10 → IsOneLine (take (i + 1) bytes)
one_more bytes i h one ne = subst IsOneLine (sym (take_more bytes i 0 h)) (one_line-push (take i bytes) (get_or bytes i 0) one ne)

pub begins_at : (bytes : List ℕ) (i : ℕ) → i < length bytes → IsOneLine (take i bytes) → get_or bytes i 0 ≡ 10 → BeginsWith bytes (take i bytes) (drop (i + 1) bytes)
begins_at bytes i h one is =
    let cut : bytes ≡ take i bytes ++ drop i bytes = sym (take-append-drop i bytes) in
    let tail : drop i bytes ≡ get_or bytes i 0 ∷ drop (suc i) bytes = drop-cons bytes i 0 h in
    record {
      whole = cut ∙ ap (λ r. take i bytes ++ r) (tail ∙ ap (λ b. b ∷ drop (suc i) bytes) is ∙ ap (λ n. 10 ∷ drop n bytes) (sym (add-one i)));
      one = one;
    }

absurd_nil : {A : Type 0} {x : ℕ} {xs : List ℕ} → ([] ≡ x ∷ xs) → A
absurd_nil e = cc

begins_none : {A : Type 0} (line rest : List ℕ) → [] ≡ line ++ 10 ∷ rest → A
begins_none [] rest e = absurd_nil e
begins_none (x ∷ line) rest e = absurd_nil e

-- bytes begin with one line
same_line : (a b x y : List ℕ) → IsOneLine a → IsOneLine b → a ++ 10 ∷ x ≡ b ++ 10 ∷ y → (a ≡ b) × (x ≡ y)
same_line [] [] x y p q e = (refl, cc e)
same_line [] (b ∷ bs) x y p q e = let h : 10 ≡ b = cc e in absurd (q.0 (sym h))
same_line (a ∷ as') [] x y p q e = let h : a ≡ 10 = cc e in absurd (p.0 h)
same_line (a ∷ as') (b ∷ bs) x y p q e =
    let heads : a ≡ b = cc e in
    let tails : as' ++ 10 ∷ x ≡ bs ++ 10 ∷ y = cc e in
    let rest = same_line as' bs x y p.1 q.1 tails in
    (cc (heads, rest.0), rest.1)

pub leaves_of : (bytes : List ℕ) (events : List Event) (rest : List ℕ) → Reads bytes events rest → Leaves bytes events rest
leaves_of bytes [] rest r = r
leaves_of bytes (e ∷ es) rest r = (r.0, r.1, r.2, r.3.made, r.3.spells, leaves_of r.1 es rest r.4)

only_rec : (bytes : List ℕ) (events others : List Event) → Reads bytes events [] → IsScript bytes others → others ≡ events
only_rec bytes [] [] r s = refl
only_rec bytes [] (o ∷ os) r s = begins_none s.0 s.1 (sym r ∙ s.2.whole)
only_rec bytes (e ∷ es) [] r s = begins_none r.0 r.1 (sym s ∙ r.2.whole)
only_rec bytes (e ∷ es) (o ∷ os) r s =
    let same = same_line s.0 r.0 s.1 r.1 s.2.one r.2.one (sym s.2.whole ∙ r.2.whole) in
    let head : o ≡ e = r.3.only o s.3 (subst (λ l. Spells l o) same.0 s.4) in
    let tail : os ≡ es = only_rec r.1 es os r.4 (subst (λ n. IsScript n os) same.1 s.5) in
    cc (head, tail)

pub only_of : (bytes : List ℕ) (events : List Event) → Reads bytes events [] → IsOnlyScript bytes events
only_of bytes events r = λ others s. only_rec bytes events others r s

none_rec : (bytes : List ℕ) (events others : List Event) (rest : List ℕ) → Reads bytes events rest → IsBad rest → IsScript bytes others → ⊥
none_rec bytes [] [] rest r bad s = bad.more (sym r ∙ s)
none_rec bytes [] (o ∷ os) rest r bad s = bad.bad s.0 s.1 (record { whole = sym r ∙ s.2.whole; one = s.2.one }) (o, s.3, s.4)
none_rec bytes (e ∷ es) [] rest r bad s = begins_none r.0 r.1 (sym s ∙ r.2.whole)
none_rec bytes (e ∷ es) (o ∷ os) rest r bad s =
    let same = same_line s.0 r.0 s.1 r.1 s.2.one r.2.one (sym s.2.whole ∙ r.2.whole) in
    none_rec r.1 es os rest r.4 bad (subst (λ n. IsScript n os) same.1 s.5)

pub bad_line_of : (bytes : List ℕ) (events : List Event) (rest : List ℕ) (number : ℕ) → Reads bytes events rest → IsBad rest → number ≡ min (length events + 1) (2 ^ 32 - 1) → IsBadLine bytes number
bad_line_of bytes events rest number r bad told = record {
  before = events;
  rest = rest;
  good = leaves_of bytes events rest r;
  bad = bad;
  told = told;
  none = λ others s. none_rec bytes events others rest r bad s;
}

pub reads-push : (bytes : List ℕ) (events : List Event) (rest line next : List ℕ) (event : Event) → Reads bytes events rest → BeginsWith rest line next → IsLine line event → Reads bytes (events ++ event ∷ []) next
reads-push bytes [] rest line next event r b l = (line, next, record { whole = r ∙ b.whole; one = b.one }, l, refl)
reads-push bytes (e ∷ es) rest line next event r b l = (r.0, r.1, r.2, r.3, reads-push r.1 es rest line next event r.4 b l)

never : (rest line next : List ℕ) → IsOneLine rest → rest ≡ line ++ 10 ∷ next → ⊥
never [] line next one e = begins_none line next e
never (x ∷ rest) [] next one e = let h : x ≡ 10 = cc e in one.0 h
never (x ∷ rest) (l ∷ line) next one e = let t : rest ≡ line ++ 10 ∷ next = cc e in never rest line next one.1 t

-- what is left without a line feed is no line
pub no_feed : (rest : List ℕ) → rest ≢ [] → IsOneLine rest → IsBad rest
no_feed rest some one = record { more = some; bad = λ line next b g. never rest line next one b.whole }

pub not_in_grammar : (rest line next : List ℕ) → BeginsWith rest line next → (IsInGrammar line → ⊥) → IsBad rest
not_in_grammar rest line next b no_line = record {
  more = λ e. begins_none line next (sym e ∙ b.whole);
  bad = λ other after c g. no_line (subst IsInGrammar (same_line other line after next c.one b.one (sym c.whole ∙ b.whole)).0 g);
}

pub next_shorter : (rest line next : List ℕ) → BeginsWith rest line next → length next < length rest
next_shorter rest line next b = omega (arith, ap length b.whole, length-append line (10 ∷ next))

absurd_bool : {A : Type 0} → false ≡ true → A
absurd_bool e = cc

pub none_left : (rest : List ℕ) → true ≡ (length rest == 0) → rest ≡ []
none_left [] is = refl
none_left (x ∷ rest) is = absurd (omega (arith, eqb-true (length (x ∷ rest)) 0 (sym is)))

pub some_left : (rest : List ℕ) → false ≡ (length rest == 0) → rest ≢ []
some_left [] is nothing = absurd_bool is
some_left (x ∷ rest) is nothing = absurd_nil (sym nothing)
