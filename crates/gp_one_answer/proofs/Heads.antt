-- One head of a response stands behind the interim ones.
use Rattle.std.proofs.Common.{◌≡◌, ◌≢◌, ℕ, ◌<◌, ◌≤◌, ◌⊎◌, inl, inr, Bool, true, false, List, take, drop, refl, sym, ap, ◌∙◌, subst, arith}
use Rattle.std.proofs.lemmas.Bool.{cases_lt}
use Rattle.gp_plain.specs.declared.http.Response.{Response}
use Rattle.gp_head.specs.declared.read.HeadRead.{HeadRead}
use Rattle.gp_head.specs.declared.read.HeadRead.TheVariants.{Whole, More as Open, Bad, TooMany, TooLong, NoMemory}
use Rattle.gp_head.specs.Heads.{IsRead, IsResponseText}
use Rattle.gp_head.proofs.OneHead.{one_response}
use Rattle.gp_exchange.specs.Heads.{is_interim, AreInterim, none, more as another, HasHead, IsNoHead, RefusesHead, RefusesInterim}

-- what is read at a place is read at the same place
read_there : (received : List ℕ) (at at' : ℕ) (answer : HeadRead Response) → at' ≡ at → IsRead IsResponseText (drop at' received) answer
    → IsRead IsResponseText (drop at received) answer
read_there received at at' answer same read = subst (λ (place : ℕ). IsRead IsResponseText (drop place received) answer) same read

-- so many interim heads end at one place
one_place : (received : List ℕ) (n m at at' : ℕ) → AreInterim received n at → AreInterim received m at' → n ≡ m → at ≡ at'
one_place received _ _ _ _ none none e = refl
one_place received _ _ _ _ none (another m at' k' head' before' read' is' not') e = absurd (omega (arith, e))
one_place received _ _ _ _ (another n at k head before read is not) none e = absurd (omega (arith, e))
one_place received _ _ _ _ (another n at k head before read is not) (another m at' k' head' before' read' is' not') e =
    let first : at ≡ at' = one_place received n m at at' before before' (omega (arith, e)) in
    let there = read_there received at at' (Whole head' k') (sym first) read' in
    let long : k ≡ k' = (one_response (drop at received) head head' k k' read there).1 in
    omega (arith, first, long)

-- an interim head stands at a place
record StandsAt (received : List ℕ) (at : ℕ) : Type 0 where
  head : Response
  length : ℕ
  read : IsRead IsResponseText (drop at received) (Whole head length)
  is : is_interim head.code ≡ true
  plain : head.code ≢ 101

-- where more interim heads stand in front, one stands behind the fewer
next_one : (received : List ℕ) (n m at at' : ℕ) → AreInterim received n at → AreInterim received m at' → m < n → StandsAt received at'
next_one received _ m _ at' none other lt = absurd (omega (arith, lt))
next_one received _ m _ at' (another n at k head before read is not) other lt = by_order (cases_lt m n) (λ less. next_one received n m at at' before other less)
  where
    by_order : (m < n) ⊎ (n ≤ m) → (m < n → StandsAt received at') → StandsAt received at'
    by_order (inl less) earlier = earlier less
    by_order (inr le) earlier =
        let same : at ≡ at' = one_place received n m at at' before other (omega (arith, lt, le)) in
        record { head = head; length = k; read = read_there received at' at (Whole head k) same read; is = is; plain = not }

-- of the bytes in front of which a head stands behind the interim ones
module _ (received : List ℕ) (head : Response) (at : ℕ) (has : HasHead received head at) where
  -- that head isn't interim
  not_interim : (other : Response) (n : ℕ) → IsRead IsResponseText (drop has.before received) (Whole other n) → is_interim other.code ≡ true → ⊥
  not_interim other n read is =
      let same : head ≡ other = (one_response (drop has.before received) head other has.length n has.read read).0 in
      let final : is_interim other.code ≡ false = sym (ap (λ (h : Response). is_interim h.code) same) ∙ has.final in
      absurd cc

  -- other interim heads are as many, or fewer
  abbrev Beside : ℕ → ℕ → Type 0
  Beside count place = ((count ≡ has.count) × (place ≡ has.before)) ⊎ ((count < has.count) × StandsAt received place)

  no_more : (count place : ℕ) → AreInterim received count place → has.count < count → ⊥
  no_more count place interim lt =
      let next = next_one received count has.count place has.before interim has.interim lt in
      not_interim next.head next.length next.read next.is

  beside : (count place : ℕ) → AreInterim received count place → Beside count place
  beside count place interim = by_less (cases_lt count has.count)
    where
      by_more : has.count ≤ count → (has.count < count) ⊎ (count ≤ has.count) → Beside count place
      by_more le (inl lt) = absurd (no_more count place interim lt)
      by_more le (inr ge) =
          let same : count ≡ has.count = omega (arith, le, ge) in
          inl (same, one_place received count has.count place has.before interim has.interim same)

      by_less : (count < has.count) ⊎ (has.count ≤ count) → Beside count place
      by_less (inl lt) = inr (lt, next_one received has.count count has.before place has.interim interim lt)
      by_less (inr le) = by_more le (cases_lt has.count count)

  -- it is the only one, and ends at one place
  pub same_head : (head' : Response) (at' : ℕ) → HasHead received head' at' → (head' ≡ head) × (at' ≡ at)
  same_head head' at' has' = by_beside (beside has'.count has'.before has'.interim)
    where
      by_beside : Beside has'.count has'.before → (head' ≡ head) × (at' ≡ at)
      by_beside (inl (count, place)) =
          let there = read_there received has.before has'.before (Whole head' has'.length) place has'.read in
          let one = one_response (drop has.before received) head head' has.length has'.length has.read there in
          (sym one.0, omega (arith, has.at_is, has'.at_is, place, one.1))
      by_beside (inr (lt, next)) =
          let same : head' ≡ next.head = (one_response (drop has'.before received) head' next.head has'.length next.length has'.read next.read).0 in
          let interim : is_interim head'.code ≡ true = ap (λ (h : Response). is_interim h.code) same ∙ next.is in
          let final = has'.final in
          absurd cc

  -- a head can be read
  pub no_bad_head : (ended : Bool) → RefusesHead received ended → ⊥
  no_bad_head ended refuses = by_beside (beside refuses.count refuses.at refuses.interim)
    where
      read_bad : (bytes : List ℕ) (other : Response) (n : ℕ) (answer : HeadRead Response) → IsRead IsResponseText bytes (Whole other n)
          → IsRead IsResponseText bytes answer → IsNoHead ended answer → ⊥
      read_bad bytes other n TooMany whole read bad = absurd (let never = sym whole.0 ∙ read in cc)
      read_bad bytes other n TooLong whole read bad = absurd (let never = sym whole.0 ∙ read in cc)
      read_bad bytes other n Open whole read bad = absurd (let never = sym whole.0 ∙ read in cc)
      read_bad bytes other n Bad whole (m, ends, not) bad =
          let long = sym whole.0 ∙ ends in
          let same : n ≡ m = cc in
          not other (subst (λ (k : ℕ). IsResponseText (take k bytes) other) same whole.1)
      read_bad bytes other n (Whole head' m) whole read bad = bad
      read_bad bytes other n NoMemory whole read bad = bad

      by_beside : Beside refuses.count refuses.at → ⊥
      by_beside (inl (count, place)) =
          let there = read_there received has.before refuses.at refuses.answer place refuses.read in
          read_bad (drop has.before received) head has.length refuses.answer has.read there refuses.refused
      by_beside (inr (lt, next)) = read_bad (drop refuses.at received) next.head next.length refuses.answer next.read refuses.read refuses.refused

  -- no interim head is refused
  pub no_bad_interim : RefusesInterim received → ⊥
  no_bad_interim refuses = by_beside (beside refuses.count refuses.at refuses.interim)
    where
      by_over : (refuses.count < has.count) → (next : StandsAt received refuses.at) → (refuses.head.code ≡ 101) ⊎ (refuses.count ≡ 8) → ⊥
      by_over lt next (inl code) =
          let one = one_response (drop refuses.at received) next.head refuses.head next.length refuses.length next.read refuses.read in
          next.plain (ap (λ (h : Response). h.code) one.0 ∙ code)
      by_over lt next (inr eight) = absurd (omega (arith, lt, eight, has.few))

      by_beside : Beside refuses.count refuses.at → ⊥
      by_beside (inl (count, place)) =
          let there = read_there received has.before refuses.at (Whole refuses.head refuses.length) place refuses.read in
          not_interim refuses.head refuses.length there refuses.is_interim
      by_beside (inr (lt, next)) = by_over lt next refuses.over

pub one_head_holds : (received : List ℕ) (head head' : Response) (at at' : ℕ) → HasHead received head at → HasHead received head' at'
    → (head' ≡ head) × (at' ≡ at)
one_head_holds received head head' at at' has has' = same_head received head at has head' at' has'
