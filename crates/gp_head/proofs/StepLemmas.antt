-- What the scanner's steps find in a text is what its lines say.
use Rattle.std.proofs.Common.{◌≡◌, ℕ, ◌+◌, ◌≤◌, Bool, true, false, cond, not, eqb, ◌||◌, List, [], ◌∷◌, ◌++◌, length, take, bytes_eq, Option, Some, None, suc, zero-add, refl, sym, ap, ◌∙◌, subst, arith}
use Rattle.std.specs.Option.{option_map}
use Rattle.std.specs.Prelude.{count_by}
use Rattle.std.specs.List.{take_while}
use Rattle.std.proofs.lemmas.List.Sums.{take_while-cons, sum_by-cons}
use Rattle.gp_head.specs.declared.scan.State.{State}
use Rattle.gp_head.specs.declared.scan.State.TheVariants.{Before, BeforeReturn, First, Start, StartReturn, Inside, End}
use Rattle.gp_head.specs.Lines.{first_line, later_lines, lines, is_empty_line, is_filled_line, has_begun, after_first, field_count, length_to_empty, length_to_end, begun_fields, head_end}
use Rattle.gp_head.specs.Steps.{after, begins_field}
use Rattle.gp_head.specs.Scans.{is_end}

-- so many bytes on
abbrev pub later : ℕ → Option ℕ → Option ℕ
later n end = option_map (λ (m : ℕ). n + m) end

pub later_later : (a b : ℕ) (end : Option ℕ) → later a (later b end) ≡ later (a + b) end
later_later a b None = refl
later_later a b (Some n) = ap (λ (m : ℕ). Some m) (omega arith)

pub later_zero : (end : Option ℕ) → later 0 end ≡ end
later_zero None = refl
later_zero (Some n) = ap (λ (m : ℕ). Some m) (omega arith)

-- how many bytes on the end is
abbrev pub end_from : List ℕ → State → Option ℕ
end_from [] s = cond (is_end s) (Some 0) None
end_from (b ∷ bs) s = cond (is_end s) (Some 0) (later 1 (end_from bs (after s b)))

-- how many field lines begin before the end
abbrev pub begun_from : List ℕ → State → ℕ
begun_from [] s = 0
begun_from (b ∷ bs) s = cond (begins_field s b) 1 0 + begun_from bs (after s b)

-- the same by lines
abbrev end_by_lines : List ℕ → State → Option ℕ
end_by_lines text Before = length_to_end (lines text)
end_by_lines text BeforeReturn =
    later (length (first_line text)) (cond (bytes_eq (first_line text) (10 ∷ [])) (length_to_end (later_lines text)) (length_to_empty (later_lines text)))
end_by_lines text First = later (length (first_line text)) (length_to_empty (later_lines text))
end_by_lines text Start = length_to_empty (lines text)
end_by_lines text StartReturn =
    later (length (first_line text)) (cond (bytes_eq (first_line text) (10 ∷ [])) (Some 0) (length_to_empty (later_lines text)))
end_by_lines text Inside = later (length (first_line text)) (length_to_empty (later_lines text))
end_by_lines text End = Some 0

abbrev begun_by_lines : List ℕ → State → ℕ
begun_by_lines text Before = field_count (after_first (lines text))
begun_by_lines text BeforeReturn = field_count (cond (bytes_eq (first_line text) (10 ∷ [])) (after_first (later_lines text)) (later_lines text))
begun_by_lines text First = field_count (later_lines text)
begun_by_lines text Start = field_count (lines text)
begun_by_lines text StartReturn = cond (bytes_eq (first_line text) (10 ∷ [])) 0 (field_count (later_lines text))
begun_by_lines text Inside = field_count (later_lines text)
begun_by_lines text End = 0

-- one more line of bytes in front
pub field_count-cons : (line : List ℕ) (others : List (List ℕ)) → field_count (line ∷ others) ≡ cond (is_empty_line line) 0 (cond (has_begun line) 1 0 + field_count others)
field_count-cons line others = by_test (is_empty_line line) refl
  where
    by_test : (t : Bool) → is_empty_line line ≡ t → field_count (line ∷ others) ≡ cond t 0 (cond (has_begun line) 1 0 + field_count others)
    by_test true empty =
        let none : take_while is_filled_line (line ∷ others) ≡ [] = rw (take_while-cons is_filled_line line others, empty) refl in
        ap (λ (ls : List (List ℕ)). count_by has_begun ls) none
    by_test false filled =
        let some : take_while is_filled_line (line ∷ others) ≡ line ∷ take_while is_filled_line others = rw (take_while-cons is_filled_line line others, filled) refl in
        ap (λ (ls : List (List ℕ)). count_by has_begun ls) some ∙ sum_by-cons (λ (l : List ℕ). cond (has_begun l) 1 0) line (take_while is_filled_line others)

later_line : (n : ℕ) (end : Option ℕ) → later 1 (later n end) ≡ later (suc n) end
later_line n end = later_later 1 n end ∙ ap (λ (m : ℕ). later m end) (omega arith)

module _ (b : ℕ) (bs : List ℕ) (ends : (s : State) → end_from bs s ≡ end_by_lines bs s) where
  end_before : (t r : Bool) → eqb b 10 ≡ t → eqb b 13 ≡ r → end_from (b ∷ bs) Before ≡ end_by_lines (b ∷ bs) Before
  end_before true r feed return = rw feed (ap (later 1) (ends Before))
  end_before false true feed return = rw (feed, return) (ap (later 1) (ends BeforeReturn) ∙ later_line _ _)
  end_before false false feed return = rw (feed, return) (ap (later 1) (ends First) ∙ later_line _ _)

  end_before_return : (t : Bool) → eqb b 10 ≡ t → end_from (b ∷ bs) BeforeReturn ≡ end_by_lines (b ∷ bs) BeforeReturn
  end_before_return true feed = rw feed (ap (later 1) (ends Before))
  end_before_return false feed = rw feed (ap (later 1) (ends First) ∙ later_line _ _)

  end_first : (t : Bool) → eqb b 10 ≡ t → end_from (b ∷ bs) First ≡ end_by_lines (b ∷ bs) First
  end_first true feed = rw feed (ap (later 1) (ends Start))
  end_first false feed = rw feed (ap (later 1) (ends First) ∙ later_line _ _)

  end_start : (t r : Bool) → eqb b 10 ≡ t → eqb b 13 ≡ r → end_from (b ∷ bs) Start ≡ end_by_lines (b ∷ bs) Start
  end_start true r feed return = rw feed (ap (later 1) (ends End))
  end_start false true feed return = rw (feed, return) (ap (later 1) (ends StartReturn) ∙ later_line _ _)
  end_start false false feed return = rw (feed, return) (ap (later 1) (ends Inside) ∙ later_line _ _)

  end_start_return : (t : Bool) → eqb b 10 ≡ t → end_from (b ∷ bs) StartReturn ≡ end_by_lines (b ∷ bs) StartReturn
  end_start_return true feed = rw feed (ap (later 1) (ends End))
  end_start_return false feed = rw feed (ap (later 1) (ends Inside) ∙ later_line _ _)

  end_inside : (t : Bool) → eqb b 10 ≡ t → end_from (b ∷ bs) Inside ≡ end_by_lines (b ∷ bs) Inside
  end_inside true feed = rw feed (ap (later 1) (ends Start))
  end_inside false feed = rw feed (ap (later 1) (ends Inside) ∙ later_line _ _)

end_is_by_lines : (text : List ℕ) (s : State) → end_from text s ≡ end_by_lines text s
end_is_by_lines [] Before = refl
end_is_by_lines [] BeforeReturn = refl
end_is_by_lines [] First = refl
end_is_by_lines [] Start = refl
end_is_by_lines [] StartReturn = refl
end_is_by_lines [] Inside = refl
end_is_by_lines [] End = refl
end_is_by_lines (b ∷ bs) Before = end_before b bs (λ s. end_is_by_lines bs s) (eqb b 10) (eqb b 13) refl refl
end_is_by_lines (b ∷ bs) BeforeReturn = end_before_return b bs (λ s. end_is_by_lines bs s) (eqb b 10) refl
end_is_by_lines (b ∷ bs) First = end_first b bs (λ s. end_is_by_lines bs s) (eqb b 10) refl
end_is_by_lines (b ∷ bs) Start = end_start b bs (λ s. end_is_by_lines bs s) (eqb b 10) (eqb b 13) refl refl
end_is_by_lines (b ∷ bs) StartReturn = end_start_return b bs (λ s. end_is_by_lines bs s) (eqb b 10) refl
end_is_by_lines (b ∷ bs) Inside = end_inside b bs (λ s. end_is_by_lines bs s) (eqb b 10) refl
end_is_by_lines (b ∷ bs) End = refl

begun_at_feed : {n : ℕ} (r : Bool) → n ≡ 0 → cond (not (r || true)) 1 0 + n ≡ 0
begun_at_feed true none = zero-add _ ∙ none
begun_at_feed false none = zero-add _ ∙ none

module _ (b : ℕ) (bs : List ℕ) (fields : (s : State) → begun_from bs s ≡ begun_by_lines bs s) where
  begun_before : (t r : Bool) → eqb b 10 ≡ t → eqb b 13 ≡ r → begun_from (b ∷ bs) Before ≡ begun_by_lines (b ∷ bs) Before
  begun_before true r feed return = rw feed (zero-add _ ∙ fields Before)
  begun_before false true feed return = rw (feed, return) (zero-add _ ∙ fields BeforeReturn)
  begun_before false false feed return = rw (feed, return) (zero-add _ ∙ fields First)

  begun_before_return : (t : Bool) → eqb b 10 ≡ t → begun_from (b ∷ bs) BeforeReturn ≡ begun_by_lines (b ∷ bs) BeforeReturn
  begun_before_return true feed = rw feed (zero-add _ ∙ fields Before)
  begun_before_return false feed = rw feed (zero-add _ ∙ fields First)

  begun_first : (t : Bool) → eqb b 10 ≡ t → begun_from (b ∷ bs) First ≡ begun_by_lines (b ∷ bs) First
  begun_first true feed = rw feed (zero-add _ ∙ fields Start)
  begun_first false feed = rw feed (zero-add _ ∙ fields First)

  begun_start : (t r : Bool) → eqb b 10 ≡ t → eqb b 13 ≡ r → begun_from (b ∷ bs) Start ≡ begun_by_lines (b ∷ bs) Start
  begun_start true r feed return =
      let e = field_count-cons (b ∷ []) (lines bs) in
      rw (feed, return) (begun_at_feed r (fields End) ∙ sym (rw feed at e))
  begun_start false true feed return =
      let e = field_count-cons (b ∷ first_line bs) (later_lines bs) in
      rw (feed, return)
      (zero-add _ ∙ fields StartReturn ∙ ap (λ (n : ℕ). cond (bytes_eq (first_line bs) (10 ∷ [])) 0 n) (sym (zero-add _)) ∙ sym (rw (feed, return) at e))
  begun_start false false feed return =
      let e = field_count-cons (b ∷ first_line bs) (later_lines bs) in
      rw (feed, return) (ap (λ (n : ℕ). 1 + n) (fields Inside) ∙ sym (rw (feed, return) at e))

  begun_start_return : (t : Bool) → eqb b 10 ≡ t → begun_from (b ∷ bs) StartReturn ≡ begun_by_lines (b ∷ bs) StartReturn
  begun_start_return true feed = rw feed (zero-add _ ∙ fields End)
  begun_start_return false feed = rw feed (zero-add _ ∙ fields Inside)

  begun_inside : (t : Bool) → eqb b 10 ≡ t → begun_from (b ∷ bs) Inside ≡ begun_by_lines (b ∷ bs) Inside
  begun_inside true feed = rw feed (zero-add _ ∙ fields Start)
  begun_inside false feed = rw feed (zero-add _ ∙ fields Inside)

begun_is_by_lines : (text : List ℕ) (s : State) → begun_from text s ≡ begun_by_lines text s
begun_is_by_lines [] Before = refl
begun_is_by_lines [] BeforeReturn = refl
begun_is_by_lines [] First = refl
begun_is_by_lines [] Start = refl
begun_is_by_lines [] StartReturn = refl
begun_is_by_lines [] Inside = refl
begun_is_by_lines [] End = refl
begun_is_by_lines (b ∷ bs) Before = begun_before b bs (λ s. begun_is_by_lines bs s) (eqb b 10) (eqb b 13) refl refl
begun_is_by_lines (b ∷ bs) BeforeReturn = begun_before_return b bs (λ s. begun_is_by_lines bs s) (eqb b 10) refl
begun_is_by_lines (b ∷ bs) First = begun_first b bs (λ s. begun_is_by_lines bs s) (eqb b 10) refl
begun_is_by_lines (b ∷ bs) Start = begun_start b bs (λ s. begun_is_by_lines bs s) (eqb b 10) (eqb b 13) refl refl
begun_is_by_lines (b ∷ bs) StartReturn = begun_start_return b bs (λ s. begun_is_by_lines bs s) (eqb b 10) refl
begun_is_by_lines (b ∷ bs) Inside = begun_inside b bs (λ s. begun_is_by_lines bs s) (eqb b 10) refl
begun_is_by_lines (b ∷ bs) End = zero-add _ ∙ begun_is_by_lines bs End

-- ---- the head at the front of a text

pub end_from-head_end : (text : List ℕ) → end_from text Before ≡ head_end text
unfolding head_end
end_from-head_end text = end_is_by_lines text Before

pub begun_from-begun_fields : (text : List ℕ) → begun_from text Before ≡ begun_fields text
unfolding begun_fields
begun_from-begun_fields text = begun_is_by_lines text Before

-- ---- what follows

-- behind the end nothing begins
pub begun_at_end : (text : List ℕ) (s : State) → is_end s ≡ true → begun_from text s ≡ 0
begun_at_end [] s at_end = refl
begun_at_end (b ∷ bs) Before at_end = cc
begun_at_end (b ∷ bs) BeforeReturn at_end = cc
begun_at_end (b ∷ bs) First at_end = cc
begun_at_end (b ∷ bs) Start at_end = cc
begun_at_end (b ∷ bs) StartReturn at_end = cc
begun_at_end (b ∷ bs) Inside at_end = cc
begun_at_end (b ∷ bs) End at_end = zero-add _ ∙ begun_at_end bs End refl

pub end_at_end : (text : List ℕ) (s : State) → is_end s ≡ true → end_from text s ≡ Some 0
end_at_end [] s at_end = rw at_end refl
end_at_end (b ∷ bs) s at_end = rw at_end refl

-- an end that is later by one
before_later : (end : Option ℕ) (n : ℕ) → later 1 end ≡ Some n → (m : ℕ) × (end ≡ Some m) × (n ≡ 1 + m)
before_later None n e = cc
before_later (Some m) n e = (m, refl, cc)

-- an end that is there, and the bytes up to it, and those behind it
pub record EndsIn (text more : List ℕ) (s : State) (n : ℕ) : Type 0 where
  pub inside : n ≤ length text
  pub longer : end_from (text ++ more) s ≡ Some n
  pub cut : end_from (take n text) s ≡ Some n
  pub begun_longer : begun_from (text ++ more) s ≡ begun_from text s
  pub begun_cut : begun_from (take n text) s ≡ begun_from text s

ended : (text more : List ℕ) (s : State) (n : ℕ) → is_end s ≡ true → end_from text s ≡ Some n → EndsIn text more s n
ended text more s n at_end e =
    let here : ◌≡◌ {A = Option ℕ} (Some 0) (Some n) = sym (end_at_end text s at_end) ∙ e in
    let zero_is : 0 ≡ n = cc in record {
      inside = omega arith;
      longer = end_at_end (text ++ more) s at_end ∙ here;
      cut = end_at_end (take n text) s at_end ∙ here;
      begun_longer = begun_at_end (text ++ more) s at_end ∙ sym (begun_at_end text s at_end);
      begun_cut = begun_at_end (take n text) s at_end ∙ sym (begun_at_end text s at_end);
    }

one_more : (b : ℕ) (bs more : List ℕ) (s : State) (m : ℕ) → is_end s ≡ false → EndsIn bs more (after s b) m → EndsIn (b ∷ bs) more s (suc m)
one_more b bs more s m running rest =
    let some : ◌≡◌ {A = Option ℕ} (Some (1 + m)) (Some (suc m)) = ap (λ (k : ℕ). Some k) (omega arith) in record {
      inside = omega (arith, rest.inside);
      longer = rw running (ap (later 1) rest.longer ∙ some);
      cut = rw running (ap (later 1) rest.cut ∙ some);
      begun_longer = ap (λ (k : ℕ). cond (begins_field s b) 1 0 + k) rest.begun_longer;
      begun_cut = ap (λ (k : ℕ). cond (begins_field s b) 1 0 + k) rest.begun_cut;
    }

pub ends_in : (text more : List ℕ) (s : State) (n : ℕ) → end_from text s ≡ Some n → EndsIn text more s n
ends_in [] more s n e = by_state (is_end s) refl
  where
    by_state : (t : Bool) → is_end s ≡ t → EndsIn [] more s n
    by_state true at_end = ended [] more s n at_end e
    by_state false running = let none : ◌≡◌ {A = Option ℕ} None (Some n) = rw running at e in cc
ends_in (b ∷ bs) more s n e =
    by_state (λ m f. ends_in bs more (after s b) m f) (is_end s) refl
  where
    by_state : ((m : ℕ) → end_from bs (after s b) ≡ Some m → EndsIn bs more (after s b) m) → (t : Bool) → is_end s ≡ t → EndsIn (b ∷ bs) more s n
    by_state rest true at_end = ended (b ∷ bs) more s n at_end e
    by_state rest false running =
        let behind : later 1 (end_from bs (after s b)) ≡ Some n = rw running at e in
        let found = before_later _ n behind in
        let next : suc found.0 ≡ n = omega (arith, found.2) in
        subst (EndsIn (b ∷ bs) more s) next (one_more b bs more s found.0 running (rest found.0 found.1))

-- more bytes begin no fewer field lines
pub begun_from-append : (text more : List ℕ) (s : State) → begun_from text s ≤ begun_from (text ++ more) s
begun_from-append [] more s = omega arith
begun_from-append (b ∷ bs) more s = omega (arith, begun_from-append bs more (after s b))
