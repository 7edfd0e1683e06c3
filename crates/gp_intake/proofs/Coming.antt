-- More bytes of a body.
use Rattle.std.proofs.Common.{◌≡◌, ℕ, zero, suc, ◌-◌, ◌<◌, ◌≤◌, Bool, true, false, List, [], ◌∷◌, ◌++◌, length, take, drop, Option, Some, None, Result, Ok, Err, refl, sym, ap, ◌∙◌, subst, arith, append_assoc, append-nil, take-append-drop, length-append, length-take}
use Rattle.std.proofs.lemmas.List.{take-append-le}
use Rattle.std.proofs.Math.Seq.{take-append-add, drop-length}
use Rattle.gp_body.specs.declared.plan.BodyPlan.{BodyPlan}
use Rattle.gp_body.specs.declared.fed.FedFault.{FedFault}
use Rattle.gp_body.specs.declared.fed.FedAll.{FedAll}
use Rattle.gp_body.specs.declared.reading.Reading.{Reading}
use Rattle.gp_body.specs.Steps.{is_end}
use Rattle.gp_body.specs.Readings.{has_stopped, after_all, content_from}
use Rattle.gp_body.proofs.ReadingLemmas.{after_all-append, stays}
use Rattle.std.specs.Prelude.{nat_lt, MatchResult, IfOk}
use Rattle.std.specs.declared.alloc.AllocError.{AllocError}
use Rattle.std.proofs.lemmas.Bool.{ltb-true, ltb-false}
use Rattle.gp_body.specs.Wholes.{opening, reading_of, content_of, is_ended, fault_of}
use Rattle.gp_body.specs.Alls.{FeedsAll, RefusesAll, FeedsAllAt, RefusesAllAt}
use Rattle.gp_body.proofs.GatherLemmas.{reads_all}
use Rattle.gp_intake.specs.declared.reading.TheConstants.{MAX_BODY}
use Rattle.gp_intake.specs.Bodies.{IsCause, ReadingView, HasCome, IsOfBody, IsOpen, Nearer, ComesOn}
use Rattle.gp_intake.proofs.Steady.{Steady, steady, nearer}

-- nothing has come
pub none_come : (plan : BodyPlan) (r : Reading) (content unused : List ℕ) → r ≡ reading_of plan MAX_BODY [] → content ≡ [] → unused ≡ []
    → HasCome plan [] (record { reading = r; content = content; unused = unused })
unfolding content_of content_from
none_come plan r content unused e none nothing = record { text = []; split = sym nothing; reading = e; content = none; waits = λ unrefused n lt. absurd (omega arith); nothing = λ h. nothing }

pub of_body : (v : ReadingView) (plan : BodyPlan) (bytes : List ℕ) → HasCome plan bytes v → IsOfBody v
of_body v plan bytes come = record { plan = plan; bytes = bytes; come = come }

-- what every body that is read keeps
pub steady_of : (v : ReadingView) → IsOfBody v → Steady MAX_BODY v.reading
steady_of v b = subst (Steady MAX_BODY) (sym b.come.reading) (steady b.plan MAX_BODY b.come.text)

stopped_none : (r : Reading) → IsOpen r → has_stopped r ≡ false
stopped_none r o = rw (o.refused, o.ended) refl

pub nearer_by : (v : ReadingView) (r' : Reading) (bytes : List ℕ) → IsOfBody v → r' ≡ after_all bytes v.reading → Nearer bytes v.reading r'
nearer_by v r' bytes b e going some = rw e (nearer MAX_BODY bytes v.reading (steady_of v b) (stopped_none v.reading going) some)

-- a text that isn't refused wasn't refused before
open_before : (plan : BodyPlan) (xs ys : List ℕ) → fault_of plan MAX_BODY (xs ++ ys) ≡ None → fault_of plan MAX_BODY xs ≡ None
unfolding reading_of
open_before plan xs ys e = by_fault (fault_of plan MAX_BODY xs) refl
  where
    by_fault : (o : Option FedFault) → fault_of plan MAX_BODY xs ≡ o → fault_of plan MAX_BODY xs ≡ None
    by_fault None h = h
    by_fault (Some fault) h =
        let same : reading_of plan MAX_BODY (xs ++ ys) ≡ reading_of plan MAX_BODY xs = after_all-append xs ys (opening plan MAX_BODY) ∙ stays ys (reading_of plan MAX_BODY xs) (rw h refl) in
        let later : fault_of plan MAX_BODY (xs ++ ys) ≡ Some fault = ap (λ (r : Reading). r.refused) same ∙ h in
        cc

take_shorter : (m t : ℕ) (xs : List ℕ) → m ≤ t → take m (take t xs) ≡ take m xs
take_shorter zero t xs le = refl
take_shorter (suc m) zero xs le = absurd (omega arith)
take_shorter (suc m) (suc t) [] le = refl
take_shorter (suc m) (suc t) (x ∷ xs) le = ap (λ (ys : List ℕ). x ∷ ys) (take_shorter m t xs (omega arith))

module _ (plan : BodyPlan) (text bytes : List ℕ) (t : ℕ) (before : (n : ℕ) → n < length text → is_ended plan MAX_BODY (take n text) ≡ false)
    (behind : (n : ℕ) → n < t → is_ended plan MAX_BODY (text ++ take n bytes) ≡ false) where
  waits_all : (n : ℕ) → n < length (text ++ take t bytes) → is_ended plan MAX_BODY (take n (text ++ take t bytes)) ≡ false
  waits_all n lt = by_place (nat_lt n (length text)) refl
    where
      by_place : (c : Bool) → nat_lt n (length text) ≡ c → is_ended plan MAX_BODY (take n (text ++ take t bytes)) ≡ false
      by_place true h =
          let less = ltb-true n (length text) h in
          rw (take-append-le n text (take t bytes) (omega arith)) (before n less)
      by_place false h =
          let most = ltb-false n (length text) h in
          let m = n - length text in
          let few : m < t = omega (arith, lt, length-append text (take t bytes), length-take t bytes) in
          let same : take n (text ++ take t bytes) ≡ text ++ take m bytes =
          ap (λ (k : ℕ). take k (text ++ take t bytes)) (omega arith) ∙ take-append-add text (take t bytes) m ∙ ap (λ (xs : List ℕ). text ++ xs) (take_shorter m t bytes (omega arith)) in
          rw same (behind m few)

nothing_left : (v : ReadingView) (bytes : List ℕ) (taken : FedAll) (e : Bool) → v.unused ≡ [] → taken.end ≡ e → (taken.end ≡ false → taken.taken ≡ length bytes) → e ≡ false → v.unused ++ drop taken.taken bytes ≡ []
nothing_left v bytes taken e none end whole h =
    ap (λ (xs : List ℕ). xs ++ drop taken.taken bytes) none ∙ ap (λ (k : ℕ). drop k bytes) (whole (end ∙ h)) ∙ drop-length bytes

module _ (plan : BodyPlan) (v : ReadingView) (came bytes : List ℕ) (come : HasCome plan came v) (no_unused : v.unused ≡ []) where
  text_is : came ≡ come.text
  text_is = come.split ∙ ap (λ (xs : List ℕ). come.text ++ xs) no_unused ∙ append-nil come.text

  pub fed : (r' : Reading) (now : List ℕ) (taken : FedAll) → FeedsAllAt plan MAX_BODY come.text bytes taken r' v.content now
      → HasCome plan (came ++ bytes) (record { reading = r'; content = now; unused = v.unused ++ drop taken.taken bytes })
  fed r' now taken f = record {
    text = come.text ++ take taken.taken bytes;
    split =
        ap (λ (xs : List ℕ). xs ++ bytes) text_is
        ∙ ap (λ (xs : List ℕ). come.text ++ xs) (sym (take-append-drop taken.taken bytes))
        ∙ sym (append_assoc come.text (take taken.taken bytes) (drop taken.taken bytes))
        ∙ ap (λ (xs : List ℕ). (come.text ++ take taken.taken bytes) ++ (xs ++ drop taken.taken bytes)) (sym no_unused);
    reading = f.reading;
    content = f.content [] come.content;
    waits = λ none. waits_all plan come.text bytes taken.taken (come.waits (ap (λ (r : Reading). r.refused) come.reading ∙ open_before plan come.text (take taken.taken bytes) f.goes_on)) f.waits;
    nothing = λ h. nothing_left v bytes taken (is_end r'.state) no_unused (f.ended ∙ ap (λ (r : Reading). is_end r.state) (sym f.reading)) f.whole h;
  }

  pub refused : (r' : Reading) (now : List ℕ) (fault : FedFault) → RefusesAllAt plan MAX_BODY come.text bytes fault r' v.content now
      → HasCome plan (came ++ bytes) (record { reading = r'; content = now; unused = v.unused })
  refused r' now fault f = record {
    text = come.text ++ bytes;
    split =
        ap (λ (xs : List ℕ). xs ++ bytes) text_is
        ∙ sym (append-nil (come.text ++ bytes))
        ∙ ap (λ (xs : List ℕ). (come.text ++ bytes) ++ xs) (sym no_unused);
    reading = f.reading;
    content = f.content [] come.content;
    waits = λ none. (let told : r'.refused ≡ Some fault = ap (λ (r : Reading). r.refused) f.reading ∙ f.told in absurd (cc));
    nothing = λ h. no_unused;
  }

  -- where no memory is left for the bytes behind the end
  pub fed_part : (r' : Reading) (now : List ℕ) (taken : FedAll) → FeedsAllAt plan MAX_BODY come.text bytes taken r' v.content now
      → HasCome plan (came ++ take taken.taken bytes) (record { reading = r'; content = now; unused = v.unused })
  fed_part r' now taken f = record {
    text = come.text ++ take taken.taken bytes;
    split =
        ap (λ (xs : List ℕ). xs ++ take taken.taken bytes) text_is
        ∙ sym (append-nil (come.text ++ take taken.taken bytes))
        ∙ ap (λ (xs : List ℕ). (come.text ++ take taken.taken bytes) ++ xs) (sym no_unused);
    reading = f.reading;
    content = f.content [] come.content;
    waits = λ none. waits_all plan come.text bytes taken.taken (come.waits (ap (λ (r : Reading). r.refused) come.reading ∙ open_before plan come.text (take taken.taken bytes) f.goes_on)) f.waits;
    nothing = λ h. no_unused;
  }

-- what was added to the bytes behind the end, or that nothing was
abbrev pub Added : List ℕ → List ℕ → List ℕ → Result (Unit {0}) AllocError → Type 0
Added was more is result = MatchResult result (λ _. is ≡ was ++ more) (λ _. is ≡ was)

pub still_of_body : (v : ReadingView) (bytes now is : List ℕ) (r' : Reading) (taken : FedAll) (result : Result (Unit {0}) AllocError) → (b : IsOfBody v) → v.unused ≡ []
    → FeedsAllAt b.plan MAX_BODY b.come.text bytes taken r' v.content now → Added v.unused (drop taken.taken bytes) is result
    → IsOfBody (record { reading = r'; content = now; unused = is })
still_of_body v bytes now is r' taken (Ok done) b none f added =
    of_body _ b.plan (b.bytes ++ bytes) (subst (λ (xs : List ℕ). HasCome b.plan (b.bytes ++ bytes) (record { reading = r'; content = now; unused = xs })) (sym added) (fed b.plan v b.bytes bytes b.come none r' now taken f))
still_of_body v bytes now is r' taken (Err e) b none f added =
    of_body _ b.plan (b.bytes ++ take taken.taken bytes) (subst (λ (xs : List ℕ). HasCome b.plan (b.bytes ++ take taken.taken bytes) (record { reading = r'; content = now; unused = xs })) (sym added) (fed_part b.plan v b.bytes bytes b.come none r' now taken f))

-- the reading behind all bytes, and what has come with them
pub comes_on : (v w : ReadingView) (bytes now is : List ℕ) (r' : Reading) (taken : FedAll) (result : Result (Unit {0}) AllocError) → v ≡ w → v.unused ≡ []
    → ((plan : BodyPlan) (limit : ℕ) (text : List ℕ) → v.reading ≡ reading_of plan limit text → FeedsAllAt plan limit text bytes taken r' v.content now)
    → Added v.unused (drop taken.taken bytes) is result → IfOk result (λ _. ComesOn bytes w (record { reading = r'; content = now; unused = is }))
comes_on v w bytes now is r' taken (Ok done) same none f added =
    subst (λ (x : ReadingView). ComesOn bytes x (record { reading = r'; content = now; unused = is })) same
    (λ plan came come. subst (λ (xs : List ℕ). HasCome plan (came ++ bytes) (record { reading = r'; content = now; unused = xs })) (sym added) (fed plan v came bytes come none r' now taken (f plan MAX_BODY come.text come.reading)))
comes_on v w bytes now is r' taken (Err e) same none f added = tt

pub refused_on : (v w : ReadingView) (bytes now : List ℕ) (r' : Reading) (fault : FedFault) → v ≡ w → v.unused ≡ []
    → ((plan : BodyPlan) (limit : ℕ) (text : List ℕ) → v.reading ≡ reading_of plan limit text → RefusesAllAt plan limit text bytes fault r' v.content now)
    → ComesOn bytes w (record { reading = r'; content = now; unused = v.unused })
refused_on v w bytes now r' fault same none f =
    subst (λ (x : ReadingView). ComesOn bytes x (record { reading = r'; content = now; unused = v.unused })) same
    (λ plan came come. refused plan v came bytes come none r' now fault (f plan MAX_BODY come.text come.reading))

pub refused_of_body : (v : ReadingView) (bytes now : List ℕ) (r' : Reading) (fault : FedFault) → IsOfBody v → v.unused ≡ []
    → ((plan : BodyPlan) (limit : ℕ) (text : List ℕ) → v.reading ≡ reading_of plan limit text → RefusesAllAt plan limit text bytes fault r' v.content now)
    → IsOfBody (record { reading = r'; content = now; unused = v.unused })
refused_of_body v bytes now r' fault b none f = of_body _ b.plan (b.bytes ++ bytes) (refused b.plan v b.bytes bytes b.come none r' now fault (f b.plan MAX_BODY b.come.text b.come.reading))

pub nearer_fed : (v w : ReadingView) (r' : Reading) (bytes now : List ℕ) (taken : FedAll) → v ≡ w → IsOfBody v → FeedsAll v.reading bytes taken r' v.content now → Nearer bytes w.reading r'
nearer_fed v w r' bytes now taken same b f = subst (λ (x : ReadingView). Nearer bytes x.reading r') same (nearer_by v r' bytes b (reads_all v.reading r' bytes v.content now taken f).reading)

pub nearer_refused : (v w : ReadingView) (r' : Reading) (bytes now : List ℕ) (fault : FedFault) → v ≡ w → IsOfBody v → RefusesAll v.reading bytes fault r' v.content now → Nearer bytes w.reading r'
nearer_refused v w r' bytes now fault same b f = subst (λ (x : ReadingView). Nearer bytes x.reading r') same (nearer_by v r' bytes b f.reading)

pub cause_of : (v : ReadingView) → IsOfBody v → IsCause MAX_BODY v.reading.refused
cause_of v b = (steady_of v b).cause

pub nothing_behind : (v : ReadingView) → IsOfBody v → is_end v.reading.state ≡ false → v.unused ≡ []
nothing_behind v b h = b.come.nothing h
