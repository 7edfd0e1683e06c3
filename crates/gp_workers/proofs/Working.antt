-- What a worker does keeps its books.
use Rattle.std.proofs.Common.{◌≡◌, ℕ, ◌+◌, ◌<◌, inl, inr, List, [], ◌∷◌, ◌++◌, append_assoc, append-nil, length, length-set, map, set, get_or, sym, refl, ap, ◌∙◌, subst, ⊎_elim, arith, Bool, true, false, MatchBool, Option, Some, None}
use Rattle.std.specs.List.{sum_by, swap_remove}
use Rattle.std.specs.Option.{option_map}
use Rattle.std.proofs.lemmas.List.Elements.{All-push, All-weaker}
use Rattle.std.proofs.lemmas.List.{get_or-set_same}
use Rattle.std.proofs.lemmas.List.Sums.{sum_by_push, sum_by-swap_remove, sum_by-set}
use Rattle.atomic_table.specs.Seated.{TableId}
use Rattle.gp_outside.specs.declared.kit.Handed.{Handed}
use Rattle.gp_hub.specs.Passes.{HubView}
use Rattle.gp_workers.specs.Claims.{hit}
use Rattle.gp_workers.specs.Makers.{Means, IsGiven, numbers}
use Rattle.gp_workers.specs.Books.{Books, Gave, handed_of, report_of, Hands, HasFinished}
use Rattle.gp_workers.specs.Works.{Holds, IsJoined, Told, Ranged, Works, reported_in, running_in, stands_in}
use Rattle.gp_workers.proofs.Joining.{grown_mine, joined_gone, joined_grown, joined_later, of_range, ranged_kept, some_of}
use Rattle.gp_turn.specs.Passes.{ranges_of, times_in}
use Rattle.gp_turn.proofs.Ranges.{times-append}
use Rattle.gp_workers.specs.declared.maker.Finished.{Finished}
use Rattle.gp_workers.specs.declared.report.SessionReport.{SessionReport}
use Rattle.gp_workers.specs.declared.worker.Running.{Running}

pub false-ne-true : false ≡ true → ⊥
false-ne-true e = subst (λ (b : Bool). MatchBool b ⊥ (Unit {0})) e tt

pub map_push : {A B : Type 0} (f : A → B) (xs : List A) (x : A) → map f (xs ++ x ∷ []) ≡ map f xs ++ f x ∷ []
map_push f [] x = refl
map_push f (y ∷ ys) x = ap (λ (l : List _). f y ∷ l) (map_push f ys x)

module _ {L D C : Type 0} where
  -- the devices of one more session: handed back, or lost with those behind it
  hands_by : (start b n : Books L D C) (gave back lost : List (Gave L D C)) (g : Gave L D C) (was is : Bool) → b.is_full ≡ was → n.is_full ≡ is
      → gave ≡ back ++ lost
      → b.handed ≡ option_map (λ (all : List (Handed L D C)). all ++ map handed_of back) start.handed
      → MatchBool was (b.no_memory ≡ true) (lost ≡ [])
      → MatchBool is (n.handed ≡ b.handed) (n.handed ≡ option_map (λ (all : List (Handed L D C)). all ++ handed_of g ∷ []) b.handed)
      → Hands b n (handed_of g)
      → (back' : List (Gave L D C)) × (lost' : List (Gave L D C)) × (gave ++ g ∷ [] ≡ back' ++ lost')
      × (n.handed ≡ option_map (λ (all : List (Handed L D C)). all ++ map handed_of back') start.handed)
      × MatchBool is (n.no_memory ≡ true) (lost' ≡ [])
  hands_by start b n gave back lost g was true ew ei split handed full now h = (
    back,
    lost ++ g ∷ [],
    ap (λ (l : List (Gave L D C)). l ++ g ∷ []) split ∙ append_assoc back lost (g ∷ []),
    now ∙ handed,
    ⊎_elim
        (λ (full_before : b.is_full ≡ true). h.memory (subst (λ (x : Bool). MatchBool x (b.no_memory ≡ true) (lost ≡ [])) (sym ew ∙ full_before) full))
        (λ (m : n.no_memory ≡ true). m)
        (h.cause ei),
  )
  hands_by start b n gave back lost g true false ew ei split handed full now h = absurd (false-ne-true (sym ei ∙ h.stays ew))
  hands_by start b n gave back lost g false false ew ei split handed full now h = (
    back ++ g ∷ [],
    [],
    ap (λ (l : List (Gave L D C)). l ++ g ∷ []) (split ∙ (ap (λ (l : List (Gave L D C)). back ++ l) full ∙ append-nil back)) ∙ sym (append-nil (back ++ g ∷ [])),
    now ∙ (ap (λ (told : Option (List (Handed L D C))). option_map (λ (all : List (Handed L D C)). all ++ handed_of g ∷ []) told) handed ∙ again start.handed back),
    refl,
  )
    where
      again : (told : Option (List (Handed L D C))) (xs : List (Gave L D C)) → option_map (λ (all : List (Handed L D C)). all ++ handed_of g ∷ []) (option_map (λ (all : List (Handed L D C)). all ++ map handed_of xs) told) ≡ option_map (λ (all : List (Handed L D C)). all ++ map handed_of (xs ++ g ∷ [])) told
      again None xs = refl
      again (Some all) xs = ap (λ (l : List (Handed L D C)). Some l) (append_assoc all (map handed_of xs) (handed_of g ∷ []) ∙ ap (λ (l : List (Handed L D C)). all ++ l) (sym (map_push handed_of xs g)))

  told_finished : (means : Means L D C) (turn : TableId) (start b n : Books L D C) (g : Gave L D C) → Holds means turn g → HasFinished g b n → Told means turn start b → Told means turn start n
  told_finished means turn start b n g holds f t =
      let h = hands_by start b n t.gave t.back t.lost g b.is_full n.is_full refl refl t.split t.handed t.full f.hands.handed f.hands in
      let grown = joined_grown b.pass g.over.outcome.pass n.pass f.joined f.goes_on in
      record {
        gave = t.gave ++ g ∷ [];
        back = h.0;
        lost = h.1;
        split = h.2;
        reports = f.reports ∙ (ap (λ (l : List SessionReport). l ++ report_of g ∷ []) t.reports ∙ (append_assoc start.reports (map report_of t.gave) (report_of g ∷ []) ∙ ap (λ (l : List SessionReport). start.reports ++ l) (sym (map_push report_of t.gave g))));
        handed = h.3;
        full = h.4;
        holds = All-push (Holds means turn) t.gave g t.holds holds;
        joined = All-push (λ (one : Gave L D C). IsJoined one.over.outcome.pass n.pass) t.gave g
            (All-weaker (λ (one : Gave L D C). IsJoined one.over.outcome.pass b.pass) (λ (one : Gave L D C). IsJoined one.over.outcome.pass n.pass) (λ one was. joined_later one.over.outcome.pass b.pass n.pass was grown) t.gave t.joined)
            (joined_gone b.pass g.over.outcome.pass n.pass f.joined f.gone);
      }

module _ {S : Type 0} where
  -- a session that ended is taken out of those that run, after a poll that left what is counted of it
  removed : (f : Running S → ℕ) (rs : List (Running S)) (i : ℕ) (r d o : Running S) → i < length rs → f r ≡ f (get_or rs i o)
      → sum_by f (swap_remove (set rs i r) i d) + f r ≡ sum_by f rs
  removed f rs i r d o lt same =
      let there : i < length (set rs i r) = rw (length-set rs i r) lt in
      let a = sum_by-swap_remove f (set rs i r) i d there in
      let b = sum_by-set f rs i r o lt in
      let c : f (get_or (set rs i r) i d) ≡ f r = ap f (get_or-set_same rs i r d lt) in omega arith

  same_set : (f : Running S → ℕ) (rs : List (Running S)) (i : ℕ) (r o : Running S) → i < length rs → f r ≡ f (get_or rs i o) → sum_by f (set rs i r) ≡ sum_by f rs
  same_set f rs i r o lt same = let b = sum_by-set f rs i r o lt in omega arith

module _ {S L D C : Type 0} where
  ranged_finished : (means : Means L D C) (turn : TableId) (start b n : Books L D C) (rs zs : List (Running S)) (claim number : ℕ) (over : Finished L D C)
      → ((x : ℕ) → running_in x zs + stands_in x number numbers ≡ running_in x rs) → IsGiven means turn claim number over → HasFinished (record { claim = claim; over = over }) b n
      → Ranged start b (λ x. running_in x rs) → Ranged start n (λ x. running_in x zs)
  ranged_finished means turn start b n rs zs claim number over out given f r =
      let first : n.pass.number ≡ b.pass.number = ap (λ (q : HubView). q.number) f.joined in
      let spare : n.pass.spare ≡ b.pass.spare = ap (λ (q : HubView). q.spare) f.joined in
      let past : n.pass.past ≡ b.pass.past ++ ranges_of over.outcome.pass = ap (λ (q : HubView). q.past) f.joined in
      let one : SessionReport = report_of (record { claim = claim; over = over }) in
      let reported : (x : ℕ) → reported_in x n.reports ≡ reported_in x b.reports + stands_in x number numbers =
      λ x. ap (reported_in x) f.reports ∙ (sum_by_push (λ (q : SessionReport). stands_in x q.number numbers) b.reports one ∙ ap (λ (k : ℕ). reported_in x b.reports + stands_in x k numbers) given.number) in
      let mine = grown_mine start b (λ x. running_in x rs) (λ x. running_in x zs + reported_in x n.reports) n.pass.seen r f.goes_on (λ x some. let a = out x in let c = reported x in omega arith) in
      record {
        apart = λ x. let a = r.apart x in let c = reported x in let o = out x in rw (first, spare) (omega arith);
        covers = λ x has.
            let o = out x in
            let now : times_in x n.pass.past ≡ times_in x b.pass.past + times_in x (ranges_of over.outcome.pass) = ap (times_in x) past ∙ times-append x b.pass.past (ranges_of over.outcome.pass) in
            let was = of_range x b.pass in let is = of_range x n.pass in
            let same : stands_in x n.pass.number n.pass.spare ≡ stands_in x b.pass.number b.pass.spare = rw (first, spare) refl in
            ⊎_elim
            (λ (t : 0 < times_in x (ranges_of b.pass)). inl (omega arith))
            (λ (t : 0 < running_in x rs). ⊎_elim
            (λ (u : 0 < running_in x zs). inr u)
            (λ (u : 0 < stands_in x number numbers). let g = given.ranges x u in inl (omega arith))
            (some_of (running_in x zs) (stands_in x number numbers) (omega arith)))
            (r.covers x has);
        more = mine.0;
        grows = mine.1;
        mine = mine.2;
      }

  pub works_finished : (means : Means L D C) (turn : TableId) (limit : ℕ) (start b n : Books L D C) (rs zs : List (Running S)) (i : ℕ) (r d o : Running S) (over : Finished L D C)
      → i < length rs → r.claim ≡ (get_or rs i o).claim → r.number ≡ (get_or rs i o).number → d ≡ r → zs ≡ swap_remove (set rs i r) i d → length zs + 1 ≡ length rs
      → IsGiven means turn r.claim r.number over → HasFinished (record { claim = d.claim; over = over }) b n
      → Works means turn limit start b rs → Works means turn limit start n zs
  works_finished means turn limit start b n rs zs i r d o over lt same same_number one_is is len given finished w =
      let f : HasFinished (record { claim = r.claim; over = over }) b n = subst (λ (one : Running S). HasFinished (record { claim = one.claim; over = over }) b n) one_is finished in
      let g : Gave L D C = record { claim = r.claim; over = over } in
      let p = w.parted in
      let l = w.listened in
      let cl = w.claimed in
      let holds : Holds means turn g = subst (λ (k : ℕ). IsGiven means turn r.claim k over) (sym given.number) given in
      let number : n.pass.number ≡ b.pass.number = ap (λ (q : HubView). q.number) f.joined in
      let parts : n.pass.parts ≡ b.pass.parts + over.outcome.pass.parts = ap (λ (q : HubView). q.parts) f.joined in
      let their = given.parts in
      let before = p.parts in
      let out : (x : ℕ) → running_in x zs + stands_in x r.number numbers ≡ running_in x rs =
      λ x. ap (λ (l : List (Running S)). running_in x l + stands_in x r.number numbers) is ∙ removed (λ (one : Running S). stands_in x one.number numbers) rs i r d o lt (ap (λ (k : ℕ). stands_in x k numbers) same_number) in
      record {
        told = told_finished means turn start b n g holds f w.told;
        parted = record { number = number ∙ p.number; parts = omega arith };
        listened = record {
          clients = rw f.clients l.clients;
          publishers = rw f.publishers l.publishers;
          failed = λ failed. rw (f.clients, f.publishers) (l.failed (sym f.failed ∙ failed));
        };
        claimed = record {
          lost = cl.lost;
          few = cl.few;
          memory = λ some. f.hands.memory (cl.memory some);
          each = λ x below.
              let a = cl.each x below in
              let q = removed (λ (one : Running S). hit x one.claim) rs i r d o lt (ap (hit x) same) in
              let s = sum_by_push (λ (one : SessionReport). hit x one.claim) b.reports (report_of g) in
              rw (f.claimer, f.reports, is) (omega arith);
        };
        ranged = ranged_finished means turn start b n rs zs r.claim r.number over out given f w.ranged;
      }

  -- a poll that brought nothing leaves the claim and the number of its session
  pub works_polled : (means : Means L D C) (turn : TableId) (limit : ℕ) (start b : Books L D C) (rs zs : List (Running S)) (i : ℕ) (r o : Running S)
      → i < length rs → r.claim ≡ (get_or rs i o).claim → r.number ≡ (get_or rs i o).number → zs ≡ set rs i r → Works means turn limit start b rs → Works means turn limit start b zs
  works_polled means turn limit start b rs zs i r o lt same same_number is w =
      let len : length zs ≡ length rs = ap (λ (l : List (Running S)). length l) is ∙ length-set rs i r in
      let parts = w.parted.parts in let cl = w.claimed in
      record {
        told = w.told;
        parted = record { number = w.parted.number; parts = omega arith };
        listened = w.listened;
        claimed = record {
          lost = cl.lost;
          few = cl.few;
          memory = cl.memory;
          each = λ x below. let a = cl.each x below in let s = same_set (λ (one : Running S). hit x one.claim) rs i r o lt (ap (hit x) same) in rw is (omega arith);
        };
        ranged = ranged_kept start b b (λ x. running_in x rs) (λ x. running_in x zs) refl refl (λ x. ap (running_in x) is ∙ same_set (λ (one : Running S). stands_in x one.number numbers) rs i r o lt (ap (λ (k : ℕ). stands_in x k numbers) same_number)) w.ranged;
      }
