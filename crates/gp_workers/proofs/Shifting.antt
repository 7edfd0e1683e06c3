-- What the workers did, from what each did.
use Rattle.std.proofs.Common.{◌≡◌, ℕ, zero, suc, ◌+◌, ◌*◌, ◌<◌, ◌≤◌, inl, inr, Bool, true, false, MatchBool, List, [], ◌∷◌, ◌++◌, append_assoc, append-nil, map, take, drop, length, get_or, slice_get, Some, refl, sym, ap, subst, ◌∙◌, ⊎_elim, arith}
use Rattle.std.specs.List.{All, sum_by}
use Rattle.std.proofs.lemmas.List.{append_cancel_left, drop_all, take_all}
use Rattle.std.proofs.lemmas.List.Elements.{All-nil, All-cons, All-head, All-tail, All-append, All-weaker}
use Rattle.std.proofs.lemmas.List.Sums.{sum_by-cons}
use Rattle.atomic_table.specs.Seated.{TableId}
use Rattle.gp_plain.specs.declared.event.Entry.{Entry}
use Rattle.gp_outside.specs.Kits.{KitParts}
use Rattle.gp_outside.specs.Listens.{ListenTells}
use Rattle.gp_turn.specs.Passes.{range, ranges_of, times_in}
use Rattle.gp_turn.proofs.Ranges.{times-one}
use Rattle.gp_hub.specs.Passes.{HubView}
use Rattle.gp_workers.specs.Books.{Gave, books, report_of}
use Rattle.gp_workers.specs.Claims.{ClaimView, all_parts, below, times}
use Rattle.gp_workers.specs.Desks.{IsShared, desks_in}
use Rattle.gp_workers.specs.Hires.{HasServed, IsNew, worker_numbers}
use Rattle.gp_workers.specs.Makers.{Means, numbers}
use Rattle.gp_workers.specs.Reports.{hold_report, owned}
use Rattle.gp_workers.specs.Served.{HasGathered, HasGrown, taken_at, worker_report, workers_in}
use Rattle.gp_workers.specs.Shifts.{Shift, HasShifted, HaveWorked, HoldsStand, claims_at, sessions_in}
use Rattle.gp_workers.specs.Works.{Holds, IsJoined, reported_in, stands_in}
use Rattle.gp_workers.specs.declared.desk.Desk.{Desk}
use Rattle.gp_workers.specs.declared.report.SessionReport.{SessionReport}
use Rattle.gp_workers.specs.declared.report.WorkerReport.{WorkerReport}
use Rattle.gp_workers.specs.declared.worker.Worker.{Worker}
use Rattle.gp_workers.proofs.Joining.{none_gone, of_range, some_of}
use Rattle.gp_workers.proofs.Owning.{owned_later}
use Rattle.gp_workers.proofs.Attaching.{new_owner}
use Rattle.std.proofs.Math.ListN.{length-map}
use Rattle.gp_plain.specs.History.{held}

joined_through : (a b c : HubView) → IsJoined a b → IsJoined b c → IsJoined a c
joined_through a b c j k =
    let first = j.goes_on in let second = k.goes_on in record {
      goes_on = record {
        more = first.more ++ second.more;
        is = second.is ∙ (ap (λ (l : List Entry). l ++ second.more) first.is ∙ append_assoc a.seen first.more second.more);
        others = All-append (λ (e : Entry). times_in e.who (ranges_of a) ≡ 0) first.more second.more first.others
            (All-weaker (λ (e : Entry). times_in e.who (ranges_of b) ≡ 0) (λ (e : Entry). times_in e.who (ranges_of a) ≡ 0) (λ e other. none_gone e.who a b (j.past e.who) other) second.more second.others);
      };
      past = λ x has. k.past x (let p = j.past x has in omega (arith, of_range x b));
    }

none_by : (a b : ℕ) → (0 < a → 0 < b) → b ≡ 0 → a ≡ 0
none_by zero b h e = refl
none_by (suc a) b h e = absurd (let t = h (omega arith) in omega arith)

module _ {L D C : Type 0} where
  -- the holds of a session stand in what its pass was joined into
  stands_later : (means : Means L D C) (turn : TableId) (one : Gave L D C) (final : HubView) → Holds means turn one → IsJoined one.over.outcome.pass final → HoldsStand final.seen one
  stands_later means turn one final given joined =
      let own = range one.over.outcome.pass.number numbers in
      let on = joined.goes_on in
      let others = All-weaker (λ (e : Entry). times_in e.who (ranges_of one.over.outcome.pass) ≡ 0) (λ (e : Entry). times_in e.who (own ∷ []) ≡ 0) (λ e none. none_by (times_in e.who (own ∷ [])) (times_in e.who (ranges_of one.over.outcome.pass)) (given.ranges e.who) none) on.more on.others in
      given.holds ∙ ap (map hold_report) (sym (ap (owned own) on.is ∙ owned_later own one.over.outcome.pass.seen on.more others))

  all_stand : (means : Means L D C) (turn : TableId) (final : HubView) (gave : List (Gave L D C)) → All (Holds means turn) gave → All (λ (one : Gave L D C). IsJoined one.over.outcome.pass final) gave → All (HoldsStand final.seen) gave
  all_stand means turn final gave given joined = λ k d lt. stands_later means turn (get_or gave k d) final (given k d lt) (joined k d lt)

module _ {A : Type 0} where
  -- a slice of a whole list was written
  pub written_whole : (len : ℕ) (new old : List A) → length new ≡ length old → len ≡ length old → take len (new ++ drop (length new) old) ≡ new
  written_whole len new old same long =
      let none : drop (length new) old ≡ [] = drop_all (length new) old (omega arith) in
      let whole : new ++ drop (length new) old ≡ new = ap (λ (l : List A). new ++ l) none ∙ append-nil new in
      ap (take len) whole ∙ take_all len new (omega arith)

  wanting_by : (is : Bool) (lost : List A) (memory : Type 0) → MatchBool is memory (lost ≡ []) → 0 < length lost → memory
  wanting_by true lost memory full some = full
  wanting_by false lost memory full some = absurd (let none : length lost ≡ 0 = ap (λ (l : List A). length l) full in omega arith)

module _ {K Ln I G L D C : Type 0} (parts : K → KitParts Ln I G L D C) (tells : Ln → ListenTells) (means : Means L D C) (turn claims : TableId) (limit : ℕ) (seen : List Entry) where
  -- a worker before and after its thread
  pub record HasDone (w z : Worker K) : Type 0 where
    pub has_seen : w.pass.seen ≡ seen
    pub new : IsNew turn claims (books parts tells w)
    pub served : HasServed means turn claims limit (books parts tells w) (books parts tells z)

  abbrev pub HaveDone : List (Worker K) → List (Worker K) → Type 0
  HaveDone [] [] = Unit {0}
  HaveDone [] (z ∷ zs) = ⊥
  HaveDone (w ∷ ws) [] = ⊥
  HaveDone (w ∷ ws) (z ∷ zs) = HasDone w z × HaveDone ws zs

  pub have_done : (ws zs : List (Worker K)) → length zs ≡ length ws → ((i : ℕ) (d : Worker K) → i < length ws → HasDone (get_or ws i d) (get_or zs i d)) → HaveDone ws zs
  have_done [] [] e h = tt
  have_done [] (z ∷ zs) e h = absurd (omega arith)
  have_done (w ∷ ws) [] e h = absurd (omega arith)
  have_done (w ∷ ws) (z ∷ zs) e h = (h zero w (omega arith), have_done ws zs (omega arith) (λ i d lt. h (suc i) d (omega arith)))

  abbrev shift_of : (w z : Worker K) → HasDone w z → Shift K L D C
  shift_of w z d = record { before = w.kit; after = z.kit; report = worker_report z; back = d.served.told.back; lost = d.served.told.lost; dropped = d.served.claimed.lost }

  abbrev shifts_of : (ws zs : List (Worker K)) → HaveDone ws zs → List (Shift K L D C)
  shifts_of [] [] h = []
  shifts_of [] (z ∷ zs) h = []
  shifts_of (w ∷ ws) [] h = []
  shifts_of (w ∷ ws) (z ∷ zs) h = shift_of w z h.0 ∷ shifts_of ws zs h.1

  befores : (ws zs : List (Worker K)) (h : HaveDone ws zs) → map (λ (s : Shift K L D C). s.before) (shifts_of ws zs h) ≡ map (λ (w : Worker K). w.kit) ws
  befores [] [] h = refl
  befores [] (z ∷ zs) h = absurd h
  befores (w ∷ ws) [] h = absurd h
  befores (w ∷ ws) (z ∷ zs) h = ap (λ (l : List K). w.kit ∷ l) (befores ws zs h.1)

  afters : (ws zs : List (Worker K)) (h : HaveDone ws zs) → map (λ (s : Shift K L D C). s.after) (shifts_of ws zs h) ≡ map (λ (w : Worker K). w.kit) zs
  afters [] [] h = refl
  afters [] (z ∷ zs) h = absurd h
  afters (w ∷ ws) [] h = absurd h
  afters (w ∷ ws) (z ∷ zs) h = ap (λ (l : List K). z.kit ∷ l) (afters ws zs h.1)

  reports : (ws zs : List (Worker K)) (h : HaveDone ws zs) → map (λ (s : Shift K L D C). s.report) (shifts_of ws zs h) ≡ map worker_report zs
  reports [] [] h = refl
  reports [] (z ∷ zs) h = absurd h
  reports (w ∷ ws) [] h = absurd h
  reports (w ∷ ws) (z ∷ zs) h = ap (λ (l : List WorkerReport). worker_report z ∷ l) (reports ws zs h.1)

  one_shifted : (final : HubView) (next : ℕ) (w z : Worker K) (d : HasDone w z) → IsJoined z.pass final → z.claimer.note ≤ next → HasShifted parts tells means turn limit next final (shift_of w z d)
  one_shifted final next w z d joined note =
      let t = d.served.told in
      let cl = d.served.claimed in
      let given : All (Holds means turn) (t.back ++ t.lost) = subst (All (Holds means turn)) t.split t.holds in
      let all : All (λ (one : Gave L D C). IsJoined one.over.outcome.pass z.pass) (t.back ++ t.lost) = subst (All (λ (one : Gave L D C). IsJoined one.over.outcome.pass z.pass)) t.split t.joined in
      let last : All (λ (one : Gave L D C). IsJoined one.over.outcome.pass final) (t.back ++ t.lost) =
      All-weaker (λ (one : Gave L D C). IsJoined one.over.outcome.pass z.pass) (λ (one : Gave L D C). IsJoined one.over.outcome.pass final) (λ one j. joined_through one.over.outcome.pass z.pass final j joined) (t.back ++ t.lost) all in
      record {
        reports = t.reports ∙ (ap (λ (l : List SessionReport). l ++ map report_of t.gave) d.new.reports ∙ ap (map report_of) t.split);
        handed = t.handed;
        wanting = wanting_by z.is_full t.lost (z.no_memory ≡ true) t.full;
        holds = given;
        joined = last;
        stand = all_stand means turn final (t.back ++ t.lost) given last;
        few = cl.few;
        memory = cl.memory;
        failed = d.served.listened.failed;
        stopped = ⊎_elim (λ (above : limit ≤ z.claimer.note). inl (omega arith)) (λ other. inr other) d.served.stopped;
      }

  all_shifted : (final : HubView) (next : ℕ) (ws zs : List (Worker K)) (h : HaveDone ws zs) → All (λ (z : Worker K). IsJoined z.pass final) zs → All (λ (z : Worker K). z.claimer.note ≤ next) zs
      → All (HasShifted parts tells means turn limit next final) (shifts_of ws zs h)
  all_shifted final next [] [] h joined notes = All-nil (HasShifted parts tells means turn limit next final)
  all_shifted final next [] (z ∷ zs) h joined notes = absurd h
  all_shifted final next (w ∷ ws) [] h joined notes = absurd h
  all_shifted final next (w ∷ ws) (z ∷ zs) h joined notes =
      All-cons (HasShifted parts tells means turn limit next final) (shift_of w z h.0) (shifts_of ws zs h.1)
      (one_shifted final next w z h.0 (All-head (λ (z : Worker K). IsJoined z.pass final) z zs joined) (All-head (λ (z : Worker K). z.claimer.note ≤ next) z zs notes))
      (all_shifted final next ws zs h.1 (All-tail (λ (z : Worker K). IsJoined z.pass final) z zs joined) (All-tail (λ (z : Worker K). z.claimer.note ≤ next) z zs notes))

  all_claims : (x : ℕ) (ws zs : List (Worker K)) (h : HaveDone ws zs) → x < limit → sum_by (claims_at x) (shifts_of ws zs h) ≡ taken_at x zs
  all_claims x [] [] h lt = refl
  all_claims x [] (z ∷ zs) h lt = absurd h
  all_claims x (w ∷ ws) [] h lt = absurd h
  all_claims x (w ∷ ws) (z ∷ zs) h lt =
      let one = h.0.served.claimed.each x lt in
      let rest = all_claims x ws zs h.1 lt in
      let a = sum_by-cons (claims_at x) (shift_of w z h.0) (shifts_of ws zs h.1) in
      let b = sum_by-cons (λ (w : Worker K). times x w.claimer.taken) z zs in omega arith

  all_apart : (n : ℕ) (ws zs : List (Worker K)) (h : HaveDone ws zs) → sum_by (sessions_in n) (shifts_of ws zs h) ≤ workers_in n ws
  all_apart n [] [] h = omega arith
  all_apart n [] (z ∷ zs) h = absurd h
  all_apart n (w ∷ ws) [] h = absurd h
  all_apart n (w ∷ ws) (z ∷ zs) h =
      let one = h.0.served.ranged.apart n in
      let rest = all_apart n ws zs h.1 in
      let a = sum_by-cons (sessions_in n) (shift_of w z h.0) (shifts_of ws zs h.1) in
      let b = sum_by-cons (λ (w : Worker K). stands_in n w.pass.number w.pass.spare) w ws in omega arith

  -- of the entries beyond what was seen at first, those of a worker's numbers are of its sessions
  one_mine : (final : HubView) (more : List Entry) (w z : Worker K) (d : HasDone w z) → final.seen ≡ seen ++ more → IsJoined z.pass final
      → All (λ (e : Entry). 0 < stands_in e.who w.pass.number w.pass.spare → 0 < reported_in e.who z.reports.items) more
  one_mine final more w z d grows joined =
      let r = d.served.ranged in
      let on = joined.goes_on in
      let P : Entry → Type 0 = λ (e : Entry). 0 < stands_in e.who w.pass.number w.pass.spare → 0 < reported_in e.who z.reports.items in
      let own : z.pass.seen ≡ seen ++ r.more = r.grows ∙ ap (λ (l : List Entry). l ++ r.more) d.has_seen in
      let whole : seen ++ (r.more ++ on.more) ≡ seen ++ more = sym (on.is ∙ (ap (λ (l : List Entry). l ++ on.more) own ∙ append_assoc seen r.more on.more)) ∙ grows in
      let tails : r.more ++ on.more ≡ more = append_cancel_left seen (r.more ++ on.more) more whole in
      subst (All P) tails
      (All-append P r.more on.more
      (All-weaker (λ (e : Entry). 0 < stands_in e.who w.pass.number w.pass.spare → 0 < 0 + reported_in e.who z.reports.items) P (λ e was has. let t = was has in omega arith) r.more r.mine)
      (All-weaker (λ (e : Entry). times_in e.who (ranges_of z.pass) ≡ 0) P
      (λ e other has. ⊎_elim
      (λ (t : 0 < times_in e.who (ranges_of z.pass)). absurd (omega arith))
      (λ (t : 0 < 0). absurd (omega arith))
      (r.covers e.who has))
      on.more on.others))

  all_mine : (final : HubView) (more : List Entry) (ws zs : List (Worker K)) (h : HaveDone ws zs) → final.seen ≡ seen ++ more → All (λ (z : Worker K). IsJoined z.pass final) zs
      → All (λ (e : Entry). 0 < workers_in e.who ws → 0 < sum_by (sessions_in e.who) (shifts_of ws zs h)) more
  all_mine final more [] [] h grows joined = λ k d lt some. absurd (omega arith)
  all_mine final more [] (z ∷ zs) h grows joined = absurd h
  all_mine final more (w ∷ ws) [] h grows joined = absurd h
  all_mine final more (w ∷ ws) (z ∷ zs) h grows joined =
      let one = one_mine final more w z h.0 grows (All-head (λ (z : Worker K). IsJoined z.pass final) z zs joined) in
      let rest = all_mine final more ws zs h.1 grows (All-tail (λ (z : Worker K). IsJoined z.pass final) z zs joined) in
      λ k d lt some.
      let n = (get_or more k d).who in
      let a = sum_by-cons (sessions_in n) (shift_of w z h.0) (shifts_of ws zs h.1) in
      let b = sum_by-cons (λ (w : Worker K). stands_in n w.pass.number w.pass.spare) w ws in
      ⊎_elim
      (λ (t : 0 < stands_in n w.pass.number w.pass.spare). let m = one k d lt t in omega arith)
      (λ (t : 0 < workers_in n ws). let m = rest k d lt t in omega arith)
      (some_of (stands_in n w.pass.number w.pass.spare) (workers_in n ws) (omega arith))

  pub have_worked : (before first final : HubView) (desks : List Desk) (drawn gathered : ClaimView) (next : ℕ) (ws zs : List (Worker K)) (kits back : List K) (told : List WorkerReport)
      → before.turn ≡ turn → before.seen ≡ seen
      → IsShared claims desks before first drawn → length desks ≡ length ws → ((n : ℕ) → workers_in n ws ≡ desks_in n desks) → length zs ≡ length ws
      → HaveDone ws zs
      → (final.number ≡ first.number) × (final.turn ≡ first.turn) × (final.parts ≡ first.parts + worker_numbers * length zs) × (final.spare ≡ first.spare) → HasGrown first final → All (λ (z : Worker K). IsJoined z.pass final) zs
      → HasGathered drawn gathered zs → gathered.note ≤ next → (gathered.parts ≡ all_parts → (x : ℕ) → times x gathered.taken ≡ below x next)
      → map (λ (w : Worker K). w.kit) ws ≡ kits → back ≡ map (λ (w : Worker K). w.kit) zs → told ≡ map worker_report zs
      → HaveWorked parts tells means limit before final kits back told
  have_worked before first final desks drawn gathered next ws zs kits back told of_turn has_seen shared desk_count in_desks same_count all_done pass grown joined g later all are_kits are_back are_told =
      let shares = shared.shares in let shared_parts = shared.parts in
      let gathered_parts = g.parts in
      let every : gathered.parts ≡ all_parts = omega arith in
      let on = grown.goes_on in
      let grows : final.seen ≡ seen ++ on.more = on.is ∙ ap (λ (l : List Entry). l ++ on.more) (shared.seen ∙ has_seen) in
      let mine = all_mine final on.more ws zs all_done grows joined in
      let final_parts = pass.2 in
      let own : All (λ (e : Entry). 0 < stands_in e.who before.number before.spare → sum_by (sessions_in e.who) (shifts_of ws zs all_done) ≡ 1) on.more =
      (λ k d lt has.
      let n = (get_or on.more k d).who in
      let other = on.others k d lt in
      let own = of_range n first in
      let c = shared.numbers n in
      let b = in_desks n in
      let a = all_apart n ws zs all_done in
      let most = times-one n before.number before.spare in
      let some = mine k d lt (omega arith) in omega arith) in
      record {
        shifts = shifts_of ws zs all_done;
        next = next;
        kits = sym are_kits ∙ sym (befores ws zs all_done);
        back = are_back ∙ sym (afters ws zs all_done);
        reports = are_told ∙ sym (reports ws zs all_done);
        each = subst (λ (t : TableId). All (HasShifted parts tells means t limit next final) (shifts_of ws zs all_done)) (sym of_turn)
            (all_shifted final next ws zs all_done joined (All-weaker (λ (z : Worker K). z.claimer.note ≤ gathered.note) (λ (z : Worker K). z.claimer.note ≤ next) (λ z low. omega arith) zs g.notes));
        claims = λ x lt.
            let a = all_claims x ws zs all_done lt in
            let b = g.taken x in
            let none : times x drawn.taken ≡ 0 = ap (times x) shared.taken in
            let c = all every x in omega arith;
        apart = λ n. let a = all_apart n ws zs all_done in let b = in_desks n in let c = shared.numbers n in omega arith;
        turn = pass.1 ∙ shared.turn;
        number = pass.0 ∙ shared.number;
        parts_are = omega arith;
        more = on.more;
        grows = on.is ∙ ap (λ (l : List Entry). l ++ on.more) shared.seen;
        spare = (let s = shared.spare in let same = pass.3 in let count : length kits ≡ length ws = sym (ap length are_kits) ∙ length-map ws (λ (w : Worker K). w.kit) in omega arith);
        mine = own;
        holds = λ k h further at has.
            let rest : final.seen ≡ before.seen ++ on.more = on.is ∙ ap (λ (l : List Entry). l ++ on.more) shared.seen in
            new_owner (λ (n : ℕ). 0 < stands_in n before.number before.spare → sum_by (sessions_in n) (shifts_of ws zs all_done) ≡ 1) before.seen on.more k h own further (subst (λ (l : List Entry). slice_get (held l) k ≡ Some h) rest at) has;
      }
