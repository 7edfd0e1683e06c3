-- A connection that takes a claim keeps the books of its worker.
use Rattle.std.proofs.Common.{◌≡◌, ℕ, ◌+◌, ◌-◌, ◌<◌, ◌≤◌, inl, inr, List, [], ◌∷◌, ◌++◌, length, length-append, sym, refl, ap, ◌∙◌, ⊎_elim, arith, Bool, true, false, MatchBool}
use Rattle.std.proofs.lemmas.Bool.Decides.{nat_tests}
use Rattle.std.proofs.lemmas.List.Elements.{All-push, All-weaker}
use Rattle.std.proofs.lemmas.List.Sums.{sum_by_push}
use Rattle.atomic_table.specs.Seated.{TableId}
use Rattle.gp_turn.specs.Passes.{ranges_of, shortened, times_in}
use Rattle.gp_turn.proofs.Ranges.{times-split}
use Rattle.gp_turn.proofs.Histories.{continues_same}
use Rattle.gp_hub.specs.Passes.{HubView, who_of}
use Rattle.gp_workers.specs.Claims.{ClaimView, hit, times}
use Rattle.gp_workers.specs.Makers.{Means, numbers}
use Rattle.gp_workers.specs.Books.{Books, Gave}
use Rattle.gp_workers.specs.Works.{IsJoined, IsOpen, Told, Listened, Ranged, Stands, Works, reported_in, running_in, stands_in}
use Rattle.gp_workers.specs.Doors.{HasBegun, HasMade, HasRefused, IsLeft}
use Rattle.gp_workers.specs.declared.maker.Finished.{Finished}
use Rattle.gp_workers.specs.declared.worker.Running.{Running}
use Rattle.gp_workers.specs.Served.{HasGrown}
use Rattle.gp_workers.proofs.Joining.{grown_mine, grown_same, joined_later, of_range, some_of, stands_fewer}
use Rattle.gp_workers.proofs.Working.{false-ne-true}

-- a claimer that took one more claim
abbrev pub with_claim : ClaimView → ℕ → ClaimView
with_claim by claim = record by { taken = by.taken ++ claim ∷ []; note = claim + 1 }

hit_above : (x claim limit : ℕ) → x < limit → limit ≤ claim → hit x claim ≡ 0
hit_above x claim limit below above = grind (arith, nat_tests)

module _ {L D C : Type 0} where
  pub told_kept : (means : Means L D C) (turn : TableId) (start b n : Books L D C) → n.reports ≡ b.reports → n.handed ≡ b.handed → n.is_full ≡ b.is_full → (b.no_memory ≡ true → n.no_memory ≡ true)
      → HasGrown b.pass n.pass → Told means turn start b → Told means turn start n
  told_kept means turn start b n reports handed full memory grown t = record {
    gave = t.gave;
    back = t.back;
    lost = t.lost;
    split = t.split;
    reports = reports ∙ t.reports;
    handed = handed ∙ t.handed;
    full = rw full (full_kept b.is_full t.full);
    holds = t.holds;
    joined = All-weaker (λ (one : Gave L D C). IsJoined one.over.outcome.pass b.pass) (λ (one : Gave L D C). IsJoined one.over.outcome.pass n.pass) (λ one was. joined_later one.over.outcome.pass b.pass n.pass was grown) t.gave t.joined;
  }
    where
      full_kept : (is : Bool) → MatchBool is (b.no_memory ≡ true) (t.lost ≡ []) → MatchBool is (n.no_memory ≡ true) (t.lost ≡ [])
      full_kept true h = memory h
      full_kept false h = h

  pub listened_kept : (start b n : Books L D C) → n.clients ≡ b.clients → n.publishers ≡ b.publishers → n.listen_failed ≡ b.listen_failed → Listened start b → Listened start n
  listened_kept start b n clients publishers failed l = record {
    clients = rw clients l.clients;
    publishers = rw publishers l.publishers;
    failed = λ has. rw (clients, publishers) (l.failed (sym failed ∙ has));
  }

  no_lost : (lost : List ℕ) (b : Books L D C) → (0 < length lost → b.no_memory ≡ true) → b.no_memory ≡ false → lost ≡ []
  no_lost [] b memory none = refl
  no_lost (x ∷ xs) b memory none = absurd (false-ne-true (sym none ∙ memory (omega arith)))

module _ {S L D C : Type 0} where
  -- a session was handed the last numbers
  ranged_made : (start b n : Books L D C) (rs zs : List (Running S)) (first : ℕ) → numbers ≤ b.pass.spare → n.pass ≡ shortened b.pass numbers → first ≡ b.pass.number + (b.pass.spare - numbers) → n.reports ≡ b.reports
      → ((x : ℕ) → running_in x zs ≡ running_in x rs + stands_in x first numbers) → Ranged start b (λ x. running_in x rs) → Ranged start n (λ x. running_in x zs)
  ranged_made start b n rs zs first enough pass number reports more r =
      let cut : (x : ℕ) → stands_in x b.pass.number (b.pass.spare - numbers) + stands_in x first numbers ≡ stands_in x b.pass.number b.pass.spare = λ x. rw number (times-split x b.pass.number b.pass.spare numbers [] enough) in
      let mine = grown_mine start b (λ x. running_in x rs) (λ x. running_in x zs + reported_in x b.reports) b.pass.seen r (continues_same who_of (ranges_of b.pass) b.pass.seen) (λ x some. let m = more x in omega arith) in
      record {
        apart = λ x. let a = r.apart x in let c = cut x in let m = more x in rw (pass, reports) (omega arith);
        covers = λ x has.
            let c = cut x in let m = more x in
            let was = of_range x b.pass in
            let is = of_range x (shortened b.pass numbers) in
            rw pass (⊎_elim
            (λ (t : 0 < times_in x (ranges_of b.pass)). ⊎_elim
            (λ (u : 0 < times_in x (ranges_of (shortened b.pass numbers))). inl u)
            (λ (u : 0 < stands_in x first numbers). inr (omega arith))
            (some_of (times_in x (ranges_of (shortened b.pass numbers))) (stands_in x first numbers) (omega arith)))
            (λ (t : 0 < running_in x rs). inr (omega arith))
            (r.covers x has));
        more = mine.0;
        grows = ap (λ (q : HubView). q.seen) pass ∙ mine.1;
        mine = rw reports mine.2;
      }

  ranged_refused : (start b n : Books L D C) (rs zs : List (Running S)) (m : Books L D C) → n.reports ≡ b.reports → HasRefused (record m { pass = b.pass }) n rs zs → Ranged start b (λ x. running_in x rs) → Ranged start n (λ x. running_in x zs)
  ranged_refused start b n rs zs m reports refused r =
      let same : (x : ℕ) → running_in x zs ≡ running_in x rs = λ x. ap (running_in x) refused.running in
      let mine = grown_mine start b (λ x. running_in x rs) (λ x. running_in x zs + reported_in x b.reports) n.pass.seen r refused.goes_on (λ x some. let s = same x in omega arith) in
      record {
        apart = λ x.
            let a = r.apart x in let s = same x in
            let less = stands_fewer x b.pass.number n.pass.spare b.pass.spare refused.fewer in
            let first : stands_in x n.pass.number n.pass.spare ≡ stands_in x b.pass.number n.pass.spare = ap (λ (k : ℕ). stands_in x k n.pass.spare) refused.number in
            rw reports (omega arith);
        covers = λ x has.
            let s = same x in let ranges = refused.ranges x in ⊎_elim
            (λ (t : 0 < times_in x (ranges_of b.pass)). inl (omega arith))
            (λ (t : 0 < running_in x rs). inr (omega arith))
            (r.covers x has);
        more = mine.0;
        grows = mine.1;
        mine = rw reports mine.2;
      }

module _ {S L D C : Type 0} (ended : S → Type 0) (may_give : S → Finished L D C → Type 0) (means : Means L D C) (turn claims : TableId) (limit : ℕ) where
  -- a claim below the limit was taken, and its session was made
  made_stands : (b n : Books L D C) (mc : ClaimView) (rs zs : List (Running S)) (claim : ℕ) → mc ≡ with_claim b.claimer claim → b.claimer.note ≤ claim → length rs + 1 ≤ b.spare → numbers < b.pass.spare
      → IsLeft (record b { claimer = mc }) n → HasMade ended may_give means turn claim (record b { claimer = mc }) n rs zs → Stands ended may_give means turn claims b rs → Stands ended may_give means turn claims n zs
  made_stands b n mc rs zs claim took later room enough left made s =
      let claimer : n.claimer ≡ with_claim b.claimer claim = left.claimer ∙ took in
      let parts : n.pass.parts ≡ b.pass.parts - numbers = ap (λ (q : HubView). q.parts) made.pass in
      let spare : n.pass.spare ≡ b.pass.spare - numbers = ap (λ (q : HubView). q.spare) made.pass in
      let longer : length (b.claimer.taken ++ claim ∷ []) ≡ length b.claimer.taken + 1 = length-append b.claimer.taken (claim ∷ []) in
      let more : length zs ≡ length rs + 1 = ap (λ (l : List (Running S)). length l) made.running ∙ length-append rs (made.one ∷ []) in
      let rise = s.rise in let before = s.spare in let within = s.enough in
      let room_left = left.spare in
      record {
        of_turn = ap (λ (q : HubView). q.turn) made.pass ∙ s.of_turn;
        of_claims = ap (λ (q : ClaimView). q.table) claimer ∙ s.of_claims;
        room = omega arith;
        opens = rw made.running (All-push (IsOpen ended may_give means turn) rs made.one s.opens made.opens);
        parts = ap (λ (q : ClaimView). q.parts) claimer ∙ s.parts;
        rise = rw claimer (omega arith);
        spare = rw claimer (omega arith);
        enough = omega arith;
      }

  refused_stands : (b n : Books L D C) (mc : ClaimView) (rs zs : List (Running S)) (claim : ℕ) → mc ≡ with_claim b.claimer claim → b.claimer.note ≤ claim
      → IsLeft (record b { claimer = mc }) n → HasRefused (record b { claimer = mc }) n rs zs → Stands ended may_give means turn claims b rs → Stands ended may_give means turn claims n zs
  refused_stands b n mc rs zs claim took later left refused s =
      let claimer : n.claimer ≡ with_claim b.claimer claim = left.claimer ∙ took in
      let longer : length (b.claimer.taken ++ claim ∷ []) ≡ length b.claimer.taken + 1 = length-append b.claimer.taken (claim ∷ []) in
      let rise = s.rise in let before = s.spare in let spare = refused.spare in let room = s.room in let room_left = left.spare in
      record {
        of_turn = refused.turn ∙ s.of_turn;
        of_claims = ap (λ (q : ClaimView). q.table) claimer ∙ s.of_claims;
        room = rw refused.running (omega arith);
        opens = rw refused.running s.opens;
        parts = ap (λ (q : ClaimView). q.parts) claimer ∙ s.parts;
        rise = rw claimer (omega arith);
        spare = rw claimer (omega arith);
        enough = refused.enough;
      }

  made_works : (start b n : Books L D C) (mc : ClaimView) (rs zs : List (Running S)) (claim : ℕ) → mc ≡ with_claim b.claimer claim → numbers ≤ b.pass.spare → b.pass.spare ≤ b.pass.parts
      → IsLeft (record b { claimer = mc }) n → HasMade ended may_give means turn claim (record b { claimer = mc }) n rs zs → Works means turn limit start b rs → Works means turn limit start n zs
  made_works start b n mc rs zs claim took enough within left made w =
      let claimer : n.claimer ≡ with_claim b.claimer claim = left.claimer ∙ took in
      let parts : n.pass.parts ≡ b.pass.parts - numbers = ap (λ (q : HubView). q.parts) made.pass in
      let more : length zs ≡ length rs + 1 = ap (λ (l : List (Running S)). length l) made.running ∙ length-append rs (made.one ∷ []) in
      let p = w.parted in let before = p.parts in let cl = w.claimed in
      record {
        told = told_kept means turn start b n left.reports left.handed left.full (λ m. made.memory ∙ m) (grown_same b.pass n.pass (ap (λ (q : HubView). q.seen) made.pass) (ap (λ (q : HubView). q.past) made.pass)) w.told;
        parted = record { number = ap (λ (q : HubView). q.number) made.pass ∙ p.number; parts = omega arith };
        listened = listened_kept start b n left.clients left.publishers left.failed w.listened;
        claimed = record {
          lost = cl.lost;
          few = cl.few;
          memory = λ some. made.memory ∙ cl.memory some;
          each = λ x below.
              let a = cl.each x below in
              let q = sum_by_push (hit x) b.claimer.taken claim in
              let r = sum_by_push (λ (one : Running S). hit x one.claim) rs made.one in
              let c : hit x made.one.claim ≡ hit x claim = ap (hit x) made.claim_is in
              rw (claimer, left.reports, made.running) (omega arith);
        };
        ranged = ranged_made start b n rs zs made.one.number enough made.pass made.number left.reports (λ x. ap (running_in x) made.running ∙ sum_by_push (λ (one : Running S). stands_in x one.number numbers) rs made.one) w.ranged;
      }

  refused_works : (start b n : Books L D C) (mc : ClaimView) (rs zs : List (Running S)) (claim : ℕ) → mc ≡ with_claim b.claimer claim → b.no_memory ≡ false
      → IsLeft (record b { claimer = mc }) n → HasRefused (record b { claimer = mc }) n rs zs → Works means turn limit start b rs → Works means turn limit start n zs
  refused_works start b n mc rs zs claim took memory left refused w =
      let claimer : n.claimer ≡ with_claim b.claimer claim = left.claimer ∙ took in
      let p = w.parted in let cl = w.claimed in
      let none : cl.lost ≡ [] = no_lost cl.lost b cl.memory memory in
      record {
        told = told_kept means turn start b n left.reports left.handed left.full (λ _. refused.memory) (record { goes_on = refused.goes_on; past = refused.past }) w.told;
        parted = record { number = refused.number ∙ p.number; parts = rw (refused.parts, refused.running) p.parts };
        listened = listened_kept start b n left.clients left.publishers left.failed w.listened;
        claimed = record {
          lost = claim ∷ [];
          few = omega arith;
          memory = λ _. refused.memory;
          each = λ x below.
              let a = cl.each x below in
              let z : times x cl.lost ≡ 0 = ap (times x) none in
              let q = sum_by_push (hit x) b.claimer.taken claim in
              let o = sum_by_push (hit x) [] claim in
              rw (claimer, left.reports, refused.running) (omega arith);
        };
        ranged = ranged_refused start b n rs zs (record b { claimer = mc }) left.reports refused w.ranged;
      }

  -- a claim at or above the limit was taken, and nothing else changed
  pub over_stands : (b : Books L D C) (mc : ClaimView) (rs : List (Running S)) (claim : ℕ) → mc ≡ with_claim b.claimer claim → b.claimer.note ≤ claim
      → Stands ended may_give means turn claims b rs → Stands ended may_give means turn claims (record b { claimer = mc }) rs
  over_stands b mc rs claim took later s =
      let longer : length (b.claimer.taken ++ claim ∷ []) ≡ length b.claimer.taken + 1 = length-append b.claimer.taken (claim ∷ []) in
      let rise = s.rise in let before = s.spare in
      record {
        of_turn = s.of_turn;
        of_claims = ap (λ (q : ClaimView). q.table) took ∙ s.of_claims;
        room = s.room;
        opens = s.opens;
        parts = ap (λ (q : ClaimView). q.parts) took ∙ s.parts;
        rise = rw took (omega arith);
        spare = rw took (omega arith);
        enough = s.enough;
      }

  pub over_works : (start b : Books L D C) (mc : ClaimView) (rs : List (Running S)) (claim : ℕ) → mc ≡ with_claim b.claimer claim → limit ≤ claim
      → Works means turn limit start b rs → Works means turn limit start (record b { claimer = mc }) rs
  over_works start b mc rs claim took above w =
      let cl = w.claimed in
      record {
        told = told_kept means turn start b (record b { claimer = mc }) refl refl refl (λ m. m) (grown_same b.pass b.pass refl refl) w.told;
        parted = record { number = w.parted.number; parts = w.parted.parts };
        listened = listened_kept start b (record b { claimer = mc }) refl refl refl w.listened;
        claimed = record {
          lost = cl.lost;
          few = cl.few;
          memory = cl.memory;
          each = λ x below.
              let a = cl.each x below in
              let q = sum_by_push (hit x) b.claimer.taken claim in
              let h = hit_above x claim limit below above in
              rw took (omega arith);
        };
        ranged = record { apart = w.ranged.apart; covers = w.ranged.covers; more = w.ranged.more; grows = w.ranged.grows; mine = w.ranged.mine };
      }

  pub begun_stands : (b n : Books L D C) (mc : ClaimView) (rs zs : List (Running S)) (claim : ℕ) → mc ≡ with_claim b.claimer claim → b.claimer.note ≤ claim → length rs + 1 ≤ b.spare → numbers < b.pass.spare
      → HasBegun ended may_give means turn claim (record b { claimer = mc }) n rs zs → Stands ended may_give means turn claims b rs → Stands ended may_give means turn claims n zs
  begun_stands b n mc rs zs claim took later room enough begun s = ⊎_elim
      (λ made. made_stands b n mc rs zs claim took later room enough begun.left made s)
      (λ refused. refused_stands b n mc rs zs claim took later begun.left refused s)
      begun.made

  pub begun_works : (start b n : Books L D C) (mc : ClaimView) (rs zs : List (Running S)) (claim : ℕ) → mc ≡ with_claim b.claimer claim → numbers ≤ b.pass.spare → b.pass.spare ≤ b.pass.parts → b.no_memory ≡ false
      → HasBegun ended may_give means turn claim (record b { claimer = mc }) n rs zs → Works means turn limit start b rs → Works means turn limit start n zs
  begun_works start b n mc rs zs claim took enough within memory begun w = ⊎_elim
      (λ made. made_works start b n mc rs zs claim took enough within begun.left made w)
      (λ refused. refused_works start b n mc rs zs claim took memory begun.left refused w)
      begun.made
