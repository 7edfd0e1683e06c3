-- Passes that are joined, and the numbers that sessions were handed.
use Rattle.std.proofs.Common.{◌≡◌, ℕ, zero, suc, ◌+◌, ◌-◌, ◌<◌, ◌≤◌, ◌⊎◌, inl, inr, List, [], ◌∷◌, ◌++◌, append_assoc, get_or, sym, refl, ap, subst, ◌∙◌, ⊎_elim, arith}
use Rattle.std.specs.List.{All}
use Rattle.std.proofs.lemmas.Bool.Decides.{nat_tests}
use Rattle.std.proofs.lemmas.List.{append_cancel_left}
use Rattle.std.proofs.lemmas.List.Elements.{All-append, All-weaker}
use Rattle.gp_plain.specs.declared.event.Entry.{Entry}
use Rattle.gp_turn.specs.Passes.{range, ranges_of, times_in, with_joined, shortened, split_off}
use Rattle.gp_turn.proofs.Ranges.{once, times-cons, times-append, times-split}
use Rattle.gp_turn.proofs.Histories.{continues_same}
use Rattle.gp_hub.specs.Passes.{HubView, GoesOnFrom, who_of}
use Rattle.gp_workers.specs.Books.{Books}
use Rattle.gp_workers.specs.Works.{IsJoined, Ranged, reported_in, stands_in}
use Rattle.gp_workers.specs.Served.{HasGrown}

pub some_of : (a b : ℕ) → 0 < a + b → (0 < a) ⊎ (0 < b)
some_of zero b h = inr (omega arith)
some_of (suc a) b h = inl (omega arith)

once_fewer : (n first few all : ℕ) → few ≤ all → once n (range first few) ≤ once n (range first all)
once_fewer n first few all le = grind (arith, nat_tests)

pub stands_fewer : (n first few all : ℕ) → few ≤ all → stands_in n first few ≤ stands_in n first all
stands_fewer n first few all le = omega (arith, once_fewer n first few all le, times-cons n (range first few) [], times-cons n (range first all) [])

-- a number of a pass is one of its range or of its past
pub of_range : (n : ℕ) (p : HubView) → times_in n (ranges_of p) ≡ stands_in n p.number p.spare + times_in n p.past
of_range n p = omega (arith, times-cons n (range p.number p.spare) p.past, times-cons n (range p.number p.spare) [])

pub grown_same : (b n : HubView) → n.seen ≡ b.seen → n.past ≡ b.past → HasGrown b n
grown_same b n seen past = record {
  goes_on = rw seen (continues_same who_of (ranges_of b) b.seen);
  past = λ x. rw past (omega arith);
}

pub joined_grown : (b g n : HubView) → n ≡ with_joined b g → GoesOnFrom b n.seen → HasGrown b n
joined_grown b g n is on =
    let past : n.past ≡ b.past ++ ranges_of g = ap (λ (q : HubView). q.past) is in record {
      goes_on = on;
      past = λ x. rw past (omega (arith, times-append x b.past (ranges_of g)));
    }

pub joined_gone : (b g n : HubView) → n ≡ with_joined b g → GoesOnFrom g n.seen → IsJoined g n
joined_gone b g n is on =
    let past : n.past ≡ b.past ++ ranges_of g = ap (λ (q : HubView). q.past) is in record {
      goes_on = on;
      past = λ x has. rw past (omega (arith, times-append x b.past (ranges_of g)));
    }

none_by : (a b : ℕ) → (0 < a → 0 < b) → b ≡ 0 → a ≡ 0
none_by zero b h e = refl
none_by (suc a) b h e = absurd (let t = h (omega arith) in omega arith)

pub none_gone : (x : ℕ) (gone b : HubView) → (0 < times_in x (ranges_of gone) → 0 < times_in x b.past) → times_in x (ranges_of b) ≡ 0 → times_in x (ranges_of gone) ≡ 0
none_gone x gone b past other = none_by (times_in x (ranges_of gone)) (times_in x b.past) past (omega (arith, of_range x b))

pub joined_later : (gone b n : HubView) → IsJoined gone b → HasGrown b n → IsJoined gone n
joined_later gone b n j grown =
    let first = j.goes_on in let second = grown.goes_on in record {
      goes_on = record {
        more = first.more ++ second.more;
        is = second.is ∙ (ap (λ (l : List Entry). l ++ second.more) first.is ∙ append_assoc gone.seen first.more second.more);
        others = All-append (λ (e : Entry). times_in e.who (ranges_of gone) ≡ 0) first.more second.more first.others
            (All-weaker (λ (e : Entry). times_in e.who (ranges_of b) ≡ 0) (λ (e : Entry). times_in e.who (ranges_of gone) ≡ 0) (λ e other. none_gone e.who gone b (j.past e.who) other) second.more second.others);
      };
      past = λ x has. let a = j.past x has in let c = grown.past x in omega arith;
    }

pub grown_later : (a b n : HubView) → ((x : ℕ) → times_in x (ranges_of a) ≤ times_in x (ranges_of b)) → HasGrown a b → HasGrown b n → HasGrown a n
grown_later a b n within g h =
    let first = g.goes_on in let second = h.goes_on in record {
      goes_on = record {
        more = first.more ++ second.more;
        is = second.is ∙ (ap (λ (l : List Entry). l ++ second.more) first.is ∙ append_assoc a.seen first.more second.more);
        others = All-append (λ (e : Entry). times_in e.who (ranges_of a) ≡ 0) first.more second.more first.others
            (All-weaker (λ (e : Entry). times_in e.who (ranges_of b) ≡ 0) (λ (e : Entry). times_in e.who (ranges_of a) ≡ 0) (λ e other. let w = within e.who in omega arith) second.more second.others);
      };
      past = λ x. let c = g.past x in let d = h.past x in omega arith;
    }

-- a pass that was cut off and joined again
pub rejoined_ranges : (n first spare count : ℕ) (past : List _) → count ≤ spare
    → times_in n (range first (spare - count) ∷ (past ++ (range (first + (spare - count)) count ∷ []))) ≡ times_in n (range first spare ∷ past)
rejoined_ranges n first spare count past le =
    omega (arith, times-split n first spare count past le, times-cons n (range first (spare - count)) (past ++ (range (first + (spare - count)) count ∷ [])), times-cons n (range first (spare - count)) past, times-append n past (range (first + (spare - count)) count ∷ []))

pub rejoined_goes_on : (p : HubView) (count : ℕ) (seen : List Entry) → count ≤ p.spare → GoesOnFrom (shortened p count) seen → GoesOnFrom (split_off p count) seen → GoesOnFrom p seen
rejoined_goes_on p count seen le a b = record {
  more = a.more;
  is = a.is;
  others = λ k d lt.
      let one = a.others k d lt in
      let same = append_cancel_left p.seen a.more b.more (sym a.is ∙ b.is) in
      let other = (rw (← same) at b.others) k d lt in
      omega (arith, times-split (who_of (get_or a.more k d)) p.number p.spare count p.past le);
}

pub rejoined : (p q g n : HubView) (count : ℕ) → count ≤ p.spare → q ≡ shortened p count → g ≡ split_off p count → n ≡ with_joined q g → GoesOnFrom q n.seen → GoesOnFrom g n.seen
    → GoesOnFrom p n.seen × ((x : ℕ) → times_in x (ranges_of n) ≡ times_in x (ranges_of p)) × ((x : ℕ) → times_in x p.past ≤ times_in x n.past)
rejoined p q g n count le cut off is a b =
    let whole : n ≡ with_joined (shortened p count) (split_off p count) = is ∙ (ap (λ (v : HubView). with_joined v g) cut ∙ ap (λ (v : HubView). with_joined (shortened p count) v) off) in (
      rejoined_goes_on p count n.seen le (subst (λ (v : HubView). GoesOnFrom v n.seen) cut a) (subst (λ (v : HubView). GoesOnFrom v n.seen) off b),
      λ x. ap (λ (v : HubView). times_in x (ranges_of v)) whole ∙ rejoined_ranges x p.number p.spare count p.past le,
      λ x.
          let past : times_in x n.past ≡ times_in x (p.past ++ (range (p.number + (p.spare - count)) count ∷ [])) = ap (λ (v : HubView). times_in x v.past) whole in
          omega (arith, times-append x p.past (range (p.number + (p.spare - count)) count ∷ [])),
    )

module _ {L D C : Type 0} where
  -- what is seen further is of no number of the worker but those of sessions that run
  pub grown_mine : (start b : Books L D C) (running now : ℕ → ℕ) (later : List Entry) → Ranged start b running → GoesOnFrom b.pass later → ((x : ℕ) → 0 < running x + reported_in x b.reports → 0 < now x)
      → (more : List Entry) × (later ≡ start.pass.seen ++ more) × All (λ (e : Entry). 0 < stands_in e.who start.pass.number start.pass.spare → 0 < now e.who) more
  grown_mine start b running now later r on less = (
    r.more ++ on.more,
    on.is ∙ (ap (λ (l : List Entry). l ++ on.more) r.grows ∙ append_assoc start.pass.seen r.more on.more),
    All-append (λ (e : Entry). 0 < stands_in e.who start.pass.number start.pass.spare → 0 < now e.who) r.more on.more
        (All-weaker (λ (e : Entry). 0 < stands_in e.who start.pass.number start.pass.spare → 0 < running e.who + reported_in e.who b.reports) (λ (e : Entry). 0 < stands_in e.who start.pass.number start.pass.spare → 0 < now e.who) (λ e was has. less e.who (was has)) r.more r.mine)
        (All-weaker (λ (e : Entry). times_in e.who (ranges_of b.pass) ≡ 0) (λ (e : Entry). 0 < stands_in e.who start.pass.number start.pass.spare → 0 < now e.who)
        (λ e other has. ⊎_elim
        (λ (t : 0 < times_in e.who (ranges_of b.pass)). absurd (omega arith))
        (λ (t : 0 < running e.who). less e.who (omega arith))
        (r.covers e.who has))
        on.more on.others),
  )

  pub ranged_kept : (start b n : Books L D C) (running now : ℕ → ℕ) → n.pass ≡ b.pass → n.reports ≡ b.reports → ((x : ℕ) → now x ≡ running x) → Ranged start b running → Ranged start n now
  ranged_kept start b n running now pass reports same r = record {
    apart = λ x. let a = r.apart x in let s = same x in rw (pass, reports) (omega arith);
    covers = λ x has. rw pass (⊎_elim (λ (t : 0 < times_in x (ranges_of b.pass)). inl t) (λ (t : 0 < running x). let s = same x in inr (omega arith)) (r.covers x has));
    more = r.more;
    grows = ap (λ (q : HubView). q.seen) pass ∙ r.grows;
    mine = rw reports (All-weaker (λ (e : Entry). 0 < stands_in e.who start.pass.number start.pass.spare → 0 < running e.who + reported_in e.who b.reports) (λ (e : Entry). 0 < stands_in e.who start.pass.number start.pass.spare → 0 < now e.who + reported_in e.who b.reports) (λ e was has. let s = same e.who in let w = was has in omega arith) r.more r.mine);
  }
