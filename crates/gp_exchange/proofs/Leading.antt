-- How moves lead on from one another.
use Rattle.std.proofs.Common.{◌≡◌, ℕ, ◌<◌, ◌≤◌, ◌⊎◌, inl, inr, Bool, true, List, [], ◌++◌, sym, ap, ◌∙◌, refl, subst, arith, append-nil}
use Rattle.std.specs.Prelude.{IfSome, Option, option_map, ⊤}
use Rattle.gp_plain.specs.declared.http.Response.{Response}
use Rattle.gp_outside.specs.Counts.{Rose}
use Rattle.gp_outside.specs.Dials.{DialTells, DialLater, after_hang_up}
use Rattle.gp_outside.specs.Talks.{Talk, hung_up}
use Rattle.gp_exchange.specs.Views.{AskedView}
use Rattle.gp_exchange.specs.Answers.{told, rank, FaultRises, Gives, head_of, head_after}
use Rattle.gp_exchange.specs.Standing.{IsOver, IsAt, StandsAt, part_of}
use Rattle.gp_exchange.specs.Moves.{Leads, StaysOver}
use Rattle.gp_exchange.specs.declared.answer.ExchangeFault.{ExchangeFault}
use Rattle.gp_exchange.specs.declared.answer.ExchangeFault.TheVariants.{Dial, Head as BadHead, Interim, Plan, Body}
use Rattle.gp_exchange.specs.declared.answer.Progress.{Progress}
use Rattle.gp_exchange.specs.declared.answer.Progress.TheVariants.{Head, Part, End, NotReady, Fault, NoMemory}
use Rattle.gp_exchange.specs.declared.answer.Last.{Last}
use Rattle.gp_exchange.specs.declared.answer.Last.TheVariants.{End as LastEnd, Fault as LastFault, NoMemory as LastNoMemory}
use Rattle.gp_exchange.specs.declared.place.Next.{Next}
use Rattle.gp_exchange.specs.declared.place.Over.{Over}
use Rattle.gp_exchange.specs.declared.place.Place.{Place}
use Rattle.gp_exchange.specs.declared.place.Place.TheVariants as place
use Rattle.gp_exchange.proofs.Causes.{rose_from, waits_from}
use Rattle.gp_exchange.proofs.Talking.{told_on, HangsUp, hangs_up}

pub later_later : (a b c : DialTells) → DialLater a b → DialLater b c → DialLater a c
later_later a b c h k = record {
  faults = omega (arith, h.faults, k.faults);
  connect_waits = omega (arith, h.connect_waits, k.connect_waits);
  read_waits = omega (arith, h.read_waits, k.read_waits);
  write_waits = omega (arith, h.write_waits, k.write_waits);
  ends = omega (arith, h.ends, k.ends);
}

pub later_same : (a : DialTells) → DialLater a a
later_same a = record { faults = omega arith; connect_waits = omega arith; read_waits = omega arith; write_waits = omega arith; ends = omega arith }

pub later_hung_up : (a b : DialTells) → DialLater a b → DialLater a (after_hang_up b)
later_hung_up a b h = record { faults = h.faults; connect_waits = h.connect_waits; read_waits = h.read_waits; write_waits = h.write_waits; ends = h.ends }

-- ---- a move behind others

module _ (asked : AskedView) (was mid : Place) (old now new : DialTells) (later : DialLater old now) (onward : rank was ≤ rank mid) (near : (rank mid < 4) ⊎ (rank was ≡ rank mid)) (live : rank mid < 5) (same : head_of mid ≡ head_of was) where
  fault_before : (fault : ExchangeFault) → FaultRises fault mid now new → FaultRises fault was old new
  fault_before Dial rises = λ _. rose_from _ _ _ later.faults (rises live)
  fault_before BadHead rises = tt
  fault_before Interim rises = tt
  fault_before (Plan fault) rises = tt
  fault_before (Body fault) rises = tt

  far : 4 ≤ rank mid → rank was ≡ rank mid
  far e = elim near [ inl less ↦ absurd (omega (arith, less, e)) | inr same ↦ same ]

  gives_before : (is : Place) (progress : Progress) → Gives mid is now new progress → Gives was is old new progress
  gives_before is (Head head) g = (omega (arith, g.0, onward), g.1)
  gives_before is (Part part) g = (g.0, far (omega (arith, g.1)) ∙ g.1, g.2)
  gives_before is End g = (omega (arith, far g.0, g.0), g.1)
  gives_before is NotReady g = (omega (arith, g.0, onward), waits_from old now new later is g.1)
  gives_before is (Fault fault) g = (g.0, fault_before fault g.1)
  gives_before is NoMemory g = g

  pub leads_before : (next : Next) → ((before : List Talk) (given : List ℕ) → StandsAt asked before given was old.talks → StandsAt asked before given mid now.talks)
      → Leads asked mid now new next → Leads asked was old new next
  leads_before next stands leads = record {
    kept = leads.kept;
    begun = leads.begun;
    later = later_later old now new later leads.later;
    gives = gives_before next.place next.progress leads.gives;
    marked = λ mark less. rose_from _ _ _ later.ends (leads.marked mark live);
    heads = leads.heads ∙ ap (λ (h : Option Response). head_after h next.progress) same;
    stands = λ before given s. leads.stands before given (stands before given s);
    over = λ over. absurd (omega (arith, over, onward, live));
  }

-- ---- a move that hangs up

-- what an end says of where it comes, and of the counts
abbrev pub EndGives : Place → DialTells → DialTells → Last → Type 0
EndGives was old now LastEnd = 4 ≤ rank was
EndGives was old now (LastFault fault) = FaultRises fault was old now
EndGives was old now LastNoMemory = ⊤

fault_same : (fault : ExchangeFault) (was : Place) (old now : DialTells) → FaultRises fault was old now → FaultRises fault was old (after_hang_up now)
fault_same Dial was old now rises = rises
fault_same BadHead was old now rises = tt
fault_same Interim was old now rises = tt
fault_same (Plan fault) was old now rises = tt
fault_same (Body fault) was old now rises = tt

end_gives : (was : Place) (old now : DialTells) (last : Last) (ended : Bool) (over : Over) → over.last ≡ last → EndGives was old now last → Gives was (place.Over over) old (after_hang_up now) (told last)
end_gives was old now LastEnd ended over e g = (g, e)
end_gives was old now (LastFault fault) ended over e g = (e, fault_same fault was old now g)
end_gives was old now LastNoMemory ended over e g = e

no_part : (last : Last) → part_of (told last) ≡ []
no_part LastEnd = refl
no_part (LastFault fault) = refl
no_part LastNoMemory = refl

pub next_is : (next : Next) (p : Place) (progress : Progress) → next.place ≡ p → next.progress ≡ progress → ◌≡◌ {A = Next} (record { place = p; progress = progress }) next
next_is next p progress e f = rw (← e, ← f) refl

-- an end gives no head
pub no_head : (given : Option Response) (last : Last) → head_after given (told last) ≡ given
no_head given LastEnd = refl
no_head given (LastFault fault) = refl
no_head given LastNoMemory = refl

module _ (asked : AskedView) (was : Place) (old now new : DialTells) (over : Over) (next : Next) (same : head_of (place.Over over) ≡ head_of was) where
  ends_there : rank was < 5 → DialLater old now → EndGives was old now over.last → (over.ended ≡ true → Rose old.ends now.ends)
      → ((before : List Talk) (given : List ℕ) → StandsAt asked before given was old.talks → IfSome now.talks (HangsUp asked before given over))
      → Leads asked was old (after_hang_up now) (record { place = place.Over over; progress = told over.last })
  ends_there live later gives marked stands = record {
    kept = tt;
    begun = omega arith;
    later = later_hung_up old now later;
    gives = end_gives was old now over.last over.ended over refl gives;
    marked = λ mark less. marked mark;
    heads = same ∙ sym (no_head (head_of was) over.last);
    stands = λ before given s.
        told_on (HangsUp asked before given over) (IsAt asked before (given ++ part_of (told over.last)) (place.Over over)) hung_up now.talks (option_map hung_up now.talks) refl
        (λ talks h. subst (λ (x : List ℕ). IsOver asked before x over (hung_up talks)) (sym (ap (λ (x : List ℕ). given ++ x) (no_part over.last) ∙ append-nil given)) (hangs_up asked before given over talks h))
        (stands before given s);
    over = λ over. absurd (omega (arith, over, live));
  }

  pub leads_over : next.place ≡ place.Over over → next.progress ≡ told over.last → new ≡ after_hang_up now → rank was < 5 → DialLater old now → EndGives was old now over.last → (over.ended ≡ true → Rose old.ends now.ends)
      → ((before : List Talk) (given : List ℕ) → StandsAt asked before given was old.talks → IfSome now.talks (HangsUp asked before given over))
      → Leads asked was old new next
  leads_over e f hung live later gives marked stands =
      subst (λ (d : DialTells). Leads asked was old d next) (sym hung)
      (subst (λ (n : Next). Leads asked was old (after_hang_up now) n) (next_is next (place.Over over) (told over.last) e f) (ends_there live later gives marked stands))

-- ---- an exchange that is over

-- what an end answers
last_told : (over : Over) (old now : DialTells) (progress : Progress) → Gives (place.Over over) (place.Over over) old now progress → progress ≡ told over.last
last_told over old now (Head head) g = absurd g.1
last_told over old now (Part part) g = absurd (omega (arith, g.1))
last_told over old now End g = ap told (sym g.1)
last_told over old now NotReady g = absurd g.1
last_told over old now (Fault fault) g = ap told (sym g.0)
last_told over old now NoMemory g = ap told (sym g)

pub stays_over : (asked : AskedView) (was : Place) (old now : DialTells) (next : Next) → Leads asked was old now next → StaysOver was next.place old now next.progress
stays_over asked (place.Unbegun request) old now next leads last is = absurd is
stays_over asked (place.Connecting request) old now next leads last is = absurd is
stays_over asked (place.Sending sending) old now next leads last is = absurd is
stays_over asked (place.Heading heading) old now next leads last is = absurd is
stays_over asked (place.Reading reading) old now next leads last is = absurd is
stays_over asked (place.Over over) old now next leads last is =
    let same = leads.over (omega arith) in
    let gives = subst (λ (p : Place). Gives (place.Over over) p old now next.progress) same.1 leads.gives in
    (same.1, same.0, last_told over old now next.progress gives ∙ ap told is)
