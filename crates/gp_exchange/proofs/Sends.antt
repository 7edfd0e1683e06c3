-- The moves of an exchange that sends its request.
use Rattle.std.proofs.Common.{◌≡◌, ℕ, ◌+◌, ◌-◌, ◌≤◌, false, List, [], ◌++◌, take, drop, length, None, sym, ap, ◌∙◌, refl, subst, arith, length-drop}
use Rattle.std.specs.Prelude.{option_map}
use Rattle.std.proofs.Math.Seq.{take-add}
use Rattle.std.proofs.lemmas.List.{take_all, take-append-drop}
use Rattle.gp_head.specs.declared.read.HeadRead.TheVariants.{More as Open}
use Rattle.gp_head.specs.Heads.{IsRead, IsResponseText}
use Rattle.gp_head.specs.Lines.{begun_fields, head_end}
use Rattle.gp_head.proofs.ExtentLemmas.{extent_more}
use Rattle.gp_outside.specs.Counts.{Rose}
use Rattle.gp_outside.specs.Dials.{DialTells, DialLater, after_hang_up}
use Rattle.gp_outside.specs.Talks.{Talk, wrote}
use Rattle.gp_exchange.specs.Views.{AskedView}
use Rattle.gp_exchange.specs.Heads.{AreInterim, none}
use Rattle.gp_exchange.specs.Answers.{told}
use Rattle.gp_exchange.specs.Standing.{IsPresent, IsSending, IsHeading, StandsAt}
use Rattle.gp_exchange.specs.Moves.{Leads}
use Rattle.gp_exchange.specs.declared.answer.ExchangeFault.TheVariants.{Dial}
use Rattle.gp_exchange.specs.declared.answer.Last.TheVariants.{Fault}
use Rattle.gp_exchange.specs.declared.place.Next.{Next}
use Rattle.gp_exchange.specs.declared.place.Over.{Over}
use Rattle.gp_exchange.specs.declared.place.Place.TheVariants as place
use Rattle.gp_exchange.specs.declared.heading.Heading.{Heading}
use Rattle.gp_exchange.specs.declared.sending.Sending.{Sending}
use Rattle.gp_exchange.proofs.Talking.{told_on, told_same, HangsUp, present_wrote}
use Rattle.gp_exchange.proofs.Leading.{leads_over}

-- nothing has come of a head
pub open_at_first : IsRead IsResponseText [] Open
unfolding begun_fields head_end
open_at_first = extent_more [] (omega arith) refl (omega arith)

-- the bytes of a write from a place on
pub slice_on : (request given : List ℕ) (done : ℕ) → given ≡ request → take (length given - done) (drop done given) ≡ drop done request
slice_on request given done same = take_all (length given - done) (drop done given) (omega (arith, length-drop done given)) ∙ ap (drop done) same

module _ (asked : AskedView) (s : Sending) (kept : s.request ≡ asked.request) (old now new : DialTells) where
  -- some of the request was written
  pub wrote_on : (s' : Sending) (given : List ℕ) (n : ℕ) → given ≡ s.request → s'.done ≡ s.done + n → now.talks ≡ option_map (wrote (take n (take (length given - s.done) (drop s.done given)))) old.talks
      → (before : List Talk) (content : List ℕ) → StandsAt asked before content (place.Sending s) old.talks → StandsAt asked before content (place.Sending s') now.talks
  wrote_on s' given n same on e before content stands =
      let bytes = take n (take (length given - s.done) (drop s.done given)) in
      let sent : take s'.done asked.request ≡ take s.done asked.request ++ bytes =
      ap (λ (k : ℕ). take k asked.request) on ∙ take-add s.done n asked.request ∙ ap (λ (x : List ℕ). take s.done asked.request ++ take n x) (sym (slice_on asked.request given s.done (same ∙ kept))) in
      told_on (IsSending asked before content (take s.done asked.request)) (IsSending asked before content (take s'.done asked.request)) (wrote bytes) old.talks now.talks e
      (λ talks at. record {
        talk = subst (λ (x : List ℕ). IsPresent asked before x [] (wrote bytes talks)) (sym sent) (present_wrote asked before (take s.done asked.request) [] bytes talks at.talk);
        none_given = at.none_given;
      }) stands

  -- a write failed
  pub sending_over : (over : Over) (next : Next) → over ≡ record { last = Fault Dial; ended = false; head = None } → next.place ≡ place.Over over → next.progress ≡ told over.last → new ≡ after_hang_up now → DialLater old now → now.talks ≡ old.talks
      → Rose old.faults now.faults → Leads asked (place.Sending s) old new next
  sending_over over next is e f hung later same rose =
      let failed : Over = record { last = Fault Dial; ended = false; head = None } in
      leads_over asked (place.Sending s) old now new failed next refl (e ∙ ap (λ (o : Over). place.Over o) is) (f ∙ ap (λ (o : Over). told o.last) is) hung (omega arith) later (λ less. rose) (λ m. cc)
      (λ before content stands. told_same (IsSending asked before content (take s.done asked.request)) (HangsUp asked before content failed) old.talks now.talks same
      (λ talks at. record {
        sent = take s.done asked.request;
        received = [];
        talk = at.talk;
        begun = (drop s.done asked.request, take-append-drop s.done asked.request);
        whole = λ some. absurd (some refl);
        cause = at.none_given;
      }) stands)

  -- all was written
  pub all_sent : (h : Heading) → h.bytes ≡ [] → h.interim ≡ 0 → length s.request ≤ s.done
      → (before : List Talk) (content : List ℕ) → StandsAt asked before content (place.Sending s) old.talks → StandsAt asked before content (place.Heading h) old.talks
  all_sent h bytes interim over before content stands =
      let all : take s.done asked.request ≡ asked.request = take_all s.done asked.request (omega (arith, over, ap length kept)) in
      told_same (IsSending asked before content (take s.done asked.request)) (IsHeading asked before content h) old.talks old.talks refl
      (λ talks at. record {
        received = [];
        talk = subst (λ (x : List ℕ). IsPresent asked before x [] talks) all at.talk;
        heads = record { at = 0; interim = subst (λ (k : ℕ). AreInterim [] k 0) (sym interim) none; bytes = sym bytes };
        none_given = at.none_given;
      }) stands
