-- What passing a response on does to the rows of a session.
use Rattle.std.proofs.Common.{◌≡◌, ℕ, ◌+◌, ◌<◌, ◌≤◌, Bool, true, false, List, [], ◌∷◌, ◌++◌, length, Option, Some, None, refl, sym, ap, ◌∙◌, subst, arith, append-nil, append_assoc, length-append, inl, inr}
use Rattle.std.specs.List.{flat_map}
use Rattle.std.proofs.lemmas.Grind.{flat_map-append}
use Rattle.std.proofs.lemmas.List.Elements.{All-nil, All-push}
use Rattle.gp_plain.specs.declared.http.Response.{Response}
use Rattle.gp_plain.specs.declared.reply.EndCause.{EndCause}
use Rattle.gp_plain.specs.declared.reply.EndCause.TheVariants as cause
use Rattle.gp_outside.specs.Counts.{Rose}
use Rattle.gp_outside.specs.Dials.{DialTells}
use Rattle.gp_outside.specs.Links.{LinkTells}
use Rattle.gp_outbox.specs.declared.outbox.Flushed.TheVariants as flushed
use Rattle.gp_hub.specs.declared.outcome.SessionEnd.{SessionEnd}
use Rattle.gp_hub.specs.declared.outcome.SessionEnd.TheVariants as end
use Rattle.gp_hub.specs.declared.outcome.Why.TheVariants as why
use Rattle.std.specs.Prelude.{Result, Ok, Err, ◌==◌, ◌||◌, if◌then◌else◌}
use Rattle.gp_body.specs.declared.plan.BodyPlan.{BodyPlan}
use Rattle.gp_body.specs.declared.plan.BodyPlan.TheVariants.{None as NoBody, Length as BodyLength, Chunked as BodyChunked, ToClose}
use Rattle.gp_body.specs.declared.plan.BodyFault.{BodyFault}
use Rattle.gp_body.specs.Plans.{plan_of_response, length_plan}
use Rattle.gp_answer.specs.declared.framing.Framing.TheVariants.{Close}
use Rattle.gp_answer.specs.Framings.{bare, declared, planned}
use Rattle.gp_answer.specs.Frames.{framed_by, last_chunk}
use Rattle.gp_answer.proofs.Frames.{frame_law_holds}
use Rattle.gp_exchange.specs.Views.{ExchangeView}
use Rattle.gp_exchange.specs.Answers.{rank, head_of, IsOverBy, FaultRises, Gives, Waits}
use Rattle.gp_exchange.specs.declared.answer.Progress.TheVariants.{NotReady}
use Rattle.gp_exchange.specs.declared.answer.Last.{Last as ExchangeLast}
use Rattle.gp_exchange.specs.declared.place.Place.{Place}
use Rattle.gp_exchange.specs.declared.place.Place.TheVariants as place
use Rattle.gp_exchange.specs.declared.answer.ExchangeFault.{ExchangeFault}
use Rattle.gp_exchange.specs.declared.answer.Last.TheVariants as last
use Rattle.gp_session.specs.Wires.{SaysMore, WireView, Sent, Flushes}
use Rattle.gp_session.specs.Lines.{Aim, LineView, MovedLine, LineRow, Last, speaking, hung}
use Rattle.gp_session.proofs.Moving.{rose_from, rose_since, says_put, says_same, says_again}
use Rattle.gp_session_http.specs.declared.asked.Asked.{Asked}
use Rattle.gp_session_http.specs.declared.asking.Asking.{Asking as AskingStage}
use Rattle.gp_session_http.specs.declared.passed.Passed.{Passed}
use Rattle.gp_session_http.specs.declared.passing.Passing.{Passing as PassingStage}
use Rattle.gp_session_http.specs.declared.finishing.Finishing.{Finishing as FinishingStage}
use Rattle.gp_session_http.specs.declared.stage.Stage.TheVariants.{Passing, Finishing}
use Rattle.gp_session_http.specs.declared.stage.Ended.{Ended}
use Rattle.gp_session_http.specs.declared.stage.Next.TheVariants.{Go, Wait, End}
use Rattle.gp_session_http.specs.Asking.{IsPassed}
use Rattle.gp_session_http.specs.Passing.{code_by, framing_by, head_by, in_chunks, is_bare_by, asked_of, origin_head, has_no_body, IsPassedOn, passed_text, ArePartsOf}
use Rattle.gp_session_http.specs.Views.{LiveView, Moved}
use Rattle.gp_session_http.specs.Trace.{IsPassing, IsCutOff, HasEndedBy, IsPassedBy, Told}
use Rattle.gp_session_http.specs.declared.passing.Step.{Step}
use Rattle.gp_session_http.specs.declared.passing.Step.TheVariants as step
use Rattle.gp_session_http.specs.Moves.{waits, passed, StepsTo, PassedOn, Leads, HasAsked, said, HasHeadOf, IsBegunAt, HasGiven, HasGivenAll, EndSays, end_by}
use Rattle.gp_session_http.proofs.Rows.{with_wire, with_line, moved_line, moved_again, moved_by_put, moved_unput, moved_flush, no_parts, told_flushed, leads_from}
use Rattle.gp_session_http.proofs.Talking.{polled, put_on, put_none, over_hung, over_rank}

-- how the text grows

none_last : (chunked : Bool) → last_chunk chunked None ≡ []
none_last true = refl
none_last false = refl

cut_last : (chunked : Bool) → last_chunk chunked (Some cause.Unrecovered) ≡ []
cut_last true = refl
cut_last false = refl

pub grows_part : (p : Passed) (parts : List (List ℕ)) (part : List ℕ) → passed_text p (parts ++ part ∷ []) None ≡ passed_text p parts None ++ framed_by p.chunked part
grows_part p parts part =
    let before = passed_text p parts None in
    frame_law_holds p.chunked (head_by (asked_of p) (origin_head p) p.status) parts (part ∷ []) None
    ∙ ap (λ (x : List ℕ). before ++ x) (ap (λ (y : List ℕ). (framed_by p.chunked part ++ []) ++ y) (none_last p.chunked) ∙ append-nil (framed_by p.chunked part ++ []) ∙ append-nil (framed_by p.chunked part))

pub grows_end : (p : Passed) (parts : List (List ℕ)) (c : EndCause) → passed_text p parts (Some c) ≡ passed_text p parts None ++ last_chunk p.chunked (Some c)
grows_end p parts c =
    ap (λ (x : List (List ℕ)). passed_text p x (Some c)) (sym (append-nil parts)) ∙ frame_law_holds p.chunked (head_by (asked_of p) (origin_head p) p.status) parts [] (Some c)

cut_text : (p : Passed) (parts : List (List ℕ)) → passed_text p parts None ≡ passed_text p parts (Some cause.Unrecovered)
cut_text p parts = sym (grows_end p parts cause.Unrecovered ∙ ap (λ (x : List ℕ). passed_text p parts None ++ x) (cut_last p.chunked) ∙ append-nil (passed_text p parts None))

-- before a part, the text is the head
first_text : (p : Passed) → head_by (asked_of p) (origin_head p) p.status ≡ passed_text p [] None
first_text p = sym (ap (λ (x : List ℕ). head_by (asked_of p) (origin_head p) p.status ++ x) (none_last p.chunked) ∙ append-nil (head_by (asked_of p) (origin_head p) p.status))

pub more_parts : (parts : List (List ℕ)) (given part : List ℕ) → ArePartsOf parts given → 0 < length part → ArePartsOf (parts ++ part ∷ []) (given ++ part)
more_parts parts given part cut some = record {
  some = All-push (λ (x : List ℕ). 0 < length x) parts part cut.some some;
  joined = flat_map-append (λ (x : List ℕ). x) parts (part ∷ []) ∙ ap (λ (x : List ℕ). x ++ (part ++ [])) cut.joined ∙ ap (λ (x : List ℕ). given ++ x) (append-nil part);
}

-- the rows of a stage that passes on

pub passing_rows : (l : LiveView) (s : PassingStage) (t : Told l (Passing s)) → HasAsked l (asked_of s.passed) s.exchange (speaking (said s.exchange t.given)) (passed_text s.passed t.parts None)
passing_rows l s t = record { request = t.request; talks = t.talks; aim = t.aim; bytes = t.bytes; times = t.times; stays = t.stays }

pub passing_told : (l : LiveView) (s : PassingStage) (parts : List (List ℕ)) (given : List ℕ) → ArePartsOf parts given → HasAsked l (asked_of s.passed) s.exchange (speaking (said s.exchange given)) (passed_text s.passed parts None)
    → IsPassing s.passed s.exchange → Told l (Passing s)
passing_told l s parts given cut h at = record { given = given; parts = parts; cut = cut; request = h.request; talks = h.talks; aim = h.aim; at = at; bytes = h.bytes; times = h.times; stays = h.stays }

-- and of one whose response has ended, with the same exchange
pub finishing_told : (l : LiveView) (p : Passed) (x : ExchangeView) (s : FinishingStage) (c : EndCause) (parts : List (List ℕ)) (given : List ℕ) → ArePartsOf parts given → s.passed ≡ p → s.exchange.value ≡ x → s.cause ≡ c
    → HasAsked l (asked_of p) x (hung (said x given)) (passed_text p parts (Some c)) → IsPassedBy l.line p x c parts → Told l (Finishing s)
finishing_told l p x s c parts given cut same exchange is h at =
    let h1 = subst (λ (q : Passed). HasAsked l (asked_of q) x (hung (said x given)) (passed_text q parts (Some c))) (sym same) h in
    let h2 = subst (λ (y : ExchangeView). HasAsked l (asked_of s.passed) y (hung (said y given)) (passed_text s.passed parts (Some c))) (sym exchange) h1 in
    let h3 = subst (λ (d : EndCause). HasAsked l (asked_of s.passed) s.exchange.value (hung (said s.exchange.value given)) (passed_text s.passed parts (Some d))) (sym is) h2 in
    let a1 = subst (λ (q : Passed). IsPassedBy l.line q x c parts) (sym same) at in
    let a2 = subst (λ (y : ExchangeView). IsPassedBy l.line s.passed y c parts) (sym exchange) a1 in
    record {
      given = given;
      parts = parts;
      cut = cut;
      request = h3.request;
      talks = h3.talks;
      aim = h3.aim;
      at = subst (λ (d : EndCause). IsPassedBy l.line s.passed s.exchange.value d parts) (sym is) a2;
      bytes = h3.bytes;
      times = h3.times;
      stays = h3.stays;
    }

-- an end for want of memory; the last part may not have been put
pub passing_lost : (l : LiveView) (s : PassingStage) (parts : List (List ℕ)) (given text : List ℕ) (more : List ℕ) (n : ℕ) (u : LiveView) → Moved u l → ArePartsOf parts given
    → HasAsked l (asked_of s.passed) s.exchange (hung (said s.exchange given)) text → passed_text s.passed parts None ≡ text ++ more → (ended : Ended) → ended ≡ record { end = end.NoMemory; why = why.Nothing } → Leads u l n (End ended)
passing_lost l s parts given text more n u moved cut h grown ended is = subst (λ (x : Ended). Leads u l n (End x)) (sym is) (record {
  moved = moved;
  to = record {
    stage = Passing s;
    told = record {
      given = given;
      parts = parts;
      cut = cut;
      request = record { received = h.request.received; since = h.request.since; asks = record { used = h.request.received; unused = []; split = sym (append-nil h.request.received); asks = h.request.asks } };
      talks = h.talks;
      aim = h.aim;
      at = tt;
      bytes = (text, (more, sym grown), h.bytes);
      times = tt;
      stays = h.stays;
    };
    says = tt;
    why_is = refl;
  };
})

-- the client is gone
pub passing_gone : (v : LiveView) (w : WireView) (l : LineView) (s : PassingStage) (told : Told v (Passing s)) → Flushes v.wire w flushed.Failed → Moved v (with_line (with_wire v w) l)
    → HasAsked (with_line (with_wire v w) l) (asked_of s.passed) s.exchange (hung (said s.exchange told.given)) (passed_text s.passed told.parts None) → (ended : Ended) → ended ≡ record { end = end.ClientGone; why = why.Nothing }
    → Leads v (with_line (with_wire v w) l) 2 (End ended)
passing_gone v w l s told h moved rows ended is = subst (λ (x : Ended). Leads v (with_line (with_wire v w) l) 2 (End x)) (sym is) (record {
  moved = moved;
  to = record {
    stage = Passing s;
    told = record { given = told.given; parts = told.parts; cut = told.cut; request = rows.request; talks = rows.talks; aim = rows.aim; at = told.at; bytes = rows.bytes; times = rows.times; stays = rows.stays };
    says = inl (rose_since v.wire w (λ (t : LinkTells). t.faults) h.start told.stays.links.faults h.cause.1);
    why_is = refl;
  };
})

-- the client doesn't take what waits
pub passing_full : (v : LiveView) (w : WireView) (s : PassingStage) → Told v (Passing s) → Flushes v.wire w flushed.NotReady → Leads v (with_wire v w) 2 (Wait (Passing s))
passing_full v w s told h = record {
  moved = moved_flush v w flushed.NotReady h;
  to = (
    told_flushed v w (Passing s) flushed.NotReady told h,
    waits (record { request = λ no. absurd no; talk = λ empty. absurd (h.cause.0 empty); writes = λ some. h.cause.1; some = inr (inr h.cause.0) }),
  );
}

-- the talk has nothing to give
pub passing_waits : (v : LiveView) (l : LineView) (s : PassingStage) → Moved v (with_line v l) → v.wire.rest ≡ [] → Told (with_line v l) (Passing s) → Waits s.exchange.place v.line.dial l.dial → Leads v (with_line v l) 2 (Wait (Passing s))
passing_waits v l s moved empty told w = record {
  moved = moved;
  to = (told, waits (record { request = λ no. absurd no; talk = λ _. w; writes = λ some. absurd (some empty); some = inr (inl empty) }));
}

-- parts one after another

pub none_passed : (v : LiveView) (chunked : Bool) → PassedOn v v chunked 0
none_passed v chunked = record { parts = []; number = refl; some = All-nil _; before = []; says = says_same v.wire v.wire refl refl refl }

pub one_passed : (u v w : LiveView) (chunked : Bool) (n : ℕ) (part : List ℕ) → PassedOn u v chunked n → 0 < length part → SaysMore v.wire w.wire (framed_by chunked part) → PassedOn u w chunked (n + 1)
one_passed u v w chunked n part p some says = record {
  parts = p.parts ++ part ∷ [];
  number = length-append p.parts (part ∷ []) ∙ ap (λ (k : ℕ). k + 1) p.number;
  some = All-push (λ (x : List ℕ). 0 < length x) p.parts part p.some some;
  before = p.before;
  says = λ text sent.
      let old = p.before ++ flat_map (framed_by chunked) p.parts in
      let all : old ++ framed_by chunked part ≡ p.before ++ flat_map (framed_by chunked) (p.parts ++ part ∷ []) =
      append_assoc p.before (flat_map (framed_by chunked) p.parts) (framed_by chunked part)
      ∙ ap (λ (x : List ℕ). p.before ++ x) (ap (λ (x : List ℕ). flat_map (framed_by chunked) p.parts ++ x) (sym (append-nil (framed_by chunked part))) ∙ sym (flat_map-append (framed_by chunked) p.parts (part ∷ []))) in
      subst (λ (more : List ℕ). Sent w.wire (text ++ more)) all (says_again u.wire v.wire w.wire old (framed_by chunked part) p.says says text sent);
}

pub sixteen_passed : (u v : LiveView) (s : PassingStage) (n : ℕ) → Moved u v → Told v (Passing s) → n ≡ 16 → PassedOn u v s.passed.chunked n → Leads u v 2 (Wait (Passing s))
sixteen_passed u v s n moved told is p = record { moved = moved; to = (told, passed (subst (PassedOn u v s.passed.chunked) is p)) }

-- a part behind moves in which nothing was said
pub steps_from : (u v w : LiveView) (chunked : Bool) (st : Step) → Moved u v → SaysMore u.wire v.wire [] → StepsTo v w chunked st → StepsTo u w chunked st
steps_from u v w chunked (step.Part next) m says s = (
  record { moved = moved_again u v w m s.0.moved; told = s.0.told; part = s.0.part; some = s.0.some; says = says_again u.wire v.wire w.wire [] (framed_by chunked s.0.part) says s.0.says },
  s.1,
)
steps_from u v w chunked (step.Next next) m says s = leads_from u v w 2 2 next m (omega arith) s

pub steps_live : (v x w : LiveView) (chunked : Bool) (st : Step) → v ≡ x → StepsTo v w chunked st → StepsTo x w chunked st
steps_live v x w chunked st e s = subst (λ (y : LiveView). StepsTo y w chunked st) e s

pub steps_is : (v w : LiveView) (chunked : Bool) (a b : Step) → a ≡ b → StepsTo v w chunked b → StepsTo v w chunked a
steps_is v w chunked a b e s = subst (StepsTo v w chunked) (sym e) s

pub steps_at : (v w x : LiveView) (chunked : Bool) (st : Step) → x ≡ w → StepsTo v w chunked st → StepsTo v x chunked st
steps_at v w x chunked st e s = subst (λ (y : LiveView). StepsTo v y chunked st) (sym e) s

-- the body still goes on
pub still_reads : (x y : ExchangeView) (old now : DialTells) → rank x.place ≡ 4 → Gives x.place y.place old now NotReady → rank y.place ≡ 4
still_reads x y old now four g = by_place y.place (omega (arith, four, g.0)) g.1
  where
    by_place : (p : Place) → 4 ≤ rank p → Waits p old now → rank p ≡ 4
    by_place (place.Unbegun request) le w = absurd w
    by_place (place.Connecting request) le w = absurd (omega (arith, le))
    by_place (place.Sending sending) le w = absurd (omega (arith, le))
    by_place (place.Heading heading) le w = absurd (omega (arith, le))
    by_place (place.Reading reading) le w = refl
    by_place (place.Over over) le w = absurd w

-- the talk was polled
module _ (v : LiveView) (l : LineView) (s : PassingStage) (told : Told v (Passing s)) (y : ExchangeView) (moved : MovedLine v.line l) (same : y.asked ≡ s.exchange.asked) (head : head_of y.place ≡ head_of s.exchange.place) where
  abbrev pub after_poll : PassingStage
  after_poll = record { passed = s.passed; exchange = y }

  pub came : (part : List ℕ) → ((aims : List Aim) → LineRow v.line aims (speaking (said s.exchange told.given)) → LineRow l aims (speaking (said y (told.given ++ part))))
      → HasAsked (with_line v l) (asked_of s.passed) y (speaking (said y (told.given ++ part))) (passed_text s.passed told.parts None)
  came part row = polled v l (asked_of s.passed) s.exchange y (speaking (said s.exchange told.given)) (speaking (said y (told.given ++ part))) (passed_text s.passed told.parts None) moved same row (passing_rows v s told)

  pub none_came : ((aims : List Aim) → LineRow v.line aims (speaking (said s.exchange told.given)) → LineRow l aims (speaking (said y (told.given ++ []))))
      → HasAsked (with_line v l) (asked_of s.passed) y (speaking (said y told.given)) (passed_text s.passed told.parts None)
  none_came row = subst (λ (g : List ℕ). HasAsked (with_line v l) (asked_of s.passed) y (speaking (said y g)) (passed_text s.passed told.parts None)) (append-nil told.given) (came [] row)

  pub is_passing : rank y.place ≡ 4 → IsPassing s.passed y
  is_passing four = record { reading = four; head = head ∙ told.at.head; on = told.at.on; body = told.at.body }

  pub gave_part : (part : List ℕ) → 0 < length part → rank y.place ≡ 4 → ((aims : List Aim) → LineRow v.line aims (speaking (said s.exchange told.given)) → LineRow l aims (speaking (said y (told.given ++ part)))) → HasGiven (with_line v l) after_poll part
  gave_part part some four row = record { given = told.given; parts = told.parts; cut = told.cut; some = some; rows = came part row; at = is_passing four }

  over_rows : (e : ExchangeLast) → IsOverBy e y.place → ((aims : List Aim) → LineRow v.line aims (speaking (said s.exchange told.given)) → LineRow l aims (speaking (said y (told.given ++ []))))
      → HasAsked (with_line v l) (asked_of s.passed) y (hung (said y told.given)) (passed_text s.passed told.parts None)
  over_rows e over row = over_hung (with_line v l) (asked_of s.passed) y told.given (passed_text s.passed told.parts None) (over_rank e y.place over) (none_came row)

  pub gave_all : IsOverBy last.End y.place → ((aims : List Aim) → LineRow v.line aims (speaking (said s.exchange told.given)) → LineRow l aims (speaking (said y (told.given ++ [])))) → HasGivenAll (with_line v l) after_poll
  gave_all over row = record {
    given = told.given;
    parts = told.parts;
    cut = told.cut;
    rows = over_rows last.End over row;
    over = over;
    head = head ∙ told.at.head;
    on = told.at.on;
    body = told.at.body;
  }

  cut_by : (f : ExchangeFault) → IsOverBy (last.Fault f) y.place → FaultRises f s.exchange.place v.line.dial l.dial → IsCutOff l y
  cut_by f over rises = record { fault = f; over = over; rises = λ is. since (subst (λ (x : ExchangeFault). FaultRises x s.exchange.place v.line.dial l.dial) is rises (let four = told.at.reading in omega (arith, four))) }
    where
      since : Rose v.line.dial.faults l.dial.faults → Rose l.start.faults l.dial.faults
      since rose = subst (λ (t : DialTells). Rose t.faults l.dial.faults) (sym moved.start) (rose_from v.line.start.faults v.line.dial.faults l.dial.faults told.stays.dials.faults rose)

  pub cut_short : (f : ExchangeFault) → IsOverBy (last.Fault f) y.place → FaultRises f s.exchange.place v.line.dial l.dial → ((aims : List Aim) → LineRow v.line aims (speaking (said s.exchange told.given)) → LineRow l aims (speaking (said y (told.given ++ []))))
      → (t : FinishingStage) → t.passed ≡ s.passed → t.exchange.value ≡ y → t.cause ≡ cause.Unrecovered → Leads v (with_line v l) 2 (Go (Finishing t))
  cut_short f over rises row t whose exchange is = record {
    moved = moved_line v l moved;
    to = (
      finishing_told (with_line v l) s.passed y t cause.Unrecovered told.parts told.given told.cut whose exchange is
          (subst (HasAsked (with_line v l) (asked_of s.passed) y (hung (said y told.given))) (cut_text s.passed told.parts) (over_rows (last.Fault f) over row))
          (record { head = head ∙ told.at.head; on = told.at.on; ended = cut_by f over rises; bare = λ b. (let no : true ≡ false = sym b ∙ told.at.body in let never : ⊥ = cc in absurd never) }),
      omega arith,
    );
  }

  pub goes_on : v.wire.rest ≡ [] → Gives s.exchange.place y.place v.line.dial l.dial NotReady → ((aims : List Aim) → LineRow v.line aims (speaking (said s.exchange told.given)) → LineRow l aims (speaking (said y (told.given ++ []))))
      → Leads v (with_line v l) 2 (Wait (Passing after_poll))
  goes_on empty g row = passing_waits v l after_poll (moved_line v l moved) empty
      (passing_told (with_line v l) after_poll told.parts told.given told.cut (none_came row) (is_passing (still_reads s.exchange y v.line.dial l.dial told.at.reading g))) g.1

  pub lost : IsOverBy last.NoMemory y.place → ((aims : List Aim) → LineRow v.line aims (speaking (said s.exchange told.given)) → LineRow l aims (speaking (said y (told.given ++ [])))) → (ended : Ended) → ended ≡ record { end = end.NoMemory; why = why.Nothing }
      → Leads v (with_line v l) 2 (End ended)
  lost over row ended is = passing_lost (with_line v l) after_poll told.parts told.given (passed_text s.passed told.parts None) [] 2 v (moved_line v l moved) told.cut (over_rows last.NoMemory over row) (sym (append-nil (passed_text s.passed told.parts None))) ended is

-- a part was put, or couldn't be
module _ (v : LiveView) (w : WireView) (s : PassingStage) (part : List ℕ) (h : HasGiven v s part) (start : w.start ≡ v.wire.start) (link : w.link ≡ v.wire.link) where
  pub put_step : w.rest ≡ v.wire.rest ++ framed_by s.passed.chunked part → StepsTo v (with_wire v w) s.passed.chunked (step.Part s)
  put_step rest = (
    record {
      moved = moved_by_put v w (framed_by s.passed.chunked part) start link rest;
      told = passing_told (with_wire v w) s (h.parts ++ part ∷ []) (h.given ++ part) (more_parts h.parts h.given part h.cut h.some)
          (subst (HasAsked (with_wire v w) (asked_of s.passed) s.exchange (speaking (said s.exchange (h.given ++ part)))) (sym (grows_part s.passed h.parts part))
          (put_on v w start link (asked_of s.passed) s.exchange (speaking (said s.exchange (h.given ++ part))) (passed_text s.passed h.parts None) h.rows (framed_by s.passed.chunked part) rest))
          h.at;
      part = part;
      some = h.some;
      says = says_put v.wire w (framed_by s.passed.chunked part) start link rest;
    },
    refl,
  )

  pub unput_step : w.rest ≡ v.wire.rest → (l : LineView) → MovedLine v.line l → ((aims : List Aim) → LineRow v.line aims (speaking (said s.exchange (h.given ++ part))) → LineRow l aims (hung (said s.exchange (h.given ++ part))))
      → (ended : Ended) → ended ≡ record { end = end.NoMemory; why = why.Nothing } → Leads v (with_line (with_wire v w) l) 2 (End ended)
  unput_step rest l moved row ended is =
      let x = s.exchange in
      let text = passed_text s.passed h.parts None in
      let rows = polled (with_wire v w) l (asked_of s.passed) x x (speaking (said x (h.given ++ part))) (hung (said x (h.given ++ part))) text moved refl row
      (put_none v w start link (asked_of s.passed) x (speaking (said x (h.given ++ part))) text h.rows rest) in
      passing_lost (with_line (with_wire v w) l) s (h.parts ++ part ∷ []) (h.given ++ part) text (framed_by s.passed.chunked part) 2 v
      (moved_again v (with_wire v w) (with_line (with_wire v w) l) (moved_unput v w start link rest) (moved_line (with_wire v w) l moved)) (more_parts h.parts h.given part h.cut h.some) rows (grows_part s.passed h.parts part) ended is

-- the last chunk was put, or couldn't be
module _ (v : LiveView) (w : WireView) (s : PassingStage) (h : HasGivenAll v s) (start : w.start ≡ v.wire.start) (link : w.link ≡ v.wire.link) where
  pub ended_whole : w.rest ≡ v.wire.rest ++ last_chunk s.passed.chunked (Some cause.Closed) → (t : FinishingStage) → t.passed ≡ s.passed → t.exchange.value ≡ s.exchange → t.cause ≡ cause.Closed → Leads v (with_wire v w) 2 (Go (Finishing t))
  ended_whole rest t same exchange is =
      let more = last_chunk s.passed.chunked (Some cause.Closed) in
      record {
        moved = moved_by_put v w more start link rest;
        to = (
          finishing_told (with_wire v w) s.passed s.exchange t cause.Closed h.parts h.given h.cut same exchange is
              (subst (HasAsked (with_wire v w) (asked_of s.passed) s.exchange (hung (said s.exchange h.given))) (sym (grows_end s.passed h.parts cause.Closed))
              (put_on v w start link (asked_of s.passed) s.exchange (hung (said s.exchange h.given)) (passed_text s.passed h.parts None) h.rows more rest))
              (record { head = h.head; on = h.on; ended = inl h.over; bare = λ b. (let no : true ≡ false = sym b ∙ h.body in let never : ⊥ = cc in absurd never) }),
          omega arith,
        );
      }

  pub unended : w.rest ≡ v.wire.rest → (ended : Ended) → ended ≡ record { end = end.NoMemory; why = why.Nothing } → Leads v (with_wire v w) 2 (End ended)
  unended rest ended is = passing_lost (with_wire v w) s h.parts h.given (passed_text s.passed h.parts None) [] 2 v (moved_unput v w start link rest) h.cut
      (put_none v w start link (asked_of s.passed) s.exchange (hung (said s.exchange h.given)) (passed_text s.passed h.parts None) h.rows rest) (sym (append-nil (passed_text s.passed h.parts None))) ended is

-- how a response ends
pub says_end : (v : LiveView) (w : WireView) (s : FinishingStage) → Told v (Finishing s) → w.rest ≡ [] → (e : SessionEnd) → e ≡ end_by s.passed.code s.cause → EndSays e (with_wire v w) (Finishing s)
says_end v w s told empty e is = subst (λ (x : SessionEnd). EndSays x (with_wire v w) (Finishing s)) (sym is) (by_cause s.cause refl told.at.ended)
  where
    by_cause : (c : EndCause) → s.cause ≡ c → HasEndedBy c v.line s.passed s.exchange.value → EndSays (end_by s.passed.code c) (with_wire v w) (Finishing s)
    by_cause cause.Closed same ended = (empty, (refl, same))
    by_cause cause.Unrecovered same ended = (empty, (sym same, same))
    by_cause cause.Detached same ended = absurd ended
    by_cause cause.Gap same ended = absurd ended
    by_cause cause.Overflow same ended = absurd ended
    by_cause cause.Answered same ended = absurd ended
    by_cause cause.Retry same ended = absurd ended
    by_cause cause.TimedOut same ended = absurd ended

-- an answer without a body isn't in chunks

flat_declared : (r : Result BodyPlan BodyFault) → in_chunks (declared r) ≡ false
flat_declared (Ok (BodyLength bytes)) = refl
flat_declared (Ok NoBody) = refl
flat_declared (Ok BodyChunked) = refl
flat_declared (Ok ToClose) = refl
flat_declared (Err fault) = refl

flat_bare : (b : Bool) (r : Result BodyPlan BodyFault) → in_chunks (if b then Close else declared r) ≡ false
flat_bare true r = refl
flat_bare false r = flat_declared r

bare_flat : (asked : Asked) (head : Response) (status : Option ℕ) → is_bare_by asked head status ≡ true → in_chunks (framing_by asked head status) ≡ false
bare_flat asked head status is =
    let sent = code_by head status in
    ap (λ (b : Bool). in_chunks (if b then bare head sent else planned (plan_of_response head asked.request.head.method) asked.request.head.version)) is
    ∙ flat_bare ((head.code == 204) || (sent == 204)) (length_plan head.fields)

-- the first stage behind a head

module _ (s : AskingStage) (head : Response) (status : Option ℕ) (p : Passed) (asked : p.asked.value ≡ s.asked) (origin : p.head.value ≡ head) (status_is : p.status ≡ status)
    (code : p.code ≡ code_by head status) (chunked : p.chunked ≡ in_chunks (framing_by s.asked head status)) where
  -- what is said of the head and the status is so of how it is passed on
  as_passed : (P : Asked → Response → Option ℕ → Type 0) → P s.asked head status → P (asked_of p) (origin_head p) p.status
  as_passed P h = subst (λ (o : Option ℕ). P (asked_of p) (origin_head p) o) (sym status_is) (subst (λ (r : Response). P (asked_of p) r status) (sym origin) (subst (λ (a : Asked). P a head status) (sym asked) h))

  pub is_passed_on : IsPassed s.asked.request.head.method head status → IsPassedOn p
  is_passed_on is = record {
    passed = as_passed (λ a r o. IsPassed a.request.head.method r o) is;
    code = as_passed (λ a r o. p.code ≡ code_by r o) code;
    chunked = as_passed (λ a r o. p.chunked ≡ in_chunks (framing_by a r o)) chunked;
  }

  pub is_bare : (b : Bool) → is_bare_by s.asked head status ≡ b → has_no_body p ≡ b
  is_bare b is = as_passed (λ a r o. is_bare_by a r o ≡ b) is

  pub first_rows : (l : LiveView) (a : Last) → HasAsked l s.asked s.exchange a (head_by s.asked head status) → HasAsked l (asked_of p) s.exchange a (passed_text p [] None)
  first_rows l a h = subst (HasAsked l (asked_of p) s.exchange a) (first_text p) (as_passed (λ b r o. HasAsked l b s.exchange a (head_by b r o)) h)

  first_head : HasHeadOf s.exchange head → head_of s.exchange.place ≡ Some (origin_head p)
  first_head has = has.head_is ∙ ap Some (sym origin)

  pub passes_body : (l : LiveView) (t : PassingStage) → t.passed ≡ p → t.exchange ≡ s.exchange → IsBegunAt l s head status → IsPassed s.asked.request.head.method head status → is_bare_by s.asked head status ≡ false → Told l (Passing t)
  passes_body l t same exchange begun is body =
      let here : PassingStage = record { passed = p; exchange = s.exchange } in
      subst (λ (q : PassingStage). Told l (Passing q)) (sym (ap (λ (q : Passed). record { passed = q; exchange = t.exchange }) same ∙ ap (λ (x : ExchangeView). record { passed = p; exchange = x }) exchange))
      (passing_told l here [] [] no_parts (first_rows l (speaking (said s.exchange [])) begun.rows)
      (record { reading = begun.has.reading; head = first_head begun.has; on = is_passed_on is; body = is_bare false body }))

  pub passes_none : (l : LiveView) (t : FinishingStage) → t.passed ≡ p → t.exchange.value ≡ s.exchange → t.cause ≡ cause.Closed → HasAsked l s.asked s.exchange (hung (said s.exchange [])) (head_by s.asked head status) → HasHeadOf s.exchange head
      → IsPassed s.asked.request.head.method head status → is_bare_by s.asked head status ≡ true → Told l (Finishing t)
  passes_none l t same exchange is rows has on none =
      let flat : p.chunked ≡ false = chunked ∙ bare_flat s.asked head status none in
      let text : passed_text p [] None ≡ passed_text p [] (Some cause.Closed) = sym (grows_end p [] cause.Closed ∙ ap (λ (x : List ℕ). passed_text p [] None ++ x) (ap (λ (b : Bool). last_chunk b (Some cause.Closed)) flat) ∙ append-nil (passed_text p [] None)) in
      finishing_told l p s.exchange t cause.Closed [] [] no_parts same exchange is (subst (HasAsked l (asked_of p) s.exchange (hung (said s.exchange []))) text (first_rows l (hung (said s.exchange [])) rows))
      (record { head = first_head has; on = is_passed_on on; ended = inr (is_bare true none); bare = λ b. refl })
