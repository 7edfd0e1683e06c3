-- What gathering the body of an answer does to the rows of a session.
use Rattle.std.proofs.Common.{◌≡◌, ℕ, zero, suc, ◌+◌, ◌-◌, ◌<◌, ◌≤◌, Bool, true, false, List, [], ◌∷◌, ◌++◌, length, nat_lt, Option, Some, None, refl, sym, ap, ◌∙◌, subst, arith, append-nil, length-append, ◌⊎◌, inl, inr}
use Rattle.std.specs.Prelude.{if◌then◌else◌}
use Rattle.std.proofs.lemmas.Bool.Decides.{nat_tests}
use Rattle.gp_answer.specs.Framings.{streamed}
use Rattle.gp_plain.specs.Fit.{fits}
use Rattle.gp_plain.specs.declared.event.Event.TheVariants.{Attach}
use Rattle.gp_plain.specs.declared.event.HoldSpec.{HoldSpec}
use Rattle.gp_plain.specs.declared.http.Response.{Response}
use Rattle.gp_hub.specs.declared.outcome.SessionEnd.TheVariants as end
use Rattle.gp_hub.specs.declared.outcome.Why.{Why}
use Rattle.gp_hub.specs.declared.outcome.Why.TheVariants as why
use Rattle.gp_instruct.specs.declared.instruct.Instruct.{Instruct}
use Rattle.gp_instruct.specs.Heads.{IsInstruct}
use Rattle.gp_instruct.specs.Asked.{asked as asked_by}
use Rattle.gp_instruct.specs.Spec.{IsCounted, spec}
use Rattle.gp_instruct.proofs.SpecFits.{spec_law_holds}
use Rattle.gp_instruct_json.specs.Answers.{IsAnswer, IsAnswerBy, IsBodyAnswer, IsAnswerRefused}
use Rattle.gp_instruct_json.specs.Bodies.{asked_of as asked_in}
use Rattle.gp_instruct_json.specs.Kinds.{has_type}
use Rattle.gp_instruct_json.specs.declared.answer.Answer.{Answer}
use Rattle.gp_exchange.specs.Views.{ExchangeView}
use Rattle.gp_exchange.specs.Answers.{rank, head_of, IsOverBy, Gives}
use Rattle.gp_exchange.specs.declared.answer.ExchangeFault.{ExchangeFault}
use Rattle.gp_exchange.specs.declared.answer.Last.{Last as ExchangeLast}
use Rattle.gp_exchange.specs.declared.answer.Last.TheVariants as last
use Rattle.gp_exchange.specs.declared.answer.Progress.TheVariants.{Fault, NotReady}
use Rattle.gp_forward.specs.Conditions.{ForwardLaw}
use Rattle.gp_session.proofs.Lining.{ended}
use Rattle.gp_session.specs.Lines.{Aim, LineView, MovedLine, LineRow, aim_of, begun_with, hung, idle, more_if, speaking}
use Rattle.gp_session.specs.Wires.{WireView}
use Rattle.gp_session_http.specs.declared.asked.Asked.{Asked}
use Rattle.gp_session_http.specs.declared.asking.Asking.{Asking as AskingStage}
use Rattle.gp_session_http.specs.declared.attaching.Attaching.{Attaching as AttachingStage}
use Rattle.gp_session_http.specs.declared.gathering.Gathering.{Gathering as GatheringStage}
use Rattle.gp_session_http.specs.declared.gathering.Gathered.{Gathered}
use Rattle.gp_session_http.specs.declared.gathering.Gathered.TheVariants as gathered
use Rattle.gp_session_http.specs.declared.giving.Giving.{Giving as GivingStage}
use Rattle.gp_session_http.specs.declared.beginning.Beginning.{Beginning as BeginningStage}
use Rattle.gp_session_http.specs.declared.held.Held.TheVariants.{Attaching, Beginning}
use Rattle.gp_session_http.specs.declared.grant.Wish.TheVariants.{Stream, LongStream, Poll, LongPoll, Whole}
use Rattle.gp_session_http.specs.declared.stage.Stage.TheVariants.{Gathering, Giving}
use Rattle.gp_session_http.specs.declared.stage.Ended.{Ended}
use Rattle.gp_session_http.specs.declared.stage.Next.TheVariants.{Go, Wait, Hold, End}
use Rattle.gp_routes.specs.declared.route.Rule.{Rule}
use Rattle.gp_session_wait.specs.Openings.{may_repeat}
use Rattle.gp_session_wait.specs.Waits.{most_repeats}
use Rattle.gp_session_http.specs.Asking.{IsAskable, IsGathered, HasGatheredHead, FailsBy, why_failed}
use Rattle.gp_session_http.specs.Grants.{hold_by, link_of, source_at, IsHoldOf, IsPrepared, stream_head_by}
use Rattle.gp_session_http.specs.Heard.{Heard, IsAlone, IsUnattached}
use Rattle.gp_session_http.specs.Posings.{IsCountedIn, IsOpeningOf, IsPosed, kept_for}
use Rattle.gp_session_http.specs.Routing.{Charter, IsServed}
use Rattle.gp_session_http.specs.Turns.{Turn, Behind, first as asked_first, again as asked_again, aims_of, reports_before}
use Rattle.gp_session_http.specs.Givings.{code_given, given_text}
use Rattle.gp_session_http.specs.Moves.{waits, Leads, HasAsked, said, IsAnsweredAt, IsFailedAt, HasFailedAt, HasCome, HasComeAll, IsAnsweredWith, GathersOn, GathersTo}
use Rattle.gp_session_http.specs.Passing.{ArePartsOf, code_by, in_chunks}
use Rattle.gp_session_http.specs.Trace.{BeginsWith, HeardAs, IsGathering, Told}
use Rattle.gp_session_http.specs.Views.{LiveView, Moved}
use Rattle.gp_session_http.specs.Wishes.{most_gathered, IsWish, status_of}
use Rattle.gp_session_http.proofs.Rows.{with_wire, with_line, moved_by_put, moved_unput, moved_line, moved_same, moved_again, no_parts, leads_from}
use Rattle.gp_session_http.proofs.Hearing.{none_waits}
use Rattle.gp_session_http.proofs.Talking.{askable, polled, put_on, put_none, over_hung, over_rank, faulted}
use Rattle.gp_session_http.proofs.Sending.{more_parts, still_reads}

-- the rows of a stage that gathers

pub gathering_rows : (l : LiveView) (s : GatheringStage) (t : Told l (Gathering s)) → HasAsked l s.asked s.exchange (speaking (said s.exchange s.content)) []
gathering_rows l s t = subst (λ (g : List ℕ). HasAsked l s.asked s.exchange (speaking (said s.exchange g)) []) (sym t.at.content)
    (record { request = t.request; talks = t.talks; aim = t.aim; bytes = t.bytes; times = t.times; stays = t.stays })

gathering_cut : (l : LiveView) (s : GatheringStage) (t : Told l (Gathering s)) → ArePartsOf t.parts s.content
gathering_cut l s t = subst (ArePartsOf t.parts) (sym t.at.content) t.cut

gathering_short : (l : LiveView) (s : GatheringStage) (t : Told l (Gathering s)) → length s.content ≤ most_gathered s.head
gathering_short l s t = subst (λ (g : List ℕ). length g ≤ most_gathered s.head) (sym t.at.content) t.at.short

pub gathering_told : (l : LiveView) (s : GatheringStage) (parts : List (List ℕ)) → ArePartsOf parts s.content → HasAsked l s.asked s.exchange (speaking (said s.exchange s.content)) [] → IsGathering s s.content → Told l (Gathering s)
gathering_told l s parts cut h at = record { given = s.content; parts = parts; cut = cut; request = h.request; talks = h.talks; aim = h.aim; at = at; bytes = h.bytes; times = h.times; stays = h.stays }

-- the first stage behind a head
pub gathers_head : (l : LiveView) (s : AskingStage) (head : Response) (content : List ℕ) → content ≡ [] → IsAnsweredAt l s head → IsGathered s.asked.request.head.method head
    → Leads l l 3 (Go (Gathering (record { asked = s.asked; exchange = s.exchange; head = head; content = content })))
gathers_head l s head content none h is = subst (λ (c : List ℕ). Leads l l 3 (Go (Gathering (record { asked = s.asked; exchange = s.exchange; head = head; content = c })))) (sym none) (record {
  moved = moved_same l;
  to = (
    gathering_told l (record { asked = s.asked; exchange = s.exchange; head = head; content = [] }) [] no_parts h.rows
        (record { reading = h.has.reading; has = record { given = h.has.head_is; gathered = is }; content = refl; short = omega arith }),
    omega arith,
  );
})

-- an end for want of memory
gathering_lost : (l : LiveView) (s : GatheringStage) (parts : List (List ℕ)) (given : List ℕ) (n : ℕ) (u : LiveView) → Moved u l → ArePartsOf parts given → HasAsked l s.asked s.exchange (hung (said s.exchange given)) []
    → (ended : Ended) → ended ≡ record { end = end.NoMemory; why = why.Nothing } → Leads u l n (End ended)
gathering_lost l s parts given n u moved cut h ended is = subst (λ (x : Ended). Leads u l n (End x)) (sym is) (record {
  moved = moved;
  to = record {
    stage = Gathering s;
    told = record {
      given = given;
      parts = parts;
      cut = cut;
      request = record { received = h.request.received; since = h.request.since; asks = record { used = h.request.received; unused = []; split = sym (append-nil h.request.received); asks = h.request.asks } };
      talks = h.talks;
      aim = h.aim;
      at = tt;
      bytes = ([], ([], refl), h.bytes);
      times = tt;
      stays = h.stays;
    };
    says = tt;
    why_is = refl;
  };
})

-- the talk was polled
module _ (v : LiveView) (l : LineView) (s : GatheringStage) (told : Told v (Gathering s)) (y : ExchangeView) (moved : MovedLine v.line l) (same : y.asked ≡ s.exchange.asked) (head : head_of y.place ≡ head_of s.exchange.place) where
  abbrev pub after_gather : GatheringStage
  after_gather = record { asked = s.asked; exchange = y; head = s.head; content = s.content }

  has_head : HasGatheredHead s.asked.request.head.method y s.head
  has_head = record { given = head ∙ told.at.has.given; gathered = told.at.has.gathered }

  at_again : rank y.place ≡ 4 → IsGathering after_gather s.content
  at_again four = record { reading = four; has = has_head; content = refl; short = gathering_short v s told }

  came : (part : List ℕ) → ((aims : List Aim) → LineRow v.line aims (speaking (said s.exchange s.content)) → LineRow l aims (speaking (said y (s.content ++ part)))) → HasAsked (with_line v l) s.asked y (speaking (said y (s.content ++ part))) []
  came part row = polled v l s.asked s.exchange y (speaking (said s.exchange s.content)) (speaking (said y (s.content ++ part))) [] moved same row (gathering_rows v s told)

  none_came : ((aims : List Aim) → LineRow v.line aims (speaking (said s.exchange s.content)) → LineRow l aims (speaking (said y (s.content ++ [])))) → HasAsked (with_line v l) s.asked y (speaking (said y s.content)) []
  none_came row = subst (λ (g : List ℕ). HasAsked (with_line v l) s.asked y (speaking (said y g)) []) (append-nil s.content) (came [] row)

  over_rows : (e : ExchangeLast) → IsOverBy e y.place → ((aims : List Aim) → LineRow v.line aims (speaking (said s.exchange s.content)) → LineRow l aims (speaking (said y (s.content ++ [])))) → HasAsked (with_line v l) s.asked y (hung (said y s.content)) []
  over_rows e over row = over_hung (with_line v l) s.asked y s.content [] (over_rank e y.place over) (none_came row)

  pub gather_part : (part : List ℕ) → 0 < length part → rank y.place ≡ 4 → ((aims : List Aim) → LineRow v.line aims (speaking (said s.exchange s.content)) → LineRow l aims (speaking (said y (s.content ++ part)))) → HasCome (with_line v l) after_gather part
  gather_part part some four row = record { parts = told.parts; cut = gathering_cut v s told; some = some; rows = came part row; at = at_again four }

  pub gather_all : IsOverBy last.End y.place → ((aims : List Aim) → LineRow v.line aims (speaking (said s.exchange s.content)) → LineRow l aims (speaking (said y (s.content ++ [])))) → HasComeAll (with_line v l) after_gather
  gather_all over row = record { parts = told.parts; cut = gathering_cut v s told; rows = over_rows last.End over row; over = over; has = has_head }

  pub gather_fault : (f : ExchangeFault) (w : Why) → w ≡ why_failed f → Gives s.exchange.place y.place v.line.dial l.dial (Fault f) → ((aims : List Aim) → LineRow v.line aims (speaking (said s.exchange s.content)) → LineRow l aims (speaking (said y (s.content ++ []))))
      → HasFailedAt (with_line v l) after_gather w
  gather_fault f w is g row = record {
    given = s.content;
    parts = told.parts;
    cut = gathering_cut v s told;
    rows = over_rows (last.Fault f) g.0 row;
    fails = subst (λ (x : Why). FailsBy l s.asked.request.head.method y s.content x) (sym is)
        (faulted v.line l s.asked.request.head.method s.exchange y f s.content (omega (arith, told.at.reading)) (inr (s.head, has_head)) moved told.stays.dials.faults g);
  }

  pub gather_waits : Gives s.exchange.place y.place v.line.dial l.dial NotReady → ((aims : List Aim) → LineRow v.line aims (speaking (said s.exchange s.content)) → LineRow l aims (speaking (said y (s.content ++ [])))) → Leads v (with_line v l) 2 (Wait (Gathering after_gather))
  gather_waits g row = record {
    moved = moved_line v l moved;
    to = (
      gathering_told (with_line v l) after_gather told.parts (gathering_cut v s told) (none_came row) (at_again (still_reads s.exchange y v.line.dial l.dial told.at.reading g)),
      waits (record { request = λ no. absurd no; talk = λ _. g.1; writes = λ some. absurd (some (none_waits v.wire told.bytes)); some = inr (inl tt) }),
    );
  }

  pub gather_wants : IsOverBy last.NoMemory y.place → ((aims : List Aim) → LineRow v.line aims (speaking (said s.exchange s.content)) → LineRow l aims (speaking (said y (s.content ++ [])))) → (ended : Ended) → ended ≡ record { end = end.NoMemory; why = why.Nothing }
      → Leads v (with_line v l) 2 (End ended)
  gather_wants over row ended is = gathering_lost (with_line v l) after_gather told.parts s.content 2 v (moved_line v l moved) (gathering_cut v s told) (over_rows last.NoMemory over row) ended is

-- a part has come
module _ (v : LiveView) (s : GatheringStage) (part : List ℕ) (h : HasCome v s part) where
  cut_more : ArePartsOf (h.parts ++ part ∷ []) (s.content ++ part)
  cut_more = more_parts h.parts s.content part h.cut h.some

  hung_rows : (l : LineView) → MovedLine v.line l → ((aims : List Aim) → LineRow v.line aims (speaking (said s.exchange (s.content ++ part))) → LineRow l aims (hung (said s.exchange (s.content ++ part))))
      → HasAsked (with_line v l) s.asked s.exchange (hung (said s.exchange (s.content ++ part))) []
  hung_rows l moved row = polled v l s.asked s.exchange s.exchange (speaking (said s.exchange (s.content ++ part))) (hung (said s.exchange (s.content ++ part))) [] moved refl row h.rows

  -- too much has
  pub too_long : (l : LineView) → MovedLine v.line l → ((aims : List Aim) → LineRow v.line aims (speaking (said s.exchange (s.content ++ part))) → LineRow l aims (hung (said s.exchange (s.content ++ part)))) → most_gathered s.head - length s.content < length part
      → HasFailedAt (with_line v l) s why.Origin
  too_long l moved row long = record {
    given = s.content ++ part;
    parts = h.parts ++ part ∷ [];
    cut = cut_more;
    rows = hung_rows l moved row;
    fails = inr (inl (record { head = s.head; reading = h.at.reading; has = h.at.has; long = let count : length (s.content ++ part) ≡ length s.content + length part = length-append s.content part in omega (arith, long, count) }));
  }

  -- it is kept
  pub keeps_part : (content : List ℕ) → content ≡ s.content ++ part → length s.content + length part ≤ most_gathered s.head
      → GathersOn v v (length s.content) (record { asked = s.asked; exchange = s.exchange; head = s.head; content = content })
  keeps_part content is short = subst (λ (c : List ℕ). GathersOn v v (length s.content) (record { asked = s.asked; exchange = s.exchange; head = s.head; content = c })) (sym is) (record {
    moved = moved_same v;
    told = gathering_told v (record { asked = s.asked; exchange = s.exchange; head = s.head; content = s.content ++ part }) (h.parts ++ part ∷ []) cut_more h.rows
        (record { reading = h.at.reading; has = h.at.has; content = refl; short = subst (λ (n : ℕ). n ≤ most_gathered s.head) (sym (length-append s.content part)) short });
    more = let count : length (s.content ++ part) ≡ length s.content + length part = length-append s.content part in let some = h.some in omega (arith, some, count);
  })

  pub unkept : (l : LineView) → MovedLine v.line l → ((aims : List Aim) → LineRow v.line aims (speaking (said s.exchange (s.content ++ part))) → LineRow l aims (hung (said s.exchange (s.content ++ part))))
      → (ended : Ended) → ended ≡ record { end = end.NoMemory; why = why.Nothing } → Leads v (with_line v l) 2 (End ended)
  unkept l moved row ended is = gathering_lost (with_line v l) s (h.parts ++ part ∷ []) (s.content ++ part) 2 v (moved_line v l moved) cut_more (hung_rows l moved row) ended is

-- parts one after another

pub gathers_from : (u v w : LiveView) (count : ℕ) (g : Gathered) → Moved u v → GathersTo v w count g → GathersTo u w count g
gathers_from u v w count (gathered.More stage) m h = record { moved = moved_again u v w m h.moved; told = h.told; more = h.more }
gathers_from u v w count (gathered.Next next) m h = leads_from u v w 2 2 next m (omega arith) h

pub gathers_live : (v x w : LiveView) (count : ℕ) (g : Gathered) → v ≡ x → GathersTo v w count g → GathersTo x w count g
gathers_live v x w count g e h = subst (λ (y : LiveView). GathersTo y w count g) e h

pub gathers_is : (v w : LiveView) (count : ℕ) (a b : Gathered) → a ≡ b → GathersTo v w count b → GathersTo v w count a
gathers_is v w count a b e h = subst (GathersTo v w count) (sym e) h

pub gathers_at : (v w x : LiveView) (count : ℕ) (g : Gathered) → x ≡ w → GathersTo v w count g → GathersTo v x count g
gathers_at v w x count g e h = subst (λ (y : LiveView). GathersTo v y count g) (sym e) h

-- the content is never longer than this
pub most_less : (head : Response) → most_gathered head ≤ 524288
most_less head = by_type (has_type head.fields)
  where
    by_type : (b : Bool) → (if b then 524288 else 262144) ≤ 524288
    by_type true = omega arith
    by_type false = omega arith

pub gathered_less : (l : LiveView) (s : GatheringStage) → Told l (Gathering s) → length s.content ≤ 524288
gathered_less l s t = let short = gathering_short l s t in let most = most_less s.head in omega (arith, short, most)

-- the whole content was read

module _ (v : LiveView) (s : GatheringStage) (h : HasComeAll v s) where
  abbrev pub as_asking : AskingStage
  as_asking = record { asked = s.asked; exchange = s.exchange }

  pub read_whole : (answer : Answer) → IsAnswer s.head s.content answer → IsAnsweredWith v as_asking answer
  read_whole answer read = record { head = s.head; content = s.content; parts = h.parts; cut = h.cut; rows = h.rows; over = h.over; has = h.has; read = read }

  pub read_refused : IsAnswerRefused s.head s.content → IsFailedAt v as_asking why.Instruct
  read_refused refused = record { given = s.content; parts = h.parts; cut = h.cut; rows = h.rows; fails = inr (record { head = s.head; has = h.has; over = h.over; refused = refused }) }

  pub read_lost : (ended : Ended) → ended ≡ record { end = end.NoMemory; why = why.Nothing } → Leads v v 2 (End ended)
  read_lost ended is = gathering_lost v s h.parts s.content 2 v (moved_same v) h.cut h.rows ended is

module _ (v : LiveView) (s : AskingStage) (answer : Answer) (h : IsAnsweredWith v s answer) where
  pub long_opening : IsWish answer LongStream ⊎ IsWish answer LongPoll → IsFailedAt v s why.Origin
  long_opening wish = record { given = h.content; parts = h.parts; cut = h.cut; rows = h.rows; fails = inr (inr (record { head = h.head; has = h.has; over = h.over; answer = answer; read = h.read; wish = wish })) }

  pub answer_lost : (ended : Ended) → ended ≡ record { end = end.NoMemory; why = why.Nothing } → Leads v v 2 (End ended)
  answer_lost ended is =
      gathering_lost v (record { asked = s.asked; exchange = s.exchange; head = h.head; content = h.content }) h.parts h.content 2 v (moved_same v) h.cut h.rows ended is

-- the response that an answer carries was put, or couldn't be
module _ (v : LiveView) (s : AskingStage) (answer : Answer) (h : IsAnsweredWith v s answer) (w : WireView) (start : w.start ≡ v.wire.start) (link : w.link ≡ v.wire.link) where
  pub gives_answer : w.rest ≡ v.wire.rest ++ given_text answer → IsWish answer Whole → (t : GivingStage) → t.asked.value ≡ s.asked → t.exchange.value ≡ s.exchange → t.answer.value ≡ answer → t.code ≡ code_given answer
      → Leads v (with_wire v w) 2 (Go (Giving t))
  gives_answer rest wish t asked exchange is code =
      let put = put_on v w start link s.asked s.exchange (hung (said s.exchange h.content)) [] h.rows (given_text answer) rest in
      let r1 = subst (λ (a : Asked). HasAsked (with_wire v w) a s.exchange (hung (said s.exchange h.content)) (given_text answer)) (sym asked) put in
      let r2 = subst (λ (x : ExchangeView). HasAsked (with_wire v w) t.asked.value x (hung (said x h.content)) (given_text answer)) (sym exchange) r1 in
      let r = subst (λ (a : Answer). HasAsked (with_wire v w) t.asked.value t.exchange.value (hung (said t.exchange.value h.content)) (given_text a)) (sym is) r2 in
      record {
        moved = moved_by_put v w (given_text answer) start link rest;
        to = (
          record {
            given = h.content;
            parts = h.parts;
            cut = h.cut;
            request = r.request;
            talks = r.talks;
            aim = r.aim;
            at = record {
              head = h.head;
              has = subst (λ (x : ExchangeView). HasGatheredHead t.asked.value.request.head.method x h.head) (sym exchange) (subst (λ (a : Asked). HasGatheredHead a.request.head.method s.exchange h.head) (sym asked) h.has);
              over = subst (λ (x : ExchangeView). IsOverBy last.End x.place) (sym exchange) h.over;
              read = subst (IsAnswer h.head h.content) (sym is) h.read;
              wish = subst (λ (a : Answer). IsWish a Whole) (sym is) wish;
              code = code ∙ ap code_given (sym is);
            };
            bytes = r.bytes;
            times = r.times;
            stays = r.stays;
          },
          omega arith,
        );
      }

  pub gives_not : w.rest ≡ v.wire.rest → (ended : Ended) → ended ≡ record { end = end.NoMemory; why = why.Nothing } → Leads v (with_wire v w) 2 (End ended)
  gives_not rest ended is = gathering_lost (with_wire v w) (record { asked = s.asked; exchange = s.exchange; head = h.head; content = h.content }) h.parts h.content 2 v (moved_unput v w start link rest) h.cut
      (put_none v w start link s.asked s.exchange (hung (said s.exchange h.content)) [] h.rows rest) ended is

pub put_both : (bytes head body h b : List ℕ) → bytes ≡ head → head ≡ h → body ≡ b → bytes ++ (body ++ []) ≡ h ++ b
put_both bytes head body h b same is e = ap (λ (x : List ℕ). bytes ++ x) (append-nil body ∙ e) ∙ ap (λ (x : List ℕ). x ++ b) (same ∙ is)

pub lt_by : (a b : ℕ) → nat_lt a b ≡ true → a < b
lt_by a b e = grind (arith, nat_tests, e)

pub fits_in : (most count more : ℕ) → count ≤ most → nat_lt (most - count) more ≡ false → count + more ≤ most
fits_in most count more le e = grind (arith, nat_tests, le, e)

-- a hold that was read is one that may be attached

counted_by : (typed : Bool) (head : Response) (content : List ℕ) (answer : Answer) (instruct : Instruct) → IsAnswerBy typed head content answer → answer.instruct ≡ Some instruct → IsCounted instruct
counted_by true head content answer instruct read is = by_instruct answer.instruct is read
  where
    by_instruct : (o : Option Instruct) → o ≡ Some instruct → IsBodyAnswer head content o answer.head answer.body → IsCounted instruct
    by_instruct None e b = let no : ⊥ = cc in absurd no
    by_instruct (Some i) e b = let same : i ≡ instruct = cc in subst IsCounted same (record { asked = asked_in b.held; subs = b.parts.subs; count = b.parts.count })
counted_by false head content answer instruct read is =
    let has : IsInstruct head.fields (Some instruct) = subst (IsInstruct head.fields) is read.instruct in record { asked = asked_by head.fields; subs = has.1.subs; count = has.1.count }

fits_by : (o : Option Instruct) (body : List ℕ) (now : ℕ) (held : HoldSpec) → ((instruct : Instruct) → o ≡ Some instruct → IsCounted instruct) → length body ≤ 262144 → hold_by o body now ≡ Some held → fits (Attach held) ≡ true
fits_by None body now held counted short is = let no : ⊥ = cc in absurd no
fits_by (Some instruct) body now held counted short is = spec_law_holds instruct body now false held (counted instruct refl) short is

-- what is asked for is attached

pub counted_in : (head : Response) (content : List ℕ) (answer : Answer) → IsAnswer head content answer → IsCountedIn answer.instruct
counted_in head content answer read = by_instruct answer.instruct refl
  where
    by_instruct : (o : Option Instruct) → answer.instruct ≡ o → IsCountedIn o
    by_instruct None e = tt
    by_instruct (Some instruct) e = counted_by (has_type head.fields) head content answer instruct read e

heard_serves : (rules : List Rule) (asked : Asked) (n : ℕ) (received : List ℕ) → HeardAs n (IsServed rules asked.request asked.address) received → BeginsWith (IsServed rules asked.request asked.address) received
heard_serves rules asked zero received h = record { used = received; unused = []; split = sym (append-nil received); is = h }
heard_serves rules asked (suc n) received h = h

abbrev heard_first : (v : LiveView) (s : AskingStage) (answer : Answer) → IsAnsweredWith v s answer → Heard v s.asked s.exchange answer
heard_first v s answer h = record {
  content = h.content;
  turns = h.rows.talks.turns;
  request = record { received = h.rows.request.received; since = h.rows.request.since; asks = heard_serves v.charter.rules s.asked s.asked.repeats h.rows.request.received h.rows.request.asks };
  aim = h.rows.aim;
  behind = h.rows.talks.behind;
  held = h.rows.talks.held;
  told = ([], append-nil (reports_before h.rows.talks.turns) ∙ sym h.rows.talks.told);
  answers = record { head = h.head; head_is = h.has.given; gathered = h.has.gathered; over = h.over; read = h.read };
  calls = h.rows.times.calls;
  times = h.rows.times.row;
  seat = h.rows.stays.seat;
  links = h.rows.stays.links;
  dials = h.rows.stays.dials;
}

aims_begun : (aims : List Aim) (x : ExchangeView) (given : List ℕ) → rank x.place ≡ 5 → begun_with aims (said x given) ≡ aims ++ aim_of (said x given) ∷ []
aims_begun aims x given five = ap (λ (n : ℕ). more_if n aims (aim_of (said x given))) five

-- there were no talks but this and those before
alone_first : (v : LiveView) (s : AskingStage) (answer : Answer) (h : IsAnsweredWith v s answer) → IsAlone v s.asked s.exchange answer (heard_first v s answer h)
alone_first v s answer h = λ idle_is.
    subst (λ (all : List Aim). LineRow v.line all idle) (aims_begun (aims_of h.rows.talks.turns) s.exchange h.content (over_rank _ s.exchange.place h.over))
    (ended v.line (aims_of h.rows.talks.turns) (said s.exchange h.content) (h.rows.talks.talks idle_is))

-- the request that was answered can be asked again
pub askable_answered : ForwardLaw → (v : LiveView) (s : AskingStage) (answer : Answer) → IsAnsweredWith v s answer → IsAskable s.asked
askable_answered law v s answer h =
    let b : BeginsWith (IsServed v.charter.rules s.asked.request s.asked.address) h.rows.request.received = heard_serves v.charter.rules s.asked s.asked.repeats h.rows.request.received h.rows.request.asks in
    askable law v.charter.rules b.used s.asked b.is

-- what contracts remember of an answer
module _ (v : LiveView) (s : AskingStage) (answer : Answer) (h : IsAnsweredWith v s answer) (asked : Asked) (x : ExchangeView) (given : Answer) (asked_is : asked ≡ s.asked) (exchange_is : x ≡ s.exchange) (answer_is : given ≡ answer) where
  as_given : (P : Asked → ExchangeView → Answer → Type 0) → P s.asked s.exchange answer → P asked x given
  as_given P p = subst (λ (a : Answer). P asked x a) (sym answer_is) (subst (λ (y : ExchangeView). P asked y answer) (sym exchange_is) (subst (λ (a : Asked). P a s.exchange answer) (sym asked_is) p))

  -- the rows, and what no hold was made for yet
  heard_with : (h : Heard v asked x given) × IsAlone v asked x given h × IsUnattached v h.turns
  heard_with = as_given (λ a y z. (h : Heard v a y z) × IsAlone v a y z h × IsUnattached v h.turns)
      (heard_first v s answer h, alone_first v s answer h, record { entries = h.rows.talks.entries; attaches = h.rows.talks.attaches; holds = h.rows.talks.holds; bytes = h.rows.bytes })

pub holds_answer : (v : LiveView) (s : AskingStage) (answer : Answer) → IsAnsweredWith v s answer → IsWish answer Stream → (a : AttachingStage) → IsPrepared s.asked s.exchange answer a → Leads v v 2 (Hold (Attaching a))
holds_answer v s answer h wish a p =
    let g = a.grant in
    let given : (P : Asked → ExchangeView → Answer → Type 0) → P s.asked s.exchange answer → P g.asked.value g.exchange.value g.answer.value = as_given v s answer h g.asked.value g.exchange.value g.answer.value p.grant.asked_is p.grant.exchange_is p.grant.answer_is in
    let rows = heard_with v s answer h g.asked.value g.exchange.value g.answer.value p.grant.asked_is p.grant.exchange_is p.grant.answer_is in
    record {
      moved = moved_same v;
      to = (
        record {
          rows = record {
            heard = rows.0;
            is = record {
              wish = given (λ x y z. IsWish z Stream) wish;
              code = given (λ x y z. g.code ≡ code_by z.head (status_of z.instruct)) p.grant.code;
              chunked = given (λ x y z. g.chunked ≡ in_chunks (streamed x.request.head.version)) p.grant.chunked;
            };
          };
          alone = rows.1;
          is = rows.2;
          served = h.rows.stays.served;
          spec_is = given (λ x y z. IsHoldOf z x.moment a.spec) p.spec_is;
          fit = fits_by answer.instruct answer.body s.asked.moment a.spec (λ instruct e. counted_by (has_type h.head.fields) h.head h.content answer instruct h.read e) wish.1 p.spec_is;
          head = given (λ x y z. a.head ≡ stream_head_by z x.request.head.version) p.head;
          again = given (λ x y z. a.again ≡ source_at x (link_of z.instruct) a.spec) p.again;
        },
        tt,
      );
    }

pub polls_answer : (v : LiveView) (s : AskingStage) (answer : Answer) → IsAnsweredWith v s answer → IsWish answer Poll → (b : BeginningStage) → IsPosed s.asked s.exchange answer b → Leads v v 2 (Hold (Beginning b))
polls_answer v s answer h wish b p =
    let q = b.poll in
    let given : (P : Asked → ExchangeView → Answer → Type 0) → P s.asked s.exchange answer → P q.asked.value q.exchange.value q.answer.value = as_given v s answer h q.asked.value q.exchange.value q.answer.value p.asked_is p.exchange_is p.answer_is in
    let rows = heard_with v s answer h q.asked.value q.exchange.value q.answer.value p.asked_is p.exchange_is p.answer_is in
    record {
      moved = moved_same v;
      to = (
        record {
          rows = record { heard = rows.0; talks = rows.1; wish = given (λ x y z. IsWish z Poll) wish };
          is = rows.2;
          served = h.rows.stays.served;
          opens = given (λ x y z. IsOpeningOf z x.repeats b.opening) p.opens;
          again = given (λ x y z. b.again ≡ kept_for x (may_repeat b.opening.channel b.opening.repeats)) p.again;
        },
        tt,
      );
    }

few_behind : (c : Charter) (turns : List Turn) (asked : Asked) → Behind c turns asked → asked.repeats ≤ most_repeats
few_behind c turns asked (asked_first a never item) = subst (λ (n : ℕ). n ≤ most_repeats) (sym never) (omega arith)
few_behind c turns asked (asked_again before turn a behind is on) = on.few

-- a request isn't repeated more often than it may be
pub few_repeats : (v : LiveView) (s : AskingStage) (answer : Answer) → IsAnsweredWith v s answer → s.asked.repeats ≤ most_repeats
few_repeats v s answer h = few_behind v.charter h.rows.talks.turns s.asked h.rows.talks.behind
