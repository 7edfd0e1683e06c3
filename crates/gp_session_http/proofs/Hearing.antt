-- What reading a request does to the rows of a session.
use Rattle.std.proofs.Common.{◌≡◌, ℕ, List, [], ◌∷◌, ◌++◌, refl, sym, ap, ◌∙◌, subst, arith, inl, inr, ◌⊎◌}
use Rattle.gp_plain.specs.declared.http.Address.{Address}
use Rattle.gp_plain.specs.declared.http.Request.{Request}
use Rattle.gp_outside.specs.Counts.{Rose}
use Rattle.gp_outside.specs.Links.{LinkTells}
use Rattle.gp_hub.specs.declared.outcome.SessionEnd.TheVariants as end
use Rattle.gp_hub.specs.declared.outcome.Why.TheVariants as why
use Rattle.gp_routes.specs.declared.route.Rule.{Rule}
use Rattle.gp_routes.specs.declared.route.Route.{Route}
use Rattle.gp_intake.specs.declared.fault.RequestFault.{RequestFault}
use Rattle.gp_intake.specs.declared.fault.RequestFault.TheVariants.{HeadTooLarge, Head, Target, Host, Plan, Chunk, TooLong}
use Rattle.gp_intake.specs.declared.body.Whole.{Whole}
use Rattle.gp_intake.specs.Bodies.{IsOpen}
use Rattle.gp_intake.specs.Heads.{IsBegun}
use Rattle.gp_intake.specs.Requests.{HeadedView, IsHeaded, IsUnderway, IsWhole, IsHeadRefusedBy, IsBodyRefusedBy}
use Rattle.gp_intake.specs.Polls.{Hears, IsGone, IsStillUnderway, UsedHead, UsedBody}
use Rattle.gp_session.specs.Wires.{WireView, RequestRow, BytesRow, exactly, Sent}
use Rattle.gp_session.proofs.Moving.{rose_since, request_more, request_same, sent_same, sent_put, moved_heard, later_put}
use Rattle.gp_session_http.specs.declared.cause.Cause.{Cause}
use Rattle.gp_session_http.specs.declared.cause.Cause.TheVariants as cause
use Rattle.gp_session_http.specs.declared.stage.Stage.TheVariants.{ReadingHead, ReadingBody, Refusing}
use Rattle.gp_session_http.specs.declared.stage.Ended.{Ended}
use Rattle.gp_session_http.specs.declared.stage.Next.TheVariants.{Go, Wait, End}
use Rattle.gp_session_http.specs.declared.reading_head.ReadingHead.{ReadingHead as HeadStage}
use Rattle.gp_session_http.specs.declared.reading_body.ReadingBody.{ReadingBody as BodyStage}
use Rattle.gp_session_http.specs.declared.refusing.Refusing.{Refusing as RefusingStage}
use Rattle.gp_session_http.specs.Routing.{IsRoutedTo, IsRouted, IsUnrouted, IsServed, IsRefusedFor, refusal_of, refusal_text, why_of}
use Rattle.gp_session_http.specs.Views.{LiveView, Moved}
use Rattle.gp_session_http.specs.Trace.{Asks, text_of, Stays, Told}
use Rattle.gp_session_http.specs.Moves.{waits, Used, Leads, IsUnanswered, MayRefuse}
use Rattle.gp_session_http.proofs.Rows.{with_wire, moved_over, moved_by_put, moved_unput, stays_wire, no_parts, request_used}

pub unanswered_as : (l : LiveView) (P Q : List ℕ → Type 0) → IsUnanswered l P → ((received : List ℕ) → P received → Q received) → IsUnanswered l Q
unanswered_as l P Q u on = record { request = request_same l.wire l.wire P Q u.request refl refl on; talks = u.talks; bytes = u.bytes; times = u.times; stays = u.stays }

-- bytes were heard before an answer

module _ (v : LiveView) (w : WireView) (more : List ℕ) (start : w.start ≡ v.wire.start) (rest : w.rest ≡ v.wire.rest) (hears : Hears v.wire.link w.link more) where
  pub heard_moved : Moved v (with_wire v w)
  heard_moved = moved_over v w (moved_heard v.wire w more start rest hears)

  pub heard : (P Q : List ℕ → Type 0) → IsUnanswered v P → ((received : List ℕ) → P received → Q (received ++ more)) → IsUnanswered (with_wire v w) Q
  heard P Q u on = record {
    request = request_more v.wire w P Q more u.request start hears on;
    talks = u.talks;
    bytes = sent_same v.wire w [] u.bytes start hears.sent rest;
    times = u.times;
    stays = stays_wire v w start hears.later u.stays;
  }

  pub gone_since : Stays v → IsGone v.wire.link w.link → Rose w.start.faults w.link.faults ⊎ Rose w.start.ends w.link.ends
  gone_since s (inl ends) = inr (rose_since v.wire w (λ (t : LinkTells). t.ends) start s.links.ends ends)
  gone_since s (inr faults) = inl (rose_since v.wire w (λ (t : LinkTells). t.faults) start s.links.faults faults)

-- a stage that reads
pub unanswered_head : (l : LiveView) (s : HeadStage) → Told l (ReadingHead s) → IsUnanswered l (Asks l.charter (ReadingHead s))
unanswered_head l s t = record { request = t.request; talks = t.talks; bytes = t.bytes; times = t.times; stays = t.stays }

pub unanswered_body : (l : LiveView) (s : BodyStage) → Told l (ReadingBody s) → IsUnanswered l (Asks l.charter (ReadingBody s))
unanswered_body l s t = record { request = t.request; talks = t.talks; bytes = t.bytes; times = t.times; stays = t.stays }

pub told_head : (l : LiveView) (s : HeadStage) → IsUnanswered l (Asks l.charter (ReadingHead s)) → Told l (ReadingHead s)
told_head l s u = record { given = []; parts = []; cut = no_parts; request = u.request; talks = u.talks; aim = tt; at = tt; bytes = u.bytes; times = u.times; stays = u.stays }

pub told_body : (l : LiveView) (s : BodyStage) → IsUnanswered l (Asks l.charter (ReadingBody s)) → Told l (ReadingBody s)
told_body l s u = record { given = []; parts = []; cut = no_parts; request = u.request; talks = u.talks; aim = tt; at = tt; bytes = u.bytes; times = u.times; stays = u.stays }

-- where a request goes

pub refused_route : (rules : List Rule) (v : HeadedView) (c : Cause) (received : List ℕ) → IsUnrouted rules v.head v.path c → IsHeaded v received → IsRefusedFor rules c v.head.method received
refused_route rules v (cause.Request fault) received un h = absurd un
refused_route rules v cause.Route received un h = record { v = v; headed = h; unrouted = un; method_is = refl }
refused_route rules v cause.Upgrade received un h = record { v = v; headed = h; unrouted = un; method_is = refl }

pub routed_to : (rules : List Rule) (head : Request) (path : List ℕ) (route : Route) (address : Address) → IsRoutedTo rules head path route → address ≡ route.address → IsRouted rules head path address
routed_to rules head path route address is same = record { route = route; is = is; address_is = same }

pub refused_at_head : (rules : List Rule) (fault : RequestFault) (method received : List ℕ) → IsHeadRefusedBy received fault method → IsRefusedFor rules (cause.Request fault) method received
refused_at_head rules HeadTooLarge method received h = h
refused_at_head rules Head method received h = h
refused_at_head rules Target method received h = h
refused_at_head rules Host method received h = h
refused_at_head rules (Plan fault) method received h = h
refused_at_head rules (Chunk place) method received h = absurd h
refused_at_head rules TooLong method received h = absurd h

pub refused_at_body : (rules : List Rule) (head : Request) (path : List ℕ) (address : Address) (fault : RequestFault) (method received : List ℕ) → IsRouted rules head path address → IsBodyRefusedBy head path received fault method
    → IsRefusedFor rules (cause.Request fault) method received
refused_at_body rules head path address HeadTooLarge method received r h = absurd h
refused_at_body rules head path address Head method received r h = absurd h
refused_at_body rules head path address Target method received r h = absurd h
refused_at_body rules head path address Host method received r h = absurd h
refused_at_body rules head path address (Plan fault) method received r h = absurd h
refused_at_body rules head path address (Chunk place) method received r h = record { head = head; path = path; address = address; routed = r; refused = h }
refused_at_body rules head path address TooLong method received r h = record { head = head; path = path; address = address; routed = r; refused = h }

-- what is known of all bytes behind those of a head that has begun
pub on_head : (l : LiveView) (s : HeadStage) (more : List ℕ) (Q : List ℕ → Type 0) → Q (s.intake ++ more) → (received : List ℕ) → Asks l.charter (ReadingHead s) received → Q (received ++ more)
on_head l s more Q q received asks = subst (λ (xs : List ℕ). Q (xs ++ more)) (sym asks.0) q

-- an end while the request is read
module _ (l : LiveView) (s : HeadStage) (n : ℕ) (u : LiveView) (moved : Moved u l) where
  pub head_no_memory_end : IsUnanswered l (Used l.charter (ReadingHead s)) → (ended : Ended) → ended ≡ record { end = end.NoMemory; why = why.Nothing } → Leads u l n (End ended)
  head_no_memory_end h ended is = subst (λ (x : Ended). Leads u l n (End x)) (sym is) (record {
    moved = moved;
    to = record {
      stage = ReadingHead s;
      told = record { given = []; parts = []; cut = no_parts; request = h.request; talks = h.talks; aim = tt; at = tt; bytes = ([], ([], refl), h.bytes); times = tt; stays = h.stays };
      says = tt;
      why_is = refl;
    };
  })

  pub head_gone_end : Told l (ReadingHead s) → Rose l.wire.start.faults l.wire.link.faults ⊎ Rose l.wire.start.ends l.wire.link.ends → (ended : Ended) → ended ≡ record { end = end.ClientGone; why = why.Nothing } → Leads u l n (End ended)
  head_gone_end t gone ended is = subst (λ (x : Ended). Leads u l n (End x)) (sym is) (record {
    moved = moved;
    to = record {
      stage = ReadingHead s;
      told = record { given = t.given; parts = t.parts; cut = t.cut; request = t.request; talks = t.talks; aim = tt; at = tt; bytes = t.bytes; times = t.times; stays = t.stays };
      says = elim gone [ inl f ↦ inl f | inr e ↦ inr (e, tt, tt) ];
      why_is = refl;
    };
  })

module _ (l : LiveView) (s : BodyStage) (n : ℕ) (u : LiveView) (moved : Moved u l) where
  pub body_no_memory_end : IsUnanswered l (Used l.charter (ReadingBody s)) → (ended : Ended) → ended ≡ record { end = end.NoMemory; why = why.Nothing } → Leads u l n (End ended)
  body_no_memory_end h ended is = subst (λ (x : Ended). Leads u l n (End x)) (sym is) (record {
    moved = moved;
    to = record {
      stage = ReadingBody s;
      told = record { given = []; parts = []; cut = no_parts; request = h.request; talks = h.talks; aim = tt; at = tt; bytes = ([], ([], refl), h.bytes); times = tt; stays = h.stays };
      says = tt;
      why_is = refl;
    };
  })

  pub body_gone_end : Told l (ReadingBody s) → IsOpen s.intake.body.reading → Rose l.wire.start.faults l.wire.link.faults ⊎ Rose l.wire.start.ends l.wire.link.ends → (ended : Ended) → ended ≡ record { end = end.ClientGone; why = why.Nothing } → Leads u l n (End ended)
  body_gone_end t open_is gone ended is = subst (λ (x : Ended). Leads u l n (End x)) (sym is) (record {
    moved = moved;
    to = record {
      stage = ReadingBody s;
      told = record { given = t.given; parts = t.parts; cut = t.cut; request = t.request; talks = t.talks; aim = tt; at = tt; bytes = t.bytes; times = t.times; stays = t.stays };
      says = elim gone [ inl f ↦ inl f | inr e ↦ inr (e, tt, open_is) ];
      why_is = refl;
    };
  })

-- where nothing was said yet, nothing waits
append_none : (xs ys : List ℕ) → xs ++ ys ≡ [] → ys ≡ []
append_none [] ys e = e
append_none (x ∷ xs) ys e = let no : ⊥ = cc in absurd no

pub none_waits : (w : WireView) → BytesRow w (exactly []) → w.rest ≡ []
none_waits w bytes = append_none bytes.sent w.rest bytes.whole

-- a poll of the head

module _ (v : LiveView) (s : HeadStage) (told : Told v (ReadingHead s)) (w : WireView) (start : w.start ≡ v.wire.start) (rest : w.rest ≡ v.wire.rest) (more : List ℕ) (hears : Hears v.wire.link w.link more) where
  pub head_at : (Q : List ℕ → Type 0) → Q (s.intake ++ more) → IsUnanswered (with_wire v w) Q
  head_at Q q = heard v w more start rest hears (Asks v.charter (ReadingHead s)) Q (unanswered_head v s told) (on_head v s more Q q)

  pub head_waits : (t : HeadStage) → t.intake ≡ s.intake ++ more → IsBegun (s.intake ++ more) → Rose v.wire.link.read_waits w.link.read_waits → Leads v (with_wire v w) 5 (Wait (ReadingHead t))
  head_waits t e begun rose =
      let u = head_at (Asks v.charter (ReadingHead t)) (sym e, begun) in
      record {
        moved = heard_moved v w more start rest hears;
        to = (
          told_head (with_wire v w) t u,
          waits (record { request = λ reads. (tt, rose); talk = λ no. absurd no; writes = λ some. absurd (some (none_waits w u.bytes)); some = inl tt }),
        );
      }

  pub head_gone : IsBegun (s.intake ++ more) → IsGone v.wire.link w.link → (ended : Ended) → ended ≡ record { end = end.ClientGone; why = why.Nothing } → Leads v (with_wire v w) 5 (End ended)
  head_gone begun gone ended is =
      let t : HeadStage = record { intake = s.intake ++ more } in
      head_gone_end (with_wire v w) t 5 v (heard_moved v w more start rest hears) (told_head (with_wire v w) t (head_at (Asks v.charter (ReadingHead t)) (refl, begun)))
      (gone_since v w more start rest hears told.stays gone) ended is

  pub head_no_memory : UsedHead (s.intake ++ more) → (ended : Ended) → ended ≡ record { end = end.NoMemory; why = why.Nothing } → Leads v (with_wire v w) 5 (End ended)
  head_no_memory used ended is =
      let t : HeadStage = record { intake = used.used } in
      head_no_memory_end (with_wire v w) t 5 v (heard_moved v w more start rest hears)
      (head_at (Used v.charter (ReadingHead t)) (record { used = used.used; unused = used.unused; split = used.split; asks = (refl, used.begun) })) ended is

-- a poll of the body

module _ (v : LiveView) (s : BodyStage) (told : Told v (ReadingBody s)) (w : WireView) (start : w.start ≡ v.wire.start) (rest : w.rest ≡ v.wire.rest) (more : List ℕ) (hears : Hears v.wire.link w.link more) where
  abbrev pub came : List ℕ
  came = told.request.received

  known : IsUnanswered v (λ xs. xs ≡ came)
  known = record { request = record { received = came; since = told.request.since; asks = refl }; talks = told.talks; bytes = told.bytes; times = told.times; stays = told.stays }

  pub body_at : (Q : List ℕ → Type 0) → Q (came ++ more) → IsUnanswered (with_wire v w) Q
  body_at Q q = heard v w more start rest hears (λ xs. xs ≡ came) Q known (λ received is. subst (λ (xs : List ℕ). Q (xs ++ more)) (sym is) q)

  is_routed : (head : Request) (path : List ℕ) → head ≡ s.intake.head → path ≡ s.intake.path → IsRouted v.charter.rules head path s.address
  is_routed head path h p = subst (λ (r : Request). IsRouted v.charter.rules r path s.address) (sym h) (subst (λ (xs : List ℕ). IsRouted v.charter.rules s.intake.head xs s.address) (sym p) told.request.asks.1)

  pub whole_at : (whole : Whole) → IsWhole whole (came ++ more) × (whole.head ≡ s.intake.head) × (whole.path ≡ s.intake.path) → IsUnanswered (with_wire v w) (IsServed v.charter.rules whole s.address)
  whole_at whole h = body_at (IsServed v.charter.rules whole s.address) (record { whole = h.0; routed = is_routed whole.head whole.path h.1 h.2 })

  pub body_refused_at : (fault : RequestFault) (method : List ℕ) → IsBodyRefusedBy s.intake.head s.intake.path (came ++ more) fault method → IsUnanswered (with_wire v w) (IsRefusedFor v.charter.rules (cause.Request fault) method)
  body_refused_at fault method h = body_at (IsRefusedFor v.charter.rules (cause.Request fault) method) (refused_at_body v.charter.rules s.intake.head s.intake.path s.address fault method (came ++ more) told.request.asks.1 h)

  pub body_waits : (t : BodyStage) → t.address ≡ s.address → IsUnderway t.intake (came ++ more) × (t.intake.head ≡ s.intake.head) × (t.intake.path ≡ s.intake.path) × Rose v.wire.link.read_waits w.link.read_waits
      → Leads v (with_wire v w) 4 (Wait (ReadingBody t))
  body_waits t same h =
      let u = body_at (Asks v.charter (ReadingBody t)) (h.0.headed, subst (λ (a : Address). IsRouted v.charter.rules t.intake.head t.intake.path a) (sym same) (is_routed t.intake.head t.intake.path h.1 h.2)) in
      record {
        moved = heard_moved v w more start rest hears;
        to = (
          told_body (with_wire v w) t u,
          waits (record { request = λ reads. (h.0.more, h.3); talk = λ no. absurd no; writes = λ some. absurd (some (none_waits w u.bytes)); some = inl tt }),
        );
      }

  pub body_gone : IsStillUnderway s.intake (came ++ more) × IsGone v.wire.link w.link → (ended : Ended) → ended ≡ record { end = end.ClientGone; why = why.Nothing } → Leads v (with_wire v w) 4 (End ended)
  body_gone h ended is =
      let t : BodyStage = record { intake = h.0.w; address = s.address } in
      body_gone_end (with_wire v w) t 4 v (heard_moved v w more start rest hears)
      (told_body (with_wire v w) t (body_at (Asks v.charter (ReadingBody t)) (h.0.underway.headed, is_routed h.0.w.head h.0.w.path h.0.head_is h.0.path_is))) h.0.underway.more
      (gone_since v w more start rest hears told.stays h.1) ended is

  pub body_no_memory : UsedBody s.intake (came ++ more) → (ended : Ended) → ended ≡ record { end = end.NoMemory; why = why.Nothing } → Leads v (with_wire v w) 4 (End ended)
  body_no_memory used ended is =
      let still = used.still in
      let t : BodyStage = record { intake = still.w; address = s.address } in
      body_no_memory_end (with_wire v w) t 4 v (heard_moved v w more start rest hears)
      (body_at (Used v.charter (ReadingBody t)) (record { used = used.used; unused = used.unused; split = used.split; asks = (still.underway.headed, is_routed still.w.head still.w.path still.head_is still.path_is) })) ended is

-- a refusal

module _ (v : LiveView) (w : WireView) (c : Cause) (method : List ℕ) (m : MayRefuse v c method) (s : RefusingStage) (cause_is : s.cause ≡ c) (method_is : s.method.value ≡ method)
    (start : w.start ≡ v.wire.start) (link : w.link ≡ v.wire.link) where
  asks : (received : List ℕ) → IsRefusedFor v.charter.rules c method received → Asks v.charter (Refusing s) received
  asks received h = subst (λ (xs : List ℕ). IsRefusedFor v.charter.rules s.cause xs received) (sym method_is) (subst (λ (x : Cause). IsRefusedFor v.charter.rules x method received) (sym cause_is) h)

  row : RequestRow w (Asks v.charter (Refusing s))
  row = request_same v.wire w (IsRefusedFor v.charter.rules c method) (Asks v.charter (Refusing s)) m.request start (ap (λ (t : LinkTells). t.received) link) asks

  text : refusal_text (refusal_of c) method ≡ text_of (Refusing s) []
  text = ap (λ (x : Cause). refusal_text (refusal_of x) method) (sym cause_is) ∙ ap (refusal_text (refusal_of s.cause)) (sym method_is)

  still : Stays (with_wire v w)
  still = stays_wire v w start (later_put v.wire w link) m.stays

  pub refused_go : w.rest ≡ v.wire.rest ++ refusal_text (refusal_of c) method → Leads v (with_wire v w) 2 (Go (Refusing s))
  refused_go rest = record {
    moved = moved_by_put v w (refusal_text (refusal_of c) method) start link rest;
    to = (
      record {
        given = [];
        parts = [];
        cut = no_parts;
        request = row;
        talks = m.talks;
        aim = tt;
        at = tt;
        bytes = subst (Sent w) text (sent_put v.wire w [] (refusal_text (refusal_of c) method) m.bytes start link rest);
        times = m.times;
        stays = still;
      },
      omega arith,
    );
  }

  pub refused_end : w.rest ≡ v.wire.rest → (ended : Ended) → ended ≡ record { end = end.NoMemory; why = why_of s.cause } → Leads v (with_wire v w) 2 (End ended)
  refused_end rest ended is = subst (λ (x : Ended). Leads v (with_wire v w) 2 (End x)) (sym is) (record {
    moved = moved_unput v w start link rest;
    to = record {
      stage = Refusing s;
      told = record {
        given = [];
        parts = [];
        cut = no_parts;
        request = request_used w v.charter (Refusing s) row;
        talks = m.talks;
        aim = tt;
        at = tt;
        bytes = ([], (text_of (Refusing s) [], refl), sent_same v.wire w [] m.bytes start (ap (λ (t : LinkTells). t.sent) link) rest);
        times = tt;
        stays = still;
      };
      says = tt;
      why_is = refl;
    };
  })
