-- What reading a request does to the rows of a session.
use Rattle.std.proofs.Common.{◌≡◌, ℕ, Bool, true, false, not, cond, List, [], ◌∷◌, ◌++◌, length, Some, None, refl, sym, ap, ◌∙◌, subst, inl, inr, ◌⊎◌}
use Rattle.gp_plain.specs.declared.http.Request.{Request}
use Rattle.gp_outside.specs.Counts.{Rose}
use Rattle.gp_outside.specs.Links.{LinkTells}
use Rattle.gp_hub.specs.declared.outcome.SessionEnd.TheVariants as end
use Rattle.gp_hub.specs.declared.outcome.Why.TheVariants as why
use Rattle.gp_hub.specs.Own.{mine}
use Rattle.gp_intake.specs.declared.fault.RequestFault.{RequestFault}
use Rattle.gp_intake.specs.declared.fault.RequestFault.TheVariants.{HeadTooLarge, Head, Target, Host, Plan, Chunk, TooLong}
use Rattle.gp_intake.specs.declared.body.Whole.{Whole}
use Rattle.gp_intake.specs.Heads.{IsBegun}
use Rattle.gp_intake.specs.Requests.{HeadedView, IsHeaded, IsUnderway, IsWhole, IsHeadRefusedBy, IsBodyRefusedBy}
use Rattle.gp_intake.specs.Polls.{Hears, IsGone, IsStillUnderway, UsedHead, UsedBody}
use Rattle.gp_session.specs.Wires.{WireView, RequestRow, BytesRow, exactly}
use Rattle.gp_session.proofs.Moving.{rose_since, request_more, request_same, sent_same, moved_heard, moved_wire_same, moved_seat_same}
use Rattle.gp_session_publish.specs.declared.cause.Cause.{Cause}
use Rattle.gp_session_publish.specs.declared.cause.Cause.TheVariants as cause
use Rattle.gp_session_publish.specs.declared.stage.Stage.{Stage}
use Rattle.gp_session_publish.specs.declared.stage.Stage.TheVariants.{ReadingHead, ReadingBody}
use Rattle.gp_session_publish.specs.declared.stage.Ended.{Ended}
use Rattle.gp_session_publish.specs.declared.stage.Next.TheVariants.{Wait, End}
use Rattle.gp_session_publish.specs.declared.reading_head.ReadingHead.{ReadingHead as HeadStage}
use Rattle.gp_session_publish.specs.declared.reading_body.ReadingBody.{ReadingBody as BodyStage}
use Rattle.gp_session_publish.specs.Routing.{is_path, is_post, IsRouted, cause_of, IsPublish, IsRefusedFor}
use Rattle.gp_session_publish.specs.Views.{LiveView, Moved}
use Rattle.gp_session_publish.specs.Trace.{Asks, Makes, text_of, Stays, Told}
use Rattle.gp_session_publish.specs.Moves.{IsReading, IsUnread, why_at, waits, Used, Leads, IsUnanswered}
use Rattle.gp_session_publish.proofs.Rows.{with_wire, moved_over, stays_over}

pub moved_same : (v : LiveView) → Moved v v
moved_same v = record { wire = moved_wire_same v.wire; seat = moved_seat_same v.seat }

pub unanswered_as : (l : LiveView) (P Q : List ℕ → Type 0) → IsUnanswered l P → ((received : List ℕ) → P received → Q received) → IsUnanswered l Q
unanswered_as l P Q u on = record { request = request_same l.wire l.wire P Q u.request refl refl on; entries = u.entries; bytes = u.bytes; stays = u.stays }

-- bytes were heard before an answer

module _ (v : LiveView) (w : WireView) (more : List ℕ) (start : w.start ≡ v.wire.start) (rest : w.rest ≡ v.wire.rest) (hears : Hears v.wire.link w.link more) where
  pub heard_moved : Moved v (with_wire v w)
  heard_moved = moved_over v w (moved_heard v.wire w more start rest hears)

  pub heard : (P Q : List ℕ → Type 0) → IsUnanswered v P → ((received : List ℕ) → P received → Q (received ++ more)) → IsUnanswered (with_wire v w) Q
  heard P Q u on = record {
    request = request_more v.wire w P Q more u.request start hears on;
    entries = u.entries;
    bytes = sent_same v.wire w [] u.bytes start hears.sent rest;
    stays = stays_over v w start hears.later u.stays;
  }

  pub gone_since : Stays v → IsGone v.wire.link w.link → Rose w.start.faults w.link.faults ⊎ Rose w.start.ends w.link.ends
  gone_since s (inl ends) = inr (rose_since v.wire w (λ (t : LinkTells). t.ends) start s.later.ends ends)
  gone_since s (inr faults) = inl (rose_since v.wire w (λ (t : LinkTells). t.faults) start s.later.faults faults)

-- a stage that reads
pub unanswered_head : (l : LiveView) (s : HeadStage) → Told l (ReadingHead s) → IsUnanswered l (Asks (ReadingHead s))
unanswered_head l s t = record { request = t.request; entries = t.entries; bytes = t.bytes; stays = t.stays }

pub unanswered_body : (l : LiveView) (s : BodyStage) → Told l (ReadingBody s) → IsUnanswered l (Asks (ReadingBody s))
unanswered_body l s t = record { request = t.request; entries = t.entries; bytes = t.bytes; stays = t.stays }

pub told_head : (l : LiveView) (s : HeadStage) → IsUnanswered l (Asks (ReadingHead s)) → Told l (ReadingHead s)
told_head l s u = record { request = u.request; entries = u.entries; bytes = u.bytes; stays = u.stays }

pub told_body : (l : LiveView) (s : BodyStage) → IsUnanswered l (Asks (ReadingBody s)) → Told l (ReadingBody s)
told_body l s u = record { request = u.request; entries = u.entries; bytes = u.bytes; stays = u.stays }

-- where a request goes

path_cause : (v : HeadedView) (p m : Bool) (c : Cause) (received : List ℕ) → is_path v.path ≡ p → is_post v.head.method ≡ m
    → cond (not p) (Some cause.Path) (cond (not m) (Some cause.Method) None) ≡ Some c → IsHeaded v received → IsRefusedFor c v.head.method received
path_cause v false m c received p-is m-is e h = let same : cause.Path ≡ c = cc in
    subst (λ (x : Cause). IsRefusedFor x v.head.method received) same (record { v = v; headed = h; path = p-is; method_is = refl })
path_cause v true false c received p-is m-is e h = let same : cause.Method ≡ c = cc in
    subst (λ (x : Cause). IsRefusedFor x v.head.method received) same (record { v = v; headed = h; path = p-is; other = m-is; method_is = refl })
path_cause v true true c received p-is m-is e h = let no : ⊥ = cc in absurd no

pub refused_route : (v : HeadedView) (c : Cause) (received : List ℕ) → cause_of v ≡ Some c → IsHeaded v received → IsRefusedFor c v.head.method received
refused_route v c received e h = path_cause v (is_path v.path) (is_post v.head.method) c received refl refl e h

no_cause : (v : HeadedView) (p m : Bool) → is_path v.path ≡ p → is_post v.head.method ≡ m → cond (not p) (Some cause.Path) (cond (not m) (Some cause.Method) None) ≡ None → IsRouted v.head v.path
no_cause v false m p-is m-is e = let no : ⊥ = cc in absurd no
no_cause v true false p-is m-is e = let no : ⊥ = cc in absurd no
no_cause v true true p-is m-is e = record { path_is = p-is; method = m-is }

pub routed : (v : HeadedView) → cause_of v ≡ None → IsRouted v.head v.path
routed v e = no_cause v (is_path v.path) (is_post v.head.method) refl refl e

pub refused_at_head : (fault : RequestFault) (method received : List ℕ) → IsHeadRefusedBy received fault method → IsRefusedFor (cause.Request fault) method received
refused_at_head HeadTooLarge method received h = h
refused_at_head Head method received h = h
refused_at_head Target method received h = h
refused_at_head Host method received h = h
refused_at_head (Plan fault) method received h = h
refused_at_head (Chunk place) method received h = absurd h
refused_at_head TooLong method received h = absurd h

pub refused_at_body : (head : Request) (path : List ℕ) (fault : RequestFault) (method received : List ℕ) → IsRouted head path → IsBodyRefusedBy head path received fault method → IsRefusedFor (cause.Request fault) method received
refused_at_body head path HeadTooLarge method received r h = absurd h
refused_at_body head path Head method received r h = absurd h
refused_at_body head path Target method received r h = absurd h
refused_at_body head path Host method received r h = absurd h
refused_at_body head path (Plan fault) method received r h = absurd h
refused_at_body head path (Chunk place) method received r h = record { head = head; path = path; routed = r; refused = h }
refused_at_body head path TooLong method received r h = record { head = head; path = path; routed = r; refused = h }

-- what is known of all bytes behind those of a head that has begun
pub on_head : (s : HeadStage) (more : List ℕ) (Q : List ℕ → Type 0) → Q (s.intake ++ more) → (received : List ℕ) → Asks (ReadingHead s) received → Q (received ++ more)
on_head s more Q q received asks = subst (λ (xs : List ℕ). Q (xs ++ more)) (sym asks.0) q

-- an end while the request is read
module _ (l : LiveView) (stage : Stage) (reads : IsReading stage) (entries : Makes stage l.seat.pass.number (mine l.seat.pass)) (none : mine l.seat.pass ≡ []) (n : ℕ) (u : LiveView) (moved : Moved u l) where
  pub no_memory_end : (why_is : why.Nothing ≡ why_at stage) → (text_of stage ≡ []) → RequestRow l.wire (Used stage) → BytesRow l.wire (exactly []) → Stays l → (ended : Ended) → ended ≡ record { end = end.NoMemory; why = why.Nothing; published = 0 } → Leads u l n (End ended)
  no_memory_end why_is text request bytes stays ended is = subst (λ (x : Ended). Leads u l n (End x)) (sym is) (record {
    moved = moved;
    to = record {
      stage = stage;
      told = record { request = request; entries = entries; bytes = ([], (text_of stage, refl), bytes); holds = stays.holds; seat = stays.seat; served = stays.served; later = stays.later };
      says = tt;
      why_is = why_is;
      published = sym (ap length none);
    };
  })

  pub gone_end : IsUnread stage → (why_is : why.Nothing ≡ why_at stage) → (text_of stage ≡ []) → RequestRow l.wire (Asks stage) → BytesRow l.wire (exactly []) → Stays l → Rose l.wire.start.faults l.wire.link.faults ⊎ Rose l.wire.start.ends l.wire.link.ends
      → (ended : Ended) → ended ≡ record { end = end.ClientGone; why = why.Nothing; published = 0 } → Leads u l n (End ended)
  gone_end unread why_is text request bytes stays gone ended is = subst (λ (x : Ended). Leads u l n (End x)) (sym is) (record {
    moved = moved;
    to = record {
      stage = stage;
      told = record { request = request; entries = entries; bytes = subst (λ (xs : List ℕ). BytesRow l.wire (exactly xs)) (sym text) bytes; holds = stays.holds; seat = stays.seat; served = stays.served; later = stays.later };
      says = failed_or_ended gone;
      why_is = why_is;
      published = sym (ap length none);
    };
  })
    where
      failed_or_ended : Rose l.wire.start.faults l.wire.link.faults ⊎ Rose l.wire.start.ends l.wire.link.ends → Rose l.wire.start.faults l.wire.link.faults ⊎ (Rose l.wire.start.ends l.wire.link.ends × IsReading stage × IsUnread stage)
      failed_or_ended (inl f) = inl f
      failed_or_ended (inr e) = inr (e, reads, unread)

-- where nothing was said yet, nothing waits
append_none : (xs ys : List ℕ) → xs ++ ys ≡ [] → ys ≡ []
append_none [] ys e = e
append_none (x ∷ xs) ys e = let no : ⊥ = cc in absurd no

pub nothing_waits : (v : LiveView) (w : WireView) → w.rest ≡ v.wire.rest → BytesRow v.wire (exactly []) → w.rest ≡ []
nothing_waits v w rest bytes = rest ∙ append_none bytes.sent v.wire.rest bytes.whole

-- a poll of the head

module _ (v : LiveView) (s : HeadStage) (told : Told v (ReadingHead s)) (w : WireView) (start : w.start ≡ v.wire.start) (rest : w.rest ≡ v.wire.rest) (more : List ℕ) (hears : Hears v.wire.link w.link more) where
  pub head_at : (Q : List ℕ → Type 0) → Q (s.intake ++ more) → IsUnanswered (with_wire v w) Q
  head_at Q q = heard v w more start rest hears (Asks (ReadingHead s)) Q (unanswered_head v s told) (on_head s more Q q)

  pub head_waits : (t : HeadStage) → t.intake ≡ s.intake ++ more → IsBegun (s.intake ++ more) → Rose v.wire.link.read_waits w.link.read_waits → Leads v (with_wire v w) 4 (Wait (ReadingHead t))
  head_waits t e begun rose = record {
    moved = heard_moved v w more start rest hears;
    to = (told_head (with_wire v w) t (head_at (Asks (ReadingHead t)) (sym e, begun)), waits (record { request = λ reads. (tt, rose); writes = λ some. absurd (some (nothing_waits v w rest told.bytes)); some = inl tt }));
  }

  pub head_gone : IsBegun (s.intake ++ more) → IsGone v.wire.link w.link → (ended : Ended) → ended ≡ record { end = end.ClientGone; why = why.Nothing; published = 0 } → Leads v (with_wire v w) 4 (End ended)
  head_gone begun gone ended is =
      let t : HeadStage = record { intake = s.intake ++ more } in
      let u = head_at (Asks (ReadingHead t)) (refl, begun) in
      gone_end (with_wire v w) (ReadingHead t) tt u.entries u.entries 4 v (heard_moved v w more start rest hears) tt refl refl u.request u.bytes u.stays
      (gone_since v w more start rest hears told.stays gone) ended is

  pub head_no_memory : UsedHead (s.intake ++ more) → (ended : Ended) → ended ≡ record { end = end.NoMemory; why = why.Nothing; published = 0 } → Leads v (with_wire v w) 4 (End ended)
  head_no_memory used ended is =
      let t : HeadStage = record { intake = used.used } in
      let u = head_at (Used (ReadingHead t)) (record { used = used.used; unused = used.unused; split = used.split; asks = (refl, used.begun) }) in
      no_memory_end (with_wire v w) (ReadingHead t) tt u.entries u.entries 4 v (heard_moved v w more start rest hears) refl refl u.request u.bytes u.stays ended is

-- a poll of the body

module _ (v : LiveView) (s : BodyStage) (told : Told v (ReadingBody s)) (w : WireView) (start : w.start ≡ v.wire.start) (rest : w.rest ≡ v.wire.rest) (more : List ℕ) (hears : Hears v.wire.link w.link more) where
  abbrev pub came : List ℕ
  came = told.request.received

  known : IsUnanswered v (λ xs. xs ≡ came)
  known = record { request = record { received = came; since = told.request.since; asks = refl }; entries = told.entries; bytes = told.bytes; stays = told.stays }

  pub body_at : (Q : List ℕ → Type 0) → Q (came ++ more) → IsUnanswered (with_wire v w) Q
  body_at Q q = heard v w more start rest hears (λ xs. xs ≡ came) Q known (λ received is. subst (λ (xs : List ℕ). Q (xs ++ more)) (sym is) q)

  is_routed : (head : Request) (path : List ℕ) → head ≡ s.intake.head → path ≡ s.intake.path → IsRouted head path
  is_routed head path h p = subst (λ (r : Request). IsRouted r path) (sym h) (subst (λ (xs : List ℕ). IsRouted s.intake.head xs) (sym p) told.request.asks.1)

  pub whole_at : (whole : Whole) → IsWhole whole (came ++ more) × (whole.head ≡ s.intake.head) × (whole.path ≡ s.intake.path) → IsUnanswered (with_wire v w) (IsPublish whole)
  whole_at whole h = body_at (IsPublish whole) (record { whole = h.0; routed = is_routed whole.head whole.path h.1 h.2 })

  pub body_refused_at : (fault : RequestFault) (method : List ℕ) → IsBodyRefusedBy s.intake.head s.intake.path (came ++ more) fault method → IsUnanswered (with_wire v w) (IsRefusedFor (cause.Request fault) method)
  body_refused_at fault method h = body_at (IsRefusedFor (cause.Request fault) method) (refused_at_body s.intake.head s.intake.path fault method (came ++ more) told.request.asks.1 h)

  pub body_waits : (t : BodyStage) → IsUnderway t.intake (came ++ more) × (t.intake.head ≡ s.intake.head) × (t.intake.path ≡ s.intake.path) × Rose v.wire.link.read_waits w.link.read_waits → Leads v (with_wire v w) 3 (Wait (ReadingBody t))
  body_waits t h = record {
    moved = heard_moved v w more start rest hears;
    to = (
      told_body (with_wire v w) t (body_at (Asks (ReadingBody t)) (h.0.headed, is_routed t.intake.head t.intake.path h.1 h.2)),
      waits (record { request = λ reads. (h.0.more, h.3); writes = λ some. absurd (some (nothing_waits v w rest told.bytes)); some = inl tt }),
    );
  }

  pub body_gone : IsStillUnderway s.intake (came ++ more) × IsGone v.wire.link w.link → (ended : Ended) → ended ≡ record { end = end.ClientGone; why = why.Nothing; published = 0 } → Leads v (with_wire v w) 3 (End ended)
  body_gone h ended is =
      let t : BodyStage = record { intake = h.0.w } in
      let u = body_at (Asks (ReadingBody t)) (h.0.underway.headed, is_routed h.0.w.head h.0.w.path h.0.head_is h.0.path_is) in
      gone_end (with_wire v w) (ReadingBody t) tt u.entries u.entries 3 v (heard_moved v w more start rest hears) h.0.underway.more refl refl u.request u.bytes u.stays
      (gone_since v w more start rest hears told.stays h.1) ended is

  pub body_no_memory : UsedBody s.intake (came ++ more) → (ended : Ended) → ended ≡ record { end = end.NoMemory; why = why.Nothing; published = 0 } → Leads v (with_wire v w) 3 (End ended)
  body_no_memory used ended is =
      let still = used.still in
      let t : BodyStage = record { intake = still.w } in
      let u = body_at (Used (ReadingBody t)) (record { used = used.used; unused = used.unused; split = used.split; asks = (still.underway.headed, is_routed still.w.head still.w.path still.head_is still.path_is) }) in
      no_memory_end (with_wire v w) (ReadingBody t) tt u.entries u.entries 3 v (heard_moved v w more start rest hears) refl refl u.request u.bytes u.stays ended is
