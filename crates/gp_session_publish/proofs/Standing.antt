-- What publishing and the answer do to the rows of a session.
use Rattle.std.proofs.Common.{◌≡◌, ℕ, List, [], ◌++◌, length, map, refl, sym, ap, ◌∙◌, subst, arith, append_assoc, length-append}
use Rattle.std.specs.List.{All}
use Rattle.gp_plain.specs.declared.event.Entry.{Entry}
use Rattle.gp_plain.specs.declared.item.Item.{Item}
use Rattle.gp_outside.specs.Links.{LinkTells}
use Rattle.gp_head.specs.Texts.{response_text}
use Rattle.gp_hub.specs.declared.outcome.SessionEnd.TheVariants as end
use Rattle.gp_hub.specs.declared.outcome.Why.TheVariants as why
use Rattle.gp_hub.specs.Own.{mine}
use Rattle.gp_answer.specs.Refusals.{published_head, published_text}
use Rattle.gp_session.specs.Wires.{WireView}
use Rattle.gp_session.specs.Seats.{SeatView, MovedSeat, IsServed, IsWorn, Busied, publish_of}
use Rattle.gp_session.proofs.Moving.{moved_wire_same, sent_put, sent_same, request_same, later_put, moved_put, moved_none_put}
use Rattle.gp_session_publish.specs.declared.stage.Stage.TheVariants.{Publishing, Answering}
use Rattle.gp_session_publish.specs.declared.stage.Ended.{Ended}
use Rattle.gp_session_publish.specs.declared.stage.Next.TheVariants.{Go, Wait, End}
use Rattle.gp_session_publish.specs.declared.publishing.Publishing.{Publishing as PublishingStage}
use Rattle.gp_session_publish.specs.declared.answering.Answering.{Answering as AnsweringStage}
use Rattle.gp_session_publish.specs.Routing.{IsPublish, answer_text}
use Rattle.gp_session_publish.specs.Views.{LiveView, Moved}
use Rattle.gp_session_publish.specs.Trace.{Asks, Fits, HasPublished, Makes, Stays, Told}
use Rattle.gp_session_publish.specs.Moves.{busy, Leads, PublishedSome}
use Rattle.gp_session_publish.proofs.Rows.{with_wire, moved_over, stays_over, at_end, published_count}
use Rattle.gp_session_publish.proofs.Taking.{map-append}

abbrev pub with_seat : LiveView → SeatView → LiveView
with_seat v u = record { wire = v.wire; seat = u }

pub moved_seat_over : (v : LiveView) (u : SeatView) → MovedSeat v.seat u → Moved v (with_seat v u)
moved_seat_over v u m = record { wire = moved_wire_same v.wire; seat = m }

abbrev left_of : PublishingStage → List Item
left_of s = s.left

-- the entries of a publication that goes on
more_published : (s t : SeatView) (body : List ℕ) (left rest : List Item) (before now : ℕ) → HasPublished s.pass.number body left before (mine s.pass) → PublishedSome s t left rest before now → All Fits rest
    → HasPublished t.pass.number body rest now (mine t.pass)
more_published s t body left rest before now h p fit =
    let number = s.pass.number in
    record {
      all = h.all;
      done = h.done ++ p.done;
      items = h.items;
      split = h.split ∙ ap (λ (xs : List Item). h.done ++ xs) p.split ∙ sym (append_assoc h.done p.done rest);
      entries = p.made ∙ ap (λ (es : List Entry). es ++ map (publish_of number) p.done) h.entries ∙ sym (map-append (publish_of number) h.done p.done)
          ∙ ap (λ (n : ℕ). map (publish_of n) (h.done ++ p.done)) (sym p.moved.same.number);
      count = omega (arith, p.count, h.count, length-append h.done p.done);
      fit = fit;
      few = omega (arith, h.few, p.count, ap length p.split, length-append p.done rest);
    }

module _ (v : LiveView) (u : SeatView) (s t : PublishingStage) (told : Told v (Publishing s)) (rest : List Item) (p : PublishedSome v.seat u (left_of s) rest s.published t.published) (fit : All Fits rest)
    (same : t.request ≡ s.request) (left : rest ≡ left_of t) where
  made : Makes (Publishing t) u.pass.number (mine u.pass)
  made = subst (λ (xs : List Item). HasPublished u.pass.number t.request.value.body xs t.published (mine u.pass)) left
      (subst (λ r. HasPublished u.pass.number r.value.body rest t.published (mine u.pass)) (sym same)
      (more_published v.seat u s.request.value.body (left_of s) rest s.published t.published told.entries p fit))

  pub told_published : IsServed u → Told (with_seat v u) (Publishing t)
  told_published served = record {
    request = request_same v.wire v.wire (Asks (Publishing s)) (Asks (Publishing t)) told.request refl refl (λ received h. subst (λ r. IsPublish r.value received) (sym same) h);
    entries = made;
    bytes = told.bytes;
    stays = record { holds = p.holds ∙ told.stays.holds; seat = p.row told.stays.seat; served = served; later = told.stays.later };
  }

  pub busy_published : Busied v.seat u → IsServed u → Leads v (with_seat v u) 2 (Wait (Publishing t))
  busy_published b served = record { moved = moved_seat_over v u p.moved; to = (told_published served, busy b) }

  pub worn_published : IsWorn u → (ended : Ended) → ended ≡ record { end = end.Worn; why = why.Nothing; published = t.published } → Leads v (with_seat v u) 2 (End ended)
  worn_published worn ended is = subst (λ (x : Ended). Leads v (with_seat v u) 2 (End x)) (sym is) (record {
    moved = moved_seat_over v u p.moved;
    to = record {
      stage = Publishing t;
      told = record {
        request = request_same v.wire v.wire (Asks (Publishing s)) (Asks (Publishing t)) told.request refl refl (λ received h. subst (λ r. IsPublish r.value received) (sym same) h);
        entries = made;
        bytes = told.bytes;
        holds = p.holds ∙ told.stays.holds;
        seat = p.row told.stays.seat;
        served = worn;
        later = told.stays.later;
      };
      says = worn;
      why_is = refl;
      published = published_count u.pass.number t.request.value.body (left_of t) t.published (mine u.pass) made;
    };
  })

  pub no_memory_published : IsServed u → (ended : Ended) → ended ≡ record { end = end.NoMemory; why = why.Nothing; published = t.published } → Leads v (with_seat v u) 2 (End ended)
  no_memory_published served ended is = subst (λ (x : Ended). Leads v (with_seat v u) 2 (End x)) (sym is) (record {
    moved = moved_seat_over v u p.moved;
    to = record {
      stage = Publishing t;
      told = at_end end.NoMemory (with_seat v u) (Publishing t) (told_published served) served;
      says = tt;
      why_is = refl;
      published = published_count u.pass.number t.request.value.body (left_of t) t.published (mine u.pass) made;
    };
  })

-- the answer

pub answer_put : (h b t : List ℕ) → h ≡ response_text published_head → b ≡ [] → t ≡ published_text → h ++ (b ++ t) ≡ answer_text
answer_put h b t head none tail =
    ap (λ (x : List ℕ). x ++ (b ++ t)) head ∙ ap (λ (x : List ℕ). response_text published_head ++ (x ++ t)) none ∙ ap (λ (x : List ℕ). response_text published_head ++ x) tail

module _ (v : LiveView) (w : WireView) (s : PublishingStage) (told : Told v (Publishing s)) (none : left_of s ≡ []) (start : w.start ≡ v.wire.start) (link : w.link ≡ v.wire.link) where
  still : Stays (with_wire v w)
  still = stays_over v w start (later_put v.wire w link) told.stays

  pub answered : (t : AnsweringStage) → t.published ≡ s.published → t.request ≡ s.request → w.rest ≡ v.wire.rest ++ answer_text → Leads v (with_wire v w) 2 (Go (Answering t))
  answered t count same rest = record {
    moved = moved_over v w (moved_put v.wire w answer_text start link rest);
    to = (
      record {
        request = request_same v.wire w (Asks (Publishing s)) (Asks (Answering t)) told.request start (ap (λ (x : LinkTells). x.received) link) (λ received h. subst (λ r. IsPublish r.value received) (sym same) h);
        entries = subst (λ (n : ℕ). HasPublished v.seat.pass.number t.request.value.body [] n (mine v.seat.pass)) (sym count)
            (subst (λ r. HasPublished v.seat.pass.number r.value.body [] s.published (mine v.seat.pass)) (sym same)
            (subst (λ (xs : List Item). HasPublished v.seat.pass.number s.request.value.body xs s.published (mine v.seat.pass)) none told.entries));
        bytes = sent_put v.wire w [] answer_text told.bytes start link rest;
        stays = still;
      },
      omega arith,
    );
  }

  pub unanswered : w.rest ≡ v.wire.rest → (ended : Ended) → ended ≡ record { end = end.NoMemory; why = why.Nothing; published = s.published } → Leads v (with_wire v w) 2 (End ended)
  unanswered rest ended is = subst (λ (x : Ended). Leads v (with_wire v w) 2 (End x)) (sym is) (record {
    moved = moved_over v w (moved_none_put v.wire w start link rest);
    to = record {
      stage = Publishing s;
      told = at_end end.NoMemory (with_wire v w) (Publishing s) (record {
        request = request_same v.wire w (Asks (Publishing s)) (Asks (Publishing s)) told.request start (ap (λ (x : LinkTells). x.received) link) (λ received h. h);
        entries = told.entries;
        bytes = sent_same v.wire w [] told.bytes start (ap (λ (x : LinkTells). x.sent) link) rest;
        stays = still;
      }) told.stays.served;
      says = tt;
      why_is = refl;
      published = published_count v.seat.pass.number s.request.value.body (left_of s) s.published (mine v.seat.pass) told.entries;
    };
  })
