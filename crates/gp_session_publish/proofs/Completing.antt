-- Each end of a session is a good one, or something disturbed the session.
use Rattle.std.proofs.Common.{◌≡◌, ℕ, true, false, List, [], ◌++◌, length, map, Some, refl, sym, ap, ◌∙◌, subst, append-nil, ◌⊎◌, inl, inr}
use Rattle.gp_plain.specs.declared.item.Item.{Item}
use Rattle.gp_plain.specs.declared.http.Request.{Request}
use Rattle.gp_outside.specs.Counts.{grown}
use Rattle.gp_items.specs.Items.{items_in, AreItemsOf, IsRefused, IsItemsFault}
use Rattle.gp_items.specs.declared.fault.ItemsFault.{ItemsFault}
use Rattle.gp_items.specs.declared.fault.ItemsFault.TheVariants as items
use Rattle.gp_hub.specs.declared.outcome.SessionEnd.{SessionEnd}
use Rattle.gp_hub.specs.declared.outcome.SessionEnd.TheVariants as end
use Rattle.gp_hub.specs.Own.{mine}
use Rattle.gp_intake.specs.declared.fault.RequestFault.{RequestFault}
use Rattle.gp_intake.specs.declared.fault.RequestFault.TheVariants.{HeadTooLarge, Head, Target, Host, Plan, Chunk, TooLong}
use Rattle.gp_intake.specs.Requests.{IsHeadRefusedBy}
use Rattle.gp_session.specs.Wires.{WireView, RequestRow, Sent}
use Rattle.gp_session.specs.Seats.{publish_of}
use Rattle.gp_session.specs.Causes.{HasFailed, HasEnded}
use Rattle.gp_session.proofs.Moving.{request_same}
use Rattle.gp_one_request.specs.OneRequest.{followed_by, RequestLaw}
use Rattle.gp_session_publish.specs.declared.cause.Cause.{Cause}
use Rattle.gp_session_publish.specs.declared.cause.Cause.TheVariants as cause
use Rattle.gp_session_publish.specs.declared.stage.Stage.{Stage}
use Rattle.gp_session_publish.specs.declared.stage.Stage.TheVariants.{ReadingHead, ReadingBody, Publishing, Answering, Refusing}
use Rattle.gp_session_publish.specs.declared.stage.Ended.{Ended}
use Rattle.gp_session_publish.specs.declared.answering.Answering.{Answering as AnsweringStage}
use Rattle.gp_session_publish.specs.Routing.{is_path, is_post, place_of, IsPublish, IsUnserved, HasRefusedItems, HasRefusedPublish, IsRefusedFor, answer_text}
use Rattle.gp_session_publish.specs.Views.{LiveView}
use Rattle.gp_session_publish.specs.Trace.{Asks, HasPublished}
use Rattle.gp_session_publish.specs.Moves.{IsReading, IsUnread, ToldAtEnd, EndSays, why_at, Finishes}
use Rattle.gp_session_publish.specs.Completeness.{IsAccepted, IsUnaccepted, IsNeverAccepted, IsAnswered, answered, wanting, Disturbed, refused, short, failed, worn, Completes}
use Rattle.std.proofs.lemmas.List.{length-map}

-- a body with items has no fault

no_fault : (bytes : List ℕ) (is : List Item) (fault : ItemsFault) → AreItemsOf bytes is → ¬ (IsRefused bytes fault)
no_fault bytes is fault a r =
    let reads = sym a.text.reads ∙ r.text.reads in
    let same : a.value ≡ r.value = cc in
    let differ = sym a.items_are ∙ ap items_in same ∙ r.fault_is in
    cc

no_items_fault : (bytes : List ℕ) (is : List Item) (fault : ItemsFault) (place : ℕ) → place_of fault ≡ Some place → AreItemsOf bytes is
    → ¬ (IsItemsFault bytes fault)
no_items_fault bytes is items.NotJson place e a r = r a.value a.text
no_items_fault bytes is items.NoItems place e a r = no_fault bytes is items.NoItems a r
no_items_fault bytes is (items.TooMany count) place e a r = no_fault bytes is (items.TooMany count) a r
no_items_fault bytes is (items.Member at name) place e a r = no_fault bytes is (items.Member at name) a r
no_items_fault bytes is (items.Base64 at name) place e a r = no_fault bytes is (items.Base64 at name) a r
no_items_fault bytes is (items.Long at count) place e a r = no_fault bytes is (items.Long at count) a r
no_items_fault bytes is (items.Name at fault) place e a r = no_fault bytes is (items.Name at fault) a r
no_items_fault bytes is items.NoMemory place e a r = let no : ⊥ = cc in no

module _ (law : RequestLaw) where
  -- bytes that are refused begin with no request that is accepted, whatever follows them

  never_by_head : (received method : List ℕ) (fault : RequestFault) → IsHeadRefusedBy received fault method → IsNeverAccepted received
  never_by_head received method fault r = λ more is a. law.head a.w (received ++ more) fault method a.publish.whole (law.head_stays received more fault method r)

  never_by_body : (received method : List ℕ) (fault : RequestFault) → HasRefusedPublish received fault method → IsNeverAccepted received
  never_by_body received method fault r = λ more is a.
      law.body a.w r.head r.path (received ++ more) fault method a.publish.whole (law.body_stays r.head r.path received more fault method r.refused)

  never_served : (received method : List ℕ) (fault : RequestFault) → IsUnserved fault method received → IsNeverAccepted received
  never_served received method HeadTooLarge r = never_by_head received method HeadTooLarge r
  never_served received method Head r = never_by_head received method Head r
  never_served received method Target r = never_by_head received method Target r
  never_served received method Host r = never_by_head received method Host r
  never_served received method (Plan fault) r = never_by_head received method (Plan fault) r
  never_served received method (Chunk place) r = never_by_body received method (Chunk place) r
  never_served received method TooLong r = never_by_body received method TooLong r

  never_of_items : (received method : List ℕ) (place : ℕ) → HasRefusedItems received method place → IsNeverAccepted received
  never_of_items received method place r = λ more is a.
      let whole = law.more r.w received more r.publish.whole in
      let body : a.w.body ≡ r.w.body = (law.one (followed_by r.w more) a.w (received ++ more) whole a.publish.whole).2 in
      no_items_fault r.w.body is r.fault place r.place_is (subst (λ (bytes : List ℕ). AreItemsOf bytes is) body a.items_are) r.refused

  never_accepted : (c : Cause) (received method : List ℕ) → IsRefusedFor c method received → IsNeverAccepted received
  never_accepted (cause.Request fault) received method r = never_served received method fault r
  never_accepted cause.Path received method r = λ more is a.
      let path = (law.early a.w r.v received more a.publish.whole r.headed).1 in
      let differ : true ≡ false = sym a.publish.routed.path_is ∙ ap is_path (sym path) ∙ r.path in
      cc
  never_accepted cause.Method received method r = λ more is a.
      let head = (law.early a.w r.v received more a.publish.whole r.headed).0 in
      let differ : true ≡ false = sym a.publish.routed.method ∙ ap (λ (x : Request). is_post x.method) (sym head) ∙ r.other in
      cc
  never_accepted (cause.Items place) received method r = never_of_items received method place r

  -- bytes of a request that is being read begin with no whole one
  unread : (stage : Stage) (received : List ℕ) → IsReading stage → IsUnread stage → Asks stage received → IsUnaccepted received
  unread (ReadingHead s) received reads going asks = λ is a. law.begun a.w received a.publish.whole asks.1
  unread (ReadingBody s) received reads going asks = λ is a. law.underway a.w s.intake received a.publish.whole (record { headed = asks.0; more = going })
  unread (Publishing s) received reads going asks = absurd reads
  unread (Answering s) received reads going asks = absurd reads
  unread (Refusing s) received reads going asks = absurd reads

  -- all of the answer was sent
  sent_all : (w : WireView) (text : List ℕ) → Sent w text → w.rest ≡ [] → w.link.sent ≡ grown w.start.sent text
  sent_all w text s none =
      let all : s.sent ≡ text = sym (append-nil s.sent) ∙ ap (λ (xs : List ℕ). s.sent ++ xs) (sym none) ∙ s.whole in
      s.since ∙ ap (grown w.start.sent) all

  of_answer : (l : LiveView) (over : Ended) (code : ℕ) (s : AnsweringStage) → over.end ≡ end.Sent code → ToldAtEnd (end.Sent code) l (Answering s)
      → EndSays (end.Sent code) l (Answering s) → over.why ≡ why_at (Answering s)
      → over.published ≡ length (mine l.seat.pass) → IsAnswered l over
  of_answer l over code s is told says why count =
      let p : HasPublished l.seat.pass.number s.request.value.body [] s.published (mine l.seat.pass) = told.entries in
      let all : p.done ≡ p.all = sym (p.split ∙ append-nil p.done) in
      let entries : mine l.seat.pass ≡ map (publish_of l.seat.pass.number) p.all = p.entries ∙ ap (map (publish_of l.seat.pass.number)) all in
      record {
        items = p.all;
        request = request_same l.wire l.wire (IsPublish s.request.value) (IsAccepted p.all) told.request refl refl (λ received h. record { w = s.request.value; publish = h; items_are = p.items });
        entries = entries;
        sent = sent_all l.wire answer_text told.bytes says.0;
        end = is ∙ ap end.Sent says.1;
        why = why;
        published = count ∙ ap length entries ∙ length-map p.all (publish_of l.seat.pass.number);
      }

  -- the code of an answer that was sent says which answer it was
  of_sent : (l : LiveView) (over : Ended) (code : ℕ) (stage : Stage) → over.end ≡ end.Sent code → ToldAtEnd (end.Sent code) l stage
      → EndSays (end.Sent code) l stage → over.why ≡ why_at stage
      → over.published ≡ length (mine l.seat.pass) → Completes l over
  of_sent l over code (ReadingHead s) is told says why count = absurd says.1
  of_sent l over code (ReadingBody s) is told says why count = absurd says.1
  of_sent l over code (Publishing s) is told says why count = absurd says.1
  of_sent l over code (Answering s) is told says why count = inl (answered (of_answer l over code s is told says why count))
  of_sent l over code (Refusing s) is told says why count =
      inr (refused (request_same l.wire l.wire (IsRefusedFor s.cause s.method.value) IsNeverAccepted told.request refl refl (λ received h. never_accepted s.cause received s.method.value h)))

  -- the client is gone
  of_gone : (l : LiveView) (stage : Stage) → RequestRow l.wire (Asks stage) → HasFailed l.wire ⊎ (HasEnded l.wire × IsReading stage × IsUnread stage)
      → Disturbed l
  of_gone l stage request (inl f) = failed f
  of_gone l stage request (inr e) = short e.0 (request_same l.wire l.wire (Asks stage) IsUnaccepted request refl refl (λ received h. unread stage received e.1 e.2 h))

  by_end : (e : SessionEnd) (l : LiveView) (over : Ended) (stage : Stage) → over.end ≡ e → ToldAtEnd e l stage → EndSays e l stage
      → over.why ≡ why_at stage → over.published ≡ length (mine l.seat.pass) → Completes l over
  by_end (end.Sent code) l over stage is told says why count = of_sent l over code stage is told says why count
  by_end (end.Cut c) l over stage is told says why count = absurd says
  by_end end.ClientGone l over stage is told says why count = inr (of_gone l stage told.request says)
  by_end end.Worn l over stage is told says why count = inr (worn says)
  by_end end.NoMemory l over stage is told says why count = inl (wanting is)

  pub completes : (l : LiveView) (over : Ended) → Finishes l over → Completes l over
  completes l over f = by_end over.end l over f.stage refl f.told f.says f.why_is f.published
