-- What a poll answers, from its last part.
use Rattle.std.proofs.Common.{◌≡◌, ℕ, List, [], ◌++◌, refl, ap, ◌∙◌, subst, append_assoc, append-nil}
use Rattle.gp_plain.specs.declared.http.Request.{Request}
use Rattle.gp_outside.specs.Counts.{Rose}
use Rattle.gp_outside.specs.Links.{LinkTells}
use Rattle.gp_intake.specs.declared.head.HeadPolled.{HeadPolled}
use Rattle.gp_intake.specs.declared.head.HeadPolled.TheVariants as head
use Rattle.gp_intake.specs.declared.body.BodyPolled.{BodyPolled}
use Rattle.gp_intake.specs.declared.body.BodyPolled.TheVariants as body
use Rattle.gp_intake.specs.declared.fault.RequestFault.{RequestFault}
use Rattle.gp_intake.specs.Bodies.{ReadingView, IsOpen}
use Rattle.gp_intake.specs.Heads.{IsBegun}
use Rattle.gp_intake.specs.Requests.{HeadedView, IsHeaded, IsUnderway, IsHeadRefusedBy, IsBodyRefusedBy}
use Rattle.gp_intake.specs.Polls.{Hears, IsGone, HasReadHead, HasReadBody, HeadSays, BodySays, PollsHead, PollsBody, BeginsBody, RefusesHead, AnswersRefused, AnswersWhole, UsedHead}
use Rattle.gp_intake.proofs.Hearing.{hears_none, hears_more, rose_from, gone_from}
use Rattle.gp_intake.proofs.Asking.{headed_more}

module _ (begun is : List ℕ) (a b c : LinkTells) (reads : HasReadHead a b begun is) where
  pub polls_head : (more now : List ℕ) (answer : HeadPolled) → Hears b c more → now ≡ is ++ more → HeadSays a c now answer → PollsHead begun a c answer
  polls_head more now answer hears e says =
      let all : now ≡ begun ++ (reads.more ++ more) = e ∙ ap (λ (xs : List ℕ). xs ++ more) reads.bytes ∙ append_assoc begun reads.more more in
      record {
        more = reads.more ++ more;
        hears = hears_more a b c reads.more more reads.hears hears;
        says = subst (λ (xs : List ℕ). HeadSays a c xs answer) all says;
      }

begins_says : (a c : LinkTells) (bytes : List ℕ) (answer : HeadPolled) → UsedHead bytes → BeginsBody bytes answer → HeadSays a c bytes answer
begins_says a c bytes (head.Head v) used h = h
begins_says a c bytes (head.Refused refused) used h = h
begins_says a c bytes (head.NotReady begun) used h = absurd h
begins_says a c bytes head.ClientGone used h = absurd h
begins_says a c bytes head.NoMemory used h = used

refuses_says : (a c : LinkTells) (bytes : List ℕ) (fault : RequestFault) (answer : HeadPolled) → ((method : List ℕ) → method ≡ [] → IsHeadRefusedBy bytes fault method) → RefusesHead fault answer → HeadSays a c bytes answer
refuses_says a c bytes fault (head.Head v) rule h = absurd h
refuses_says a c bytes fault (head.Refused refused) rule h = rw h.0 (rule refused.method h.1)
refuses_says a c bytes fault (head.NotReady begun) rule h = absurd h
refuses_says a c bytes fault head.ClientGone rule h = absurd h
refuses_says a c bytes fault head.NoMemory rule h = absurd h

pub used_head : (is more now : List ℕ) → IsBegun is → now ≡ is ++ more → UsedHead now
used_head is more now begun e = record { used = is; unused = more; split = e; begun = begun }

module _ (begun is : List ℕ) (a b c : LinkTells) (reads : HasReadHead a b begun is) (open_is : IsBegun is) (more now : List ℕ) (hears : Hears b c more) (e : now ≡ is ++ more) where
  pub begins_head : (answer : HeadPolled) → BeginsBody now answer → PollsHead begun a c answer
  begins_head answer h = polls_head begun is a b c reads more now answer hears e (begins_says a c now answer (used_head is more now open_is e) h)

  pub refuses_head : (fault : RequestFault) (answer : HeadPolled) → ((method : List ℕ) → method ≡ [] → IsHeadRefusedBy now fault method) → RefusesHead fault answer → PollsHead begun a c answer
  refuses_head fault answer rule h = polls_head begun is a b c reads more now answer hears e (refuses_says a c now fault answer rule h)

  pub no_memory_head : PollsHead begun a c head.NoMemory
  no_memory_head = polls_head begun is a b c reads more now head.NoMemory hears e (used_head is more now open_is e)

abbrev view : Request → List ℕ → ReadingView → HeadedView
view head path body = record { head = head; path = path; body = body }

same_view : (v w : HeadedView) → v.head ≡ w.head → v.path ≡ w.path → v.body ≡ w.body → v ≡ w
same_view v w h p b = ap (λ (x : Request). view x v.path v.body) h ∙ ap (λ (x : List ℕ). view w.head x v.body) p ∙ ap (λ (x : ReadingView). view w.head w.path x) b

module _ (v w : HeadedView) (head_is : w.head ≡ v.head) (path_is : w.path ≡ v.path) (a b c : LinkTells) (reads : HasReadBody a b v.body w.body) where
  pub polls_body : (more : List ℕ) (answer : BodyPolled) → Hears b c more → ((received : List ℕ) → IsHeaded w received → BodySays a c v (received ++ more) answer) → PollsBody v a c answer
  polls_body more answer hears says = record {
    more = reads.more ++ more;
    hears = hears_more a b c reads.more more reads.hears hears;
    says = λ received h. subst (λ (xs : List ℕ). BodySays a c v xs answer) (append_assoc received reads.more more) (says (received ++ reads.more) (headed_more v w received reads.more head_is path_is reads.comes h));
  }

  module _ (more : List ℕ) (hears : Hears b c more) (w' : HeadedView) (head_still : w'.head ≡ w.head) (path_still : w'.path ≡ w.path) (going : IsOpen w.body.reading) where
    underway : more ≡ [] → w'.body ≡ w.body → (received : List ℕ) → IsHeaded w received → IsUnderway w' (received ++ more)
    underway none same received h =
        let still : w' ≡ w = same_view w' w head_still path_still same in
        let on : received ++ more ≡ received = ap (λ (xs : List ℕ). received ++ xs) none ∙ append-nil received in
        rw (on, still) (record { headed = h; more = going })

    pub not_ready_body : more ≡ [] → w'.body ≡ w.body → Rose b.read_waits c.read_waits → PollsBody v a c (body.NotReady w')
    not_ready_body none same rose = polls_body more (body.NotReady w') hears
        (λ received h. (underway none same received h, head_still ∙ head_is, path_still ∙ path_is, rose_from a.read_waits b.read_waits c.read_waits reads.hears.later.read_waits rose))

    pub gone_body : more ≡ [] → w'.body ≡ w.body → IsGone b c → PollsBody v a c body.ClientGone
    gone_body none same gone = polls_body more body.ClientGone hears
        (λ received h. (record { w = w'; underway = underway none same received h; head_is = head_still ∙ head_is; path_is = path_still ∙ path_is }, gone_from a b c reads.hears.later gone))

    pub no_memory_body : PollsBody v a c body.NoMemory
    no_memory_body = polls_body more body.NoMemory hears
        (λ received h. record { used = received; unused = more; split = refl; still = record { w = w; underway = record { headed = h; more = going }; head_is = head_is; path_is = path_is } })

module _ (v w : HeadedView) (head_is : w.head ≡ v.head) (path_is : w.path ≡ v.path) (a b : LinkTells) (reads : HasReadBody a b v.body w.body) where
  refused_says : (answer : BodyPolled) → AnswersRefused w answer → (received : List ℕ) → IsHeaded w received → BodySays a b v (received ++ []) answer
  refused_says (body.Whole whole) h received headed = absurd h
  refused_says (body.Refused refused) h received headed =
      rw (append-nil received) (subst (λ (p : List ℕ). IsBodyRefusedBy v.head p received refused.fault refused.method) path_is
      (subst (λ (r : Request). IsBodyRefusedBy r w.path received refused.fault refused.method) head_is (h received headed)))
  refused_says (body.NotReady next) h received headed = absurd h
  refused_says body.ClientGone h received headed = absurd h
  refused_says body.NoMemory h received headed = absurd h

  whole_says : (answer : BodyPolled) → AnswersWhole w answer → (received : List ℕ) → IsHeaded w received → BodySays a b v (received ++ []) answer
  whole_says (body.Whole whole) h received headed = rw (append-nil received) (h.0 received headed, h.1 ∙ head_is, h.2 ∙ path_is)
  whole_says (body.Refused refused) h received headed = absurd h
  whole_says (body.NotReady next) h received headed = absurd h
  whole_says body.ClientGone h received headed = absurd h
  whole_says body.NoMemory h received headed = absurd h

  pub refused_body : (answer : BodyPolled) → AnswersRefused w answer → PollsBody v a b answer
  refused_body answer h = polls_body v w head_is path_is a b b reads [] answer (hears_none b) (refused_says answer h)

  pub whole_body : (answer : BodyPolled) → AnswersWhole w answer → PollsBody v a b answer
  whole_body answer h = polls_body v w head_is path_is a b b reads [] answer (hears_none b) (whole_says answer h)
