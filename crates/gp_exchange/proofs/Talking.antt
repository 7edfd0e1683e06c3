-- How talks stand behind an exchange as calls of the dialer move them.
use Rattle.std.proofs.Common.{◌≡◌, ◌≢◌, ℕ, ◌<◌, List, [], ◌∷◌, ◌++◌, take, drop, Option, Some, None, sym, ap, ◌∙◌, refl, subst, arith, append-nil}
use Rattle.std.specs.Prelude.{IfSome, option_map}
use mathlib.Core.List.{IsPrefix}
use Rattle.std.proofs.lemmas.List.{take-append-drop}
use Rattle.gp_outside.specs.Talks.{Talk, Talks, wrote, came, hung_up, all_of}
use Rattle.gp_exchange.specs.Views.{AskedView}
use Rattle.gp_exchange.specs.Heads.{HeadsSoFar}
use Rattle.gp_exchange.specs.Hearing.{ReadsOn}
use Rattle.gp_exchange.specs.Answers.{rank}
use Rattle.gp_exchange.specs.Ends.{Reads, Ends}
use Rattle.gp_exchange.specs.Standing.{IsPresent, IsHeading, IsReading, IsOver, IsAt, StandsAt, HasTalk}
use Rattle.gp_exchange.specs.declared.heading.Heading.{Heading}
use Rattle.gp_exchange.specs.declared.reading.Reading.{Reading}
use Rattle.gp_exchange.specs.declared.place.Over.{Over}
use Rattle.gp_exchange.specs.declared.place.Place.{Place}
use Rattle.gp_exchange.specs.declared.place.Place.TheVariants as place
use Rattle.gp_exchange.proofs.Interim.{heads_more, head_stays}
use Rattle.gp_exchange.proofs.Bodies.{read_more}

-- what holds of told talks is carried over by what a call does to them
pub told_on : (P Q : Talks → Type 0) (f : Talks → Talks) (old now : Option Talks) → now ≡ option_map f old → ((talks : Talks) → P talks → Q (f talks)) → IfSome old P → IfSome now Q
told_on P Q f (Some talks) now e on p = subst (λ (o : Option Talks). IfSome o Q) (sym e) (on talks p)
told_on P Q f None now e on p = subst (λ (o : Option Talks). IfSome o Q) (sym e) tt

pub told_same : (P Q : Talks → Type 0) (old now : Option Talks) → now ≡ old → ((talks : Talks) → P talks → Q talks) → IfSome old P → IfSome now Q
told_same P Q (Some talks) now e on p = subst (λ (o : Option Talks). IfSome o Q) (sym e) (on talks p)
told_same P Q None now e on p = subst (λ (o : Option Talks). IfSome o Q) (sym e) tt

module _ (asked : AskedView) (before : List Talk) where
  -- the present talk goes on
  pub present_came : (sent received more : List ℕ) (talks : Talks) → IsPresent asked before sent received talks → IsPresent asked before sent (received ++ more) (came more talks)
  present_came sent received more talks p = record { over = p.over; present = ap (option_map (λ (talk : Talk). record { to = talk.to; sent = talk.sent; received = talk.received ++ more })) p.present }

  pub present_wrote : (sent received more : List ℕ) (talks : Talks) → IsPresent asked before sent received talks → IsPresent asked before (sent ++ more) received (wrote more talks)
  present_wrote sent received more talks p = record { over = p.over; present = ap (option_map (λ (talk : Talk). record { to = talk.to; sent = talk.sent ++ more; received = talk.received })) p.present }

  -- what ends with the present talk
  pub record HangsUp (given : List ℕ) (over : Over) (talks : Talks) : Type 0 where
    pub sent : List ℕ
    pub received : List ℕ
    pub talk : IsPresent asked before sent received talks
    pub begun : IsPrefix sent asked.request
    pub whole : received ≢ [] → sent ≡ asked.request
    pub cause : Ends asked over given received

  pub hangs_up : (given : List ℕ) (over : Over) (talks : Talks) → HangsUp given over talks → IsOver asked before given over (hung_up talks)
  hangs_up given over talks h = record {
    talk = record { to = asked.to; sent = h.sent; received = h.received };
    over = ap (λ (o : Option Talk). all_of (record { over = talks.over; present = o })) h.talk.present ∙ ap (λ (x : List Talk). x ++ record { to = asked.to; sent = h.sent; received = h.received } ∷ []) h.talk.over;
    present = refl;
    is_talk = record { to = refl; begun = h.begun; whole = h.whole };
    cause = h.cause;
  }

  pub whole_request : IsPrefix asked.request asked.request
  whole_request = ([], append-nil asked.request)

  -- bytes come while a head is expected
  pub heading_came : (given more : List ℕ) (h h' : Heading) (talks : Talks) → h'.interim ≡ h.interim → h'.bytes ≡ h.bytes ++ more → IsHeading asked before given h talks → IsHeading asked before given h' (came more talks)
  heading_came given more h h' talks same grown s = record {
    received = s.received ++ more;
    talk = present_came asked.request s.received more talks s.talk;
    heads = heads_more s.received more h h' same grown s.heads;
    none_given = s.none_given;
  }

  -- bytes come of the body
  pub reading_came : (given more part : List ℕ) (r r' : Reading) (talks : Talks) → r.part ≡ [] → r'.head ≡ r.head → r'.part ≡ [] → ReadsOn r.reader r'.reader [] part more
      → IsReading asked before given r talks → IsReading asked before (given ++ part) r' (came more talks)
  reading_came given more part r r' talks none head none' on s =
      let body : Reads asked r'.head.value r.reader given s.received =
      subst (λ (x : List ℕ). Reads asked r'.head.value r.reader x s.received) (ap (λ (x : List ℕ). given ++ x) none ∙ append-nil given) (rw head s.body) in
      record {
        received = s.received ++ more;
        talk = present_came asked.request s.received more talks s.talk;
        body = subst (λ (x : List ℕ). Reads asked r'.head.value r'.reader x (s.received ++ more)) (sym (ap (λ (x : List ℕ). (given ++ part) ++ x) none' ∙ append-nil (given ++ part)))
            (read_more asked r'.head.value r.reader r'.reader given part more s.received (head_stays s.received more r'.head.value) on body);
      }

  -- the end while a body is read
  pub reading_ends : (given more : List ℕ) (r : Reading) (over : Over) (talks now : Talks) → r.part ≡ []
      → ((sent received : List ℕ) → IsPresent asked before sent received talks → IsPresent asked before sent (received ++ more) now)
      → ((received : List ℕ) → Reads asked r.head.value r.reader given received → Ends asked over given (received ++ more))
      → IsReading asked before given r talks → HangsUp given over now
  reading_ends given more r over talks now none goes cause s = record {
    sent = asked.request;
    received = s.received ++ more;
    talk = goes asked.request s.received s.talk;
    begun = whole_request;
    whole = λ some. refl;
    cause = cause s.received (subst (λ (x : List ℕ). Reads asked r.head.value r.reader x s.received) (ap (λ (x : List ℕ). given ++ x) none ∙ append-nil given) s.body);
  }

  -- the end while a head is expected
  pub heading_ends : (given more : List ℕ) (h : Heading) (over : Over) (talks now : Talks)
      → ((sent received : List ℕ) → IsPresent asked before sent received talks → IsPresent asked before sent (received ++ more) now)
      → ((received : List ℕ) → HeadsSoFar received h → Ends asked over [] (received ++ more))
      → IsHeading asked before given h talks → HangsUp given over now
  heading_ends given more h over talks now goes cause s = record {
    sent = asked.request;
    received = s.received ++ more;
    talk = goes asked.request s.received s.talk;
    begun = whole_request;
    whole = λ some. refl;
    cause = subst (λ (x : List ℕ). Ends asked over x (s.received ++ more)) (sym s.none_given) (cause s.received s.heads);
  }

  pub present_stays : (sent received : List ℕ) (talks : Talks) → IsPresent asked before sent received talks → IsPresent asked before sent (received ++ []) talks
  present_stays sent received talks p = subst (λ (x : List ℕ). IsPresent asked before sent x talks) (sym (append-nil received)) p

  present_talk : (sent received : List ℕ) (talks : Talks) → IsPresent asked before sent received talks → IsPrefix sent asked.request → (received ≢ [] → sent ≡ asked.request) → HasTalk asked before talks
  present_talk sent received talks p begun whole = record {
    talk = record { to = asked.to; sent = sent; received = received };
    all = ap (λ (o : Option Talk). all_of (record { over = talks.over; present = o })) p.present ∙ ap (λ (x : List Talk). x ++ record { to = asked.to; sent = sent; received = received } ∷ []) p.over;
    is_talk = record { to = refl; begun = begun; whole = whole };
  }

  -- the one talk of an exchange that has begun
  pub has_talk : (given : List ℕ) (p : Place) (talks : Talks) → 0 < rank p → IsAt asked before given p talks → HasTalk asked before talks
  has_talk given (place.Unbegun request) talks begun s = absurd (omega arith)
  has_talk given (place.Connecting request) talks begun s = present_talk [] [] talks s.talk (asked.request, refl) (λ some. absurd (some refl))
  has_talk given (place.Sending sending) talks begun s = present_talk (take sending.done asked.request) [] talks s.talk (drop sending.done asked.request, take-append-drop sending.done asked.request) (λ some. absurd (some refl))
  has_talk given (place.Heading heading) talks begun s = present_talk asked.request s.received talks s.talk whole_request (λ some. refl)
  has_talk given (place.Reading reading) talks begun s = present_talk asked.request s.received talks s.talk whole_request (λ some. refl)
  has_talk given (place.Over over) talks begun s = record {
    talk = s.talk;
    all = ap (λ (o : Option Talk). all_of (record { over = talks.over; present = o })) s.present ∙ append-nil talks.over ∙ s.over;
    is_talk = s.is_talk;
  }

pub talked : (asked : AskedView) (before : List Talk) (given : List ℕ) (p : Place) (talks : Option Talks) → 0 < rank p → StandsAt asked before given p talks → IfSome talks (HasTalk asked before)
talked asked before given p talks begun s = told_same (IsAt asked before given p) (HasTalk asked before) talks talks refl (λ t at. has_talk asked before given p t begun at) s
