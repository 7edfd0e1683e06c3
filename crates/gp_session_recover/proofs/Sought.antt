-- What a poll of the talk does to the rows of the recoveries.
use Rattle.std.proofs.Common.{◌≡◌, ℕ, ◌⊎◌, inl, inr, arith, Bool, true, false, List, [], ◌∷◌, ◌++◌, refl, sym, ap, ◌∙◌, subst, append_assoc, append-nil, Option, Some, None, IfSome, option_map, is_some, unwrap_or}
use Rattle.std.specs.Option.{option_to_list}
use Rattle.std.specs.List.{All, Contains}
use Rattle.std.proofs.lemmas.List.Elements.{All-nil, Contains-append_cases, Contains-push_cases}
use Rattle.gp_plain.specs.declared.event.Event.{Event}
use Rattle.gp_plain.specs.declared.event.Event.TheVariants as event
use Rattle.gp_plain.specs.declared.http.Signer.{Signer}
use Rattle.gp_plain.specs.Fit.{is_short_page}
use Rattle.gp_outside.specs.Counts.{Rose}
use Rattle.gp_outside.specs.Dials.{DialLater, DialTells, IsIdle}
use Rattle.gp_exchange.specs.declared.answer.ExchangeFault.TheVariants.{Dial}
use Rattle.gp_exchange.proofs.Leading.{later_later}
use Rattle.gp_recover.specs.declared.page.PageFault.{PageFault}
use Rattle.gp_recover.specs.declared.page.PageFault.TheVariants.{Exchange}
use Rattle.gp_again.specs.Quests.{Asks}
use Rattle.gp_again.specs.Views.{AgainView}
use Rattle.gp_asking.specs.Asking.{IsAsking}
use Rattle.std.proofs.Common.{Ok, Err, length, nat_lt, if◌then◌else◌}
use Rattle.std.proofs.lemmas.Bool.{ltb-false, le-leb}
use Rattle.std.specs.declared.snapshot.Snapshot.{Snapshot}
use Rattle.gp_plain.specs.declared.event.Then.{Then}
use Rattle.gp_plain.specs.declared.event.Then.TheVariants.{Hold, Next, End}
use Rattle.gp_instruct.specs.Page as told
use Rattle.gp_instruct.specs.Page.{Page as Told, max_page, page, page_by, page_up_to, prev_on, unheld_page}
use Rattle.gp_instruct.specs.declared.instruct.Instruct.{Instruct}
use Rattle.gp_instruct.specs.declared.instruct.Mode.{Mode}
use Rattle.gp_instruct.specs.declared.instruct.Mode.TheVariants.{Response as Poll, Stream as Held}
use Rattle.gp_recover.specs.Moves.{IsAnswered}
use Rattle.gp_recover.specs.Pages.{page_told}
use Rattle.gp_recover.specs.Views.{SoughtView}
use Rattle.gp_recover.specs.declared.page.Page.{Page as RecoveredPage}
use Rattle.gp_recover.specs.declared.recovered.Last.TheVariants as last
use Rattle.gp_session.specs.Lines.{Aim, LineRow, LineView, MovedLine, Sought, aim_sought, idle}
use Rattle.gp_session.specs.Paging.{page_event}
use Rattle.gp_session.specs.Seats.{SeatView}
use Rattle.gp_session.specs.Seeking.{SeeksRow}
use Rattle.gp_session.specs.Wires.{WireView}
use Rattle.gp_session.specs.declared.paging.StreamPage.{StreamPage}
use Rattle.gp_session_hold.specs.Rows.{PagesRow, recovers_at}
use Rattle.gp_session_hold.specs.Streams.{StreamView}
use Rattle.gp_session_recover.specs.Quests.{AreAsked, CameTo, FailedByDial, IsQuestBy, Quest, after_quest, after_quests, aims_of, event_of, events_of, ids_of, moments_of}
use Rattle.gp_session_recover.specs.Talks.{FailedPage, GoesOn, GotPage, LostPage}
use Rattle.gp_session_recover.specs.Rows.{AsksOf, Closed, Dialed, IsCutTalk, IsOpen, IsOver, IsShortTalk, IsTalking, OpenRow, RecoveringView, Recovers, SeeksAs, SeeksOpen, Seeks, Sides, Stood, TalkRow, UntoldRow, follow, hold_of, id_open, moment_open, waits, got, failed, lost}
use Rattle.gp_session_recover.specs.Polls.{ClosedOn, RecoversOn, Timed, moments_at}
use Rattle.gp_session_recover.specs.declared.open.Open.{Open as OpenTalk}
use Rattle.gp_session_recover.specs.declared.talk.Talk.{Talk}
use Rattle.gp_session_recover.specs.declared.talk.Talk.TheVariants.{None as NoTalk, Open, Page, Failed}
use Rattle.gp_session_recover.proofs.Asked.{again_more, aims_more, asked_more, asks_map, events_more, ids_more, moments_more}

-- the dialer's faults rose before a move, or in it
faults_on : (l m : LineView) → MovedLine l m → Rose l.start.faults l.dial.faults → Rose m.start.faults m.dial.faults
faults_on l m moved rose = subst (λ (t : DialTells). Rose t.faults m.dial.faults) (sym moved.start) (let le = moved.later.faults in omega (arith, rose, le))

faults_in : (l m : LineView) → MovedLine l m → DialLater l.start l.dial → Rose l.dial.faults m.dial.faults → Rose m.start.faults m.dial.faults
faults_in l m moved later rose = subst (λ (t : DialTells). Rose t.faults m.dial.faults) (sym moved.start) (let le = later.faults in omega (arith, le, rose))

later_on : (l m : LineView) → MovedLine l m → DialLater l.start l.dial → DialLater m.start m.dial
later_on l m moved later = subst (λ (t : DialTells). DialLater t m.dial) (sym moved.start) (later_later l.start l.dial m.dial later moved.later)

pub dialed_on : (l m : LineView) (qs : List Quest) → MovedLine l m → Dialed l qs → Dialed m qs
dialed_on l m qs moved d = record { later = later_on l m moved d.later; rises = λ q there is. faults_on l m moved (d.rises q there is) }

none_contained : (q : Quest) → Contains [] q → ⊥
none_contained q (k, lt, at) = absurd (omega (arith, lt))

one_contained : (x q : Quest) → Contains (x ∷ []) q → q ≡ x
one_contained x q there = by_cases (Contains-push_cases [] x q there)
  where
    by_cases : Contains [] q ⊎ (x ≡ q) → q ≡ x
    by_cases (inl never) = absurd (none_contained q never)
    by_cases (inr same) = sym same

got_not_failed : (page : Snapshot RecoveredPage) → last.Got page ≡ last.Failed (Exchange Dial) → ⊥
got_not_failed page is = cc

failed_by : (fault : PageFault) → last.Failed fault ≡ last.Failed (Exchange Dial) → fault ≡ Exchange Dial
failed_by fault is = cc

-- no moment more was used
pub timed_none : (now : ℕ) (was is : List ℕ) → is ≡ was → Timed now was is
timed_none now was is e = record { more = []; grown_is = e ∙ sym (append-nil was); now_is = All-nil (λ (moment : ℕ). moment ≡ now) }

-- no quest more
pub on_none : (signer : Signer) (source : Option AgainView) (aims : List Aim) (qs : List Quest) (now : ℕ) (a b : Sides) → moment_open b.is.talk ≡ moment_open a.is.talk → Recovers signer source aims qs b → RecoversOn signer source aims qs now a b
on_none signer source aims qs now a b moments r = record {
  more = [];
  row = subst (λ (rs : List Quest). Recovers signer source aims rs b) (sym (append-nil qs)) r;
  timed = timed_none now (moments_at qs a) (moments_at (qs ++ []) b) (ap (λ rs. moments_of rs ++ moment_open b.is.talk) (append-nil qs) ∙ ap (λ ms. moments_of qs ++ ms) moments);
}

some_mapped : (f : AgainView → AgainView) (again : Option AgainView) → is_some (option_map f again) ≡ is_some again
some_mapped f None = refl
some_mapped f (Some o) = refl

from_open : (signer : Signer) (again : Option AgainView) (t : OpenTalk) → AsksOf again (IsOpen signer t) → t.recovery.sought.from ≡ t.from
from_open signer None t is = absurd is
from_open signer (Some o) t is = is.from

-- the request of an open talk
request_of : (signer : Signer) (o : AgainView) (t u : OpenTalk) → IsOpen signer t o → u.recovery.sought ≡ t.recovery.sought → u.from ≡ t.from → u.moment ≡ t.moment → IsOpen signer u o
request_of signer o t u is sought from moment = record {
  to = ap (λ x. x.to) sought ∙ is.to;
  channel = ap (λ x. x.channel) sought ∙ is.channel;
  from = ap (λ x. x.from) sought ∙ is.from ∙ sym from;
  request = subst (λ now. Asks o signer now u.from u.recovery.sought.request) (ap (λ x. x.value) (sym moment))
      (subst (λ f. Asks o signer t.moment.value f u.recovery.sought.request) (sym from) (subst (λ x. Asks o signer t.moment.value t.from x.request) (sym sought) is.request));
}

-- a page that was got is short
up_to_short : (follows : Then) (to : Option (List ℕ)) (bytes : List ℕ) (link : Option (List ℕ)) (p : Told) → Ok p ≡ page_up_to follows to bytes link → is_short_page p.bytes ≡ true
up_to_short follows None bytes link p e = absurd cc
up_to_short follows (Some to) bytes link p e = by_length (nat_lt max_page (length bytes)) refl e
  where
    by_length : (b : Bool) → nat_lt max_page (length bytes) ≡ b → Ok p ≡ (if b then Err told.TooLong else Ok (record { to = to; bytes = bytes; follows = follows; link = link })) → is_short_page p.bytes ≡ true
    by_length true is e = absurd cc
    by_length false is e =
        let same : p ≡ record { to = to; bytes = bytes; follows = follows; link = link } = cc in
        ap (λ (x : Told). is_short_page x.bytes) same ∙ le-leb (length bytes) 262144 (ltb-false max_page (length bytes) is)

unheld_short : (link prev : Option (List ℕ)) (bytes from : List ℕ) (p : Told) → Ok p ≡ unheld_page link prev bytes from → is_short_page p.bytes ≡ true
unheld_short (Some link) prev bytes from p e = up_to_short Next prev bytes (Some link) p e
unheld_short None prev bytes from p e = up_to_short End (Some (unwrap_or prev from)) bytes None p e

by_short : (mode : Option Mode) (link prev : Option (List ℕ)) (bytes from : List ℕ) (p : Told) → Ok p ≡ page_by mode link prev bytes from → is_short_page p.bytes ≡ true
by_short (Some Poll) link prev bytes from p e = absurd cc
by_short (Some Held) link prev bytes from p e = up_to_short Hold prev bytes link p e
by_short None link prev bytes from p e = unheld_short link prev bytes from p e

page_short : (instruct : Option Instruct) (bytes channel from : List ℕ) (p : Told) → Ok p ≡ page instruct bytes channel from → is_short_page p.bytes ≡ true
page_short None bytes channel from p e = unheld_short None None bytes from p e
page_short (Some i) bytes channel from p e = by_short i.mode i.link (prev_on channel i.subs) bytes from p e

short_answered : (s : SoughtView) (p : RecoveredPage) → IsAnswered s p → is_short_page p.bytes ≡ true
short_answered s p is = page_short is.is.answer.instruct is.is.answer.body s.channel s.from (page_told p) is.is.page_is

module _ (signer : Signer) (source : Option AgainView) (aims : List Aim) (qs : List Quest) (now : ℕ) (stream : StreamView) (w : WireView) (s : SeatView) where
  abbrev at : Option AgainView → Talk → LineView → Sides
  at again talk l = record { is = record { stream = stream; again = again; talk = talk }; wire = w; line = l; seat = s }

  abbrev pub hold : ℕ
  hold = stream.hold.number

  -- an open talk
  module _ (again : Option AgainView) (t : OpenTalk) (l m : LineView) (moved : MovedLine l m) (r : Recovers signer source aims qs (at again (Open t) l)) where
    idle_then : IsIdle m.start → SeeksRow l (aims ++ aims_of qs) t.recovery
    idle_then alone = r.stood.talk.1.talks (subst IsIdle moved.start alone)

    dialed_then : Dialed m qs
    dialed_then = dialed_on l m qs moved r.stood.dialed

    -- goes on
    pub goes_on : (next : OpenTalk) → GoesOn t next l m → Recovers signer source aims qs (at again (Open next) m)
    goes_on next g = record {
      stood = record {
        again = r.stood.again;
        asked = r.stood.asked;
        ids = r.stood.ids ∙ ap (λ f. ids_of qs ++ f ∷ []) (sym g.from);
        talk = (
          r.stood.talk.0,
          record {
            is = asks_map again (IsOpen signer t) (IsOpen signer next) (λ o is. request_of signer o t next is g.sought g.from g.moment) r.stood.talk.1.is;
            live = g.live;
            early = g.early;
            talks = λ alone. g.row (aims ++ aims_of qs) (idle_then alone);
          },
        );
        dialed = dialed_then;
      };
      spec = r.spec;
      spec_is = r.spec_is;
      linked = r.linked;
      asking = r.asking;
    }

    -- is over
    abbrev pub quest : Sought → Quest
    quest so = record { moment = t.moment.value; sought = so }

    module _ (so : Sought) (sought : so.sought ≡ t.recovery.sought) (next : Option AgainView) (is_next : next ≡ option_map (λ (o : AgainView). after_quest o (quest so)) again)
        (row : SeeksRow l (aims ++ aims_of qs) t.recovery → LineRow m ((aims ++ aims_of qs) ++ aim_sought so ∷ []) idle) (came : CameTo so.end) (rises : FailedByDial (quest so) → Rose l.dial.faults m.dial.faults) where
      dialed_all : Dialed m (qs ++ quest so ∷ [])
      dialed_all = record { later = dialed_then.later; rises = λ q there is. rises_in q is (Contains-append_cases qs (quest so ∷ []) q there) }
        where
          rises_in : (q : Quest) → FailedByDial q → Contains qs q ⊎ Contains (quest so ∷ []) q → Rose m.start.faults m.dial.faults
          rises_in q is (inl before) = dialed_then.rises q before is
          rises_in q is (inr last) = faults_in l m moved r.stood.dialed.later (rises (subst FailedByDial (one_contained (quest so) q last) is))

      after_all : next ≡ option_map (λ (o : AgainView). after_quests o (qs ++ quest so ∷ [])) source
      after_all = is_next ∙ ap (option_map (λ (o : AgainView). after_quest o (quest so))) r.stood.again ∙ sym (again_more source qs (quest so))

      quest_by : (o : AgainView) → IsOpen signer t o → IsQuestBy o signer (quest so)
      quest_by o is = record {
        to = ap (λ x. x.to) sought ∙ is.to;
        channel = ap (λ x. x.channel) sought ∙ is.channel;
        request = subst (λ x. Asks o signer t.moment.value x.from x.request) (sym sought) (subst (λ f. Asks o signer t.moment.value f t.recovery.sought.request) (sym is.from) is.request);
        came = came;
      }

      asked_all : AreAsked signer source (qs ++ quest so ∷ [])
      asked_all =
          asked_more signer source qs (quest so) r.stood.asked
          (subst (λ (x : Option AgainView). AsksOf x (λ o. IsQuestBy o signer (quest so))) r.stood.again (asks_map again (IsOpen signer t) (λ o. IsQuestBy o signer (quest so)) quest_by r.stood.talk.1.is))

      from_is : so.sought.from ≡ t.from
      from_is = ap (λ x. x.from) sought ∙ from_open signer again t r.stood.talk.1.is

      ids_all : recovers_at s hold ≡ ids_of (qs ++ quest so ∷ []) ++ []
      ids_all = r.stood.ids ∙ ap (λ f. ids_of qs ++ f ∷ []) (sym from_is) ∙ sym (ids_more qs (quest so)) ∙ sym (append-nil (ids_of (qs ++ quest so ∷ [])))

      moments_all : moments_of (qs ++ quest so ∷ []) ++ [] ≡ moments_of qs ++ t.moment.value ∷ []
      moments_all = append-nil (moments_of (qs ++ quest so ∷ [])) ∙ moments_more qs (quest so)

      over_all : IsOver m aims (qs ++ quest so ∷ [])
      over_all = λ alone. subst (λ all. LineRow m all idle) (aims_more aims qs (quest so)) (row (idle_then alone))

      untold_all : (events : List Event) → event_of hold (quest so) ≡ events → UntoldRow s hold (qs ++ quest so ∷ []) events
      untold_all events is = record { done = qs; last = quest so; all = refl; event = is; pages = r.stood.talk.0 }

      linked_all : is_some next ≡ is_some again
      linked_all = ap is_some is_next ∙ some_mapped (λ (o : AgainView). after_quest o (quest so)) again

      pub page_on : (page : StreamPage) → event_of hold (quest so) ≡ page_event hold page ∷ [] → is_short_page page.bytes ≡ true → RecoversOn signer source aims qs now (at again (Open t) l) (at next (Page page) m)
      page_on page is short = record {
        more = quest so ∷ [];
        row = record {
          stood = record { again = after_all; asked = asked_all; ids = ids_all; talk = (untold_all (page_event hold page ∷ []) is, over_all, short); dialed = dialed_all };
          spec = r.spec;
          spec_is = r.spec_is;
          linked = r.linked ∙ sym linked_all;
          asking = λ talking. r.asking tt;
        };
        timed = timed_none now (moments_of qs ++ t.moment.value ∷ []) (moments_of (qs ++ quest so ∷ []) ++ []) moments_all;
      }

      pub failed_on : event_of hold (quest so) ≡ event.PageFailed hold ∷ [] → RecoversOn signer source aims qs now (at again (Open t) l) (at next Failed m)
      failed_on is = record {
        more = quest so ∷ [];
        row = record {
          stood = record { again = after_all; asked = asked_all; ids = ids_all; talk = (untold_all (event.PageFailed hold ∷ []) is, over_all); dialed = dialed_all };
          spec = r.spec;
          spec_is = r.spec_is;
          linked = r.linked ∙ sym linked_all;
          asking = λ talking. r.asking tt;
        };
        timed = timed_none now (moments_of qs ++ t.moment.value ∷ []) (moments_of (qs ++ quest so ∷ []) ++ []) moments_all;
      }

    cut_by : (cut : Option Aim) → IfSome cut (λ (aim : Aim). (aim.to ≡ t.recovery.sought.to) × (aim.request ≡ t.recovery.sought.request)) → IfSome cut (λ (aim : Aim). AsksOf (option_map (λ (o : AgainView). after_quests o qs) source) (λ o. IsCutTalk signer o aim))
    cut_by None is = tt
    cut_by (Some aim) is =
        subst (λ (x : Option AgainView). AsksOf x (λ o. IsCutTalk signer o aim)) r.stood.again
        (asks_map again (IsOpen signer t) (λ o. IsCutTalk signer o aim)
        (λ o of_open. record { to = is.0 ∙ of_open.to; moment = t.moment.value; from = t.from; request = subst (λ (x : List ℕ). Asks o signer t.moment.value t.from x) (sym is.1) of_open.request }) r.stood.talk.1.is)

    -- is over for want of memory
    pub lost_on : (next : Option AgainView) → LostPage t l m → ClosedOn signer source aims qs now (at again (Open t) l) (at next NoTalk m)
    lost_on next g = record {
      more = [];
      row = subst (λ (rs : List Quest). Closed signer source aims rs hold m s) (sym (append-nil qs)) (record {
        asked = r.stood.asked;
        cut = g.cut;
        cut_is = cut_by g.cut g.cut_is;
        talks = λ alone. g.row (aims ++ aims_of qs) (idle_then alone);
        told = events_of hold qs;
        untold = None;
        events = sym (append-nil (events_of hold qs));
        pages = r.stood.talk.0;
        open_id = Some t.from;
        more = None;
        ids = r.stood.ids;
        dialed = dialed_then;
      });
      dropped = Some t.moment.value;
      timed = timed_none now (moments_of qs ++ t.moment.value ∷ []) (moments_of (qs ++ []) ++ t.moment.value ∷ []) (ap (λ rs. moments_of rs ++ t.moment.value ∷ []) (append-nil qs));
    }

module _ (signer : Signer) (source : Option AgainView) (aims : List Aim) (qs : List Quest) (now : ℕ) (stream : StreamView) (w : WireView) (s : SeatView) where
  abbrev view : Option AgainView → Talk → RecoveringView
  view again talk = record { stream = stream; again = again; talk = talk }

  abbrev behind : Option AgainView → Talk → LineView → Sides
  behind again talk l = record { is = view again talk; wire = w; line = l; seat = s }

  same_again : (again : Option AgainView) (q : Quest) → ((o : AgainView) → after_quest o q ≡ o) → again ≡ option_map (λ (o : AgainView). after_quest o q) again
  same_again None q e = refl
  same_again (Some o) q e = ap (λ (x : AgainView). Some x) (sym (e o))

  -- what a poll of an open talk did
  open_on : (again : Option AgainView) (t : OpenTalk) (u : RecoveringView) (l m : LineView) (room : Bool) → room ≡ true → MovedLine l m → Recovers signer source aims qs (behind again (Open t) l)
      → SeeksOpen t (view again (Open t)) u l m room → RecoversOn signer source aims qs now (behind again (Open t) l) (behind u.again u.talk m)
  open_on again t u l m room holds moved r (waits next is asks_is g) =
      on_none signer source aims qs now (behind again (Open t) l) (behind u.again u.talk m) (ap moment_open is ∙ ap (λ (x : Snapshot ℕ). x.value ∷ []) g.moment)
      (subst (λ (x : Talk). Recovers signer source aims qs (behind u.again x m)) (sym is) (subst (λ (a : Option AgainView). Recovers signer source aims qs (behind a (Open next) m)) (sym asks_is) (goes_on signer source aims qs now stream w s again t l m moved r next g)))
  open_on again t u l m room holds moved r (got page link is asks_is g) =
      let so : Sought = record { sought = t.recovery.sought; at = g.at; end = last.Got g.got } in
      subst (λ (x : Talk). RecoversOn signer source aims qs now (behind again (Open t) l) (behind u.again x m)) (sym is)
      (page_on signer source aims qs now stream w s again t l m moved r so refl u.again (asks_is ∙ ap (λ k. follow k again) g.link_is) (g.row (aims ++ aims_of qs)) tt (λ dial. absurd (got_not_failed g.got dial)) page
      (ap (λ f. event.Page stream.hold.number f g.got.value.to g.got.value.bytes g.got.value.then ∷ []) (from_open signer again t r.stood.talk.1.is) ∙ ap (λ p. page_event stream.hold.number p ∷ []) (sym g.page_is))
      (ap (λ p. is_short_page p.bytes) g.page_is ∙ short_answered t.recovery.sought g.got.value g.answered))
  open_on again t u l m room holds moved r (failed is asks_is g) =
      let so : Sought = record { sought = t.recovery.sought; at = g.at; end = last.Failed g.fault } in
      subst (λ (x : Talk). RecoversOn signer source aims qs now (behind again (Open t) l) (behind u.again x m)) (sym is)
      (failed_on signer source aims qs now stream w s again t l m moved r so refl u.again (asks_is ∙ same_again again (record { moment = t.moment.value; sought = so }) (λ o. refl)) (g.row (aims ++ aims_of qs)) tt (λ dial. g.rises r.stood.talk.1.early (failed_by g.fault dial)) refl)
  open_on again t u l m room holds moved r (lost is asks_is g) = absurd (let both : false ≡ true = holds in (cc))

  still_on : (again : Option AgainView) (talk : Talk) (u : RecoveringView) (l m : LineView) → Recovers signer source aims qs (behind again talk l) → u.talk ≡ talk → u.again ≡ again → m ≡ l
      → RecoversOn signer source aims qs now (behind again talk l) (behind u.again u.talk m)
  still_on again talk u l m r is asks_is line =
      on_none signer source aims qs now (behind again talk l) (behind u.again u.talk m) (ap moment_open is)
      (subst (λ (x : Talk). Recovers signer source aims qs (behind u.again x m)) (sym is) (subst (λ (a : Option AgainView). Recovers signer source aims qs (behind a talk m)) (sym asks_is) (subst (λ (x : LineView). Recovers signer source aims qs (behind again talk x)) (sym line) r)))

  sought_by : (again : Option AgainView) (talk : Talk) (u : RecoveringView) (l m : LineView) → MovedLine l m → Recovers signer source aims qs (behind again talk l) → SeeksAs talk (view again talk) u l m true
      → RecoversOn signer source aims qs now (behind again talk l) (behind u.again u.talk m)
  sought_by again NoTalk u l m moved r e = still_on again NoTalk u l m r e.talk e.again e.line
  sought_by again (Open t) u l m moved r e = open_on again t u l m true refl moved r e
  sought_by again (Page page) u l m moved r e = still_on again (Page page) u l m r e.talk e.again e.line
  sought_by again Failed u l m moved r e = still_on again Failed u l m r e.talk e.again e.line

-- the rows go on behind it
pub sought_on : (signer : Signer) (now : ℕ) (a : Sides) (u : RecoveringView) (m : LineView) → Seeks a.is u a.line m true → (source : Option AgainView) (aims : List Aim) (qs : List Quest) → Recovers signer source aims qs a
    → RecoversOn signer source aims qs now a (record a { is = u; line = m })
sought_on signer now a u m e source aims qs r =
    subst (λ (x : StreamView). RecoversOn signer source aims qs now a (record { is = record { stream = x; again = u.again; talk = u.talk }; wire = a.wire; line = m; seat = a.seat })) (sym e.stream)
    (sought_by signer source aims qs now a.is.stream a.wire a.seat a.is.again a.is.talk u a.line m e.moved r e.says)

lost_by : (signer : Signer) (source : Option AgainView) (aims : List Aim) (qs : List Quest) (now : ℕ) (stream : StreamView) (w : WireView) (s : SeatView) (again : Option AgainView) (talk : Talk) (u : RecoveringView) (l m : LineView) (room : Bool) → room ≡ false → MovedLine l m
    → Recovers signer source aims qs (record { is = record { stream = stream; again = again; talk = talk }; wire = w; line = l; seat = s }) → SeeksAs talk (record { stream = stream; again = again; talk = talk }) u l m room
    → ClosedOn signer source aims qs now (record { is = record { stream = stream; again = again; talk = talk }; wire = w; line = l; seat = s }) (record { is = record { stream = stream; again = u.again; talk = NoTalk }; wire = w; line = m; seat = s })
lost_by signer source aims qs now stream w s again NoTalk u l m room never moved r e = absurd (let both : false ≡ true = sym never ∙ e.room_is in (cc))
lost_by signer source aims qs now stream w s again (Page page) u l m room never moved r e = absurd (let both : false ≡ true = sym never ∙ e.room_is in (cc))
lost_by signer source aims qs now stream w s again Failed u l m room never moved r e = absurd (let both : false ≡ true = sym never ∙ e.room_is in (cc))
lost_by signer source aims qs now stream w s again (Open t) u l m room never moved r (waits next is asks_is g) = absurd (let both : true ≡ false = never in (cc))
lost_by signer source aims qs now stream w s again (Open t) u l m room never moved r (got page link is asks_is g) = absurd (let both : true ≡ false = never in (cc))
lost_by signer source aims qs now stream w s again (Open t) u l m room never moved r (failed is asks_is g) = absurd (let both : true ≡ false = never in (cc))
lost_by signer source aims qs now stream w s again (Open t) u l m room never moved r (lost is asks_is g) = lost_on signer source aims qs now stream w s again t l m moved r u.again g

closed_at : (signer : Signer) (source : Option AgainView) (aims : List Aim) (qs : List Quest) (now : ℕ) (a b c : Sides) → hold_of c ≡ hold_of b → c.line ≡ b.line → c.seat ≡ b.seat → ClosedOn signer source aims qs now a b → ClosedOn signer source aims qs now a c
closed_at signer source aims qs now a b c hold line seat o = record {
  more = o.more;
  row = subst (λ (n : ℕ). Closed signer source aims (qs ++ o.more) n c.line c.seat) (sym hold) (subst (λ (l : LineView). Closed signer source aims (qs ++ o.more) (hold_of b) l c.seat) (sym line) (subst (λ (s : SeatView). Closed signer source aims (qs ++ o.more) (hold_of b) b.line s) (sym seat) o.row));
  dropped = o.dropped;
  timed = o.timed;
}

-- or end with it, where memory is wanting
pub sought_lost : (signer : Signer) (now : ℕ) (a : Sides) (u : RecoveringView) (m : LineView) → Seeks a.is u a.line m false → (source : Option AgainView) (aims : List Aim) (qs : List Quest) → Recovers signer source aims qs a
    → ClosedOn signer source aims qs now a (record a { is = u; line = m })
sought_lost signer now a u m e source aims qs r =
    closed_at signer source aims qs now a (record { is = record { stream = a.is.stream; again = u.again; talk = NoTalk }; wire = a.wire; line = m; seat = a.seat }) (record a { is = u; line = m }) (ap (λ (v : StreamView). v.hold.number) e.stream) refl refl
    (lost_by signer source aims qs now a.is.stream a.wire a.seat a.is.again a.is.talk u a.line m false refl e.moved r e.says)
