-- What the end of a stream does to the rows of the recoveries.
use Rattle.std.proofs.Common.{◌≡◌, ℕ, zero, suc, List, [], ◌∷◌, ◌++◌, refl, sym, ap, ◌∙◌, subst, append_assoc, append-nil, Option, Some, None, IfSome, option_map}
use Rattle.std.specs.Option.{option_to_list}
use Rattle.gp_plain.specs.declared.event.Event.{Event}
use Rattle.gp_plain.specs.declared.event.Event.TheVariants as event
use Rattle.gp_plain.specs.declared.http.Signer.{Signer}
use Rattle.gp_outside.specs.Dials.{IsIdle}
use Rattle.gp_exchange.specs.Answers.{rank}
use Rattle.gp_again.specs.Views.{AgainView}
use Rattle.gp_session.specs.Lines.{Aim, LineRow, LineView, MovedLine, aim_of, begun_with, idle, more_if}
use Rattle.gp_session.specs.Paging.{page_event}
use Rattle.gp_session.specs.Seats.{SeatView}
use Rattle.gp_session.specs.Seeking.{SeeksRow, said_by}
use Rattle.gp_session.specs.Wires.{WireView}
use Rattle.gp_session_hold.specs.Rows.{PagesRow, recovers_at}
use Rattle.gp_session_hold.specs.Streams.{StreamView}
use Rattle.gp_session_recover.specs.Quests.{AreAsked, Quest, after_quests, aims_of, event_of, events_of, ids_of, moments_of}
use Rattle.gp_session_recover.specs.Rows.{AsksOf, Closed, ClosesAs, Dialed, IsCutTalk, IsOpen, IsOver, RecoveringView, Recovers, Sides, Stood, TalkRow, UntoldRow, hold_of, id_open, moment_open}
use Rattle.gp_session_recover.specs.Polls.{ClosedOn, RecoversOn, Timed, moments_at}
use Rattle.gp_session_recover.specs.declared.open.Open.{Open as OpenTalk}
use Rattle.gp_session_recover.specs.declared.talk.Talk.{Talk}
use Rattle.gp_session_recover.specs.declared.talk.Talk.TheVariants.{None as NoTalk, Open, Page, Failed}
use Rattle.gp_session_recover.proofs.Asked.{asks_map, events_more}
use Rattle.gp_session_recover.proofs.Sought.{dialed_on, timed_none}

-- one talk more, where it began
abbrev cut_if : ℕ → Aim → Option Aim
cut_if zero aim = None
cut_if (suc n) aim = Some aim

more_cut : (n : ℕ) (aims : List Aim) (aim : Aim) → more_if n aims aim ≡ aims ++ option_to_list (cut_if n aim)
more_cut zero aims aim = sym (append-nil aims)
more_cut (suc n) aims aim = refl

cut_is_if : (n : ℕ) (aim : Aim) (Is : Aim → Type 0) → Is aim → IfSome (cut_if n aim) Is
cut_is_if zero aim Is is = tt
cut_is_if (suc n) aim Is is = is

module _ (signer : Signer) (source : Option AgainView) (aims : List Aim) (qs : List Quest) (stream : StreamView) (again : Option AgainView) (w : WireView) (l m : LineView) (s : SeatView) (more : Option (List ℕ)) where
  abbrev at : Talk → Sides
  at talk = record { is = record { stream = stream; again = again; talk = talk }; wire = w; line = l; seat = s }

  over_then : (start : m ≡ l) → IsOver l aims qs → IsIdle m.start → LineRow m ((aims ++ aims_of qs) ++ []) idle
  over_then same over alone =
      subst (λ (x : LineView). LineRow x ((aims ++ aims_of qs) ++ []) idle) (sym same)
      (subst (λ (all : List Aim). LineRow l all idle) (sym (append_assoc aims (aims_of qs) [] ∙ ap (λ xs. aims ++ xs) (append-nil (aims_of qs)))) (over (subst (λ (x : LineView). IsIdle x.start) same alone)))

  -- the hub wasn't told of the last quest
  dialed_at : MovedLine l m → Dialed l qs → Dialed m qs
  dialed_at moved d = dialed_on l m qs moved d

  untold_shut : (talk : Talk) (e : Event) → MovedLine l m → id_open talk ≡ [] → Stood signer source aims qs (at talk) more → m ≡ l → UntoldRow s stream.hold.number qs (e ∷ []) → IsOver l aims qs → Closed signer source aims qs stream.hold.number m s
  untold_shut talk e moved none r same row over = record {
    asked = r.asked;
    cut = None;
    cut_is = tt;
    talks = over_then same over;
    told = events_of stream.hold.number row.done;
    untold = Some e;
    events = ap (events_of stream.hold.number) row.all ∙ events_more stream.hold.number row.done row.last ∙ ap (λ xs. events_of stream.hold.number row.done ++ xs) row.event;
    pages = row.pages;
    open_id = None;
    more = more;
    ids = r.ids ∙ ap (λ xs. ids_of qs ++ (xs ++ option_to_list more)) none;
    dialed = dialed_at moved r.dialed;
  }

  pub shut : (talk : Talk) → MovedLine l m → Stood signer source aims qs (at talk) more → ClosesAs talk l m → Closed signer source aims qs stream.hold.number m s
  shut NoTalk moved r c = record {
    asked = r.asked;
    cut = None;
    cut_is = tt;
    talks = over_then c r.talk.1;
    told = events_of stream.hold.number qs;
    untold = None;
    events = sym (append-nil (events_of stream.hold.number qs));
    pages = r.talk.0;
    open_id = None;
    more = more;
    ids = r.ids;
    dialed = dialed_at moved r.dialed;
  }
  shut (Open t) moved r c =
      let aim : Aim = aim_of (said_by t.recovery) in
      let n : ℕ = rank (said_by t.recovery).exchange.place in
      record {
        asked = r.asked;
        cut = cut_if n aim;
        cut_is = cut_is_if n aim (λ (x : Aim). AsksOf (option_map (λ (o : AgainView). after_quests o qs) source) (λ o. IsCutTalk signer o x))
            (subst (λ (x : Option AgainView). AsksOf x (λ o. IsCutTalk signer o aim)) r.again
            (asks_map again (IsOpen signer t) (λ o. IsCutTalk signer o aim) (λ o is. record { to = is.to; moment = t.moment.value; from = t.from; request = is.request }) r.talk.1.is));
        talks = λ alone. subst (λ (all : List Aim). LineRow m all idle) (more_cut n (aims ++ aims_of qs) aim) (c (aims ++ aims_of qs) (r.talk.1.talks (subst IsIdle moved.start alone)));
        told = events_of stream.hold.number qs;
        untold = None;
        events = sym (append-nil (events_of stream.hold.number qs));
        pages = r.talk.0;
        open_id = Some t.from;
        more = more;
        ids = r.ids;
        dialed = dialed_at moved r.dialed;
      }
  shut (Page page) moved r c = untold_shut (Page page) (page_event stream.hold.number page) moved refl r c r.talk.0 r.talk.1
  shut Failed moved r c = untold_shut Failed (event.PageFailed stream.hold.number) moved refl r c r.talk.0 r.talk.1

-- the moment of a talk that was cut
abbrev dropped_of : Talk → Option ℕ
dropped_of NoTalk = None
dropped_of (Open t) = Some t.moment.value
dropped_of (Page page) = None
dropped_of Failed = None

dropped_is : (talk : Talk) → option_to_list (dropped_of talk) ≡ moment_open talk
dropped_is NoTalk = refl
dropped_is (Open t) = refl
dropped_is (Page page) = refl
dropped_is Failed = refl

-- a stream that ends behind so many quests
pub shut_on : (signer : Signer) (source : Option AgainView) (aims : List Aim) (qs rs : List Quest) (now : ℕ) (a b c : Sides) (more : Option (List ℕ)) → Stood signer source aims rs b more → (new : List Quest) → rs ≡ qs ++ new → Timed now (moments_at qs a) (moments_at rs b)
    → hold_of c ≡ hold_of b → c.seat ≡ b.seat → MovedLine b.line c.line → ClosesAs b.is.talk b.line c.line → ClosedOn signer source aims qs now a c
shut_on signer source aims qs rs now a b c more r new all timed hold seat moved closes = record {
  more = new;
  row = subst (λ (xs : List Quest). Closed signer source aims xs (hold_of c) c.line c.seat) all
      (subst (λ (n : ℕ). Closed signer source aims rs n c.line c.seat) (sym hold) (subst (λ (x : SeatView). Closed signer source aims rs (hold_of b) c.line x) (sym seat)
      (shut signer source aims rs b.is.stream b.is.again b.wire b.line c.line b.seat more b.is.talk moved r closes)));
  dropped = dropped_of b.is.talk;
  timed = record {
    more = timed.more;
    grown_is = ap (λ xs. moments_of xs ++ option_to_list (dropped_of b.is.talk)) (sym all) ∙ ap (λ ms. moments_of rs ++ ms) (dropped_is b.is.talk) ∙ timed.grown_is;
    now_is = timed.now_is;
  };
}
