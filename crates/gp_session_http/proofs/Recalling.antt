-- What a stream that was attached says of what it asks for, before it has asked.
use Rattle.std.proofs.Common.{◌≡◌, ℕ, List, [], ◌∷◌, ◌++◌, refl, sym, ap, ◌∙◌, subst, append-nil, append_assoc, Bool, true, false, Option, Some, None, IfSome, option_map, is_some, arith}
use Rattle.std.specs.List.{Contains}
use Rattle.std.specs.Option.{option_map_or, option_to_list}
use Rattle.std.proofs.lemmas.Grind.{flat_map-append}
use Rattle.gp_plain.specs.Holds.{terms_of}
use Rattle.gp_plain.specs.Others.{Share}
use Rattle.gp_plain.specs.declared.event.Entry.{Entry}
use Rattle.gp_plain.specs.declared.event.Event.{Event}
use Rattle.gp_plain.specs.declared.event.Event.TheVariants.{Detach}
use Rattle.gp_plain.specs.declared.event.HoldSpec.{HoldSpec}
use Rattle.gp_plain.specs.declared.event.HoldSpec.TheVariants.{Stream as StreamSpec, Plain, Response, Socket}
use Rattle.gp_plain.specs.declared.http.Signer.{Signer}
use Rattle.gp_outside.specs.Dials.{DialLater, IsIdle}
use Rattle.gp_instruct.specs.Spec.{held_by, only_prev, stream_spec}
use Rattle.gp_instruct.specs.declared.instruct.Instruct.{Instruct}
use Rattle.gp_instruct.specs.declared.instruct.Mode.{Mode as Hold}
use Rattle.gp_instruct.specs.declared.instruct.Mode.TheVariants.{Response as Poll, Stream as Open}
use Rattle.gp_instruct.specs.declared.instruct.Sub.{Sub}
use Rattle.gp_instruct.specs.Targets.{IsTarget}
use Rattle.gp_instruct_json.specs.declared.answer.Answer.{Answer}
use Rattle.gp_exchange.specs.Views.{ExchangeView}
use Rattle.gp_again.specs.Links.{HasTarget}
use Rattle.gp_again.specs.Views.{AgainView}
use Rattle.gp_session.specs.Lines.{Aim, LineRow, LineView, idle}
use Rattle.gp_session.specs.Seats.{SeatView}
use Rattle.gp_session.specs.Seeking.{SeeksRow, aims_at, last_at}
use Rattle.gp_session.specs.Wires.{WireView}
use Rattle.gp_hub.specs.Own.{mine}
use Rattle.gp_hub.specs.Passes.{entry_of}
use Rattle.gp_session.specs.Holding.{LetsGo}
use Rattle.gp_session.specs.declared.holding.LetGo.{LetGo}
use Rattle.gp_session.specs.declared.holding.LetGo.TheVariants as let_go
use Rattle.gp_session_hold.specs.Leaves.{LeavesHold}
use Rattle.gp_session_hold.specs.Rows.{IsKept, KeptView, PagesRow, page_in, pages_in, recovers_at, share_of_hold, spec_at}
use Rattle.gp_session_hold.proofs.Rowing.{pages_same}
use Rattle.gp_session_hold.specs.Streams.{StreamView}
use Rattle.gp_recover.specs.Views.{RecoveryView}
use Rattle.gp_recover.specs.declared.stage.Stage.{Stage}
use Rattle.gp_recover.specs.declared.stage.Stage.TheVariants as stage
use Rattle.gp_session_recover.specs.Quests.{AreAsked, Quest, after_quests, aims_of as aims_quested}
use Rattle.gp_session_recover.specs.Rows.{Closed, RecoveringView, Recovers, Sides, TalkRow, sides}
use Rattle.gp_session_recover.specs.declared.talk.Talk.{Talk}
use Rattle.gp_session_recover.specs.declared.talk.Talk.TheVariants as talk
use Rattle.gp_session_http.specs.declared.asked.Asked.{Asked}
use Rattle.gp_session_http.specs.declared.grant.Grant.{Grant}
use Rattle.gp_session_http.specs.declared.attaching.Attaching.{Attaching}
use Rattle.gp_session_http.specs.declared.grant.Wanted.{Wanted}
use Rattle.gp_session_http.specs.Grants.{AsksFor, IsAttachingOf, IsGrantOf, IsWanted, IsHoldOf, IsPrepared, hold_by, link_of, source_at, source_of}
use Rattle.gp_session_http.specs.Heard.{BeginsTalks}

-- a hold has a link where there is someone to ask

stream_linked : (asked : Asked) (link : Option (List ℕ)) (body : List ℕ) (subs : List Sub) (prev : Option (List ℕ)) → (terms_of (stream_spec body subs prev (is_some link))).link ≡ is_some (source_at asked link (stream_spec body subs prev (is_some link)))
stream_linked asked link body subs None = refl
stream_linked asked link body [] (Some prev) = refl
stream_linked asked None body (sub ∷ more) (Some prev) = refl
stream_linked asked (Some uri) body (sub ∷ more) (Some prev) = refl

held_linked : (asked : Asked) (mode : Option Hold) (instruct : Instruct) (body : List ℕ) (now : ℕ) (held : HoldSpec) → held_by mode instruct body now false ≡ Some held → (terms_of held).link ≡ is_some (source_at asked instruct.link held)
held_linked asked None instruct body now held e = absurd (let no : None ≡ Some held = e in (cc))
held_linked asked (Some Open) instruct body now held e =
    let same : stream_spec body instruct.subs (only_prev instruct.subs) (is_some instruct.link) ≡ held = cc in
    subst (λ (h : HoldSpec). (terms_of h).link ≡ is_some (source_at asked instruct.link h)) same (stream_linked asked instruct.link body instruct.subs (only_prev instruct.subs))
held_linked asked (Some Poll) instruct body now (StreamSpec opening channel prev link) e = absurd (cc)
held_linked asked (Some Poll) instruct body now (Plain opening channels) e = refl
held_linked asked (Some Poll) instruct body now (Response channels prev deadline again) e = refl
held_linked asked (Some Poll) instruct body now Socket e = refl

linked_by : (asked : Asked) (instruct : Option Instruct) (body : List ℕ) (now : ℕ) (held : HoldSpec) → hold_by instruct body now ≡ Some held → (terms_of held).link ≡ is_some (source_at asked (link_of instruct) held)
linked_by asked None body now held e = absurd (let no : None ≡ Some held = e in (cc))
linked_by asked (Some instruct) body now held e = held_linked asked instruct.mode instruct body now held e

pub linked_of : (g : Grant) (held : HoldSpec) → AsksFor g held → (terms_of held).link ≡ is_some (source_of g held)
linked_of g held e = linked_by g.asked.value g.answer.value.instruct g.answer.value.body g.asked.value.moment held e

-- what an answer asks for

pub target_of : (o : Option Instruct) → IfSome o HasTarget → IfSome (link_of o) IsTarget
target_of None is = tt
target_of (Some instruct) is = is

pub prepared_by : (asked : Asked) (x : ExchangeView) (answer : Answer) (grant : Grant) (g : Wanted) (a : Attaching) → IsGrantOf asked x answer grant → IsWanted answer asked.request.head.version asked.moment g → IsAttachingOf grant asked g a → IsPrepared asked x answer a
prepared_by asked x answer grant g a granted asks is = record {
  grant = subst (IsGrantOf asked x answer) (sym is.grant_is) granted;
  head = is.head_is ∙ asks.head;
  spec_is = subst (IsHoldOf answer asked.moment) (sym is.spec_is) asks.spec_is;
  again = is.again ∙ ap (λ (k : Option (List ℕ)). source_at asked k g.spec) asks.link_is ∙ ap (source_at asked (link_of answer.instruct)) (sym is.spec_is);
}

-- nothing was asked yet

none_quested : (q : Quest) → Contains [] q → ⊥
none_quested q (k, lt, at) = absurd (omega (arith, lt))

none_asked : (signer : Signer) (source : Option AgainView) → AreAsked signer source []
none_asked signer None = refl
none_asked signer (Some o) = tt

after_none : (source : Option AgainView) → option_map (λ (o : AgainView). after_quests o []) source ≡ source
after_none None = refl
after_none (Some o) = refl

module _ (signer : Signer) (source : Option AgainView) (aims : List Aim) (l : LineView) (s : SeatView) (hold : KeptView) (share : Share) (there : share_of_hold s hold.number ≡ Some share) (unmissed : share.recovers ≡ []) (pages : PagesRow s [])
    (alone : IsIdle l.start → LineRow l aims idle) (later : DialLater l.start l.dial) where
  no_ids : recovers_at s hold.number ≡ []
  no_ids = ap (λ (o : Option Share). option_map_or (λ (h : Share). h.recovers) o []) there ∙ unmissed

  pub recovers_first : (terms_of share.spec).link ≡ is_some source → (chunked : Bool) (head : List ℕ) (again : Option AgainView) → again ≡ source → (x : WireView)
      → Recovers signer source aims [] (sides (record { stream = record { hold = hold; chunked = chunked; head = head }; again = again; talk = talk.None }) x l s)
  recovers_first linked chunked head again is x = record {
    stood = record {
      again = is ∙ sym (after_none source);
      asked = none_asked signer source;
      ids = no_ids;
      talk = (pages, λ idle_is. subst (λ (all : List Aim). LineRow l all idle) (sym (append-nil aims)) (alone idle_is));
      dialed = record { later = later; rises = λ q there is. absurd (none_quested q there) };
    };
    spec = share.spec;
    spec_is = ap (option_map (λ (h : Share). h.spec)) there;
    linked = linked ∙ ap is_some (sym is);
    asking = λ talking. absurd talking;
  }

  pub closed_first : Closed signer source aims [] hold.number l s
  closed_first = record {
    asked = none_asked signer source;
    cut = None;
    cut_is = tt;
    talks = λ idle_is. subst (λ (all : List Aim). LineRow l all idle) (sym (append-nil (aims ++ []) ∙ append-nil aims)) (alone idle_is);
    told = [];
    untold = None;
    events = refl;
    pages = pages;
    open_id = None;
    more = None;
    ids = no_ids;
    dialed = record { later = later; rises = λ q there is. absurd (none_quested q there) };
  }

-- what was said before stands behind what is asked later

pub begins_alone : (l : LineView) (aims : List Aim) → (IsIdle l.start → LineRow l aims idle) → BeginsTalks l aims
begins_alone l aims row = record { more = []; last = idle; row = λ idle_is. subst (λ (all : List Aim). LineRow l all idle) (sym (append-nil aims)) (row idle_is) }

begins_seeking : (l : LineView) (aims more : List Aim) (r : RecoveryView) (st : Stage) → r.stage ≡ st → (IsIdle l.start → SeeksRow l (aims ++ more) r) → BeginsTalks l aims
begins_seeking l aims more r st is row = record {
  more = aims_at r.sought r.stage more;
  last = last_at r.sought r.stage;
  row = λ idle_is. subst (λ (all : List Aim). LineRow l all (last_at r.sought r.stage)) (at_behind r.stage) (row idle_is);
}
  where
    at_behind : (s : Stage) → aims_at r.sought s (aims ++ more) ≡ aims ++ aims_at r.sought s more
    at_behind (stage.Unbegun unbegun) = refl
    at_behind (stage.Heading heading) = refl
    at_behind (stage.Reading reading) = refl
    at_behind (stage.Over over) = append_assoc aims more _
    at_behind stage.Lost = refl

talk_begins : (signer : Signer) (again : Option AgainView) (l : LineView) (s : SeatView) (n : ℕ) (aims : List Aim) (qs : List Quest) (t : Talk) → TalkRow signer again l s n aims qs t → BeginsTalks l aims
talk_begins signer again l s n aims qs talk.None r = record { more = aims_quested qs; last = idle; row = r.1 }
talk_begins signer again l s n aims qs (talk.Open t) r = begins_seeking l aims (aims_quested qs) t.recovery t.recovery.stage refl r.1.talks
talk_begins signer again l s n aims qs (talk.Page page) r = record { more = aims_quested qs; last = idle; row = r.1 }
talk_begins signer again l s n aims qs talk.Failed r = record { more = aims_quested qs; last = idle; row = r.1 }

pub recovers_begins : (signer : Signer) (source : Option AgainView) (aims : List Aim) (qs : List Quest) (a : Sides) → Recovers signer source aims qs a → BeginsTalks a.line aims
recovers_begins signer source aims qs a r = talk_begins signer a.is.again a.line a.seat a.is.stream.hold.number aims qs a.is.talk r.stood.talk

pub closed_begins : (signer : Signer) (source : Option AgainView) (aims : List Aim) (qs : List Quest) (hold : ℕ) (l : LineView) (s : SeatView) → Closed signer source aims qs hold l s → BeginsTalks l aims
closed_begins signer source aims qs hold l s c = record {
  more = aims_quested qs ++ option_to_list c.cut;
  last = idle;
  row = λ idle_is. subst (λ (all : List Aim). LineRow l all idle) (append_assoc aims (aims_quested qs) (option_to_list c.cut)) (c.talks idle_is);
}

-- a hold that was let go

pub pages_let_go : (s t : SeatView) → t.pass.number ≡ s.pass.number → (n : ℕ) (answer : LetGo) → LetsGo s t n answer → (pages : List Event) → PagesRow s pages → PagesRow t pages
pages_let_go s t number n let_go.Gone a pages row =
    ap pages_in a.served.made.mine ∙ flat_map-append (λ (entry : Entry). page_in entry.event) (mine s.pass) (entry_of s.pass.number (Detach n) ∷ []) ∙ append-nil (pages_in (mine s.pass)) ∙ row
pages_let_go s t number n let_go.Busy a pages row = pages_same s t number a.seen pages row
pages_let_go s t number n let_go.Worn a pages row = pages_same s t number a.seen pages row

abbrev missed_by : Option Share → List (List ℕ)
missed_by o = option_map_or (λ (h : Share). h.recovers) o []

pub missed_let_go : (s t : SeatView) (hold : KeptView) (answer : LetGo) (share : Share) → IsKept s hold share → LeavesHold t hold share answer → recovers_at t hold.number ≡ recovers_at s hold.number
missed_let_go s t hold let_go.Gone share k l = ap missed_by l.there ∙ sym (ap missed_by k.there)
missed_let_go s t hold let_go.Busy share k l = ap missed_by l.there ∙ sym (ap missed_by k.there)
missed_let_go s t hold let_go.Worn share k l = ap missed_by l.there ∙ sym (ap missed_by k.there)
