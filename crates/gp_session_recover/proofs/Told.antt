-- What telling the hub of a page does to the rows of the recoveries.
use Rattle.std.proofs.Common.{true, ◌≡◌, ℕ, List, [], ◌∷◌, ◌++◌, refl, sym, ap, ◌∙◌, subst, append-nil, Option, Some, None}
use Rattle.std.specs.Option.{option_map_or, option_to_list}
use Rattle.std.specs.List.{Contains}
use Rattle.std.specs.Prelude.{option_map, slice_get}
use Rattle.gp_plain.specs.declared.event.Event.{Event}
use Rattle.gp_plain.specs.declared.event.Event.TheVariants as event
use Rattle.gp_plain.specs.declared.http.Signer.{Signer}
use Rattle.gp_plain.specs.declared.reply.HoldReport.{HoldReport}
use Rattle.gp_plain.specs.declared.reply.Reply.{Reply}
use Rattle.gp_plain.specs.History.{held}
use Rattle.gp_plain.specs.Others.{Share, shares}
use Rattle.gp_again.specs.Views.{AgainView}
use Rattle.gp_asking.specs.Asking.{IsAsking}
use Rattle.gp_hub.specs.Own.{HasMade}
use Rattle.gp_hub.specs.declared.own.FailedReply.{FailedReply}
use Rattle.gp_hub.specs.declared.own.PageReply.{PageReply}
use Rattle.gp_session.specs.Lines.{Aim, LineView, MovedLine}
use Rattle.gp_session.specs.Paging.{page_event, recovery_page}
use Rattle.gp_session.specs.Seats.{Busied, IsServed, IsWorn, MovedSeat, SeatRow, SeatView}
use Rattle.gp_session.specs.Wires.{WireView}
use Rattle.gp_session.specs.declared.paging.StreamPage.{StreamPage}
use Rattle.gp_session.proofs.Moving.{moved_wire_same}
use Rattle.gp_session_hold.specs.Rows.{HoldsRow, IsOwnEvent, KeptView, PagesRow, holds_of, kept, numbers_of, page_in, recovers_at, share_of_hold, spec_at, spec_in}
use Rattle.gp_session_hold.specs.Streams.{StreamView, Streams}
use Rattle.gp_session_hold.proofs.Owning.{contains_own}
use Rattle.gp_session_hold.proofs.Rowing.{attaches_paged, attaches_same, entries_paged, entries_same, holds_paged, holds_same, kept_paged, kept_same, pages_paged, pages_same}
use Rattle.gp_session_recover.specs.Quests.{Quest, events_of, ids_of, moments_of}
use Rattle.gp_session_recover.specs.Rows.{ClosesAs, IsOver, IsTalking, RecoveringView, Recovers, Sides, Stood, TalkRow, UntoldRow, hold_of, id_open, moment_open}
use Rattle.gp_session_recover.specs.Polls.{Brings, BringsAs, BringsPage, ClosedOn, Goes, Halts, RecoversOn, SettlesAs, Stays, TalkWaited, TalkWaitedAt, Timed, moments_at}
use Rattle.gp_session_recover.specs.declared.bringing.Brought.{Brought}
use Rattle.gp_session_recover.specs.declared.bringing.Brought.TheVariants as brought
use Rattle.gp_session_recover.specs.declared.polling.StreamPolled.TheVariants as polled
use Rattle.gp_session_recover.specs.declared.talk.Talk.{Talk}
use Rattle.gp_session_recover.specs.declared.talk.Talk.TheVariants.{None as NoTalk, Open, Page, Failed}
use Rattle.gp_session_recover.proofs.Asked.{events_more}
use Rattle.gp_session_recover.proofs.Shut.{shut_on}
use Rattle.gp_session_recover.proofs.Sought.{on_none, timed_none}
use Rattle.gp_session_recover.proofs.Turned.{moved_line_same, recovers_turned, stood_turned}

module _ (signer : Signer) (now : ℕ) (stream : StreamView) (again : Option AgainView) (w : WireView) (l : LineView) (s t : SeatView) (streams : Streams stream w s) (moved : MovedSeat s t) (row : SeatRow s → SeatRow t) where
  abbrev at : Talk → SeatView → Sides
  at talk x = record { is = record { stream = stream; again = again; talk = talk }; wire = w; line = l; seat = x }

  -- the hub wasn't asked, or didn't serve
  module _ (seen : t.pass.seen ≡ s.pass.seen) where
    goes_met : (talk next : Talk) → Goes (at talk s) (at next t)
    goes_met talk next = record {
      number = refl;
      chunked = refl;
      head = refl;
      wire = moved_wire_same w;
      received = refl;
      ends = refl;
      line = moved_line_same l;
      seat = moved;
      row = row;
      entries = entries_same s t moved.same.number seen true;
      attaches = attaches_same s t moved.same.number seen;
    }

    streams_met : Streams stream w t
    streams_met = record { share = streams.share; is = kept_same s t moved.same.number seen stream.hold streams.share streams.is; bytes = streams.bytes }

    misses_met : recovers_at t stream.hold.number ≡ recovers_at s stream.hold.number ++ []
    misses_met = ap (λ es. recovers_at (record s { pass = record s.pass { seen = es } }) stream.hold.number) seen ∙ sym (append-nil (recovers_at s stream.hold.number))

    recovers_met : (talk : Talk) (source : Option AgainView) (aims : List Aim) (qs : List Quest) → Recovers signer source aims qs (at talk s) → Recovers signer source aims qs (at talk t)
    recovers_met talk source aims qs r =
        recovers_turned signer source aims qs stream stream again talk w w l s t None refl (pages_same s t moved.same.number seen) misses_met refl
        (ap (λ es. spec_at (record s { pass = record s.pass { seen = es } }) stream.hold.number) seen)
        (λ talking asking h there. asking h (sym (ap (λ es. slice_get (held es) stream.hold.number) seen) ∙ there)) r

    pub stays_met : (talk : Talk) → IsServed t → Stays signer now (at talk s) (at talk t)
    stays_met talk free = record {
      goes = goes_met talk talk;
      holds = λ reports r. holds_same s t moved.same.number seen reports (kept stream.hold) r;
      free = λ _. free;
      sound = refl;
      streams = streams_met;
      recovers = λ source aims qs r. on_none signer source aims qs now (at talk s) (at talk t) refl (recovers_met talk source aims qs r);
    }

    closed_met : (talk next : Talk) → ClosesAs talk l l → (source : Option AgainView) (aims : List Aim) (qs : List Quest) → Recovers signer source aims qs (at talk s) → ClosedOn signer source aims qs now (at talk s) (at next t)
    closed_met talk next closes source aims qs r =
        shut_on signer source aims qs qs now (at talk s) (at talk t) (at next t) None (recovers_met talk source aims qs r).stood [] (sym (append-nil qs))
        (timed_none now (moments_at qs (at talk s)) (moments_at qs (at talk t)) refl) refl refl (moved_line_same l) closes

    pub halts_worn : (talk next : Talk) → ClosesAs talk l l → IsWorn t → Halts signer now (at talk s) (at next t) polled.Worn
    halts_worn talk next closes worn = record {
      goes = goes_met talk next;
      holds = λ reports r. holds_same s t moved.same.number seen reports (kept stream.hold) r;
      serves = worn;
      sound = tt;
      closed = closed_met talk next closes;
      says = streams_met;
    }

    pub halts_wanting : (talk next : Talk) → ClosesAs talk l l → IsServed t → Halts signer now (at talk s) (at next t) polled.NoMemory
    halts_wanting talk next closes free = record {
      goes = goes_met talk next;
      holds = λ reports r. holds_same s t moved.same.number seen reports (kept stream.hold) r;
      serves = λ _. free;
      sound = tt;
      closed = closed_met talk next closes;
      says = streams_met;
    }

  -- the hub was told
  module _ (told : Event) (reply : Reply) (made : HasMade s.pass t.pass told reply) (shares_are : shares s.pass.number t.pass.seen ≡ shares s.pass.number s.pass.seen)
      (share_is : share_of_hold t stream.hold.number ≡ share_of_hold s stream.hold.number) (bare : spec_in told ≡ []) (own : Contains (numbers_of (holds_of s)) stream.hold.number → IsOwnEvent true (numbers_of (holds_of s)) told) (page_is : page_in told ≡ told ∷ []) (free : IsServed t) where
    goes_told : (talk : Talk) → Goes (at talk s) (at NoTalk t)
    goes_told talk = record {
      number = refl;
      chunked = refl;
      head = refl;
      wire = moved_wire_same w;
      received = refl;
      ends = refl;
      line = moved_line_same l;
      seat = moved;
      row = row;
      entries = entries_paged s t moved.same.number stream.hold told reply made shares_are share_is (own (contains_own s.pass.number stream.hold.number (held s.pass.seen) streams.share streams.is.there streams.is.own));
      attaches = attaches_paged s t moved.same.number stream.hold told reply made shares_are share_is bare;
    }

    streams_told : Streams stream w t
    streams_told = record { share = streams.share; is = kept_paged s t moved.same.number stream.hold told reply made shares_are share_is streams.share streams.is; bytes = streams.bytes }

    pages_told : (qs : List Quest) → UntoldRow s stream.hold.number qs (told ∷ []) → PagesRow t (events_of stream.hold.number qs)
    pages_told qs r =
        pages_paged s t moved.same.number stream.hold told reply made shares_are share_is (events_of stream.hold.number r.done) r.pages
        ∙ ap (λ xs. events_of stream.hold.number r.done ++ xs) (page_is ∙ sym r.event)
        ∙ sym (ap (events_of stream.hold.number) r.all ∙ events_more stream.hold.number r.done r.last)

    recovers_told : (talk : Talk) → id_open talk ≡ [] → (source : Option AgainView) (aims : List Aim) (qs : List Quest) → UntoldRow s stream.hold.number qs (told ∷ []) → IsOver l aims qs → Recovers signer source aims qs (at talk s) → Recovers signer source aims qs (at NoTalk t)
    recovers_told talk none source aims qs untold over r = record {
      stood = record {
        again = r.stood.again;
        asked = r.stood.asked;
        ids = ap (λ (o : Option Share). option_map_or (λ (share : Share). share.recovers) o []) share_is ∙ r.stood.ids ∙ ap (λ xs. ids_of qs ++ (xs ++ [])) none;
        talk = (pages_told qs untold, over);
        dialed = r.stood.dialed;
      };
      spec = r.spec;
      spec_is = ap (option_map (λ (share : Share). share.spec)) share_is ∙ r.spec_is;
      linked = r.linked;
      asking = λ talking. absurd talking;
    }

    pub stays_told : (talk : Talk) → id_open talk ≡ [] → moment_open talk ≡ []
        → ((source : Option AgainView) (aims : List Aim) (qs : List Quest) → Recovers signer source aims qs (at talk s) → UntoldRow s stream.hold.number qs (told ∷ []) × IsOver l aims qs) → Stays signer now (at talk s) (at NoTalk t)
    stays_told talk none unused untold = record {
      goes = goes_told talk;
      holds = λ reports r. holds_paged s t moved.same.number stream.hold told reply made shares_are share_is reports r;
      free = λ _. free;
      sound = refl;
      streams = streams_told;
      recovers = λ source aims qs r.
          on_none signer source aims qs now (at talk s) (at NoTalk t) (sym unused) (recovers_told talk none source aims qs (untold source aims qs r).0 (untold source aims qs r).1 r);
    }

  -- what telling the hub came to, by what was to be told
  pub page_by : (page : StreamPage) (answer : Brought) (u : RecoveringView) → BringsAs (Page page) (record { stream = stream; again = again; talk = Page page }) u s t answer → SettlesAs signer now (at (Page page) s) (at u.talk t) answer
  page_by page brought.Goes u e =
      subst (λ (x : Talk). SettlesAs signer now (at (Page page) s) (at x t) brought.Goes) (sym e.0)
      (stays_told (page_event stream.hold.number page) _ e.1.served.1.made e.1.served.1.shares e.1.served.1.share refl (λ own. (refl, own)) refl e.1.free (Page page) refl refl (λ source aims qs r. (r.stood.talk.0, r.stood.talk.1)), tt)
  page_by page brought.Busy u e = subst (λ (x : Talk). SettlesAs signer now (at (Page page) s) (at x t) brought.Busy) (sym e.0) (stays_met e.1.seen (Page page) e.1.free, e.1.busy)
  page_by page brought.Worn u e = halts_worn e.1.seen (Page page) u.talk refl e.1.worn
  page_by page brought.NoMemory u e = halts_wanting e.1.seen (Page page) u.talk refl e.1.free

  pub failure_by : (answer : Brought) (u : RecoveringView) → BringsAs Failed (record { stream = stream; again = again; talk = Failed }) u s t answer → SettlesAs signer now (at Failed s) (at u.talk t) answer
  failure_by brought.Goes u e =
      subst (λ (x : Talk). SettlesAs signer now (at Failed s) (at x t) brought.Goes) (sym e.0)
      (stays_told (event.PageFailed stream.hold.number) _ e.1.served.1.made e.1.served.1.shares e.1.served.1.share refl (λ own. (refl, own)) refl e.1.free Failed refl refl (λ source aims qs r. (r.stood.talk.0, r.stood.talk.1)), tt)
  failure_by brought.Busy u e = subst (λ (x : Talk). SettlesAs signer now (at Failed s) (at x t) brought.Busy) (sym e.0) (stays_met e.1.seen Failed e.1.free, e.1.busy)
  failure_by brought.Worn u e = halts_worn e.1.seen Failed u.talk refl e.1.worn
  failure_by brought.NoMemory u e = halts_wanting e.1.seen Failed u.talk refl e.1.free
