-- The Takes of a long poll, one after another.
use Rattle.std.proofs.Common.{◌≡◌, ◌≢◌, ℕ, ◌+◌, true, false, List, [], ◌∷◌, ◌++◌, refl, sym, ap, ◌∙◌, subst, append_assoc, append-nil, Option, Some, None, is_some}
use Rattle.std.specs.Option.{option_to_list}
use Rattle.std.proofs.lemmas.List.Elements.{All-nil, All-push}
use Rattle.gp_plain.specs.Holds.{is_retry}
use Rattle.gp_plain.specs.Kinds.{TakenFits, RecoverFits, may_end}
use Rattle.gp_plain.specs.declared.event.Entry.{Entry}
use Rattle.gp_plain.specs.declared.event.Event.TheVariants.{Take}
use Rattle.gp_plain.specs.declared.event.HoldSpec.{HoldSpec}
use Rattle.gp_plain.specs.declared.reply.HoldReport.{HoldReport}
use Rattle.gp_plain.specs.declared.reply.Piece.TheVariants.{Answer as AnswerPiece}
use Rattle.gp_plain.specs.declared.reply.Taken.{Taken}
use Rattle.gp_hub.specs.Passes.{entry_of}
use Rattle.gp_hub.specs.Own.{HasTaken, Keeps, share_with, mine}
use Rattle.gp_session.specs.Seats.{SeatView, MovedSeat, SeatRow, IsServed, IsWorn, Busied}
use Rattle.gp_session.proofs.Moving.{moved_seat_same, moved_seat_again, busied_from}
use Rattle.gp_session_hold.specs.Rows.{HoldsRow, kept}
use Rattle.gp_session_hold.specs.Puts.{Counts}
use Rattle.gp_session_hold.specs.Streams.{Gives as GaveMore, begins, gives}
use Rattle.gp_session_hold.proofs.Rowing.{kept_same, holds_same, entries_same, attaches_same, kept_taken, over_taken, holds_taken, holds_told, entries_taken, attaches_taken}
use Rattle.gp_session_hold.proofs.Turning.{keeps}
use Rattle.gp_session_wait.specs.Views.{PollView}
use Rattle.gp_session_wait.specs.Seeks.{IsResponse, Polls, ToldBy, TakesAt, FitsPoll, EndsWith, Turns, Goes, Seeks, Seeking, cause_of}
use Rattle.gp_session_wait.specs.declared.seeking.End.{End}
use Rattle.gp_session_wait.specs.declared.seeking.End.TheVariants as end
use Rattle.gp_session_wait.specs.declared.seeking.Given.TheVariants as given
use Rattle.gp_session_wait.specs.declared.seeking.Turned.TheVariants as turned
use Rattle.gp_session_wait.specs.declared.seeking.Sought.TheVariants as sought

pub keeps_hold : (v : PollView) (s : SeatView) → Polls v s → Keeps s.pass v.hold.number
keeps_hold v s p = keeps s v.hold p.share p.is

-- a Take of a long poll gives what fits one
pub fits_poll : (v : PollView) (s t : SeatView) (now : ℕ) (taken : Taken) → Polls v s → HasTaken s.pass t.pass v.hold.number now taken → FitsPoll taken
fits_poll v s t now taken p took = record {
  spec = v.spec;
  response = p.response;
  fits = subst (λ (spec : HoldSpec). TakenFits spec taken) p.spec_is (took.fits p.share p.is.there);
}

none_by : (r : Option (List ℕ)) → is_some r ≡ false → r ≡ None
none_by None e = refl
none_by (Some at) e = absurd (let f : true ≡ false = e in (cc))

asks_nothing : (taken : Taken) → FitsPoll taken → taken.ended ≡ None → taken.recover ≡ None
asks_nothing taken f open_is =
    let same : is_some taken.recover ≡ is_retry taken.ended = subst (λ (spec : HoldSpec). RecoverFits spec taken) f.response.is f.fits.recovers in
    none_by taken.recover (same ∙ ap is_retry open_is)

takes_none : (number now : ℕ) (s : SeatView) → TakesAt number now s s
takes_none number now s = record { more = []; all = sym (append-nil (mine s.pass)); takes = All-nil (λ (entry : Entry). entry.event ≡ Take number now) }

same_mine : (t a : SeatView) → MovedSeat t a → a.pass.seen ≡ t.pass.seen → mine a.pass ≡ mine t.pass
same_mine t a moved seen =
    ap (λ (n : ℕ). mine (record a.pass { number = n })) moved.same.number ∙ ap (λ (es : List Entry). mine (record a.pass { number = t.pass.number; seen = es })) seen

takes_same : (number now : ℕ) (s t a : SeatView) → MovedSeat t a → a.pass.seen ≡ t.pass.seen → TakesAt number now s t → TakesAt number now s a
takes_same number now s t a moved seen x = record { more = x.more; all = same_mine t a moved seen ∙ x.all; takes = x.takes }

takes_more : (number now : ℕ) (s t a : SeatView) (taken : Taken) → HasTaken t.pass a.pass number now taken → TakesAt number now s t → TakesAt number now s a
takes_more number now s t a taken took x =
    let last : Entry = entry_of t.pass.number (Take number now) in
    record {
      more = x.more ++ last ∷ [];
      all = took.made.mine ∙ ap (λ (es : List Entry). es ++ last ∷ []) x.all ∙ append_assoc (mine s.pass) x.more (last ∷ []);
      takes = All-push (λ (entry : Entry). entry.event ≡ Take number now) x.more last x.takes refl;
    }

pub seeking_none : (v : PollView) (s : SeatView) (now : ℕ) → Polls v s → Seeking v v s s now 0
seeking_none v s now p = record {
  goes = record { number = refl; times = takes_none v.hold.number now s; spec = refl; seat = moved_seat_same s; row = λ r. r; entries = λ r. r; attaches = λ specs refused r. r };
  holds = λ reports r. r;
  free = λ f. f;
  polls = p;
  gave = begins;
}

module _ (v u : PollView) (s t : SeatView) (now count : ℕ) (d : Seeking v u s t now count) where
  -- all 16 Takes gave pieces
  pub sixteen : count ≡ 16 → Seeks v u s t now sought.Sixteen
  sixteen all = record {
    goes = d.goes;
    holds = d.holds;
    serves = d.free;
    says = (d.polls, subst (λ (n : ℕ). GaveMore u.hold.number now s n t) all (subst (λ (n : ℕ). GaveMore n now s count t) (sym d.goes.number) d.gave));
  }

  -- a Take that wasn't served
  module _ (a : SeatView) (moved : MovedSeat t a) (row : SeatRow t → SeatRow a) (seen : a.pass.seen ≡ t.pass.seen) where
    goes_unserved : Goes v u s a now
    goes_unserved = record {
      number = d.goes.number;
      times = takes_same v.hold.number now s t a moved seen d.goes.times;
      spec = d.goes.spec;
      seat = moved_seat_again s t a d.goes.seat moved;
      row = λ r. row (d.goes.row r);
      entries = λ r. entries_same t a moved.same.number seen false (d.goes.entries r);
      attaches = λ specs refused r. attaches_same t a moved.same.number seen specs refused (d.goes.attaches specs refused r);
    }

    holds_unserved : (reports : List HoldReport) → HoldsRow s reports (kept v.hold) → HoldsRow a reports (kept u.hold)
    holds_unserved reports r = holds_same t a moved.same.number seen reports (kept u.hold) (d.holds reports r)

    polls_unserved : Polls u a
    polls_unserved = record {
      share = d.polls.share;
      is = kept_same t a moved.same.number seen u.hold d.polls.share d.polls.is;
      spec_is = d.polls.spec_is;
      response = d.polls.response;
    }

    pub busy : Busied t a → IsServed a → Seeks v u s a now sought.Busy
    busy b free = record { goes = goes_unserved; holds = holds_unserved; serves = λ _. free; says = (polls_unserved, busied_from s t a d.goes.seat b) }

    pub worn : IsWorn a → Seeks v u s a now sought.Worn
    worn b = record { goes = goes_unserved; holds = holds_unserved; serves = b; says = polls_unserved }

    pub wanting : IsServed a → Seeks v u s a now sought.NoMemory
    wanting free = record { goes = goes_unserved; holds = holds_unserved; serves = λ _. free; says = polls_unserved }

  -- a Take that was served
  module _ (k : PollView) (a : SeatView) (spec : k.spec ≡ u.spec) (moved : MovedSeat t a) (row : SeatRow t → SeatRow a) (taken : Taken)
      (took : HasTaken t.pass a.pass u.hold.number now taken) (counts : Counts u.hold k.hold taken.pieces) where
    goes_served : Goes v k s a now
    goes_served = record {
      number = counts.number ∙ d.goes.number;
      times = takes_more v.hold.number now s t a taken (subst (λ (n : ℕ). HasTaken t.pass a.pass n now taken) d.goes.number took) d.goes.times;
      spec = spec ∙ d.goes.spec;
      seat = moved_seat_again s t a d.goes.seat moved;
      row = λ r. row (d.goes.row r);
      entries = λ r. entries_taken t a moved.same.number u.hold k.hold now taken took d.polls.share d.polls.is false (d.goes.entries r);
      attaches = λ specs refused r. attaches_taken t a moved.same.number u.hold k.hold now taken took specs refused (d.goes.attaches specs refused r);
    }

    holds_open : taken.ended ≡ None → (reports : List HoldReport) → HoldsRow s reports (kept v.hold) → HoldsRow a reports (kept k.hold)
    holds_open open_is reports r = holds_taken t a moved.same.number u.hold k.hold now taken took reports counts open_is (d.holds reports r)

    polls_open : taken.ended ≡ None → Polls k a
    polls_open open_is = record {
      share = share_with d.polls.share taken;
      is = kept_taken t a moved.same.number u.hold k.hold now taken took d.polls.share counts open_is d.polls.is;
      spec_is = d.polls.spec_is ∙ sym spec;
      response = subst IsResponse (sym spec) d.polls.response;
    }

    pub gave : taken.pieces ≢ [] → taken.ended ≡ None → IsServed a → Seeking v k s a now (count + 1)
    gave some open_is free = record {
      goes = goes_served;
      holds = holds_open open_is;
      free = λ _. free;
      polls = polls_open open_is;
      gave = gives count t a taken d.gave (subst (λ (n : ℕ). HasTaken t.pass a.pass n now taken) d.goes.number took) some open_is;
    }

    pub idle : taken.pieces ≡ [] → taken.ended ≡ None → IsServed a → Seeks v k s a now sought.Idle
    idle none open_is free = record {
      goes = goes_served;
      holds = holds_open open_is;
      serves = λ _. free;
      says = (
        polls_open open_is,
        record {
          before = t;
          moved = d.goes.seat;
          taken = taken;
          took = subst (λ (n : ℕ). HasTaken t.pass a.pass n now taken) (sym counts.number) took;
          pieces = none;
          recover = asks_nothing taken (fits_poll u t a now taken d.polls took) open_is;
          open_is = open_is;
        },
      );
    }

    told_by : (told : End) → EndsWith taken told → ToldBy (share_with d.polls.share taken) told
    told_by (end.Answered part) e = record { front = d.polls.share.taken ++ e.front; to = e.to; whole = ap (λ ps. d.polls.share.taken ++ ps) e.whole ∙ sym (append_assoc d.polls.share.taken e.front (AnswerPiece e.to part ∷ [])) }
    told_by end.TimedOut e = tt
    told_by (end.Retry id) e = record { front = d.polls.share.recovers; whole = ap (λ (r : Option (List ℕ)). d.polls.share.recovers ++ option_to_list r) e }
    told_by end.Overflow e = tt

    pub ended : (told : End) → taken.ended ≡ Some (cause_of told) → EndsWith taken told → IsServed a → Seeks v k s a now (sought.Ended told)
    unfolding fits_poll
    ended told is e free = record {
      goes = goes_served;
      holds = λ reports r. holds_told t a moved.same.number u.hold k.hold now taken took reports (cause_of told) counts is (d.holds reports r);
      serves = λ _. free;
      says = record {
        share = share_with d.polls.share taken;
        is = over_taken t a moved.same.number u.hold k.hold now taken took d.polls.share (cause_of told) counts is d.polls.is;
        spec_is = d.polls.spec_is ∙ sym spec;
        cause_is = ap (λ (sp : HoldSpec). may_end sp (cause_of told)) spec ∙ (fits_poll u t a now taken d.polls took).fits.ends (cause_of told) is;
        by = told_by told e;
      };
    }

-- a turn
module _ (v u : PollView) (s t : SeatView) (now count : ℕ) (d : Seeking v u s t now count) (k : PollView) (a : SeatView) where
  pub turned_pieces : Turns u k t a now (turned.Gave given.Pieces) → Seeking v k s a now (count + 1)
  turned_pieces r = gave v u s t now count d k a r.spec r.seat r.row r.says.taken r.says.took r.says.gives.counts r.says.gives.says.0 r.says.gives.says.1 r.says.free

  pub turned_nothing : Turns u k t a now (turned.Gave given.Nothing) → Seeks v k s a now sought.Idle
  turned_nothing r = idle v u s t now count d k a r.spec r.seat r.row r.says.taken r.says.took r.says.gives.counts r.says.gives.says.0 r.says.gives.says.1 r.says.free

  pub turned_ended : (told : End) → Turns u k t a now (turned.Gave (given.Ended told)) → Seeks v k s a now (sought.Ended told)
  turned_ended told r = ended v u s t now count d k a r.spec r.seat r.row r.says.taken r.says.took r.says.gives.counts told r.says.gives.says.0 r.says.gives.says.1 r.says.free

  pub turned_busy : Turns u k t a now turned.Busy → Seeks v k s a now sought.Busy
  turned_busy r = subst (λ (l : PollView). Seeks v l s a now sought.Busy) (sym r.says.1) (busy v u s t now count d a r.seat r.row r.says.0.seen r.says.0.busy r.says.0.free)

  pub turned_worn : Turns u k t a now turned.Worn → Seeks v k s a now sought.Worn
  turned_worn r = subst (λ (l : PollView). Seeks v l s a now sought.Worn) (sym r.says.1) (worn v u s t now count d a r.seat r.row r.says.0.seen r.says.0.worn)

  pub turned_wanting : Turns u k t a now turned.NoMemory → Seeks v k s a now sought.NoMemory
  turned_wanting r = subst (λ (l : PollView). Seeks v l s a now sought.NoMemory) (sym r.says.1) (wanting v u s t now count d a r.seat r.row r.says.0.seen r.says.0.free)
