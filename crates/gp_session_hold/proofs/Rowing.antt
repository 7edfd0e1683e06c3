-- What each call of a session's does to the rows of its holds.
use Rattle.std.proofs.Common.{◌≡◌, ℕ, Bool, true, false, List, [], ◌∷◌, ◌++◌, refl, sym, ap, ◌∙◌, subst, append-nil, Option, Some, None, is_some}
use Rattle.std.specs.List.{All, Contains}
use Rattle.std.proofs.lemmas.Grind.{flat_map-append}
use Rattle.std.proofs.lemmas.List.{map-append}
use Rattle.std.proofs.lemmas.List.Elements.{All-append, All-head, All-nil, All-push, All-tail, All-weaker, Contains-append_left}
use Rattle.gp_plain.specs.declared.event.Entry.{Entry}
use Rattle.gp_plain.specs.declared.event.Event.{Event}
use Rattle.gp_plain.specs.declared.event.Event.TheVariants.{Attach, Publish, Take, Page, PageFailed, Push, Join, Leave, Detach}
use Rattle.gp_plain.specs.declared.event.HoldSpec.{HoldSpec}
use Rattle.gp_plain.specs.declared.reply.EndCause.{EndCause}
use Rattle.gp_plain.specs.declared.reply.HoldReport.{HoldReport}
use Rattle.gp_plain.specs.declared.reply.Reply.{Reply}
use Rattle.gp_plain.specs.declared.reply.Taken.{Taken}
use Rattle.gp_plain.specs.History.{held}
use Rattle.gp_plain.specs.Others.{Share, share_at, shares}
use Rattle.gp_plain.specs.Reports.{tally_of, report}
use Rattle.gp_hub.specs.Passes.{entry_of}
use Rattle.gp_hub.specs.Own.{HasMade, HasNewHold, HasNoPlace, HasTaken, HasDetached, fresh_share, share_with, share_gone, with_share, mine}
use Rattle.gp_session.specs.Seats.{SeatView, HasNoHolds}
use Rattle.gp_session_hold.specs.Rows.{holds_of, share_of_hold, KeptView, IsKept, IsOver, LastHold, none, kept, over, IsReleased, StandsLast, HoldsRow, numbers_of, IsOwnEvent, IsOwn, EntriesRow, OwnRow, PagedRow, DetachedRow, spec_in, specs_in, specs_of, AttachRow, page_in, pages_in, PagesRow}
use Rattle.gp_session_hold.specs.Puts.{Counts}
use Rattle.gp_session_hold.proofs.Owning.{below, last_changed, numbers_stay, specs_stay, contains_own}

-- the rows of a session that has made no entry

pub holds_none : (s : SeatView) → HasNoHolds s → HoldsRow s [] none
holds_none s empty = record { done = []; reported = refl; released = All-nil IsReleased; stands = empty }

no_page : false ≡ true → ⊥
no_page untrue = cc

pub entries_none : (s : SeatView) → mine s.pass ≡ [] → EntriesRow s
entries_none s empty = subst (All (IsOwn false (numbers_of (holds_of s)))) (sym empty) (All-nil (IsOwn false (numbers_of (holds_of s))))

-- a session that brings no pages may bring some, and has brought none
own_paged : (numbers : List ℕ) (e : Event) → IsOwnEvent false numbers e → IsOwnEvent true numbers e
own_paged numbers (Attach spec) is = tt
own_paged numbers (Publish item) is = absurd is
own_paged numbers (Take hold now) is = is
own_paged numbers (Page hold from to bytes then) is = absurd (no_page is.0)
own_paged numbers (PageFailed hold) is = absurd (no_page is.0)
own_paged numbers (Push hold message) is = absurd is
own_paged numbers (Join hold channel) is = absurd is
own_paged numbers (Leave hold channel) is = absurd is
own_paged numbers (Detach hold) is = absurd is

pub entries_paging : (s : SeatView) → EntriesRow s → PagedRow s
entries_paging s row = All-weaker (IsOwn false (numbers_of (holds_of s))) (IsOwn true (numbers_of (holds_of s))) (λ (e : Entry) is. own_paged (numbers_of (holds_of s)) e.event is) (mine s.pass) row

own_pageless : (numbers : List ℕ) (e : Event) → IsOwnEvent false numbers e → page_in e ≡ []
own_pageless numbers (Attach spec) is = refl
own_pageless numbers (Publish item) is = refl
own_pageless numbers (Take hold now) is = refl
own_pageless numbers (Page hold from to bytes then) is = absurd (no_page is.0)
own_pageless numbers (PageFailed hold) is = absurd (no_page is.0)
own_pageless numbers (Push hold message) is = refl
own_pageless numbers (Join hold channel) is = refl
own_pageless numbers (Leave hold channel) is = refl
own_pageless numbers (Detach hold) is = refl

pageless : (numbers : List ℕ) (es : List Entry) → All (IsOwn false numbers) es → pages_in es ≡ []
pageless numbers [] all = refl
pageless numbers (e ∷ es) all =
    ap (λ xs. xs ++ pages_in es) (own_pageless numbers e.event (All-head (IsOwn false numbers) e es all)) ∙ pageless numbers es (All-tail (IsOwn false numbers) e es all)

pub pages_none : (s : SeatView) → EntriesRow s → PagesRow s []
pages_none s row = pageless (numbers_of (holds_of s)) (mine s.pass) row

pub attaches_none : (s : SeatView) → mine s.pass ≡ [] → HasNoHolds s → AttachRow s [] None
attaches_none s empty holds = record { made = ap specs_in empty; holds = ap specs_of holds }

module _ (s t : SeatView) (number : t.pass.number ≡ s.pass.number) where
  by_number : (holds : List (ℕ × Share)) → shares s.pass.number t.pass.seen ≡ holds → holds_of t ≡ holds
  by_number holds e = ap (λ (n : ℕ). shares n t.pass.seen) number ∙ e

  -- a call that wasn't served
  module _ (seen : t.pass.seen ≡ s.pass.seen) where
    same_holds : holds_of t ≡ holds_of s
    same_holds = by_number (holds_of s) (ap (shares s.pass.number) seen)

    same_share : (n : ℕ) (share : Share) → share_of_hold s n ≡ Some share → share_of_hold t n ≡ Some share
    same_share n share e = ap (λ es. share_at (held es) n) seen ∙ e

    pub kept_same : (hold : KeptView) (share : Share) → IsKept s hold share → IsKept t hold share
    kept_same hold share k = record { there = same_share hold.number share k.there; own = k.own ∙ sym number; kept = k.kept; untold = k.untold; counted = k.counted }

    stands_same : (done : List (ℕ × Share)) (last : LastHold) → StandsLast s done last → StandsLast t done last
    stands_same done none e = same_holds ∙ e
    stands_same done (kept hold) l = record { share = l.share; all = same_holds ∙ l.all; is = kept_same hold l.share l.is }
    stands_same done (over hold told) l = record {
      share = l.share;
      all = same_holds ∙ l.all;
      is = record { there = same_share hold.number l.share l.is.there; released = l.is.released; told_is = l.is.told_is; counted = l.is.counted };
    }

    pub holds_same : (reports : List HoldReport) (last : LastHold) → HoldsRow s reports last → HoldsRow t reports last
    holds_same reports last r = record { done = r.done; reported = r.reported; released = r.released; stands = stands_same r.done last r.stands }

    same_mine : mine t.pass ≡ mine s.pass
    same_mine = ap (λ (n : ℕ). mine (record t.pass { number = n })) number ∙ ap (λ es. mine (record t.pass { number = s.pass.number; seen = es })) seen

    pub entries_same : (paged : Bool) → OwnRow paged s → OwnRow paged t
    entries_same paged row = subst (λ hs. All (IsOwn paged (numbers_of hs)) (mine t.pass)) (sym same_holds) (subst (All (IsOwn paged (numbers_of (holds_of s)))) (sym same_mine) row)

    pub attaches_same : (specs : List HoldSpec) (refused : Option HoldSpec) → AttachRow s specs refused → AttachRow t specs refused
    attaches_same specs refused row = record { made = ap specs_in same_mine ∙ row.made; holds = ap specs_of same_holds ∙ row.holds }

    pub pages_same : (pages : List Event) → PagesRow s pages → PagesRow t pages
    pages_same pages row = ap pages_in same_mine ∙ row

  -- entries of the session's own
  made_own : (paged : Bool) (numbers more : List ℕ) (event : Event) (reply : Reply) → HasMade s.pass t.pass event reply → IsOwnEvent paged (numbers ++ more) event → All (IsOwn paged numbers) (mine s.pass) → All (IsOwn paged (numbers ++ more)) (mine t.pass)
  made_own paged numbers more event reply made own all =
      subst (All (IsOwn paged (numbers ++ more))) (sym made.mine)
      (All-append (IsOwn paged (numbers ++ more)) (mine s.pass) (entry_of s.pass.number event ∷ [])
      (All-weaker (IsOwn paged numbers) (IsOwn paged (numbers ++ more)) (λ (e : Entry) is. wider e.event is) (mine s.pass) all)
      (All-push (IsOwn paged (numbers ++ more)) [] (entry_of s.pass.number event) (All-nil (IsOwn paged (numbers ++ more))) own))
    where
      wider : (e : Event) → IsOwnEvent paged numbers e → IsOwnEvent paged (numbers ++ more) e
      wider (Attach spec) is = tt
      wider (Publish item) is = absurd is
      wider (Take hold now) is = Contains-append_left numbers more hold is
      wider (Page hold from to bytes then) is = (is.0, Contains-append_left numbers more hold is.1)
      wider (PageFailed hold) is = (is.0, Contains-append_left numbers more hold is.1)
      wider (Push hold message) is = absurd is
      wider (Join hold channel) is = absurd is
      wider (Leave hold channel) is = absurd is
      wider (Detach hold) is = absurd is

  made_specs : (event : Event) (reply : Reply) → HasMade s.pass t.pass event reply → specs_in (mine t.pass) ≡ specs_in (mine s.pass) ++ spec_in event
  made_specs event reply made =
      ap specs_in made.mine
      ∙ flat_map-append (λ (entry : Entry). spec_in entry.event) (mine s.pass) (entry_of s.pass.number event ∷ [])
      ∙ ap (λ xs. specs_in (mine s.pass) ++ xs) (append-nil (spec_in event))

  made_pages : (event : Event) (reply : Reply) → HasMade s.pass t.pass event reply → pages_in (mine t.pass) ≡ pages_in (mine s.pass) ++ page_in event
  made_pages event reply made =
      ap pages_in made.mine
      ∙ flat_map-append (λ (entry : Entry). page_in entry.event) (mine s.pass) (entry_of s.pass.number event ∷ [])
      ∙ ap (λ xs. pages_in (mine s.pass) ++ xs) (append-nil (page_in event))

  -- an Attach that made a hold
  module _ (spec : HoldSpec) (hold : KeptView) (new : HasNewHold s.pass t.pass spec hold.number) where
    new_holds : holds_of t ≡ holds_of s ++ (hold.number, fresh_share s.pass.number spec) ∷ []
    new_holds = by_number (holds_of s ++ (hold.number, fresh_share s.pass.number spec) ∷ []) new.shares

    pub kept_new : hold.tally ≡ tally_of spec [] → IsKept t hold (fresh_share s.pass.number spec)
    kept_new counted = record { there = new.share; own = sym number; kept = refl; untold = refl; counted = counted }

    pub holds_new : (reports : List HoldReport) → hold.tally ≡ tally_of spec [] → HoldsRow s reports none → HoldsRow t reports (kept hold)
    holds_new reports counted r = record {
      done = r.done;
      reported = r.reported;
      released = r.released;
      stands = record {
        share = fresh_share s.pass.number spec;
        all = new_holds ∙ ap (λ hs. hs ++ (hold.number, fresh_share s.pass.number spec) ∷ []) r.stands;
        is = kept_new counted;
      };
    }

    pub entries_new : (paged : Bool) → OwnRow paged s → OwnRow paged t
    entries_new paged row =
        subst (λ ns. All (IsOwn paged ns) (mine t.pass)) (sym (ap numbers_of new_holds ∙ map-append (λ (h : ℕ × Share). h.0) (holds_of s) ((hold.number, fresh_share s.pass.number spec) ∷ [])))
        (made_own paged (numbers_of (holds_of s)) (hold.number ∷ []) (Attach spec) _ new.made tt row)

    pub attaches_new : (specs : List HoldSpec) → AttachRow s specs None → AttachRow t (specs ++ spec ∷ []) None
    attaches_new specs row = record {
      made = made_specs (Attach spec) _ new.made ∙ ap (λ xs. xs ++ spec ∷ []) (row.made ∙ append-nil specs) ∙ sym (append-nil (specs ++ spec ∷ []));
      holds = ap specs_of new_holds ∙ map-append (λ (h : ℕ × Share). h.1.spec) (holds_of s) ((hold.number, fresh_share s.pass.number spec) ∷ []) ∙ ap (λ xs. xs ++ spec ∷ []) row.holds;
    }

  -- and one for which there was no place
  module _ (spec : HoldSpec) (full : HasNoPlace s.pass t.pass spec) where
    full_holds : holds_of t ≡ holds_of s
    full_holds = by_number (holds_of s) full.shares

    pub holds_full : (reports : List HoldReport) → HoldsRow s reports none → HoldsRow t reports none
    holds_full reports r = record { done = r.done; reported = r.reported; released = r.released; stands = full_holds ∙ r.stands }

    pub entries_full : (paged : Bool) → OwnRow paged s → OwnRow paged t
    entries_full paged row =
        subst (λ ns. All (IsOwn paged ns) (mine t.pass)) (append-nil (numbers_of (holds_of s)) ∙ sym (ap numbers_of full_holds)) (made_own paged (numbers_of (holds_of s)) [] (Attach spec) _ full.made tt row)

    pub attaches_full : (specs : List HoldSpec) → AttachRow s specs None → AttachRow t specs (Some spec)
    attaches_full specs row = record { made = made_specs (Attach spec) _ full.made ∙ ap (λ xs. xs ++ spec ∷ []) (row.made ∙ append-nil specs); holds = ap specs_of full_holds ∙ row.holds }

  -- a Take
  module _ (hold next : KeptView) (now : ℕ) (taken : Taken) (took : HasTaken s.pass t.pass hold.number now taken) where
    abbrev pub change : Share → Share
    change share = share_with share taken

    took_holds : holds_of t ≡ with_share hold.number change (holds_of s)
    took_holds = by_number (with_share hold.number change (holds_of s)) took.shares

    next_there : (share : Share) → next.number ≡ hold.number → share_of_hold s hold.number ≡ Some share → share_of_hold t next.number ≡ Some (change share)
    next_there share same there = ap (share_of_hold t) same ∙ took.share share there

    pub kept_taken : (share : Share) → Counts hold next taken.pieces → taken.ended ≡ None → IsKept s hold share → IsKept t next (change share)
    kept_taken share counts open_is k = record {
      there = next_there share counts.number k.there;
      own = k.own ∙ sym number;
      kept = ap is_some open_is;
      untold = open_is;
      counted = counts.counted share.spec share.taken k.counted;
    }

    pub over_taken : (share : Share) (cause : EndCause) → Counts hold next taken.pieces → taken.ended ≡ Some cause → IsKept s hold share → IsOver t next (Some cause) (change share)
    over_taken share cause counts told k = record {
      there = next_there share counts.number k.there;
      released = ap is_some told;
      told_is = told;
      counted = counts.counted share.spec share.taken k.counted;
    }

    last_taken : (done : List (ℕ × Share)) (share : Share) → next.number ≡ hold.number → holds_of s ≡ done ++ (hold.number, share) ∷ [] → holds_of t ≡ done ++ (next.number, change share) ∷ []
    last_taken done share same all =
        took_holds ∙ ap (with_share hold.number change) all
        ∙ last_changed hold.number change done share (below s.pass.number 0 (held s.pass.seen) done hold.number share all).0
        ∙ ap (λ (n : ℕ). done ++ (n, change share) ∷ []) (sym same)

    pub holds_taken : (reports : List HoldReport) → Counts hold next taken.pieces → taken.ended ≡ None → HoldsRow s reports (kept hold) → HoldsRow t reports (kept next)
    holds_taken reports counts open_is r = record {
      done = r.done;
      reported = r.reported;
      released = r.released;
      stands = record {
        share = change r.stands.share;
        all = last_taken r.done r.stands.share counts.number r.stands.all;
        is = kept_taken r.stands.share counts open_is r.stands.is;
      };
    }

    pub holds_told : (reports : List HoldReport) (cause : EndCause) → Counts hold next taken.pieces → taken.ended ≡ Some cause → HoldsRow s reports (kept hold) → HoldsRow t reports (over next (Some cause))
    holds_told reports cause counts told r = record {
      done = r.done;
      reported = r.reported;
      released = r.released;
      stands = record {
        share = change r.stands.share;
        all = last_taken r.done r.stands.share counts.number r.stands.all;
        is = over_taken r.stands.share cause counts told r.stands.is;
      };
    }

    pub entries_taken : (share : Share) → IsKept s hold share → (paged : Bool) → OwnRow paged s → OwnRow paged t
    entries_taken share k paged row =
        let own : Contains (numbers_of (holds_of s)) hold.number = contains_own s.pass.number hold.number (held s.pass.seen) share k.there k.own in
        subst (λ ns. All (IsOwn paged ns) (mine t.pass)) (append-nil (numbers_of (holds_of s)) ∙ sym (ap numbers_of took_holds ∙ numbers_stay hold.number change (holds_of s)))
        (made_own paged (numbers_of (holds_of s)) [] (Take hold.number now) _ took.made (Contains-append_left (numbers_of (holds_of s)) [] hold.number own) row)

    pub attaches_taken : (specs : List HoldSpec) (refused : Option HoldSpec) → AttachRow s specs refused → AttachRow t specs refused
    attaches_taken specs refused row = record {
      made = made_specs (Take hold.number now) _ took.made ∙ append-nil (specs_in (mine s.pass)) ∙ row.made;
      holds = ap specs_of took_holds ∙ specs_stay hold.number change (λ share. refl) (holds_of s) ∙ row.holds;
    }

    pub pages_taken : (pages : List Event) → PagesRow s pages → PagesRow t pages
    pages_taken pages row = made_pages (Take hold.number now) _ took.made ∙ append-nil (pages_in (mine s.pass)) ∙ row

  -- a page of a recovery, or the news that it can't be had
  module _ (hold : KeptView) (event : Event) (reply : Reply) (made : HasMade s.pass t.pass event reply) (shares_are : shares s.pass.number t.pass.seen ≡ shares s.pass.number s.pass.seen)
      (share_is : share_of_hold t hold.number ≡ share_of_hold s hold.number) where
    paged_holds : holds_of t ≡ holds_of s
    paged_holds = by_number (holds_of s) shares_are

    pub kept_paged : (share : Share) → IsKept s hold share → IsKept t hold share
    kept_paged share k = record { there = share_is ∙ k.there; own = k.own ∙ sym number; kept = k.kept; untold = k.untold; counted = k.counted }

    pub holds_paged : (reports : List HoldReport) → HoldsRow s reports (kept hold) → HoldsRow t reports (kept hold)
    holds_paged reports r = record {
      done = r.done;
      reported = r.reported;
      released = r.released;
      stands = record { share = r.stands.share; all = paged_holds ∙ r.stands.all; is = kept_paged r.stands.share r.stands.is };
    }

    pub entries_paged : IsOwnEvent true (numbers_of (holds_of s)) event → PagedRow s → PagedRow t
    entries_paged own row =
        subst (λ ns. All (IsOwn true ns) (mine t.pass)) (append-nil (numbers_of (holds_of s)) ∙ sym (ap numbers_of paged_holds))
        (made_own true (numbers_of (holds_of s)) [] event reply made (subst (λ ns. IsOwnEvent true ns event) (sym (append-nil (numbers_of (holds_of s)))) own) row)

    pub attaches_paged : spec_in event ≡ [] → (specs : List HoldSpec) (refused : Option HoldSpec) → AttachRow s specs refused → AttachRow t specs refused
    attaches_paged bare specs refused row = record {
      made = made_specs event reply made ∙ ap (λ xs. specs_in (mine s.pass) ++ xs) bare ∙ append-nil (specs_in (mine s.pass)) ∙ row.made;
      holds = ap specs_of paged_holds ∙ row.holds;
    }

    pub pages_paged : (pages : List Event) → PagesRow s pages → PagesRow t (pages ++ page_in event)
    pages_paged pages row = made_pages event reply made ∙ ap (λ xs. xs ++ page_in event) row

  -- a Detach
  module _ (hold : KeptView) (gone : HasDetached s.pass t.pass hold.number) where
    gone_holds : holds_of t ≡ with_share hold.number share_gone (holds_of s)
    gone_holds = by_number (with_share hold.number share_gone (holds_of s)) gone.shares

    pub holds_gone : (reports : List HoldReport) → HoldsRow s reports (kept hold) → HoldsRow t reports (over hold None)
    holds_gone reports r = record {
      done = r.done;
      reported = r.reported;
      released = r.released;
      stands = record {
        share = share_gone r.stands.share;
        all = gone_holds ∙ ap (with_share hold.number share_gone) r.stands.all
            ∙ last_changed hold.number share_gone r.done r.stands.share (below s.pass.number 0 (held s.pass.seen) r.done hold.number r.stands.share r.stands.all).0;
        is = record { there = gone.share r.stands.share r.stands.is.there; released = refl; told_is = r.stands.is.untold; counted = r.stands.is.counted };
      };
    }

    pub entries_gone : (share : Share) → IsKept s hold share → (paged : Bool) → OwnRow paged s → DetachedRow paged t hold.number
    entries_gone share k paged row =
        let same : numbers_of (holds_of s) ≡ numbers_of (holds_of t) = sym (ap numbers_of gone_holds ∙ numbers_stay hold.number share_gone (holds_of s)) in
        record {
          before = mine s.pass;
          all = gone.made.mine ∙ ap (λ (n : ℕ). mine s.pass ++ entry_of n (Detach hold.number) ∷ []) (sym number);
          own = subst (λ ns. All (IsOwn paged ns) (mine s.pass)) same row;
          hold_is = subst (λ ns. Contains ns hold.number) same (contains_own s.pass.number hold.number (held s.pass.seen) share k.there k.own);
        }

    pub attaches_gone : (specs : List HoldSpec) (refused : Option HoldSpec) → AttachRow s specs refused → AttachRow t specs refused
    attaches_gone specs refused row = record {
      made = made_specs (Detach hold.number) _ gone.made ∙ append-nil (specs_in (mine s.pass)) ∙ row.made;
      holds = ap specs_of gone_holds ∙ specs_stay hold.number share_gone (λ share. refl) (holds_of s) ∙ row.holds;
    }

-- a report of a hold that is over

pub holds_reported : (s : SeatView) (reports : List HoldReport) (hold : KeptView) (told : Option EndCause) (r : HoldsRow s reports (over hold told)) (all : List HoldReport) → all ≡ reports ++ report hold.number r.stands.share ∷ [] → HoldsRow s all none
holds_reported s reports hold told r all is =
    let last : ℕ × Share = (hold.number, r.stands.share) in
    record {
      done = r.done ++ last ∷ [];
      reported = is ∙ ap (λ rs. rs ++ report hold.number r.stands.share ∷ []) r.reported ∙ sym (map-append (λ (h : ℕ × Share). report h.0 h.1) r.done (last ∷ []));
      released = All-append IsReleased r.done (last ∷ []) r.released (All-push IsReleased [] last (All-nil IsReleased) r.stands.is.released);
      stands = r.stands.all;
    }
