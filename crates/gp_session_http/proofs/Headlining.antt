-- What was sent of the holds of a session.
use Rattle.std.proofs.Common.{◌≡◌, ℕ, suc, ◌+◌, Bool, List, [], ◌∷◌, ◌++◌, length, map, Option, Some, None, refl, sym, ap, ◌∙◌, subst, arith, append-nil, length-append, ◌⊎◌, inl, inr}
use Rattle.std.specs.Option.{option_map_or}
use Rattle.std.specs.List.{All, Contains}
use Rattle.std.proofs.lemmas.List.{map-append}
use Rattle.std.proofs.lemmas.List.Elements.{All-nil, All-push, All-head, All-tail, Contains-push_cases, Contains-append_cases}
use mathlib.Core.List.{IsPrefix}
use Rattle.gp_plain.specs.Others.{Share}
use Rattle.gp_plain.specs.Reports.{report}
use Rattle.gp_plain.specs.declared.event.HoldSpec.{HoldSpec}
use Rattle.gp_plain.specs.declared.reply.EndCause.{EndCause}
use Rattle.gp_plain.specs.declared.reply.EndCause.TheVariants.{Retry}
use Rattle.gp_plain.specs.declared.reply.HoldReport.{HoldReport}
use Rattle.gp_plain.specs.declared.reply.Piece.{Piece}
use Rattle.gp_hub.specs.declared.outcome.SessionEnd.{SessionEnd}
use Rattle.gp_hub.specs.declared.outcome.Why.{Why}
use Rattle.gp_session.specs.Lines.{Last}
use Rattle.gp_session.specs.Seats.{SeatView}
use Rattle.gp_session.specs.Wires.{BytesRow, Sent, at_most, exactly}
use Rattle.gp_session_hold.specs.Rows.{KeptView, HoldsRow, none, kept, AttachRow, holds_of, share_of_hold, numbers_of, specs_of, reports_of, taken_at, told_at, stream_text}
use Rattle.gp_session_hold.specs.Streams.{Streams, Finished, Stopped}
use Rattle.gp_session_hold.proofs.Following.{headline_law_holds, stream_law_holds}
use Rattle.gp_session_wait.specs.Laws.{poll_text}
use Rattle.gp_session_wait.specs.Views.{WaitView}
use Rattle.gp_session_wait.specs.Waits.{IsAnswered, IsUnput, IsRetried, IsOverflowed}
use Rattle.gp_session_wait.specs.declared.answer.Answer.{Answer as OwnAnswer}
use Rattle.gp_session_wait.specs.declared.wait.Repeat.{Repeat}
use Rattle.gp_session_wait.proofs.Laws.{wait_law_holds, answer_law_is}
use Rattle.gp_session_wait.proofs.Chains.{poll_chain_law_holds}
use Rattle.gp_session_wait.proofs.Published.{poll_item_law_holds}
use Rattle.gp_session_http.specs.declared.asked.Asked.{Asked}
use Rattle.gp_session_http.specs.declared.grant.Grant.{Grant}
use Rattle.gp_session_http.specs.declared.poll.Poll.{Poll}
use Rattle.gp_session_http.specs.declared.held.Held.{Held}
use Rattle.gp_session_http.specs.declared.held.Held.TheVariants.{Attaching, Declining, Streaming, Closing, Leaving, Beginning, Denying, Waiting, Answering, Departing}
use Rattle.gp_session_http.specs.declared.leaving.Parting.{Parting}
use Rattle.gp_session_http.specs.declared.leaving.Parting.TheVariants.{Gone, Wanting}
use Rattle.gp_session_http.specs.declared.stage.Stage.{Stage}
use Rattle.gp_session_http.specs.declared.stage.Ended.{Ended}
use Rattle.gp_session_http.specs.Routing.{Charter}
use Rattle.gp_session_http.specs.Grants.{stream_head, AsksFor, source_of}
use Rattle.gp_session_http.specs.Posings.{own_of}
use Rattle.gp_session_http.specs.Turns.{Turn, Behind, first as asked_first, again as asked_again, AreHeld, specs_before, reports_before, PastOf}
use Rattle.gp_session_http.specs.Trace.{asked_in, last_of, Told}
use Rattle.gp_session_http.specs.Moves.{hung_up}
use Rattle.gp_session_http.specs.Heard.{BeginsTalks, IsUnattached, IsDeclined, HasAttached, IsLastHold}
use Rattle.gp_session_http.specs.LongPolls.{Polling, PollsFor, MayPoll, IsPollOf, StillPolls, PollEnds, denied_sent, denied_gone, denied_wanting, unbegun_wanting, unbegun_worn, answered_sent, answered_gone, unput, overflowed, unrepeated, waiting_worn, departed}
use Rattle.gp_session_http.specs.Headlines.{FollowsHold, IsStreamed, WasRepeated, HasLine, streamed, polled, repeated, HasHeadline}
use Rattle.gp_session_http.specs.Holding.{StreamFinishes, PollFinishes, Granting, HasRecalled, Recalled, aims_for, alone, recalled, stream_of, HeldTold, LeavesAs, LeftAs, HeldEnds, full_sent, full_gone, full_wanting, unattached_wanting, unattached_worn, told_sent, told_gone, told_wanting, kept_worn, leaving_worn, let_go}
use Rattle.gp_session_http.specs.Polls.{PhaseFinishes}
use Rattle.gp_session_http.specs.Views.{LiveView}
use Rattle.gp_session_recover.specs.Rows.{sides}
use Rattle.gp_session_http.proofs.Recalling.{begins_alone, closed_begins, recovers_begins}

none_in : (number : ℕ) → Contains [] number → ⊥
none_in number (k, lt, at) = absurd (omega (arith, lt))

one_number : (n a : ℕ) → Contains (n ∷ []) a → n ≡ a
one_number n a c = by_cases (Contains-push_cases [] n a c)
  where
    by_cases : Contains [] a ⊎ (n ≡ a) → n ≡ a
    by_cases (inl never) = absurd (none_in a never)
    by_cases (inr same) = same

-- turns, and the numbers of their holds

all_retried : (c : Charter) (turns : List Turn) (asked : Asked) → Behind c turns asked → All (λ (turn : Turn). turn.share.told ≡ Some Retry) turns
all_retried c turns asked (asked_first a never item) = All-nil _
all_retried c turns asked (asked_again before turn a behind is on) = All-push (λ (t : Turn). t.share.told ≡ Some Retry) before turn (all_retried c before turn.asked behind) is.told

pub turns_count : (c : Charter) (turns : List Turn) (asked : Asked) → Behind c turns asked → length turns ≡ asked.repeats
turns_count c turns asked (asked_first a never item) = sym never
turns_count c turns asked (asked_again before turn a behind is on) = length-append before (turn ∷ []) ∙ ap (λ (n : ℕ). n + 1) (turns_count c before turn.asked behind) ∙ sym on.count

abbrev numbers_before : List Turn → List ℕ
numbers_before turns = map (λ (turn : Turn). turn.number) turns

in_turns : (l : LiveView) (turns : List Turn) → All (λ (turn : Turn). turn.share.told ≡ Some Retry) turns → AreHeld l.seat turns → (number : ℕ) → Contains (numbers_before turns) number → WasRepeated l number
in_turns l [] all h number c = absurd (none_in number c)
in_turns l (turn ∷ turns) all h number c =
    by_place (Contains-append_cases (turn.number ∷ []) (numbers_before turns) number c) (λ d. in_turns l turns (All-tail (λ (t : Turn). t.share.told ≡ Some Retry) turn turns all) h.1 number d)
  where
    it : turn.number ≡ number → WasRepeated l number
    it same = record { share = turn.share; there = subst (λ (n : ℕ). share_of_hold l.seat n ≡ Some turn.share) same h.0; told = All-head (λ (t : Turn). t.share.told ≡ Some Retry) turn turns all }

    by_place : Contains (turn.number ∷ []) number ⊎ Contains (numbers_before turns) number → (Contains (numbers_before turns) number → WasRepeated l number) → WasRepeated l number
    by_place (inl here) on = it (one_number turn.number number here)
    by_place (inr behind_it) on = on behind_it

reported_numbers : (holds : List (ℕ × Share)) → map (λ (r : HoldReport). r.number) (reports_of holds) ≡ numbers_of holds
reported_numbers [] = refl
reported_numbers (h ∷ hs) = ap (λ (ns : List ℕ). h.0 ∷ ns) (reported_numbers hs)

turned_numbers : (turns : List Turn) → map (λ (r : HoldReport). r.number) (reports_before turns) ≡ numbers_before turns
turned_numbers [] = refl
turned_numbers (t ∷ ts) = ap (λ (ns : List ℕ). t.number ∷ ns) (turned_numbers ts)

same_front : (xs ys ms bs : List HoldReport) → xs ++ ms ≡ ys ++ bs → length xs ≡ length ys → xs ≡ ys
same_front [] [] ms bs e n = refl
same_front [] (y ∷ ys) ms bs e n = absurd (omega (arith, n))
same_front (x ∷ xs) [] ms bs e n = absurd (omega (arith, n))
same_front (x ∷ xs) (y ∷ ys) ms bs e n =
    let head : x ≡ y = cc in
    let tail : xs ++ ms ≡ ys ++ bs = cc in
    ap (λ (r : HoldReport). r ∷ xs) head ∙ ap (λ (rs : List HoldReport). y ∷ rs) (same_front xs ys ms bs tail (omega (arith, n)))

length_specs : (holds : List (ℕ × Share)) → length (specs_of holds) ≡ length holds
length_specs [] = refl
length_specs (h ∷ hs) = ap suc (length_specs hs)

length_turns : (turns : List Turn) → length (specs_before turns) ≡ length turns
length_turns [] = refl
length_turns (t ∷ ts) = ap suc (length_turns ts)

length_reports : (holds : List (ℕ × Share)) → length (reports_of holds) ≡ length holds
length_reports [] = refl
length_reports (h ∷ hs) = ap suc (length_reports hs)

length_before : (turns : List Turn) → length (reports_before turns) ≡ length turns
length_before [] = refl
length_before (t ∷ ts) = ap suc (length_before ts)

-- the first holds of a session are those of the turns

pub before_count : (turns : List Turn) → length (reports_before turns) ≡ length turns
before_count turns = length_before turns

pub front_reports : (holds : List (ℕ × Share)) (turns : List Turn) (ms bs : List HoldReport) → reports_of holds ++ ms ≡ reports_before turns ++ bs → length holds ≡ length turns → reports_of holds ≡ reports_before turns
front_reports holds turns ms bs e n = same_front (reports_of holds) (reports_before turns) ms bs e (length_reports holds ∙ n ∙ sym (length_before turns))

front_numbers : (holds : List (ℕ × Share)) (turns : List Turn) (ms bs : List HoldReport) → reports_of holds ++ ms ≡ reports_before turns ++ bs → length holds ≡ length turns → numbers_of holds ≡ numbers_before turns
front_numbers holds turns ms bs e n = sym (reported_numbers holds) ∙ ap (λ (rs : List HoldReport). map (λ (r : HoldReport). r.number) rs) (front_reports holds turns ms bs e n) ∙ turned_numbers turns

-- there are as many before the last as there are turns
pub same_count : (holds before : List (ℕ × Share)) (last : ℕ × Share) (turns : List Turn) (spec : HoldSpec) → holds ≡ before ++ last ∷ [] → specs_of holds ≡ specs_before turns ++ spec ∷ [] → length before ≡ length turns
same_count holds before last turns spec all row =
    let specs : length (specs_of holds) ≡ length (specs_before turns) + 1 = ap (λ (ss : List HoldSpec). length ss) row ∙ length-append (specs_before turns) (spec ∷ []) in
    let count : length holds ≡ length before + 1 = ap (λ (hs : List (ℕ × Share)). length hs) all ∙ length-append before (last ∷ []) in
    let same = length_specs holds in
    let turned = length_turns turns in
    omega (arith, specs, count, same, turned)

-- what is needed of the rows of a session with a hold: those of the turns before, and how its reports stand to its holds
module _ (l : LiveView) (c : Charter) (turns : List Turn) (asked : Asked) (behind : Behind c turns asked) (held : AreHeld l.seat turns) where
  turn_line : (number : ℕ) → Contains (numbers_before turns) number → HasLine l number
  turn_line number d = repeated (in_turns l turns (all_retried c turns asked behind) held number d)

  -- a session all of whose holds are those of turns
  line_turns : (ms bs : List HoldReport) → reports_of (holds_of l.seat) ++ ms ≡ reports_before turns ++ bs → (refused : Option HoldSpec) → AttachRow l.seat (specs_before turns) refused → HasHeadline l
  line_turns ms bs e refused row = λ number d.
      turn_line number (subst (λ (ns : List ℕ). Contains ns number) (front_numbers (holds_of l.seat) turns ms bs e (sym (length_specs (holds_of l.seat)) ∙ ap (λ (ss : List HoldSpec). length ss) row.holds ∙ length_turns turns)) d)

  -- and one that has one more
  line_last : (hold : KeptView) (last : IsLastHold l hold) (spec : HoldSpec) → AttachRow l.seat (specs_before turns ++ spec ∷ []) None → (ms bs : List HoldReport) → reports_of last.before ++ ms ≡ reports_before turns ++ bs → HasLine l hold.number → HasHeadline l
  line_last hold last spec row ms bs e line = λ number d. by_cases number (Contains-push_cases (numbers_of last.before) hold.number number (subst (λ (ns : List ℕ). Contains ns number) all d))
    where
      all : numbers_of (holds_of l.seat) ≡ numbers_of last.before ++ hold.number ∷ []
      all = ap numbers_of last.all ∙ map-append (λ (h : ℕ × Share). h.0) last.before ((hold.number, last.share) ∷ [])

      count : length last.before ≡ length turns
      count = same_count (holds_of l.seat) last.before (hold.number, last.share) turns spec last.all row.holds

      by_cases : (number : ℕ) → Contains (numbers_of last.before) number ⊎ (hold.number ≡ number) → HasLine l number
      by_cases number (inl d) = turn_line number (subst (λ (ns : List ℕ). Contains ns number) (front_numbers last.before turns ms bs e count) d)
      by_cases number (inr same) = subst (HasLine l) same line

-- streams, by their bytes

follows_by : (l : LiveView) (g : Grant) (number : ℕ) → BytesRow l.wire (at_most (stream_text g.chunked (stream_head g) (taken_at l.seat number) (told_at l.seat number))) → FollowsHold l g number
follows_by l g number b = λ chain h there c. headline_law_holds l.wire l.seat number g.chunked (stream_head g) b chain h there c

follows_exactly : (l : LiveView) (g : Grant) (number : ℕ) → Sent l.wire (stream_text g.chunked (stream_head g) (taken_at l.seat number) (told_at l.seat number)) → FollowsHold l g number
follows_exactly l g number b = let all = stream_text g.chunked (stream_head g) (taken_at l.seat number) (told_at l.seat number) in follows_by l g number (all, ([], append-nil all), b)

follows_stream : (l : LiveView) (g : Grant) (hold : KeptView) → Streams (stream_of g hold) l.wire l.seat → FollowsHold l g hold.number
follows_stream l g hold s = follows_exactly l g hold.number (stream_law_holds.streams (stream_of g hold) l.wire l.seat s)

follows_finished : (l : LiveView) (g : Grant) (hold : KeptView) (cause : EndCause) → Finished (stream_of g hold) l.wire l.seat cause → FollowsHold l g hold.number
follows_finished l g hold cause f = follows_exactly l g hold.number (stream_law_holds.finished (stream_of g hold) l.wire l.seat cause f).0

follows_stopped : (l : LiveView) (g : Grant) (hold : KeptView) (end_told : Option EndCause) → Stopped (stream_of g hold) l.wire l.seat end_told → FollowsHold l g hold.number
follows_stopped l g hold end_told s = follows_by l g hold.number (stream_law_holds.stopped (stream_of g hold) l.wire l.seat end_told s)

text_at : (chunked : Bool) (head : List ℕ) (s : SeatView) (number : ℕ) (share : Share) → share_of_hold s number ≡ Some share → share.told ≡ None → stream_text chunked head share.taken None ≡ stream_text chunked head (taken_at s number) (told_at s number)
text_at chunked head s number share there untold =
    ap (λ (ps : List Piece). stream_text chunked head ps None) (sym (ap (λ (o : Option Share). option_map_or (λ (x : Share). x.taken) o []) there))
    ∙ ap (λ (o : Option EndCause). stream_text chunked head (taken_at s number) o) (sym (ap (λ (o : Option Share). option_map_or (λ (x : Share). x.told) o None) there ∙ untold))

follows_leaves : (p : Parting) (l : LiveView) (g : Grant) (hold : KeptView) → LeavesAs p l (stream_of g hold) → FollowsHold l g hold.number
follows_leaves Gone l g hold s = follows_stream l g hold s.0
follows_leaves Wanting l g hold s = follows_stopped l g hold None s

follows_left : (p : Parting) (l : LiveView) (g : Grant) (hold : KeptView) → LeftAs p l g hold → FollowsHold l g hold.number
follows_left Gone l g hold s = follows_exactly l g hold.number (subst (Sent l.wire) (text_at g.chunked (stream_head g) l.seat hold.number s.share s.is.there s.is.told_is) s.bytes)
follows_left Wanting l g hold s = follows_by l g hold.number (s.part, subst (IsPrefix s.part) (text_at g.chunked (stream_head g) l.seat hold.number s.share s.is.there s.is.told_is) s.is_part, s.bytes)

-- long polls, by their bytes

module _ (l : LiveView) (p : Poll) (rows : Polling l p) (number : ℕ) (share : Share) (there : share_of_hold l.seat number ≡ Some share) (asked_for : MayPoll p share.spec) where
  abbrev poll_bytes : OwnAnswer → ℕ → List ℕ
  poll_bytes own repeats = poll_text own repeats (taken_at l.seat number) (told_at l.seat number)

  line_polled : BytesRow l.wire (at_most (poll_bytes (own_of p.answer.value) p.asked.value.repeats)) → HasLine l number
  line_polled bytes = polled (record {
    poll = p;
    rows = rows;
    share = share;
    there = there;
    asked_for = asked_for;
    bytes = bytes;
    answered = λ h at told. (
        let a = answer_law_is l.seat number h (own_of p.answer.value) p.asked.value.repeats at told in
        record { part = a.0; one = a.1; bytes = subst (λ (text : List ℕ). BytesRow l.wire (at_most text)) a.2 bytes });
    chains = λ chain h at c. poll_chain_law_holds chain l.seat.pass.seen number h at c;
    items = λ h at channels deadline again is. poll_item_law_holds l.seat.pass.seen number h at channels deadline again is;
  })

  line_row : (moment : ℕ) (v : WaitView) → IsPollOf p moment v → BytesRow l.wire (exactly (poll_bytes v.own v.repeats)) → HasLine l number
  line_row moment v is bytes = line_polled
      (subst (λ (text : List ℕ). BytesRow l.wire (at_most text)) (ap (λ (own : OwnAnswer). poll_bytes own v.repeats) is.own_is ∙ ap (poll_bytes (own_of p.answer.value)) is.repeats_is) (poll_bytes v.own v.repeats, ([], append-nil (poll_bytes v.own v.repeats)), bytes))

  line_nothing : BytesRow l.wire (exactly []) → HasLine l number
  line_nothing bytes = line_polled ([], (poll_bytes (own_of p.answer.value) p.asked.value.repeats, refl), bytes)

line_still : (l : LiveView) (p : Poll) (hold : KeptView) → Polling l p → StillPolls l p hold → HasLine l hold.number
line_still l p hold rows s = line_nothing l p rows hold.number s.share s.is.there s.asked_for s.bytes

asked_by : (p : Poll) (moment : ℕ) (v : WaitView) (spec : HoldSpec) → IsPollOf p moment v → spec ≡ v.spec → MayPoll p spec
asked_by p moment v spec is same = (moment, subst (PollsFor p moment) (sym same) is.spec_is)

line_answered : (l : LiveView) (p : Poll) (hold : KeptView) (cause : EndCause) (code moment : ℕ) (v : WaitView) → Polling l p → IsPollOf p moment v → IsAnswered v l.wire l.seat hold cause code → HasLine l hold.number
line_answered l p hold cause code moment v rows is a = line_row l p rows hold.number a.share a.ended.is.there (asked_by p moment v a.share.spec is a.ended.spec_is) moment v is (wait_law_holds.answered v l.wire l.seat hold cause code a)

line_unput : (l : LiveView) (p : Poll) (hold : KeptView) (cause : EndCause) (moment : ℕ) (v : WaitView) → Polling l p → IsPollOf p moment v → IsUnput v l.wire l.seat hold cause → HasLine l hold.number
line_unput l p hold cause moment v rows is a = line_nothing l p rows hold.number a.share a.ended.is.there (asked_by p moment v a.share.spec is a.ended.spec_is) a.bytes

line_overflowed : (l : LiveView) (p : Poll) (hold : KeptView) (moment : ℕ) (v : WaitView) → Polling l p → IsPollOf p moment v → IsOverflowed v l.wire l.seat hold → HasLine l hold.number
line_overflowed l p hold moment v rows is a = line_nothing l p rows hold.number a.share a.ended.is.there (asked_by p moment v a.share.spec is a.ended.spec_is) a.bytes

line_retried : (l : LiveView) (p : Poll) (r : Repeat) (moment : ℕ) (v : WaitView) → Polling l p → IsPollOf p moment v → IsRetried v l.wire l.seat r → HasLine l r.hold.number
line_retried l p r moment v rows is a = line_nothing l p rows r.hold.number a.share a.ended.is.there (asked_by p moment v a.share.spec is a.ended.spec_is) a.bytes

-- the headline of each stage

kept_reports : (l : LiveView) (turns : List Turn) (hold : KeptView) (o : IsPrefix (reports_before turns) l.reports.items) (row : HoldsRow l.seat l.reports.items (kept hold)) → reports_of row.done ++ [] ≡ reports_before turns ++ o.0
kept_reports l turns hold o row = append-nil (reports_of row.done) ∙ sym row.reported ∙ sym o.1

all_reports : (l : LiveView) (turns : List Turn) (o : IsPrefix (reports_before turns) l.reports.items) → l.reports.items ≡ reports_of (holds_of l.seat) → reports_of (holds_of l.seat) ++ [] ≡ reports_before turns ++ o.0
all_reports l turns o same = append-nil (reports_of (holds_of l.seat)) ∙ sym same ∙ sym o.1

last_reports : (l : LiveView) (turns : List Turn) (hold : KeptView) (last : IsLastHold l hold) (o : IsPrefix (reports_before turns) l.reports.items) → l.reports.items ≡ reports_of (holds_of l.seat)
    → reports_of last.before ++ report hold.number last.share ∷ [] ≡ reports_before turns ++ o.0
last_reports l turns hold last o same = sym (map-append (λ (h : ℕ × Share). report h.0 h.1) last.before ((hold.number, last.share) ∷ [])) ∙ ap reports_of (sym last.all) ∙ sym same ∙ sym o.1

none_reports : (l : LiveView) → HoldsRow l.seat l.reports.items none → l.reports.items ≡ reports_of (holds_of l.seat)
none_reports l row = row.reported ∙ ap reports_of (sym row.stands)

-- by the rows of a stream or of a long poll
module _ (l : LiveView) (turns : List Turn) (asked : Asked) (behind : Behind l.charter turns asked) (held : AreHeld l.seat turns) (told : IsPrefix (reports_before turns) l.reports.items) where
  by_unattached : IsUnattached l turns → HasHeadline l
  by_unattached is = line_turns l l.charter turns asked behind held [] told.0 (all_reports l turns told (none_reports l is.holds)) None is.attaches

  by_declined : (Asks : HoldSpec → Type 0) → IsDeclined l turns Asks → HasHeadline l
  by_declined Asks is = line_turns l l.charter turns asked behind held [] told.0 (all_reports l turns told (none_reports l is.holds)) (Some is.spec) (record { made = is.attaches.made; holds = is.attaches.holds })

  by_kept : (Asks : HoldSpec → Type 0) (hold : KeptView) → HasAttached l turns Asks → HoldsRow l.seat l.reports.items (kept hold) → HasLine l hold.number → HasHeadline l
  by_kept Asks hold at row line =
      line_last l l.charter turns asked behind held hold (record { before = row.done; share = row.stands.share; all = row.stands.all }) at.spec at.attaches [] told.0 (kept_reports l turns hold told row) line

  by_reported : (Asks : HoldSpec → Type 0) (hold : KeptView) (last : IsLastHold l hold) → HasAttached l turns Asks → l.reports.items ≡ reports_of (holds_of l.seat) → HasLine l hold.number → HasHeadline l
  by_reported Asks hold last at same line =
      line_last l l.charter turns asked behind held hold last at.spec at.attaches (report hold.number last.share ∷ []) told.0 (last_reports l turns hold last told same) line

line_recalled : (l : LiveView) (g : Grant) (rows : Granting l g) (number : ℕ) → Recalled l g rows number → FollowsHold l g number → HasLine l number
line_recalled l g rows number c follows =
    streamed (record { grant = g; rows = rows; talks = closed_begins l.charter.signer (source_of g c.spec) (aims_for l g rows) c.qs number l.line l.seat c.row; follows = follows })

pub headline_held : (l : LiveView) (stage : Held) → HeldTold l stage → HasHeadline l
headline_held l (Attaching s) h = let k = h.rows.heard in by_unattached l k.turns s.grant.asked.value k.behind k.held k.told h.is
headline_held l (Declining s) h = let k = h.rows.heard in by_declined l k.turns s.grant.asked.value k.behind k.held k.told (AsksFor s.grant) h.is
headline_held l (Streaming s) h = let k = h.keeps.rows.heard in
    by_kept l k.turns s.grant.asked.value k.behind k.held k.told (AsksFor s.grant) s.recovering.stream.hold h.keeps.attached h.keeps.holds
    (streamed (record {
      grant = s.grant;
      rows = h.keeps.rows;
      talks = recovers_begins l.charter.signer (source_of s.grant h.recalls.spec) (aims_for l s.grant h.keeps.rows) h.recalls.qs (sides s.recovering l.wire l.line l.seat) h.recalls.row;
      follows = follows_stream l s.grant s.recovering.stream.hold (subst (λ z. Streams z l.wire l.seat) h.framed h.streams);
    }))
headline_held l (Closing s) h = let k = h.rows.heard in
    by_reported l k.turns s.grant.asked.value k.behind k.held k.told (AsksFor s.grant) s.hold.value h.is.own h.is.attached (none_reports l h.is.holds)
    (line_recalled l s.grant h.rows s.hold.value.number h.recalled (follows_finished l s.grant s.hold.value s.cause h.is.finished))
headline_held l (Leaving s) h = let k = h.keeps.rows.heard in
    by_kept l k.turns s.grant.asked.value k.behind k.held k.told (AsksFor s.grant) s.hold h.keeps.attached h.keeps.holds (line_recalled l s.grant h.keeps.rows s.hold.number h.recalled (follows_leaves s.parting l s.grant s.hold h.leaves))
headline_held l (Beginning s) h = let k = h.rows.heard in by_unattached l k.turns s.poll.asked.value k.behind k.held k.told h.is
headline_held l (Denying s) h = let k = h.rows.heard in by_declined l k.turns s.poll.asked.value k.behind k.held k.told (MayPoll s.poll) h.is
headline_held l (Waiting s) h = let k = h.keeps.rows.heard in
    by_kept l k.turns s.poll.asked.value k.behind k.held k.told (PollsFor s.poll s.since.value) s.wait.hold h.keeps.attached h.keeps.holds
    (line_nothing l s.poll h.keeps.rows s.wait.hold.number h.waits.polls.share h.waits.polls.is.there (asked_by s.poll s.since.value s.wait h.waits.polls.share.spec h.poll_is h.waits.polls.spec_is) h.waits.bytes)
headline_held l (Answering s) h = let k = h.rows.heard in
    by_reported l k.turns s.poll.asked.value k.behind k.held k.told (PollsFor s.poll h.is.moment) s.hold.value h.is.own h.is.attached (none_reports l h.is.holds)
    (line_answered l s.poll s.hold.value s.cause s.code h.is.moment h.is.wait h.rows h.is.poll_is h.is.is)
headline_held l (Departing s) h = let k = h.keeps.rows.heard in
    by_kept l k.turns s.poll.asked.value k.behind k.held k.told (PollsFor s.poll h.moment) s.hold h.keeps.attached h.keeps.holds (line_still l s.poll s.hold h.keeps.rows h.still)

-- a session that keeps no hold

past_headline : (l : LiveView) (o : Option Asked) (last : Last) → PastOf l.line l.charter l.seat l.reports.items o last → HasHeadline l
past_headline l None last h = λ number c. absurd (none_in number (subst (λ (ns : List ℕ). Contains ns number) (ap numbers_of h.holds) c))
past_headline l (Some asked) last h =
    line_turns l l.charter h.turns asked h.behind h.held [] [] (append-nil (reports_of (holds_of l.seat)) ∙ sym (none_reports l h.holds) ∙ h.told ∙ sym (append-nil (reports_before h.turns))) None h.attaches

pub headline_free : (l : LiveView) (stage : Stage) → Told l stage → HasHeadline l
headline_free l stage t = past_headline l (asked_in stage) (last_of stage t.given) t.talks

-- at an end

module _ (l : LiveView) (turns : List Turn) (asked : Asked) (behind : Behind l.charter turns asked) (held : AreHeld l.seat turns) (told : IsPrefix (reports_before turns) l.reports.items) (same : l.reports.items ≡ reports_of (holds_of l.seat)) where
  stream_says : (g : Grant) (rows : Granting l g) → BeginsTalks l.line (aims_for l g rows) → (e : SessionEnd) (y : Why) → HeldEnds l turns g e y → HasHeadline l
  stream_says g rows talks e y (full_sent h bytes rest) = by_declined l turns asked behind held told (AsksFor g) h
  stream_says g rows talks e y (full_gone h bytes failed) = by_declined l turns asked behind held told (AsksFor g) h
  stream_says g rows talks e y (full_wanting h bytes) = by_declined l turns asked behind held told (AsksFor g) h
  stream_says g rows talks e y (unattached_wanting h) = by_unattached l turns asked behind held told h
  stream_says g rows talks e y (unattached_worn h worn) = by_unattached l turns asked behind held told h
  stream_says g rows talks e y (told_sent hold cause h rest) = by_reported l turns asked behind held told (AsksFor g) hold h.own h.attached same (streamed (record { grant = g; rows = rows; talks = talks; follows = follows_finished l g hold cause h.finished }))
  stream_says g rows talks e y (told_gone hold cause h failed) = by_reported l turns asked behind held told (AsksFor g) hold h.own h.attached same (streamed (record { grant = g; rows = rows; talks = talks; follows = follows_finished l g hold cause h.finished }))
  stream_says g rows talks e y (told_wanting hold cause h) = by_reported l turns asked behind held told (AsksFor g) hold h.own h.attached same (streamed (record { grant = g; rows = rows; talks = talks; follows = follows_stopped l g hold (Some cause) h.stopped }))
  stream_says g rows talks e y (kept_worn hold attached own s worn) = by_reported l turns asked behind held told (AsksFor g) hold own attached same (streamed (record { grant = g; rows = rows; talks = talks; follows = follows_stream l g hold s }))
  stream_says g rows talks e y (leaving_worn hold parting attached own s worn) = by_reported l turns asked behind held told (AsksFor g) hold own attached same (streamed (record { grant = g; rows = rows; talks = talks; follows = follows_leaves parting l g hold s }))
  stream_says g rows talks e y (let_go hold parting attached own detached s) = by_reported l turns asked behind held told (AsksFor g) hold own attached same (streamed (record { grant = g; rows = rows; talks = talks; follows = follows_left parting l g hold s }))

  poll_says : (p : Poll) → Polling l p → (e : SessionEnd) (y : Why) → PollEnds l turns p e y → HasHeadline l
  poll_says p rows e y (denied_sent h bytes rest) = by_declined l turns asked behind held told (MayPoll p) h
  poll_says p rows e y (denied_gone h bytes failed) = by_declined l turns asked behind held told (MayPoll p) h
  poll_says p rows e y (denied_wanting h bytes) = by_declined l turns asked behind held told (MayPoll p) h
  poll_says p rows e y (unbegun_wanting h) = by_unattached l turns asked behind held told h
  poll_says p rows e y (unbegun_worn h worn) = by_unattached l turns asked behind held told h
  poll_says p rows e y (answered_sent hold cause code h rest) = by_reported l turns asked behind held told (PollsFor p h.moment) hold h.own h.attached same (line_answered l p hold cause code h.moment h.wait rows h.poll_is h.is)
  poll_says p rows e y (answered_gone hold cause code h failed) = by_reported l turns asked behind held told (PollsFor p h.moment) hold h.own h.attached same (line_answered l p hold cause code h.moment h.wait rows h.poll_is h.is)
  poll_says p rows e y (unput hold cause h) = by_reported l turns asked behind held told (PollsFor p h.moment) hold h.own h.attached same (line_unput l p hold cause h.moment h.wait rows h.poll_is h.is)
  poll_says p rows e y (overflowed hold h rest) = by_reported l turns asked behind held told (PollsFor p h.moment) hold h.own h.attached same (line_overflowed l p hold h.moment h.wait rows h.poll_is h.is)
  poll_says p rows e y (unrepeated r h) = by_reported l turns asked behind held told (PollsFor p h.moment) r.hold h.own h.attached same (line_retried l p r h.moment h.wait rows h.poll_is h.is)
  poll_says p rows e y (waiting_worn now hold attached own s worn) = by_reported l turns asked behind held told (PollsFor p now) hold own attached same (line_still l p hold rows s)
  poll_says p rows e y (departed now hold parting share attached own detached is asked_for bytes by) =
      by_reported l turns asked behind held told (PollsFor p now) hold own attached same (line_nothing l p rows hold.number share is.there asked_for bytes)

finish_begins : (l : LiveView) (g : Grant) (rows : Granting l g) → HasRecalled l g rows → BeginsTalks l.line (aims_for l g rows)
finish_begins l g rows (alone row pages) = begins_alone l.line (aims_for l g rows) row
finish_begins l g rows (recalled hold last c) = closed_begins l.charter.signer (source_of g c.spec) (aims_for l g rows) c.qs hold.number l.line l.seat c.row

pub headline_end : (l : LiveView) (ended : Ended) → PhaseFinishes l ended → HasHeadline l
headline_end l ended (inl f) = past_headline l (asked_in f.stage) (hung_up (last_of f.stage f.told.given)) f.told.talks
headline_end l ended (inr f) = by_kind f.by
  where
    by_kind : StreamFinishes l ended ⊎ PollFinishes l ended → HasHeadline l
    by_kind (inl s) = stream_says l s.rows.heard.turns s.grant.asked.value s.rows.heard.behind s.rows.heard.held s.rows.heard.told f.reported s.grant s.rows (finish_begins l s.grant s.rows s.talks) ended.end ended.why s.says
    by_kind (inr p) = poll_says l p.rows.heard.turns p.poll.asked.value p.rows.heard.behind p.rows.heard.held p.rows.heard.told f.reported p.poll p.rows ended.end ended.why p.says
