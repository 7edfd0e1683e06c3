-- What a poll of a talk comes to in which a stream asks for a page.
use Rattle.std.proofs.Common.{◌≡◌, ℕ, ◌<◌, arith, List, [], ◌∷◌, ◌++◌, refl, sym, ap, ◌∙◌, subst, append-nil, Option, Some, None}
use Rattle.std.specs.declared.snapshot.Snapshot.{Snapshot}
use Rattle.gp_plain.specs.declared.event.Then.{Then}
use Rattle.gp_outside.specs.Counts.{Rose}
use Rattle.gp_outside.specs.Dials.{DialTells}
use Rattle.gp_exchange.specs.Answers.{Waits, rank}
use Rattle.gp_exchange.specs.declared.answer.ExchangeFault.TheVariants.{Dial}
use Rattle.gp_exchange.specs.declared.place.Place.{Place}
use Rattle.gp_exchange.specs.declared.place.Place.TheVariants as place
use Rattle.gp_recover.specs.Moves.{Gives, IsAnswered, IsGiven, IsKept}
use Rattle.gp_recover.specs.Views.{IsLive, RecoveryView, SoughtView, answer_at, place_at, place_of, told}
use Rattle.gp_recover.specs.declared.page.Page.{Page as RecoveredPage}
use Rattle.gp_recover.specs.declared.page.PageFault.{PageFault}
use Rattle.gp_recover.specs.declared.page.PageFault.TheVariants.{Exchange}
use Rattle.gp_recover.specs.declared.recovered.Last.{Last}
use Rattle.gp_recover.specs.declared.recovered.Last.TheVariants as last
use Rattle.gp_recover.specs.declared.recovered.Recovered.{Recovered}
use Rattle.gp_recover.specs.declared.recovered.Recovered.TheVariants.{Got, NotReady, Failed, NoMemory}
use Rattle.gp_recover.specs.declared.stage.Over.{Over as Ending}
use Rattle.gp_recover.specs.declared.stage.Stage.{Stage}
use Rattle.gp_recover.specs.declared.stage.Stage.TheVariants.{Unbegun, Heading, Reading, Over, Lost}
use Rattle.gp_session.specs.Lines.{Aim, LineRow, LineView, MovedLine, aim_sought, idle}
use Rattle.gp_session.specs.Seeking.{SeeksRow, aims_at, last_at}
use Rattle.gp_session.specs.declared.paging.StreamPage.{StreamPage}
use Rattle.std.proofs.Common.{Bool, true, IfSome}
use Rattle.std.specs.Prelude.{⊤}
use Rattle.gp_exchange.proofs.Leading.{later_same}
use Rattle.gp_instruct.specs.Targets.{IsTarget}
use Rattle.gp_again.specs.Links.{LinkLaw}
use Rattle.gp_session_recover.specs.Rows.{RecoveringView, Seeks, SeeksAs, SeeksOpen, failed, got, lost, waits}
use Rattle.gp_session_recover.specs.declared.talk.Talk.{Talk}
use Rattle.gp_session_recover.specs.declared.talk.Talk.TheVariants.{None as NoTalk, Open, Page, Failed as FailedTalk}
use Rattle.gp_session_recover.specs.declared.open.Open.{Open as OpenTalk}
use Rattle.gp_session_recover.specs.declared.open.Advanced.TheVariants as advanced
use Rattle.gp_session_recover.specs.Talks.{Advances, FailedPage, GoesOn, GotPage, LostPage}

-- an end isn't a wait
no_wait : (l : Last) → NotReady ≡ told l → ⊥
no_wait (last.Got page) e = cc
no_wait (last.Failed fault) e = cc
no_wait last.NoMemory e = cc

live_by : (st : Stage) → NotReady ≡ answer_at st → IsLive st
live_by (Unbegun unbegun) e = tt
live_by (Heading heading) e = tt
live_by (Reading reading) e = tt
live_by (Over over) e = no_wait over.last e
live_by Lost e = absurd (let no : NotReady ≡ NoMemory = e in (cc))

-- an exchange that waits isn't over
early_waits : (p : Place) (old now : DialTells) → Waits p old now → rank p < 5
early_waits (place.Unbegun request) old now w = omega arith
early_waits (place.Connecting request) old now w = omega arith
early_waits (place.Sending sending) old now w = omega arith
early_waits (place.Heading heading) old now w = omega arith
early_waits (place.Reading reading) old now w = omega arith
early_waits (place.Over over) old now w = absurd w

module _ (t : OpenTalk) (l m : LineView) (moved : MovedLine l m) (s : SoughtView) (st : Stage) (sought : s ≡ t.recovery.sought) (kept : IsKept s st)
    (row : (aims : List Aim) → SeeksRow l aims t.recovery → LineRow m (aims_at s st aims) (last_at s st)) where
  abbrev after : RecoveryView
  after = record { sought = s; stage = st }

  pub waits_by : NotReady ≡ answer_at st → Gives (place_of t.recovery) (place_of after) l.dial m.dial NotReady → Advances t l m (advanced.Waits (record { recovery = after; from = t.from; moment = t.moment }))
  waits_by answers gave = record { moved = moved; says = record { sought = sought; from = refl; moment = refl; live = live_by st answers; early = early_waits (place_of after) l.dial m.dial gave.1; waits = gave.1; row = row } }

-- the talk is over
module _ (t : OpenTalk) (l m : LineView) (s : SoughtView) (over : Ending) (sought : s ≡ t.recovery.sought) (row : (aims : List Aim) → SeeksRow l aims t.recovery → LineRow m (aims_at s (Over over) aims) (last_at s (Over over))) where
  row_at : (end : Last) → over.last ≡ end → (aims : List Aim) → SeeksRow l aims t.recovery → LineRow m (aims ++ aim_sought (record { sought = t.recovery.sought; at = over.exchange.value.place; end = end }) ∷ []) idle
  row_at end is aims r =
      subst (λ (x : Last). LineRow m (aims ++ aim_sought (record { sought = t.recovery.sought; at = over.exchange.value.place; end = x }) ∷ []) idle) is
      (subst (λ (x : SoughtView). LineRow m (aims ++ aim_sought (record { sought = x; at = over.exchange.value.place; end = over.last }) ∷ []) idle) sought (row aims r))

  got_at : (page : RecoveredPage) (link : Option (List ℕ)) → link ≡ page.link → (end : Last) → over.last ≡ end → Got page ≡ told end → IsGiven s end → GotPage t l m (record { from = t.from; to = page.to; bytes = page.bytes; then = page.then }) link
  got_at page link is_link (last.Got snap) is e given =
      let same : page ≡ snap.value = cc in
      record {
        at = over.exchange.value.place;
        got = snap;
        page_is = ap (λ (p : RecoveredPage). record { from = t.from; to = p.to; bytes = p.bytes; then = p.then }) same;
        link_is = is_link ∙ ap (λ (p : RecoveredPage). p.link) same;
        answered = subst (λ (x : SoughtView). IsAnswered x snap.value) sought given;
        row = row_at (last.Got snap) is;
      }
  got_at page link is_link (last.Failed fault) is e given = absurd cc
  got_at page link is_link last.NoMemory is e given = absurd cc

  failed_at : (fault : PageFault) (end : Last) → over.last ≡ end → Failed fault ≡ told end → (rank (place_of t.recovery) < 5 → fault ≡ Exchange Dial → Rose l.dial.faults m.dial.faults) → FailedPage t l m
  failed_at fault (last.Got snap) is e rises = absurd cc
  failed_at fault (last.Failed f) is e rises =
      let same : f ≡ fault = cc in
      record { at = over.exchange.value.place; fault = f; rises = λ early dial. rises early (sym same ∙ dial); row = row_at (last.Failed f) is }
  failed_at fault last.NoMemory is e rises = absurd cc

  lost_at : (end : Last) → over.last ≡ end → LostPage t l m
  lost_at end is = record {
    cut = Some (aim_sought (record { sought = t.recovery.sought; at = over.exchange.value.place; end = end }));
    cut_is = (refl, refl);
    row = row_at end is;
  }

module _ (t : OpenTalk) (l m : LineView) (moved : MovedLine l m) (s : SoughtView) (sought : s ≡ t.recovery.sought) where
  pub got_by : (page : RecoveredPage) (link : Option (List ℕ)) → link ≡ page.link → (st : Stage) → IsKept s st → ((aims : List Aim) → SeeksRow l aims t.recovery → LineRow m (aims_at s st aims) (last_at s st)) → Got page ≡ answer_at st
      → Advances t l m (advanced.Got (record { from = t.from; to = page.to; bytes = page.bytes; then = page.then }) link)
  got_by page link is (Unbegun unbegun) kept row e = absurd (let no : Got page ≡ NotReady = e in (cc))
  got_by page link is (Heading heading) kept row e = absurd (let no : Got page ≡ NotReady = e in (cc))
  got_by page link is (Reading reading) kept row e = absurd (let no : Got page ≡ NotReady = e in (cc))
  got_by page link is (Over over) kept row e = record { moved = moved; says = got_at t l m s over sought row page link is over.last refl e kept }
  got_by page link is Lost kept row e = absurd (let no : Got page ≡ NoMemory = e in (cc))

  dial_rises : (st : Stage) (fault : PageFault) → Gives (place_of t.recovery) (place_at s st) l.dial m.dial (Failed fault) → rank (place_of t.recovery) < 5 → fault ≡ Exchange Dial → Rose l.dial.faults m.dial.faults
  dial_rises st fault gave early is = (subst (λ (f : PageFault). Gives (place_of t.recovery) (place_at s st) l.dial m.dial (Failed f)) is gave).1 early

  pub failed_by : (fault : PageFault) (st : Stage) → ((aims : List Aim) → SeeksRow l aims t.recovery → LineRow m (aims_at s st aims) (last_at s st)) → Failed fault ≡ answer_at st
      → Gives (place_of t.recovery) (place_at s st) l.dial m.dial (Failed fault) → Advances t l m advanced.Failed
  failed_by fault (Unbegun unbegun) row e gave = absurd (let no : Failed fault ≡ NotReady = e in (cc))
  failed_by fault (Heading heading) row e gave = absurd (let no : Failed fault ≡ NotReady = e in (cc))
  failed_by fault (Reading reading) row e gave = absurd (let no : Failed fault ≡ NotReady = e in (cc))
  failed_by fault (Over over) row e gave = record { moved = moved; says = failed_at t l m s over sought row fault over.last refl e (dial_rises (Over over) fault gave) }
  failed_by fault Lost row e gave = absurd (let no : Failed fault ≡ NoMemory = e in (cc))

  pub lost_by : (st : Stage) → ((aims : List Aim) → SeeksRow l aims t.recovery → LineRow m (aims_at s st aims) (last_at s st)) → NoMemory ≡ answer_at st → Advances t l m advanced.NoMemory
  lost_by (Unbegun unbegun) row e = absurd (let no : NoMemory ≡ NotReady = e in (cc))
  lost_by (Heading heading) row e = absurd (let no : NoMemory ≡ NotReady = e in (cc))
  lost_by (Reading reading) row e = absurd (let no : NoMemory ≡ NotReady = e in (cc))
  lost_by (Over over) row e = record { moved = moved; says = lost_at t l m s over sought row over.last refl }
  lost_by Lost row e = record { moved = moved; says = record { cut = None; cut_is = tt; row = λ aims r. subst (λ (all : List Aim). LineRow m all idle) (sym (append-nil aims)) (row aims r) } }

-- ---- between the stream and its talk

-- a page's link can be asked
pub link_target : LinkLaw → (t : OpenTalk) (l m : LineView) (page : StreamPage) (link : Option (List ℕ)) → Advances t l m (advanced.Got page link) → IfSome link IsTarget
link_target law t l m page link a =
    let g = a.says in
    subst (λ (k : Option (List ℕ)). IfSome k IsTarget) (sym g.link_is) (law.page g.answered.head g.answered.content t.recovery.sought.channel t.recovery.sought.from g.got.value g.answered.is)

moved_line_same : (l : LineView) → MovedLine l l
moved_line_same l = record { start = refl; later = later_same l.dial }

abbrev pub IsUnopen : Talk → Type 0
IsUnopen NoTalk = ⊤
IsUnopen (Open t) = ⊥
IsUnopen (Page page) = ⊤
IsUnopen FailedTalk = ⊤

-- where no talk is open
pub unsought : (v u : RecoveringView) (l : LineView) (talk : Talk) → v.talk ≡ talk → IsUnopen talk → u ≡ v → Seeks v u l l true
unsought v u l NoTalk is closed same = record { stream = ap (λ x. x.stream) same; moved = moved_line_same l; says = subst (λ (x : Talk). SeeksAs x v u l l true) (sym is) (record { talk = ap (λ x. x.talk) same; again = ap (λ x. x.again) same; line = refl; room_is = refl }) }
unsought v u l (Open t) is closed same = absurd closed
unsought v u l (Page page) is closed same = record { stream = ap (λ x. x.stream) same; moved = moved_line_same l; says = subst (λ (x : Talk). SeeksAs x v u l l true) (sym is) (record { talk = ap (λ x. x.talk) same; again = ap (λ x. x.again) same; line = refl; room_is = refl }) }
unsought v u l FailedTalk is closed same = record { stream = ap (λ x. x.stream) same; moved = moved_line_same l; says = subst (λ (x : Talk). SeeksAs x v u l l true) (sym is) (record { talk = ap (λ x. x.talk) same; again = ap (λ x. x.again) same; line = refl; room_is = refl }) }

-- where one is
pub sought_open : (v u : RecoveringView) (l m : LineView) (room : Bool) (t : OpenTalk) → v.talk ≡ Open t → u.stream ≡ v.stream → MovedLine l m → SeeksOpen t (record v { talk = NoTalk }) u l m room → Seeks v u l m room
sought_open v u l m room t is stream moved says = record { stream = stream; moved = moved; says = subst (λ (x : Talk). SeeksAs x v u l m room) (sym is) (again_as says) }
  where
    again_as : {r : Bool} → SeeksOpen t (record v { talk = NoTalk }) u l m r → SeeksOpen t v u l m r
    again_as (waits next is asks_is g) = waits next is asks_is g
    again_as (got page link is asks_is g) = got page link is asks_is g
    again_as (failed is asks_is g) = failed is asks_is g
    again_as (lost is asks_is g) = lost is asks_is g
