-- How a session begins, and the moves of a poll.
use Rattle.std.proofs.Common.{◌≡◌, ℕ, ◌≤◌, [], Option, Some, None, option_map, refl, sym, ap, ◌∙◌, subst, ◌⊎◌, inl, inr}
use Rattle.gp_outside.specs.Links.{LinkTells}
use Rattle.gp_hub.specs.Passes.{HubView}
use Rattle.gp_hub.specs.declared.outcome.Outcome.{Outcome}
use Rattle.gp_intake.specs.Heads.{IsBegun}
use Rattle.gp_session.specs.Seats.{IsFresh}
use Rattle.gp_session.proofs.Moving.{later_same, request_none, sent_none, mine_none, holds_none, row_none}
use Rattle.gp_session_publish.specs.declared.stage.Stage.{Stage}
use Rattle.gp_session_publish.specs.declared.stage.Stage.TheVariants.{ReadingHead}
use Rattle.gp_session_publish.specs.declared.stage.Ended.{Ended}
use Rattle.gp_session_publish.specs.declared.stage.Next.TheVariants.{Wait, End}
use Rattle.gp_session_publish.specs.declared.reading_head.ReadingHead.{ReadingHead as HeadStage}
use Rattle.gp_session_publish.specs.Views.{LiveView, Moved}
use Rattle.gp_session_publish.specs.Trace.{Asks, Told, new_live}
use Rattle.gp_session_publish.specs.Moves.{Leads}
use Rattle.gp_session_publish.specs.Polls.{OpenView, SessionView, MayLeave, Leaves, Ends, Waits, PollWaits}
use Rattle.gp_session_publish.proofs.Rows.{moved_again, pends_from}

pub told_new : (l : LiveView) (link : LinkTells) (pass : HubView) (s : HeadStage) → l ≡ new_live link pass → IsFresh pass → 1 ≤ pass.spare → s.intake ≡ [] → IsBegun s.intake → Told l (ReadingHead s)
told_new l link pass s is fresh some none begun = subst (λ (x : LiveView). Told x (ReadingHead s)) (sym is) (record {
  request = request_none link (Asks (ReadingHead s)) (sym none, subst IsBegun none begun);
  entries = mine_none pass fresh some;
  bytes = sent_none link;
  stays = record { holds = holds_none pass fresh some; seat = row_none pass; served = inl refl; later = later_same link };
})

-- a poll whose last move waits, or ends the session
pub waits_at : (u v w : LiveView) (n : ℕ) (stage : Stage) → Moved u v → Leads v w n (Wait stage) → Waits u (record { live = w; stage = stage })
waits_at u v w n stage m l = record { moved = moved_again u v w m l.moved; told = l.to.0; pends = pends_from u v w stage m l.to.1 }

pub ends_at : (u v w : LiveView) (n : ℕ) (ended : Ended) (o : Outcome) (link : LinkTells) → Moved u v → Leads v w n (End ended) → Leaves w o link → Ends u o link
ends_at u v w n ended o link m l leaves = record { l = w; moved = moved_again u v w m l.moved; leaves = leaves }

-- such an end is one that the session might have
pub may_leave : (v : LiveView) (o : Outcome) (link : LinkTells) → Ends v o link → MayLeave v.wire.start v.seat.start o
may_leave v o link e = record { l = e.l; link = link; start_is = e.moved.wire.start; pass_is = e.moved.seat.start; leaves = e.leaves }

-- and a session that waits might have no other than before
pub may_still : (v : LiveView) (q : OpenView) → Waits v q → (o : Outcome) → MayLeave q.live.wire.start q.live.seat.start o → MayLeave v.wire.start v.seat.start o
may_still v q w o m = record { l = m.l; link = m.link; start_is = m.start_is ∙ w.moved.wire.start; pass_is = m.pass_is ∙ w.moved.seat.start; leaves = m.leaves }

none_some : (p : OpenView) → None ≡ Some p → ⊥
none_some p e = cc

-- a session that is open has left nothing yet
pub poll_waits : {B : Type 0} (tells : B → LinkTells) (v : SessionView) (o : Option OpenView) (left : Option B) (p q : OpenView) → (let was : SessionView = record { open_is = o; left = option_map tells left } in was) ≡ v → o ≡ Some p → (o ≡ None) ⊎ (left ≡ None)
    → Waits p.live q → PollWaits v (record { open_is = Some q; left = option_map tells left })
poll_waits tells v o left p q same is (inl none) w = let no_open : ⊥ = none_some p (sym none ∙ is) in absurd no_open
poll_waits tells v o left p q same is (inr none) w = record { p = p; q = q; was = sym (ap (λ (x : SessionView). x.open_is) same) ∙ is; is = refl; waits = w; left = ap (option_map tells) none }
