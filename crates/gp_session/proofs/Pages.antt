-- What a page, and the news that it can't be had, do to a session's pass.
use Rattle.std.proofs.Common.{◌≡◌, ℕ, ◌+◌, ◌%◌, Result, Ok, Err, refl, subst, sym, inr, inl, arith}
use Rattle.std.specs.Prelude.{IfOk, IfErr, OnErr}
use Rattle.gp_plain.specs.declared.event.Event.TheVariants.{PageFailed as PageFailedEvent}
use Rattle.gp_hub.specs.declared.fault.HubFault.{HubFault}
use Rattle.gp_hub.specs.declared.fault.HubFault.TheVariants as hub
use Rattle.gp_hub.specs.declared.own.PageReply.{PageReply}
use Rattle.gp_hub.specs.declared.own.FailedReply.{FailedReply}
use Rattle.gp_hub.specs.Passes.{IsSame}
use Rattle.gp_hub.specs.Calls.{HasCause}
use Rattle.gp_hub.specs.Own.{HasPaged, HasFailed, page_reply, failed_reply}
use Rattle.gp_session.specs.declared.paging.StreamPage.{StreamPage}
use Rattle.gp_session.specs.declared.paging.PageFailed.{PageFailed}
use Rattle.gp_session.specs.Seats.{SeatView, MovedSeat, SeatRow}
use Rattle.gp_session.specs.Holding.{MetBusy, WantsNone}
use Rattle.gp_session.specs.Paging.{PagesTo, FailsTo, HandsBackPage, SaysFailed, paged_by, page_event, recovery_page}
use Rattle.gp_session.proofs.Calling.{moved_served, row_served, free_served, moved_unserved, row_unserved}

pub page_handed_back : (hold : ℕ) (page : StreamPage) (found : ℕ) (answer : Result PageReply HubFault) → IfErr answer (HasCause (page_event hold page) found) → IfErr answer (HandsBackPage hold page)
page_handed_back hold page found (Ok reply) cause = cause
page_handed_back hold page found (Err (hub.Busy event word)) cause = cause.0
page_handed_back hold page found (Err (hub.Worn event)) cause = tt
page_handed_back hold page found (Err (hub.NoMemory event)) cause = tt

pub failure_wants_none : (hold found : ℕ) (answer : Result FailedReply HubFault) → IfErr answer (HasCause (PageFailedEvent hold) found) → IfErr answer WantsNone
failure_wants_none hold found (Ok done) cause = cause
failure_wants_none hold found (Err (hub.Busy event word)) cause = tt
failure_wants_none hold found (Err (hub.Worn event)) cause = tt
failure_wants_none hold found (Err (hub.NoMemory event)) cause = cause.3 tt

module _ (s t : SeatView) (start : t.start ≡ s.start) (same : IsSame s.pass t.pass) (looks : t.pass.looks ≡ s.pass.looks + 1) where
  busy : t.pass.seen ≡ s.pass.seen → t.pass.found % 2 ≡ 1 → MetBusy s t
  busy seen odd = record { seen = seen; busy = record { looked = omega (arith, looks); odd = odd }; free = inr (inl odd) }

  -- a page
  module _ (hold : ℕ) (page : StreamPage) where
    abbrev pub PageAnswers : Result PageReply HubFault → Type 0
    PageAnswers answer = IfOk answer (HasPaged s.pass t.pass hold (recovery_page page)) × OnErr answer (t.pass.seen ≡ s.pass.seen) × IfErr answer (HasCause (page_event hold page) t.pass.found)

    pub page_moved : (answer : Result PageReply HubFault) → PageAnswers answer → MovedSeat s t
    page_moved (Ok reply) a = moved_served s t start same looks (page_event hold page) (page_reply page.from reply) a.0.made
    page_moved (Err fault) a = moved_unserved s t start same looks a.1

    pub page_row : (answer : Result PageReply HubFault) → PageAnswers answer → SeatRow s → SeatRow t
    page_row (Ok reply) a row = row_served s t start same looks (page_event hold page) (page_reply page.from reply) a.0.made row
    page_row (Err fault) a row = row_unserved s t start same looks a.1 row

    pub page_says : (answer : Result PageReply HubFault) → PageAnswers answer → PagesTo s t hold page (paged_by page answer)
    page_says (Ok reply) a = record { served = a.0; free = free_served s t start same looks (page_event hold page) (page_reply page.from reply) a.0.made }
    page_says (Err (hub.Busy event word)) a = (refl, busy a.1 a.2.2)
    page_says (Err (hub.Worn event)) a = record { seen = a.1; worn = (a.2.1, a.2.2) }
    page_says (Err (hub.NoMemory event)) a = record { seen = a.1; free = inr (inr a.2.2) }

  -- the news that it can't be had
  module _ (hold : ℕ) where
    abbrev pub FailureAnswers : Result FailedReply HubFault → Type 0
    FailureAnswers answer = IfOk answer (HasFailed s.pass t.pass hold) × OnErr answer (t.pass.seen ≡ s.pass.seen) × IfErr answer (HasCause (PageFailedEvent hold) t.pass.found)

    pub failure_moved : (answer : Result FailedReply HubFault) → FailureAnswers answer → MovedSeat s t
    failure_moved (Ok reply) a = moved_served s t start same looks (PageFailedEvent hold) (failed_reply reply) a.0.made
    failure_moved (Err fault) a = moved_unserved s t start same looks a.1

    pub failure_row : (answer : Result FailedReply HubFault) → FailureAnswers answer → SeatRow s → SeatRow t
    failure_row (Ok reply) a row = row_served s t start same looks (PageFailedEvent hold) (failed_reply reply) a.0.made row
    failure_row (Err fault) a row = row_unserved s t start same looks a.1 row

    pub failure_says : (answer : Result FailedReply HubFault) (says : PageFailed) → FailureAnswers answer → SaysFailed answer says → FailsTo s t hold says
    failure_says (Ok reply) says a is = subst (FailsTo s t hold) (sym is) (record { served = a.0; free = free_served s t start same looks (PageFailedEvent hold) (failed_reply reply) a.0.made })
    failure_says (Err (hub.Busy event word)) says a is = subst (FailsTo s t hold) (sym is) (busy a.1 a.2.2)
    failure_says (Err (hub.Worn event)) says a is = subst (FailsTo s t hold) (sym is) (record { seen = a.1; worn = (a.2.1, a.2.2) })
    failure_says (Err (hub.NoMemory event)) says a is = absurd is
