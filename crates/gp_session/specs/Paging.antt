-- Pages of a recovery, for a stream of a session's own.
use Rattle.std.specs.Prelude.{ℕ, ◌≡◌, Result, Ok, Err, ⊤}
use Rattle.gp_plain.specs.declared.event.Event.{Event}
use Rattle.gp_plain.specs.declared.event.Event.TheVariants as event
use Rattle.gp_plain.specs.Holds.{RecoveryPage}
use Rattle.gp_plain.specs.History.{page_of}
use Rattle.gp_hub.specs.Own.{HasPaged, HasFailed}
use Rattle.gp_hub.specs.declared.fault.HubFault.{HubFault}
use Rattle.gp_hub.specs.declared.fault.HubFault.TheVariants as hub
use Rattle.gp_hub.specs.declared.own.PageReply.{PageReply}
use Rattle.gp_hub.specs.declared.own.FailedReply.{FailedReply}
use Rattle.gp_session.specs.Seats.{SeatView}
use Rattle.gp_session.specs.Holding.{Serves, MetBusy, MetWorn, MetWant}
use Rattle.gp_session.specs.declared.paging.StreamPage.{StreamPage}
use Rattle.gp_session.specs.declared.paging.Paged.{Paged}
use Rattle.gp_session.specs.declared.paging.Paged.TheVariants as paged
use Rattle.gp_session.specs.declared.paging.PageFailed.{PageFailed}
use Rattle.gp_session.specs.declared.paging.PageFailed.TheVariants as failed

abbrev pub recovery_page : StreamPage → RecoveryPage
recovery_page page = page_of page.from page.to page.bytes page.then

abbrev pub page_event : ℕ → StreamPage → Event
page_event hold page = event.Page hold page.from page.to page.bytes page.then

-- the hub answered a page, or it wasn't served
abbrev pub PagesTo : SeatView → SeatView → ℕ → StreamPage → Paged → Type 0
PagesTo s t hold page (paged.Answered answer) = Serves t (HasPaged s.pass t.pass hold (recovery_page page) answer)
PagesTo s t hold page (paged.Busy back) = (back ≡ page) × MetBusy s t
PagesTo s t hold page paged.Worn = MetWorn s t
PagesTo s t hold page paged.NoMemory = MetWant s t

-- it answered that a page can't be had, or wasn't served. It never wants memory
abbrev pub FailsTo : SeatView → SeatView → ℕ → PageFailed → Type 0
FailsTo s t hold (failed.Answered answer) = Serves t (HasFailed s.pass t.pass hold answer)
FailsTo s t hold failed.Busy = MetBusy s t
FailsTo s t hold failed.Worn = MetWorn s t

-- the hub hands the page back where it is busy
abbrev pub HandsBackPage : ℕ → StreamPage → HubFault → Type 0
HandsBackPage hold page (hub.Busy back word) = back ≡ page_event hold page
HandsBackPage hold page (hub.Worn back) = ⊤
HandsBackPage hold page (hub.NoMemory back) = ⊤

-- what the hub's answers say
abbrev pub unpaged_by : StreamPage → HubFault → Paged
unpaged_by page (hub.Busy back word) = paged.Busy page
unpaged_by page (hub.Worn back) = paged.Worn
unpaged_by page (hub.NoMemory back) = paged.NoMemory

abbrev pub paged_by : StreamPage → Result PageReply HubFault → Paged
paged_by page (Ok answer) = paged.Answered answer
paged_by page (Err fault) = unpaged_by page fault

abbrev pub SaysUnfailed : HubFault → PageFailed → Type 0
SaysUnfailed (hub.Busy back word) answer = answer ≡ failed.Busy
SaysUnfailed (hub.Worn back) answer = answer ≡ failed.Worn
SaysUnfailed (hub.NoMemory back) answer = ⊥

abbrev pub SaysFailed : Result FailedReply HubFault → PageFailed → Type 0
SaysFailed (Ok reply) answer = answer ≡ failed.Answered reply
SaysFailed (Err fault) answer = SaysUnfailed fault answer
