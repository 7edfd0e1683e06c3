-- The plans for pages of a recovery.
use Rattle.std.specs.Prelude.{◌≡◌, Bool, false, List, None}
use Rattle.gp_plain.specs.Roomy.{roomy}
use Rattle.gp_plain.specs.Holds.{State, RecoveryPage, closed_behind, after_page, page_reply}
use Rattle.gp_plain.specs.Growth.{grown, last_id_of, IsReady}
use Rattle.gp_plain.specs.Plans.{Machine}
use Rattle.gp_plain.specs.declared.item.Item.{Item}
use Rattle.gp_plain.specs.declared.reply.Reply.{Reply}
use Rattle.gp_plain.specs.declared.reply.Reply.TheVariants.{Paged, Stale as StaleReply}
use Rattle.gp_hold_stream.specs.declared.page.PagePlan.{PagePlan}
use Rattle.gp_hold_stream.specs.declared.page.PagePlan.TheVariants.{Page, Stale}

-- the marks behind a page: nothing is asked any more, and nothing came late
abbrev pub with_marks : Bool → State → State
with_marks want s = record s { want = want; asked = false; late = false }

-- what a plan for a page makes of a hold
abbrev pub with_page_plan : State → PagePlan → State
with_page_plan s (Page run position last want) = with_marks want (closed_behind last (grown s run))
with_page_plan s (Stale from position want) = with_marks want s

-- how the page is answered
abbrev pub page_answer : PagePlan → Reply
page_answer (Page run position last want) = Paged
page_answer (Stale from position want) = StaleReply from position

-- the plan can be carried out with no further memory
abbrev pub IsPageReady : Machine → PagePlan → Type 0
IsPageReady m (Page run position last want) = (m.state.ended ≡ None) × IsReady (roomy m.state.pending m.spare) run × (position ≡ last_id_of run.pieces)
IsPageReady m (Stale from position want) = Unit {0}

-- the plan does to the hold what the page does, and answers it so
pub record IsPagePlanned (m : Machine) (window : List Item) (page : RecoveryPage) (plan : PagePlan) : Type 0 where
  pub ready : IsPageReady m plan
  pub effect : with_page_plan m.state plan ≡ after_page window page m.state
  pub told : page_answer plan ≡ page_reply page.from m.state
