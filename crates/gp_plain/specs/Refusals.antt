-- Which events need no memory, and which replies refuse an event.
use Rattle.std.specs.Prelude.{⊤, Bool, true, false}
use Rattle.gp_plain.specs.declared.event.Event.{Event}
use Rattle.gp_plain.specs.declared.event.Event.TheVariants.{Attach, Publish, Take, Page, PageFailed, Push, Join, Leave, Detach}
use Rattle.gp_plain.specs.declared.reply.Reply.{Reply}
use Rattle.gp_plain.specs.declared.reply.Reply.TheVariants.{Attached, Full, Published, Repeat, Taken, Paged, Stale, Done, Foreign, Gone, OtherKind, Unknown}

-- events that need no memory
abbrev pub NeedsNoMemory : Event → Type 0
NeedsNoMemory (Attach spec) = ⊥
NeedsNoMemory (Publish item) = ⊥
NeedsNoMemory (Take hold now) = ⊥
NeedsNoMemory (Page hold from to bytes then) = ⊥
NeedsNoMemory (PageFailed hold) = ⊤
NeedsNoMemory (Push hold message) = ⊥
NeedsNoMemory (Join hold channel) = ⊥
NeedsNoMemory (Leave hold channel) = ⊤
NeedsNoMemory (Detach hold) = ⊤

-- the event is refused, and did nothing. A refusal takes no memory
abbrev pub refuses : Reply → Bool
refuses (Attached number) = false
refuses (Full count) = true
refuses (Published count) = false
refuses (Repeat id) = true
refuses (Taken taken) = false
refuses Paged = false
refuses (Stale from position) = false
refuses Done = false
refuses (Foreign owner) = true
refuses (Gone cause) = true
refuses (OtherKind kind) = true
refuses (Unknown number) = true
