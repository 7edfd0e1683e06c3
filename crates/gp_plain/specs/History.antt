-- What a history, oldest entry first, says of its items, of its holds and of the next reply.
use Rattle.std.specs.Prelude.{ℕ, zero, suc, Bool, cond, not, nat_lt, ◌==◌, List, [], ◌∷◌, ◌++◌, length, map, count_by, fold, slice_get, Option, Some, None}
use Rattle.std.specs.Option.{option_map_or}
use Rattle.gp_plain.specs.Pieces.{id_or}
use Rattle.gp_plain.specs.Follow.{last_items, is_repeat}
use Rattle.gp_plain.specs.Holds.{Held, RecoveryPage, begun, pending, position, ended, served, grew, taken_of, taken_from, paged_from, page_reply, failed, failure_reply, push, join, leave, changed_by, change_reply, let_go}
use Rattle.gp_plain.specs.declared.item.Item.{Item}
use Rattle.gp_plain.specs.declared.event.Entry.{Entry}
use Rattle.gp_plain.specs.declared.event.Event.{Event}
use Rattle.gp_plain.specs.declared.event.Then.{Then}
use Rattle.gp_plain.specs.declared.event.Event.TheVariants.{Attach, Publish, Take, Page, PageFailed, Push, Join, Leave, Detach}
use Rattle.gp_plain.specs.declared.reply.Piece.{Piece}
use Rattle.gp_plain.specs.declared.reply.EndCause.{EndCause}
use Rattle.gp_plain.specs.declared.reply.Reply.{Reply}
use Rattle.gp_plain.specs.declared.reply.Reply.TheVariants.{Attached, Full, Published, Repeat, Taken, Done, Foreign, Unknown}

-- what a history leaves: the items that were published and weren't repeats, oldest first, and the holds ever attached,
-- whose numbers are their places
pub record Past : Type 0 where
  pub published : List Item
  pub holds : List Held

-- so many holds are kept
abbrev pub kept_count : List Held → ℕ
kept_count holds = count_by (λ (h : Held). not h.released) holds

-- there is room for one more hold below 4,096
abbrev pub has_place : List Held → Bool
has_place holds = nat_lt (kept_count holds) 4096

abbrev pub if_kept : Option Held → Option Held
if_kept None = None
if_kept (Some h) = cond h.released None (Some h)

-- the hold of a number, where it is kept
abbrev pub kept_at : List Held → ℕ → Option Held
kept_at holds number = if_kept (slice_get holds number)

-- what waits for the kept hold of a number; nothing where none is kept
abbrev pub pending_at : List Held → ℕ → List Piece
pending_at holds number = option_map_or pending (kept_at holds number) []

-- the position of the kept hold of a number
abbrev pub position_at : List Held → ℕ → Option (List ℕ)
position_at holds number = option_map_or position (kept_at holds number) None

-- the end of the kept hold of a number
abbrev pub cause_at : List Held → ℕ → Option EndCause
cause_at holds number = option_map_or ended (kept_at holds number) None

-- an event on the hold of a number is refused where none is kept, and then where another owns it
abbrev pub refused_or : ℕ → ℕ → Option Held → (Held → Reply) → Reply
refused_or who number None reply = Unknown number
refused_or who number (Some h) reply = cond (h.owner == who) (reply h) (Foreign h.owner)

-- the hold of a number is changed, where it is kept and its owner asks
abbrev pub changed_if : ℕ → (Held → Held) → Held → Held
changed_if who change h = cond (not h.released) (cond (h.owner == who) (change h) h) h

abbrev pub changed : ℕ → ℕ → (Held → Held) → List Held → List Held
changed who number change [] = []
changed who zero change (h ∷ holds) = changed_if who change h ∷ holds
changed who (suc number) change (h ∷ holds) = h ∷ changed who number change holds

-- an item that isn't a repeat is published: each hold is served, with the windows before and after it
abbrev pub served_by : Item → List Item → List Item → Held → Held
served_by item before after h = record h { state = served item before after h.state }

abbrev pub with_item : Past → Item → Past
with_item past item =
    let published = past.published ++ item ∷ [] in
    record { published = published; holds = map (served_by item (last_items past.published) (last_items published)) past.holds }

abbrev pub with_hold : Past → Held → Past
with_hold past hold = record past { holds = past.holds ++ hold ∷ [] }

abbrev pub with_holds : Past → List Held → Past
with_holds past holds = record past { holds = holds }

abbrev pub page_of : List ℕ → List ℕ → List ℕ → Then → RecoveryPage
page_of from to bytes follows = record { from = from; to = to; bytes = bytes; follows = follows }

-- what an event does
abbrev pub after_event : Past → ℕ → Event → Past
after_event past who (Attach spec) = cond (has_place past.holds) (with_hold past (begun who spec (last_items past.published))) past
after_event past who (Publish item) = cond (is_repeat (last_items past.published) item) past (with_item past item)
after_event past who (Take hold now) = with_holds past (changed who hold (taken_from now) past.holds)
after_event past who (Detach hold) = with_holds past (changed who hold let_go past.holds)
after_event past who (Page hold from to bytes then) = with_holds past (changed who hold (paged_from (last_items past.published) (page_of from to bytes then)) past.holds)
after_event past who (PageFailed hold) = with_holds past (changed who hold failed past.holds)
after_event past who (Push hold message) = with_holds past (changed who hold (changed_by (push message)) past.holds)
after_event past who (Join hold channel) = with_holds past (changed who hold (changed_by (join channel)) past.holds)
after_event past who (Leave hold channel) = with_holds past (changed who hold (changed_by (leave channel)) past.holds)

abbrev pub after : Past → Entry → Past
after past entry = after_event past entry.who entry.event

abbrev pub nothing : Past
nothing = record { published = []; holds = [] }

abbrev pub past_of : List Entry → Past
past_of entries = fold after nothing entries

-- the holds that a history attached, in order
abbrev pub held : List Entry → List Held
held entries = (past_of entries).holds

-- the items that a history published and that weren't repeats, oldest first
abbrev pub published : List Entry → List Item
published entries = (past_of entries).published

-- the last of them: those that may still follow, and that repeats are told by
abbrev pub window : List Entry → List Item
window entries = last_items (published entries)

-- how many logs an item makes grow
abbrev pub grown_count : Past → Item → ℕ
grown_count past item = count_by (λ (h : Held). grew h.state (served_by item (last_items past.published) (last_items (past.published ++ item ∷ [])) h).state) past.holds

-- the answer to an event
abbrev pub answer : Past → ℕ → Event → Reply
answer past who (Attach spec) = cond (has_place past.holds) (Attached (length past.holds)) (Full 4096)
answer past who (Publish item) = cond (is_repeat (last_items past.published) item) (Repeat (id_or item.id [])) (Published (grown_count past item))
answer past who (Take hold now) = refused_or who hold (kept_at past.holds hold) (λ (h : Held). Taken (taken_of now h.state))
answer past who (Detach hold) = refused_or who hold (kept_at past.holds hold) (λ (h : Held). Done)
answer past who (Page hold from to bytes then) = refused_or who hold (kept_at past.holds hold) (λ (h : Held). page_reply from h.state)
answer past who (PageFailed hold) = refused_or who hold (kept_at past.holds hold) (λ (h : Held). failure_reply h.state)
answer past who (Push hold message) = refused_or who hold (kept_at past.holds hold) (λ (h : Held). change_reply (push message) h.state)
answer past who (Join hold channel) = refused_or who hold (kept_at past.holds hold) (λ (h : Held). change_reply (join channel) h.state)
answer past who (Leave hold channel) = refused_or who hold (kept_at past.holds hold) (λ (h : Held). change_reply (leave channel) h.state)

-- the reply to an event after a history
abbrev pub reply : List Entry → ℕ → Event → Reply
reply entries who event = answer (past_of entries) who event
