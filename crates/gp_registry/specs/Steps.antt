-- What one event does to what a registry keeps, and how it is answered: one law carries this to histories.
use Rattle.std.specs.Prelude.{ℕ, zero, suc, ◌+◌, ◌==◌, Bool, cond, nat_lt, List, [], ◌∷◌, ◌++◌, length, map, count_by, find, Option, Some, None, is_some}
use Rattle.gp_plain.specs.declared.event.Event.{Event}
use Rattle.gp_plain.specs.declared.event.Event.TheVariants.{Attach, Publish, Take, Page, PageFailed, Push, Join, Leave, Detach}
use Rattle.gp_plain.specs.declared.reply.Piece.{Piece}
use Rattle.gp_plain.specs.declared.reply.EndCause.{EndCause}
use Rattle.gp_plain.specs.declared.reply.Reply.{Reply}
use Rattle.gp_plain.specs.declared.reply.Reply.TheVariants.{Attached, Full, Published, Repeat, Taken, Done, Foreign, Unknown}
use Rattle.gp_plain.specs.declared.item.Item.{Item}
use Rattle.gp_plain.specs.declared.event.HoldSpec.{HoldSpec}
use Rattle.gp_plain.specs.Pieces.{id_or}
use Rattle.gp_plain.specs.Follow.{is_repeat}
use Rattle.gp_plain.specs.Holds.{RecoveryPage, begun_state, page_reply, failure_reply, SocketChange, push, join, leave, change_reply}
use Rattle.gp_plain.specs.History.{page_of}
use Rattle.gp_plain.specs.Standing.{Kept, Standing}
use Rattle.gp_registry.specs.Keeps.{pushed, served_kept, grew_kept, taken_kept, after_take_kept, after_page_kept, after_failure_kept, after_change_kept}

-- the kept hold of a number
abbrev pub found : ℕ → List Kept → Option Kept
found number kept = find (λ (k : Kept). k.number == number) kept

abbrev pub if_own : ℕ → (Kept → List Kept) → Kept → List Kept
if_own who change k = cond (k.owner == who) (change k) (k ∷ [])

-- the kept hold of a number becomes another, or none, where its owner asks
abbrev pub replaced : ℕ → ℕ → (Kept → List Kept) → List Kept → List Kept
replaced who number change [] = []
replaced who number change (k ∷ kept) = cond (k.number == number) (if_own who change k ++ kept) (k ∷ replaced who number change kept)

-- the kept hold at a place becomes another, or none
abbrev pub instead : ℕ → (Kept → List Kept) → List Kept → List Kept
instead place change [] = []
instead zero change (k ∷ kept) = change k ++ kept
instead (suc place) change (k ∷ kept) = k ∷ instead place change kept

-- a Take that tells the end releases the hold
abbrev pub kept_after_take : ℕ → Kept → List Kept
kept_after_take now k = cond (is_some (taken_kept now k).ended) [] (after_take_kept now k ∷ [])

abbrev pub kept_after_detach : Kept → List Kept
kept_after_detach k = []

abbrev pub kept_after_page : List Item → RecoveryPage → Kept → List Kept
kept_after_page window page k = after_page_kept window page k ∷ []

abbrev pub kept_after_failure : Kept → List Kept
kept_after_failure k = after_failure_kept k ∷ []

abbrev pub kept_after_change : SocketChange → Kept → List Kept
kept_after_change change k = after_change_kept change k ∷ []

abbrev pub has_place_kept : List Kept → Bool
has_place_kept kept = nat_lt (length kept) 4096

-- a hold of the next number
abbrev pub fresh_kept : Standing → ℕ → HoldSpec → Kept
fresh_kept s who spec = record { number = s.next; owner = who; state = begun_state spec s.window }

abbrev pub attached : Standing → Kept → Standing
attached s k = record s { next = s.next + 1; kept = s.kept ++ k ∷ [] }

abbrev pub published : Standing → Item → Standing
published s item = record s { window = pushed s.window item; kept = map (served_kept item s.window (pushed s.window item)) s.kept }

-- what an event does
abbrev pub stepped : Standing → ℕ → Event → Standing
stepped s who (Attach spec) = cond (has_place_kept s.kept) (attached s (fresh_kept s who spec)) s
stepped s who (Publish item) = cond (is_repeat s.window item) s (published s item)
stepped s who (Take hold now) = record s { kept = replaced who hold (kept_after_take now) s.kept }
stepped s who (Detach hold) = record s { kept = replaced who hold kept_after_detach s.kept }
stepped s who (Page hold from to bytes then) = record s { kept = replaced who hold (kept_after_page s.window (page_of from to bytes then)) s.kept }
stepped s who (PageFailed hold) = record s { kept = replaced who hold kept_after_failure s.kept }
stepped s who (Push hold message) = record s { kept = replaced who hold (kept_after_change (push message)) s.kept }
stepped s who (Join hold channel) = record s { kept = replaced who hold (kept_after_change (join channel)) s.kept }
stepped s who (Leave hold channel) = record s { kept = replaced who hold (kept_after_change (leave channel)) s.kept }

abbrev pub refused_or_kept : ℕ → ℕ → Option Kept → (Kept → Reply) → Reply
refused_or_kept who number None reply = Unknown number
refused_or_kept who number (Some k) reply = cond (k.owner == who) (reply k) (Foreign k.owner)

-- how it is answered
abbrev pub answered : Standing → ℕ → Event → Reply
answered s who (Attach spec) = cond (has_place_kept s.kept) (Attached s.next) (Full 4096)
answered s who (Publish item) =
    cond (is_repeat s.window item) (Repeat (id_or item.id [])) (Published (count_by (λ (k : Kept). grew_kept k (served_kept item s.window (pushed s.window item) k)) s.kept))
answered s who (Take hold now) = refused_or_kept who hold (found hold s.kept) (λ (k : Kept). Taken (taken_kept now k))
answered s who (Detach hold) = refused_or_kept who hold (found hold s.kept) (λ (k : Kept). Done)
answered s who (Page hold from to bytes then) = refused_or_kept who hold (found hold s.kept) (λ (k : Kept). page_reply from k.state)
answered s who (PageFailed hold) = refused_or_kept who hold (found hold s.kept) (λ (k : Kept). failure_reply k.state)
answered s who (Push hold message) = refused_or_kept who hold (found hold s.kept) (λ (k : Kept). change_reply (push message) k.state)
answered s who (Join hold channel) = refused_or_kept who hold (found hold s.kept) (λ (k : Kept). change_reply (join channel) k.state)
answered s who (Leave hold channel) = refused_or_kept who hold (found hold s.kept) (λ (k : Kept). change_reply (leave channel) k.state)

-- what waits for a kept hold; nothing where it is not kept
abbrev pub kept_pending : Option Kept → List Piece
kept_pending None = []
kept_pending (Some k) = k.state.pending

abbrev pub kept_position : Option Kept → Option (List ℕ)
kept_position None = None
kept_position (Some k) = k.state.position

abbrev pub kept_cause : Option Kept → Option EndCause
kept_cause None = None
kept_cause (Some k) = k.state.ended
