-- What a replay keeps of each hold beside the registry: the pieces that Takes gave, and the end of a released hold.
use Rattle.std.specs.Prelude.{ℕ, zero, suc, cond, List, [], ◌∷◌, ◌++◌, Option, Some, None, option_map}
use Rattle.std.specs.List.{flat_map}
use Rattle.gp_plain.specs.declared.event.Event.{Event}
use Rattle.gp_plain.specs.declared.event.Event.TheVariants.{Attach, Publish, Take, Page, PageFailed, Push, Join, Leave, Detach}
use Rattle.gp_plain.specs.declared.reply.Piece.{Piece}
use Rattle.gp_plain.specs.declared.reply.EndCause.{EndCause}
use Rattle.gp_plain.specs.declared.reply.Reply.{Reply}
use Rattle.gp_plain.specs.declared.reply.Reply.TheVariants.{Attached, Taken, Done}
use Rattle.gp_plain.specs.Pieces.{text, position_after}
use Rattle.gp_plain.specs.Holds.{Held, log, ended, start_of, terms_of, end_or_detached}
use Rattle.gp_plain.specs.History.{pending_at, cause_at}
use Rattle.gp_script.specs.Texts.{hold_text, piece_text, end_text}
use Rattle.gp_replay.specs.declared.log.Log.{Log}
use Rattle.gp_replay.specs.declared.log.Noted.{Noted}
use Rattle.gp_replay.specs.declared.log.Noted.TheVariants.{Nothing, Begins, Takes, LetsGo}

-- what is kept of a hold: what was taken, and of a released hold the whole log and the end
abbrev pub log_of : Held → Log
log_of h = record { kind = (terms_of h.spec).kind; start = start_of h.spec; pieces = cond h.released (log h) h.taken; ended = cond h.released (ended h) None }

abbrev pub noted_of : List Held → Event → Noted
noted_of holds (Attach spec) = Begins (terms_of spec).kind (start_of spec)
noted_of holds (Take hold now) = Takes hold
noted_of holds (Detach hold) = LetsGo hold (pending_at holds hold) (end_or_detached (cause_at holds hold))
noted_of holds (Publish item) = Nothing
noted_of holds (Page hold from to bytes then) = Nothing
noted_of holds (PageFailed hold) = Nothing
noted_of holds (Push hold message) = Nothing
noted_of holds (Join hold channel) = Nothing
noted_of holds (Leave hold channel) = Nothing

-- the log at a place gets more pieces, and an end
abbrev pub longer : ℕ → List Piece → Option EndCause → List Log → List Log
longer place more ended [] = []
longer zero more ended (l ∷ logs) = (record l { pieces = l.pieces ++ more; ended = ended }) ∷ logs
longer (suc place) more ended (l ∷ logs) = l ∷ longer place more ended logs

abbrev pub begun_if : Log → Reply → List Log → List Log
begun_if fresh (Attached number) logs = logs ++ fresh ∷ []
begun_if fresh _ logs = logs

abbrev pub taken_if : ℕ → Reply → List Log → List Log
taken_if hold (Taken taken) logs = longer hold taken.pieces taken.ended logs
taken_if hold _ logs = logs

abbrev pub let_go_if : ℕ → List Piece → EndCause → Reply → List Log → List Log
let_go_if hold pending cause Done logs = longer hold pending (Some cause) logs
let_go_if hold pending cause _ logs = logs

-- the logs after an event that was noted and answered
abbrev pub after_note : List Log → Noted → Reply → List Log
after_note logs Nothing reply = logs
after_note logs (Begins kind start) reply = begun_if (record { kind = kind; start = start; pieces = []; ended = None }) reply logs
after_note logs (Takes hold) reply = taken_if hold reply logs
after_note logs (LetsGo hold pending cause) reply = let_go_if hold pending cause reply logs

-- the position after a log's pieces and those after them
abbrev pub log_position : Log → List Piece → Option (List ℕ)
log_position l more = option_map (λ (start : List ℕ). position_after (position_after start l.pieces) more) l.start

-- the text of a log, with what still waits, and the end
abbrev pub whole_text : ℕ → Log → List Piece → Option EndCause → List ℕ
whole_text number l more ended =
    hold_text number l.kind ++ (flat_map piece_text l.pieces ++ (flat_map piece_text more ++ end_text (text l.pieces ++ text more) (log_position l more) ended))

-- the end of a log: that of its release, or another
abbrev pub or_end : Option EndCause → Option EndCause → Option EndCause
or_end (Some cause) other = Some cause
or_end None other = other
