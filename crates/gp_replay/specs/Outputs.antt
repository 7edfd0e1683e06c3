-- What a script writes: the reply to each event, and then each hold's log.
use Rattle.std.specs.Prelude.{ℕ, ◌+◌, List, [], ◌∷◌, ◌++◌}
use Rattle.std.specs.List.{flat_map}
use Rattle.gp_plain.specs.declared.event.Event.{Event}
use Rattle.gp_plain.specs.declared.event.Entry.{Entry}
use Rattle.gp_plain.specs.Pieces.{text}
use Rattle.gp_plain.specs.Holds.{Held, log, position, ended, terms_of}
use Rattle.gp_plain.specs.History.{held, reply}
use Rattle.gp_script.specs.Texts.{reply_text, hold_text, piece_text, end_text}
use Rattle.gp_replay.specs.Scripts.{entry_of, entries_of}

-- the replies to events after a history, each after those before it
abbrev pub replies_text : List Entry → List Event → List ℕ
replies_text past [] = []
replies_text past (event ∷ events) = reply_text (reply past 0 event) ++ replies_text (past ++ entry_of event ∷ []) events

-- the log of a hold: its kind, its pieces, their bytes, its position and its end
abbrev pub log_text : ℕ → Held → List ℕ
log_text number h = hold_text number (terms_of h.spec).kind ++ (flat_map piece_text (log h) ++ end_text (text (log h)) (position h) (ended h))

-- the logs of holds, the first of which has a number
abbrev pub logs_text : ℕ → List Held → List ℕ
logs_text number [] = []
logs_text number (h ∷ holds) = log_text number h ++ logs_text (number + 1) holds

-- the output of a script's events
abbrev pub output : List Event → List ℕ
output events = replies_text [] events ++ logs_text 0 (held (entries_of events))
