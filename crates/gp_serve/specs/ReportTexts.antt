-- What a server writes of its sessions.
use Rattle.std.specs.Prelude.{ℕ, List, ◌++◌, codes, decimal}
use Rattle.std.specs.List.{flat_map}
use Rattle.gp_script.specs.Texts.{cause_word, report_text}
use Rattle.gp_hub.specs.declared.outcome.SessionEnd.{SessionEnd}
use Rattle.gp_hub.specs.declared.outcome.SessionEnd.TheVariants.{Sent, Cut, ClientGone, Worn, NoMemory}
use Rattle.gp_workers.specs.declared.report.SessionReport.{SessionReport}
use Rattle.gp_workers.specs.declared.report.WorkerReport.{WorkerReport}

abbrev pub end_words : SessionEnd → List ℕ
end_words (Sent code) = codes "sent " ++ decimal code
end_words (Cut cause) = codes "cut " ++ cause_word cause
end_words ClientGone = codes "gone"
end_words Worn = codes "worn"
end_words NoMemory = codes "nomemory"

-- `session CLAIM END`
abbrev pub session_line : SessionReport → List ℕ
session_line report = codes "session " ++ (decimal report.claim ++ (codes " " ++ (end_words report.end ++ codes "\n")))

-- a line of the session, and then one of each of its holds, in order
abbrev pub session_text : SessionReport → List ℕ
session_text report = session_line report ++ flat_map report_text report.holds.items

abbrev pub worker_text : WorkerReport → List ℕ
worker_text worker = flat_map session_text worker.sessions.items

-- worker by worker, in the order in which the sessions of each ended
abbrev pub workers_text : List WorkerReport → List ℕ
workers_text workers = flat_map worker_text workers
