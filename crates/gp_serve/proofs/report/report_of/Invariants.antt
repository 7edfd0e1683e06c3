use Rattle.std.proofs.Common.{string_bytes, ◌≡◌, take}
use Rattle.gp_serve.specs.ReportTexts.{workers_text}
use Rattle.gp_serve.proofs.report.report_of.Given as goal

abbrev pub invariant-loop-worker : goal.invariant-loop-worker
invariant-loop-worker l = string_bytes l.text ≡ workers_text (take l.worker-index l.workers)
