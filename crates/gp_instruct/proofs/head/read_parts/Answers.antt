use Rattle.std.proofs.lemmas.Result.{err_from_is_err_and}
use Rattle.gp_instruct.proofs.HeadLemmas.{status_fault}
use Rattle.gp_instruct.proofs.head.read_parts.Goals as goal

pub returns-in_err-status : goal.returns-in_err-status
returns-in_err-status c =
    let p = err_from_is_err_and c.from_residual-in_err-status.result c.from_residual-in_err-status.ensures.1 in
    rw (p.1, p.2) (status_fault c.args.fields.now c.in_ok-mode.mode c.in_ok-subs.subs c.in_ok-timeout.timeout c.in_err-status.field-0.0 c.in_ok-mode.ensures c.in_ok-subs.ensures c.in_ok-check_channels.ensures c.in_ok-timeout.ensures c.in_err-status.ensures)
