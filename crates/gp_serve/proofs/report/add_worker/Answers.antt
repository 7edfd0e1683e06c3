use Rattle.std.proofs.Common.{string_bytes, ◌∙◌, ◌++◌, sym, ap, take, append_assoc, add-one, arith}
use Rattle.std.specs.List.{flat_map}
use Rattle.std.proofs.lemmas.List.{take_all}
use Rattle.gp_serve.specs.ReportTexts.{session_text}
use Rattle.gp_serve.proofs.Lists.{flat_map_more}
use Rattle.gp_serve.proofs.report.add_worker.Goals as goal

pub returns : goal.returns
returns c =
    c.loop-place.invariant ∙ ap (λ ps. string_bytes c.args.text.now ++ flat_map session_text ps) (take_all c.loop-place.place c.args.worker.now.sessions.items (omega (arith, c.len-place-end.ensures)))

pub loop-place-preserved : goal.loop-place-preserved
loop-place-preserved c =
    let sessions = c.args.worker.now.sessions.items in
    let place = c.loop-place.place in
    let more = flat_map_more session_text sessions place c.session_at.result.now c.session_at.ensures in
    c.in_ok-add_session.ensures
    ∙ ap (λ o. o ++ session_text c.session_at.result.now) c.loop-place.invariant
    ∙ append_assoc (string_bytes c.args.text.now) (flat_map session_text (take place sessions)) (session_text c.session_at.result.now)
    ∙ ap (λ t. string_bytes c.args.text.now ++ t) (sym more)
    ∙ ap (λ n. string_bytes c.args.text.now ++ flat_map session_text (take n sessions)) (sym (add-one place))
