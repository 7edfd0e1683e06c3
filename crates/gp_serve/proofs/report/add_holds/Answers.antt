use Rattle.std.proofs.Common.{string_bytes, ◌∙◌, ◌++◌, sym, ap, take, append_assoc, add-one, arith}
use Rattle.std.specs.List.{flat_map}
use Rattle.std.proofs.lemmas.List.{take_all}
use Rattle.gp_script.specs.Texts.{report_text}
use Rattle.gp_serve.proofs.Lists.{flat_map_more}
use Rattle.gp_serve.proofs.report.add_holds.Goals as goal

pub returns : goal.returns
returns c =
    c.loop-place.invariant ∙ ap (λ ps. string_bytes c.args.text.now ++ flat_map report_text ps) (take_all c.loop-place.place c.args.holds.now.items (omega (arith, c.len-place-end.ensures)))

pub loop-place-preserved : goal.loop-place-preserved
loop-place-preserved c =
    let holds = c.args.holds.now.items in
    let place = c.loop-place.place in
    let more = flat_map_more report_text holds place c.hold_at.result.now c.hold_at.ensures in
    c.in_ok-add_report.ensures.ok
    ∙ ap (λ o. o ++ report_text c.hold_at.result.now) c.loop-place.invariant
    ∙ append_assoc (string_bytes c.args.text.now) (flat_map report_text (take place holds)) (report_text c.hold_at.result.now)
    ∙ ap (λ t. string_bytes c.args.text.now ++ t) (sym more)
    ∙ ap (λ n. string_bytes c.args.text.now ++ flat_map report_text (take n holds)) (sym (add-one place))
