use Rattle.std.proofs.Common.{ap, ◌∙◌}
use Rattle.std.proofs.lemmas.Result.{IfOk-weaker}
use Rattle.gp_events.proofs.WriteLemmas.{added_more, added_one}
use Rattle.gp_events.proofs.write.+add_size.Goals as goal
use Rattle.gp_events.proofs.write.+add_size.Goals.{then-size-ge16+in_ok-add_size, else-size-ge16}

pub returns : goal.returns
returns t c = elim c.if-size-ge16.branch [
  | then-size-ge16+in_ok-add_size w ↦
      IfOk-weaker c.add.result _ _ (λ _ added. added_more c.args.text.now.items c.if-size-ge16.text.items c.add.new.text.items c.args.size c.upper_digit.result
      w.if-size-ge16.true c.upper_digit.ensures (ap (λ (v : _). v.items) w.text-is ∙ w.in_ok-add_size.ensures) added) c.add.ensures
  | else-size-ge16 w ↦
      IfOk-weaker c.add.result _ _ (λ _ added. added_one c.args.text.now.items c.if-size-ge16.text.items c.add.new.text.items c.args.size c.upper_digit.result
      w.if-size-ge16.false c.upper_digit.ensures (ap (λ (v : _). v.items) w.text-is) added) c.add.ensures
]
