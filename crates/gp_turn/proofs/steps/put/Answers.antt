use Rattle.std.proofs.Common.{arith, ap, ◌≡◌, ◌<◌, ◌∙◌, ◌∷◌, [], Some, List}
use Rattle.atomic_table.specs.Table.{rest}
use Rattle.gp_turn.proofs.Turns.{puts_back}
use Rattle.gp_turn.proofs.steps.put.Goals as goal

pub fetch_add-requires : goal.fetch_add-requires
fetch_add-requires g c =
    let words : 0 < c.args.board.now.table_id.words = omega arith in
    let v = c.args.seat.now.me.0 in
    let holds = c.requires.holds in
    let me : c.exchange-empty.new.seat.me ≡ (v, (0, Some c.args.value) ∷ []) =
    c.exchange-empty.ensures.3 ∙ ap (λ (xs : List _). (v, (0, Some c.args.value) ∷ rest xs)) holds.out in (
      c.exchange-empty.ensures.0 ∙ c.requires.fits,
      words,
      rw (c.requires.shape.1, me, c.requires.said)
          (puts_back g.V.Kept.stands g.V.Kept.number c.exchange-empty.new.seat.id v c.args.value (g.V.Kept.entry c.args._who c.args._ask.value) holds.alone holds.holds c.requires.own c.requires.room c.requires.stands),
    )
