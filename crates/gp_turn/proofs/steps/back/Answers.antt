use Rattle.std.proofs.Common.{arith, ap, ◌≡◌, ◌<◌, ◌∙◌, ◌∷◌, [], Some, List}
use Rattle.atomic_table.specs.Table.{rest}
use Rattle.gp_turn.proofs.Turns.{gives_back}
use Rattle.gp_turn.proofs.steps.back.Goals as goal

pub fetch_and-requires : goal.fetch_and-requires
fetch_and-requires g c =
    let words : 0 < c.args.board.now.table_id.words = omega arith in
    let v = c.args.seat.now.me.0 in
    let holds = c.requires.holds in
    let me : c.exchange-empty.new.seat.me ≡ (v, (0, Some c.args.value) ∷ []) =
    c.exchange-empty.ensures.3 ∙ ap (λ (xs : List _). (v, (0, Some c.args.value) ∷ rest xs)) holds.out in (
      c.exchange-empty.ensures.0 ∙ c.requires.fits,
      words,
      rw (c.requires.shape.1, me)
          (gives_back g.V.Kept.stands g.V.Kept.number c.exchange-empty.new.seat.id v c.args.value holds.alone holds.holds c.requires.stands),
    )
