use Rattle.std.proofs.Common.{arith, ◌<◌, ◌∙◌, Some}
use Rattle.gp_turn.proofs.Turns.{takes_turn, head_is, took_hit}
use Rattle.gp_turn.proofs.steps.take.Goals as goal

pub fetch_or-found-requires : goal.fetch_or-found-requires
fetch_or-found-requires g c =
    let words : 0 < c.args.board.now.table_id.words = omega arith in
    let free = c.requires.free in
    (c.requires.fits, words, rw (c.requires.shape.1, free.out) (takes_turn g.V.Kept.stands g.V.Kept.number c.args.seat.now.id c.args.seat.now.me.0 free.alone free.rests free.parts))

pub exchange-requires : goal.exchange-requires
exchange-requires g c =
    let hit = took_hit g.V.Kept.stands g.V.Kept.number c.args.seat.now.me.0 c.fetch_or-found.new.seat.me.0 c.fetch_or-found.new.seat.me.1 c.fetch_or-found.result c.if-found-eq1.false c.fetch_or-found.ensures.2 in
    (c.fetch_or-found.ensures.0 ∙ c.requires.fits, head_is c.fetch_or-found.new.seat.me.1 (Some hit.slot.0) hit.slot.1)
