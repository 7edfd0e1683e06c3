use Rattle.std.proofs.Common.{arith, ◌<◌}
use Rattle.gp_turn.proofs.Shares.{splits}
use Rattle.gp_turn.proofs.split.cut_seat.Goals as goal

pub split_seat-requires : goal.split_seat-requires
split_seat-requires g c =
    let words : 0 < c.args.board.now.table_id.words = omega arith in
    let free = c.requires.free in
    let count = c.requires.count in
    (c.requires.fits, words, rw count.0 (splits g.V.Kept.stands g.V.Kept.number c.args.seat.now.id c.args._count c.args.seat.now.me.0 free.rests free.alone count.1 count.2))
