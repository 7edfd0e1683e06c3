use Rattle.std.proofs.Common.{arith, ◌≡◌, ◌<◌, ◌∙◌, ap, List, [], refl}
use Rattle.gp_turn.specs.Steps.{joined}
use Rattle.gp_turn.proofs.Shares.{joins, learns}
use Rattle.gp_turn.proofs.Rests.{has_learned}
use Rattle.gp_turn.proofs.join.join_seats.Goals as goal

pub join_seat-requires : goal.join_seat-requires
join_seat-requires g c =
    let words : 0 < c.args.board.now.table_id.words = omega arith in
    let free = c.requires.free in
    (c.requires.fits.0, c.requires.fits.1, c.requires.gone.out, words, joins g.V.Kept.stands g.V.Kept.number c.args.into.now.id c.args.gone.id c.args.into.now.me.0 c.args.gone.me.0 free.rests c.requires.gone.rests free.parts)

pub load-requires : goal.load-requires
load-requires g c =
    let words : 0 < c.args.board.now.table_id.words = omega arith in
    let v = joined c.args.into.now.me.0 c.args.gone.me.0 in
    let me : c.join_seat.new.seat.me ≡ (v, []) = c.join_seat.ensures.2 ∙ ap (λ (xs : List _). (v, xs)) c.requires.free.out in
    (c.join_seat.ensures.0 ∙ c.requires.fits.0, words, rw (c.requires.shape.1, me) (learns g.V.Kept.stands g.V.Kept.number c.join_seat.new.seat.id v c.requires.free.rests refl))

pub returns-clause-learned : goal.returns-clause-learned
returns-clause-learned g c =
    let v = joined c.args.into.now.me.0 c.args.gone.me.0 in
    let me : c.join_seat.new.seat.me ≡ (v, []) = c.join_seat.ensures.2 ∙ ap (λ (xs : List _). (v, xs)) c.requires.free.out in
    has_learned g.V.Kept.number c.args.into.now.me.0 c.args.gone.me.0 c.join_seat.new.seat.me c.load.new.seat.me me c.load.ensures.2
