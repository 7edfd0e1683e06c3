use Rattle.std.proofs.Common.{◌≡◌, ℕ, ◌∙◌, ap, subst}
use Rattle.gp_hub.specs.Own.{HasTaken}
use Rattle.gp_session_wait.specs.Views.{PollView}
use Rattle.gp_session_wait.proofs.Taking.{fits_poll}
use Rattle.gp_session_wait.proofs.seeking.LongPoll.turn.Goals as goal

pub counted-requires : goal.counted-requires
counted-requires c =
    let same : c.number.result ≡ c.args.self.now.hold.number = c.number.ensures ∙ ap (λ (v : PollView). v.hold.number) c.self.view_is in
    fits_poll c.args.self.now c.args.seat.now c.take.new.self c.args.now c.in-Gave.taken c.requires
    (subst (λ (n : ℕ). HasTaken c.args.seat.now.pass c.take.new.self.pass n c.args.now c.in-Gave.taken) same c.in-Gave.ensures.took.served)
