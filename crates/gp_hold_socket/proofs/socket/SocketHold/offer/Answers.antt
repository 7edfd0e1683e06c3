use Rattle.std.proofs.Common.{List, sym, ap, ◌∙◌, subst}
use Rattle.gp_plain.specs.declared.item.Item.{Item}
use Rattle.gp_plain.specs.Holds.{offered}
use Rattle.gp_plain.specs.Growth.{IsWithin}
use Rattle.gp_plain.specs.Plans.{Machine, IsRunPlanned}
use Rattle.gp_hold_socket.proofs.Sockets.{offer_planned}
use Rattle.gp_hold_socket.proofs.socket.SocketHold.offer.Goals as goal

pub returns : goal.returns
returns c =
    let s = c.self.inside in
    let none = ap (λ (m : Machine). m.state.ended) c.self.view_is ∙ c.requires in
    let same = c.in_ok-reserve.ensures.same in
    subst (λ (m : Machine). (window : List Item) → IsRunPlanned m (offered c.args.item.now window m.state) c.reserve.new.self) c.self.view_is
    (offer_planned s.channels s.pending.items s.ended s.pending.spare c.args.item.now c.in_ok-run.run' c.reserve.new.self none c.in_ok-run.ensures.0 same.0 same.1 (record { within = subst (IsWithin s.pending.items) (sym same.0) c.in_ok-run.ensures.1; room = c.in_ok-reserve.ensures.room }))
