-- What an item is to do to a socket.
use Rattle.std.proofs.Common.{◌≡◌, ℕ, cond, List, [], refl, sym, ap, ◌∙◌, Option, None}
use Rattle.gp_plain.specs.declared.item.Item.{Item}
use Rattle.gp_plain.specs.declared.reply.Piece.{Piece}
use Rattle.gp_plain.specs.declared.reply.EndCause.{EndCause}
use Rattle.gp_plain.specs.declared.plan.Plan.TheVariants.{Grow}
use Rattle.gp_plain.specs.Follow.{is_heard}
use Rattle.gp_plain.specs.Roomy.{roomy}
use Rattle.gp_plain.specs.Holds.{grew, message_piece, offered}
use Rattle.gp_plain.specs.Growth.{Growth, no_growth, with_pieces, last_id_of, IsReady}
use Rattle.gp_plain.specs.Plans.{machine, IsRunPlanned}
use Rattle.gp_plain.proofs.Growing.{plan_is}
use Rattle.gp_plain.proofs.Offering.{offered_run}
use Rattle.gp_hold_socket.specs.States.{socket_state}

-- a run that was made of the item's message
pub offer_planned : (channels : List (List ℕ)) (pending : List Piece) (ended : Option EndCause) (spare : ℕ) (item : Item) (g k : Growth) → ended ≡ None
    → g ≡ with_pieces pending no_growth (cond (is_heard channels item) (message_piece item.message) []) → k.pieces ≡ g.pieces → k.ended ≡ g.ended → IsReady (roomy pending spare) k
    → (window : List Item) → IsRunPlanned (machine (socket_state channels pending ended) spare) (offered item window (socket_state channels pending ended)) k
offer_planned channels pending ended spare item g k n is p e ready window =
    let s = socket_state channels pending ended in
    let m = machine s spare in
    let ps = cond (is_heard channels item) (message_piece item.message) [] in
    let planned = plan_is m ps g (Grow k (last_id_of k.pieces)) n is (p, e, ready, refl) in
    let same = sym (offered_run item window s (is_heard channels item) refl refl) in
    record { ready = record { live = n; room = ready }; effect = planned.effect ∙ same; told = planned.told ∙ ap (grew s) same }
