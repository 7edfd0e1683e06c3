-- What a read leaves.
use Rattle.std.proofs.Common.{◌≡◌, ℕ, List, Option, Some, None, Ok, Err, ◌⊎◌, inl, inr, refl}
use Rattle.websocket.specs.declared.protocol.context.Step.{Step}
use Rattle.websocket.specs.declared.protocol.frame.codec.FrameStatus.{FrameStatus}
use Rattle.websocket.specs.declared.protocol.frame.codec.FrameStatus.TheVariants.{Partial, Complete}
use Rattle.websocket.specs.Content.{Content}
use Rattle.websocket.specs.Connection.{Connection, read_step}
use Rattle.websocket.specs.View.{Returns, ReadLeaves, KeepsRest}
use Rattle.websocket.proofs.StreamLemmas.{TookFrame_from_read}
use Rattle.gp_ws.specs.declared.frame.Framed.{Framed}
use Rattle.gp_ws.specs.declared.frame.Framed.TheVariants as Frame
use Rattle.gp_ws.specs.Frames.{Outcome, framed_by, IsTaken, IsLeft}

is_taken : (before after : Connection) (old new written more : List ℕ) (step : Step) (o : Outcome) → read_step before old ≡ o
    → Returns o new (Complete step) → ReadLeaves o before after written more → KeepsRest (Complete step) old new → IsTaken before old step.consumed after new
is_taken before after old new written more step (Err fault) is returns leaves keeps = absurd returns
is_taken before after old new written more step (Ok (Partial needed)) is returns leaves keeps = absurd (cc returns)
is_taken before after old new written more step (Ok (Complete p)) is returns leaves keeps =
    let took = TookFrame_from_read before old p is in
    record {
      end = rw is leaves.0;
      rest = keeps.1;
      some = rw returns.0 took.not_empty;
      within = keeps.0;
    }

left_of : (before after : Connection) (old new : List ℕ) (count : ℕ) (content : Option Content) (r : Framed) → IsTaken before old count after new
    → (r ≡ framed_by count content) ⊎ (r ≡ Frame.NoMemory) → IsLeft before old r after new
left_of before after old new count None r taken (inl is) = rw is taken
left_of before after old new count (Some content) r taken (inl is) = rw is taken
left_of before after old new count content r taken (inr is) = rw is tt

pub taken_left : (before after : Connection) (old new written more : List ℕ) (status : FrameStatus Step) (step : Step) (content : Option Content) (r : Framed) → status ≡ Complete step
    → Returns (read_step before old) new status → ReadLeaves (read_step before old) before after written more → KeepsRest status old new
    → (r ≡ framed_by step.consumed content) ⊎ (r ≡ Frame.NoMemory) → IsLeft before old r after new
taken_left before after old new written more status step content r complete returns leaves keeps is =
    left_of before after old new step.consumed content r
    (is_taken before after old new written more step _ refl (rw complete at returns) leaves (rw complete at keeps)) is
