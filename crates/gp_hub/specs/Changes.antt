-- What a pass does to a socket of its own.
use Rattle.std.specs.Prelude.{ℕ, ◌≡◌, false, slice_get, Some}
use Rattle.gp_plain.specs.Holds.{Held, SocketChange, push, join, leave, terms_of, is_socket, changed_by, change_reply}
use Rattle.gp_plain.specs.History.{held}
use Rattle.gp_plain.specs.Others.{Share, share_at, shares}
use Rattle.gp_plain.specs.declared.event.Event.{Event}
use Rattle.gp_plain.specs.declared.event.Event.TheVariants as event
use Rattle.gp_plain.specs.declared.event.HoldKind.{HoldKind}
use Rattle.gp_plain.specs.declared.event.HoldSpec.{HoldSpec}
use Rattle.gp_plain.specs.declared.reply.Reply.{Reply}
use Rattle.gp_plain.specs.declared.reply.Reply.TheVariants as reply
use Rattle.gp_hub.specs.declared.sockets.ChangeReply.{ChangeReply}
use Rattle.gp_hub.specs.declared.sockets.ChangeReply.TheVariants.{Done, Full, Gone, OtherKind}
use Rattle.gp_hub.specs.Passes.{HubView}
use Rattle.gp_hub.specs.Own.{HasMade, Keeps}

abbrev pub change_event : ℕ → SocketChange → Event
change_event hold (push message) = event.Push hold message
change_event hold (join channel) = event.Join hold channel
change_event hold (leave channel) = event.Leave hold channel

-- 8 other channels are joined
abbrev pub reply_of : ChangeReply → Reply
reply_of Done = reply.Done
reply_of Full = reply.Full 8
reply_of (Gone cause) = reply.Gone cause
reply_of (OtherKind kind) = reply.OtherKind kind

-- the kind of a hold that isn't a socket
pub record IsNoSocket (spec : HoldSpec) (kind : HoldKind) : Type 0 where
  pub own : kind ≡ (terms_of spec).kind
  pub other : is_socket kind ≡ false

-- a change came to a hold of the pass. The hold as it stood before says the answer, and what the change left of it. What the
-- pass has of its holds is as before
pub record HasChanged (p q : HubView) (hold : ℕ) (change : SocketChange) (answer : ChangeReply) : Type 0 where
  pub made : HasMade p q (change_event hold change) (reply_of answer)
  pub stood : Held
  pub there : slice_get (held made.called.before) hold ≡ Some stood
  pub answered : reply_of answer ≡ change_reply change stood.state
  pub left : slice_get (held q.seen) hold ≡ Some (changed_by change stood)
  pub kind : (before : Share) (kind : HoldKind) → share_at (held p.seen) hold ≡ Some before → answer ≡ OtherKind kind → IsNoSocket before.spec kind
  pub shares : shares p.number q.seen ≡ shares p.number p.seen
  pub share : share_at (held q.seen) hold ≡ share_at (held p.seen) hold
  pub keeps : Keeps q hold
