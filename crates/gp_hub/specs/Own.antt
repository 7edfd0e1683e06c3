-- A pass and the holds of its own.
use Rattle.std.specs.Prelude.{ℕ, ◌≡◌, ◌≤◌, ◌==◌, true, false, List, [], ◌∷◌, ◌++◌, filter, map, cond, slice_get, Option, Some, None, is_some, option_to_list}
use mathlib.Core.List.{IsPrefix}
use Rattle.gp_plain.specs.Holds as holds
use Rattle.gp_plain.specs.Holds.{Held, RecoveryPage, terms_of, is_stream, paged_from, failed}
use Rattle.gp_plain.specs.History.{held, window}
use Rattle.gp_plain.specs.Pieces.{id_or}
use Rattle.gp_plain.specs.Kinds.{TakenFits}
use Rattle.gp_plain.specs.Others.{Share, share_at, shares}
use Rattle.gp_plain.specs.declared.item.Item.{Item}
use Rattle.gp_plain.specs.declared.event.Entry.{Entry}
use Rattle.gp_plain.specs.declared.event.Event.{Event}
use Rattle.gp_plain.specs.declared.event.Event.TheVariants as event
use Rattle.gp_plain.specs.declared.event.HoldKind.{HoldKind}
use Rattle.gp_plain.specs.declared.event.HoldSpec.{HoldSpec}
use Rattle.gp_plain.specs.declared.reply.Reply.{Reply}
use Rattle.gp_plain.specs.declared.reply.Reply.TheVariants as reply
use Rattle.gp_plain.specs.declared.reply.Taken.{Taken}
use Rattle.gp_turn.specs.Passes.{OfOthers, ranges_of}
use Rattle.gp_hub.specs.declared.own.PageReply.{PageReply}
use Rattle.gp_hub.specs.declared.own.PageReply.TheVariants.{Paged, Stale, Gone, OtherKind}
use Rattle.gp_hub.specs.declared.own.FailedReply.{FailedReply}
use Rattle.gp_hub.specs.declared.own.FailedReply.TheVariants.{Done, Gone as FailedGone, OtherKind as FailedOtherKind}
use Rattle.gp_hub.specs.Passes.{HubView, entry_of, who_of}
use Rattle.gp_hub.specs.Calls.{HasCalled}

-- the entries that a pass made
abbrev pub mine : HubView → List Entry
mine p = filter (λ (entry : Entry). entry.who == p.number) p.seen

-- the pass keeps the hold: its own Attach was answered with that number, and the hold wasn't let go
pub record Keeps (p : HubView) (hold : ℕ) : Type 0 where
  pub share : Share
  pub there : share_at (held p.seen) hold ≡ Some share
  pub own : share.owner ≡ p.number
  pub kept : share.released ≡ false

-- an event was served and answered, and is the one entry that the pass made since
pub record HasMade (p q : HubView) (event : Event) (reply : Reply) : Type 0 where
  pub called : HasCalled p q event reply
  pub mine : mine q ≡ mine p ++ entry_of p.number event ∷ []
  pub grown : IsPrefix p.seen q.seen

-- an Attach made a hold of the pass, of which nothing was taken yet
abbrev pub fresh_share : ℕ → HoldSpec → Share
fresh_share owner spec = record { owner = owner; spec = spec; taken = []; recovers = []; told = None; released = false }

pub record HasNewHold (p q : HubView) (spec : HoldSpec) (hold : ℕ) : Type 0 where
  pub made : HasMade p q (event.Attach spec) (reply.Attached hold)
  pub share : share_at (held q.seen) hold ≡ Some (fresh_share p.number spec)
  pub keeps : Keeps q hold
  pub shares : shares p.number q.seen ≡ shares p.number p.seen ++ (hold, fresh_share p.number spec) ∷ []

-- 4,096 holds are kept, and the pass has no other than before
pub record HasNoPlace (p q : HubView) (spec : HoldSpec) : Type 0 where
  pub made : HasMade p q (event.Attach spec) (reply.Full 4096)
  pub shares : shares p.number q.seen ≡ shares p.number p.seen

-- an Attach made a hold, or 4,096 are kept
abbrev pub HasAttached : HubView → HubView → HoldSpec → Option ℕ → Type 0
HasAttached p q spec (Some hold) = HasNewHold p q spec hold
HasAttached p q spec None = HasNoPlace p q spec

abbrev pub attach_reply : Option ℕ → Reply
attach_reply (Some hold) = reply.Attached hold
attach_reply None = reply.Full 4096

-- a Take gave the next pieces of a hold of the pass
abbrev pub share_with : Share → Taken → Share
share_with s t = record s { taken = s.taken ++ t.pieces; recovers = s.recovers ++ option_to_list t.recover; told = t.ended; released = is_some t.ended }

-- one hold of a list has changed, and the others are as they were
abbrev pub change_share : ℕ → (Share → Share) → (ℕ × Share) → (ℕ × Share)
change_share hold change s = cond (s.0 == hold) (s.0, change s.1) s

abbrev pub with_share : ℕ → (Share → Share) → List (ℕ × Share) → List (ℕ × Share)
with_share hold change shares = map (change_share hold change) shares

-- what was given fits what the hold was attached with
pub record HasTaken (p q : HubView) (hold now : ℕ) (taken : Taken) : Type 0 where
  pub made : HasMade p q (event.Take hold now) (reply.Taken taken)
  pub fits : (before : Share) → share_at (held p.seen) hold ≡ Some before → TakenFits before.spec taken
  pub shares : shares p.number q.seen ≡ with_share hold (λ s. share_with s taken) (shares p.number p.seen)
  pub share : (before : Share) → share_at (held p.seen) hold ≡ Some before → share_at (held q.seen) hold ≡ Some (share_with before taken)
  pub keeps : taken.ended ≡ None → Keeps q hold

-- a Detach let a hold of the pass go
abbrev pub share_gone : Share → Share
share_gone s = record s { released = true }

pub record HasDetached (p q : HubView) (hold : ℕ) : Type 0 where
  pub made : HasMade p q (event.Detach hold) reply.Done
  pub shares : shares p.number q.seen ≡ with_share hold share_gone (shares p.number p.seen)
  pub share : (before : Share) → share_at (held p.seen) hold ≡ Some before → share_at (held q.seen) hold ≡ Some (share_gone before)

-- the kind of a hold that isn't a reliable stream
pub record IsOtherKind (spec : HoldSpec) (kind : HoldKind) : Type 0 where
  pub own : kind ≡ (terms_of spec).kind
  pub other : is_stream kind ≡ false

-- a page begins at an id: it was appended, or that id isn't the hold's position, or the hold had ended or is no reliable stream
abbrev pub page_reply : List ℕ → PageReply → Reply
page_reply from Paged = reply.Paged
page_reply from (Stale position) = reply.Stale from position
page_reply from (Gone cause) = reply.Gone cause
page_reply from (OtherKind kind) = reply.OtherKind kind

abbrev pub page_event : ℕ → RecoveryPage → Event
page_event hold page = event.Page hold page.from page.to page.bytes page.follows

-- a page came to a hold of the pass. The hold as it stood before says the answer, and what the page left of it. What the pass
-- has of its holds is as before
pub record HasPaged (p q : HubView) (hold : ℕ) (page : RecoveryPage) (answer : PageReply) : Type 0 where
  pub made : HasMade p q (page_event hold page) (page_reply page.from answer)
  pub stood : Held
  pub there : slice_get (held made.called.before) hold ≡ Some stood
  pub answered : page_reply page.from answer ≡ holds.page_reply page.from stood.state
  pub left : slice_get (held q.seen) hold ≡ Some (paged_from (window made.called.before) page stood)
  pub kind : (before : Share) (kind : HoldKind) → share_at (held p.seen) hold ≡ Some before → answer ≡ OtherKind kind → IsOtherKind before.spec kind
  pub shares : shares p.number q.seen ≡ shares p.number p.seen
  pub share : share_at (held q.seen) hold ≡ share_at (held p.seen) hold
  pub keeps : Keeps q hold

-- a page can't be had: the hold has ended as unrecovered, or it had ended before, or it is no reliable stream
abbrev pub failed_reply : FailedReply → Reply
failed_reply Done = reply.Done
failed_reply (FailedGone cause) = reply.Gone cause
failed_reply (FailedOtherKind kind) = reply.OtherKind kind

pub record HasFailed (p q : HubView) (hold : ℕ) (answer : FailedReply) : Type 0 where
  pub made : HasMade p q (event.PageFailed hold) (failed_reply answer)
  pub stood : Held
  pub there : slice_get (held made.called.before) hold ≡ Some stood
  pub answered : failed_reply answer ≡ holds.failure_reply stood.state
  pub left : slice_get (held q.seen) hold ≡ Some (failed stood)
  pub kind : (before : Share) (kind : HoldKind) → share_at (held p.seen) hold ≡ Some before → answer ≡ FailedOtherKind kind → IsOtherKind before.spec kind
  pub shares : shares p.number q.seen ≡ shares p.number p.seen
  pub share : share_at (held q.seen) hold ≡ share_at (held p.seen) hold
  pub keeps : Keeps q hold

-- an item was published, and so many logs grew; or it is a repeat
abbrev pub publish_reply : List ℕ → Option ℕ → Reply
publish_reply id (Some count) = reply.Published count
publish_reply id None = reply.Repeat id

-- the holds of the pass are as they were, but for what waits for them
pub record HasPublished (p q : HubView) (item : Item) (count : Option ℕ) : Type 0 where
  pub made : HasMade p q (event.Publish item) (publish_reply (id_or item.id []) count)
  pub shares : shares p.number q.seen ≡ shares p.number p.seen

-- a pass none of whose numbers made an entry that it has seen has neither entries nor holds of its own
abbrev pub FreshLaw : Type 0
FreshLaw = (p : HubView) → 1 ≤ p.spare → OfOthers who_of (ranges_of p) p.seen → (mine p ≡ []) × (shares p.number p.seen ≡ [])
