-- What only the owner of a hold moves, and what entries of others leave as it is.
use Rattle.std.specs.Prelude.{ℕ, ⊤, ◌≡◌, ◌≢◌, ◌+◌, ◌==◌, Bool, true, cond, All, List, [], ◌∷◌, ◌++◌, slice_get, Option, Some, option_map}
use Rattle.gp_plain.specs.Holds.{Held}
use Rattle.gp_plain.specs.History.{held}
use Rattle.gp_plain.specs.declared.event.Entry.{Entry}
use Rattle.gp_plain.specs.Order.{Attaches}
use Rattle.gp_plain.specs.declared.event.Event.{Event}
use Rattle.gp_plain.specs.declared.event.Event.TheVariants.{Attach, Publish, Take, Page, PageFailed, Push, Join, Leave, Detach}
use Rattle.gp_plain.specs.declared.event.HoldSpec.{HoldSpec}
use Rattle.gp_plain.specs.declared.reply.Piece.{Piece}
use Rattle.gp_plain.specs.declared.reply.EndCause.{EndCause}

-- all of a hold but its state and the pages that it accepted: its owner, what it was attached with, what was taken of it, the positions that Takes
-- answered as those to recover from, the end that was told, and whether it was let go
pub record Share : Type 0 where
  pub owner : ℕ
  pub spec : HoldSpec
  pub taken : List Piece
  pub recovers : List (List ℕ)
  pub told : Option EndCause
  pub released : Bool

abbrev pub share_of : Held → Share
share_of h = record { owner = h.owner; spec = h.spec; taken = h.taken; recovers = h.recovers; told = h.told; released = h.released }

-- that of the hold of a number, where there is one
abbrev pub share_at : List Held → ℕ → Option Share
share_at holds number = option_map share_of (slice_get holds number)

-- those of all holds of an owner, each with its number; the first hold has a number
abbrev pub shares_from : ℕ → ℕ → List Held → List (ℕ × Share)
shares_from owner number [] = []
shares_from owner number (h ∷ holds) = cond (h.owner == owner) ((number, share_of h) ∷ shares_from owner (number + 1) holds) (shares_from owner (number + 1) holds)

abbrev pub shares : ℕ → List Entry → List (ℕ × Share)
shares owner entries = shares_from owner 0 (held entries)

abbrev pub IsOfAnother : ℕ → Entry → Type 0
IsOfAnother owner entry = entry.who ≢ owner

-- entries of others change nothing of what only the owner of a hold moves
abbrev pub OthersLaw : Type 0
OthersLaw = (seen others : List Entry) (number : ℕ) (share : Share) → share_at (held seen) number ≡ Some share
    → All (IsOfAnother share.owner) others → share_at (held (seen ++ others)) number ≡ Some share

-- nor do they give the owner another hold
abbrev pub OwnersLaw : Type 0
OwnersLaw = (seen others : List Entry) (owner : ℕ) → All (IsOfAnother owner) others → shares owner (seen ++ others) ≡ shares owner seen

-- nothing moves a hold that was let go
abbrev pub ReleasedLaw : Type 0
ReleasedLaw = (seen more : List Entry) (number : ℕ) (h : Held) → slice_get (held seen) number ≡ Some h → h.released ≡ true → slice_get (held (seen ++ more)) number ≡ Some h

-- nor anything of what its owner moves
abbrev pub ReleasedShareLaw : Type 0
ReleasedShareLaw = (seen more : List Entry) (number : ℕ) (share : Share) → share_at (held seen) number ≡ Some share → share.released ≡ true → share_at (held (seen ++ more)) number ≡ Some share

-- no Attach of the owner
abbrev pub IsNoAttachOf : ℕ → Entry → Type 0
IsNoAttachOf owner entry = entry.who ≡ owner → Attaches entry.event → ⊥

-- where all holds of an owner were let go, only an Attach of its own changes the list of them
abbrev pub ReleasedSharesLaw : Type 0
ReleasedSharesLaw =
    (seen more : List Entry) (owner : ℕ) → All (λ (s : ℕ × Share). s.1.released ≡ true) (shares owner seen) → All (IsNoAttachOf owner) more
    → shares owner (seen ++ more) ≡ shares owner seen

-- an Attach, a Take and a Detach move what owners have of their holds
abbrev pub MovesShares : Event → Type 0
MovesShares (Attach spec) = ⊤
MovesShares (Publish item) = ⊥
MovesShares (Take hold now) = ⊤
MovesShares (Page hold from to bytes then) = ⊥
MovesShares (PageFailed hold) = ⊥
MovesShares (Push hold message) = ⊥
MovesShares (Join hold channel) = ⊥
MovesShares (Leave hold channel) = ⊥
MovesShares (Detach hold) = ⊤

-- no other event does, whoever makes it
abbrev pub MovesLaw : Type 0
MovesLaw = (seen more : List Entry) (owner : ℕ) → All (λ (entry : Entry). MovesShares entry.event → ⊥) more → shares owner (seen ++ more) ≡ shares owner seen
