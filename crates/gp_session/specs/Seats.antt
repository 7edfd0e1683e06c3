-- A session's pass of the hub, since it began.
use Rattle.std.specs.Prelude.{ℕ, ◌≡◌, ◌%◌, ◌^◌, ◌<◌, ◌≤◌, ◌⊎◌, List, [], ◌∷◌, ◌++◌, All, Result, Ok, Err, ⊤}
use mathlib.Core.List.{IsPrefix}
use Rattle.gp_plain.specs.declared.event.Entry.{Entry}
use Rattle.gp_plain.specs.declared.event.Event.TheVariants.{Publish}
use Rattle.gp_plain.specs.declared.item.Item.{Item}
use Rattle.gp_plain.specs.declared.reply.Reply.{Reply}
use Rattle.gp_plain.specs.Others.{shares}
use Rattle.gp_turn.specs.Passes.{OfOthers, range, ranges_of, times_in}
use Rattle.gp_hub.specs.Passes.{HubView, entry_of, who_of}
use Rattle.gp_hub.specs.Own.{HasMade, mine}
use Rattle.gp_hub.specs.declared.fault.HubFault.{HubFault}
use Rattle.gp_hub.specs.declared.fault.HubFault.TheVariants as hub
use Rattle.gp_session.specs.declared.seat.Published.{Published}
use Rattle.gp_session.specs.declared.seat.Published.TheVariants.{Stands, Busy, Worn, NoMemory}

-- the pass as the session began with it, and as it is
pub record SeatView : Type 0 where
  pub start : HubView
  pub pass : HubView

-- a pass with which a session begins
abbrev pub new_seat : HubView → SeatView
new_seat pass = record { start = pass; pass = pass }

-- no entry of what a pass has seen is of a number of its range
abbrev pub IsFresh : HubView → Type 0
IsFresh p = OfOthers who_of (range p.number p.spare ∷ []) p.seen

-- the pass has its number, its range, its past and its parts
pub record IsSamePass (p q : HubView) : Type 0 where
  pub turn : q.turn ≡ p.turn
  pub number : q.number ≡ p.number
  pub spare : q.spare ≡ p.spare
  pub past : q.past ≡ p.past
  pub parts : q.parts ≡ p.parts

-- what every move keeps: how the session began, the pass, and that what was seen and the looks grow
pub record MovedSeat (s t : SeatView) : Type 0 where
  pub start : t.start ≡ s.start
  pub same : IsSamePass s.pass t.pass
  pub seen : IsPrefix s.pass.seen t.pass.seen
  pub looks : s.pass.looks ≤ t.pass.looks

-- an entry of the session's, or one of a number of no range of its pass
abbrev pub IsApart : HubView → Entry → Type 0
IsApart p entry = (entry.who ≡ p.number) ⊎ (times_in entry.who (ranges_of p) ≡ 0)

-- what was seen since the session began
pub record SeenSince (p q : HubView) : Type 0 where
  pub more : List Entry
  pub is : q.seen ≡ p.seen ++ more
  pub apart : All (IsApart p) more

-- Row: what stays. The pass is as it was when the session began, but for what it has seen since, where no other entry is of a
-- number of its ranges.
pub record SeatRow (s : SeatView) : Type 0 where
  pub same : IsSamePass s.start s.pass
  pub since : SeenSince s.start s.pass
  pub looks : s.start.looks ≤ s.pass.looks

-- the word that the last look found says that the hub serves no more
abbrev pub IsWorn : SeatView → Type 0
IsWorn s = (s.pass.found % 2 ≡ 0) × (2 ^ 63 ≤ s.pass.found)

-- the session made no look, or the last one found another word
abbrev pub IsServed : SeatView → Type 0
IsServed s = (s.pass.looks ≡ s.start.looks) ⊎ ((s.pass.found % 2 ≡ 1) ⊎ (s.pass.found < 2 ^ 63))

-- Row: the holds. The session has none.
abbrev pub HasNoHolds : SeatView → Type 0
HasNoHolds s = shares s.pass.number s.pass.seen ≡ []

-- Row: the entries. Those that the session made are these.
abbrev pub Made : SeatView → List Entry → Type 0
Made s entries = mine s.pass ≡ entries

-- the entry of a publication
abbrev pub publish_of : ℕ → Item → Entry
publish_of number item = entry_of number (Publish item)

-- the hub was busy: a look found an odd word
pub record Busied (s t : SeatView) : Type 0 where
  pub looked : s.pass.looks < t.pass.looks
  pub odd : t.pass.found % 2 ≡ 1

-- what a publication came to
pub record Publishes (s t : SeatView) (item : Item) : Type 0 where
  pub reply : Reply
  pub made : HasMade s.pass t.pass (Publish item) reply
  pub holds : shares t.pass.number t.pass.seen ≡ shares s.pass.number s.pass.seen

abbrev pub PublishedTo : SeatView → SeatView → Item → Published → Type 0
PublishedTo s t item Stands = Publishes s t item
PublishedTo s t item (Busy back) = (back ≡ item) × (t.pass.seen ≡ s.pass.seen) × Busied s t
PublishedTo s t item Worn = (t.pass.seen ≡ s.pass.seen) × IsWorn t
PublishedTo s t item NoMemory = t.pass.seen ≡ s.pass.seen

-- each answer but Worn found a word with which the hub serves
abbrev pub Finds : SeatView → Published → Type 0
Finds t Stands = IsServed t
Finds t (Busy back) = IsServed t
Finds t Worn = IsWorn t
Finds t NoMemory = IsServed t

-- the hub hands back the item that it was given
abbrev pub HandsBack : Result Reply HubFault → Type 0
HandsBack (Ok reply) = ⊤
HandsBack (Err (hub.Busy event word)) = (item : Item) × (event ≡ Publish item)
HandsBack (Err (hub.Worn event)) = ⊤
HandsBack (Err (hub.NoMemory event)) = ⊤

-- what its answer to a publication says
abbrev pub SaysPublished : Result Reply HubFault → Published → Type 0
SaysPublished (Ok reply) Stands = ⊤
SaysPublished (Ok reply) (Busy back) = ⊥
SaysPublished (Ok reply) Worn = ⊥
SaysPublished (Ok reply) NoMemory = ⊥
SaysPublished (Err (hub.Busy event word)) Stands = ⊥
SaysPublished (Err (hub.Busy event word)) (Busy back) = event ≡ Publish back
SaysPublished (Err (hub.Busy event word)) Worn = ⊥
SaysPublished (Err (hub.Busy event word)) NoMemory = ⊥
SaysPublished (Err (hub.Worn event)) Stands = ⊥
SaysPublished (Err (hub.Worn event)) (Busy back) = ⊥
SaysPublished (Err (hub.Worn event)) Worn = ⊤
SaysPublished (Err (hub.Worn event)) NoMemory = ⊥
SaysPublished (Err (hub.NoMemory event)) Stands = ⊥
SaysPublished (Err (hub.NoMemory event)) (Busy back) = ⊥
SaysPublished (Err (hub.NoMemory event)) Worn = ⊥
SaysPublished (Err (hub.NoMemory event)) NoMemory = ⊤
