-- Chains of items, and what they say of a log.
use Rattle.std.specs.Prelude.{ℕ, ◌≡◌, ◌≢◌, Bool, false, List, [], ◌∷◌, ◌++◌, slice_get, Option, Some, None, All}
use Rattle.std.specs.List.{list_any}
use Rattle.gp_plain.specs.Items.{content_of, closes, goes_on_from}
use Rattle.gp_plain.specs.Pieces.{text}
use Rattle.gp_plain.specs.Holds.{Held, RecoveryPage, log, position, ended}
use Rattle.gp_plain.specs.History.{held, published, window}
use Rattle.gp_plain.specs.declared.item.Item.{Item}
use Rattle.gp_plain.specs.declared.item.StreamPart.{StreamPart}
use Rattle.gp_plain.specs.declared.event.Entry.{Entry}
use Rattle.gp_plain.specs.declared.event.HoldSpec.TheVariants.{Stream}
use Rattle.gp_plain.specs.declared.event.Then.{Then}
use Rattle.gp_plain.specs.declared.event.Then.TheVariants.{Hold as HoldOn, Next, End}
use Rattle.gp_plain.specs.declared.reply.Piece.{Piece}
use Rattle.gp_plain.specs.declared.reply.EndCause.{EndCause}

-- a link of a chain: the id of an item, and what it sends to streams
pub record Link : Type 0 where
  pub id : List ℕ
  pub stream : Option StreamPart

-- a chain: the previous id of its first item is the root, and that of each other item the id before it
pub record Chain : Type 0 where
  pub channel : List ℕ
  pub root : List ℕ
  pub links : List Link

abbrev pub IsNoneOf : List ℕ → List Link → Type 0
IsNoneOf id [] = Unit {0}
IsNoneOf id (l ∷ links) = (id ≢ l.id) × IsNoneOf id links

-- the ids are distinct, and none is the root
abbrev pub AreDistinct : List ℕ → List Link → Type 0
AreDistinct root [] = Unit {0}
AreDistinct root (l ∷ links) = IsNoneOf root (l ∷ links) × AreDistinct l.id links

-- the contents of links, joined
abbrev pub bytes_of : List Link → List ℕ
bytes_of [] = []
bytes_of (l ∷ links) = content_of l.stream ++ bytes_of links

-- the id at which the links end, from an id on
abbrev pub last_id : List ℕ → List Link → List ℕ
last_id from [] = from
last_id from (l ∷ links) = last_id l.id links

-- the id is one of the chain's
pub record IsIn (chain : Chain) (id : List ℕ) : Type 0 where
  pub before : List Link
  pub rest : List Link
  pub whole : chain.links ≡ before ++ rest
  pub at : last_id chain.root before ≡ id

-- an item with these ids and this part stands in the chain
pub record IsLinked (chain : Chain) (id prev : List ℕ) (stream : Option StreamPart) : Type 0 where
  pub before : List Link
  pub rest : List Link
  pub whole : chain.links ≡ before ++ ((record { id = id; stream = stream }) ∷ rest)
  pub prev_is : last_id chain.root before ≡ prev

-- the links after one id, up to another that stands at or after it
pub record IsBetween (chain : Chain) (from to : List ℕ) (between : List Link) : Type 0 where
  pub before : List Link
  pub rest : List Link
  pub whole : chain.links ≡ before ++ (between ++ rest)
  pub from_is : last_id chain.root before ≡ from
  pub to_is : last_id from between ≡ to

-- an item of the chain's channel that has both ids stands in the chain, with the same part
abbrev pub CoversIds : Chain → Option (List ℕ) → Option (List ℕ) → Option StreamPart → Type 0
CoversIds chain (Some id) (Some prev) stream = IsLinked chain id prev stream
CoversIds chain (Some id) None stream = Unit {0}
CoversIds chain None prev stream = Unit {0}

abbrev pub CoversItem : Chain → Item → Type 0
CoversItem chain item = item.channel ≡ chain.channel → CoversIds chain item.id item.prev item.stream

abbrev pub NoneCloses : List Link → Type 0
NoneCloses [] = Unit {0}
NoneCloses (l ∷ links) = (closes l.stream ≡ false) × NoneCloses links

-- a close stands among links only as the last
abbrev pub ClosesLast : List Link → Type 0
ClosesLast links = (front : List Link) (l : Link) → links ≡ front ++ l ∷ [] → NoneCloses front

-- none of a page's items is a close, but the last where the stream ends with the page
abbrev pub ClosesBy : Then → List Link → Type 0
ClosesBy HoldOn links = NoneCloses links
ClosesBy Next links = NoneCloses links
ClosesBy End links = ClosesLast links

-- a page is honest: it goes from an id of the chain to another at or after it, and has the contents between them
pub record IsHonest (chain : Chain) (page : RecoveryPage) : Type 0 where
  pub between : List Link
  pub place : IsBetween chain page.from page.to between
  pub bytes : page.bytes ≡ bytes_of between
  pub closes : ClosesBy page.follows between

-- a chain covers a reliable stream hold of a history: it is on the hold's channel, the hold's first position is one of
-- its ids, every chained item that was published on the channel, and wasn't a repeat, stands in it, and every page that
-- the hold accepted is honest
pub record Covers (chain : Chain) (entries : List Entry) (number : ℕ) (h : Held) : Type 0 where
  pub opening : List ℕ
  pub start : List ℕ
  pub link : Bool
  pub distinct : AreDistinct chain.root chain.links
  pub channel : h.spec ≡ Stream opening chain.channel start link
  pub root : IsIn chain start
  pub published : All (CoversItem chain) (published entries)
  pub pages : All (IsHonest chain) h.pages

-- a log has the opening, and then the contents of the chain's items after the first position, in order, each once
-- and none skipped, up to its position. A close stands among them only as the last, and the hold has then ended
pub record FollowsLog (chain : Chain) (opening start : List ℕ) (pieces : List Piece) (position : Option (List ℕ)) (ended : Option EndCause) : Type 0 where
  pub between : List Link
  pub at : List ℕ
  pub position_is : position ≡ Some at
  pub place : IsBetween chain start at between
  pub bytes : text pieces ≡ opening ++ bytes_of between
  pub still_open : ended ≡ None → NoneCloses between
  pub closes_last : ClosesLast between

-- each hold of a history that a chain covers follows it
abbrev pub FollowsChains : List Entry → Type 0
FollowsChains entries =
    (chain : Chain) (number : ℕ) (h : Held) → slice_get (held entries) number ≡ Some h → (c : Covers chain entries number h) → FollowsLog chain c.opening c.start (log h) (position h) (ended h)

-- the chain law
abbrev pub ChainLaw : Type 0
ChainLaw = (entries : List Entry) → FollowsChains entries

-- the law of the window: no item of it goes on from the position of a live hold that a chain covers
abbrev pub WindowLaw : Type 0
WindowLaw =
    (entries : List Entry) (chain : Chain) (number : ℕ) (h : Held) → slice_get (held entries) number ≡ Some h → Covers chain entries number h
    → ended h ≡ None → (at : List ℕ) → position h ≡ Some at → list_any (goes_on_from chain.channel at) (window entries) ≡ false
