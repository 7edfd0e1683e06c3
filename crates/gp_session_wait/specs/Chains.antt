-- Whose answer a long poll gets, where a chain covers it.
use Rattle.std.specs.Prelude.{ℕ, ◌≡◌, Bool, true, List, [], ◌∷◌, slice_get, Some, None, All, ⊤}
use Rattle.std.specs.List.{Contains}
use Rattle.gp_plain.specs.declared.event.Entry.{Entry}
use Rattle.gp_plain.specs.declared.event.HoldSpec.TheVariants.{Response}
use Rattle.gp_plain.specs.declared.item.Item.{Item}
use Rattle.gp_plain.specs.declared.item.ResponsePart.{ResponsePart}
use Rattle.gp_plain.specs.declared.reply.Piece.{Piece}
use Rattle.gp_plain.specs.declared.reply.Piece.TheVariants.{Answer as AnswerPiece}
use Rattle.gp_plain.specs.Follow.{is_heard}
use Rattle.gp_plain.specs.Chain.{Chain, Link, AreDistinct, IsIn, IsBetween, CoversItem}
use Rattle.gp_plain.specs.History.{held, published}
use Rattle.gp_plain.specs.Holds.{Held, answer_of, log, position}

-- a chain covers a long poll with a previous id: it is on the hold's only channel, the previous id is one of its ids, and every chained
-- item that was published on the channel, and wasn't a repeat, stands in it
pub record CoversPoll (chain : Chain) (entries : List Entry) (h : Held) : Type 0 where
  pub start : List ℕ
  pub deadline : ℕ
  pub again : Bool
  pub distinct : AreDistinct chain.root chain.links
  pub channel : h.spec ≡ Response (chain.channel ∷ []) (Some start) deadline again
  pub root : IsIn chain start
  pub published : All (CoversItem chain) (published entries)

-- the piece is what a published item has for long polls, and the link is that item's
pub record IsOf (items : List Item) (piece : Piece) (link : Link) : Type 0 where
  pub item : Item
  pub published : Contains items item
  pub id_is : item.id ≡ Some link.id
  pub stream_is : item.stream ≡ link.stream
  pub piece_is : piece ≡ answer_of item

abbrev pub AreOf : List Item → List Piece → List Link → Type 0
AreOf items [] [] = ⊤
AreOf items [] (link ∷ links) = ⊥
AreOf items (piece ∷ pieces) [] = ⊥
AreOf items (piece ∷ pieces) (link ∷ links) = IsOf items piece link × AreOf items pieces links

-- the log of a long poll has, piece by piece, what the items of the chain behind its previous id have, in order, each once and none
-- skipped, up to its position
pub record FollowsPoll (chain : Chain) (items : List Item) (start : List ℕ) (h : Held) : Type 0 where
  pub between : List Link
  pub at : List ℕ
  pub position_is : position h ≡ Some at
  pub place : IsBetween chain start at between
  pub pieces : AreOf items (log h) between

-- the law of chains for long polls
abbrev pub PollChainLaw : Type 0
PollChainLaw = (chain : Chain) (entries : List Entry) (number : ℕ) (h : Held) → slice_get (held entries) number ≡ Some h → (c : CoversPoll chain entries h) → FollowsPoll chain (published entries) c.start h

-- the piece is the answer of a published item on one of the channels
pub record IsAnswerOf (items : List Item) (channels : List (List ℕ)) (piece : Piece) : Type 0 where
  pub item : Item
  pub published : Contains items item
  pub heard : is_heard channels item ≡ true
  pub part : ResponsePart
  pub response_is : item.response ≡ Some part
  pub piece_is : piece ≡ AnswerPiece item.id part

-- the law of items for long polls without a previous id: each piece of the log is the answer of an item that was published on one of the
-- hold's channels
abbrev pub PollItemLaw : Type 0
PollItemLaw =
    (entries : List Entry) (number : ℕ) (h : Held) → slice_get (held entries) number ≡ Some h → (channels : List (List ℕ)) (deadline : ℕ) (again : Bool) → h.spec ≡ Response channels None deadline again
    → All (IsAnswerOf (published entries) channels) (log h)
