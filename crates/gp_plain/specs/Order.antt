-- What a hold gets doesn't depend on the order in which the same items are published.
use Rattle.std.specs.Prelude.{ℕ, ◌≡◌, ◌<◌, ◌&&◌, IsPermutation, Bool, true, not, List, [], ◌∷◌, ◌++◌, length, slice_get, Some, None, All}
use Rattle.std.specs.List.{flat_map}
use Rattle.gp_plain.specs.Follow.{is_repeat}
use Rattle.gp_plain.specs.Pieces.{text, NoPage}
use Rattle.gp_plain.specs.Holds.{Held, log, position, ended}
use Rattle.gp_plain.specs.History.{held}
use Rattle.gp_plain.specs.Chain.{Chain, Covers}
use Rattle.gp_plain.specs.declared.item.Item.{Item}
use Rattle.gp_plain.specs.declared.event.Entry.{Entry}
use Rattle.gp_plain.specs.declared.event.Event.{Event}
use Rattle.gp_plain.specs.declared.event.Event.TheVariants.{Attach, Publish, Take, Page, PageFailed, Push, Join, Leave, Detach}

abbrev pub sent_by : Event → List Item
sent_by (Publish item) = item ∷ []
sent_by (Attach spec) = []
sent_by (Take hold now) = []
sent_by (Page hold from to bytes then) = []
sent_by (PageFailed hold) = []
sent_by (Push hold message) = []
sent_by (Join hold channel) = []
sent_by (Leave hold channel) = []
sent_by (Detach hold) = []

-- the items of a history's publications, in order
abbrev pub sent : List Entry → List Item
sent entries = flat_map (λ (entry : Entry). sent_by entry.event) entries

-- no two items of a channel have one id
abbrev pub are_apart : List Item → Bool
are_apart [] = true
are_apart (item ∷ items) = not (is_repeat items item) && are_apart items

abbrev pub Attaches : Event → Type 0
Attaches (Attach spec) = Unit {0}
Attaches (Publish item) = ⊥
Attaches (Take hold now) = ⊥
Attaches (Page hold from to bytes then) = ⊥
Attaches (PageFailed hold) = ⊥
Attaches (Push hold message) = ⊥
Attaches (Join hold channel) = ⊥
Attaches (Leave hold channel) = ⊥
Attaches (Detach hold) = ⊥

-- fewer than 4,096 items, no two of a channel with one id
pub record AreFew (items : List Item) : Type 0 where
  pub few : length items < 4096
  pub apart : are_apart items ≡ true

-- two holds have the same text and the same position
pub record HaveSame (h k : Held) : Type 0 where
  pub text : text (log h) ≡ text (log k)
  pub position : position h ≡ position k

-- the law of order: two histories that begin with the same attaches, and that publish the same items in any order, leave
-- each hold of those attaches, which a chain covers in both, whose log has no page in either, and which ended in neither,
-- with the same text and position
abbrev pub OrderLaw : Type 0
OrderLaw =
    (chain : Chain) (attaches first second : List Entry) (number : ℕ) (h k : Held)
    → All (λ (entry : Entry). Attaches entry.event) attaches → number < length (held attaches)
    → AreFew (sent first) → AreFew (sent second) → IsPermutation (sent first) (sent second)
    → slice_get (held (attaches ++ first)) number ≡ Some h → Covers chain (attaches ++ first) number h → NoPage (log h) → ended h ≡ None
    → slice_get (held (attaches ++ second)) number ≡ Some k → Covers chain (attaches ++ second) number k → NoPage (log k) → ended k ≡ None
    → HaveSame h k
