-- A run of items of a channel is a part of every chain that covers it.
use Rattle.std.proofs.Common.{◌≡◌, ℕ, true, ◌&&◌, List, [], ◌∷◌, ◌++◌, refl, sym, ap, ◌∙◌, subst, append_assoc, Option, Some, None, is_some}
use Rattle.std.specs.Cmp.Lexicographic.{same_text}
use Rattle.std.specs.Prelude.{All}
use Rattle.std.proofs.lemmas.List.Elements.{All-contains}
use Rattle.gp_plain.specs.declared.item.Item.{Item}
use Rattle.gp_plain.specs.declared.item.StreamPart.{StreamPart}
use Rattle.gp_plain.specs.declared.reply.Piece.{Piece}
use Rattle.gp_plain.specs.Items.{comes_after, is_id, is_on}
use Rattle.gp_plain.specs.Pieces.{id_or}
use Rattle.gp_plain.specs.Chain.{Link, Chain, AreDistinct, last_id, IsLinked, CoversIds, CoversItem}
use Rattle.gp_plain.specs.Holds.{log}
use Rattle.gp_plain.specs.History.{published}
use Rattle.gp_plain.proofs.ChainLaw.{one_place, last_id-append, and_left, and_right, absurd_true}
use Rattle.gp_session_wait.specs.Chains.{AreOf, PollChainLaw}
use Rattle.gp_session_wait.proofs.Running.{IsNext, IsRun, polls_run}

ids_of : (id prev : Option (List ℕ)) (at : List ℕ) → (is_some id && is_id prev at) ≡ true → (own : List ℕ) × (id ≡ Some own) × (prev ≡ Some at)
ids_of None prev at e = absurd_true e
ids_of (Some own) None at e = absurd_true e
ids_of (Some own) (Some p) at e = (own, refl, ap Some (same_text p at (sym e)))

linked_by : (c : Chain) (id prev : Option (List ℕ)) (own at : List ℕ) (stream : Option StreamPart) → id ≡ Some own → prev ≡ Some at → CoversIds c id prev stream → IsLinked c own at stream
linked_by c id prev own at stream e f cov = subst (λ i. CoversIds c i (Some at) stream) e (subst (λ p. CoversIds c id p stream) f cov)

-- the item as a link of the chain
record Linked (c : Chain) (item : Item) (at : List ℕ) : Type 0 where
  own : List ℕ
  id_is : item.id ≡ Some own
  linked : IsLinked c own at item.stream

linked_of : (c : Chain) (items : List Item) (item : Item) (at : List ℕ) → All (CoversItem c) items → IsNext items c.channel at item → Linked c item at
linked_of c items item at covers next =
    let on = and_right (comes_after item at) (is_on c.channel item) next.on in
    let ids = ids_of item.id item.prev at (and_left (comes_after item at) (is_on c.channel item) next.on) in
    let covered : CoversItem c item = All-contains (CoversItem c) items item covers next.there in
    record { own = ids.0; id_is = ids.1; linked = linked_by c item.id item.prev ids.0 at item.stream ids.1 ids.2 (covered (same_text item.channel c.channel (sym on))) }

-- a part of the chain from a place on, which the pieces are of
record Goes (c : Chain) (items : List Item) (from at : List ℕ) (rest : List Link) (pieces : List Piece) : Type 0 where
  between : List Link
  left : List Link
  split : rest ≡ between ++ left
  to_is : last_id from between ≡ at
  of : AreOf items pieces between

goes : (c : Chain) (items : List Item) (before rest : List Link) (from at : List ℕ) (pieces : List Piece) → AreDistinct c.root c.links → All (CoversItem c) items
    → c.links ≡ before ++ rest → last_id c.root before ≡ from → IsRun items c.channel from pieces at → Goes c items from at rest pieces
goes c items before rest from at [] d covers whole here run = record { between = []; left = rest; split = refl; to_is = run; of = tt }
goes c items before rest from at (piece ∷ pieces) d covers whole here run =
    let item : Item = run.0 in
    let k = linked_of c items item from covers run.1 in
    let link : Link = record { id = k.own; stream = item.stream } in
    let p = one_place c.root before rest k.linked.before (link ∷ k.linked.rest) (subst (AreDistinct c.root) whole d) (sym whole ∙ k.linked.whole) (here ∙ sym k.linked.prev_is) in
    let next : IsRun items c.channel k.own pieces at = subst (λ (q : List ℕ). IsRun items c.channel q pieces at) (ap (λ (i : Option (List ℕ)). id_or i from) k.id_is) run.3 in
    let g = goes c items (before ++ link ∷ []) k.linked.rest k.own at pieces d covers
    (whole ∙ ap (λ r. before ++ r) p.1 ∙ sym (append_assoc before (link ∷ []) k.linked.rest))
    (last_id-append c.root before (link ∷ [])) next in
    record {
      between = link ∷ g.between;
      left = g.left;
      split = p.1 ∙ ap (λ r. link ∷ r) g.split;
      to_is = g.to_is;
      of = (record { item = item; published = run.1.there; id_is = k.id_is; stream_is = refl; piece_is = run.2 }, g.of);
    }

pub poll_chain_law_holds : PollChainLaw
poll_chain_law_holds chain entries number h there c =
    let r = polls_run entries number h chain.channel c.start c.deadline c.again there c.channel in
    let g = goes chain (published entries) c.root.before c.root.rest c.start r.at (log h) c.distinct c.published c.root.whole c.root.at r.run_is in
    record {
      between = g.between;
      at = r.at;
      position_is = r.position_is;
      place = record { before = c.root.before; rest = g.left; whole = c.root.whole ∙ ap (λ l. c.root.before ++ l) g.split; from_is = c.root.at; to_is = g.to_is };
      pieces = g.of;
    }
