-- What a publication does to a session's pass.
use Rattle.std.proofs.Common.{◌≡◌, ℕ, ◌+◌, [], ◌∷◌, Result, Ok, Err, sym, ap, ◌∙◌, arith, inl, inr}
use Rattle.std.specs.List.{All}
use Rattle.std.specs.Prelude.{IfOk, IfErr, OnErr}
use Rattle.std.proofs.lemmas.List.Elements.{All-nil, All-push}
use Rattle.gp_plain.specs.declared.event.Entry.{Entry}
use Rattle.gp_plain.specs.declared.event.Event.TheVariants.{Publish}
use Rattle.gp_plain.specs.declared.item.Item.{Item}
use Rattle.gp_plain.specs.declared.reply.Reply.{Reply}
use Rattle.gp_plain.specs.Others.{MovesShares, shares}
use Rattle.gp_plain.proofs.ShareLaws.{moves_law_holds}
use Rattle.gp_plain.proofs.OthersLaw.{owners_law_holds}
use Rattle.gp_turn.proofs.Owners.{others_by_number}
use Rattle.gp_hub.specs.declared.fault.HubFault.{HubFault}
use Rattle.gp_hub.specs.declared.fault.HubFault.TheVariants as hub
use Rattle.gp_hub.specs.Passes.{HubView, IsSame, entry_of, who_of}
use Rattle.gp_hub.specs.Calls.{HasCalled, HasCause}
use Rattle.gp_hub.proofs.Owned.{made}
use Rattle.gp_session.specs.declared.seat.Published.{Published}
use Rattle.gp_session.specs.declared.seat.Published.TheVariants.{Stands, Busy, Worn, NoMemory}
use Rattle.gp_session.specs.Seats.{SeatView, MovedSeat, SeatRow, PublishedTo, Finds, SaysPublished}
use Rattle.gp_session.proofs.Calling.{moved_served, row_served, moved_unserved, row_unserved}

-- a publication leaves the holds of everybody
holds_stay : (p q : HubView) (item : Item) (reply : Reply) → IsSame p q → HasCalled p q (Publish item) reply → shares q.number q.seen ≡ shares p.number p.seen
holds_stay p q item reply same c =
    let own = entry_of p.number (Publish item) in
    let others = others_by_number who_of p c.goes_on.more same.some c.goes_on.others in
    let none : All (λ (e : Entry). MovesShares e.event → ⊥) (own ∷ []) = All-push (λ (e : Entry). MovesShares e.event → ⊥) [] own (All-nil (λ (e : Entry). MovesShares e.event → ⊥)) (λ moves. moves) in
    ap (λ (n : ℕ). shares n q.seen) same.number ∙ ap (shares p.number) c.seen ∙ moves_law_holds c.before (own ∷ []) p.number none
    ∙ ap (shares p.number) c.goes_on.is ∙ owners_law_holds p.seen c.goes_on.more p.number others

same_item : (a b : Item) → Publish a ≡ Publish b → a ≡ b
same_item a b e = cc

module _ (s t : SeatView) (item : Item) (start : t.start ≡ s.start) (same : IsSame s.pass t.pass) (looks : t.pass.looks ≡ s.pass.looks + 1) where
  abbrev pub Answers : Result Reply HubFault → Type 0
  Answers answer = IfOk answer (λ reply. HasCalled s.pass t.pass (Publish item) reply) × OnErr answer (t.pass.seen ≡ s.pass.seen) × IfErr answer (HasCause (Publish item) t.pass.found)

  pub moved_by : (answer : Result Reply HubFault) → Answers answer → MovedSeat s t
  moved_by (Ok reply) a = moved_served s t start same looks (Publish item) reply (made s.pass t.pass (Publish item) reply same a.0)
  moved_by (Err fault) a = moved_unserved s t start same looks a.1

  pub row_by : (answer : Result Reply HubFault) → Answers answer → SeatRow s → SeatRow t
  row_by (Ok reply) a row = row_served s t start same looks (Publish item) reply (made s.pass t.pass (Publish item) reply same a.0) row
  row_by (Err fault) a row = row_unserved s t start same looks a.1 row

  pub published_by : (answer : Result Reply HubFault) (published : Published) → Answers answer → SaysPublished answer published → PublishedTo s t item published
  published_by (Ok reply) Stands a says = record { reply = reply; made = made s.pass t.pass (Publish item) reply same a.0; holds = holds_stay s.pass t.pass item reply same a.0 }
  published_by (Ok reply) (Busy back) a says = absurd says
  published_by (Ok reply) Worn a says = absurd says
  published_by (Ok reply) NoMemory a says = absurd says
  published_by (Err (hub.Busy event word)) Stands a says = absurd says
  published_by (Err (hub.Busy event word)) (Busy back) a says = (same_item back item (sym says ∙ a.2.0), a.1, record { looked = omega (arith, looks); odd = a.2.2 })
  published_by (Err (hub.Busy event word)) Worn a says = absurd says
  published_by (Err (hub.Busy event word)) NoMemory a says = absurd says
  published_by (Err (hub.Worn event)) Stands a says = absurd says
  published_by (Err (hub.Worn event)) (Busy back) a says = absurd says
  published_by (Err (hub.Worn event)) Worn a says = (a.1, (a.2.1, a.2.2))
  published_by (Err (hub.Worn event)) NoMemory a says = absurd says
  published_by (Err (hub.NoMemory event)) Stands a says = absurd says
  published_by (Err (hub.NoMemory event)) (Busy back) a says = absurd says
  published_by (Err (hub.NoMemory event)) Worn a says = absurd says
  published_by (Err (hub.NoMemory event)) NoMemory a says = a.1

  pub finds_by : (answer : Result Reply HubFault) (published : Published) → Answers answer → SaysPublished answer published → Finds t published
  finds_by (Ok reply) Stands a says = inr (inr (omega (arith, a.0.word, a.0.few)))
  finds_by (Ok reply) (Busy back) a says = absurd says
  finds_by (Ok reply) Worn a says = absurd says
  finds_by (Ok reply) NoMemory a says = absurd says
  finds_by (Err (hub.Busy event word)) Stands a says = absurd says
  finds_by (Err (hub.Busy event word)) (Busy back) a says = inr (inl a.2.2)
  finds_by (Err (hub.Busy event word)) Worn a says = absurd says
  finds_by (Err (hub.Busy event word)) NoMemory a says = absurd says
  finds_by (Err (hub.Worn event)) Stands a says = absurd says
  finds_by (Err (hub.Worn event)) (Busy back) a says = absurd says
  finds_by (Err (hub.Worn event)) Worn a says = (a.2.1, a.2.2)
  finds_by (Err (hub.Worn event)) NoMemory a says = absurd says
  finds_by (Err (hub.NoMemory event)) Stands a says = absurd says
  finds_by (Err (hub.NoMemory event)) (Busy back) a says = absurd says
  finds_by (Err (hub.NoMemory event)) Worn a says = absurd says
  finds_by (Err (hub.NoMemory event)) NoMemory a says = inr (inr a.2.2)
