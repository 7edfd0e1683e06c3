-- What a call of the hub does to a session's pass, whatever the event.
use Rattle.std.proofs.Common.{◌≡◌, ℕ, ◌+◌, List, [], ◌∷◌, ◌++◌, sym, ap, ◌∙◌, subst, arith, append_assoc, append-nil, inl, inr}
use Rattle.std.specs.List.{All}
use Rattle.std.proofs.lemmas.List.Elements.{All-append, All-nil, All-weaker, All-push}
use mathlib.Core.List.{IsPrefix}
use Rattle.gp_plain.specs.declared.event.Entry.{Entry}
use Rattle.gp_plain.specs.declared.event.Event.{Event}
use Rattle.gp_plain.specs.declared.reply.Reply.{Reply}
use Rattle.gp_turn.specs.Passes.{range, ranges_of, times_in}
use Rattle.gp_hub.specs.Passes.{HubView, IsSame, entry_of}
use Rattle.gp_hub.specs.Calls.{HasCalled}
use Rattle.gp_hub.specs.Own.{HasMade}
use Rattle.gp_session.specs.Seats.{SeatView, IsSamePass, MovedSeat, IsApart, SeenSince, SeatRow, IsServed}

pub same_pass : (p q : HubView) → IsSame p q → IsSamePass p q
same_pass p q s = record { turn = s.turn; number = s.number; spare = s.spare; past = s.past; parts = s.parts }

pub same_again : (a b c : HubView) → IsSamePass a b → IsSamePass b c → IsSamePass a c
same_again a b c s t = record { turn = t.turn ∙ s.turn; number = t.number ∙ s.number; spare = t.spare ∙ s.spare; past = t.past ∙ s.past; parts = t.parts ∙ s.parts }

prefix_same : (xs ys : List Entry) → ys ≡ xs → IsPrefix xs ys
prefix_same xs ys e = ([], append-nil xs ∙ sym e)

-- what was seen goes on with entries of others and one of the session's
module _ (start p q : HubView) (same : IsSamePass start p) (since : SeenSince start p) where
  ranges_are : ranges_of p ≡ ranges_of start
  ranges_are = ap (λ (n : ℕ). range n p.spare ∷ p.past) same.number ∙ ap (λ (n : ℕ). range start.number n ∷ p.past) same.spare ∙ ap (λ past. range start.number start.spare ∷ past) same.past

  since_more : (event : Event) (reply : Reply) → HasCalled p q event reply → SeenSince start q
  since_more event reply c =
      let own = entry_of p.number event in
      let others : All (IsApart start) c.goes_on.more = All-weaker (λ (e : Entry). times_in e.who (ranges_of p) ≡ 0) (IsApart start)
      (λ (e : Entry) none. inr (ap (times_in e.who) (sym ranges_are) ∙ none)) c.goes_on.more c.goes_on.others in
      let mine : All (IsApart start) (own ∷ []) = All-push (IsApart start) [] own (All-nil (IsApart start)) (inl same.number) in
      record {
        more = since.more ++ (c.goes_on.more ++ own ∷ []);
        is = c.seen ∙ ap (λ xs. xs ++ own ∷ []) (c.goes_on.is ∙ ap (λ xs. xs ++ c.goes_on.more) since.is)
            ∙ append_assoc (start.seen ++ since.more) c.goes_on.more (own ∷ []) ∙ append_assoc start.seen since.more (c.goes_on.more ++ own ∷ []);
        apart = All-append (IsApart start) since.more (c.goes_on.more ++ own ∷ []) since.apart (All-append (IsApart start) c.goes_on.more (own ∷ []) others mine);
      }

  since_same : q.seen ≡ p.seen → SeenSince start q
  since_same e = record { more = since.more; is = e ∙ since.is; apart = since.apart }

module _ (s t : SeatView) (start : t.start ≡ s.start) (same : IsSame s.pass t.pass) (looks : t.pass.looks ≡ s.pass.looks + 1) where
  row_since : (SeenSince s.start s.pass → IsSamePass s.start s.pass → SeenSince s.start t.pass) → SeatRow s → SeatRow t
  row_since on row = subst (λ (p : HubView). SeatRow (record { start = p; pass = t.pass })) (sym start) (record {
    same = same_again s.start s.pass t.pass row.same (same_pass s.pass t.pass same);
    since = on row.since row.same;
    looks = omega (arith, row.looks, looks);
  })

  -- a call that was served
  module _ (event : Event) (reply : Reply) (made : HasMade s.pass t.pass event reply) where
    pub moved_served : MovedSeat s t
    moved_served = record { start = start; same = same_pass s.pass t.pass same; seen = made.grown; looks = omega (arith, looks) }

    pub row_served : SeatRow s → SeatRow t
    row_served row = row_since (λ since is. since_more s.start s.pass t.pass is since event reply made.called) row

    pub free_served : IsServed t
    free_served = inr (inr (omega (arith, made.called.word, made.called.few)))

  -- and one that wasn't
  module _ (seen : t.pass.seen ≡ s.pass.seen) where
    pub moved_unserved : MovedSeat s t
    moved_unserved = record { start = start; same = same_pass s.pass t.pass same; seen = prefix_same s.pass.seen t.pass.seen seen; looks = omega (arith, looks) }

    pub row_unserved : SeatRow s → SeatRow t
    row_unserved row = row_since (λ since is. since_same s.start s.pass t.pass is since seen) row
