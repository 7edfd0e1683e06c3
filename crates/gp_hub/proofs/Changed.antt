-- What a change of a socket of one's own does.
use Rattle.std.proofs.Common.{◌≡◌, ℕ, Bool, true, false, cond, slice_get, List, [], refl, sym, ap, ◌∙◌, subst, Option, Some, None}
use Rattle.gp_plain.specs.declared.event.Entry.{Entry}
use Rattle.gp_plain.specs.declared.event.Event.{Event}
use Rattle.gp_plain.specs.declared.event.Event.TheVariants as event
use Rattle.gp_plain.specs.declared.event.HoldKind.{HoldKind}
use Rattle.gp_plain.specs.declared.event.HoldSpec.{HoldSpec}
use Rattle.gp_plain.specs.declared.reply.Reply.{Reply}
use Rattle.gp_plain.specs.declared.reply.Reply.TheVariants as reply
use Rattle.gp_plain.specs.declared.reply.EndCause.{EndCause}
use Rattle.gp_plain.specs.Holds.{Held, SocketChange, push, join, leave, is_socket, refusal, change_refusal, reply_or, is_crowded, done_or_full, change_reply, changed_by}
use Rattle.gp_plain.specs.History as history
use Rattle.gp_plain.specs.History.{kept_at, refused_or, changed, after_event, past_of, held, published}
use Rattle.gp_plain.specs.Others.{Share, share_at, MovesShares}
use Rattle.gp_plain.proofs.Histories.{all_at}
use Rattle.gp_plain.proofs.Soundness.{IsSound, are_sound, kind_is}
use Rattle.gp_hub.specs.Passes.{HubView, IsSame}
use Rattle.gp_hub.specs.Calls.{HasCalled}
use Rattle.gp_hub.specs.Own.{Keeps}
use Rattle.gp_hub.specs.Changes.{HasChanged, IsNoSocket, change_event, reply_of}
use Rattle.gp_hub.specs.declared.sockets.ChangeReply.{ChangeReply}
use Rattle.gp_hub.specs.declared.sockets.ChangeReply.TheVariants as answer
use Rattle.gp_hub.proofs.Owned.{OwnCall, own_call, made, unmoved, same_share, keeps_on, spec_of, other_by}

-- each change is answered and carried out as an event on one hold is
answers : (before : List Entry) (who hold : ℕ) (change : SocketChange) → history.answer (past_of before) who (change_event hold change) ≡ refused_or who hold (kept_at (held before) hold) (λ (h : Held). change_reply change h.state)
answers before who hold (push message) = refl
answers before who hold (join channel) = refl
answers before who hold (leave channel) = refl

changes : (before : List Entry) (who hold : ℕ) (change : SocketChange) → (after_event (past_of before) who (change_event hold change)).holds ≡ changed who hold (changed_by change) (held before)
changes before who hold (push message) = refl
changes before who hold (join channel) = refl
changes before who hold (leave channel) = refl

moves_none : (hold : ℕ) (change : SocketChange) → MovesShares (change_event hold change) → ⊥
moves_none hold (push message) moves = moves
moves_none hold (join channel) moves = moves
moves_none hold (leave channel) moves = moves

change_call : (p q : HubView) (hold : ℕ) (change : SocketChange) (r : Reply) (k : Keeps p hold) → IsSame p q → (c : HasCalled p q (change_event hold change) r)
    → OwnCall p q c.before hold r (λ (h : Held). change_reply change h.state) (changed_by change) k.share
change_call p q hold change r k same c =
    own_call p q hold (change_event hold change) r (λ (h : Held). change_reply change h.state) (changed_by change) k same c (answers c.before p.number hold change) (changes c.before p.number hold change)

join_by : (r : Reply) (crowded : Bool) → r ≡ cond crowded (reply.Full 8) reply.Done → (a : ChangeReply) × (r ≡ reply_of a)
join_by r true e = (answer.Full, e)
join_by r false e = (answer.Done, e)

done_by : (change : SocketChange) (channels : List (List ℕ)) (r : Reply) → r ≡ done_or_full change channels → (a : ChangeReply) × (r ≡ reply_of a)
done_by (push message) channels r e = (answer.Done, e)
done_by (join channel) channels r e = join_by r (is_crowded channel channels) e
done_by (leave channel) channels r e = (answer.Done, e)

change_by : (change : SocketChange) (channels : List (List ℕ)) (r : Reply) (ended : Option EndCause) (has : Bool) (kind : HoldKind) → r ≡ reply_or (refusal ended has kind) (done_or_full change channels) → (a : ChangeReply) × (r ≡ reply_of a)
change_by change channels r (Some cause) has kind e = (answer.Gone cause, e)
change_by change channels r None true kind e = done_by change channels r e
change_by change channels r None false kind e = (answer.OtherKind kind, e)

pub change_answers : (p q : HubView) (hold : ℕ) (change : SocketChange) (r : Reply) → Keeps p hold → IsSame p q → HasCalled p q (change_event hold change) r → (a : ChangeReply) × (r ≡ reply_of a)
change_answers p q hold change r k same c =
    let o = change_call p q hold change r k same c in
    let s = o.h.state in
    change_by change s.terms.channels r s.ended (is_socket s.terms.kind) s.terms.kind o.replied

crowd_no_kind : (other : HoldKind) (crowded : Bool) → reply.OtherKind other ≡ cond crowded (reply.Full 8) reply.Done → ⊥
crowd_no_kind other true e = cc
crowd_no_kind other false e = cc

no_kind : (other : HoldKind) (change : SocketChange) (channels : List (List ℕ)) → reply.OtherKind other ≡ done_or_full change channels → ⊥
no_kind other (push message) channels e = cc
no_kind other (join channel) channels e = crowd_no_kind other (is_crowded channel channels) e
no_kind other (leave channel) channels e = cc

no_socket : (before : List Entry) (hold : ℕ) (h : Held) (other : HoldKind) (change : SocketChange) → slice_get (held before) hold ≡ Some h → reply.OtherKind other ≡ change_reply change h.state → IsNoSocket h.spec other
no_socket before hold h other change there e =
    let rest = done_or_full change h.state.terms.channels in
    let is = other_by other h.state.terms.kind h.state.ended (is_socket h.state.terms.kind) rest (no_kind other change h.state.terms.channels) e in
    let sound = all_at (IsSound (published before)) (held before) hold h (are_sound before) there in
    record { own = is.0 ∙ kind_is h.spec h.state.terms sound.terms_are; other = ap is_socket is.0 ∙ is.1 }

pub has_changed : (p q : HubView) (hold : ℕ) (change : SocketChange) (a : ChangeReply) → Keeps p hold → IsSame p q → HasCalled p q (change_event hold change) (reply_of a) → HasChanged p q hold change a
unfolding made
has_changed p q hold change a k same c =
    let r = reply_of a in
    let o = change_call p q hold change r k same c in
    let said : Held → Reply = λ h. change_reply change h.state in
    let share : share_at (held q.seen) hold ≡ share_at (held p.seen) hold = same_share p q c.before hold r said (changed_by change) k o refl in
    record {
      made = made p q (change_event hold change) r same c;
      stood = o.h;
      there = o.there;
      answered = o.replied;
      left = o.now;
      kind = λ before kind is e.
          subst (λ (spec : HoldSpec). IsNoSocket spec kind) (spec_of p q c.before hold r said (changed_by change) k o before is)
          (no_socket c.before hold o.h kind change o.there (sym (ap reply_of e) ∙ o.replied));
      shares = unmoved p q (change_event hold change) c.before c.seen (moves_none hold change) same c.goes_on;
      share = share;
      keeps = keeps_on p q hold k same share;
    }
