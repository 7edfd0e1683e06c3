-- What a client of a long poll is sent.
use Rattle.std.proofs.Common.{◌≡◌, ℕ, ◌<◌, cond, List, [], ◌∷◌, ◌++◌, refl, sym, ap, ◌∙◌, subst, append_assoc, append-nil, slice_get, Option, Some, None, option_map, eq-eqb, arith}
use Rattle.std.specs.Option.{option_map_or}
use Rattle.std.proofs.lemmas.Bool.{ne_eqb}
use Rattle.gp_plain.specs.declared.item.ResponsePart.{ResponsePart}
use Rattle.gp_plain.specs.declared.reply.EndCause.{EndCause}
use Rattle.gp_plain.specs.declared.reply.EndCause.TheVariants.{Closed, Detached, Gap, Unrecovered, Overflow, Answered, Retry, TimedOut}
use Rattle.gp_plain.specs.declared.reply.Piece.{Piece}
use Rattle.gp_plain.specs.declared.reply.Piece.TheVariants.{Opening, Item as ItemPiece, Page as PagePiece, Message as MessagePiece, Answer as AnswerPiece}
use Rattle.gp_plain.specs.Ends.{EndsByPiece, HasToldEnd}
use Rattle.gp_plain.specs.History.{held}
use Rattle.gp_plain.specs.Holds.{Held, log, ended}
use Rattle.gp_plain.specs.Others.{Share, share_of}
use Rattle.gp_plain.specs.Pieces.{end_by}
use Rattle.gp_plain.proofs.EndLaws.{told_law_holds, answer_law_holds}
use Rattle.gp_session.specs.Seats.{SeatView}
use Rattle.gp_session.specs.Wires.{WireView, Sent}
use Rattle.gp_session_hold.specs.Rows.{KeptView, share_of_hold, taken_at, told_at}
use Rattle.gp_session_wait.specs.Views.{WaitView}
use Rattle.gp_session_wait.specs.Answers.{answer_text}
use Rattle.gp_session_wait.specs.Seeks.{IsAnswer}
use Rattle.gp_session_wait.specs.Waits.{IsChosen, most_repeats}
use Rattle.gp_session_wait.specs.Laws.{answer_in, last_answer, part_text, poll_text, PollRow, WaitLaw, NoAnswer, HasOneAnswer, AnswerLaw}
use Rattle.gp_session_wait.specs.declared.answer.Answer.{Answer}
use Rattle.gp_session_wait.proofs.Counting.{HasAnswer, has_answer}

taken_of : (s : SeatView) (number : ℕ) (share : Share) → share_of_hold s number ≡ Some share → taken_at s number ≡ share.taken
taken_of s number share there = ap (λ (o : Option Share). option_map_or (λ (x : Share). x.taken) o []) there

told_of : (s : SeatView) (number : ℕ) (share : Share) → share_of_hold s number ≡ Some share → told_at s number ≡ share.told
told_of s number share there = ap (λ (o : Option Share). option_map_or (λ (x : Share). x.told) o None) there

-- the text of the hold of a share of which this end was told
text_of : (own : Answer) (repeats : ℕ) (s : SeatView) (number : ℕ) (share : Share) (told : Option EndCause) → share_of_hold s number ≡ Some share → share.told ≡ told
    → poll_text own repeats (taken_at s number) (told_at s number) ≡ poll_text own repeats share.taken told
text_of own repeats s number share told there is =
    ap (λ ps. poll_text own repeats ps (told_at s number)) (taken_of s number share there) ∙ ap (poll_text own repeats share.taken) (told_of s number share there ∙ is)

last_is : (front : List Piece) (to : Option (List ℕ)) (part : ResponsePart) → last_answer (front ++ AnswerPiece to part ∷ []) ≡ Some part
last_is [] to part = refl
last_is (p ∷ []) to part = refl
last_is (p ∷ q ∷ front) to part = last_is (q ∷ front) to part

answer_is : (pieces : List Piece) (part : ResponsePart) → IsAnswer pieces part → last_answer pieces ≡ Some part
answer_is pieces part a = ap last_answer a.whole ∙ last_is a.front a.to part

answered_text : (own : Answer) (repeats : ℕ) (pieces : List Piece) (part : ResponsePart) → IsAnswer pieces part → poll_text own repeats pieces (Some Answered) ≡ part_text part
answered_text own repeats pieces part a = ap (λ (o : Option ResponsePart). option_map_or part_text o []) (answer_is pieces part a)

chosen_text : (v : WaitView) (c : EndCause) (share : Share) (answer : Answer) → IsChosen v c share answer → poll_text v.own v.repeats share.taken (Some c) ≡ answer_text answer
chosen_text v Answered share answer chosen = answered_text v.own v.repeats share.taken chosen.0 chosen.1 ∙ ap answer_text (sym chosen.2)
chosen_text v TimedOut share answer chosen = ap answer_text (sym chosen)
chosen_text v Retry share answer chosen = ap (λ b. cond b (answer_text v.own) []) (eq-eqb v.repeats most_repeats chosen.0) ∙ ap answer_text (sym chosen.1)
chosen_text v Overflow share answer chosen = absurd chosen
chosen_text v Closed share answer chosen = absurd chosen
chosen_text v Detached share answer chosen = absurd chosen
chosen_text v Gap share answer chosen = absurd chosen
chosen_text v Unrecovered share answer chosen = absurd chosen

fewer : (n : ℕ) → n < most_repeats → (n ≡ most_repeats) → ⊥
fewer n few same = omega (arith, few, same)

repeated_text : (own : Answer) (repeats : ℕ) (pieces : List Piece) → repeats < most_repeats → poll_text own repeats pieces (Some Retry) ≡ []
repeated_text own repeats pieces few = ap (λ b. cond b (answer_text own) []) (ne_eqb repeats most_repeats (fewer repeats few))

row_by : (v : WaitView) (w : WireView) (s : SeatView) (hold : KeptView) (share : Share) (told : Option EndCause) (bytes : List ℕ) → share_of_hold s hold.number ≡ Some share → share.told ≡ told
    → poll_text v.own v.repeats share.taken told ≡ bytes → Sent w bytes → PollRow v w s hold.number
row_by v w s hold share told bytes there is text sent = subst (Sent w) (sym (text_of v.own v.repeats s hold.number share told there is ∙ text)) sent

pub wait_law_holds : WaitLaw
wait_law_holds = record {
  waits = λ v w s x. row_by v w s v.hold x.polls.share None [] x.polls.is.there x.polls.is.untold refl x.bytes;
  answered = λ v w s hold c code x. row_by v w s hold x.share (Some c) (answer_text x.answer) x.ended.is.there x.ended.is.told_is (chosen_text v c x.share x.answer x.chosen) x.bytes;
  retried = λ v w s r x. row_by v w s r.hold x.share (Some Retry) [] x.ended.is.there x.ended.is.told_is (repeated_text v.own v.repeats x.share.taken x.few) x.bytes;
  overflowed = λ v w s hold x. row_by v w s hold x.share (Some Overflow) [] x.ended.is.there x.ended.is.told_is refl x.bytes;
  unput = λ v w s hold c x. x.bytes;
}

-- the answer of a log is its only one

answer_ends : (p : Piece) (part : ResponsePart) → answer_in p ≡ Some part → end_by p ≡ Some Answered
answer_ends (Opening bytes) part e = absurd cc
answer_ends (ItemPiece to bytes close) part e = absurd cc
answer_ends (PagePiece from to bytes) part e = absurd cc
answer_ends (MessagePiece message) part e = absurd cc
answer_ends (AnswerPiece to own) part e = refl

not_nil : {A : Type 0} (xs : List Piece) (x : Piece) → xs ++ x ∷ [] ≡ [] → A
not_nil [] x e = cc e
not_nil (y ∷ xs) x e = cc e

none_here : (o : Option ResponsePart) → ((part : ResponsePart) → o ≡ Some part → ⊥) → o ≡ None
none_here None never = refl
none_here (Some part) never = absurd (never part refl)

none_in : (pieces done front : List Piece) (last : Piece) (end : Option EndCause) → EndsByPiece pieces end → pieces ≡ done ++ (front ++ last ∷ []) → NoAnswer front
none_in pieces done [] last end ends whole = tt
none_in pieces done (p ∷ front) last end ends whole = (
  none_here (answer_in p) (λ part e. not_nil front last (ends.last done p (front ++ last ∷ []) Answered whole (answer_ends p part e)).0),
  none_in pieces (done ++ p ∷ []) front last end ends (whole ∙ sym (append_assoc done (p ∷ []) (front ++ last ∷ []))),
)

one_answer : (pieces : List Piece) (end : Option EndCause) (part : ResponsePart) → EndsByPiece pieces end → IsAnswer pieces part → HasOneAnswer pieces part
one_answer pieces end part ends a = record { front = a.front; to = a.to; whole = a.whole; none_before = none_in pieces [] a.front (AnswerPiece a.to part) end ends a.whole }

taken_is : (s : SeatView) (number : ℕ) (h : Held) → slice_get (held s.pass.seen) number ≡ Some h → taken_at s number ≡ h.taken
taken_is s number h there = ap (λ (o : Option Held). option_map_or (λ (share : Share). share.taken) (option_map share_of o) []) there

told_is : (s : SeatView) (number : ℕ) (h : Held) → slice_get (held s.pass.seen) number ≡ Some h → told_at s number ≡ h.told
told_is s number h there = ap (λ (o : Option Held). option_map_or (λ (share : Share). share.told) (option_map share_of o) None) there

pub answer_law_is : AnswerLaw
answer_law_is s number h own repeats there told =
    let ends : HasToldEnd h = told_law_holds s.pass.seen number h there in
    let end = ends.told Answered (sym (told_is s number h there) ∙ told) in
    let by : EndsByPiece (log h) (ended h) = answer_law_holds s.pass.seen number h there in
    let a : HasAnswer (log h) = has_answer (log h) (by.answered end.1) in
    let all : log h ≡ taken_at s number = ap (λ ps. h.taken ++ ps) end.0 ∙ append-nil h.taken ∙ sym (taken_is s number h there) in (
      a.part,
      one_answer (log h) (ended h) a.part by a.is,
      ap (poll_text own repeats (taken_at s number)) told ∙ answered_text own repeats (taken_at s number) a.part (subst (λ ps. IsAnswer ps a.part) all a.is),
    )
