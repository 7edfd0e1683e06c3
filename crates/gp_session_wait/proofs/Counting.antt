-- The pieces that a Take gave of a long poll, and the end that it told.
use Rattle.std.proofs.Common.{◌≡◌, Bool, true, false, List, [], ◌∷◌, ◌++◌, drop, refl, sym, ap, ◌∙◌, subst, append_assoc, append-nil, slice_get, Option, Some, None, is_some}
use Rattle.gp_plain.specs.declared.event.HoldSpec.{HoldSpec}
use Rattle.gp_plain.specs.declared.item.Message.{Message}
use Rattle.gp_plain.specs.declared.item.Message.TheVariants.{Text, Binary, Ping, Pong, Close}
use Rattle.gp_plain.specs.declared.item.ResponsePart.{ResponsePart}
use Rattle.gp_plain.specs.declared.reply.EndCause.{EndCause}
use Rattle.gp_plain.specs.declared.reply.EndCause.TheVariants as cause
use Rattle.gp_plain.specs.declared.reply.Piece.{Piece}
use Rattle.gp_plain.specs.declared.reply.Piece.TheVariants.{Opening, Item as ItemPiece, Page as PagePiece, Message as MessagePiece, Answer as AnswerPiece}
use Rattle.gp_plain.specs.declared.reply.Taken.{Taken}
use Rattle.gp_plain.specs.declared.tally.Payload.TheVariants as payload
use Rattle.gp_plain.specs.Ends.{IsBrought}
use Rattle.gp_plain.specs.Holds.{is_retry}
use Rattle.gp_plain.specs.Kinds.{RecoverFits, ends_response, may_end}
use Rattle.gp_plain.specs.Pieces.{end_by, closed_by, closed_by_message}
use Rattle.gp_plain.specs.Reports.{tally_of, payload_of}
use Rattle.gp_session_hold.specs.Rows.{KeptView}
use Rattle.gp_session_hold.specs.Puts.{Counts}
use Rattle.gp_session_wait.specs.Seeks.{IsAnswer, IsResponse, CountsSome, FitsPoll, CanEnd, EndsBy, GivenAs, Gives}
use Rattle.gp_session_wait.specs.declared.seeking.End.{End}
use Rattle.gp_session_wait.specs.declared.seeking.End.TheVariants as end
use Rattle.gp_session_wait.specs.declared.seeking.Given.TheVariants as given

counts_none : (h : KeptView) → Counts h h []
counts_none h = record { number = refl; counted = λ spec taken e. e ∙ ap (tally_of spec) (sym (append-nil taken)) }

counts_again : (h k l : KeptView) (a b : List Piece) → Counts h k a → Counts k l b → Counts h l (a ++ b)
counts_again h k l a b p q = record {
  number = q.number ∙ p.number;
  counted = λ spec taken e. q.counted spec (taken ++ a) (p.counted spec taken e) ∙ ap (tally_of spec) (append_assoc taken a b);
}

no_last : {A : Type 0} (front : List Piece) (p : Piece) → [] ≡ front ++ p ∷ [] → A
no_last [] p e = cc e
no_last (x ∷ front) p e = cc e

pub same_last : (xs ys : List Piece) (x y : Piece) → xs ++ x ∷ [] ≡ ys ++ y ∷ [] → x ≡ y
same_last [] [] x y e = cc e
same_last [] (v ∷ []) x y e = cc e
same_last [] (v ∷ w ∷ ys) x y e = cc e
same_last (u ∷ []) [] x y e = cc e
same_last (u ∷ w ∷ xs) [] x y e = cc e
same_last (u ∷ xs) (v ∷ ys) x y e = same_last xs ys x y (cc e)

pub counts_begin : (h : KeptView) (all : List Piece) → CountsSome h h all all None
counts_begin h all = record { done = []; split = refl; counts = counts_none h; found = λ part a. no_last a.front (AnswerPiece a.to part) a.whole }

first_split : (xs : List Piece) (p : Piece) → slice_get xs 0 ≡ Some p → xs ≡ p ∷ drop 1 xs
first_split [] p e = absurd cc
first_split (x ∷ xs) p e = let same : x ≡ p = (cc) in ap (λ y. y ∷ xs) same

none_left : (xs : List Piece) → slice_get xs 0 ≡ None → xs ≡ []
none_left [] e = refl
none_left (x ∷ xs) e = absurd cc

pub counts_on : (h k l : KeptView) (all left rest : List Piece) (answer next : Option ResponsePart) (piece : Piece) → CountsSome h k all left answer → Some piece ≡ slice_get left 0 → rest ≡ drop 1 left → Counts k l (piece ∷ [])
    → ((part : ResponsePart) → payload_of piece ≡ payload.Answer part → next ≡ Some part) → CountsSome h l all rest next
counts_on h k l all left rest answer next piece c first more counts found = record {
  done = c.done ++ piece ∷ [];
  split = c.split ∙ ap (λ ps. c.done ++ ps) (first_split left piece (sym first) ∙ ap (λ ps. piece ∷ ps) (sym more)) ∙ sym (append_assoc c.done (piece ∷ []) rest);
  counts = counts_again h k l c.done (piece ∷ []) c.counts counts;
  found = λ part a. found part (ap payload_of (same_last c.done a.front piece (AnswerPiece a.to part) a.whole));
}

all_done : (h k : KeptView) (all left : List Piece) (answer : Option ResponsePart) (c : CountsSome h k all left answer) → None ≡ slice_get left 0 → c.done ≡ all
all_done h k all left answer c none = sym (c.split ∙ ap (λ ps. c.done ++ ps) (none_left left (sym none)) ∙ append-nil c.done)

pub counted_all : (h k : KeptView) (all left : List Piece) (answer : Option ResponsePart) → CountsSome h k all left answer → None ≡ slice_get left 0 → Counts h k all
counted_all h k all left answer c none = subst (Counts h k) (all_done h k all left answer c none) c.counts

pub found_all : (h k : KeptView) (all left : List Piece) (answer : Option ResponsePart) → CountsSome h k all left answer → None ≡ slice_get left 0 → (part : ResponsePart) → IsAnswer all part → answer ≡ Some part
found_all h k all left answer c none part a = subst (λ ps. (IsAnswer ps part → answer ≡ Some part)) (all_done h k all left answer c none) (c.found part) a

-- a piece that brings Answered is an answer

no_close : {A : Type 0} (close : Bool) → closed_by close ≡ Some cause.Answered → A
no_close true e = cc e
no_close false e = cc e

no_close_message : {A : Type 0} (message : Message) → closed_by_message message ≡ Some cause.Answered → A
no_close_message (Close code reason) e = cc e
no_close_message (Text bytes) e = cc e
no_close_message (Binary bytes) e = cc e
no_close_message (Ping bytes) e = cc e
no_close_message (Pong bytes) e = cc e

-- an answer of pieces
pub record HasAnswer (pieces : List Piece) : Type 0 where
  pub part : ResponsePart
  pub is : IsAnswer pieces part

brought_by : (pieces front : List Piece) (piece : Piece) → pieces ≡ front ++ piece ∷ [] → end_by piece ≡ Some cause.Answered → HasAnswer pieces
brought_by pieces front (Opening bytes) whole e = absurd (cc)
brought_by pieces front (ItemPiece to bytes close) whole e = no_close close e
brought_by pieces front (PagePiece from to bytes) whole e = absurd (cc)
brought_by pieces front (MessagePiece message) whole e = no_close_message message e
brought_by pieces front (AnswerPiece to part) whole e = record { part = part; is = record { front = front; to = to; whole = whole } }

pub has_answer : (pieces : List Piece) → IsBrought pieces cause.Answered → HasAnswer pieces
has_answer pieces b = brought_by pieces b.front b.piece b.whole b.end

-- the end that a Take of a long poll tells

may_by : (spec : HoldSpec) (r : IsResponse spec) (c : EndCause) → may_end spec c ≡ true → ends_response r.prev c ≡ true
may_by spec r c e = sym (ap (λ (s : HoldSpec). may_end s c) r.is) ∙ e

recovers_by : (spec : HoldSpec) (r : IsResponse spec) (taken : Taken) → RecoverFits spec taken → is_some taken.recover ≡ is_retry taken.ended
recovers_by spec r taken f = subst (λ (s : HoldSpec). RecoverFits s taken) r.is f

pub can_end : (taken : Taken) (c : EndCause) (answer : Option ResponsePart) → FitsPoll taken → taken.ended ≡ Some c → ((part : ResponsePart) → IsAnswer taken.pieces part → answer ≡ Some part) → CanEnd c taken.recover answer
can_end taken c answer f told found = record {
  prev = f.response.prev;
  may = may_by f.spec f.response c (f.fits.ends c told);
  answers = λ e. let a = has_answer taken.pieces (f.fits.pieces.answered (told ∙ ap Some e)) in ap is_some (found a.part a.is);
  recovers = λ e. recovers_by f.spec f.response taken f.fits.recovers ∙ ap is_retry (told ∙ ap Some e);
}

same_part : (a b : ResponsePart) (o : Option ResponsePart) → o ≡ Some a → o ≡ Some b → a ≡ b
same_part a b o e f = cc

ends_with : (taken : Taken) (c : EndCause) (answer : Option ResponsePart) (told : End) → FitsPoll taken → taken.ended ≡ Some c → ((part : ResponsePart) → IsAnswer taken.pieces part → answer ≡ Some part)
    → EndsBy c taken.recover answer told → GivenAs taken (given.Ended told)
ends_with taken c answer (end.Answered part) f is found e =
    let a = has_answer taken.pieces (f.fits.pieces.answered (is ∙ ap Some e.0)) in
    (is ∙ ap Some e.0, subst (IsAnswer taken.pieces) (same_part a.part part answer (found a.part a.is) e.1) a.is)
ends_with taken c answer end.TimedOut f is found e = (is ∙ ap Some e, tt)
ends_with taken c answer (end.Retry id) f is found e = (is ∙ ap Some e.0, e.1)
ends_with taken c answer end.Overflow f is found e = (is ∙ ap Some e, tt)

pub gives_end : (h k : KeptView) (taken : Taken) (c : EndCause) (answer : Option ResponsePart) (told : End) → FitsPoll taken → taken.ended ≡ Some c → Counts h k taken.pieces
    → ((part : ResponsePart) → IsAnswer taken.pieces part → answer ≡ Some part) → EndsBy c taken.recover answer told → Gives h k taken (given.Ended told)
gives_end h k taken c answer told f is counts found e = record { counts = counts; says = ends_with taken c answer told f is found e }
