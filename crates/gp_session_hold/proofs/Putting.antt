-- Pieces that are counted and put one after another.
use Rattle.std.proofs.Common.{◌≡◌, ◌≢◌, ℕ, ◌==◌, Bool, true, false, List, [], ◌∷◌, ◌++◌, length, map, drop, refl, sym, ap, ◌∙◌, subst, append_assoc, append-nil, slice_get, Some, None, arith}
use Rattle.std.proofs.lemmas.Bool.{eqb-true}
use Rattle.std.specs.List.{flat_map}
use Rattle.std.proofs.lemmas.Grind.{flat_map-append}
use Rattle.std.proofs.lemmas.List.{map-append}
use mathlib.Core.List.{IsPrefix}
use Rattle.gp_outside.specs.Links.{LinkTells}
use Rattle.gp_plain.specs.declared.reply.EndCause.{EndCause}
use Rattle.gp_plain.specs.declared.reply.Piece.{Piece}
use Rattle.gp_plain.specs.declared.reply.Piece.TheVariants.{Opening, Item as ItemPiece, Page as PagePiece, Message as MessagePiece, Answer as AnswerPiece}
use Rattle.gp_plain.specs.declared.reply.Taken.{Taken}
use Rattle.gp_plain.specs.Pieces.{piece_bytes}
use Rattle.gp_plain.specs.Reports.{tally_of, payload_of}
use Rattle.gp_answer.specs.Frames.{framed_by, last_chunk}
use Rattle.gp_session.specs.Wires.{WireView}
use Rattle.gp_session_hold.specs.Rows.{KeptView}
use Rattle.gp_session_hold.specs.Puts.{payload_bytes, framed, PutsBehind, PutsPart, PutsAs, PutsNext, Counts, PutsSome, SendsAs, Sends, given_by, missing_by}
use Rattle.gp_session_hold.specs.declared.sending.Given.{Given}
use Rattle.gp_session_hold.specs.declared.sending.Given.TheVariants as given

pub payload_is : (piece : Piece) → payload_bytes (payload_of piece) ≡ piece_bytes piece
payload_is (Opening bytes) = refl
payload_is (ItemPiece to bytes close) = refl
payload_is (PagePiece from to bytes) = refl
payload_is (MessagePiece message) = refl
payload_is (AnswerPiece to part) = refl

abbrev wire_of : LinkTells → LinkTells → List ℕ → WireView
wire_of start link rest = record { start = start; link = link; rest = rest }

wire_is : (w v : WireView) → w.start ≡ v.start → w.link ≡ v.link → w.rest ≡ v.rest → w ≡ v
wire_is w v start link rest =
    ap (λ (l : LinkTells). wire_of l w.link w.rest) start ∙ ap (λ (l : LinkTells). wire_of v.start l w.rest) link ∙ ap (λ (r : List ℕ). wire_of v.start v.link r) rest

-- one put after another

pub puts_none : (v : WireView) → PutsBehind v v []
puts_none v = record { start = refl; link = refl; rest = sym (append-nil v.rest) }

pub puts_again : (u v w : WireView) (a b : List ℕ) → PutsBehind u v a → PutsBehind v w b → PutsBehind u w (a ++ b)
puts_again u v w a b p q = record {
  start = q.start ∙ p.start;
  link = q.link ∙ p.link;
  rest = q.rest ∙ ap (λ xs. xs ++ b) p.rest ∙ append_assoc u.rest a b;
}

pub puts_same : (v w : WireView) → PutsBehind v w [] → w ≡ v
puts_same v w p = wire_is w v p.start p.link (p.rest ∙ append-nil v.rest)

no_part : (part : List ℕ) → IsPrefix part [] → part ≡ []
no_part [] p = refl
no_part (x ∷ xs) p = absurd (let e : x ∷ (xs ++ p.0) ≡ [] = p.1 in (cc))

part_more : (v w : WireView) (a b : List ℕ) → PutsPart v w a → PutsPart v w (a ++ b)
part_more v w a b p = record { part = p.part; is_part = (p.is_part.0 ++ b, sym (append_assoc p.part p.is_part.0 b) ∙ ap (λ xs. xs ++ b) p.is_part.1); puts = p.puts }

part_all : (v w : WireView) (a b : List ℕ) → PutsBehind v w a → PutsPart v w (a ++ b)
part_all v w a b p = record { part = a; is_part = (b, refl); puts = p }

-- what is put next
next_by : (u v w : WireView) (a b : List ℕ) (room next : Bool) → PutsAs u v a room → PutsNext v w b room next → PutsAs u w (a ++ b) next
next_by u v w a b true true p q = puts_again u v w a b p q
next_by u v w a b true false p q = part_all u w a b (subst (PutsBehind u w) (append-nil a) (puts_again u v w a [] p q))
next_by u v w a b false true p q = absurd (let e : true ≡ false = q.0 in (cc))
next_by u v w a b false false p q = subst (λ (x : WireView). PutsPart u x (a ++ b)) (sym q.1) (part_more u v a b p)

-- pieces

framed_more : (chunked : Bool) (a b : List Piece) → framed chunked (a ++ b) ≡ framed chunked a ++ framed chunked b
framed_more chunked a b = ap (flat_map (framed_by chunked)) (map-append piece_bytes a b) ∙ flat_map-append (framed_by chunked) (map piece_bytes a) (map piece_bytes b)

framed_one : (chunked : Bool) (p : Piece) → framed chunked (p ∷ []) ≡ framed_by chunked (piece_bytes p)
framed_one chunked p = append-nil (framed_by chunked (piece_bytes p))

counts_none : (h : KeptView) → Counts h h []
counts_none h = record { number = refl; counted = λ spec taken e. e ∙ ap (tally_of spec) (sym (append-nil taken)) }

counts_again : (h k l : KeptView) (a b : List Piece) → Counts h k a → Counts k l b → Counts h l (a ++ b)
counts_again h k l a b p q = record {
  number = q.number ∙ p.number;
  counted = λ spec taken e. q.counted spec (taken ++ a) (p.counted spec taken e) ∙ ap (tally_of spec) (append_assoc taken a b);
}

pub some_begins : (v : WireView) (chunked : Bool) (h : KeptView) (all : List Piece) → PutsSome v v chunked h h all all true
some_begins v chunked h all = record { done = []; split = refl; counts = counts_none h; puts = puts_none v }

first_split : (xs : List Piece) (p : Piece) → slice_get xs 0 ≡ Some p → xs ≡ p ∷ drop 1 xs
first_split [] p e = absurd cc
first_split (x ∷ xs) p e = let same : x ≡ p = (cc) in ap (λ y. y ∷ xs) same

none_left : (xs : List Piece) → slice_get xs 0 ≡ None → xs ≡ []
none_left [] e = refl
none_left (x ∷ xs) e = absurd cc

pub some_goes : (v w x : WireView) (chunked : Bool) (h k l : KeptView) (all left rest : List Piece) (room next : Bool) (piece : Piece) (bytes : List ℕ) → PutsSome v w chunked h k all left room
    → Some piece ≡ slice_get left 0 → rest ≡ drop 1 left → Counts k l (piece ∷ []) → bytes ≡ piece_bytes piece → PutsNext w x (framed_by chunked bytes) room next → PutsSome v x chunked h l all rest next
some_goes v w x chunked h k l all left rest room next piece bytes p first more counts is puts = record {
  done = p.done ++ piece ∷ [];
  split = p.split ∙ ap (λ ps. p.done ++ ps) (first_split left piece (sym first) ∙ ap (λ ps. piece ∷ ps) (sym more)) ∙ sym (append_assoc p.done (piece ∷ []) rest);
  counts = counts_again h k l p.done (piece ∷ []) p.counts counts;
  puts = subst (λ (all : List ℕ). PutsAs v x all next) (ap (λ bs. framed chunked p.done ++ framed_by chunked bs) is ∙ sym (framed_more chunked p.done (piece ∷ []) ∙ ap (λ xs. framed chunked p.done ++ xs) (framed_one chunked piece)))
      (next_by v w x (framed chunked p.done) (framed_by chunked bytes) room next p.puts puts);
}

all_done : (v w : WireView) (chunked : Bool) (h k : KeptView) (all left : List Piece) (room : Bool) (p : PutsSome v w chunked h k all left room) → None ≡ slice_get left 0 → p.done ≡ all
all_done v w chunked h k all left room p none = sym (p.split ∙ ap (λ ps. p.done ++ ps) (none_left left (sym none)) ∙ append-nil p.done)

pub some_counted : (v w : WireView) (chunked : Bool) (h k : KeptView) (all left : List Piece) (room : Bool) → PutsSome v w chunked h k all left room → None ≡ slice_get left 0 → Counts h k all
some_counted v w chunked h k all left room p none = subst (Counts h k) (all_done v w chunked h k all left room p none) p.counts

pub some_put : (v w : WireView) (chunked : Bool) (h k : KeptView) (all left : List Piece) (room : Bool) → PutsSome v w chunked h k all left room → None ≡ slice_get left 0 → PutsAs v w (framed chunked all) room
some_put v w chunked h k all left room p none = subst (λ (ps : List Piece). PutsAs v w (framed chunked ps) room) (all_done v w chunked h k all left room p none) p.puts

-- what became of all that was given

no_pieces : (ps : List Piece) → true ≡ (length ps == 0) → ps ≡ []
no_pieces [] e = refl
no_pieces (p ∷ ps) e = let none : length (p ∷ ps) ≡ 0 = eqb-true (length (p ∷ ps)) 0 (sym e) in absurd (omega (arith, none))

some_pieces : (ps : List Piece) → false ≡ (length ps == 0) → ps ≢ []
some_pieces [] e = λ none. absurd (let f : false ≡ true = e in (cc))
some_pieces (p ∷ ps) e = λ none. cc

says_open : (v w : WireView) (chunked : Bool) (taken : Taken) (none room : Bool) → none ≡ (length taken.pieces == 0) → taken.recover ≡ None → taken.ended ≡ None → PutsAs v w (framed chunked taken.pieces) room → SendsAs v w chunked taken (given_by none room)
says_open v w chunked taken true true none nothing open_is puts =
    let empty : taken.pieces ≡ [] = no_pieces taken.pieces none in
    (puts_same v w (subst (λ (ps : List Piece). PutsBehind v w (framed chunked ps)) empty puts), empty, nothing, open_is)
says_open v w chunked taken true false none nothing open_is puts =
    let empty : taken.pieces ≡ [] = no_pieces taken.pieces none in
    let part : PutsPart v w [] = subst (λ (ps : List Piece). PutsPart v w (framed chunked ps)) empty puts in
    (puts_same v w (subst (PutsBehind v w) (no_part part.part part.is_part) part.puts), empty, nothing, open_is)
says_open v w chunked taken false true none nothing open_is puts = (puts, some_pieces taken.pieces none, nothing, open_is)
says_open v w chunked taken false false none nothing open_is puts = (part_more v w (framed chunked taken.pieces) (last_chunk chunked None) puts, open_is)

pub sends_open : (v w : WireView) (chunked : Bool) (h k : KeptView) (taken : Taken) (none room : Bool) (answer : Given) → Counts h k taken.pieces → none ≡ (length taken.pieces == 0) → taken.recover ≡ None → taken.ended ≡ None
    → PutsAs v w (framed chunked taken.pieces) room → answer ≡ given_by none room → Sends v w chunked h k taken answer
sends_open v w chunked h k taken none room answer counts is nothing open_is puts same =
    subst (Sends v w chunked h k taken) (sym same) (record { counts = counts; says = says_open v w chunked taken none room is nothing open_is puts })

says_missing : (v w : WireView) (chunked : Bool) (taken : Taken) (room : Bool) (from : List ℕ) → taken.recover ≡ Some from → taken.ended ≡ None → PutsAs v w (framed chunked taken.pieces) room → SendsAs v w chunked taken (missing_by room from)
says_missing v w chunked taken true from told open_is puts = (puts, told, open_is)
says_missing v w chunked taken false from told open_is puts = (part_more v w (framed chunked taken.pieces) (last_chunk chunked None) puts, open_is)

pub sends_missing : (v w : WireView) (chunked : Bool) (h k : KeptView) (taken : Taken) (room : Bool) (from : List ℕ) (answer : Given) → Counts h k taken.pieces → taken.recover ≡ Some from → taken.ended ≡ None
    → PutsAs v w (framed chunked taken.pieces) room → answer ≡ missing_by room from → Sends v w chunked h k taken answer
sends_missing v w chunked h k taken room from answer counts told open_is puts same =
    subst (Sends v w chunked h k taken) (sym same) (record { counts = counts; says = says_missing v w chunked taken room from told open_is puts })

pub sends_end : (v w x : WireView) (chunked : Bool) (h k : KeptView) (taken : Taken) (room : Bool) (cause : EndCause) → Counts h k taken.pieces → taken.ended ≡ Some cause
    → PutsAs v w (framed chunked taken.pieces) room → PutsNext w x (last_chunk chunked (Some cause)) room true → Sends v x chunked h k taken (given.End cause)
sends_end v w x chunked h k taken room cause counts told puts last =
    record { counts = counts; says = (next_by v w x (framed chunked taken.pieces) (last_chunk chunked (Some cause)) room true puts last, told) }

pub sends_part : (v w x : WireView) (chunked : Bool) (h k : KeptView) (taken : Taken) (room : Bool) (cause : EndCause) → Counts h k taken.pieces → taken.ended ≡ Some cause
    → PutsAs v w (framed chunked taken.pieces) room → PutsNext w x (last_chunk chunked (Some cause)) room false → Sends v x chunked h k taken (given.Unput (Some cause))
sends_part v w x chunked h k taken room cause counts told puts last =
    record { counts = counts; says = (next_by v w x (framed chunked taken.pieces) (last_chunk chunked (Some cause)) room false puts last, told) }
