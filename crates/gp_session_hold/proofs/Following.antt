-- What a client is sent of a hold that a chain covers.
use Rattle.std.proofs.Common.{◌≡◌, ℕ, Bool, List, [], ◌∷◌, ◌++◌, map, refl, sym, ap, ◌∙◌, subst, append_assoc, append-nil, slice_get, Option, Some, None, option_map}
use Rattle.std.specs.Option.{option_map_or}
use Rattle.std.specs.List.{flat_map}
use Rattle.std.proofs.lemmas.Grind.{flat_map-append}
use mathlib.Core.List.{IsPrefix}
use Rattle.gp_plain.specs.Chain.{Chain, Covers, FollowsLog}
use Rattle.gp_plain.specs.Ends.{HasToldEnd}
use Rattle.gp_plain.specs.History.{held}
use Rattle.gp_plain.specs.Holds.{Held, log, pending, position, ended}
use Rattle.gp_plain.specs.Others.{Share, share_of}
use Rattle.gp_plain.specs.Pieces.{piece_bytes, text}
use Rattle.gp_plain.specs.declared.reply.EndCause.{EndCause}
use Rattle.gp_plain.specs.declared.reply.Piece.{Piece}
use Rattle.gp_plain.proofs.ChainLaw.{chain_law_holds}
use Rattle.gp_plain.proofs.EndLaws.{told_law_holds}
use Rattle.gp_answer.specs.Frames.{frame, framed_by, last_chunk}
use Rattle.gp_answer.proofs.Frames.{frame_law_holds}
use Rattle.gp_session.specs.Seats.{SeatView}
use Rattle.gp_session.specs.Wires.{WireView, Sent, BytesRow, at_most, exactly}
use Rattle.gp_outside.specs.Counts.{grown}
use Rattle.gp_session_hold.specs.Rows.{KeptView, share_of_hold, taken_at, told_at, stream_text}
use Rattle.gp_session_hold.specs.Streams.{IsStopped}
use Rattle.gp_session_hold.specs.Headline.{FollowsSent, FollowsWhole, HeadlineLaw, WholeLaw, StreamLaw}

abbrev joined : List (List ℕ) → List ℕ
joined parts = flat_map (λ (part : List ℕ). part) parts

joined_map : (pieces : List Piece) → joined (map piece_bytes pieces) ≡ text pieces
joined_map [] = refl
joined_map (p ∷ ps) = ap (λ xs. piece_bytes p ++ xs) (joined_map ps)

prefix_more : (xs ys zs : List ℕ) → IsPrefix xs ys → IsPrefix ys zs → IsPrefix xs zs
prefix_more xs ys zs a b = (a.0 ++ b.0, sym (append_assoc xs a.0 b.0) ∙ ap (λ es. es ++ b.0) a.1 ∙ b.1)

-- the parts that a text has been cut into, and what may follow of it
record CutSo (chunked : Bool) (head : List ℕ) (taken : List Piece) (told : Option EndCause) (all : List ℕ) : Type 0 where
  parts : List (List ℕ)
  whole : joined parts ≡ all
  begins : IsPrefix (stream_text chunked head taken told) (frame chunked head parts told)

cut_by : (chunked : Bool) (head : List ℕ) (h : Held) (told : Option EndCause) → ((cause : EndCause) → told ≡ Some cause → pending h ≡ []) → CutSo chunked head h.taken told (text (log h))
cut_by chunked head h None ends = record {
  parts = map piece_bytes h.taken ++ text (pending h) ∷ [];
  whole = flat_map-append (λ (part : List ℕ). part) (map piece_bytes h.taken) (text (pending h) ∷ [])
      ∙ ap (λ xs. xs ++ joined (text (pending h) ∷ [])) (joined_map h.taken)
      ∙ ap (λ xs. text h.taken ++ xs) (append-nil (text (pending h)))
      ∙ sym (flat_map-append piece_bytes h.taken (pending h));
  begins = (flat_map (framed_by chunked) (text (pending h) ∷ []) ++ last_chunk chunked None, sym (frame_law_holds chunked head (map piece_bytes h.taken) (text (pending h) ∷ []) None));
}
cut_by chunked head h (Some cause) ends = record {
  parts = map piece_bytes h.taken;
  whole = joined_map h.taken ∙ ap text (sym (ap (λ ps. h.taken ++ ps) (ends cause refl) ∙ append-nil h.taken));
  begins = ([], append-nil (frame chunked head (map piece_bytes h.taken) (Some cause)));
}

taken_is : (s : SeatView) (number : ℕ) (h : Held) → slice_get (held s.pass.seen) number ≡ Some h → taken_at s number ≡ h.taken
taken_is s number h there = ap (λ (o : Option Held). option_map_or (λ (share : Share). share.taken) (option_map share_of o) []) there

told_is : (s : SeatView) (number : ℕ) (h : Held) → slice_get (held s.pass.seen) number ≡ Some h → told_at s number ≡ h.told
told_is s number h there = ap (λ (o : Option Held). option_map_or (λ (share : Share). share.told) (option_map share_of o) None) there

follows : (w : WireView) (s : SeatView) (number : ℕ) (chunked : Bool) (head : List ℕ) → BytesRow w (at_most (stream_text chunked head (taken_at s number) (told_at s number)))
    → (chain : Chain) (h : Held) → slice_get (held s.pass.seen) number ≡ Some h → (c : Covers chain s.pass.seen number h) → FollowsSent w chunked head (told_at s number) chain c.opening c.start
follows w s number chunked head b chain h there c =
    let whole : FollowsLog chain c.opening c.start (log h) (position h) (ended h) = chain_law_holds s.pass.seen chain number h there c in
    let ends : HasToldEnd h = told_law_holds s.pass.seen number h there in
    let told : told_at s number ≡ h.told = told_is s number h there in
    let cut : CutSo chunked head h.taken (told_at s number) (text (log h)) = cut_by chunked head h (told_at s number) (λ cause e. (ends.told cause (sym told ∙ e)).0) in
    let all : stream_text chunked head (taken_at s number) (told_at s number) ≡ stream_text chunked head h.taken (told_at s number) = ap (λ ps. stream_text chunked head ps (told_at s number)) (taken_is s number h there) in
    let sent : Sent w b.0 = b.2 in
    record {
      sent = sent.sent;
      since = sent.since;
      parts = cut.parts;
      begins = prefix_more sent.sent b.0 (frame chunked head cut.parts (told_at s number)) (w.rest, sent.whole)
          (prefix_more b.0 (stream_text chunked head h.taken (told_at s number)) (frame chunked head cut.parts (told_at s number)) (subst (IsPrefix b.0) all b.1) cut.begins);
      between = whole.between;
      at = whole.at;
      place = whole.place;
      text_is = cut.whole ∙ whole.bytes;
      closes_last = whole.closes_last;
    }

pub headline_law_holds : HeadlineLaw
headline_law_holds = follows

whole_by : (w : WireView) (s : SeatView) (number : ℕ) (chunked : Bool) (head : List ℕ) (cause : EndCause) → BytesRow w (exactly (stream_text chunked head (taken_at s number) (told_at s number)))
    → w.rest ≡ [] → told_at s number ≡ Some cause → (chain : Chain) (h : Held) → slice_get (held s.pass.seen) number ≡ Some h → (c : Covers chain s.pass.seen number h) → FollowsWhole w chunked head cause chain c.opening c.start
whole_by w s number chunked head cause row empty told chain h there c =
    let whole : FollowsLog chain c.opening c.start (log h) (position h) (ended h) = chain_law_holds s.pass.seen chain number h there c in
    let end : HasToldEnd h = told_law_holds s.pass.seen number h there in
    let none : pending h ≡ [] = (end.told cause (sym (told_is s number h there) ∙ told)).0 in
    let all : stream_text chunked head (taken_at s number) (told_at s number) ≡ frame chunked head (map piece_bytes h.taken) (Some cause) =
    ap (λ ps. stream_text chunked head ps (told_at s number)) (taken_is s number h there) ∙ ap (λ (o : Option EndCause). stream_text chunked head h.taken o) told in
    let sent : row.sent ≡ frame chunked head (map piece_bytes h.taken) (Some cause) = sym (append-nil row.sent) ∙ ap (λ xs. row.sent ++ xs) (sym empty) ∙ row.whole ∙ all in
    record {
      parts = map piece_bytes h.taken;
      since = row.since ∙ ap (grown w.start.sent) sent;
      between = whole.between;
      at = whole.at;
      place = whole.place;
      text_is = joined_map h.taken ∙ ap text (sym (ap (λ ps. h.taken ++ ps) none ∙ append-nil h.taken)) ∙ whole.bytes;
    }

pub whole_law_holds : WholeLaw
whole_law_holds = whole_by

-- the bytes of streams

taken_of_share : (s : SeatView) (number : ℕ) (share : Share) → share_of_hold s number ≡ Some share → taken_at s number ≡ share.taken
taken_of_share s number share there = ap (λ (o : Option Share). option_map_or (λ (x : Share). x.taken) o []) there

told_of_share : (s : SeatView) (number : ℕ) (share : Share) → share_of_hold s number ≡ Some share → told_at s number ≡ share.told
told_of_share s number share there = ap (λ (o : Option Share). option_map_or (λ (x : Share). x.told) o None) there

text_of : (chunked : Bool) (head : List ℕ) (s : SeatView) (number : ℕ) (share : Share) (told : Option EndCause) → share_of_hold s number ≡ Some share → share.told ≡ told
    → stream_text chunked head share.taken told ≡ stream_text chunked head (taken_at s number) (told_at s number)
text_of chunked head s number share told there is =
    ap (λ ps. stream_text chunked head ps told) (sym (taken_of_share s number share there)) ∙ ap (λ (o : Option EndCause). stream_text chunked head (taken_at s number) o) (sym (told_of_share s number share there ∙ is))

stopped_there : (s : SeatView) (hold : KeptView) (told : Option EndCause) (share : Share) → IsStopped s hold told share → (share_of_hold s hold.number ≡ Some share) × (share.told ≡ told)
stopped_there s hold None share k = (k.there, k.untold)
stopped_there s hold (Some cause) share k = (k.there, k.told_is)

pub stream_law_holds : StreamLaw
stream_law_holds = record {
  streams = λ v w s x. subst (Sent w) (text_of v.chunked v.head s v.hold.number x.share None x.is.there x.is.untold) x.bytes;
  finished = λ v w s cause x. (
    subst (Sent w) (text_of v.chunked v.head s v.hold.number x.share (Some cause) x.is.there x.is.told_is) x.bytes,
    told_of_share s v.hold.number x.share x.is.there ∙ x.is.told_is,
  );
  stopped = λ v w s told x.
      let at = stopped_there s v.hold told x.share x.is in
      (x.part, subst (IsPrefix x.part) (text_of v.chunked v.head s v.hold.number x.share told at.0 at.1) x.is_part, x.bytes);
}
