-- A turn of a stream: what waits is sent, and then one Take.
use Rattle.std.proofs.Common.{◌≡◌, ◌≢◌, ℕ, ◌+◌, Bool, true, false, List, [], ◌++◌, map, refl, sym, ap, ◌∙◌, subst, append_assoc, append-nil, Option, Some, None, option_map, slice_get}
use Rattle.std.specs.Option.{option_map_or, option_to_list}
use Rattle.std.proofs.lemmas.List.{map-append}
use mathlib.Core.List.{IsPrefix}
use Rattle.gp_outside.specs.Links.{LinkTells}
use Rattle.gp_outbox.specs.declared.outbox.Flushed.{Flushed}
use Rattle.gp_outbox.specs.declared.outbox.Flushed.TheVariants as all
use Rattle.gp_plain.specs.History.{held}
use Rattle.gp_plain.specs.Kinds.{TakenFits}
use Rattle.gp_plain.specs.Others.{Share}
use Rattle.gp_plain.specs.Pieces.{piece_bytes}
use Rattle.gp_plain.specs.declared.event.HoldSpec.{HoldSpec}
use Rattle.gp_plain.specs.declared.reply.EndCause.{EndCause}
use Rattle.gp_plain.specs.declared.reply.HoldReport.{HoldReport}
use Rattle.gp_plain.specs.declared.reply.Piece.{Piece}
use Rattle.gp_plain.specs.declared.reply.Taken.{Taken}
use Rattle.gp_answer.specs.Frames.{frame, last_chunk}
use Rattle.gp_answer.proofs.Frames.{frame_law_holds}
use Rattle.gp_hub.specs.Own.{HasTaken, Keeps, share_with}
use Rattle.gp_asking.specs.Asking.{AskingLaw, IsAsking}
use Rattle.gp_session.specs.Seats.{SeatView, MovedSeat, SeatRow, IsServed, IsWorn, Busied}
use Rattle.gp_session.specs.Wires.{WireView, Sent, Flushes}
use Rattle.gp_session.proofs.Moving.{moved_wire_again, moved_seat_same, sent_put, sent_flushed, moved_flushed, moved_put}
use Rattle.gp_session_hold.specs.Rows.{KeptView, IsKept, HoldsRow, kept, over, recovers_at, spec_at, stream_text}
use Rattle.gp_session_hold.specs.Puts.{framed, PutsBehind, PutsPart, Counts}
use Rattle.gp_session_hold.specs.Streams.{StreamView, Streams, Finished, Stopped, IsStopped, Goes, Delivers, Turns, Flushed as WasFlushed, answered_by}
use Rattle.gp_session_hold.specs.declared.sending.Given.TheVariants as given
use Rattle.gp_session_hold.specs.declared.stream.Streamed.TheVariants as streamed
use Rattle.gp_session_hold.specs.declared.stream.Turned.{Turned}
use Rattle.gp_session_hold.specs.declared.stream.Turned.TheVariants as took
use Rattle.gp_session_hold.proofs.Rowing.{kept_same, holds_same, entries_same, attaches_same, pages_same, kept_taken, over_taken, holds_taken, holds_told, entries_taken, attaches_taken, pages_taken}

pub keeps : (s : SeatView) (hold : KeptView) (share : Share) → IsKept s hold share → Keeps s.pass hold.number
keeps s hold share k = record { share = share; there = k.there; own = k.own; kept = k.kept }

-- what more was taken stands behind the text so far
text_more : (chunked : Bool) (head : List ℕ) (taken more : List Piece) (told : Option EndCause)
    → stream_text chunked head (taken ++ more) told ≡ stream_text chunked head taken None ++ (framed chunked more ++ last_chunk chunked told)
text_more chunked head taken more told = ap (λ parts. frame chunked head parts told) (map-append piece_bytes taken more) ∙ frame_law_holds chunked head (map piece_bytes taken) (map piece_bytes more) told

no_chunk : (chunked : Bool) → last_chunk chunked None ≡ []
no_chunk true = refl
no_chunk false = refl

-- a stream that has ended stays so while what waits is sent
pub finished_flushed : (v : StreamView) (w x : WireView) (s : SeatView) (cause : EndCause) (answer : Flushed) → Flushes w x answer → Finished v w s cause → Finished v x s cause
finished_flushed v w x s cause answer f e = record {
  share = e.share;
  is = e.is;
  cause_is = e.cause_is;
  bytes = sent_flushed w x (stream_text v.chunked v.head e.share.taken (Some cause)) answer e.bytes f;
}

-- a flush
module _ (v : StreamView) (w y : WireView) (s : SeatView) (now : ℕ) (streams : Streams v w s) where
  flushed_goes : (answer : Flushed) → Flushes w y answer → Goes v v w y s s
  flushed_goes answer f = record {
    number = refl;
    chunked = refl;
    head = refl;
    wire = moved_flushed w y answer f;
    received = f.passed.received;
    ends = f.passed.ends;
    seat = moved_seat_same s;
    row = λ row. row;
    entries = λ paged row. row;
    attaches = λ specs refused row. row;
    pages = λ pages row. row;
    spec = refl;
  }

  flushed_streams : (answer : Flushed) → Flushes w y answer → Streams v y s
  flushed_streams answer f = record {
    share = streams.share;
    is = streams.is;
    bytes = sent_flushed w y (stream_text v.chunked v.head streams.share.taken None) answer streams.bytes f;
  }

  pub flushed : Flushes w y all.Empty → WasFlushed v w y s
  flushed f = record {
    wire = moved_flushed w y all.Empty f;
    received = f.passed.received;
    ends = f.passed.ends;
    sound = f.cause.1;
    empty = f.cause.0;
    streams = flushed_streams all.Empty f;
  }

  pub unsent : Flushes w y all.NotReady → Delivers v v w y s s now streamed.Unsent
  unsent f = record {
    goes = flushed_goes all.NotReady f;
    holds = λ reports row. row;
    serves = λ free. free;
    sound = f.cause.2;
    misses = refl;
    asks = λ asking. asking;
    says = (flushed_streams all.NotReady f, f.cause.0, f.cause.1);
  }

  pub gone : Flushes w y all.Failed → Delivers v v w y s s now streamed.Gone
  gone f = record {
    goes = flushed_goes all.Failed f;
    holds = λ reports row. row;
    serves = λ free. free;
    sound = f.cause.1;
    misses = refl;
    asks = tt;
    says = flushed_streams all.Failed f;
  }

module _ (v : StreamView) (w x : WireView) (s : SeatView) (now : ℕ) (f : WasFlushed v w x s) where
  -- a Take that wasn't served
  module _ (a : SeatView) (moved : MovedSeat s a) (row : SeatRow s → SeatRow a) (seen : a.pass.seen ≡ s.pass.seen) where
    goes_unserved : Goes v v w x s a
    goes_unserved = record {
      number = refl;
      chunked = refl;
      head = refl;
      wire = f.wire;
      received = f.received;
      ends = f.ends;
      seat = moved;
      row = row;
      entries = entries_same s a moved.same.number seen;
      attaches = attaches_same s a moved.same.number seen;
      pages = pages_same s a moved.same.number seen;
      spec = ap (λ es. spec_at (record s { pass = record s.pass { seen = es } }) v.hold.number) seen;
    }

    holds_unserved : (reports : List HoldReport) → HoldsRow s reports (kept v.hold) → HoldsRow a reports (kept v.hold)
    holds_unserved reports r = holds_same s a moved.same.number seen reports (kept v.hold) r

    streams_unserved : Streams v x a
    streams_unserved = record {
      share = f.streams.share;
      is = kept_same s a moved.same.number seen v.hold f.streams.share f.streams.is;
      bytes = f.streams.bytes;
    }

    misses_none : recovers_at a v.hold.number ≡ recovers_at s v.hold.number
    misses_none = ap (λ es. recovers_at (record s { pass = record s.pass { seen = es } }) v.hold.number) seen

    asks_on : IsAsking s.pass v.hold.number → IsAsking a.pass v.hold.number
    asks_on asking h there = asking h (sym (ap (λ es. slice_get (held es) v.hold.number) seen) ∙ there)

    pub busy : Busied s a → IsServed a → Delivers v v w x s a now streamed.Busy
    busy b free = record { goes = goes_unserved; holds = holds_unserved; serves = λ _. free; sound = f.sound; misses = misses_none; asks = asks_on; says = (streams_unserved, b) }

    pub worn : IsWorn a → Delivers v v w x s a now streamed.Worn
    worn b = record { goes = goes_unserved; holds = holds_unserved; serves = b; sound = f.sound; misses = misses_none; asks = tt; says = (streams_unserved, b) }

    pub wanting : IsServed a → Delivers v v w x s a now streamed.NoMemory
    wanting free = record { goes = goes_unserved; holds = holds_unserved; serves = λ _. free; sound = f.sound; misses = misses_none; asks = tt; says = streams_unserved }

  -- one that was served
  module _ (law : AskingLaw) (u : StreamView) (y : WireView) (a : SeatView) (chunked : u.chunked ≡ v.chunked) (head : u.head ≡ v.head) (moved : MovedSeat s a) (row : SeatRow s → SeatRow a) (taken : Taken)
      (took : HasTaken s.pass a.pass v.hold.number now taken) (counts : Counts v.hold u.hold taken.pieces) where
    fits : TakenFits f.streams.share.spec taken
    fits = took.fits f.streams.share f.streams.is.there

    -- puts change nothing of the link
    goes_served : (bytes : List ℕ) → PutsBehind x y bytes → Goes v u w y s a
    goes_served bytes p = record {
      number = counts.number;
      chunked = chunked;
      head = head;
      wire = moved_wire_again w x y f.wire (moved_put x y bytes p.start p.link p.rest);
      received = ap (λ (l : LinkTells). l.received) p.link ∙ f.received;
      ends = ap (λ (l : LinkTells). l.ends) p.link ∙ f.ends;
      seat = moved;
      row = row;
      entries = entries_taken s a moved.same.number v.hold u.hold now taken took f.streams.share f.streams.is;
      attaches = attaches_taken s a moved.same.number v.hold u.hold now taken took;
      pages = pages_taken s a moved.same.number v.hold u.hold now taken took;
      spec = ap (option_map (λ (share : Share). share.spec)) (took.share f.streams.share f.streams.is.there) ∙ ap (option_map (λ (share : Share). share.spec)) (sym f.streams.is.there);
    }

    sound_now : (bytes : List ℕ) → PutsBehind x y bytes → y.link.faults ≡ w.link.faults
    sound_now bytes p = ap (λ (l : LinkTells). l.faults) p.link ∙ f.sound

    holds_open : taken.ended ≡ None → (reports : List HoldReport) → HoldsRow s reports (kept v.hold) → HoldsRow a reports (kept u.hold)
    holds_open open_is reports r = holds_taken s a moved.same.number v.hold u.hold now taken took reports counts open_is r

    holds_ended : (cause : EndCause) → taken.ended ≡ Some cause → (reports : List HoldReport) → HoldsRow s reports (kept v.hold) → HoldsRow a reports (over u.hold (Some cause))
    holds_ended cause told reports r = holds_told s a moved.same.number v.hold u.hold now taken took reports cause counts told r

    kept_now : taken.ended ≡ None → IsKept a u.hold (share_with f.streams.share taken)
    kept_now open_is = kept_taken s a moved.same.number v.hold u.hold now taken took f.streams.share counts open_is f.streams.is

    -- the ids behind which items are missing
    misses_at : recovers_at a v.hold.number ≡ recovers_at s v.hold.number ++ option_to_list taken.recover
    misses_at =
        ap (λ (o : Option Share). option_map_or (λ (share : Share). share.recovers) o []) (took.share f.streams.share f.streams.is.there)
        ∙ ap (λ (o : Option Share). option_map_or (λ (share : Share). share.recovers) o [] ++ option_to_list taken.recover) (sym f.streams.is.there)

    misses_by : (told : Option (List ℕ)) → taken.recover ≡ told → recovers_at a v.hold.number ≡ recovers_at s v.hold.number ++ option_to_list told
    misses_by told is = misses_at ∙ ap (λ (o : Option (List ℕ)). recovers_at s v.hold.number ++ option_to_list o) is

    keeps_now : Keeps s.pass v.hold.number
    keeps_now = keeps s v.hold f.streams.share f.streams.is

    asks_on_taken : taken.ended ≡ None → IsAsking s.pass v.hold.number → IsAsking a.pass v.hold.number
    asks_on_taken open_is asking = (law.stays s.pass a.pass v.hold.number now taken keeps_now asking took open_is).1

    -- the text of the stream behind it
    text_now : (told : Option EndCause) → stream_text v.chunked v.head f.streams.share.taken None ++ (framed v.chunked taken.pieces ++ last_chunk v.chunked told) ≡ stream_text u.chunked u.head (f.streams.share.taken ++ taken.pieces) told
    text_now told =
        sym (text_more v.chunked v.head f.streams.share.taken taken.pieces told)
        ∙ ap (λ (b : Bool). stream_text b v.head (f.streams.share.taken ++ taken.pieces) told) (sym chunked)
        ∙ ap (λ (h : List ℕ). stream_text u.chunked h (f.streams.share.taken ++ taken.pieces) told) (sym head)

    sent_now : (bytes : List ℕ) → PutsBehind x y bytes → Sent y (stream_text v.chunked v.head f.streams.share.taken None ++ bytes)
    sent_now bytes p = sent_put x y (stream_text v.chunked v.head f.streams.share.taken None) bytes f.streams.bytes p.start p.link p.rest

    sent_all : (told : Option EndCause) → PutsBehind x y (framed v.chunked taken.pieces ++ last_chunk v.chunked told) → Sent y (stream_text u.chunked u.head (f.streams.share.taken ++ taken.pieces) told)
    sent_all told p = subst (Sent y) (text_now told) (sent_now (framed v.chunked taken.pieces ++ last_chunk v.chunked told) p)

    open_bytes : PutsBehind x y (framed v.chunked taken.pieces) → PutsBehind x y (framed v.chunked taken.pieces ++ last_chunk v.chunked None)
    open_bytes p = subst (PutsBehind x y) (sym (ap (λ xs. framed v.chunked taken.pieces ++ xs) (no_chunk v.chunked) ∙ append-nil (framed v.chunked taken.pieces))) p

    streams_now : PutsBehind x y (framed v.chunked taken.pieces) → taken.ended ≡ None → Streams u y a
    streams_now p open_is = record {
      share = share_with f.streams.share taken;
      is = kept_now open_is;
      bytes = sent_all None (open_bytes p);
    }

    numbered : HasTaken s.pass a.pass u.hold.number now taken
    numbered = subst (λ (n : ℕ). HasTaken s.pass a.pass n now taken) (sym counts.number) took

    pub gave : PutsBehind x y (framed v.chunked taken.pieces) → taken.pieces ≢ [] → taken.recover ≡ None → taken.ended ≡ None → IsServed a → Delivers v u w y s a now streamed.Gave
    gave p some none open_is free = record {
      goes = goes_served (framed v.chunked taken.pieces) p;
      sound = sound_now (framed v.chunked taken.pieces) p;
      holds = holds_open open_is;
      serves = λ _. free;
      misses = misses_by None none ∙ append-nil (recovers_at s v.hold.number);
      asks = asks_on_taken open_is;
      says = (streams_now p open_is, record { taken = taken; took = numbered; some = some; recover = none; open_is = open_is });
    }

    none_again : (from : List ℕ) → taken.recover ≡ Some from → taken.recover ≡ None → ⊥
    none_again from told none = let e : Some from ≡ None = sym told ∙ none in (cc)

    pub missing : (from : List ℕ) → PutsBehind x y (framed v.chunked taken.pieces) → taken.recover ≡ Some from → taken.ended ≡ None → IsServed a → Delivers v u w y s a now (streamed.Missing from)
    missing from p told open_is free = record {
      goes = goes_served (framed v.chunked taken.pieces) p;
      sound = sound_now (framed v.chunked taken.pieces) p;
      holds = holds_open open_is;
      serves = λ _. free;
      misses = misses_by (Some from) told;
      asks = (
        λ asking. none_again from told (law.stays s.pass a.pass v.hold.number now taken keeps_now asking took open_is).0,
        law.begins s.pass a.pass v.hold.number now taken from keeps_now took told open_is,
      );
      says = (streams_now p open_is, record { taken = taken; took = numbered; recover = told; open_is = open_is });
    }

    none_put : y ≡ x → taken.pieces ≡ [] → PutsBehind x y (framed v.chunked taken.pieces)
    none_put same none = record {
      start = ap (λ (z : WireView). z.start) same;
      link = ap (λ (z : WireView). z.link) same;
      rest = ap (λ (z : WireView). z.rest) same ∙ sym (append-nil x.rest) ∙ ap (λ (ps : List Piece). x.rest ++ framed v.chunked ps) (sym none);
    }

    pub idle : y ≡ x → taken.pieces ≡ [] → taken.recover ≡ None → taken.ended ≡ None → IsServed a → Delivers v u w y s a now streamed.Idle
    idle same none nothing open_is free =
        let p : PutsBehind x y (framed v.chunked taken.pieces) = none_put same none in
        record {
          goes = goes_served (framed v.chunked taken.pieces) p;
          sound = sound_now (framed v.chunked taken.pieces) p;
          holds = holds_open open_is;
          serves = λ _. free;
          misses = misses_by None nothing ∙ append-nil (recovers_at s v.hold.number);
          asks = asks_on_taken open_is;
          says = (
            streams_now p open_is,
            ap (λ (z : WireView). z.rest) same ∙ f.empty,
            record { before = s; moved = moved_seat_same s; taken = taken; took = numbered; pieces = none; recover = nothing; open_is = open_is },
          );
        }

    pub ended : (cause : EndCause) → PutsBehind x y (framed v.chunked taken.pieces ++ last_chunk v.chunked (Some cause)) → taken.ended ≡ Some cause → IsServed a → Delivers v u w y s a now (streamed.Ended cause)
    ended cause p told free = record {
      goes = goes_served (framed v.chunked taken.pieces ++ last_chunk v.chunked (Some cause)) p;
      sound = sound_now (framed v.chunked taken.pieces ++ last_chunk v.chunked (Some cause)) p;
      holds = holds_ended cause told;
      serves = λ _. free;
      misses = (taken.recover, misses_at);
      asks = tt;
      says = record {
        share = share_with f.streams.share taken;
        is = over_taken s a moved.same.number v.hold u.hold now taken took f.streams.share cause counts told f.streams.is;
        cause_is = fits.ends cause told;
        bytes = sent_all (Some cause) p;
      };
    }

    stopped_by : (told : Option EndCause) → taken.ended ≡ told → IsStopped a u.hold told (share_with f.streams.share taken)
    stopped_by None is = kept_now is
    stopped_by (Some cause) is = over_taken s a moved.same.number v.hold u.hold now taken took f.streams.share cause counts is f.streams.is

    longer : (xs part ys : List ℕ) → IsPrefix part ys → IsPrefix (xs ++ part) (xs ++ ys)
    longer xs part ys p = (p.0, append_assoc xs part p.0 ∙ ap (λ zs. xs ++ zs) p.1)

    stopped : (told : Option EndCause) → PutsPart x y (framed v.chunked taken.pieces ++ last_chunk v.chunked told) → taken.ended ≡ told → Stopped u y a told
    stopped told p is = record {
      share = share_with f.streams.share taken;
      is = stopped_by told is;
      part = stream_text v.chunked v.head f.streams.share.taken None ++ p.part;
      is_part = subst (IsPrefix (stream_text v.chunked v.head f.streams.share.taken None ++ p.part)) (text_now told)
          (longer (stream_text v.chunked v.head f.streams.share.taken None) p.part (framed v.chunked taken.pieces ++ last_chunk v.chunked told) p.is_part);
      bytes = sent_now p.part p.puts;
    }

    pub unput : (told : Option EndCause) → PutsPart x y (framed v.chunked taken.pieces ++ last_chunk v.chunked told) → taken.ended ≡ told → IsServed a → Delivers v u w y s a now (streamed.Unput told)
    unput None p is free = record {
      goes = goes_served p.part p.puts;
      sound = sound_now p.part p.puts;
      holds = holds_open is;
      serves = λ _. free;
      misses = (taken.recover, misses_at);
      asks = tt;
      says = stopped None p is;
    }
    unput (Some cause) p is free = record {
      goes = goes_served p.part p.puts;
      sound = sound_now p.part p.puts;
      holds = holds_ended cause is;
      serves = λ _. free;
      misses = (taken.recover, misses_at);
      asks = tt;
      says = stopped (Some cause) p is;
    }

  -- what a Take came to
  pub turned : AskingLaw → (u : StreamView) (y : WireView) (a : SeatView) (answer : Turned) → Turns v u x y s a now answer → Delivers v u w y s a now (answered_by answer)
  turned law u y a (took.Gave given.Pieces) r = gave law u y a r.chunked r.head r.seat r.row r.says.taken r.says.took r.says.sends.counts r.says.sends.says.0 r.says.sends.says.1 r.says.sends.says.2 r.says.sends.says.3 r.says.free
  turned law u y a (took.Gave given.Nothing) r = idle law u y a r.chunked r.head r.seat r.row r.says.taken r.says.took r.says.sends.counts r.says.sends.says.0 r.says.sends.says.1 r.says.sends.says.2 r.says.sends.says.3 r.says.free
  turned law u y a (took.Gave (given.Missing from)) r = missing law u y a r.chunked r.head r.seat r.row r.says.taken r.says.took r.says.sends.counts from r.says.sends.says.0 r.says.sends.says.1 r.says.sends.says.2 r.says.free
  turned law u y a (took.Gave (given.End cause)) r = ended law u y a r.chunked r.head r.seat r.row r.says.taken r.says.took r.says.sends.counts cause r.says.sends.says.0 r.says.sends.says.1 r.says.free
  turned law u y a (took.Gave (given.Unput told)) r = unput law u y a r.chunked r.head r.seat r.row r.says.taken r.says.took r.says.sends.counts told r.says.sends.says.0 r.says.sends.says.1 r.says.free
  turned law u y a took.Busy r =
      subst (λ (l : StreamView). Delivers v l w y s a now streamed.Busy) (sym r.says.1) (subst (λ (b : WireView). Delivers v v w b s a now streamed.Busy) (sym r.says.2) (busy a r.seat r.row r.says.0.seen r.says.0.busy r.says.0.free))
  turned law u y a took.Worn r =
      subst (λ (l : StreamView). Delivers v l w y s a now streamed.Worn) (sym r.says.1) (subst (λ (b : WireView). Delivers v v w b s a now streamed.Worn) (sym r.says.2) (worn a r.seat r.row r.says.0.seen r.says.0.worn))
  turned law u y a took.NoMemory r =
      subst (λ (l : StreamView). Delivers v l w y s a now streamed.NoMemory) (sym r.says.1) (subst (λ (b : WireView). Delivers v v w b s a now streamed.NoMemory) (sym r.says.2) (wanting a r.seat r.row r.says.0.seen r.says.0.free))
