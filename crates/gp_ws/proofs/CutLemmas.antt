-- To read, to be fed more and to read again is to be fed first.
use Rattle.std.proofs.Common.{◌≡◌, ℕ, zero, suc, ◌<◌, ◌≤◌, Bool, true, false, List, [], ◌∷◌, ◌++◌, length, drop, Option, Some, None, Ok, Err, refl, sym, ap, ◌∙◌, subst, arith, append_assoc, length-append, length-drop}
use Rattle.std.specs.Prelude.{if◌then◌else◌}
use Rattle.std.proofs.lemmas.List.{drop-append-le}
use Rattle.websocket.specs.declared.protocol.frame.codec.FrameStatus.TheVariants.{Partial, Complete}
use Rattle.websocket.specs.declared.protocol.incomplete.MessageType.{MessageType}
use Rattle.websocket.specs.FrameHeader.{decode_header}
use Rattle.websocket.specs.Frame.{decode_frame}
use Rattle.websocket.specs.Content.{Content}
use Rattle.websocket.specs.Connection.{read_step}
use Rattle.websocket.proofs.FrameLemmas.{Waits}
use Rattle.websocket.proofs.StreamLemmas.{TookFrame_from_read, read_step-append}
use Rattle.gp_plain.specs.declared.item.Message.{Message}
use Rattle.gp_ws.specs.Unread.{Unread}
use Rattle.gp_ws.specs.declared.frame.Framed.{Framed}
use Rattle.gp_ws.specs.declared.frame.Framed.TheVariants as Frame
use Rattle.gp_ws.specs.declared.input.WsNext.TheVariants as Next
use Rattle.gp_ws.specs.declared.input.WsReading.{WsReading}
use Rattle.gp_ws.specs.declared.input.WsReading.TheVariants.{Open, Ended, Bad, NoMemory}
use Rattle.gp_ws.specs.Ends.{data_end}
use Rattle.gp_ws.specs.Frames.{Outcome, Found, answer_of, end_for, end_after, found_by, first_message, framed, framed_by, is_close, is_control, left_by, next_of, read_of, reading_by}
use Rattle.gp_ws.specs.Cuts.{fed, answered}
use Rattle.gp_ws.proofs.FoundLemmas.{none_of}

-- more bytes behind those that wait
abbrev more_behind : Unread → List ℕ → Unread
more_behind unread more = record unread { waiting = unread.waiting ++ more }

pub again : (reading : WsReading) (some more : List ℕ) → fed (fed reading some) more ≡ fed reading (some ++ more)
again (Open unread) some more = ap (λ (bytes : List ℕ). Open (record unread { waiting = bytes })) (append_assoc unread.waiting some more)
again Ended some more = refl
again Bad some more = refl
again NoMemory some more = refl

-- ---- one frame

nothing_waits : (fragments : Option (MessageType × List ℕ)) → read_of (record { fragments = fragments; waiting = [] }) ≡ Ok (Partial 1)
unfolding read_step decode_frame decode_header
nothing_waits fragments = refl

read_more : (fragments : Option (MessageType × List ℕ)) (waiting more : List ℕ) → ¬ (Waits (read_of (record { fragments = fragments; waiting = waiting })))
    → read_of (record { fragments = fragments; waiting = waiting ++ more }) ≡ read_of (record { fragments = fragments; waiting = waiting })
read_more fragments [] more done = absurd (done (1, nothing_waits fragments))
read_more fragments (b ∷ bs) more done = read_step-append (end_for (record { fragments = fragments; waiting = b ∷ bs })) (b ∷ bs) more done

control_more : (waiting more : List ℕ) → 0 < length waiting → is_control (waiting ++ more) ≡ is_control waiting
control_more [] more some = absurd (omega arith)
control_more (b ∷ bs) more some = refl

abbrev pub left_with : Option (MessageType × List ℕ) → Bool → Outcome → List ℕ → Unread
left_with fragments control o bytes = record {
  fragments = if control then fragments else (end_after (data_end fragments) o).fragments;
  waiting = bytes;
}

left_more : (now : Unread) (more : List ℕ) (count : ℕ) → 0 < length now.waiting → count ≤ length now.waiting → read_of (more_behind now more) ≡ read_of now
    → left_by (more_behind now more) count ≡ more_behind (left_by now count) more
left_more now more count some within read =
    ap (λ (control : Bool). left_with now.fragments control (read_of (more_behind now more)) (drop count (now.waiting ++ more))) (control_more now.waiting more some)
    ∙ ap (λ (o : Outcome). left_with now.fragments (is_control now.waiting) o (drop count (now.waiting ++ more))) read
    ∙ ap (left_with now.fragments (is_control now.waiting) (read_of now)) (drop-append-le count now.waiting more within)

-- ---- what a frame takes

record Took (now : Unread) (count : ℕ) : Type 0 where
  some : 0 < count
  within : count ≤ length now.waiting

part_count : (now : Unread) (content : Option Content) (n count : ℕ) → framed_by n content ≡ Frame.Part count → 0 < n → n ≤ length now.waiting → Took now count
part_count now None n count part some within =
    let same : n ≡ count = cc part in
    record { some = subst (λ (k : ℕ). 0 < k) same some; within = subst (λ (k : ℕ). k ≤ length now.waiting) same within }
part_count now (Some content) n count part some within = absurd (cc part)

whole_count : (now : Unread) (content : Option Content) (n count : ℕ) (message : Message) → framed_by n content ≡ Frame.Whole count message → 0 < n → n ≤ length now.waiting → Took now count
whole_count now None n count message whole some within = absurd (cc whole)
whole_count now (Some content) n count message whole some within =
    let same : n ≡ count = cc whole in
    record { some = subst (λ (k : ℕ). 0 < k) same some; within = subst (λ (k : ℕ). k ≤ length now.waiting) same within }

took_part : (now : Unread) (o : Outcome) (count : ℕ) → read_of now ≡ o → framed o ≡ Frame.Part count → Took now count
took_part now (Err fault) count is part = absurd (cc part)
took_part now (Ok (Partial needed)) count is part = absurd (cc part)
took_part now (Ok (Complete p)) count is part =
    let took = TookFrame_from_read (end_for now) now.waiting p is in
    part_count now p.1.message p.0 count part took.not_empty took.inside

took_whole : (now : Unread) (o : Outcome) (count : ℕ) (message : Message) → read_of now ≡ o → framed o ≡ Frame.Whole count message → Took now count
took_whole now (Err fault) count message is whole = absurd (cc whole)
took_whole now (Ok (Partial needed)) count message is whole = absurd (cc whole)
took_whole now (Ok (Complete p)) count message is whole =
    let took = TookFrame_from_read (end_for now) now.waiting p is in
    whole_count now p.1.message p.0 count message whole took.not_empty took.inside

not_waiting : (o : Outcome) (r : Framed) → framed o ≡ r → (r ≡ Frame.NotWhole → ⊥) → ¬ (Waits o)
not_waiting (Err fault) r is other waits = cc waits.1
not_waiting (Ok (Partial needed)) r is other waits = other (sym is)
not_waiting (Ok (Complete p)) r is other waits = cc waits.1

-- ---- at most so many frames

same_by : (f g : Unread → Found) (now : Unread) (r : Framed) → framed (read_of now) ≡ r → ((count : ℕ) → Took now count → f (left_by now count) ≡ g (left_by now count))
    → found_by f now r ≡ found_by g now r
same_by f g now (Frame.Part count) is same = same count (took_part now _ count refl is)
same_by f g now (Frame.Whole count message) is same = refl
same_by f g now Frame.NotWhole is same = refl
same_by f g now Frame.Bad is same = refl
same_by f g now Frame.NoMemory is same = refl

-- frames are at most as many as bytes
pub enough_frames : (n m : ℕ) (now : Unread) → length now.waiting ≤ n → length now.waiting ≤ m → first_message n now ≡ first_message m now
unfolding first_message
enough_frames zero m now less more = sym (none_of m now (omega arith))
enough_frames (suc n) zero now less more = none_of (suc n) now (omega arith)
enough_frames (suc n) (suc m) now less more =
    same_by (first_message n) (first_message m) now _ refl
    (λ count took. enough_frames n m (left_by now count) (omega (arith, length-drop count now.waiting, took.some, took.within)) (omega (arith, length-drop count now.waiting, took.some, took.within)))

-- ---- cuts

closing : (message : Message) (left : Unread) (more : List ℕ) (ended : Bool)
    → reading_by (if ended then Some Ended else None) (more_behind left more) ≡ fed (reading_by (if ended then Some Ended else None) left) more
closing message left more true = refl
closing message left more false = refl

-- more bytes behind a frame that was read
record Behind (now : Unread) (more : List ℕ) (r : Framed) : Type 0 where
  read : read_of (more_behind now more) ≡ read_of now
  left : (count : ℕ) → Took now count → left_by (more_behind now more) count ≡ more_behind (left_by now count) more

behind_of : (now : Unread) (more : List ℕ) (r : Framed) → framed (read_of now) ≡ r → (r ≡ Frame.NotWhole → ⊥) → Behind now more r
behind_of now more r is other =
    let read : read_of (more_behind now more) ≡ read_of now = read_more now.fragments now.waiting more (not_waiting (read_of now) r is other) in
    record { read = read; left = λ count took. left_more now more count (omega (arith, took.some, took.within)) took.within read }

cut_by : (most enough : ℕ) (now : Unread) (more : List ℕ) (r : Framed) → framed (read_of now) ≡ r → length now.waiting ≤ suc most → length (now.waiting ++ more) ≤ enough
    → ((count : ℕ) → Took now count → answer_of (first_message enough (more_behind (left_by now count) more)) ≡ answered (answer_of (first_message most (left_by now count))) more)
    → answer_of (found_by (first_message enough) (more_behind now more) (framed (read_of (more_behind now more)))) ≡ answered (answer_of (found_by (first_message most) now r)) more
unfolding first_message
cut_by most enough now more Frame.NotWhole is fits fits_all below =
    ap answer_of (enough_frames (suc enough) (length (now.waiting ++ more)) (more_behind now more) (omega (arith, fits_all)) (omega arith))
cut_by most enough now more (Frame.Part count) is fits fits_all below =
    let took = took_part now _ count refl is in
    let behind = behind_of now more (Frame.Part count) is (λ e. cc e) in
    ap (λ (o : Outcome). answer_of (found_by (first_message enough) (more_behind now more) (framed o))) behind.read
    ∙ ap (λ (r : Framed). answer_of (found_by (first_message enough) (more_behind now more) r)) is
    ∙ ap (λ (u : Unread). answer_of (first_message enough u)) (behind.left count took) ∙ below count took
cut_by most enough now more (Frame.Whole count message) is fits fits_all below =
    let took = took_whole now _ count message refl is in
    let behind = behind_of now more (Frame.Whole count message) is (λ e. cc e) in
    ap (λ (o : Outcome). answer_of (found_by (first_message enough) (more_behind now more) (framed o))) behind.read
    ∙ ap (λ (r : Framed). answer_of (found_by (first_message enough) (more_behind now more) r)) is
    ∙ ap (λ (u : Unread). answer_of (record { next = Next.Message message; left = u })) (behind.left count took)
    ∙ ap (λ (after : WsReading). record { next = Next.Message message; after = after }) (closing message (left_by now count) more (is_close message))
cut_by most enough now more Frame.Bad is fits fits_all below =
    let behind = behind_of now more Frame.Bad is (λ e. cc e) in
    ap (λ (o : Outcome). answer_of (found_by (first_message enough) (more_behind now more) (framed o))) behind.read
    ∙ ap (λ (r : Framed). answer_of (found_by (first_message enough) (more_behind now more) r)) is
cut_by most enough now more Frame.NoMemory is fits fits_all below =
    let behind = behind_of now more Frame.NoMemory is (λ e. cc e) in
    ap (λ (o : Outcome). answer_of (found_by (first_message enough) (more_behind now more) (framed o))) behind.read
    ∙ ap (λ (r : Framed). answer_of (found_by (first_message enough) (more_behind now more) r)) is

-- at most so many frames, once enough
cut_of : (most enough : ℕ) (now : Unread) (more : List ℕ) → length now.waiting ≤ most → length (now.waiting ++ more) ≤ enough
    → answer_of (first_message enough (more_behind now more)) ≡ answered (answer_of (first_message most now)) more
unfolding first_message
cut_of zero enough now more fits fits_all = ap answer_of (enough_frames enough (length (now.waiting ++ more)) (more_behind now more) fits_all (omega arith))
cut_of (suc most) enough now more fits fits_all =
    ap answer_of (enough_frames enough (suc enough) (more_behind now more) fits_all (omega (arith, fits_all)))
    ∙ cut_by most enough now more _ refl fits fits_all
    (λ count took. cut_of most enough (left_by now count) more (omega (arith, length-drop count now.waiting, took.some, took.within))
    (omega (arith, fits_all, length-append (drop count now.waiting) more, length-append now.waiting more, length-drop count now.waiting)))

pub cut : (reading : WsReading) (more : List ℕ) → next_of (fed reading more) ≡ answered (next_of reading) more
cut (Open unread) more = cut_of (length unread.waiting) (length (unread.waiting ++ more)) unread more (omega arith) (omega arith)
cut Ended more = refl
cut Bad more = refl
cut NoMemory more = refl
