-- The frames that were read so far, none of which ended a message.
use Rattle.std.proofs.Common.{◌≡◌, ℕ, zero, suc, ◌-◌, ◌<◌, ◌≤◌, ◌⊎◌, inl, inr, Bool, true, false, List, [], length, Option, Some, None, refl, sym, ap, ◌∙◌, subst, arith, length-drop}
use Rattle.std.specs.Prelude.{◌==◌, if◌then◌else◌}
use Rattle.std.proofs.lemmas.Bool.{ne_eqb}
use Rattle.std.proofs.lemmas.List.{nil_from_length}
use Rattle.websocket.specs.declared.protocol.incomplete.MessageType.{MessageType}
use Rattle.websocket.specs.FrameHeader.{decode_header}
use Rattle.websocket.specs.Frame.{decode_frame}
use Rattle.websocket.specs.Connection.{read_step}
use Rattle.gp_plain.specs.declared.item.Message.{Message}
use Rattle.gp_ws.specs.Unread.{Unread}
use Rattle.gp_ws.specs.declared.frame.Framed.{Framed}
use Rattle.gp_ws.specs.declared.frame.Framed.TheVariants as Frame
use Rattle.gp_ws.specs.declared.input.WsNext.TheVariants as Next
use Rattle.gp_ws.specs.declared.input.WsReading.TheVariants.{Ended}
use Rattle.gp_ws.specs.Frames.{Found, found_by, found_in, first_message, framed, is_close, read_of, left_by, IsFound, IsUsedBy, Keeps}

pub record FoundSoFar (before now : Unread) : Type 0 where
  pub most : ℕ
  pub enough : length now.waiting ≤ most
  pub says : found_in before ≡ first_message most now

pub found_none : (before : Unread) → FoundSoFar before before
found_none before = record { most = length before.waiting; enough = omega arith; says = refl }

more_of : (most : ℕ) (now : Unread) → 0 < most → first_message most now ≡ found_by (first_message (most - 1)) now (framed (read_of now))
unfolding first_message
more_of zero now some = absurd (omega arith)
more_of (suc most) now some =
    let same : suc most - 1 ≡ most = omega arith in rw same refl

found_more : (before now after : Unread) (count : ℕ) → FoundSoFar before now → framed (read_of now) ≡ Frame.Part count → IsUsedBy now count after → FoundSoFar before after
found_more before now after count so_far part used =
    let shorter : length after.waiting ≡ length now.waiting - count = ap (λ (u : Unread). length u.waiting) used.left ∙ length-drop count now.waiting in
    record {
      most = so_far.most - 1;
      enough = omega (arith, shorter, so_far.enough, used.some);
      says =
          so_far.says ∙ more_of so_far.most now (omega (arith, so_far.enough, used.some, used.within))
          ∙ ap (found_by (first_message (so_far.most - 1)) now) part ∙ ap (first_message (so_far.most - 1)) (sym used.left);
    }

found_last : (before now : Unread) (r : Framed) → FoundSoFar before now → 0 < length now.waiting → framed (read_of now) ≡ r
    → (most : ℕ) × (found_in before ≡ found_by (first_message most) now r)
found_last before now r so_far some read =
    (so_far.most - 1, so_far.says ∙ more_of so_far.most now (omega (arith, so_far.enough)) ∙ ap (found_by (first_message (so_far.most - 1)) now) read)

nothing_read : (fragments : Option (MessageType × List ℕ)) → framed (read_of (record { fragments = fragments; waiting = [] })) ≡ Frame.NotWhole
unfolding read_step decode_frame decode_header
nothing_read fragments = refl

pub none_read : (now : Unread) → length now.waiting ≡ 0 → framed (read_of now) ≡ Frame.NotWhole
none_read now none =
    ap (λ (bytes : List ℕ). framed (read_of (record { fragments = now.fragments; waiting = bytes }))) (nil_from_length now.waiting none) ∙ nothing_read now.fragments

pub none_of : (most : ℕ) (now : Unread) → length now.waiting ≡ 0 → first_message most now ≡ record { next = Next.NotWhole; left = now }
unfolding first_message
none_of zero now none = refl
none_of (suc most) now none = ap (found_by (first_message most) now) (none_read now none)

found_end : (before now : Unread) → FoundSoFar before now → length now.waiting ≡ 0 → found_in before ≡ record { next = Next.NotWhole; left = now }
found_end before now so_far none = so_far.says ∙ none_of so_far.most now none

-- ---- answers

some_of : (n : ℕ) → false ≡ (n == 0) → 0 < n
some_of zero is = absurd (cc is)
some_of (suc n) is = omega arith

zero_of : (n : ℕ) → true ≡ (n == 0) → n ≡ 0
zero_of zero is = refl
zero_of (suc n) is = absurd (cc (is ∙ ne_eqb (suc n) 0 (omega arith)))

keeps_if : (ended : Bool) (left after : Unread) → after ≡ left → Keeps (if ended then Some Ended else None) left after
keeps_if true left after is = tt
keeps_if false left after is = is

pub part_found : (before now after : Unread) (count : ℕ) → FoundSoFar before now → (Frame.Part count ≡ framed (read_of now)) ⊎ (Frame.Part count ≡ Frame.NoMemory) → IsUsedBy now count after
    → FoundSoFar before after
part_found before now after count so_far (inl is) used = found_more before now after count so_far (sym is) used
part_found before now after count so_far (inr is) used = absurd (cc is)

pub whole_found : (before now after : Unread) (count : ℕ) (message : Message) → FoundSoFar before now → false ≡ (length now.waiting == 0)
    → (Frame.Whole count message ≡ framed (read_of now)) ⊎ (Frame.Whole count message ≡ Frame.NoMemory) → IsUsedBy now count after → IsFound (found_in before) (Next.Message message) after
whole_found before now after count message so_far some (inl is) used =
    let last = found_last before now (Frame.Whole count message) so_far (some_of (length now.waiting) some) (sym is) in
    subst (λ (found : Found). IsFound found (Next.Message message) after) (sym last.1) (inl (refl, keeps_if (is_close message) (left_by now count) after used.left))
whole_found before now after count message so_far some (inr is) used = absurd (cc is)

pub not_whole_found : (before now after : Unread) → FoundSoFar before now → false ≡ (length now.waiting == 0) → (Frame.NotWhole ≡ framed (read_of now)) ⊎ (Frame.NotWhole ≡ Frame.NoMemory)
    → after ≡ now → IsFound (found_in before) Next.NotWhole after
not_whole_found before now after so_far some (inl is) same =
    let last = found_last before now Frame.NotWhole so_far (some_of (length now.waiting) some) (sym is) in
    subst (λ (found : Found). IsFound found Next.NotWhole after) (sym last.1) (inl (refl, same))
not_whole_found before now after so_far some (inr is) same = absurd (cc is)

pub bad_found : (before now after : Unread) → FoundSoFar before now → false ≡ (length now.waiting == 0) → (Frame.Bad ≡ framed (read_of now)) ⊎ (Frame.Bad ≡ Frame.NoMemory)
    → IsFound (found_in before) Next.Bad after
bad_found before now after so_far some (inl is) =
    let last = found_last before now Frame.Bad so_far (some_of (length now.waiting) some) (sym is) in
    subst (λ (found : Found). IsFound found Next.Bad after) (sym last.1) (inl (refl, tt))
bad_found before now after so_far some (inr is) = absurd (cc is)

pub end_found : (before now : Unread) → FoundSoFar before now → true ≡ (length now.waiting == 0) → IsFound (found_in before) Next.NotWhole now
end_found before now so_far none =
    subst (λ (found : Found). IsFound found Next.NotWhole now) (sym (found_end before now so_far (zero_of (length now.waiting) none))) (inl (refl, refl))
