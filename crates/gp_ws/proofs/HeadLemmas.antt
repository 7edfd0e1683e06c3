-- The header of a frame, in its three sizes.
use Rattle.std.proofs.Common.{◌≡◌, ℕ, ◌+◌, ◌<◌, ◌≤◌, List, [], ◌∷◌, length, take, drop, None, refl, sym, ◌∙◌, subst, arith, append-nil, ltb, lt-ltb, le-ltb, true, false}
use Rattle.std.specs.Prelude.{slice_set}
use Rattle.std.specs.Int.{w16, w64, to_be_bytes}
use Rattle.std.proofs.lemmas.List.{take_at}
use borrow.Rule.Slice.PartMut.{put_mid}
use Rattle.websocket.specs.declared.protocol.frame.coding.OpCode.{OpCode}
use Rattle.websocket.specs.OpCode.{opcode_bits}
use Rattle.websocket.specs.FrameHeader.{encode_header, first_byte_of, length_bits, extended_length}
use Rattle.websocket.specs.Connection.{whole_header}
use Rattle.gp_plain.specs.declared.item.Message.{Message}
use Rattle.gp_ws.specs.Heads.{head_of, opcode_of, payload_of}

first_byte : (op : OpCode) → first_byte_of (whole_header op None) ≡ 128 + opcode_bits op
first_byte op = omega arith

-- the header, by its parts
parts : (op : OpCode) (n : ℕ) → encode_header (whole_header op None) n ≡ (128 + opcode_bits op) ∷ length_bits n ∷ extended_length n
unfolding encode_header
parts op n =
    let size : 0 + length_bits n ≡ length_bits n = omega arith in
    rw (first_byte op, size, append-nil (extended_length n)) refl

two_set : (xs : List ℕ) (a b : ℕ) → 2 ≤ length xs → take 2 (slice_set (slice_set xs 0 a) 1 b) ≡ a ∷ b ∷ []
two_set [] a b long = absurd (omega arith)
two_set (x ∷ []) a b long = absurd (omega arith)
two_set (x ∷ y ∷ xs) a b long = refl

mid_set : (n : ℕ) (xs ys : List ℕ) (a b : ℕ) → 2 ≤ length xs → length ys ≡ n → take (2 + n) (put_mid 2 n (slice_set (slice_set xs 0 a) 1 b) ys) ≡ a ∷ b ∷ ys
mid_set n [] ys a b long same = absurd (omega arith)
mid_set n (x ∷ []) ys a b long same = absurd (omega arith)
mid_set n (x ∷ y ∷ xs) ys a b long same = take_at (a ∷ b ∷ ys) (drop n xs) (2 + n) (omega (arith, same))

pub short_head : (xs : List ℕ) (message : Message) (bits size : ℕ) → 2 ≤ length xs → bits ≡ opcode_bits (opcode_of message) → size ≡ length (payload_of message) → size < 126
    → take 2 (slice_set (slice_set xs 0 (128 + bits)) 1 size) ≡ head_of message
short_head xs message bits size long bits_is size_is small =
    let n = length (payload_of message) in
    let less : ltb n 126 ≡ true = lt-ltb n 126 (subst (λ (k : ℕ). k < 126) size_is small) in
    two_set xs (128 + bits) size long ∙ rw (bits_is, size_is) (sym (parts (opcode_of message) n ∙ rw less refl))

pub middle_head : (xs ys : List ℕ) (message : Message) (bits size : ℕ) → 2 ≤ length xs → bits ≡ opcode_bits (opcode_of message) → size ≡ length (payload_of message) → 126 ≤ size → size < 65536
    → ys ≡ to_be_bytes w16 size → length ys ≡ 2 → take 4 (put_mid 2 2 (slice_set (slice_set xs 0 (128 + bits)) 1 126) ys) ≡ head_of message
middle_head xs ys message bits size long bits_is size_is some small is two =
    let n = length (payload_of message) in
    let more : ltb n 126 ≡ false = le-ltb n 126 (subst (λ (k : ℕ). 126 ≤ k) size_is some) in
    let less : ltb n 65536 ≡ true = lt-ltb n 65536 (subst (λ (k : ℕ). k < 65536) size_is small) in
    mid_set 2 xs ys (128 + bits) 126 long two ∙ rw (bits_is, is, size_is) (sym (parts (opcode_of message) n ∙ rw (more, less) refl))

pub long_head : (xs ys : List ℕ) (message : Message) (bits size : ℕ) → 2 ≤ length xs → bits ≡ opcode_bits (opcode_of message) → size ≡ length (payload_of message) → 65536 ≤ size
    → ys ≡ to_be_bytes w64 size → length ys ≡ 8 → take 10 (put_mid 2 8 (slice_set (slice_set xs 0 (128 + bits)) 1 127) ys) ≡ head_of message
long_head xs ys message bits size long bits_is size_is some is eight =
    let n = length (payload_of message) in
    let least : 65536 ≤ n = subst (λ (k : ℕ). 65536 ≤ k) size_is some in
    let more : ltb n 126 ≡ false = le-ltb n 126 (omega arith) in
    let most : ltb n 65536 ≡ false = le-ltb n 65536 least in
    mid_set 8 xs ys (128 + bits) 127 long eight ∙ rw (bits_is, is, size_is) (sym (parts (opcode_of message) n ∙ rw (more, most) refl))
