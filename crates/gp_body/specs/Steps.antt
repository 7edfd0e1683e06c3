-- What a body waits for behind a byte. What bodies are is said by their parts, in `Bodies`.
use Rattle.std.specs.Prelude.{ℕ, zero, suc, ◌+◌, ◌-◌, ◌*◌, ◌^◌, ◌<◌, ◌≤◌, min, Bool, true, false, not, ◌&&◌, ◌||◌, ◌==◌, nat_lt, Option, Some, None, if◌then◌else◌, ⊤}
use Rattle.std.specs.Char.{digit_value, is_digit, is_ascii_control}
use Rattle.gp_body.specs.declared.plan.BodyPlan.{BodyPlan}
use Rattle.gp_body.specs.declared.plan.BodyPlan.TheVariants.{None as NoBody, Length, Chunked, ToClose}
use Rattle.gp_body.specs.declared.state.State.{State}
use Rattle.gp_body.specs.declared.state.State.TheVariants.{Left, Stream, Size, Extension, SizeReturn, Data, DataReturn, Trailer, Field, FieldReturn, LastReturn}

-- a hexadecimal digit of either case
abbrev pub is_hex : ℕ → Bool
is_hex b = is_digit b 16

-- neither CR, LF nor another control; a tab may stand
abbrev pub is_extension_byte : ℕ → Bool
is_extension_byte b = (b == 9) || not (is_ascii_control b)

-- neither CR nor LF
abbrev pub is_field_byte : ℕ → Bool
is_field_byte b = not (b == 13) && not (b == 10)

-- what a body of this plan waits for at first
abbrev pub first_state : BodyPlan → State
first_state NoBody = Left 0
first_state (Length n) = Left n
first_state Chunked = Size 0 0
first_state ToClose = Stream

-- the body has ended
abbrev pub is_end : State → Bool
is_end (Left zero) = true
is_end (Left (suc n)) = false
is_end Stream = false
is_end (Size digits size) = false
is_end (Extension size line) = false
is_end (SizeReturn size) = false
is_end (Data n) = false
is_end DataReturn = false
is_end (Trailer n) = false
is_end (Field n) = false
is_end (FieldReturn n) = false
is_end LastReturn = false

-- the next byte is content
abbrev pub is_content : State → Bool
is_content (Left zero) = false
is_content (Left (suc n)) = true
is_content Stream = true
is_content (Size digits size) = false
is_content (Extension size line) = false
is_content (SizeReturn size) = false
is_content (Data zero) = false
is_content (Data (suc n)) = true
is_content DataReturn = false
is_content (Trailer n) = false
is_content (Field n) = false
is_content (FieldReturn n) = false
is_content LastReturn = false

-- a byte that isn't content is waited for
abbrev pub is_framing : State → Bool
is_framing s = not (is_end s || is_content s)

-- of so many next bytes these are content
abbrev pub content_len : State → ℕ → ℕ
content_len (Left left) n = min n left
content_len Stream n = n
content_len (Size digits size) n = 0
content_len (Extension size line) n = 0
content_len (SizeReturn size) n = 0
content_len (Data left) n = min n left
content_len DataReturn n = 0
content_len (Trailer length) n = 0
content_len (Field length) n = 0
content_len (FieldReturn length) n = 0
content_len LastReturn n = 0

-- what is waited for behind so many bytes of content
abbrev pub behind : State → ℕ → State
behind (Left left) n = Left (left - n)
behind Stream n = Stream
behind (Size digits size) n = Size digits size
behind (Extension size line) n = Extension size line
behind (SizeReturn size) n = SizeReturn size
behind (Data left) n = Data (left - n)
behind DataReturn n = DataReturn
behind (Trailer length) n = Trailer length
behind (Field length) n = Field length
behind (FieldReturn length) n = FieldReturn length
behind LastReturn n = LastReturn

-- the bounds of lines are kept, and the digits write no more than they can
abbrev pub IsSound : State → Type 0
IsSound (Left n) = ⊤
IsSound Stream = ⊤
IsSound (Size digits size) = (digits ≤ 8) × (size < 16 ^ digits)
IsSound (Extension size line) = line ≤ 254
IsSound (SizeReturn size) = ⊤
IsSound (Data n) = ⊤
IsSound DataReturn = ⊤
IsSound (Trailer n) = n ≤ 16384
IsSound (Field n) = n ≤ 16382
IsSound (FieldReturn n) = n ≤ 16382
IsSound LastReturn = ⊤

-- behind a byte of a size line's digits, or behind them
abbrev pub after_size : ℕ → ℕ → ℕ → Option State
after_size digits size b =
    if is_hex b then (if nat_lt digits 8 then Some (Size (digits + 1) (size * 16 + digit_value b)) else None)
    else (if digits == 0 then None
    else (if b == 13 then Some (SizeReturn size)
    else (if b == 59 then Some (Extension size (digits + 1)) else None)))

-- behind a byte of a size line's extensions; the line has at most 256 bytes with its CRLF
abbrev pub after_extension : ℕ → ℕ → ℕ → Option State
after_extension size line b =
    if b == 13 then Some (SizeReturn size)
    else (if is_extension_byte b && nat_lt line 254 then Some (Extension size (line + 1)) else None)

-- behind the LF of a size line; a size of 0 is that of the last chunk
abbrev pub after_size_line : ℕ → State
after_size_line zero = Trailer 0
after_size_line (suc n) = Data (suc n)

-- behind a byte of a field line; the field lines have at most 16,384 bytes with their CRLFs
abbrev pub after_field_byte : ℕ → ℕ → Option State
after_field_byte length b = if is_field_byte b && nat_lt length 16382 then Some (Field (length + 1)) else None

-- what is waited for behind a byte, or nothing where the body can't go on with it; nothing follows the end
unfoldable pub after : State → ℕ → Option State
after (Left zero) b = None
after (Left (suc n)) b = Some (Left n)
after Stream b = Some Stream
after (Size digits size) b = after_size digits size b
after (Extension size line) b = after_extension size line b
after (SizeReturn size) b = if b == 10 then Some (after_size_line size) else None
after (Data zero) b = if b == 13 then Some DataReturn else None
after (Data (suc n)) b = Some (Data n)
after DataReturn b = if b == 10 then Some (Size 0 0) else None
after (Trailer length) b = if b == 13 then Some LastReturn else after_field_byte length b
after (Field length) b = if b == 13 then Some (FieldReturn length) else after_field_byte length b
after (FieldReturn length) b = if b == 10 then Some (Trailer (length + 2)) else None
after LastReturn b = if b == 10 then Some (Left 0) else None
