-- The lines of a text, and what they say of the head that it begins with (RFC 9112, sections 2.1 and 2.2).
use Rattle.std.specs.Prelude.{ℕ, ◌+◌, ◌==◌, ◌||◌, ◌&&◌, Bool, false, not, nat_lt, nat_le, List, [], ◌∷◌, length, take, bytes_eq, count_by, Option, Some, None, is_none, option_map, if◌then◌else◌}
use Rattle.std.specs.List.{take_while}
use Rattle.httparse.specs.Ascii.{line_feed, carriage_return, crlf_bytes}
use Rattle.gp_head.specs.declared.scan.TheConstants.{MAX_HEAD, MAX_FIELDS}
use Rattle.gp_head.specs.declared.scan.Extent.{Extent}
use Rattle.gp_head.specs.declared.scan.Extent.TheVariants.{TooMany, TooLong, More, Ends}

-- the first line, with the line feed that ends it where that is there
abbrev pub first_line : List ℕ → List ℕ
first_line [] = []
first_line (b ∷ bs) = b ∷ (if b == line_feed then [] else first_line bs)

-- the lines behind the first line feed: each ends with a line feed, but for the last, which may have no byte
abbrev pub later_lines : List ℕ → List (List ℕ)
later_lines [] = []
later_lines (b ∷ bs) = if b == line_feed then first_line bs ∷ later_lines bs else later_lines bs

-- the lines of a text
abbrev pub lines : List ℕ → List (List ℕ)
lines text = first_line text ∷ later_lines text

-- nothing, or a carriage return alone, stands before the line feed
abbrev pub is_empty_line : List ℕ → Bool
is_empty_line line = bytes_eq line (line_feed ∷ []) || bytes_eq line crlf_bytes

-- it isn't empty
abbrev pub is_filled_line : List ℕ → Bool
is_filled_line line = not (is_empty_line line)

-- its first byte is there, and is neither a carriage return nor a line feed
abbrev pub has_begun : List ℕ → Bool
has_begun [] = false
has_begun (b ∷ bs) = not ((b == carriage_return) || (b == line_feed))

-- the lines behind a head's first line, which is the first line that isn't empty
abbrev pub after_first : List (List ℕ) → List (List ℕ)
after_first [] = []
after_first (line ∷ others) = if is_empty_line line then after_first others else others

-- the field lines that have begun before the first empty line
abbrev pub field_count : List (List ℕ) → ℕ
field_count others = count_by has_begun (take_while is_filled_line others)

-- how many bytes the lines have up to the first empty one, and with it
abbrev pub length_to_empty : List (List ℕ) → Option ℕ
length_to_empty [] = None
length_to_empty (line ∷ others) =
    option_map (λ n. length line + n) (if is_empty_line line then Some 0 else length_to_empty others)

-- the same from the empty lines before a head's first line on
abbrev pub length_to_end : List (List ℕ) → Option ℕ
length_to_end [] = None
length_to_end (line ∷ others) =
    option_map (λ n. length line + n) (if is_empty_line line then length_to_end others else length_to_empty others)

-- how many field lines of the head at the front have begun
unfoldable pub begun_fields : List ℕ → ℕ
begun_fields text = field_count (after_first (lines text))

-- how many bytes the head at the front has, if its end is there: empty lines, a first line, and what follows up
-- to the first empty line
unfoldable pub head_end : List ℕ → Option ℕ
head_end text = length_to_end (lines text)

-- the end is there, or isn't yet
abbrev pub ends_or_more : Option ℕ → Extent
ends_or_more None = More
ends_or_more (Some n) = Ends n

-- how far the head at the front reaches in the bytes: the cases are tried in this order
unfoldable pub extent_of : List ℕ → Extent
extent_of bytes =
    let front = take MAX_HEAD bytes in
    if nat_lt MAX_FIELDS (begun_fields front) then TooMany
    else (if nat_le MAX_HEAD (length bytes) && is_none (head_end front) then TooLong
    else ends_or_more (head_end bytes))
