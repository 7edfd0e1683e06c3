-- How far a head was scanned, in whatever pieces its bytes came.
use Rattle.std.specs.Prelude.{◌≡◌, ℕ, ◌+◌, ◌≤◌, Bool, true, false, ◌||◌, ◌==◌, nat_lt, List, [], ◌∷◌, ◌++◌, if◌then◌else◌}
use Rattle.gp_head.specs.declared.scan.TheConstants.{MAX_HEAD, MAX_FIELDS}
use Rattle.gp_head.specs.declared.scan.Extent.{Extent}
use Rattle.gp_head.specs.declared.scan.Extent.TheVariants.{TooMany, TooLong, More, Ends}
use Rattle.gp_head.specs.declared.scan.State.{State}
use Rattle.gp_head.specs.declared.scan.State.TheVariants.{Before, BeforeReturn, First, Start, StartReturn, Inside, End}
use Rattle.gp_head.specs.declared.scan.Scan.{Scan}
use Rattle.gp_head.specs.Steps.{after, begins_field}

-- behind the empty line that ends the head
abbrev pub is_end : State → Bool
is_end Before = false
is_end BeforeReturn = false
is_end First = false
is_end Start = false
is_end StartReturn = false
is_end Inside = false
is_end End = true

-- no byte that follows changes what the scan tells
abbrev pub is_settled : Scan → Bool
is_settled s = is_end s.state || (nat_lt MAX_FIELDS s.fields || (s.seen == MAX_HEAD))

-- behind one more byte
abbrev pub moved : Scan → ℕ → Scan
moved s b = record { seen = s.seen + 1; fields = s.fields + (if begins_field s.state b then 1 else 0); state = after s.state b }

unfoldable pub step : Scan → ℕ → Scan
step s b = if is_settled s then s else moved s b

-- behind these bytes
unfoldable pub after_all : List ℕ → Scan → Scan
after_all [] s = s
after_all (b ∷ bs) s = after_all bs (step s b)

-- nothing was seen
abbrev pub opening : Scan
opening = record { seen = 0; fields = 0; state = Before }

-- a scan that has seen this text
unfoldable pub scan_of : List ℕ → Scan
scan_of text = after_all text opening

-- how far the head reaches in what was seen
abbrev pub extent_told : Scan → Extent
extent_told s =
    if nat_lt MAX_FIELDS s.fields then TooMany
    else (if is_end s.state then Ends s.seen
    else (if s.seen == MAX_HEAD then TooLong else More))

-- what every scan keeps
pub record IsSound (s : Scan) : Type 0 where
  pub seen : s.seen ≤ MAX_HEAD
  pub fields : s.fields ≤ MAX_FIELDS + 1

-- the scan has seen the first of the bytes
pub record HasSeen (s : Scan) (bytes : List ℕ) : Type 0 where
  pub front : List ℕ
  pub more : List ℕ
  pub bytes_are : bytes ≡ front ++ more
  pub scan : s ≡ scan_of front
