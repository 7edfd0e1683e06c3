-- The list of links in a field, byte by byte, and the link that is taken.
use Rattle.std.specs.Prelude.{ℕ, ◌+◌, ◌==◌, ◌||◌, ◌&&◌, not, Bool, List, [], ◌∷◌, length, codes, bytes_eq, slice_range, Option, Some, None, is_none, Result, Ok, Err, if◌then◌else◌}
use Rattle.std.specs.Char.{is_ascii_alphanumeric}
use Rattle.gp_instruct.specs.Texts.{is_blank}
use Rattle.gp_instruct.specs.declared.span.Span.{Span}
use Rattle.gp_instruct.specs.declared.scan.Spot.{Spot}
use Rattle.gp_instruct.specs.declared.scan.Spot.TheVariants.{Link, Uri, Behind, Parameter, Name, Named, Value, Bare, Quoted}
use Rattle.gp_instruct.specs.declared.scan.Scan.{Scan}

-- the part of a text from one place up to another
abbrev pub part : List ℕ → Span → List ℕ
part text span = slice_range text span.from span.to

-- a letter, a digit, `-` or `*`
abbrev pub is_name_byte : ℕ → Bool
is_name_byte b = is_ascii_alphanumeric b || (b == 45) || (b == 42)

-- neither a blank nor a comma, a semicolon or a quotation mark
abbrev pub is_bare_byte : ℕ → Bool
is_bare_byte b = not (is_blank b || (b == 44) || (b == 59) || (b == 34))

-- at first a link is due
abbrev pub start : Scan
start = record { spot = Link; uri = record { from = 0; to = 0 }; next = None }

abbrev pub at : Spot → Scan → Scan
at spot scan = record { spot = spot; uri = scan.uri; next = scan.next }

-- `;` begins a parameter, and `,` the next link
abbrev pub separated : ℕ → Scan → Option Scan
separated b scan = if b == 59 then Some (at Parameter scan) else (if b == 44 then Some (at Link scan) else None)

-- blanks may stand round them
abbrev pub behind : ℕ → Scan → Option Scan
behind b scan = if is_blank b then Some (at Behind scan) else separated b scan

-- a parameter has this value: the first link whose `rel` is `next` is taken
abbrev pub valued : List ℕ → Bool → Span → Scan → Scan
valued value is_rel text scan =
    if is_none scan.next && is_rel && bytes_eq (part value text) (codes "next")
    then (record { spot = scan.spot; uri = scan.uri; next = Some scan.uri })
    else scan

-- a link begins with `<`
abbrev pub before_link : ℕ → ℕ → Scan → Option Scan
before_link place b scan =
    if is_blank b then Some scan else (if b == 60 then Some (at (Uri (place + 1)) scan) else None)

-- its URI goes on up to `>`
abbrev pub in_uri : ℕ → ℕ → ℕ → Scan → Scan
in_uri from place b scan =
    if b == 62 then (record { spot = Behind; uri = record { from = from; to = place }; next = scan.next }) else scan

-- a parameter begins with its name
abbrev pub before_name : ℕ → ℕ → Scan → Option Scan
before_name place b scan = if is_blank b then Some scan else (if is_name_byte b then Some (at (Name place) scan) else None)

-- after a name comes `=`, or the parameter has no value
abbrev pub behind_name : Bool → ℕ → Scan → Option Scan
behind_name is_rel b scan =
    if is_blank b then Some (at (Named is_rel) scan) else (if b == 61 then Some (at (Value is_rel) scan) else separated b scan)

abbrev pub in_name : List ℕ → ℕ → ℕ → ℕ → Scan → Option Scan
in_name value from place b scan =
    if is_name_byte b then Some scan
    else behind_name (bytes_eq (part value (record { from = from; to = place })) (codes "rel")) b scan

-- a value stands between quotation marks, or has a byte at least
abbrev pub before_value : Bool → ℕ → ℕ → Scan → Option Scan
before_value is_rel place b scan =
    if is_blank b then Some scan
    else (if b == 34 then Some (at (Quoted is_rel (place + 1)) scan)
    else (if is_bare_byte b then Some (at (Bare is_rel place) scan) else None))

abbrev pub in_bare : List ℕ → Bool → ℕ → ℕ → ℕ → Scan → Option Scan
in_bare value is_rel from place b scan =
    if is_bare_byte b then Some scan else behind b (valued value is_rel (record { from = from; to = place }) scan)

abbrev pub in_quoted : List ℕ → Bool → ℕ → ℕ → ℕ → Scan → Scan
in_quoted value is_rel from place b scan =
    if b == 34 then at Behind (valued value is_rel (record { from = from; to = place }) scan) else scan

-- what the byte at a place leads to from a spot, or nothing where the form can't go on with it
abbrev pub step_at : List ℕ → ℕ → ℕ → Scan → Spot → Option Scan
step_at value place b scan Link = before_link place b scan
step_at value place b scan (Uri from) = Some (in_uri from place b scan)
step_at value place b scan Behind = behind b scan
step_at value place b scan Parameter = before_name place b scan
step_at value place b scan (Name from) = in_name value from place b scan
step_at value place b scan (Named is_rel) = behind_name is_rel b scan
step_at value place b scan (Value is_rel) = before_value is_rel place b scan
step_at value place b scan (Bare is_rel from) = in_bare value is_rel from place b scan
step_at value place b scan (Quoted is_rel from) = Some (in_quoted value is_rel from place b scan)

abbrev pub step : List ℕ → ℕ → ℕ → Scan → Option Scan
step value place b scan = step_at value place b scan scan.spot

-- the value may end behind a URI or a parameter
abbrev pub ended_at : List ℕ → Scan → Spot → Option Scan
ended_at value scan Link = None
ended_at value scan (Uri from) = None
ended_at value scan Behind = Some scan
ended_at value scan Parameter = None
ended_at value scan (Name from) = Some scan
ended_at value scan (Named is_rel) = Some scan
ended_at value scan (Value is_rel) = None
ended_at value scan (Bare is_rel from) = Some (valued value is_rel (record { from = from; to = length value }) scan)
ended_at value scan (Quoted is_rel from) = None

abbrev pub ended : List ℕ → Scan → Option Scan
ended value scan = ended_at value scan scan.spot

-- the link that is taken at the end, or the length where the value ends too soon
abbrev pub taken : List ℕ → Option Scan → Result (Option Span) ℕ
taken value None = Err (length value)
taken value (Some scan) = Ok scan.next

abbrev pub resume : ℕ → Option Scan → (Scan → Result (Option Span) ℕ) → Result (Option Span) ℕ
resume place None on = Err place
resume place (Some scan) on = on scan

-- the same from a place on, behind which these bytes stand
unfoldable pub scanned_from : List ℕ → ℕ → Scan → List ℕ → Result (Option Span) ℕ
scanned_from value place scan [] = taken value (ended value scan)
scanned_from value place scan (b ∷ bs) = resume place (step value place b scan) (λ (next : Scan). scanned_from value (place + 1) next bs)

-- the place of the URI that is taken, where there is one, or the place at which the form can't go on
unfoldable pub scanned : List ℕ → Result (Option Span) ℕ
scanned value = scanned_from value 0 start value
