-- How a text is read, byte by byte.
use Rattle.std.specs.Prelude.{◌≡◌, ℕ, ◌+◌, ◌-◌, ◌^◌, ◌<◌, ◌≤◌, min, Bool, true, false, ◌&&◌, ◌||◌, ◌==◌, ◌⊎◌, List, [], ◌∷◌, ◌++◌, length, take, Option, Some, None, is_some, Result, Ok, Err, if◌then◌else◌}
use Rattle.gp_body.specs.declared.state.State.{State}
use Rattle.gp_body.specs.declared.fed.FedFault.{FedFault}
use Rattle.gp_body.specs.declared.fed.FedFault.TheVariants.{Chunk, TooLong}
use Rattle.gp_body.specs.declared.reading.Reading.{Reading}
use Rattle.gp_body.specs.Steps.{is_end, is_content, is_framing, after}
use Rattle.gp_body.specs.Steps as steps

-- nothing more is taken
abbrev pub has_stopped : Reading → Bool
has_stopped r = is_some r.refused || is_end r.state

-- the limit is met where content is waited for
abbrev pub is_full : Reading → Bool
is_full r = is_content r.state && (r.given == r.limit)

abbrev pub refused_by : FedFault → Reading → Reading
refused_by fault r = record r { refused = Some fault }

-- so many bytes on, of which so many are content
abbrev pub moved : State → ℕ → ℕ → Reading → Reading
moved s n content r = record r { state = s; place = min (r.place + n) (2 ^ 64 - 1); given = r.given + content }

abbrev pub moved_or_refused : Option State → Reading → Reading
moved_or_refused None r = refused_by (Chunk r.place) r
moved_or_refused (Some s) r = moved s 1 (if is_content r.state then 1 else 0) r

-- behind a byte
unfoldable pub step : ℕ → Reading → Reading
step b r =
    if has_stopped r then r
    else (if is_full r then refused_by (TooLong r.limit) r
    else moved_or_refused (after r.state b) r)

-- the byte is content, where it is taken
unfoldable pub given_of : ℕ → Reading → List ℕ
given_of b r = if has_stopped r then [] else (if is_full r then [] else (if is_content r.state then b ∷ [] else []))

-- behind these bytes
unfoldable pub after_all : List ℕ → Reading → Reading
after_all [] r = r
after_all (b ∷ bs) r = after_all bs (step b r)

-- the content among these bytes
unfoldable pub content_from : List ℕ → Reading → List ℕ
content_from [] r = []
content_from (b ∷ bs) r = given_of b r ++ content_from bs (step b r)

-- what every reading keeps
pub record IsSound (r : Reading) : Type 0 where
  pub state : steps.IsSound r.state
  pub within : r.given ≤ r.limit

-- the first n bytes were taken; each was waited for, and none of them is content
pub record Skips (r : Reading) (bytes : List ℕ) (n : ℕ) (r' : Reading) : Type 0 where
  pub within : n ≤ length bytes
  pub reading : r' ≡ after_all (take n bytes) r
  pub no_content : content_from (take n bytes) r ≡ []
  pub goes_on : r'.refused ≡ None
  pub waits : (k : ℕ) → k < n → is_framing (after_all (take k bytes) r).state ≡ true
  pub stops : n < length bytes → is_framing r'.state ≡ false
  pub moves : is_framing r.state ≡ true → 0 < length bytes → 0 < n

-- the bytes were refused, and none of them is content
pub record Refuses (r : Reading) (bytes : List ℕ) (fault : FedFault) (r' : Reading) : Type 0 where
  pub reading : r' ≡ after_all bytes r
  pub no_content : content_from bytes r ≡ []
  pub told : r'.refused ≡ Some fault

abbrev pub IsSkipped : Reading → List ℕ → Result ℕ FedFault → Reading → Type 0
IsSkipped r bytes (Ok n) r' = Skips r bytes n r'
IsSkipped r bytes (Err fault) r' = Refuses r bytes fault r'

-- the first n bytes were taken, each of them is content, and the next one isn't taken as content
pub record Takes (r : Reading) (bytes : List ℕ) (n : ℕ) (r' : Reading) : Type 0 where
  pub within : n ≤ length bytes
  pub reading : r' ≡ after_all (take n bytes) r
  pub content : content_from (take n bytes) r ≡ take n bytes
  pub moves : is_content r.state ≡ true → 0 < length bytes → 0 < n
  pub whole : n < length bytes → (is_content r'.state ≡ false) ⊎ (r'.given ≡ r'.limit)
  pub goes_on : r'.refused ≡ None

abbrev pub IsTaken : Reading → List ℕ → Result ℕ FedFault → Reading → Type 0
IsTaken r bytes (Ok n) r' = Takes r bytes n r'
IsTaken r bytes (Err fault) r' = Refuses r bytes fault r'
