-- What is read of a whole text, in whatever pieces it came.
use Rattle.std.specs.Prelude.{◌≡◌, ℕ, ◌+◌, ◌<◌, ◌≤◌, Bool, true, false, ◌⊎◌, nat_lt, List, ◌++◌, length, take, slice_range, Option, Some, None, Result, Ok, Err, if◌then◌else◌, ⊤}
use Rattle.gp_body.specs.declared.plan.BodyPlan.{BodyPlan}
use Rattle.gp_body.specs.declared.plan.BodyPlan.TheVariants.{None as NoBody, Length, Chunked, ToClose}
use Rattle.gp_body.specs.declared.state.State.TheVariants.{Left, Stream}
use Rattle.gp_body.specs.declared.fed.Fed.{Fed}
use Rattle.gp_body.specs.declared.fed.FedFault.{FedFault}
use Rattle.gp_body.specs.declared.fed.FedFault.TheVariants.{TooLong, Cut}
use Rattle.gp_body.specs.declared.pieces.BodyRead.{BodyRead}
use Rattle.gp_body.specs.declared.reading.Reading.{Reading}
use Rattle.gp_body.specs.Steps.{first_state, is_end}
use Rattle.gp_body.specs.Readings.{after_all, content_from, refused_by, Refuses}

-- a planned length above the limit is refused
abbrev pub first_refusal : BodyPlan → ℕ → Option FedFault
first_refusal NoBody limit = None
first_refusal (Length n) limit = if nat_lt limit n then Some (TooLong limit) else None
first_refusal Chunked limit = None
first_refusal ToClose limit = None

abbrev pub opening : BodyPlan → ℕ → Reading
opening plan limit = record { state = first_state plan; refused = first_refusal plan limit; limit = limit; place = 0; given = 0 }

-- a body of this plan and this limit, of which this text has come
unfoldable pub reading_of : BodyPlan → ℕ → List ℕ → Reading
reading_of plan limit text = after_all text (opening plan limit)

-- the content in the text
unfoldable pub content_of : BodyPlan → ℕ → List ℕ → List ℕ
content_of plan limit text = content_from text (opening plan limit)

-- the body has ended in the text
abbrev pub is_ended : BodyPlan → ℕ → List ℕ → Bool
is_ended plan limit text = is_end (reading_of plan limit text).state

-- why the text is refused, if it is
abbrev pub fault_of : BodyPlan → ℕ → List ℕ → Option FedFault
fault_of plan limit text = (reading_of plan limit text).refused

-- where what was taken stands in the bytes; where there is a run, its end is that of what was taken
pub record IsOrdered (bytes : List ℕ) (fed : Fed) : Type 0 where
  pub run : fed.from ≤ fed.to
  pub taken : fed.to ≤ fed.taken
  pub within : fed.taken ≤ length bytes
  pub last : fed.from < fed.to → fed.taken ≡ fed.to

-- the first bytes were taken; a run of them is all the content among them, and the byte behind them is none; the body
-- hadn't ended in front of any byte that was taken
pub record Feeds (r : Reading) (bytes : List ℕ) (fed : Fed) (r' : Reading) : Type 0 where
  pub order : IsOrdered bytes fed
  pub reading : r' ≡ after_all (take fed.taken bytes) r
  pub run : content_from (take fed.taken bytes) r ≡ slice_range bytes fed.from fed.to
  pub whole : fed.taken < length bytes → content_from (take (fed.taken + 1) bytes) r ≡ content_from (take fed.taken bytes) r
  pub goes_on : r'.refused ≡ None
  pub ended : fed.end ≡ is_end r'.state
  pub waits : (n : ℕ) → n < fed.taken → is_end (after_all (take n bytes) r).state ≡ false
  pub moves : is_end r.state ≡ false → 0 < length bytes → 0 < fed.taken
  pub stops : fed.taken < length bytes → fed.end ≡ false → fed.from < fed.to

-- what a feed answers
abbrev pub IsFed : Reading → List ℕ → Result Fed FedFault → Reading → Type 0
IsFed r bytes (Ok fed) r' = Feeds r bytes fed r'
IsFed r bytes (Err fault) r' = Refuses r bytes fault r'

-- the same, with the text before the bytes
pub record FeedsAt (plan : BodyPlan) (limit : ℕ) (text bytes : List ℕ) (fed : Fed) (r' : Reading) : Type 0 where
  pub order : IsOrdered bytes fed
  pub reading : r' ≡ reading_of plan limit (text ++ take fed.taken bytes)
  pub run : content_of plan limit (text ++ take fed.taken bytes) ≡ content_of plan limit text ++ slice_range bytes fed.from fed.to
  pub whole : fed.taken < length bytes → content_of plan limit (text ++ take (fed.taken + 1) bytes) ≡ content_of plan limit (text ++ take fed.taken bytes)
  pub goes_on : fault_of plan limit (text ++ take fed.taken bytes) ≡ None
  pub ended : fed.end ≡ is_ended plan limit (text ++ take fed.taken bytes)
  pub waits : (n : ℕ) → n < fed.taken → is_ended plan limit (text ++ take n bytes) ≡ false
  pub moves : is_ended plan limit text ≡ false → 0 < length bytes → 0 < fed.taken
  pub stops : fed.taken < length bytes → fed.end ≡ false → fed.from < fed.to

pub record RefusesAt (plan : BodyPlan) (limit : ℕ) (text bytes : List ℕ) (fault : FedFault) (r' : Reading) : Type 0 where
  pub reading : r' ≡ reading_of plan limit (text ++ bytes)
  pub no_content : content_of plan limit (text ++ bytes) ≡ content_of plan limit text
  pub told : fault_of plan limit (text ++ bytes) ≡ Some fault

abbrev pub IsFedAt : BodyPlan → ℕ → List ℕ → List ℕ → Result Fed FedFault → Reading → Type 0
IsFedAt plan limit text bytes (Ok fed) r' = FeedsAt plan limit text bytes fed r'
IsFedAt plan limit text bytes (Err fault) r' = RefusesAt plan limit text bytes fault r'

-- the refusal before, or that the body was cut behind so many bytes of content
abbrev pub refusal : Option FedFault → ℕ → FedFault
refusal None n = Cut n
refusal (Some fault) n = fault

-- the body has ended, or ends with the input
pub record Finishes (r r' : Reading) : Type 0 where
  pub accepted : r.refused ≡ None
  pub whole : (is_end r.state ≡ true) ⊎ (r.state ≡ Stream)
  pub reading : r' ≡ record r { state = Left 0 }

-- the body is cut, unless it was refused before
pub record Cuts (r : Reading) (fault : FedFault) (r' : Reading) : Type 0 where
  pub fault_is : fault ≡ refusal r.refused r.given
  pub not_whole : r.refused ≡ None → (is_end r.state ≡ false) × (r.state ≡ Stream → ⊥)
  pub reading : r' ≡ refused_by fault r

abbrev pub IsFinished : Reading → Result ⊤ FedFault → Reading → Type 0
IsFinished r (Ok done) r' = Finishes r r'
IsFinished r (Err fault) r' = Cuts r fault r'

-- the same, of the text that came
pub record FinishesAt (plan : BodyPlan) (limit : ℕ) (text : List ℕ) : Type 0 where
  pub accepted : fault_of plan limit text ≡ None
  pub whole : (is_ended plan limit text ≡ true) ⊎ (plan ≡ ToClose)

pub record CutsAt (plan : BodyPlan) (limit : ℕ) (text : List ℕ) (fault : FedFault) : Type 0 where
  pub fault_is : fault ≡ refusal (fault_of plan limit text) (length (content_of plan limit text))
  pub not_whole : fault_of plan limit text ≡ None → (is_ended plan limit text ≡ false) × (plan ≡ ToClose → ⊥)

abbrev pub IsFinishedAt : BodyPlan → ℕ → List ℕ → Result ⊤ FedFault → Type 0
IsFinishedAt plan limit text (Ok done) = FinishesAt plan limit text
IsFinishedAt plan limit text (Err fault) = CutsAt plan limit text fault

-- what was read of a text, whatever pieces it came in
pub record IsReadOf (plan : BodyPlan) (limit : ℕ) (text : List ℕ) (read : BodyRead) : Type 0 where
  pub content : read.content ≡ content_of plan limit text
  pub end : read.end ≡ is_ended plan limit text
  pub refused : read.refused ≡ fault_of plan limit text
