-- What one call reads of all bytes that came.
use Rattle.std.specs.Prelude.{◌≡◌, ℕ, ◌<◌, ◌≤◌, false, List, ◌++◌, length, take, Some, None, Result, Ok, Err}
use Rattle.gp_body.specs.declared.plan.BodyPlan.{BodyPlan}
use Rattle.gp_body.specs.declared.fed.FedFault.{FedFault}
use Rattle.gp_body.specs.declared.fed.FedAll.{FedAll}
use Rattle.gp_body.specs.declared.fed.FedAllFault.{FedAllFault}
use Rattle.gp_body.specs.declared.fed.FedAllFault.TheVariants.{Body, NoMemory}
use Rattle.gp_body.specs.declared.reading.Reading.{Reading}
use Rattle.gp_body.specs.Steps.{is_end}
use Rattle.gp_body.specs.Readings.{after_all, content_from}
use Rattle.gp_body.specs.Wholes.{reading_of, content_of, is_ended, fault_of}

-- the first bytes were taken, and the content among them stands behind what was there before; the body hadn't ended in
-- front of any of them
pub record Gathers (r : Reading) (bytes : List ℕ) (taken : ℕ) (r' : Reading) (was now : List ℕ) : Type 0 where
  pub within : taken ≤ length bytes
  pub reading : r' ≡ after_all (take taken bytes) r
  pub content : now ≡ was ++ content_from (take taken bytes) r
  pub goes_on : r'.refused ≡ None
  pub waits : (n : ℕ) → n < taken → is_end (after_all (take n bytes) r).state ≡ false

-- all bytes were taken, or those up to the body's end
pub record FeedsAll (r : Reading) (bytes : List ℕ) (fed : FedAll) (r' : Reading) (was now : List ℕ) : Type 0 where
  pub gathers : Gathers r bytes fed.taken r' was now
  pub ended : fed.end ≡ is_end r'.state
  pub whole : fed.end ≡ false → fed.taken ≡ length bytes

-- the bytes were refused, and the content before the fault stands behind what was there before
pub record RefusesAll (r : Reading) (bytes : List ℕ) (fault : FedFault) (r' : Reading) (was now : List ℕ) : Type 0 where
  pub reading : r' ≡ after_all bytes r
  pub content : now ≡ was ++ content_from bytes r
  pub told : r'.refused ≡ Some fault

abbrev pub IsFedAll : Reading → List ℕ → Result FedAll FedFault → Reading → List ℕ → List ℕ → Type 0
IsFedAll r bytes (Ok fed) r' was now = FeedsAll r bytes fed r' was now
IsFedAll r bytes (Err fault) r' was now = RefusesAll r bytes fault r' was now

-- the same, with the text before the bytes
pub record FeedsAllAt (plan : BodyPlan) (limit : ℕ) (text bytes : List ℕ) (fed : FedAll) (r' : Reading) (was now : List ℕ) : Type 0 where
  pub within : fed.taken ≤ length bytes
  pub reading : r' ≡ reading_of plan limit (text ++ take fed.taken bytes)
  pub content : (before : List ℕ) → was ≡ before ++ content_of plan limit text → now ≡ before ++ content_of plan limit (text ++ take fed.taken bytes)
  pub goes_on : fault_of plan limit (text ++ take fed.taken bytes) ≡ None
  pub ended : fed.end ≡ is_ended plan limit (text ++ take fed.taken bytes)
  pub waits : (n : ℕ) → n < fed.taken → is_ended plan limit (text ++ take n bytes) ≡ false
  pub whole : fed.end ≡ false → fed.taken ≡ length bytes

pub record RefusesAllAt (plan : BodyPlan) (limit : ℕ) (text bytes : List ℕ) (fault : FedFault) (r' : Reading) (was now : List ℕ) : Type 0 where
  pub reading : r' ≡ reading_of plan limit (text ++ bytes)
  pub content : (before : List ℕ) → was ≡ before ++ content_of plan limit text → now ≡ before ++ content_of plan limit (text ++ bytes)
  pub told : fault_of plan limit (text ++ bytes) ≡ Some fault

-- want of memory changes nothing
pub record ChangesNone (r r' : Reading) (was now : List ℕ) : Type 0 where
  pub reading : r' ≡ r
  pub content : now ≡ was

-- what a feed of all bytes answers, of a list that stood for this and stands for that now
abbrev pub IsAllFed : Reading → List ℕ → Result FedAll FedAllFault → Reading → List ℕ → List ℕ → Type 0
IsAllFed r bytes (Ok fed) r' was now = FeedsAll r bytes fed r' was now
IsAllFed r bytes (Err (Body fault)) r' was now = RefusesAll r bytes fault r' was now
IsAllFed r bytes (Err NoMemory) r' was now = ChangesNone r r' was now

abbrev pub IsAllFedAt : BodyPlan → ℕ → List ℕ → List ℕ → Result FedAll FedAllFault → Reading → List ℕ → List ℕ → Type 0
IsAllFedAt plan limit text bytes (Ok fed) r' was now = FeedsAllAt plan limit text bytes fed r' was now
IsAllFedAt plan limit text bytes (Err (Body fault)) r' was now = RefusesAllAt plan limit text bytes fault r' was now
IsAllFedAt plan limit text bytes (Err NoMemory) r' was now = ChangesNone (reading_of plan limit text) r' was now
