-- That bytes which begin with a whole request are read in no other way.
use Rattle.std.specs.Prelude.{◌≡◌, ℕ, List, ◌++◌}
use Rattle.gp_plain.specs.declared.http.Request.{Request}
use Rattle.gp_intake.specs.declared.body.Whole.{Whole}
use Rattle.gp_intake.specs.declared.fault.RequestFault.{RequestFault}
use Rattle.gp_intake.specs.Heads.{IsBegun}
use Rattle.gp_intake.specs.Requests.{HeadedView, IsHeaded, IsUnderway, IsWhole, IsHeadRefusedBy, IsBodyRefusedBy}

-- more bytes came behind a whole request
abbrev pub followed_by : Whole → List ℕ → Whole
followed_by w more = record w { unused = w.unused ++ more }

-- of all bytes received that begin with a whole request
pub record RequestLaw : Type 0 where
  -- its head hasn't only begun
  pub begun : (w : Whole) (received : List ℕ) → IsWhole w received → ¬ (IsBegun received)
  -- its body isn't underway
  pub underway : (w : Whole) (v : HeadedView) (received : List ℕ) → IsWhole w received → ¬ (IsUnderway v received)
  -- its head isn't refused
  pub head : (w : Whole) (received : List ℕ) (fault : RequestFault) (method : List ℕ) → IsWhole w received → ¬ (IsHeadRefusedBy received fault method)
  -- nor is its body
  pub body : (w : Whole) (head : Request) (path received : List ℕ) (fault : RequestFault) (method : List ℕ) → IsWhole w received
      → ¬ (IsBodyRefusedBy head path received fault method)
  -- the head that is served is its head, with its path and query
  pub headed : (w : Whole) (v : HeadedView) (received : List ℕ) → IsWhole w received → IsHeaded v received → (v.head ≡ w.head) × (v.path ≡ w.path)
  -- they begin with no other request
  pub one : (w other : Whole) (received : List ℕ) → IsWhole w received → IsWhole other received
      → (other.head ≡ w.head) × (other.path ≡ w.path) × (other.body ≡ w.body)
  -- more bytes are left unused behind it
  pub more : (w : Whole) (received more : List ℕ) → IsWhole w received → IsWhole (followed_by w more) (received ++ more)
  -- a head that was read before all came is its head too
  pub early : (w : Whole) (v : HeadedView) (received more : List ℕ) → IsWhole w (received ++ more) → IsHeaded v received
      → (v.head ≡ w.head) × (v.path ≡ w.path)
  -- a refusal stays, whatever bytes follow
  pub head_stays : (received more : List ℕ) (fault : RequestFault) (method : List ℕ) → IsHeadRefusedBy received fault method
      → IsHeadRefusedBy (received ++ more) fault method
  pub body_stays : (head : Request) (path received more : List ℕ) (fault : RequestFault) (method : List ℕ) → IsBodyRefusedBy head path received fault method
      → IsBodyRefusedBy head path (received ++ more) fault method
