-- What one poll of an intake reads of a link, and what it answers.
use Rattle.std.specs.Prelude.{◌≡◌, ℕ, ◌<◌, ◌⊎◌, List, [], ◌++◌, length, ⊤}
use Rattle.gp_outside.specs.Counts.{Rose, grown}
use Rattle.gp_outside.specs.Links.{LinkTells, LinkLater}
use Rattle.gp_intake.specs.declared.came.Came.{Came}
use Rattle.gp_intake.specs.declared.came.Came.TheVariants.{Bytes, NotReady, Gone, NoMemory}
use Rattle.gp_intake.specs.declared.head.HeadPolled.{HeadPolled}
use Rattle.gp_intake.specs.declared.head.HeadPolled.TheVariants as head
use Rattle.gp_intake.specs.declared.body.BodyPolled.{BodyPolled}
use Rattle.gp_intake.specs.declared.body.BodyPolled.TheVariants as body
use Rattle.gp_plain.specs.declared.http.Request.{Request}
use Rattle.gp_body.specs.declared.plan.BodyPlan.{BodyPlan}
use Rattle.gp_intake.specs.declared.fault.RequestFault.{RequestFault}
use Rattle.gp_intake.specs.Bodies.{ReadingView, HasCome, ComesOn, bytes_left}
use Rattle.gp_intake.specs.Heads.{IsBegun}
use Rattle.gp_intake.specs.Requests.{HeadedView, IsHeaded, IsUnderway, IsWhole, IsRefusedHead, IsRefusedBody}

-- these bytes were received, and nothing else of the link has changed but its counts of reads
pub record Hears (before now : LinkTells) (more : List ℕ) : Type 0 where
  pub received : now.received ≡ grown before.received more
  pub sent : now.sent ≡ before.sent
  pub write_waits : now.write_waits ≡ before.write_waits
  pub later : LinkLater before now

-- the link's input ended, or it failed
abbrev pub IsGone : LinkTells → LinkTells → Type 0
IsGone before now = Rose before.ends now.ends ⊎ Rose before.faults now.faults

-- what one read gave, into a list of bytes
abbrev pub CameTo : LinkTells → LinkTells → List ℕ → List ℕ → List ℕ → Came → Type 0
CameTo before now more was is Bytes = (0 < length more) × (is ≡ was ++ more)
CameTo before now more was is NotReady = (more ≡ []) × (is ≡ was) × Rose before.read_waits now.read_waits
CameTo before now more was is Gone = (more ≡ []) × (is ≡ was) × IsGone before now
CameTo before now more was is NoMemory = is ≡ was

pub record ReadsMore (before now : LinkTells) (was is : List ℕ) (came : Came) : Type 0 where
  pub more : List ℕ
  pub hears : Hears before now more
  pub says : CameTo before now more was is came

-- what one read gave, into a body; each byte brings its end nearer
abbrev pub BodyCameTo : LinkTells → LinkTells → List ℕ → ReadingView → ReadingView → Came → Type 0
BodyCameTo before now more v w Bytes = ComesOn more v w × (bytes_left w.reading < bytes_left v.reading)
BodyCameTo before now more v w NotReady = (more ≡ []) × (w ≡ v) × Rose before.read_waits now.read_waits
BodyCameTo before now more v w Gone = (more ≡ []) × (w ≡ v) × IsGone before now
BodyCameTo before now more v w NoMemory = ⊤

pub record ReadsBody (before now : LinkTells) (v w : ReadingView) (came : Came) : Type 0 where
  pub more : List ℕ
  pub hears : Hears before now more
  pub says : BodyCameTo before now more v w came

-- a beginning of the bytes was used, in which the head had begun
pub record UsedHead (received : List ℕ) : Type 0 where
  pub used : List ℕ
  pub unused : List ℕ
  pub split : received ≡ used ++ unused
  pub begun : IsBegun used

-- the body behind this head is underway
pub record IsStillUnderway (v : HeadedView) (received : List ℕ) : Type 0 where
  pub w : HeadedView
  pub underway : IsUnderway w received
  pub head_is : w.head ≡ v.head
  pub path_is : w.path ≡ v.path

-- a beginning of the bytes was used, in which it was underway
pub record UsedBody (v : HeadedView) (received : List ℕ) : Type 0 where
  pub used : List ℕ
  pub unused : List ℕ
  pub split : received ≡ used ++ unused
  pub still : IsStillUnderway v used

-- what a poll answers whose head had begun, of all bytes received
abbrev pub HeadSays : LinkTells → LinkTells → List ℕ → HeadPolled → Type 0
HeadSays before now received (head.Head v) = IsHeaded v received
HeadSays before now received (head.Refused refused) = IsRefusedHead refused received
HeadSays before now received (head.NotReady begun) = (begun ≡ received) × IsBegun received × Rose before.read_waits now.read_waits
HeadSays before now received head.ClientGone = IsBegun received × IsGone before now
HeadSays before now received head.NoMemory = UsedHead received

pub record PollsHead (begun : List ℕ) (before now : LinkTells) (answer : HeadPolled) : Type 0 where
  pub more : List ℕ
  pub hears : Hears before now more
  pub says : HeadSays before now (begun ++ more) answer

-- what a poll answers behind a head, of all bytes received
abbrev pub BodySays : LinkTells → LinkTells → HeadedView → List ℕ → BodyPolled → Type 0
BodySays before now v received (body.Whole whole) = IsWhole whole received × (whole.head ≡ v.head) × (whole.path ≡ v.path)
BodySays before now v received (body.Refused refused) = IsRefusedBody v refused received
BodySays before now v received (body.NotReady w) = IsUnderway w received × (w.head ≡ v.head) × (w.path ≡ v.path) × Rose before.read_waits now.read_waits
BodySays before now v received body.ClientGone = IsStillUnderway v received × IsGone before now
BodySays before now v received body.NoMemory = UsedBody v received

pub record PollsBody (v : HeadedView) (before now : LinkTells) (answer : BodyPolled) : Type 0 where
  pub more : List ℕ
  pub hears : Hears before now more
  pub says : (received : List ℕ) → IsHeaded v received → BodySays before now v (received ++ more) answer

-- all that reads gave since a poll began
pub record HasReadHead (before now : LinkTells) (was is : List ℕ) : Type 0 where
  pub more : List ℕ
  pub hears : Hears before now more
  pub bytes : is ≡ was ++ more

pub record HasReadBody (before now : LinkTells) (v w : ReadingView) : Type 0 where
  pub more : List ℕ
  pub hears : Hears before now more
  pub comes : ComesOn more v w

-- what is answered of bytes that begin with a whole head
abbrev pub BeginsBody : List ℕ → HeadPolled → Type 0
BeginsBody received (head.Head v) = IsHeaded v received
BeginsBody received (head.Refused refused) = IsRefusedHead refused received
BeginsBody received (head.NotReady begun) = ⊥
BeginsBody received head.ClientGone = ⊥
BeginsBody received head.NoMemory = ⊤

-- what is answered of a body that is refused, or has ended
abbrev pub AnswersRefused : HeadedView → BodyPolled → Type 0
AnswersRefused v (body.Whole whole) = ⊥
AnswersRefused v (body.Refused refused) = (received : List ℕ) → IsHeaded v received → IsRefusedBody v refused received
AnswersRefused v (body.NotReady w) = ⊥
AnswersRefused v body.ClientGone = ⊥
AnswersRefused v body.NoMemory = ⊥

abbrev pub AnswersWhole : HeadedView → BodyPolled → Type 0
AnswersWhole v (body.Whole whole) = ((received : List ℕ) → IsHeaded v received → IsWhole whole received) × (whole.head ≡ v.head) × (whole.path ≡ v.path)
AnswersWhole v (body.Refused refused) = ⊥
AnswersWhole v (body.NotReady w) = ⊥
AnswersWhole v body.ClientGone = ⊥
AnswersWhole v body.NoMemory = ⊥

-- what is answered of a head that is served, and of the bytes behind it
abbrev pub BeginsReading : Request → List ℕ → BodyPlan → List ℕ → HeadPolled → Type 0
BeginsReading request path plan bytes (head.Head v) = (v.head ≡ request) × (v.path ≡ path) × HasCome plan bytes v.body
BeginsReading request path plan bytes (head.Refused refused) = ⊥
BeginsReading request path plan bytes (head.NotReady begun) = ⊥
BeginsReading request path plan bytes head.ClientGone = ⊥
BeginsReading request path plan bytes head.NoMemory = ⊤

-- what is answered where no head was read
abbrev pub RefusesHead : RequestFault → HeadPolled → Type 0
RefusesHead fault (head.Head v) = ⊥
RefusesHead fault (head.Refused refused) = (refused.fault ≡ fault) × (refused.method ≡ [])
RefusesHead fault (head.NotReady begun) = ⊥
RefusesHead fault head.ClientGone = ⊥
RefusesHead fault head.NoMemory = ⊥
