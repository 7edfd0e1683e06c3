-- What every move of an exchange keeps.
use Rattle.std.specs.Prelude.{ℕ, ◌≡◌, ◌<◌, ◌≤◌, List, ◌++◌, length, ⊤}
use Rattle.gp_head.specs.declared.read.HeadRead.TheVariants.{More as Open}
use Rattle.gp_head.specs.Heads.{IsRead, IsResponseText}
use Rattle.gp_outside.specs.Dials.{DialTells, DialLater}
use Rattle.gp_outside.specs.Talks.{Talk}
use Rattle.gp_exchange.specs.Views.{AskedView}
use Rattle.gp_exchange.specs.Answers.{rank, told, Gives, IsOverBy, Marked, head_of, head_after}
use Rattle.gp_exchange.specs.Standing.{part_of, StandsAt}
use Rattle.gp_exchange.specs.declared.answer.Progress.{Progress}
use Rattle.gp_exchange.specs.declared.answer.Last.{Last}
use Rattle.gp_exchange.specs.declared.place.Next.{Next}
use Rattle.gp_exchange.specs.declared.place.Place.{Place}
use Rattle.gp_exchange.specs.declared.place.Place.TheVariants.{Unbegun, Connecting, Sending, Heading, Reading, Over}

-- the request is kept until it was sent, and the bytes kept are those of a head that isn't there whole
abbrev pub IsKept : AskedView → Place → Type 0
IsKept asked (Unbegun request) = request ≡ asked.request
IsKept asked (Connecting request) = request ≡ asked.request
IsKept asked (Sending sending) = (sending.request ≡ asked.request) × (sending.done ≤ length sending.request)
IsKept asked (Heading heading) = (IsRead IsResponseText heading.bytes Open) × (heading.interim ≤ 8)
IsKept asked (Reading reading) = ⊤
IsKept asked (Over over) = ⊤

-- a talk that goes on as the place had it stands as the next place has it, with what the answer gives
pub record Leads (asked : AskedView) (was : Place) (old now : DialTells) (next : Next) : Type 0 where
  pub kept : IsKept asked next.place
  pub begun : 0 < rank next.place
  pub later : DialLater old now
  pub gives : Gives was next.place old now next.progress
  pub marked : Marked was next.place old now
  pub heads : head_of next.place ≡ head_after (head_of was) next.progress
  pub stands : (before : List Talk) (given : List ℕ) → StandsAt asked before given was old.talks → StandsAt asked before (given ++ part_of next.progress) next.place now.talks
  pub over : 5 ≤ rank was → (now ≡ old) × (next.place ≡ was)

-- once it is over, the dialer isn't called, nothing changes, and the answer is the same again
abbrev pub StaysOver : Place → Place → DialTells → DialTells → Progress → Type 0
StaysOver was is old now progress = (last : Last) → IsOverBy last was → (is ≡ was) × (now ≡ old) × (progress ≡ told last)
