-- What reading a text byte by byte says of the bodies that the grammar has.
use Rattle.std.specs.Prelude.{◌≡◌, ℕ, ◌+◌, ◌-◌, ◌^◌, ◌<◌, ◌≤◌, min, true, false, ◌⊎◌, List, ◌++◌, length, take, Some, None, ⊤}
use Rattle.gp_body.specs.declared.plan.BodyPlan.{BodyPlan}
use Rattle.gp_body.specs.declared.plan.BodyPlan.TheVariants.{None as NoBody, Length, Chunked, ToClose}
use Rattle.gp_body.specs.declared.fed.FedFault.TheVariants.{Chunk, TooLong}
use Rattle.gp_body.specs.Bodies.{Spells}
use Rattle.gp_body.specs.Wholes.{content_of, is_ended, fault_of}

-- the plan says where the body ends
abbrev pub IsFramed : BodyPlan → Type 0
IsFramed NoBody = ⊤
IsFramed (Length n) = ⊤
IsFramed Chunked = ⊤
IsFramed ToClose = ⊥

-- a body with this content stands at the front of the text
pub record HasBody (plan : BodyPlan) (content text : List ℕ) : Type 0 where
  pub body : List ℕ
  pub behind : List ℕ
  pub text_is : text ≡ body ++ behind
  pub spells : Spells plan content body

-- some body begins with the text, and its content with this
pub record Begins (plan : BodyPlan) (content text : List ℕ) : Type 0 where
  pub rest : List ℕ
  pub behind : List ℕ
  pub spells : Spells plan (content ++ rest) (text ++ behind)

-- the content of each body that begins with the text begins with this
abbrev pub IsInEach : BodyPlan → List ℕ → List ℕ → Type 0
IsInEach plan content text = (whole behind : List ℕ) → Spells plan whole (text ++ behind) → take (length content) whole ≡ content

-- the text begins a body, and this is all the content that it settles: the longest beginning that the contents of the
-- bodies which begin with it have in common
pub record Settles (plan : BodyPlan) (content text : List ℕ) : Type 0 where
  pub begins : Begins plan content text
  pub each : IsInEach plan content text
  pub longest : (more : List ℕ) → IsInEach plan more text → length more ≤ length content

-- some body begins with the text
pub record CanGoOn (plan : BodyPlan) (text : List ℕ) : Type 0 where
  pub content : List ℕ
  pub behind : List ℕ
  pub spells : Spells plan content (text ++ behind)

-- it is the first place of the text at which no body can go on; a place above the type's end is told as its last value
pub record StopsAt (plan : BodyPlan) (text : List ℕ) (told : ℕ) : Type 0 where
  pub place : ℕ
  pub inside : place < length text
  pub told_is : told ≡ min place (2 ^ 64 - 1)
  pub before : CanGoOn plan (take place text)
  pub here : ¬ (CanGoOn plan (take (place + 1) text))

-- the byte at a place of the text is content number limit + 1
pub record IsOver (plan : BodyPlan) (limit : ℕ) (text : List ℕ) : Type 0 where
  pub place : ℕ
  pub inside : place < length text
  pub before : length (content_of plan limit (take place text)) ≡ limit
  pub here : (content behind : List ℕ) → Spells plan content (take (place + 1) text ++ behind) → limit < length content

-- the text was read to the end of a body with this content
pub record IsWhole (plan : BodyPlan) (limit : ℕ) (text content : List ℕ) : Type 0 where
  pub ended : is_ended plan limit text ≡ true
  pub content_is : content_of plan limit text ≡ content
  pub accepted : fault_of plan limit text ≡ None

-- the planned length is above the limit
pub record IsPlannedOver (plan : BodyPlan) (limit : ℕ) : Type 0 where
  pub planned : ℕ
  pub plan_is : plan ≡ Length planned
  pub above : limit < planned

-- of every plan, limit and text
pub record BodyLaw : Type 0 where
  -- where reading ends, a body has ended, and its content was read
  pub ended : (plan : BodyPlan) (limit : ℕ) (text : List ℕ) → is_ended plan limit text ≡ true → HasBody plan (content_of plan limit text) text
  -- where it ends with the text's last byte and not before, the text is the body, and nothing stands behind it
  pub exact : (plan : BodyPlan) (limit : ℕ) (text : List ℕ) → is_ended plan limit text ≡ true → ((n : ℕ) → n < length text → is_ended plan limit (take n text) ≡ false)
      → Spells plan (content_of plan limit text) text
  -- each body within the limit is read to its end, and what follows it isn't read
  pub whole : (plan : BodyPlan) (limit : ℕ) (content body behind : List ℕ) → IsFramed plan → Spells plan content body → length content ≤ limit
      → IsWhole plan limit (body ++ behind) content
  -- a text that isn't refused and in which no body has ended begins a body, and what was read is the content that it
  -- settles
  pub goes_on : (plan : BodyPlan) (limit : ℕ) (text : List ℕ) → IsFramed plan → fault_of plan limit text ≡ None → is_ended plan limit text ≡ false
      → Settles plan (content_of plan limit text) text
  -- up to the close each byte is content
  pub to_close : (limit : ℕ) (text : List ℕ) → length text ≤ limit → (fault_of ToClose limit text ≡ None) × (content_of ToClose limit text ≡ text)
  pub over_to_close : (limit : ℕ) (text : List ℕ) → limit < length text → (fault_of ToClose limit text ≡ Some (TooLong limit)) × (content_of ToClose limit text ≡ take limit text)
  -- the causes of refusals
  pub chunk : (plan : BodyPlan) (limit : ℕ) (text : List ℕ) (told : ℕ) → IsFramed plan → fault_of plan limit text ≡ Some (Chunk told) → StopsAt plan text told
  pub too_long : (plan : BodyPlan) (limit : ℕ) (text : List ℕ) (told : ℕ) → IsFramed plan → fault_of plan limit text ≡ Some (TooLong told)
      → (told ≡ limit) × (IsPlannedOver plan limit ⊎ IsOver plan limit text)
  pub planned_over : (limit n : ℕ) (text : List ℕ) → limit < n → fault_of (Length n) limit text ≡ Some (TooLong limit)
