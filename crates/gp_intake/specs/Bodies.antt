-- What has come of a body, and what is left to come (RFC 9112, section 6).
use Rattle.std.specs.Prelude.{◌≡◌, ℕ, ◌+◌, ◌-◌, ◌*◌, ◌<◌, false, cond, zero, suc, List, [], ◌++◌, length, take, Option, Some, None}
use Rattle.gp_body.specs.declared.plan.BodyPlan.{BodyPlan}
use Rattle.gp_body.specs.declared.reading.Reading.{Reading}
use Rattle.gp_body.specs.declared.fed.FedFault.{FedFault}
use Rattle.gp_body.specs.declared.fed.FedFault.TheVariants.{Chunk, TooLong, Cut}
use Rattle.gp_body.specs.declared.state.State.{State}
use Rattle.gp_body.specs.declared.state.State.TheVariants.{Left, Stream, Size, Extension, SizeReturn, Data, DataReturn, Trailer, Field, FieldReturn, LastReturn}
use Rattle.gp_body.specs.Steps.{is_end}
use Rattle.gp_body.specs.Readings.{has_stopped}
use Rattle.gp_body.specs.Wholes.{reading_of, content_of, is_ended}
use Rattle.gp_intake.specs.declared.reading.TheConstants.{MAX_BODY}

-- how far a body was read, its content so far, and the bytes that came behind its end
pub record ReadingView : Type 0 where
  pub reading : Reading
  pub content : List ℕ
  pub unused : List ℕ

-- these bytes came of a body with this plan, the bytes behind its end among them; nothing is behind it before it has ended
pub record HasCome (plan : BodyPlan) (bytes : List ℕ) (v : ReadingView) : Type 0 where
  pub text : List ℕ
  pub split : bytes ≡ text ++ v.unused
  pub reading : v.reading ≡ reading_of plan MAX_BODY text
  pub content : v.content ≡ content_of plan MAX_BODY text
  pub waits : v.reading.refused ≡ None → (n : ℕ) → n < length text → is_ended plan MAX_BODY (take n text) ≡ false
  pub nothing : is_end v.reading.state ≡ false → v.unused ≡ []

-- such a plan and such bytes
pub record IsOfBody (v : ReadingView) : Type 0 where
  pub plan : BodyPlan
  pub bytes : List ℕ
  pub come : HasCome plan bytes v

-- more bytes came
abbrev pub ComesOn : List ℕ → ReadingView → ReadingView → Type 0
ComesOn more v w = (plan : BodyPlan) (bytes : List ℕ) → HasCome plan bytes v → HasCome plan (bytes ++ more) w

-- a refusal is of the grammar of chunks, or of the limit
abbrev pub IsCause : ℕ → Option FedFault → Type 0
IsCause limit None = Unit {0}
IsCause limit (Some (Chunk place)) = Unit {0}
IsCause limit (Some (TooLong told)) = told ≡ limit
IsCause limit (Some (Cut n)) = ⊥

-- neither refused nor at its end
pub record IsOpen (r : Reading) : Type 0 where
  pub refused : r.refused ≡ None
  pub ended : is_end r.state ≡ false

-- how many bytes of framing may come before the next byte of content or the end, at the most
abbrev pub framing_left : State → ℕ
framing_left (Left n) = 0
framing_left Stream = 0
framing_left (Size digits size) = 16997 - digits
framing_left (Extension size line) = 16988 - line
framing_left (SizeReturn size) = 16700
framing_left (Data zero) = 16999
framing_left (Data (suc n)) = 1
framing_left DataReturn = 16998
framing_left (Trailer n) = 16640 - n
framing_left (Field n) = 16640 - n
framing_left (FieldReturn n) = 16639 - n
framing_left LastReturn = 1

-- how many bytes may come before the body ends or is refused, at the most
abbrev pub left_of : Reading → ℕ
left_of r = (r.limit - r.given) * 17000 + framing_left r.state

abbrev pub bytes_left : Reading → ℕ
bytes_left r = cond (has_stopped r) 0 (left_of r + 1)

-- each byte brings the end nearer
abbrev pub Nearer : List ℕ → Reading → Reading → Type 0
Nearer more r s = IsOpen r → 0 < length more → bytes_left s < bytes_left r
