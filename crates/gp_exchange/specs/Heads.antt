-- The heads of a talk: interim ones, and then that of the response (RFC 9110, section 15.2).
use Rattle.std.specs.Prelude.{ℕ, ◌≡◌, ◌≢◌, ◌+◌, ◌≤◌, nat_le, Bool, true, false, ◌&&◌, ◌⊎◌, List, drop, ⊤}
use Rattle.gp_plain.specs.declared.http.Response.{Response}
use Rattle.gp_head.specs.declared.read.HeadRead.{HeadRead}
use Rattle.gp_head.specs.declared.read.HeadRead.TheVariants.{Whole, More, Bad, TooMany, TooLong, NoMemory}
use Rattle.gp_head.specs.Heads.{IsRead, IsResponseText}
use Rattle.gp_exchange.specs.declared.heading.Heading.{Heading}

-- a response with this code comes before another one
abbrev pub is_interim : ℕ → Bool
is_interim code = nat_le 100 code && nat_le code 199

-- so many interim heads stand at the front of the bytes, one after another, up to a place
pub data AreInterim (received : List ℕ) : ℕ → ℕ → Type 0 where
  none : AreInterim received 0 0
  more : (count at length : ℕ) (head : Response) → AreInterim received count at → IsRead IsResponseText (drop at received) (Whole head length)
      → is_interim head.code ≡ true → head.code ≢ 101 → AreInterim received (count + 1) (at + length)

-- the interim heads that came end at a place, and these bytes stand behind them
pub record HeadsSoFar (received : List ℕ) (h : Heading) : Type 0 where
  pub at : ℕ
  pub interim : AreInterim received h.interim at
  pub bytes : drop at received ≡ h.bytes

-- the head of the response stands behind at most eight interim heads, and ends at a place
pub record HasHead (received : List ℕ) (head : Response) (at : ℕ) : Type 0 where
  pub count : ℕ
  pub before : ℕ
  pub length : ℕ
  pub few : count ≤ 8
  pub interim : AreInterim received count before
  pub read : IsRead IsResponseText (drop before received) (Whole head length)
  pub final : is_interim head.code ≡ false
  pub at_is : at ≡ before + length

-- no head can be read of the bytes, or the input ended before it was whole
abbrev pub IsNoHead : Bool → HeadRead Response → Type 0
IsNoHead ended TooMany = ⊤
IsNoHead ended TooLong = ⊤
IsNoHead ended Bad = ⊤
IsNoHead ended More = ended ≡ true
IsNoHead ended (Whole head n) = ⊥
IsNoHead ended NoMemory = ⊥

-- behind at most eight interim heads no head can be read
pub record RefusesHead (received : List ℕ) (ended : Bool) : Type 0 where
  pub count : ℕ
  pub at : ℕ
  pub few : count ≤ 8
  pub interim : AreInterim received count at
  pub answer : HeadRead Response
  pub read : IsRead IsResponseText (drop at received) answer
  pub refused : IsNoHead ended answer

-- an interim head comes behind eight others, or has the code 101
pub record RefusesInterim (received : List ℕ) : Type 0 where
  pub count : ℕ
  pub at : ℕ
  pub length : ℕ
  pub head : Response
  pub few : count ≤ 8
  pub interim : AreInterim received count at
  pub read : IsRead IsResponseText (drop at received) (Whole head length)
  pub is_interim : is_interim head.code ≡ true
  pub over : (head.code ≡ 101) ⊎ (count ≡ 8)
