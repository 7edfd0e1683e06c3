-- What a read of a talk brings.
use Rattle.std.specs.Prelude.{ℕ, ◌≡◌, ◌<◌, List, ◌++◌, length, option_map}
use Rattle.gp_body.specs.declared.reading.Reading.{Reading}
use Rattle.gp_body.specs.Readings.{after_all, content_from}
use Rattle.gp_outside.specs.Counts.{Rose}
use Rattle.gp_outside.specs.Dials.{DialTells}
use Rattle.gp_outside.specs.Talks.{came}
use Rattle.gp_exchange.specs.declared.heads.Came.{Came}
use Rattle.gp_exchange.specs.declared.heads.Came.TheVariants.{Bytes, NotReady, End, Failed, NoMemory}

-- bytes came in the talk
pub record Comes (before now : DialTells) (more : List ℕ) : Type 0 where
  pub some : 0 < length more
  pub talks : now.talks ≡ option_map (came more) before.talks

-- a read without bytes leaves the talks, and has its count
abbrev pub Hears : DialTells → DialTells → Came → Type 0
Hears before now Bytes = (more : List ℕ) × Comes before now more
Hears before now NotReady = (now.talks ≡ before.talks) × Rose before.read_waits now.read_waits
Hears before now End = (now.talks ≡ before.talks) × Rose before.ends now.ends
Hears before now Failed = (now.talks ≡ before.talks) × Rose before.faults now.faults
Hears before now NoMemory = (more : List ℕ) × Comes before now more

-- bytes of a head are added to those that came before
abbrev pub HearsHead : DialTells → DialTells → List ℕ → List ℕ → Came → Type 0
HearsHead before now was is Bytes = (more : List ℕ) × Comes before now more × (is ≡ was ++ more)
HearsHead before now was is NotReady = Hears before now NotReady × (is ≡ was)
HearsHead before now was is End = Hears before now End
HearsHead before now was is Failed = Hears before now Failed
HearsHead before now was is NoMemory = Hears before now NoMemory

-- bytes of a body are read, and their content is added to a part
pub record ReadsOn (r r' : Reading) (was is more : List ℕ) : Type 0 where
  pub reading : r' ≡ after_all more r
  pub content : is ≡ was ++ content_from more r

abbrev pub HearsBody : DialTells → DialTells → Reading → Reading → List ℕ → List ℕ → Came → Type 0
HearsBody before now r r' was is Bytes = (more : List ℕ) × Comes before now more × ReadsOn r r' was is more
HearsBody before now r r' was is NotReady = Hears before now NotReady × (r' ≡ r)
HearsBody before now r r' was is End = Hears before now End × (r' ≡ r)
HearsBody before now r r' was is Failed = Hears before now Failed × (r' ≡ r)
HearsBody before now r r' was is NoMemory = Hears before now NoMemory
