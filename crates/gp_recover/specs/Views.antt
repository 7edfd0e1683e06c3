-- What contracts see of a recovery.
use Rattle.std.specs.Prelude.{ℕ, ◌^◌, ◌-◌, Bool, true, false, List, [], codes, ⊤}
use Rattle.gp_plain.specs.declared.http.Address.{Address}
use Rattle.gp_exchange.specs.Views.{AskedView, ExchangeView}
use Rattle.gp_exchange.specs.declared.place.Place.{Place}
use Rattle.gp_exchange.specs.declared.place.Place.TheVariants as place
use Rattle.gp_recover.specs.declared.recovered.Last.{Last}
use Rattle.gp_recover.specs.declared.recovered.Last.TheVariants as last
use Rattle.gp_recover.specs.declared.recovered.Recovered.{Recovered}
use Rattle.gp_recover.specs.declared.recovered.Recovered.TheVariants.{Got, NotReady, Failed, NoMemory}
use Rattle.gp_recover.specs.declared.stage.Stage.{Stage}
use Rattle.gp_recover.specs.declared.stage.Stage.TheVariants.{Unbegun, Heading, Reading, Over, Lost}

-- where the talk goes, the bytes that are sent, the channel, and the id behind which its page is asked for
pub record SoughtView : Type 0 where
  pub to : Address
  pub request : List ℕ
  pub channel : List ℕ
  pub from : List ℕ

-- what is sought, and what the recovery waits for
pub record RecoveryView : Type 0 where
  pub sought : SoughtView
  pub stage : Stage

-- the exchange asks by GET, for an answer of any length
abbrev pub asked_by : SoughtView → AskedView
asked_by s = record { to = s.to; request = s.request; method = codes "GET"; limit = 2 ^ 64 - 1 }

-- what the exchange waits for, or waited for when the talk was hung up
abbrev pub place_at : SoughtView → Stage → Place
place_at s (Unbegun unbegun) = place.Unbegun s.request
place_at s (Heading heading) = heading.exchange.place
place_at s (Reading reading) = reading.exchange.place
place_at s (Over over) = over.exchange.value.place
place_at s Lost = place.Unbegun s.request

abbrev pub place_of : RecoveryView → Place
place_of r = place_at r.sought r.stage

abbrev pub exchange_of : RecoveryView → ExchangeView
exchange_of r = record { asked = asked_by r.sought; place = place_of r }

-- the content that was read, while the talk goes on
abbrev pub content_at : Stage → List ℕ
content_at (Unbegun unbegun) = []
content_at (Heading heading) = []
content_at (Reading reading) = reading.reader.content
content_at (Over over) = []
content_at Lost = []

abbrev pub is_over : Stage → Bool
is_over (Unbegun unbegun) = false
is_over (Heading heading) = false
is_over (Reading reading) = false
is_over (Over over) = true
is_over Lost = true

-- the recovery goes on
abbrev pub IsLive : Stage → Type 0
IsLive (Unbegun unbegun) = ⊤
IsLive (Heading heading) = ⊤
IsLive (Reading reading) = ⊤
IsLive (Over over) = ⊥
IsLive Lost = ⊥

-- the answer of an end
abbrev pub told : Last → Recovered
told (last.Got page) = Got page.value
told (last.Failed fault) = Failed fault
told last.NoMemory = NoMemory

-- the answer from then on: a page is given once
abbrev pub again : Last → Recovered
again (last.Got page) = NoMemory
again (last.Failed fault) = Failed fault
again last.NoMemory = NoMemory

-- the answer of the poll that led to a stage
abbrev pub answer_at : Stage → Recovered
answer_at (Unbegun unbegun) = NotReady
answer_at (Heading heading) = NotReady
answer_at (Reading reading) = NotReady
answer_at (Over over) = told over.last
answer_at Lost = NoMemory
