-- The talk of a recovery, behind the talks of a session.
use Rattle.std.specs.Prelude.{ℕ, List, [], ◌∷◌, ◌++◌}
use Rattle.gp_exchange.specs.declared.place.Place.{Place}
use Rattle.gp_exchange.specs.declared.place.Place.TheVariants as place
use Rattle.gp_recover.specs.Views.{RecoveryView, SoughtView, asked_by, content_at, exchange_of}
use Rattle.gp_recover.specs.declared.stage.Stage.{Stage}
use Rattle.gp_recover.specs.declared.stage.Stage.TheVariants.{Unbegun, Heading, Reading, Over, Lost}
use Rattle.gp_session.specs.Lines.{Aim, Said, Last, LineView, LineRow, aim_sought, idle, speaking}

-- the exchange of a recovery, and the content that was read
abbrev pub said_by : RecoveryView → Said
said_by r = record { exchange = exchange_of r; given = content_at r.stage }

abbrev pub seeking_at : SoughtView → Place → List ℕ → Last
seeking_at s at content = speaking (record { exchange = record { asked = asked_by s; place = at }; given = content })

-- a recovery that is over is one of the talks behind these; one that goes on is the last exchange
abbrev pub aims_at : SoughtView → Stage → List Aim → List Aim
aims_at s (Unbegun unbegun) aims = aims
aims_at s (Heading heading) aims = aims
aims_at s (Reading reading) aims = aims
aims_at s (Over over) aims = aims ++ aim_sought (record { sought = s; at = over.exchange.value.place; end = over.last }) ∷ []
aims_at s Lost aims = aims

abbrev pub last_at : SoughtView → Stage → Last
last_at s (Unbegun unbegun) = seeking_at s (place.Unbegun s.request) []
last_at s (Heading heading) = seeking_at s heading.exchange.place []
last_at s (Reading reading) = seeking_at s reading.exchange.place reading.reader.content
last_at s (Over over) = idle
last_at s Lost = idle

-- Row: the talks, behind which stands that of a recovery
abbrev pub SeeksRow : LineView → List Aim → RecoveryView → Type 0
SeeksRow l aims r = LineRow l (aims_at r.sought r.stage aims) (last_at r.sought r.stage)
