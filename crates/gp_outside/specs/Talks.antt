-- Talks of a dialer, and what its calls do to them.
use Rattle.std.specs.Prelude.{ℕ, List, [], ◌∷◌, ◌++◌, Option, Some, None, option_map}
use Rattle.gp_plain.specs.declared.http.Address.{Address}

-- a talk: where it goes, and the bytes sent and received in it
pub record Talk : Type 0 where
  pub to : Address
  pub sent : List ℕ
  pub received : List ℕ

-- the talks that are over, oldest first, and the present one
pub record Talks : Type 0 where
  pub over : List Talk
  pub present : Option Talk

-- a talk in which nothing was sent or received yet
abbrev pub begun_to : Address → Talk
begun_to to = record { to = to; sent = []; received = [] }

-- the present talk as a list of at most one
abbrev pub present_of : Option Talk → List Talk
present_of None = []
present_of (Some talk) = talk ∷ []

-- all talks, oldest first
abbrev pub all_of : Talks → List Talk
all_of talks = talks.over ++ present_of talks.present

-- a connect outside of a talk begins the next one, and one in a talk goes on with it
abbrev pub or_begun : Address → Option Talk → Option Talk
or_begun to None = Some (begun_to to)
or_begun to (Some talk) = Some talk

abbrev pub dialed : Address → Talks → Talks
dialed to talks = record { over = talks.over; present = or_begun to talks.present }

-- bytes are sent in the present talk
abbrev pub wrote : List ℕ → Talks → Talks
wrote bytes talks = record { over = talks.over; present = option_map (λ (talk : Talk). record { to = talk.to; sent = talk.sent ++ bytes; received = talk.received }) talks.present }

-- bytes are received in the present talk
abbrev pub came : List ℕ → Talks → Talks
came bytes talks = record { over = talks.over; present = option_map (λ (talk : Talk). record { to = talk.to; sent = talk.sent; received = talk.received ++ bytes }) talks.present }

-- the present talk is over
abbrev pub hung_up : Talks → Talks
hung_up talks = record { over = all_of talks; present = None }
