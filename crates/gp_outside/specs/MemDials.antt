-- A dialer in memory: each call takes the next turn of a list.
use Rattle.std.specs.Prelude.{ℕ, ◌-◌, nat_le, Bool, true, false, cond, List, [], ◌∷◌, length, take, drop, slice_get, Option, Some, None}
use Rattle.gp_plain.specs.declared.http.Address.{Address}
use Rattle.gp_outside.specs.Counts.{counted}
use Rattle.gp_outside.specs.Talks.{Talk, Talks, dialed, wrote, came, hung_up}
use Rattle.gp_outside.specs.Dials.{DialTells}
use Rattle.gp_outside.specs.Turning.{connected_by, got_by, put_by}
use Rattle.gp_outside.specs.declared.link.Got.{Got}
use Rattle.gp_outside.specs.declared.link.Got.TheVariants.{Took, End, NotReady, Failed}
use Rattle.gp_outside.specs.declared.link.Put.{Put}
use Rattle.gp_outside.specs.declared.link.Put.TheVariants.{Took as PutTook, NotReady as PutNotReady, Failed as PutFailed}
use Rattle.gp_outside.specs.declared.dial.Connected.{Connected}
use Rattle.gp_outside.specs.declared.dial.Connected.TheVariants.{Done, NotReady as ConnectNotReady, Failed as ConnectFailed}
use Rattle.gp_outside.specs.declared.turn.Turn.{Turn}

-- the talks, and whether they are told; what is left of the present talk's answer, the answers of the talks to come,
-- how many bytes there is still room for, the turns that are left, and the counts
pub record DialState : Type 0 where
  pub talks : Talks
  pub told : Bool
  pub input : List ℕ
  pub answers : List (List ℕ)
  pub room : ℕ
  pub connects : List Turn
  pub reads : List Turn
  pub writes : List Turn
  pub faults : ℕ
  pub connect_waits : ℕ
  pub read_waits : ℕ
  pub write_waits : ℕ
  pub ends : ℕ

abbrev pub told_dial : DialState → DialTells
told_dial dial = record { talks = cond dial.told (Some dial.talks) None; faults = dial.faults; connect_waits = dial.connect_waits; read_waits = dial.read_waits; write_waits = dial.write_waits; ends = dial.ends }

-- the next talk begins: it has the next answer, and its address's host takes its bytes from the room
abbrev pub begun_with : DialState → Address → List ℕ → List (List ℕ) → DialState
begun_with dial to answer answers = record dial { talks = dialed to dial.talks; input = answer; answers = answers; room = dial.room - length to.host }

abbrev pub begun_if_room : Bool → DialState → Address → List (List ℕ) → Option DialState
begun_if_room true dial to (answer ∷ answers) = Some (begun_with dial to answer answers)
begun_if_room true dial to [] = None
begun_if_room false dial to answers = None

-- the dialer in a talk: in the present one, or in the next one where there is an answer and room for it
abbrev pub in_talk_by : Option Talk → DialState → Address → Option DialState
in_talk_by (Some talk) dial to = Some dial
in_talk_by None dial to = begun_if_room (nat_le (length to.host) dial.room) dial to dial.answers

abbrev pub in_talk : DialState → Address → Option DialState
in_talk dial to = in_talk_by dial.talks.present dial to

-- the present talk is over
abbrev pub closed : DialState → DialState
closed dial = record dial { talks = hung_up dial.talks; input = [] }

-- what a connect answers: by its turn, where there is a talk, and else it fails
abbrev pub connect_of : Option DialState → Option Turn → Connected
connect_of None turn = ConnectFailed
connect_of (Some dial) turn = connected_by turn

abbrev pub dial_connect : DialState → Address → Connected
dial_connect dial to = connect_of (in_talk dial to) (slice_get dial.connects 0)

abbrev pub connected : DialState → Connected → DialState
connected dial Done = record dial { connects = drop 1 dial.connects }
connected dial ConnectNotReady = record dial { connects = drop 1 dial.connects; connect_waits = counted dial.connect_waits }
connected dial ConnectFailed = let over = closed dial in record over { connects = drop 1 dial.connects; faults = counted dial.faults }

-- a connect takes its turn; a failed one ends the talk. Where no talk could begin, the talks aren't told any more
abbrev pub after_connect_of : DialState → Option DialState → Connected → DialState
after_connect_of dial None answer = record dial { told = false; connects = drop 1 dial.connects; faults = counted dial.faults }
after_connect_of dial (Some talking) answer = connected talking answer

abbrev pub after_connect : DialState → Address → Connected → DialState
after_connect dial to answer = after_connect_of dial (in_talk dial to) answer

-- what a read into so many bytes answers; outside of a talk nothing is left to read
abbrev pub dial_got : DialState → ℕ → Got
dial_got dial into = got_by (slice_get dial.reads 0) into (length dial.input)

-- the first bytes of the answer are received
abbrev pub received : ℕ → DialState → DialState
received n dial = record dial { talks = came (take n dial.input) dial.talks; input = drop n dial.input }

-- a read takes its turn, and moves the first bytes of the answer
abbrev pub after_dial_got : DialState → Got → DialState
after_dial_got dial (Took n) = let now = received n dial in record now { reads = drop 1 dial.reads }
after_dial_got dial End = record dial { reads = drop 1 dial.reads; ends = counted dial.ends }
after_dial_got dial NotReady = record dial { reads = drop 1 dial.reads; read_waits = counted dial.read_waits }
after_dial_got dial Failed = record dial { reads = drop 1 dial.reads; faults = counted dial.faults }

-- outside of a talk there is no room
abbrev pub room_in : Option Talk → ℕ → ℕ
room_in None room = 0
room_in (Some talk) room = room

-- what a write of so many bytes answers
abbrev pub dial_put : DialState → ℕ → Put
dial_put dial from = put_by (slice_get dial.writes 0) from (room_in dial.talks.present dial.room)

-- bytes are sent, and take their room
abbrev pub sent : List ℕ → DialState → DialState
sent bytes dial = record dial { talks = wrote bytes dial.talks; room = dial.room - length bytes }

-- a write takes its turn, and sends the first bytes
abbrev pub after_dial_put : DialState → List ℕ → Put → DialState
after_dial_put dial from (PutTook n) = let now = sent (take n from) dial in record now { writes = drop 1 dial.writes }
after_dial_put dial from PutNotReady = record dial { writes = drop 1 dial.writes; write_waits = counted dial.write_waits }
after_dial_put dial from PutFailed = record dial { writes = drop 1 dial.writes; faults = counted dial.faults }
