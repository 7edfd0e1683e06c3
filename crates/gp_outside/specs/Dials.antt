-- What a call on a dialer says.
use Rattle.std.specs.Prelude.{ℕ, ◌≡◌, ◌<◌, ◌≤◌, ◌⊎◌, List, length, take, Option, None, IfSome, option_map}
use Rattle.gp_plain.specs.declared.http.Address.{Address}
use Rattle.gp_outside.specs.Counts.{Rose}
use Rattle.gp_outside.specs.Links.{ReadFaults, WriteFaults}
use Rattle.gp_outside.specs.Talks.{Talks, dialed, wrote, came, hung_up}
use Rattle.gp_outside.specs.declared.link.Got.{Got}
use Rattle.gp_outside.specs.declared.link.Got.TheVariants.{Took, End, NotReady, Failed}
use Rattle.gp_outside.specs.declared.link.Put.{Put}
use Rattle.gp_outside.specs.declared.link.Put.TheVariants.{Took as PutTook, NotReady as PutNotReady, Failed as PutFailed}
use Rattle.gp_outside.specs.declared.dial.Connected.{Connected}
use Rattle.gp_outside.specs.declared.dial.Connected.TheVariants.{Done, NotReady as ConnectNotReady, Failed as ConnectFailed}

-- what a dialer tells: its talks, where they can be known, and its counts
pub record DialTells : Type 0 where
  pub talks : Option Talks
  pub faults : ℕ
  pub connect_waits : ℕ
  pub read_waits : ℕ
  pub write_waits : ℕ
  pub ends : ℕ

-- it is in no talk, where it tells its talks
abbrev pub IsIdle : DialTells → Type 0
IsIdle dial = IfSome dial.talks (λ (talks : Talks). talks.present ≡ None)

-- no count fell
pub record DialLater (before now : DialTells) : Type 0 where
  pub faults : before.faults ≤ now.faults
  pub connect_waits : before.connect_waits ≤ now.connect_waits
  pub read_waits : before.read_waits ≤ now.read_waits
  pub write_waits : before.write_waits ≤ now.write_waits
  pub ends : before.ends ≤ now.ends

-- a failed connect has its fault, and every other leaves the count of faults as it was
abbrev pub ConnectFaults : Connected → ℕ → ℕ → Type 0
ConnectFaults ConnectFailed before now = Rose before now
ConnectFaults Done before now = now ≡ before
ConnectFaults ConnectNotReady before now = now ≡ before

-- a connect begins a talk or goes on with the present one; a failed one ends it, or the talks aren't told any more
abbrev pub Connects : DialTells → DialTells → Address → Connected → Type 0
Connects before now to Done = now.talks ≡ option_map (dialed to) before.talks
Connects before now to ConnectNotReady = (now.talks ≡ option_map (dialed to) before.talks) × Rose before.connect_waits now.connect_waits
Connects before now to ConnectFailed = (now.talks ≡ None) ⊎ (now.talks ≡ option_map (λ (talks : Talks). hung_up (dialed to talks)) before.talks)

pub record IsConnect (before now : DialTells) (to : Address) (connected : Connected) : Type 0 where
  pub later : DialLater before now
  pub read_waits : now.read_waits ≡ before.read_waits
  pub write_waits : now.write_waits ≡ before.write_waits
  pub ends : now.ends ≡ before.ends
  pub faulted : ConnectFaults connected before.faults now.faults
  pub moved : Connects before now to connected

-- a read receives the bytes that then stand first, at least one, or none; an end and a wait have their count
abbrev pub TalkReceives : DialTells → DialTells → List ℕ → Got → Type 0
TalkReceives before now into (Took n) = (0 < n) × (n ≤ length into) × (now.talks ≡ option_map (came (take n into)) before.talks)
TalkReceives before now into End = (now.talks ≡ before.talks) × Rose before.ends now.ends
TalkReceives before now into NotReady = (now.talks ≡ before.talks) × Rose before.read_waits now.read_waits
TalkReceives before now into Failed = now.talks ≡ before.talks

pub record IsDialRead (before now : DialTells) (into : List ℕ) (got : Got) : Type 0 where
  pub later : DialLater before now
  pub connect_waits : now.connect_waits ≡ before.connect_waits
  pub write_waits : now.write_waits ≡ before.write_waits
  pub faulted : ReadFaults got before.faults now.faults
  pub moved : TalkReceives before now into got

-- a write sends the first bytes, at least one, or none; a wait has its count
abbrev pub TalkSends : DialTells → DialTells → List ℕ → Put → Type 0
TalkSends before now from (PutTook n) = (0 < n) × (n ≤ length from) × (now.talks ≡ option_map (wrote (take n from)) before.talks)
TalkSends before now from PutNotReady = (now.talks ≡ before.talks) × Rose before.write_waits now.write_waits
TalkSends before now from PutFailed = now.talks ≡ before.talks

pub record IsDialWrite (before now : DialTells) (from : List ℕ) (put : Put) : Type 0 where
  pub later : DialLater before now
  pub connect_waits : now.connect_waits ≡ before.connect_waits
  pub read_waits : now.read_waits ≡ before.read_waits
  pub ends : now.ends ≡ before.ends
  pub faulted : WriteFaults put before.faults now.faults
  pub moved : TalkSends before now from put

-- the end of the present talk changes nothing else
abbrev pub after_hang_up : DialTells → DialTells
after_hang_up dial = record dial { talks = option_map hung_up dial.talks }
