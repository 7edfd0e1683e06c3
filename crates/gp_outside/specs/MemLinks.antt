-- A link in memory: each call takes the next turn of a list.
use Rattle.std.specs.Prelude.{ℕ, ◌-◌, List, ◌++◌, length, take, drop, slice_get, Some}
use Rattle.gp_outside.specs.Counts.{counted}
use Rattle.gp_outside.specs.Links.{LinkTells}
use Rattle.gp_outside.specs.Turning.{got_by, put_by}
use Rattle.gp_outside.specs.declared.link.Got.{Got}
use Rattle.gp_outside.specs.declared.link.Got.TheVariants.{Took, End, NotReady, Failed}
use Rattle.gp_outside.specs.declared.link.Put.{Put}
use Rattle.gp_outside.specs.declared.link.Put.TheVariants.{Took as PutTook, NotReady as PutNotReady, Failed as PutFailed}
use Rattle.gp_outside.specs.declared.turn.Turn.{Turn}

-- what was received, the input that is left, what was sent, how many bytes there is still room for, the turns that
-- are left, and the counts
pub record LinkState : Type 0 where
  pub received : List ℕ
  pub input : List ℕ
  pub sent : List ℕ
  pub room : ℕ
  pub reads : List Turn
  pub writes : List Turn
  pub faults : ℕ
  pub read_waits : ℕ
  pub write_waits : ℕ
  pub ends : ℕ

abbrev pub told_link : LinkState → LinkTells
told_link link = record { received = Some link.received; sent = Some link.sent; faults = link.faults; read_waits = link.read_waits; write_waits = link.write_waits; ends = link.ends }

-- what a read into so many bytes answers
abbrev pub link_got : LinkState → ℕ → Got
link_got link into = got_by (slice_get link.reads 0) into (length link.input)

-- a read takes its turn, and moves the first bytes of the input
abbrev pub after_got : LinkState → Got → LinkState
after_got link (Took n) = record link { received = link.received ++ take n link.input; input = drop n link.input; reads = drop 1 link.reads }
after_got link End = record link { reads = drop 1 link.reads; ends = counted link.ends }
after_got link NotReady = record link { reads = drop 1 link.reads; read_waits = counted link.read_waits }
after_got link Failed = record link { reads = drop 1 link.reads; faults = counted link.faults }

-- what a write of so many bytes answers
abbrev pub link_put : LinkState → ℕ → Put
link_put link from = put_by (slice_get link.writes 0) from link.room

-- a write takes its turn, and adds the first bytes
abbrev pub after_put : LinkState → List ℕ → Put → LinkState
after_put link from (PutTook n) = record link { sent = link.sent ++ take n from; room = link.room - n; writes = drop 1 link.writes }
after_put link from PutNotReady = record link { writes = drop 1 link.writes; write_waits = counted link.write_waits }
after_put link from PutFailed = record link { writes = drop 1 link.writes; faults = counted link.faults }
