-- A client's link, and the bytes that wait for it, since a session began.
use Rattle.std.specs.Prelude.{ℕ, ◌≡◌, List, [], ◌++◌, OnOk, IfErr, Result, ⊤}
use mathlib.Core.List.{IsPrefix}
use Rattle.std.specs.declared.alloc.AllocError.{AllocError}
use Rattle.gp_outside.specs.Counts.{grown}
use Rattle.gp_outside.specs.Links.{LinkTells, LinkLater}
use Rattle.gp_outbox.specs.Flush.{Passed, FlushedBy}
use Rattle.gp_outbox.specs.declared.outbox.Flushed.{Flushed}

-- what the link told when the session began, what it tells, and the bytes that wait for it
pub record WireView : Type 0 where
  pub start : LinkTells
  pub link : LinkTells
  pub rest : List ℕ

-- a link with which a session begins
abbrev pub new_wire : LinkTells → WireView
new_wire link = record { start = link; link = link; rest = [] }

-- Row: the request. The bytes received since the session began are so.
pub record RequestRow (w : WireView) (Asks : List ℕ → Type 0) : Type 0 where
  pub received : List ℕ
  pub since : w.link.received ≡ grown w.start.received received
  pub asks : Asks received

-- Row: the bytes. What was sent since the session began, followed by what waits, is this.
pub record Sent (w : WireView) (all : List ℕ) : Type 0 where
  pub sent : List ℕ
  pub since : w.link.sent ≡ grown w.start.sent sent
  pub whole : sent ++ w.rest ≡ all

-- what was said to the client grew by these bytes
abbrev pub SaysMore : WireView → WireView → List ℕ → Type 0
SaysMore v w more = (text : List ℕ) → Sent v text → Sent w (text ++ more)

-- what every move keeps: how the session began, that no count fell, and that nothing that was said is taken back
pub record MovedWire (v w : WireView) : Type 0 where
  pub start : w.start ≡ v.start
  pub later : LinkLater v.link w.link
  pub more : List ℕ
  pub says : SaysMore v w more

-- what a session says to its client: this text, or a beginning of it
pub data Shape : Type 0 where
  exactly : List ℕ → Shape
  at_most : List ℕ → Shape

abbrev pub BytesRow : WireView → Shape → Type 0
BytesRow w (exactly all) = Sent w all
BytesRow w (at_most all) = (part : List ℕ) × IsPrefix part all × Sent w part

-- a flush
pub record Flushes (v w : WireView) (flushed : Flushed) : Type 0 where
  pub start : w.start ≡ v.start
  pub passed : Passed v.link w.link v.rest w.rest
  pub cause : FlushedBy v.link w.link w.rest flushed

-- three parts are put behind the bytes that wait; where memory is wanting nothing has changed
pub record Puts (v w : WireView) (head body tail : List ℕ) (result : Result ⊤ (List ℕ × AllocError)) : Type 0 where
  pub start : w.start ≡ v.start
  pub link : w.link ≡ v.link
  pub ok : OnOk result (w.rest ≡ v.rest ++ (head ++ (body ++ tail)))
  pub err : IfErr result (λ (e : List ℕ × AllocError). (e.0 ≡ body) × (w.rest ≡ v.rest))
