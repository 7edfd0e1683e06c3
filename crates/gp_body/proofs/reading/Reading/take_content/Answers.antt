use Rattle.std.proofs.Common.{◌<◌, length, arith}
use Rattle.gp_body.specs.Steps.{content_len}
use Rattle.gp_body.proofs.RunLemmas.{too_long, takes, behind-sound}
use Rattle.gp_body.proofs.reading.Reading.take_content.Goals as goal
use Rattle.gp_body.proofs.reading.Reading.take_content.Goals.{else-run-gt0-via-then-run-gt0+else-room-eq0, else-run-gt0-via-else-run-gt0}

pub returns-then-room-eq0 : goal.returns-then-room-eq0
returns-then-room-eq0 c = record {
  read = too_long c.args.bytes.now c.args.self.now (omega (arith, c.content_len-run.ensures, c.if-run-gt0.true)) (omega (arith, c.if-room-eq0.true, c.requires.sound.within)) c.requires.«open»;
  sound = record { state = c.requires.sound.state; within = c.requires.sound.within };
}

pub returns : goal.returns
returns c =
    let r = c.args.self.now in
    let run = c.content_len-run.ensures in
    let n = c.min-run.ensures in
    let some : 0 < content_len r.state (length c.args.bytes.now) → 0 < c.min-run.result = λ h.
    elim c.else-run-gt0.branch [ else-run-gt0-via-then-run-gt0+else-room-eq0 w ↦ omega (arith, run, n, w.if-room-eq0.false, h) | else-run-gt0-via-else-run-gt0 w ↦ absurd (omega (arith, run, h, w.if-run-gt0.false)) ] in
    record {
      read = takes r c.args.bytes.now c.min-run.result c.saturating_add-self.result c.behind-self.result c.requires.«open» c.requires.sound.within (omega (arith, c.fits-self)) (omega (arith, run, n)) some c.behind-self.ensures c.saturating_add-self.ensures;
      sound = record { state = rw c.behind-self.ensures (behind-sound r.state c.min-run.result c.requires.sound.state); within = omega (arith, n, c.requires.sound.within) };
    }
