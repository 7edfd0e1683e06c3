use Rattle.gp_intake.proofs.Coming.{cause_of}
use Rattle.gp_intake.proofs.reading.BodyReading.refusal.Goals as goal

pub returns-clause-cause : goal.returns-clause-cause
returns-clause-cause c = rw c.refusal.ensures (cause_of _ c.self.invariant)
