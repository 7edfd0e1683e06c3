use Rattle.std.proofs.Common.{false}
use Rattle.gp_session_wait.proofs.opening.Opening.attach.Goals as goal

pub returns-in-Kept-clause-entries : goal.returns-in-Kept-clause-entries
returns-in-Kept-clause-entries c = c.in-Kept.ensures.entries false

pub returns-in-Full-clause-entries : goal.returns-in-Full-clause-entries
returns-in-Full-clause-entries c = c.in-Full.ensures.entries false

pub returns-in-Busy-clause-entries : goal.returns-in-Busy-clause-entries
returns-in-Busy-clause-entries c = c.in-Busy.ensures.entries false

pub returns-in-Worn-clause-entries : goal.returns-in-Worn-clause-entries
returns-in-Worn-clause-entries c = c.in-Worn.ensures.entries false

pub returns-in-NoMemory-clause-entries : goal.returns-in-NoMemory-clause-entries
returns-in-NoMemory-clause-entries c = c.in-NoMemory.ensures.entries false
