use Rattle.gp_events.proofs.SpellLemmas.{spelled_is_read}
use Rattle.gp_events.proofs.LawLemmas.{read_is_spelled}
use Rattle.gp_events.proofs.law.events_law.Goals as goal

pub returns : goal.returns
returns c = record { read = spelled_is_read; spelled = read_is_spelled }
