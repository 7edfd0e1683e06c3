use Rattle.gp_hub.proofs.Counts.{next_below}
use Rattle.gp_hub.proofs.served.ServedKept.serve.Goals as goal

pub step-requires-clause-room : goal.step-requires-clause-room
step-requires-clause-room c = next_below c.args.self.now.registry c.requires.room.0 _ c.requires.room.1 c.requires.room.2
