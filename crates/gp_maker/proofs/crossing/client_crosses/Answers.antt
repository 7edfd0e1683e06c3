use denote.Exit.{no}
use denote.Param.Send.{param_send, arg_send}
use mir.Syntax.{named}
use Rattle.gp_maker.proofs.Sent.{serving_send}
use Rattle.gp_maker.proofs.crossing.client_crosses.Goals as goal

pub moves-requires-send-T : goal.moves-requires-send-T
moves-requires-send-T g c κs within = param_send 0 _ (arg_send _ no _ (serving_send (record { mir = named 1; lft = κs.1.0 }) _ _ _ _ _ _ _ _ _ _ c.type_bounds.send-K-Listen-Link c.type_bounds.send-K-Dial c.type_bounds.send-K-Clock))
