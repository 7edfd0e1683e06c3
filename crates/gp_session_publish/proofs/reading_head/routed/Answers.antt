use Rattle.std.proofs.Common.{sym, subst, arith}
use Rattle.gp_plain.specs.declared.http.Request.{Request}
use Rattle.gp_intake.specs.Requests.{IsHeaded}
use Rattle.gp_session_publish.specs.Routing.{IsRefusedFor}
use Rattle.gp_session_publish.specs.Moves.{IsUnanswered}
use Rattle.gp_session_publish.proofs.Rows.{leads_from}
use Rattle.gp_session_publish.proofs.Hearing.{moved_same, unanswered_as, told_body, refused_route, routed}
use Rattle.gp_session_publish.proofs.reading_head.routed.Goals as goal

pub refuse-requires : goal.refuse-requires
refuse-requires g c =
    subst (λ (r : Request). IsUnanswered c.args.live.now (IsRefusedFor c.in-Some.cause r.method)) (sym c.head.ensures)
    (unanswered_as c.args.live.now (IsHeaded c.args.intake) _ c.requires.told (λ received headed. refused_route c.args.intake c.in-Some.cause received (sym c.in-Some.ensures) headed))

pub returns-in-Some : goal.returns-in-Some
returns-in-Some g c = record { leads = leads_from c.args.live.now c.args.live.now _ 2 4 _ (moved_same c.args.live.now) (omega arith) c.refuse.ensures }

pub returns-in-None : goal.returns-in-None
returns-in-None g c = record {
  leads = record {
    moved = moved_same c.args.live.now;
    to = (told_body c.args.live.now (record { intake = c.args.intake }) (unanswered_as c.args.live.now (IsHeaded c.args.intake) _ c.requires.told (λ received headed. (headed, routed c.args.intake (sym c.in-None.ensures)))), omega arith);
  };
}
