use Rattle.std.proofs.Common.{◌≡◌, sym, ap, subst, arith, refl, List, []}
use Rattle.gp_plain.specs.declared.http.Request.{Request}
use Rattle.gp_routes.specs.declared.route.Rule.{Rule}
use Rattle.gp_intake.specs.Requests.{IsHeaded}
use Rattle.gp_intake.proofs.Asking.{none_begun}
use Rattle.gp_session_http.specs.Routing.{IsRefusedFor, IsRouted, IsUnrouted}
use Rattle.gp_session_http.specs.Views.{LiveView}
use Rattle.gp_session_http.specs.Trace.{Asks}
use Rattle.gp_session_http.specs.Moves.{IsUnanswered, Used}
use Rattle.gp_session_http.specs.declared.stage.Stage.TheVariants.{ReadingHead, ReadingBody}
use Rattle.gp_session_http.specs.declared.reading_head.ReadingHead.{ReadingHead as HeadStage}
use Rattle.gp_session_http.specs.declared.reading_body.ReadingBody.{ReadingBody as BodyStage}
use Rattle.gp_session_http.proofs.Rows.{leads_from, moved_same}
use Rattle.gp_session_http.proofs.Hearing.{unanswered_as, told_body, refused_route, head_no_memory_end}
use Rattle.gp_session_http.proofs.reading_head.routed.Goals as goal

pub refuse-requires : goal.refuse-requires
refuse-requires g c =
    let l = c.args.live.now in
    let rules : c.live.inside.routes.now ≡ l.charter.rules = ap (λ (x : LiveView). x.charter.rules) c.live.view_is in
    let un : IsUnrouted l.charter.rules c.args.intake.head c.args.intake.path c.in-Refused.cause =
    subst (λ (rs : List Rule). IsUnrouted rs c.args.intake.head c.args.intake.path c.in-Refused.cause) rules c.in-Refused.ensures in
    subst (λ (r : Request). IsUnanswered l (IsRefusedFor l.charter.rules c.in-Refused.cause r.method)) (sym c.head.ensures)
    (unanswered_as l (IsHeaded c.args.intake) _ c.requires.told (λ received headed. refused_route l.charter.rules c.args.intake c.in-Refused.cause received un headed))

pub returns-in-Refused : goal.returns-in-Refused
returns-in-Refused g c = record { leads = leads_from c.args.live.now c.args.live.now _ 2 5 _ (moved_same c.args.live.now) (omega arith) c.refuse.ensures }

pub returns-in-Origin : goal.returns-in-Origin
returns-in-Origin g c =
    let l = c.args.live.now in
    let rules : c.live.inside.routes.now ≡ l.charter.rules = ap (λ (x : LiveView). x.charter.rules) c.live.view_is in
    let routed : IsRouted l.charter.rules c.args.intake.head c.args.intake.path c.in-Origin.address =
    subst (λ (rs : List Rule). IsRouted rs c.args.intake.head c.args.intake.path c.in-Origin.address) rules c.in-Origin.ensures in
    let s : BodyStage = record { intake = c.args.intake; address = c.in-Origin.address } in
    record {
      leads = record {
        moved = moved_same l;
        to = (told_body l s (unanswered_as l (IsHeaded c.args.intake) (Asks l.charter (ReadingBody s)) c.requires.told (λ received headed. (headed, routed))), omega arith);
      };
    }

pub returns-in-NoMemory : goal.returns-in-NoMemory
returns-in-NoMemory g c =
    let l = c.args.live.now in
    let t : HeadStage = record { intake = [] } in
    record {
      leads = head_no_memory_end l t 5 l (moved_same l) (unanswered_as l (IsHeaded c.args.intake) (Used l.charter (ReadingHead t)) c.requires.told (λ received h. record { used = []; unused = received; split = refl; asks = (refl, none_begun) }))
          c.end_with.result c.end_with.ensures;
    }
