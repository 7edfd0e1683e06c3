use Rattle.std.proofs.Common.{◌∙◌, sym, ap, List, ℕ}
use Rattle.gp_routes.specs.Picks.{picked}
use Rattle.gp_ws.specs.Handshakes.{is_upgrade}
use Rattle.gp_session_http.specs.Routing.{host_of}
use Rattle.gp_session_http.proofs.cause.route_of.Goals as goal

pub returns-then-is_upgrade : goal.returns-then-is_upgrade
returns-then-is_upgrade c = record {
  route = c.in-Some.route.now;
  picked_is = ap (λ (h : List ℕ). picked h c.args.intake.now.path c.args.routes.now) (sym (c.host_of.ensures ∙ ap host_of c.head.ensures))
      ∙ ap (λ (p : List ℕ). picked c.host_of.result.now p c.args.routes.now) (sym c.path.ensures) ∙ sym c.in-Some.ensures.picked;
  asks = ap is_upgrade (sym c.head-in-Some.ensures) ∙ sym c.is_upgrade.ensures ∙ c.if-is_upgrade.true;
}
