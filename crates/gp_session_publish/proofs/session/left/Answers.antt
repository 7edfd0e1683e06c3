use Rattle.std.proofs.Common.{ap, ◌∙◌}
use Rattle.gp_session_publish.specs.Views.{LiveView}
use Rattle.gp_session_publish.proofs.Completing.{completes}
use Rattle.gp_session_publish.proofs.session.left.Goals as goal

pub returns : goal.returns
returns g c = record {
  finishes = c.requires;
  completes = completes c.request_law.ensures c.args.live c.args.ended c.requires;
  holds = ap (λ r. r.items) c.new.ensures;
  pass = c.into_pass.ensures ∙ ap (λ (l : LiveView). l.seat.pass) c.live.view_is;
  link_is = c.into_link.ensures ∙ ap (λ (l : LiveView). l.wire.link) c.live.view_is;
}
