use Rattle.std.proofs.Common.{refl, ap, ◌∙◌}
use Rattle.gp_session_recover.specs.Rows.{RecoveringView, failed, got, lost, waits}
use Rattle.gp_session_recover.proofs.Advancing.{link_target}
use Rattle.gp_session_recover.proofs.recovering.Recovering.go_on.Goals as goal

pub follow-requires : goal.follow-requires
follow-requires g c = link_target c.link_law.ensures c.args.opened c.args.line.now c.advance.new.line c.in-Got.page c.in-Got.link c.in-Got.ensures

pub returns-in-Waits-clause-says : goal.returns-in-Waits-clause-says
returns-in-Waits-clause-says g c = waits c.in-Waits.open (ap (λ (v : RecoveringView). v.talk) c.set_talk.ensures) (ap (λ (v : RecoveringView). v.again) c.set_talk.ensures) c.in-Waits.ensures.says

pub returns-in-Got-clause-says : goal.returns-in-Got-clause-says
returns-in-Got-clause-says g c =
    got c.in-Got.page c.in-Got.link (ap (λ (v : RecoveringView). v.talk) c.set_talk-in-Got.ensures) (ap (λ (v : RecoveringView). v.again) c.set_talk-in-Got.ensures ∙ ap (λ (v : RecoveringView). v.again) c.follow.ensures) c.in-Got.ensures.says

pub returns-in-Failed-clause-says : goal.returns-in-Failed-clause-says
returns-in-Failed-clause-says g c = failed (ap (λ (v : RecoveringView). v.talk) c.set_talk-in-Failed.ensures) (ap (λ (v : RecoveringView). v.again) c.set_talk-in-Failed.ensures) c.in-Failed.ensures.says

pub returns-in-NoMemory-clause-says : goal.returns-in-NoMemory-clause-says
returns-in-NoMemory-clause-says g c = lost c.requires.none refl c.in-NoMemory.ensures.says
