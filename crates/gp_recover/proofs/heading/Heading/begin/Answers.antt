use Rattle.std.proofs.Common.{List, ℕ, [], ap, sym, subst}
use Rattle.gp_outside.specs.Dials.{DialTells}
use Rattle.gp_recover.specs.Moves.{Leads}
use Rattle.gp_recover.specs.Reading.{ReadingView}
use Rattle.gp_recover.proofs.Gathering.{begins, head_refused}
use Rattle.gp_recover.proofs.heading.Heading.begin.Goals as goal

pub advance-requires : goal.advance-requires
advance-requires g c = begins c.args.sought.now c.args.self c.args.head c.in-Ok.reader c.requires c.in-Ok.ensures.ok c.in-Ok.ensures.open

pub returns-in-Ok : goal.returns-in-Ok
returns-in-Ok g c =
    subst (λ (content : List ℕ). Leads c.args.sought.now c.args.self.exchange.place content (g.D.Dial.tells c.args.dial.now) (g.D.Dial.tells c.advance.new.dial) c.advance.result)
    (ap (λ (v : ReadingView). v.content) c.in-Ok.ensures.ok) c.advance.ensures

pub returns-in-Err : goal.returns-in-Err
returns-in-Err g c =
    subst (λ (d : DialTells). Leads c.args.sought.now c.args.self.exchange.place [] (g.D.Dial.tells c.args.dial.now) d c.refuse.result) (sym c.refuse.ensures.dial)
    (head_refused c.args.sought.now c.args.self c.args.head (g.D.Dial.tells c.args.dial.now) c.requires c.in-Err.unread c.in-Err.ensures.err c.refuse.result c.refuse.ensures.refusal)
