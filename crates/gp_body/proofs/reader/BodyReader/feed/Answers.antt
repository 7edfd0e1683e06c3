use Rattle.std.proofs.Common.{ap, ◌∙◌}
use Rattle.gp_body.specs.declared.reading.Reading.{Reading}
use Rattle.gp_body.proofs.WholeLemmas.{fed_at, fed_again}
use Rattle.gp_body.proofs.reader.BodyReader.feed.Goals as goal

pub returns-clause-at : goal.returns-clause-at
returns-clause-at c = λ plan limit text stands.
    fed_at plan limit text c.self.inside.reading (c.self.view_is ∙ stands) c.args.bytes.now c.feed.result c.feed.new.self c.feed.ensures.fed

pub returns-clause-again : goal.returns-clause-again
returns-clause-again c = λ fault told.
    let again = fed_again c.self.inside.reading c.feed.new.self c.args.bytes.now c.feed.result fault c.feed.ensures.fed (ap (λ (r : Reading). r.refused) c.self.view_is ∙ told) in
    (again.0, again.1 ∙ c.self.view_is)
