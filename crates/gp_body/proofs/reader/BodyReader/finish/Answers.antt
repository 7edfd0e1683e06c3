use Rattle.std.proofs.Common.{ap, ◌∙◌}
use Rattle.gp_body.specs.declared.reading.Reading.{Reading}
use Rattle.gp_body.proofs.EndLemmas.{finished_at, finished_again}
use Rattle.gp_body.proofs.reader.BodyReader.finish.Goals as goal

pub returns-clause-at : goal.returns-clause-at
returns-clause-at c = λ plan limit text stands.
    finished_at plan limit text c.self.inside.reading c.finish.new.self c.finish.result (c.self.view_is ∙ stands) c.finish.ensures.finished

pub returns-clause-again : goal.returns-clause-again
returns-clause-again c = λ fault told.
    let again = finished_again c.self.inside.reading c.finish.new.self c.finish.result fault c.finish.ensures.finished (ap (λ (r : Reading). r.refused) c.self.view_is ∙ told) in
    (again.0, again.1 ∙ c.self.view_is)
