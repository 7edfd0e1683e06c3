use Rattle.std.proofs.Common.{◌∙◌}
use Rattle.gp_body.proofs.GatherLemmas.{all_fed_at}
use Rattle.gp_body.proofs.reader.BodyReader.feed_all.Goals as goal

pub returns-clause-at : goal.returns-clause-at
returns-clause-at c = λ plan limit text stands.
    all_fed_at plan limit text c.self.inside.reading (c.self.view_is ∙ stands) c.args.bytes.now c.args.into.now.items c.feed_all.new.into.items c.feed_all.result c.feed_all.new.self c.feed_all.ensures.fed
