use Rattle.gp_body.specs.Readings.{after_all}
use Rattle.gp_body.specs.Wholes.{reading_of}
use Rattle.gp_body.proofs.reader.BodyReader.new.Goals as goal

pub returns : goal.returns
unfolding reading_of after_all
returns c = c.opening.ensures.opening
