use Rattle.gp_again.proofs.Linking.{answer_link, fields_link, page_link}
use Rattle.gp_again.proofs.law.link_law.Goals as goal

pub returns : goal.returns
returns c = record { fields = fields_link; answer = answer_link; page = page_link }
