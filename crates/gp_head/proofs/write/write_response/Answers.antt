use Rattle.std.proofs.Common.{◌≡◌, rules}
use Rattle.gp_head.specs.Texts.{response_text}
use Rattle.gp_head.proofs.RoundTrip.{response_is_read_again}
use Rattle.gp_head.proofs.write.write_response.Goals as goal

pub returns-clause-again : goal.returns-clause-again
returns-clause-again c =
    let is : c.from_vec.result ≡ response_text c.args.head.now = search rules in
    response_is_read_again c.args.head.now c.from_vec.result is
