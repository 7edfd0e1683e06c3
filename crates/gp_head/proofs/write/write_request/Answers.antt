use Rattle.std.proofs.lemmas.Grind.{common_steps}
use Rattle.std.proofs.Common.{◌≡◌, arith}
use Rattle.gp_head.specs.Texts.{request_text}
use Rattle.gp_head.proofs.RoundTrip.{request_is_read_again}
use Rattle.gp_head.proofs.write.write_request.Goals as goal

pub returns-clause-again : goal.returns-clause-again
returns-clause-again c =
    let is : c.from_vec.result ≡ request_text c.args.head.now = grind (arith, common_steps) in
    request_is_read_again c.args.head.now c.from_vec.result is
