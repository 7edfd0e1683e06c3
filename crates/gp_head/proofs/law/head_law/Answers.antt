use Rattle.std.proofs.lemmas.List.Elements.{All-filter, All-append}
use Rattle.gp_head.specs.Writable.{IsWritableField}
use Rattle.gp_head.proofs.RoundTrip.{request_is_writable, request_is_read_back, response_is_writable, response_is_read_back}
use Rattle.gp_head.proofs.PathTargets.{split_is_target}
use Rattle.gp_head.proofs.ValueLemmas.{value_goes_on}
use Rattle.gp_head.proofs.law.head_law.Goals as goal

pub returns : goal.returns
returns c = record {
  request_read = request_is_writable;
  response_read = response_is_writable;
  request_back = request_is_read_back;
  response_back = response_is_read_back;
  target = split_is_target;
  dropped = λ keep fields are. All-filter keep IsWritableField fields are;
  added = λ fields more are others. All-append IsWritableField fields more are others;
  value = value_goes_on;
}
