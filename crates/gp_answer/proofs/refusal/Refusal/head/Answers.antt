-- The lengths are computed.
use Rattle.std.proofs.Common.{rules}
use Rattle.std.specs.Fmt.{digits}
use Rattle.gp_answer.proofs.refusal.Refusal.head.Goals as goal

pub returns-in-BadRequest : goal.returns-in-BadRequest
unfolding digits
returns-in-BadRequest c = rw c.in-BadRequest.is (search rules)

pub returns-in-OtherSocketVersion : goal.returns-in-OtherSocketVersion
unfolding digits
returns-in-OtherSocketVersion c = rw c.in-OtherSocketVersion.is (search rules)

pub returns-in-NotFound : goal.returns-in-NotFound
unfolding digits
returns-in-NotFound c = rw c.in-NotFound.is (search rules)

pub returns-in-MethodNotAllowed : goal.returns-in-MethodNotAllowed
unfolding digits
returns-in-MethodNotAllowed c = rw c.in-MethodNotAllowed.is (search rules)

pub returns-in-ContentTooLarge : goal.returns-in-ContentTooLarge
unfolding digits
returns-in-ContentTooLarge c = rw c.in-ContentTooLarge.is (search rules)

pub returns-in-HeadTooLarge : goal.returns-in-HeadTooLarge
unfolding digits
returns-in-HeadTooLarge c = rw c.in-HeadTooLarge.is (search rules)

pub returns-in-NotImplemented : goal.returns-in-NotImplemented
unfolding digits
returns-in-NotImplemented c = rw c.in-NotImplemented.is (search rules)

pub returns-in-BadGateway : goal.returns-in-BadGateway
unfolding digits
returns-in-BadGateway c = rw c.in-BadGateway.is (search rules)

pub returns-in-Unavailable : goal.returns-in-Unavailable
unfolding digits
returns-in-Unavailable c = rw c.in-Unavailable.is (search rules)
