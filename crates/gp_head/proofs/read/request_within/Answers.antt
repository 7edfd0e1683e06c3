use Rattle.std.proofs.Common.{sym, ◌∙◌}
use Rattle.gp_head.specs.declared.read.HeadRead.TheVariants.{Whole, Bad, TooMany, TooLong}
use Rattle.gp_head.specs.Heads.{IsRequestText}
use Rattle.gp_head.proofs.ExtentLemmas.{is_head_text}
use Rattle.gp_head.proofs.SettledLemmas.{settled}
use Rattle.gp_head.proofs.read.request_within.Goals as goal

pub slice_bounds-request_of-end : goal.slice_bounds-request_of-end
slice_bounds-request_of-end c = sym (is_head_text c.args.bytes.now c.in-Ends.end (sym c.in-Ends.is ∙ c.requires)).length_is

pub request_of-requires-clause-ends : goal.request_of-requires-clause-ends
request_of-requires-clause-ends c = (is_head_text c.args.bytes.now c.in-Ends.end (sym c.in-Ends.is ∙ c.requires)).end

pub request_of-requires-clause-few : goal.request_of-requires-clause-few
request_of-requires-clause-few c = (is_head_text c.args.bytes.now c.in-Ends.end (sym c.in-Ends.is ∙ c.requires)).few

pub returns-in-TooMany-clause-settled : goal.returns-in-TooMany-clause-settled
returns-in-TooMany-clause-settled c = settled IsRequestText c.args.bytes.now TooMany (sym c.requires ∙ c.in-TooMany.is)

pub returns-in-TooLong-clause-settled : goal.returns-in-TooLong-clause-settled
returns-in-TooLong-clause-settled c = settled IsRequestText c.args.bytes.now TooLong (sym c.requires ∙ c.in-TooLong.is)

pub returns-in-Ok-clause-settled : goal.returns-in-Ok-clause-settled
returns-in-Ok-clause-settled c = settled IsRequestText c.args.bytes.now (Whole _ _) (sym c.requires ∙ c.in-Ends.is, c.in-Ok.ensures)

pub returns-in-Err-Bad-clause-settled : goal.returns-in-Err-Bad-clause-settled
returns-in-Err-Bad-clause-settled c = settled IsRequestText c.args.bytes.now Bad (c.in-Ends.end, sym c.requires ∙ c.in-Ends.is, rw c.in-Err-Bad.field-0-is at c.in-Err-Bad.ensures)
