use Rattle.std.proofs.Common.{sym}
use Rattle.gp_items.proofs.ItemLemmas.{listed_in}
use Rattle.gp_items.proofs.read.listed.Goals as goal

pub returns : goal.returns
returns c = rw c.as_slice.ensures.value (sym (listed_in _ _ c.in_ok-as_array.field-0.now.items c.in_ok-member.ensures c.in_ok-as_array.ensures))
