use Rattle.std.proofs.lemmas.Result.{MatchResult-weaker}
use Rattle.serde_json.specs.View.{view}
use Rattle.gp_items.proofs.ItemLemmas.{fault_told}
use Rattle.gp_items.proofs.FitLemmas.{object_fits}
use Rattle.gp_items.proofs.read.read_items.Goals as goal

pub returns-in-Ok-clause-fit : goal.returns-in-Ok-clause-fit
returns-in-Ok-clause-fit c = object_fits (view c.in-Ok.value) c.items_in.result c.items_in.ensures

pub returns-in-Ok-clause-read : goal.returns-in-Ok-clause-read
returns-in-Ok-clause-read c =
    MatchResult-weaker c.items_in.result c.items_in.ensures (λ items is. record { value = view c.in-Ok.value; text = c.in-Ok.ensures; items_are = is })
    (λ fault is. fault_told c.args.bytes.now (view c.in-Ok.value) fault c.in-Ok.ensures is)
