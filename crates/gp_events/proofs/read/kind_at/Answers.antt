use Rattle.std.proofs.Common.{◌≡◌, Option, Some, None, refl, ◌∙◌, sym, rules, tests}
use Rattle.std.specs.Prelude.{option_map}
use Rattle.std.proofs.lemmas.Iterator.{YieldsList-from_slice}
use Rattle.std.proofs.lemmas.Iterator.Consumers.{YieldsList-from_copied}
use Rattle.std.proofs.lemmas.Iterator.Search.{find_from_yields_List}
use Rattle.gp_events.specs.declared.event.EventKind.{EventKind}
use Rattle.gp_events.specs.Spellings.{name_of}
use Rattle.gp_events.specs.Events.{begins_with, kind_at, kinds}
use Rattle.gp_events.proofs.read.kind_at.Goals as goal

same : (o : Option EventKind) → option_map (λ (kind : EventKind). kind) o ≡ o
same None = refl
same (Some kind) = refl

pub returns-clause-kind : goal.returns-clause-kind
unfolding kind_at
returns-clause-kind c =
    sym (same c.find.result)
    ∙ find_from_yields_List (λ (kind : EventKind). begins_with c.args.bytes.now (name_of kind)) _ _ c.find.result c.find.ensures.ran
    (YieldsList-from_copied (YieldsList-from_slice kinds cc)) (λ x b q k. search (rules, tests))
