-- What is asked of a socket is answered and done as its event is.
use Rattle.std.proofs.Common.{◌≡◌, ℕ, refl, sym, ◌∙◌}
use Rattle.gp_plain.specs.declared.reply.Reply.{Reply}
use Rattle.gp_plain.specs.Holds.{change_reply}
use Rattle.gp_plain.specs.Standing.{Kept, Standing}
use Rattle.gp_registry.specs.declared.change.Change.{Change}
use Rattle.gp_registry.specs.declared.change.Change.TheVariants.{Push, Join, Leave}
use Rattle.gp_registry.specs.Changes.{change_of, event_of}
use Rattle.gp_registry.specs.Steps.{found, replaced, kept_after_change, refused_or_kept, answered, stepped}
use Rattle.gp_registry.proofs.Finding.{Says}

pub asked_answer : (who hold : ℕ) (change : Change) (s : Standing) → refused_or_kept who hold (found hold s.kept) (λ (k : Kept). change_reply (change_of change) k.state) ≡ answered s who (event_of hold change)
asked_answer who hold (Push message) s = refl
asked_answer who hold (Join channel) s = refl
asked_answer who hold (Leave channel) s = refl

asked_step : (who hold : ℕ) (change : Change) (s : Standing) → (let t : Standing = record s { kept = replaced who hold (kept_after_change (change_of change)) s.kept } in t) ≡ stepped s who (event_of hold change)
asked_step who hold (Push message) s = refl
asked_step who hold (Join channel) s = refl
asked_step who hold (Leave channel) s = refl

pub asked : (who hold : ℕ) (change : Change) (before : Standing) (answer : Reply) (after : Standing) → Says who hold (λ (k : Kept). change_reply (change_of change) k.state) (kept_after_change (change_of change)) before answer after
    → (answer ≡ answered before who (event_of hold change)) × (after ≡ stepped before who (event_of hold change))
asked who hold change before answer after says = (says.answers ∙ asked_answer who hold change before, says.leaves ∙ asked_step who hold change before)
