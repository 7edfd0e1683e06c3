use Rattle.std.proofs.Common.{ℕ, Ok, ◌++◌, ◌∙◌, ap, map, rules, tests}
use Rattle.std.proofs.lemmas.Iterator.Adapters.{fact_from_extend}
use Rattle.std.proofs.lemmas.Iterator.Consumers.{YieldsList-at}
use Rattle.std.proofs.lemmas.Iterator.Splits.{YieldsList-from_slice_split}
use Rattle.gp_script.proofs.words.parts.Goals as goal

pub returns : goal.returns
returns c =
    let cuts = YieldsList-from_slice_split _ _ c.args.text.now c.split.ensures.rest c.split.ensures.done c.split.ensures.closure (λ x r q k. search (rules, tests)) in
    fact_from_extend {E = ℕ} (λ part. part.now) (Ok tt) c.in_ok-extend.ensures.ran (λ it b. YieldsList-at b cuts) (λ xs e h. ap (map (λ part. part.now)) (h.0 ∙ ap (λ ps. ps ++ xs) c.in_ok-parts.ensures.items) ∙ e)
