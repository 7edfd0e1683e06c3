use Rattle.std.proofs.Common.{◌++◌, ◌∙◌, length}
use Rattle.std.proofs.lemmas.List.{drop-replicate}
use Rattle.gp_sig.proofs.mac.fill.Goals as goal

pub returns : goal.returns
returns c =
    let front = c.copy_from_slice.ensures.after in
    let back = c.split_at_mut-front.ensures.back ∙ drop-replicate (length c.args.key.now) 64 0 in
    λ i. front i ++ back i
