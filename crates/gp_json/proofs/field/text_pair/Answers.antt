use Rattle.std.proofs.Common.{◌∙◌, sym, map, arith}
use Rattle.std.proofs.lemmas.List.{length-map}
use Rattle.serde_json.specs.View.{view}
use Rattle.gp_json.proofs.FieldLemmas.{no_pair, pair_in}
use Rattle.gp_json.proofs.field.text_pair.Goals as goal

pub returns-then-len-ne2 : goal.returns-then-len-ne2
returns-then-len-ne2 c =
    let parts = c.in_ok-parts.parts.now in
    let other = no_pair (map view parts.items) (λ two. let count = rw length-map at two in c.if-len-ne2.true (omega (arith, c.len.ensures, parts.ok.0, count))) in
    sym (pair_in (view c.args.pair.now) parts.items c.in_ok-parts.ensures ∙ other)
