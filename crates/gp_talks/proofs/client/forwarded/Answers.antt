use Rattle.std.proofs.Common.{List, ℕ, sym, subst, refl, codes}
use Rattle.std.proofs.lemmas.List.Elements.{All-nil}
use Rattle.gp_head.specs.Writable.{IsFieldValue}
use Rattle.gp_head.specs.Targets.{IsSplit}
use Rattle.gp_talks.proofs.client.forwarded.Goals as goal

pub forward-requires : goal.forward-requires
forward-requires c =
    let law = c.forward_law.ensures in
    let split = subst (λ (target : List ℕ). IsSplit target c.in-Ok.field-0.0 c.in-Ok.field-0.1) c.bytes.ensures c.in-Ok.ensures in
    let can = law.read _ c.in-Whole.head _ c.in-Ok.field-0.0 c.in-Ok.field-0.1 c.in-Whole.ensures.read split in
    record {
      asks = can.asks;
      target = can.target;
      host = subst IsFieldValue (sym c.in_ok-new-in-Ok.ensures) (law.host (codes "origin") refl);
      signed = tt;
      told = All-nil IsFieldValue;
    }
