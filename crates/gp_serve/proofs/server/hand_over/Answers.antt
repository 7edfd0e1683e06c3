use Rattle.std.proofs.Common.{[], ◌∷◌, ◌++◌, length, ap, sym, refl, ◌∙◌, append_assoc, arith}
use Rattle.std.proofs.lemmas.List.{append-nil}
use Rattle.gp_outside.specs.Worlds.{with_kit}
use Rattle.gp_serve.specs.Serves.{with_kits}
use Rattle.gp_serve.proofs.Handing.{no_kit, one_more_kit}
use Rattle.gp_serve.proofs.Lists.{first_rest, none_left}
use Rattle.gp_serve.proofs.server.hand_over.Goals as goal

pub loop-kit-init : goal.loop-kit-init
loop-kit-init g c = ([], refl, no_kit (g.W.World.parts c.args.world.now))

pub loop-kit-smaller : goal.loop-kit-smaller
loop-kit-smaller g c =
    let split = first_rest c.loop-kit.kits c.in-Some.kit c.in-Some.ensures.first in
    omega (arith, ap length split, ap length c.in-Some.ensures.left)

pub loop-kit-preserved : goal.loop-kit-preserved
loop-kit-preserved g c =
    let some = c.loop-kit.invariant.0 in
    let kit = c.in-Some.kit in
    let split = first_rest c.loop-kit.kits kit c.in-Some.ensures.first ∙ ap (λ rest. kit ∷ rest) (sym c.in-Some.ensures.left) in (
      some ++ kit ∷ [],
      c.loop-kit.invariant.1 ∙ ap (λ rest. some ++ rest) split ∙ sym (append_assoc some (kit ∷ []) c.take_first.new.self),
      c.in-Ok.ensures.ok ∙ ap (λ world. with_kit world kit) c.loop-kit.invariant.2 ∙ one_more_kit (g.W.World.parts c.args.world.now) some kit,
    )

pub returns-in-Err-clause-err : goal.returns-in-Err-clause-err
returns-in-Err-clause-err g c = record {
  some = c.loop-kit.invariant.0;
  first = (c.loop-kit.kits, sym c.loop-kit.invariant.1 ∙ c.from_vec-kits.ensures);
  same = c.in-Err.ensures.err ∙ c.loop-kit.invariant.2;
}

pub returns-clause-ok : goal.returns-clause-ok
returns-clause-ok g c =
    let some = c.loop-kit.invariant.0 in
    let all = c.loop-kit.invariant.1 ∙ ap (λ rest. some ++ rest) (none_left c.loop-kit.kits c.in_default.ensures.first) ∙ append-nil some in
    c.loop-kit.invariant.2 ∙ ap (with_kits (g.W.World.parts c.args.world.now)) (sym all ∙ c.from_vec-kits.ensures)
