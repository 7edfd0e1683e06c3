use Rattle.std.proofs.Common.{ℕ, ◌-◌, ◌≤◌, List, ◌++◌, length, take, drop, subst, sym, arith, length-append, length-drop, length-take-le}
use Rattle.std.proofs.lemmas.List.{drop_all, with_items_is}
use Rattle.gp_ws.proofs.UnreadLemmas.{used_of}
use Rattle.gp_ws.proofs.unread.Frames.read.Goals as goal

pub returns-clause-used : goal.returns-clause-used
returns-clause-used c =
    let items = c.deref_mut.result.now in
    let used = c.self.inside.used in
    let new = c.read_next-framed.new.bytes in
    let post = drop (length items - used) (drop used items) in
    let within : used ≤ length items = subst (λ (zs : List ℕ). used ≤ length zs) (sym c.deref_mut.ensures.value) c.self.invariant.0 in
    used_of c.args.self.now c.self.inside.end.fragments c.read_next-framed.new.end.fragments c.self.inside.bytes.items items new post _ used c.count.result c.read_next-framed.result
    c.self.invariant.0 c.deref_mut.ensures.value (drop_all (length items - used) (drop used items) (omega (arith, length-drop used items)))
    (with_items_is c.self.inside.bytes (take used items ++ (new ++ post))
    (omega (arith, length-append (take used items) (new ++ post), length-append new post, length-take-le used items within, length-drop used items, length-drop (length items - used) (drop used items)))) (sym c.self.view_is) c.count.ensures c.read_next-framed.ensures.used
