use Rattle.std.proofs.Common.{◌≡◌, ap, ◌∙◌, []}
use Rattle.std.proofs.lemmas.List.{take_rest}
use Rattle.std.specs.Prelude.{IfOk, Result, Ok, Err}
use Rattle.gp_intake.specs.Bodies.{ReadingView, IsOfBody, Nearer}
use Rattle.gp_intake.proofs.Coming.{still_of_body, comes_on, refused_of_body, nearer_fed}
use Rattle.gp_intake.proofs.reading.BodyReading.take.Goals as goal

if_ok : {E : Type 0} (P : Type 0) (result : Result (Unit {0}) E) → P → IfOk result (λ _. P)
if_ok P (Ok x) p = p
if_ok P (Err e) p = tt

pub invariant_of-self : goal.invariant_of-self
invariant_of-self c =
    let v : ReadingView = record { reading = c.self.inside.reader; content = c.self.inside.content.items; unused = c.self.inside.unused.items } in
    let b : IsOfBody v = c.self.invariant in
    let none : v.unused ≡ [] = ap (λ (x : ReadingView). x.unused) c.self.view_is ∙ c.requires in
    let added = rw (take_rest c.args.bytes.now c.in-Ok.fed.taken) at c.add.ensures in
    still_of_body v c.args.bytes.now c.feed_all.new.into.items c.add.new.into.items c.feed_all.new.self c.in-Ok.fed c.add.result b none (c.in-Ok.ensures.at b.plan 1048576 b.come.text b.come.reading) added

pub invariant_of-self-in-Err-Body : goal.invariant_of-self-in-Err-Body
invariant_of-self-in-Err-Body c =
    let v : ReadingView = record { reading = c.self.inside.reader; content = c.self.inside.content.items; unused = c.self.inside.unused.items } in
    let none : v.unused ≡ [] = ap (λ (x : ReadingView). x.unused) c.self.view_is ∙ c.requires in
    refused_of_body v c.args.bytes.now c.feed_all.new.into.items c.feed_all.new.self c.in-Err-Body.field-0-0 c.self.invariant none (rw c.in-Err-Body.field-0-is at c.in-Err-Body.ensures.at)

pub returns-in-Ok-clause-comes : goal.returns-in-Ok-clause-comes
returns-in-Ok-clause-comes c =
    let v : ReadingView = record { reading = c.self.inside.reader; content = c.self.inside.content.items; unused = c.self.inside.unused.items } in
    let none : v.unused ≡ [] = ap (λ (x : ReadingView). x.unused) c.self.view_is ∙ c.requires in
    let added = rw (take_rest c.args.bytes.now c.in-Ok.fed.taken) at c.add.ensures in
    comes_on v c.args.self.now c.args.bytes.now c.feed_all.new.into.items c.add.new.into.items c.feed_all.new.self c.in-Ok.fed c.add.result c.self.view_is none c.in-Ok.ensures.at added

pub returns-in-Ok-clause-nearer : goal.returns-in-Ok-clause-nearer
returns-in-Ok-clause-nearer c =
    let v : ReadingView = record { reading = c.self.inside.reader; content = c.self.inside.content.items; unused = c.self.inside.unused.items } in
    if_ok (Nearer c.args.bytes.now c.args.self.now.reading c.feed_all.new.self) c.add.result
    (nearer_fed v c.args.self.now c.feed_all.new.self c.args.bytes.now c.feed_all.new.into.items c.in-Ok.fed c.self.view_is c.self.invariant c.in-Ok.ensures.fed)
