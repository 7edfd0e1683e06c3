use Rattle.std.proofs.Common.{◌≡◌, refl, ap, ◌∙◌, sym, subst, length, List, ℕ, ◌++◌, inl, inr, arith, length-append}
use Rattle.gp_intake.specs.Heads.{IsBegun}
use Rattle.gp_intake.specs.declared.fault.RequestFault.TheVariants.{HeadTooLarge, Head}
use Rattle.gp_intake.proofs.Answering.{begins_head, refuses_head, no_memory_head}
use Rattle.gp_intake.proofs.Asking.{begun_short}
use Rattle.gp_intake.proofs.head.HeadIntake.poll.Goals as goal

pub returns-in-NoMemory : goal.returns-in-NoMemory
returns-in-NoMemory g c =
    no_memory_head c.args.self c.loop-self.self _ (g.L.Link.tells c.loop-self.link) _ c.loop-self.invariant (subst IsBegun c.self.view_is c.self.invariant.begun)
    c.read_more.ensures.more _ c.read_more.ensures.hears refl

pub loop-self-smaller : goal.loop-self-smaller
loop-self-smaller g c =
    let says = c.in-Bytes.ensures.says in
    let more = c.in-Bytes.ensures.more in
    let short = begun_short c.self.inside.bytes.items c.self.invariant.begun in
    let view : length c.loop-self.self ≡ length c.self.inside.bytes.items = ap length (sym c.self.view_is) in
    omega (arith, says.0, ap length says.1, length-append c.self.inside.bytes.items more, short, view)

pub returns-in-Whole : goal.returns-in-Whole
returns-in-Whole g c =
    let r = c.in-Bytes.ensures in
    begins_head c.args.self c.loop-self.self _ (g.L.Link.tells c.loop-self.link) _ c.loop-self.invariant (subst IsBegun c.self.view_is c.self.invariant.begun)
    r.more _ r.hears (c.deref-in-Whole.ensures.value ∙ r.says.1 ∙ ap (λ (xs : List ℕ). xs ++ r.more) c.self.view_is) c.headed.result c.headed.ensures

pub returns-in-Bad : goal.returns-in-Bad
returns-in-Bad g c =
    let r = c.in-Bytes.ensures in
    refuses_head c.args.self c.loop-self.self _ (g.L.Link.tells c.loop-self.link) _ c.loop-self.invariant (subst IsBegun c.self.view_is c.self.invariant.begun)
    r.more c.deref.result.now r.hears (c.deref.ensures.value ∙ r.says.1 ∙ ap (λ (xs : List ℕ). xs ++ r.more) c.self.view_is) Head c.refuse.result (λ method e. (c.in-Bad.ensures.read, e)) c.refuse.ensures

pub returns-in-TooMany : goal.returns-in-TooMany
returns-in-TooMany g c =
    let r = c.in-Bytes.ensures in
    refuses_head c.args.self c.loop-self.self _ (g.L.Link.tells c.loop-self.link) _ c.loop-self.invariant (subst IsBegun c.self.view_is c.self.invariant.begun)
    r.more c.deref.result.now r.hears (c.deref.ensures.value ∙ r.says.1 ∙ ap (λ (xs : List ℕ). xs ++ r.more) c.self.view_is) HeadTooLarge c.refuse-in-TooMany.result (λ method e. (inl c.in-TooMany.ensures.read, e)) c.refuse-in-TooMany.ensures

pub returns-in-TooLong : goal.returns-in-TooLong
returns-in-TooLong g c =
    let r = c.in-Bytes.ensures in
    refuses_head c.args.self c.loop-self.self _ (g.L.Link.tells c.loop-self.link) _ c.loop-self.invariant (subst IsBegun c.self.view_is c.self.invariant.begun)
    r.more c.deref.result.now r.hears (c.deref.ensures.value ∙ r.says.1 ∙ ap (λ (xs : List ℕ). xs ++ r.more) c.self.view_is) HeadTooLarge c.refuse-in-TooLong.result (λ method e. (inr c.in-TooLong.ensures.read, e)) c.refuse-in-TooLong.ensures
