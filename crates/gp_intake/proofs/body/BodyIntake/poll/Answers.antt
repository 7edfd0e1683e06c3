use Rattle.std.proofs.Common.{refl, ap, ◌∙◌, sym, subst}
use Rattle.gp_intake.specs.Bodies.{IsOpen}
use Rattle.gp_intake.specs.Requests.{HeadedView}
use Rattle.gp_intake.specs.Polls.{HasReadBody}
use Rattle.gp_intake.proofs.Hearing.{read_more_body}
use Rattle.gp_intake.proofs.Answering.{refused_body, whole_body, not_ready_body, gone_body, no_memory_body}
use Rattle.gp_intake.proofs.body.BodyIntake.poll.Goals as goal

pub returns-in-Some : goal.returns-in-Some
returns-in-Some g c = refused_body c.args.self c.loop-fault.self c.loop-fault.invariant.head c.loop-fault.invariant.path _ _ c.loop-fault.invariant.reads c.refuse.result c.refuse.ensures

pub returns-then-is_end : goal.returns-then-is_end
returns-then-is_end g c = whole_body c.args.self c.loop-fault.self c.loop-fault.invariant.head c.loop-fault.invariant.path _ _ c.loop-fault.invariant.reads c.whole.result c.whole.ensures

pub loop-fault-preserved : goal.loop-fault-preserved
loop-fault-preserved g c =
    let w : HeadedView = record { head = c.self.inside.head; path = c.self.inside.path; body = c.self.inside.body } in
    let head = ap (λ (v : HeadedView). v.head) c.self.view_is ∙ c.loop-fault.invariant.head in
    let path = ap (λ (v : HeadedView). v.path) c.self.view_is ∙ c.loop-fault.invariant.path in
    let reads = subst (λ (x : HeadedView). HasReadBody (g.L.Link.tells c.args.link.now) (g.L.Link.tells c.loop-fault.link) c.args.self.body x.body) (sym c.self.view_is) c.loop-fault.invariant.reads in
    let r = c.in-Bytes.ensures in
    record {
      head = head;
      path = path;
      reads = read_more_body _ (g.L.Link.tells c.loop-fault.link) _ c.args.self.body w.body c.read.new.self r.more reads r.hears r.says.0;
    }

pub returns-in-NotReady : goal.returns-in-NotReady
returns-in-NotReady g c =
    let w : HeadedView = record { head = c.self.inside.head; path = c.self.inside.path; body = c.self.inside.body } in
    let head = ap (λ (v : HeadedView). v.head) c.self.view_is ∙ c.loop-fault.invariant.head in
    let path = ap (λ (v : HeadedView). v.path) c.self.view_is ∙ c.loop-fault.invariant.path in
    let reads = subst (λ (x : HeadedView). HasReadBody (g.L.Link.tells c.args.link.now) (g.L.Link.tells c.loop-fault.link) c.args.self.body x.body) (sym c.self.view_is) c.loop-fault.invariant.reads in
    let going : IsOpen w.body.reading = record { refused = sym c.in-None.ensures.told; ended = sym c.if-is_end.ensures.end } in
    let r = c.in-NotReady.ensures in
    not_ready_body c.args.self w head path _ (g.L.Link.tells c.loop-fault.link) _ reads r.more r.hears (record { head = c.self.inside.head; path = c.self.inside.path; body = c.read.new.self }) refl refl going r.says.0 r.says.1 r.says.2

pub returns-in-Gone : goal.returns-in-Gone
returns-in-Gone g c =
    let w : HeadedView = record { head = c.self.inside.head; path = c.self.inside.path; body = c.self.inside.body } in
    let head = ap (λ (v : HeadedView). v.head) c.self.view_is ∙ c.loop-fault.invariant.head in
    let path = ap (λ (v : HeadedView). v.path) c.self.view_is ∙ c.loop-fault.invariant.path in
    let reads = subst (λ (x : HeadedView). HasReadBody (g.L.Link.tells c.args.link.now) (g.L.Link.tells c.loop-fault.link) c.args.self.body x.body) (sym c.self.view_is) c.loop-fault.invariant.reads in
    let going : IsOpen w.body.reading = record { refused = sym c.in-None.ensures.told; ended = sym c.if-is_end.ensures.end } in
    let r = c.in-Gone.ensures in
    gone_body c.args.self w head path _ (g.L.Link.tells c.loop-fault.link) _ reads r.more r.hears (record { head = c.self.inside.head; path = c.self.inside.path; body = c.read.new.self }) refl refl going r.says.0 r.says.1 r.says.2

pub returns-in-NoMemory : goal.returns-in-NoMemory
returns-in-NoMemory g c =
    let w : HeadedView = record { head = c.self.inside.head; path = c.self.inside.path; body = c.self.inside.body } in
    let head = ap (λ (v : HeadedView). v.head) c.self.view_is ∙ c.loop-fault.invariant.head in
    let path = ap (λ (v : HeadedView). v.path) c.self.view_is ∙ c.loop-fault.invariant.path in
    let reads = subst (λ (x : HeadedView). HasReadBody (g.L.Link.tells c.args.link.now) (g.L.Link.tells c.loop-fault.link) c.args.self.body x.body) (sym c.self.view_is) c.loop-fault.invariant.reads in
    let going : IsOpen w.body.reading = record { refused = sym c.in-None.ensures.told; ended = sym c.if-is_end.ensures.end } in
    let r = c.in-NoMemory.ensures in
    no_memory_body c.args.self w head path _ (g.L.Link.tells c.loop-fault.link) _ reads r.more r.hears w refl refl going
