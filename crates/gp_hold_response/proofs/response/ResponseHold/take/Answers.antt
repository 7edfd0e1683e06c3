use Rattle.std.proofs.Common.{◌≡◌, ◌∙◌, sym, ap, subst, IfOk}
use Rattle.gp_plain.specs.Holds.{timed, is_retry, recover_from, taken_of, after_take}
use Rattle.gp_plain.specs.Plans.{Machine}
use Rattle.gp_plain.specs.declared.reply.Taken.{Taken}
use Rattle.gp_hold_response.specs.States.{response_state}
use Rattle.gp_hold_response.proofs.Responses.{on_ok_given, gives_last, gives_some, leaves_is}
use Rattle.gp_hold_response.proofs.response.ResponseHold.take.Goals.{then-is_empty, else-is_empty+in-Some-1, else-is_empty+in-None-1}
use Rattle.gp_hold_response.proofs.response.ResponseHold.take.Goals as goal

pub returns-clause-gives : goal.returns-clause-gives
returns-clause-gives c =
    let s = c.self.inside in
    let end = c.end_at-ended.ensures ∙ ap (λ (m : Machine). (timed c.args.now m.state.terms.deadline m.state).ended) (sym c.self.view_is) in
    let at = c.in_ok-at.ensures ∙ ap (λ (m : Machine). recover_from (is_retry c.end_at-ended.result) m.state.position) (sym c.self.view_is) in
    subst (λ (m : Machine). IfOk c.if-is_empty.result (λ (taken : Taken). taken ≡ taken_of c.args.now m.state)) c.self.view_is
    (elim c.if-is_empty.branch [
      | then-is_empty w ↦ subst (λ r. IfOk r (λ (taken : Taken). taken ≡ taken_of c.args.now (response_state s.heard s.deadline s.pending.items s.ended s.want))) (sym w.result-is)
          (gives_last s.heard s.deadline s.pending.items c.in_ok-pieces.pieces c.take.new.self.items s.ended c.end_at-ended.result s.want c.args.now c.in_ok-at.at c.in_ok-pieces.ensures.given c.in_ok-pieces.ensures.left end at (sym c.is_empty.ensures ∙ w.if-is_empty.true))
      | else-is_empty+in-Some-1 w ↦ subst (λ r. IfOk r (λ (taken : Taken). taken ≡ taken_of c.args.now (response_state s.heard s.deadline s.pending.items s.ended s.want))) (sym w.result-is)
          (gives_some s.heard s.deadline s.pending.items c.in_ok-pieces.pieces c.take.new.self.items s.ended c.end_at-ended.result s.want c.args.now c.in_ok-pieces.ensures.given c.in_ok-pieces.ensures.left end (sym c.is_empty.ensures ∙ w.if-is_empty.false))
      | else-is_empty+in-None-1 w ↦ subst (λ r. IfOk r (λ (taken : Taken). taken ≡ taken_of c.args.now (response_state s.heard s.deadline s.pending.items s.ended s.want))) (sym w.result-is)
          (gives_some s.heard s.deadline s.pending.items c.in_ok-pieces.pieces c.take.new.self.items s.ended c.end_at-ended.result s.want c.args.now c.in_ok-pieces.ensures.given c.in_ok-pieces.ensures.left end (sym c.is_empty.ensures ∙ w.if-is_empty.false))
    ])

pub returns-clause-leaves : goal.returns-clause-leaves
returns-clause-leaves c =
    let s = c.self.inside in
    let end = c.end_at-ended.ensures ∙ ap (λ (m : Machine). (timed c.args.now m.state.terms.deadline m.state).ended) (sym c.self.view_is) in
    on_ok_given c.if-is_empty.result
    (leaves_is s.heard s.deadline s.pending.items c.take.new.self.items s.ended c.end_at-ended.result s.want c.args.now c.in_ok-pieces.ensures.left end ∙ ap (λ (m : Machine). after_take c.args.now m.state) c.self.view_is)
