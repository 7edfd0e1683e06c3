use Rattle.std.proofs.Common.{◌≡◌, inl, sym, refl, subst, arith, List, ℕ, [], false}
use Rattle.gp_session.specs.Lines.{speaking, hung}
use Rattle.gp_session_http.specs.Asking.{is_head, IsGathered, IsInstructRefused, IsPassed}
use Rattle.gp_session_http.specs.Views.{LiveView}
use Rattle.gp_session_http.specs.Moves.{IsAnsweredAt, said}
use Rattle.gp_session_http.proofs.Rows.{from_live, leads_from, moved_line, no_parts}
use Rattle.gp_session_http.proofs.Talking.{polled}
use Rattle.gp_session_http.proofs.asking.Asking.answered.Goals as goal

pub pass-requires-clause-passed : goal.pass-requires-clause-passed
pass-requires-clause-passed g c = subst (λ (m : List ℕ). IsPassed m c.args.head c.in-Pass.status) c.bytes.ensures c.in-Pass.ensures

pub gather-requires-clause-gathered : goal.gather-requires-clause-gathered
gather-requires-clause-gathered g c = subst (λ (m : List ℕ). IsGathered m c.args.head) c.bytes.ensures c.in-Gather.ensures

pub fail-requires : goal.fail-requires
fail-requires g c =
    let v : LiveView = record { wire = c.live.inside.wire; line = c.live.inside.line; watch = c.live.inside.watch; seat = c.live.inside.seat; charter = record { rules = c.live.inside.routes.now; signer = c.live.inside.signer.now; tag = c.live.inside.tag }; reports = c.live.inside.reports } in
    let s = c.args.self in
    let told : IsAnsweredAt v s c.args.head = subst (λ (x : LiveView). IsAnsweredAt x s c.args.head) (sym c.live.view_is) c.requires.told in
    let l = c.hang_up.new.self in
    let e = c.hang_up.ensures in
    let refused = subst (λ (m : List ℕ). (is_head m ≡ false) × IsInstructRefused c.args.head) c.bytes.ensures c.in-Refuse.ensures in
    record {
      told = record {
        given = [];
        parts = [];
        cut = no_parts;
        rows = polled v l s.asked s.exchange s.exchange (speaking (said s.exchange [])) (hung (said s.exchange [])) [] e.moved refl (λ aims. e.row aims []) told.rows;
        fails = inl (record { head = c.args.head; reading = told.has.reading; given = told.has.head_is; get = refused.0; refused = refused.1 });
      };
    }

pub returns-in-Refuse : goal.returns-in-Refuse
returns-in-Refuse g c =
    let v : LiveView = record { wire = c.live.inside.wire; line = c.live.inside.line; watch = c.live.inside.watch; seat = c.live.inside.seat; charter = record { rules = c.live.inside.routes.now; signer = c.live.inside.signer.now; tag = c.live.inside.tag }; reports = c.live.inside.reports } in
    let l = c.hang_up.new.self in
    let e = c.hang_up.ensures in
    record { leads = from_live v c.args.live.now _ 3 _ c.live.view_is (leads_from v _ _ 2 3 _ (moved_line v l e.moved) (omega arith) c.fail.ensures.leads) }
