use Rattle.std.proofs.Common.{◌∙◌, sym, refl, subst, arith, []}
use Rattle.gp_plain.specs.declared.reply.EndCause.TheVariants.{Closed}
use Rattle.gp_session.specs.Lines.{speaking, hung}
use Rattle.gp_session_http.specs.Passing.{head_by}
use Rattle.gp_session_http.specs.Views.{LiveView}
use Rattle.gp_session_http.specs.Moves.{IsBegunAt, said}
use Rattle.gp_session_http.proofs.Rows.{from_live, with_line, moved_line, moved_same}
use Rattle.gp_session_http.proofs.Talking.{polled}
use Rattle.gp_session_http.proofs.Sending.{passes_body, passes_none}
use Rattle.gp_session_http.proofs.asking.Asking.begin.Goals as goal

pub returns-then-is_bare_by : goal.returns-then-is_bare_by
returns-then-is_bare_by g c =
    let v : LiveView = record { wire = c.live.inside.wire; line = c.live.inside.line; watch = c.live.inside.watch; seat = c.live.inside.seat; charter = record { rules = c.live.inside.routes.now; signer = c.live.inside.signer.now; tag = c.live.inside.tag }; reports = c.live.inside.reports } in
    let s = c.args.self in
    let head = c.args.head.now in
    let told : IsBegunAt v s head c.args.status = subst (λ (x : LiveView). IsBegunAt x s head c.args.status) (sym c.live.view_is) c.requires.told in
    let l = c.hang_up.new.self in
    let e = c.hang_up.ensures in
    let p = c.passed-passed.result in
    let pe = c.passed-passed.ensures in
    let rows = polled v l s.asked s.exchange s.exchange (speaking (said s.exchange [])) (hung (said s.exchange [])) (head_by s.asked head c.args.status) e.moved refl (λ aims. e.row aims []) told.rows in
    record {
      leads = from_live v c.args.live.now _ 3 _ c.live.view_is (record {
        moved = moved_line v l e.moved;
        to = (
          passes_none s head c.args.status p pe.asked pe.head pe.status pe.code pe.chunked (with_line v l) (record { passed = p; exchange = c.of-exchange.result; cause = Closed }) refl c.of-exchange.ensures refl
              rows told.has c.requires.passed (sym c.is_bare_by.ensures ∙ c.if-is_bare_by.true),
          omega arith,
        );
      });
    }

pub returns-else-is_bare_by : goal.returns-else-is_bare_by
returns-else-is_bare_by g c =
    let l = c.args.live.now in
    let s = c.args.self in
    let p = c.passed-passed.result in
    let pe = c.passed-passed.ensures in
    record {
      leads = record {
        moved = moved_same l;
        to = (
          passes_body s c.args.head.now c.args.status p pe.asked pe.head pe.status pe.code pe.chunked l (record { passed = p; exchange = s.exchange }) refl refl c.requires.told c.requires.passed (sym c.is_bare_by.ensures ∙ c.if-is_bare_by.false),
          omega arith,
        );
      };
    }
