use Rattle.std.proofs.Common.{◌≡◌, ◌∙◌, ◌++◌, ◌∷◌, [], sym, subst, refl, Some}
use Rattle.gp_plain.specs.Others.{Share}
use Rattle.gp_plain.specs.Reports.{report}
use Rattle.gp_session_hold.specs.Rows.{KeptView, HoldsRow, IsCounted, over, none}
use Rattle.gp_session_http.specs.Holding.{HasClosed}
use Rattle.gp_session_http.specs.Views.{LiveView}
use Rattle.gp_session_http.proofs.Granting.{held_live}
use Rattle.gp_session_http.proofs.Keeping.{closes, over_more}
use Rattle.gp_session_http.proofs.streaming.Streaming.close.Goals as goal

pub returns : goal.returns
returns g c =
    let v : LiveView = record { wire = c.live.inside.wire; line = c.live.inside.line; watch = c.live.inside.watch; seat = c.live.inside.seat; charter = record { rules = c.live.inside.routes.now; signer = c.live.inside.signer.now; tag = c.live.inside.tag }; reports = c.live.inside.reports } in
    let s = c.args.self in
    let h : HasClosed v s c.args.cause = subst (λ (x : LiveView). HasClosed x s c.args.cause) (sym c.live.view_is) c.requires.told in
    record { leads = held_live v c.args.live.now _ 2 _ c.live.view_is (closes v c.report.new.reports s c.args.cause h (subst (λ (k : KeptView). HoldsRow v.seat v.reports.items (over k (Some c.args.cause)) → HoldsRow v.seat c.report.new.reports.items none) c.into_hold-hold.ensures (c.report.ensures.row v.seat) h.holds) (over_more v c.report.new.reports s.recovering.stream.hold (Some c.args.cause) h.holds (subst (λ (k : KeptView). (share : Share) → IsCounted k share → Some c.args.cause ≡ share.told → c.report.new.reports.items ≡ v.reports.items ++ report k.number share ∷ []) c.into_hold-hold.ensures c.report.ensures.reported)) _ refl (c.of-said.ensures ∙ c.into_hold-hold.ensures) refl); on = tt }
