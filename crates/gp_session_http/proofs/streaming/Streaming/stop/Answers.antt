use Rattle.std.proofs.Common.{◌≡◌, ◌++◌, ◌∷◌, [], sym, subst}
use Rattle.gp_plain.specs.Others.{Share}
use Rattle.gp_plain.specs.Reports.{report}
use Rattle.gp_session_hold.specs.Rows.{KeptView, HoldsRow, IsCounted, over, none}
use Rattle.gp_session_http.specs.Holding.{HasStoppedAt}
use Rattle.gp_session_http.specs.Views.{LiveView}
use Rattle.gp_session_http.proofs.Granting.{held_live}
use Rattle.gp_session_http.proofs.Keeping.{stops_by}
use Rattle.gp_session_http.proofs.streaming.Streaming.stop.Goals as goal

pub returns : goal.returns
returns g c =
    let v : LiveView = record { wire = c.live.inside.wire; line = c.live.inside.line; watch = c.live.inside.watch; seat = c.live.inside.seat; charter = record { rules = c.live.inside.routes.now; signer = c.live.inside.signer.now; tag = c.live.inside.tag }; reports = c.live.inside.reports } in
    let s = c.args.self in
    let h : HasStoppedAt v s c.args.told c.args.«end» = subst (λ (x : LiveView). HasStoppedAt x s c.args.told c.args.«end») (sym c.live.view_is) c.requires.told in
    record {
      leads = held_live v c.args.live.now _ 2 _ c.live.view_is (stops_by v c.report.new.reports s c.args.told c.args.«end» h (subst (λ (k : KeptView). (share : Share) → IsCounted k share → c.args.told ≡ share.told → c.report.new.reports.items ≡ v.reports.items ++ report k.number share ∷ []) c.into_hold.ensures c.report.ensures.reported)
          (subst (λ (k : KeptView). HoldsRow v.seat v.reports.items (over k c.args.told) → HoldsRow v.seat c.report.new.reports.items none) c.into_hold.ensures (c.report.ensures.row v.seat)) c.end_with.result c.end_with.ensures);
      on = tt;
    }
