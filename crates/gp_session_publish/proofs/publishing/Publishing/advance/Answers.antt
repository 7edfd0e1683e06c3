use Rattle.std.proofs.Common.{refl, sym, ◌∙◌, arith}
use Rattle.gp_session_publish.specs.declared.stage.Stage.TheVariants as stage
use Rattle.gp_session_publish.specs.Views.{LiveView}
use Rattle.gp_session_publish.proofs.Rows.{from_live, told_live, leads_from}
use Rattle.gp_session_publish.proofs.Standing.{moved_seat_over, told_published, busy_published, worn_published, no_memory_published}
use Rattle.gp_session_publish.proofs.publishing.Publishing.advance.Goals as goal

pub publish-requires : goal.publish-requires
publish-requires g c = record { fit = c.requires.told.entries.fit; few = c.requires.told.entries.few }

pub answer-requires : goal.answer-requires
answer-requires g c =
    let v : LiveView = record { wire = c.live.inside.wire; seat = c.live.inside.seat } in
    let told = told_live v c.args.live.now (stage.Publishing c.args.self) c.live.view_is c.requires.told in
    let p = c.in-All.ensures in
    record {
      told = told_published v c.publish.new.seat c.args.self (record { left = c.publish.new.self; published = c.publish.new.published; request = c.args.self.request }) told p.rest p.some p.fit refl (p.says.0 ∙ sym p.says.1) (p.says.2 told.stays.served);
      none = p.says.1;
    }

pub returns-in-All : goal.returns-in-All
returns-in-All g c =
    let v : LiveView = record { wire = c.live.inside.wire; seat = c.live.inside.seat } in
    record { leads = from_live v c.args.live.now _ 2 _ c.live.view_is (leads_from v _ _ 2 2 _ (moved_seat_over v c.publish.new.seat c.publish.ensures.some.moved) (omega arith) c.answer.ensures.leads) }

pub returns-in-Busy : goal.returns-in-Busy
returns-in-Busy g c =
    let v : LiveView = record { wire = c.live.inside.wire; seat = c.live.inside.seat } in
    let told = told_live v c.args.live.now (stage.Publishing c.args.self) c.live.view_is c.requires.told in
    let p = c.in-Busy.ensures in
    record { leads = from_live v c.args.live.now _ 2 _ c.live.view_is (busy_published v c.publish.new.seat c.args.self (record { left = c.publish.new.self; published = c.publish.new.published; request = c.args.self.request }) told p.rest p.some p.fit refl p.says.0 p.says.1 p.says.2) }

pub returns-in-Worn : goal.returns-in-Worn
returns-in-Worn g c =
    let v : LiveView = record { wire = c.live.inside.wire; seat = c.live.inside.seat } in
    let told = told_live v c.args.live.now (stage.Publishing c.args.self) c.live.view_is c.requires.told in
    let p = c.in-Worn.ensures in
    record { leads = from_live v c.args.live.now _ 2 _ c.live.view_is (worn_published v c.publish.new.seat c.args.self (record { left = p.rest; published = c.publish.new.published; request = c.args.self.request }) told p.rest p.some p.fit refl refl p.says c.ended.result c.ended.ensures) }

pub returns-in-NoMemory : goal.returns-in-NoMemory
returns-in-NoMemory g c =
    let v : LiveView = record { wire = c.live.inside.wire; seat = c.live.inside.seat } in
    let told = told_live v c.args.live.now (stage.Publishing c.args.self) c.live.view_is c.requires.told in
    let p = c.in-NoMemory.ensures in
    record { leads = from_live v c.args.live.now _ 2 _ c.live.view_is (no_memory_published v c.publish.new.seat c.args.self (record { left = p.rest; published = c.publish.new.published; request = c.args.self.request }) told p.rest p.some p.fit refl refl (p.says told.stays.served) c.ended-in-NoMemory.result c.ended-in-NoMemory.ensures) }
