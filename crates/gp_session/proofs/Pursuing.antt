-- The talk of a recovery, behind the talks of a session.
use Rattle.std.proofs.Common.{◌≡◌, List, [], ◌∷◌, ◌++◌, IfSome, option_map, sym, ◌∙◌, subst, append_assoc}
use Rattle.gp_outside.specs.Talks.{Talk, Talks, begun_to, hung_up}
use Rattle.gp_exchange.specs.declared.place.Place.TheVariants as place
use Rattle.gp_recover.specs.Standing.{IsAt, Stands}
use Rattle.gp_recover.specs.Views.{IsLive, RecoveryView, SoughtView, asked_by}
use Rattle.gp_recover.specs.declared.stage.Stage.{Stage}
use Rattle.gp_recover.specs.declared.stage.Stage.TheVariants.{Unbegun, Heading, Reading, Over, Lost}
use Rattle.gp_session.specs.Lines.{Aim, AreAimed, LineStands, LineView, LineRow, StandsLast, aim_sought, begun_with, idle}
use Rattle.gp_session.specs.Seeking.{SeeksRow, aims_at, last_at, said_by}
use Rattle.gp_session.proofs.Lining.{Bounds, aimed_more, behind, drops, one_more, rises}

bounds : (s : SoughtView) (stage : Stage) → Bounds (λ before now. IsAt s before stage now)
bounds s (Unbegun unbegun) before now at = behind (asked_by s) [] (place.Unbegun s.request) before now at
bounds s (Heading heading) before now at = behind (asked_by s) [] heading.exchange.place before now at
bounds s (Reading reading) before now at = behind (asked_by s) reading.reader.content reading.exchange.place before now at
bounds s (Over over) before now at = one_more before now.over at.talk at.over
bounds s Lost before now at = behind (asked_by s) [] (place.Unbegun s.request) before now at

-- a recovery that goes on stands as the last exchange does
reads : (s : SoughtView) (stage : Stage) → IsLive stage → (before : List Talk) (now : Talks) → StandsLast before (last_at s stage) now → IsAt s before stage now
reads s (Unbegun unbegun) live before now at = at
reads s (Heading heading) live before now at = at
reads s (Reading reading) live before now at = at
reads s (Over over) live before now at = absurd live
reads s Lost live before now at = absurd live

-- where it leads to
says : (s : SoughtView) (aims : List Aim) (stage : Stage) (before mine : List Talk) (now : Talks) → AreAimed aims mine → IsAt s (before ++ mine) stage now → LineStands before (aims_at s stage aims) (last_at s stage) now
says s aims (Unbegun unbegun) before mine now aimed at = record { mine = mine; aimed = aimed; stands = at }
says s aims (Heading heading) before mine now aimed at = record { mine = mine; aimed = aimed; stands = at }
says s aims (Reading reading) before mine now aimed at = record { mine = mine; aimed = aimed; stands = at }
says s aims (Over over) before mine now aimed at = record {
  mine = mine ++ at.talk ∷ [];
  aimed = aimed_more aims mine (aim_sought (record { sought = s; at = over.exchange.value.place; end = over.last })) at.talk aimed (record { to = at.is_talk.to; begun = at.is_talk.begun; whole = at.is_talk.whole; came = at.cause });
  stands = (at.over ∙ append_assoc before mine (at.talk ∷ []), at.present);
}
says s aims Lost before mine now aimed at = record { mine = mine; aimed = aimed; stands = (at.over, at.present) }

-- the aims behind which a recovery goes on are those before it
aimed_live : (s : SoughtView) (aims : List Aim) (stage : Stage) (mine : List Talk) → IsLive stage → AreAimed (aims_at s stage aims) mine → AreAimed aims mine
aimed_live s aims (Unbegun unbegun) mine live aimed = aimed
aimed_live s aims (Heading heading) mine live aimed = aimed
aimed_live s aims (Reading reading) mine live aimed = aimed
aimed_live s aims (Over over) mine live aimed = absurd live
aimed_live s aims Lost mine live aimed = absurd live

-- a poll of a recovery
pub sought : (l m : LineView) (aims : List Aim) (s : SoughtView) (was is : Stage) → IsLive was → m.start ≡ l.start → ((before : List Talk) → IfSome l.dial.talks (IsAt s before was) → IfSome m.dial.talks (IsAt s before is))
    → LineRow l (aims_at s was aims) (last_at s was) → LineRow m (aims_at s is aims) (last_at s is)
sought l m aims s was is live start poll row =
    rises l m (aims_at s was aims) (aims_at s is aims) (last_at s was) (last_at s is) (λ before now. IsAt s before was now) (λ before now. IsAt s before is now) (begun_to s.to)
    start poll (bounds s is) (reads s was live) (λ before mine now aimed at. says s aims is before mine now (aimed_live s aims was mine live aimed) at) row

-- the talk of a recovery is hung up
pub left : (l m : LineView) (aims : List Aim) (s : SoughtView) (stage : Stage) → IsLive stage → m.start ≡ l.start → m.dial.talks ≡ option_map hung_up l.dial.talks
    → LineRow l (aims_at s stage aims) (last_at s stage) → LineRow m (begun_with aims (said_by (record { sought = s; stage = stage }))) idle
left l m aims s (Unbegun unbegun) live start talks row = drops l m aims (said_by (record { sought = s; stage = Unbegun unbegun })) start talks row
left l m aims s (Heading heading) live start talks row = drops l m aims (said_by (record { sought = s; stage = Heading heading })) start talks row
left l m aims s (Reading reading) live start talks row = drops l m aims (said_by (record { sought = s; stage = Reading reading })) start talks row
left l m aims s (Over over) live start talks row = absurd live
left l m aims s Lost live start talks row = absurd live

-- what a poll says of the talks behind any others
pub sought_row : (l m : LineView) (aims : List Aim) (r q : RecoveryView) → IsLive r.stage → m.start ≡ l.start → q.sought ≡ r.sought → ((before : List Talk) → Stands before r l.dial → Stands before q m.dial) → SeeksRow l aims r → SeeksRow m aims q
sought_row l m aims r q live start same poll row =
    subst (λ (s : SoughtView). LineRow m (aims_at s q.stage aims) (last_at s q.stage)) (sym same)
    (sought l m aims r.sought r.stage q.stage live start (λ before at. subst (λ (s : SoughtView). IfSome m.dial.talks (IsAt s before q.stage)) same (poll before at)) row)

pub left_row : (l m : LineView) (aims : List Aim) (r : RecoveryView) → IsLive r.stage → m.start ≡ l.start → m.dial.talks ≡ option_map hung_up l.dial.talks → SeeksRow l aims r → LineRow m (begun_with aims (said_by r)) idle
left_row l m aims r live start talks row = left l m aims r.sought r.stage live start talks row
