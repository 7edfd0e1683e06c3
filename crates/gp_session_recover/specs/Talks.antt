-- What a poll of a talk comes to in which a stream asks for a page.
use Rattle.std.specs.Prelude.{ℕ, ◌≡◌, ◌<◌, List, [], ◌∷◌, ◌++◌, Option, IfSome}
use Rattle.std.specs.Option.{option_to_list}
use Rattle.std.specs.declared.snapshot.Snapshot.{Snapshot}
use Rattle.gp_exchange.specs.Answers.{Waits, rank}
use Rattle.gp_exchange.specs.declared.answer.ExchangeFault.TheVariants.{Dial}
use Rattle.gp_outside.specs.Counts.{Rose}
use Rattle.gp_exchange.specs.declared.place.Place.{Place}
use Rattle.gp_recover.specs.Moves.{IsAnswered}
use Rattle.gp_recover.specs.Views.{IsLive, SoughtView, place_of}
use Rattle.gp_recover.specs.declared.page.Page.{Page}
use Rattle.gp_recover.specs.declared.page.PageFault.{PageFault}
use Rattle.gp_recover.specs.declared.page.PageFault.TheVariants.{Exchange}
use Rattle.gp_recover.specs.declared.recovered.Last.TheVariants as last
use Rattle.gp_session.specs.Lines.{Aim, LineRow, LineView, MovedLine, Sought, aim_sought, idle}
use Rattle.gp_session.specs.Seeking.{SeeksRow}
use Rattle.gp_session.specs.declared.paging.StreamPage.{StreamPage}
use Rattle.gp_session_recover.specs.declared.open.Open.{Open}
use Rattle.gp_session_recover.specs.declared.open.Advanced.{Advanced}
use Rattle.gp_session_recover.specs.declared.open.Advanced.TheVariants.{Waits as StillWaits, Got, Failed, NoMemory}

-- the talk goes on, and the dialer waited for what it expects
pub record GoesOn (t u : Open) (l m : LineView) : Type 0 where
  pub sought : u.recovery.sought ≡ t.recovery.sought
  pub from : u.from ≡ t.from
  pub moment : u.moment ≡ t.moment
  pub live : IsLive u.recovery.stage
  pub early : rank (place_of u.recovery) < 5
  pub waits : Waits (place_of u.recovery) l.dial m.dial
  pub row : (aims : List Aim) → SeeksRow l aims t.recovery → SeeksRow m aims u.recovery

-- it is over, and is this page with this link
pub record GotPage (t : Open) (l m : LineView) (page : StreamPage) (link : Option (List ℕ)) : Type 0 where
  pub at : Place
  pub got : Snapshot Page
  pub page_is : page ≡ record { from = t.from; to = got.value.to; bytes = got.value.bytes; then = got.value.then }
  pub link_is : link ≡ got.value.link
  pub answered : IsAnswered t.recovery.sought got.value
  pub row : (aims : List Aim) → SeeksRow l aims t.recovery → LineRow m (aims ++ aim_sought (record { sought = t.recovery.sought; at = at; end = last.Got got }) ∷ []) idle

-- it is over, and there is no page. A fault of the dialer comes only where its faults rose
pub record FailedPage (t : Open) (l m : LineView) : Type 0 where
  pub at : Place
  pub fault : PageFault
  pub rises : rank (place_of t.recovery) < 5 → fault ≡ Exchange Dial → Rose l.dial.faults m.dial.faults
  pub row : (aims : List Aim) → SeeksRow l aims t.recovery → LineRow m (aims ++ aim_sought (record { sought = t.recovery.sought; at = at; end = last.Failed fault }) ∷ []) idle

-- a talk in which this was asked for
abbrev pub IsTalkOf : SoughtView → Aim → Type 0
IsTalkOf s aim = (aim.to ≡ s.to) × (aim.request ≡ s.request)

-- it is over for want of memory, if it began
pub record LostPage (t : Open) (l m : LineView) : Type 0 where
  pub cut : Option Aim
  pub cut_is : IfSome cut (IsTalkOf t.recovery.sought)
  pub row : (aims : List Aim) → SeeksRow l aims t.recovery → LineRow m (aims ++ option_to_list cut) idle

abbrev pub AdvancesAs : Open → LineView → LineView → Advanced → Type 0
AdvancesAs t l m (StillWaits u) = GoesOn t u l m
AdvancesAs t l m (Got page link) = GotPage t l m page link
AdvancesAs t l m Failed = FailedPage t l m
AdvancesAs t l m NoMemory = LostPage t l m

pub record Advances (t : Open) (l m : LineView) (answer : Advanced) : Type 0 where
  pub moved : MovedLine l m
  pub says : AdvancesAs t l m answer
