-- What a stream asked its origin for, and what came of it.
use Rattle.std.specs.Prelude.{ℕ, ◌≡◌, List, [], ◌∷◌, ◌++◌, map, unwrap_or, Option, Some, None, ⊤}
use Rattle.std.specs.List.{flat_map}
use Rattle.gp_plain.specs.declared.event.Event.{Event}
use Rattle.gp_plain.specs.declared.event.Event.TheVariants.{Page, PageFailed}
use Rattle.gp_plain.specs.declared.http.Signer.{Signer}
use Rattle.gp_exchange.specs.declared.answer.ExchangeFault.TheVariants.{Dial}
use Rattle.gp_recover.specs.declared.page.PageFault.TheVariants.{Exchange}
use Rattle.gp_recover.specs.declared.recovered.Last.{Last as RecoveryEnd}
use Rattle.gp_recover.specs.declared.recovered.Last.TheVariants.{Got, Failed, NoMemory}
use Rattle.gp_again.specs.Quests.{Asks}
use Rattle.gp_again.specs.Views.{AgainView}
use Rattle.gp_session.specs.Lines.{Aim, Sought, aim_sought}

-- a page that was asked for, and what came of it: the moment of the request's token, what was sought, and how the talk ended
pub record Quest : Type 0 where
  pub moment : ℕ
  pub sought : Sought

-- a page's link is asked from then on, where it has one
abbrev pub link_after : RecoveryEnd → List ℕ → List ℕ
link_after (Got page) link = unwrap_or page.value.link link
link_after (Failed fault) link = link
link_after NoMemory link = link

abbrev pub after_quest : AgainView → Quest → AgainView
after_quest o q = record o { link = link_after q.sought.end o.link }

-- whom a stream asks, and by which link, behind quests
abbrev pub after_quests : AgainView → List Quest → AgainView
after_quests o [] = o
after_quests o (q ∷ qs) = after_quests (after_quest o q) qs

-- a talk came to something that the hub is told: a page, or that it can't be had. Where memory was wanting it came to nothing
abbrev pub CameTo : RecoveryEnd → Type 0
CameTo (Got page) = ⊤
CameTo (Failed fault) = ⊤
CameTo NoMemory = ⊥

-- a quest asks this of the origin: the page behind an id, by the link last seen, with a token of its own moment; and its talk came to something
pub record IsQuestBy (o : AgainView) (signer : Signer) (q : Quest) : Type 0 where
  pub to : q.sought.sought.to ≡ o.address
  pub channel : q.sought.sought.channel ≡ o.channel
  pub request : Asks o signer q.moment q.sought.sought.from q.sought.sought.request
  pub came : CameTo q.sought.end

-- so does each of quests, one after the other
abbrev pub AreQuests : Signer → AgainView → List Quest → Type 0
AreQuests signer o [] = ⊤
AreQuests signer o (q ∷ qs) = IsQuestBy o signer q × AreQuests signer (after_quest o q) qs

-- a stream without a link asks for nothing
abbrev pub AreAsked : Signer → Option AgainView → List Quest → Type 0
AreAsked signer None qs = qs ≡ []
AreAsked signer (Some o) qs = AreQuests signer o qs

-- what the hub is told of a quest of a hold
abbrev pub event_by : ℕ → List ℕ → RecoveryEnd → List Event
event_by hold from (Got page) = Page hold from page.value.to page.value.bytes page.value.then ∷ []
event_by hold from (Failed fault) = PageFailed hold ∷ []
event_by hold from NoMemory = []

-- its talk failed since the dialer did
abbrev pub FailedByDial : Quest → Type 0
FailedByDial q = q.sought.end ≡ Failed (Exchange Dial)

abbrev pub event_of : ℕ → Quest → List Event
event_of hold q = event_by hold q.sought.sought.from q.sought.end

abbrev pub events_of : ℕ → List Quest → List Event
events_of hold qs = flat_map (event_of hold) qs

-- the ids behind which pages were asked for, the talks, and the moments of the tokens
abbrev pub ids_of : List Quest → List (List ℕ)
ids_of qs = map (λ (q : Quest). q.sought.sought.from) qs

abbrev pub aims_of : List Quest → List Aim
aims_of qs = map (λ (q : Quest). aim_sought q.sought) qs

abbrev pub moments_of : List Quest → List ℕ
moments_of qs = map (λ (q : Quest). q.moment) qs
