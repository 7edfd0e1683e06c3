-- The talks of a session: what they are once the talk of an exchange is over.
use Rattle.std.proofs.Common.{◌≡◌, ℕ, ◌≤◌, ◌+◌, List, [], ◌∷◌, ◌++◌, length, Option, Some, None, IfSome, option_map, refl, sym, ap, ◌∙◌, subst, append_assoc, append-nil, arith}
use Rattle.std.proofs.lemmas.List.{length-append}
use Rattle.gp_outside.specs.Dials.{DialTells, IsIdle}
use Rattle.gp_outside.specs.Talks.{Talk, Talks, all_of, present_of, hung_up, begun_to}
use Rattle.gp_exchange.specs.Answers.{rank}
use Rattle.gp_exchange.specs.Views.{AskedView, ExchangeView}
use Rattle.gp_exchange.specs.Standing.{IsAt, HasTalk}
use Rattle.gp_exchange.specs.declared.place.Place.{Place}
use Rattle.gp_exchange.specs.declared.place.Place.TheVariants.{Unbegun, Connecting, Sending, Heading, Reading, Over}
use Rattle.gp_exchange.proofs.Talking.{talked}
use Rattle.gp_session.specs.Lines.{Aim, aim_of, IsAimed, AreAimed, EndsAt, Said, Last, idle, speaking, hung, StandsHung, StandsLast, LineStands, LineView, LineRow, begun_with, aims_with, HasTalks, TalksRow, new_line}

pub aimed_more : (aims : List Aim) (mine : List Talk) (aim : Aim) (talk : Talk) → AreAimed aims mine → IsAimed aim talk → AreAimed (aims ++ aim ∷ []) (mine ++ talk ∷ [])
aimed_more [] [] aim talk all one = (one, tt)
aimed_more [] (t ∷ ts) aim talk all one = absurd all
aimed_more (a ∷ aims) [] aim talk all one = absurd all
aimed_more (a ∷ aims) (t ∷ ts) aim talk all one = (all.0, aimed_more aims ts aim talk all.1 one)

-- ---- how the row goes from one view to the next

-- by a step over the talks that are told
pub steps : (l m : LineView) (aims bims : List Aim) (last next : Last) (f : Talks → Talks) → m.start ≡ l.start → m.dial.talks ≡ option_map f l.dial.talks
    → ((before : List Talk) (now : Talks) → LineStands before aims last now → LineStands before bims next (f now)) → LineRow l aims last → LineRow m bims next
steps l m aims bims last next f start talks step row =
    subst (λ (o : Option Talks). IfSome o (λ (was : Talks). IfSome m.dial.talks (LineStands was.over bims next))) (sym (ap (λ d. d.talks) start)) (by_start l.start.talks row)
  where
    by_now : (before : List Talk) (o : Option Talks) → IfSome o (LineStands before aims last) → IfSome (option_map f o) (LineStands before bims next)
    by_now before None r = tt
    by_now before (Some now) r = step before now r

    by_start : (o : Option Talks) → IfSome o (λ (was : Talks). IfSome l.dial.talks (LineStands was.over aims last)) → IfSome o (λ (was : Talks). IfSome m.dial.talks (LineStands was.over bims next))
    by_start None r = tt
    by_start (Some was) r = subst (λ (o : Option Talks). IfSome o (LineStands was.over bims next)) (sym talks) (by_now was.over l.dial.talks r)

-- the same where the dialer wasn't called
pub rests : (l : LineView) (aims bims : List Aim) (last next : Last) → ((before : List Talk) (now : Talks) → LineStands before aims last now → LineStands before bims next now) → LineRow l aims last → LineRow l bims next
rests l aims bims last next step row = by_start l.start.talks row
  where
    by_now : (before : List Talk) (o : Option Talks) → IfSome o (LineStands before aims last) → IfSome o (LineStands before bims next)
    by_now before None r = tt
    by_now before (Some now) r = step before now r

    by_start : (o : Option Talks) → IfSome o (λ (was : Talks). IfSome l.dial.talks (LineStands was.over aims last)) → IfSome o (λ (was : Talks). IfSome l.dial.talks (LineStands was.over bims next))
    by_start None r = tt
    by_start (Some was) r = by_now was.over l.dial.talks r

-- a statement that holds behind any talks, and behind which at most one more stands, is of talks that aren't told
abbrev pub Bounds : (List Talk → Talks → Type 0) → Type 0
Bounds F = (before : List Talk) (now : Talks) → F before now → (length before ≤ length now.over) × (length now.over ≤ length before + 1)

untold : (F : List Talk → Talks → Type 0) (to : Talk) → Bounds F → (o : Option Talks) → ((before : List Talk) → IfSome o (F before)) → o ≡ None
untold F to bounds None all = refl
untold F to bounds (Some now) all =
    let low : length now.over ≤ 0 + 1 = (bounds [] now (all [])).1 in
    let high : 2 ≤ length now.over = (bounds (to ∷ to ∷ []) now (all (to ∷ to ∷ []))).0 in
    absurd (omega (arith, low, high))

-- by what a poll says of the talks behind any others
pub rises : (l m : LineView) (aims bims : List Aim) (last next : Last) (F G : List Talk → Talks → Type 0) (to : Talk) → m.start ≡ l.start → ((before : List Talk) → IfSome l.dial.talks (F before) → IfSome m.dial.talks (G before))
    → Bounds G → ((before : List Talk) (now : Talks) → StandsLast before last now → F before now) → ((before mine : List Talk) (now : Talks) → AreAimed aims mine → G (before ++ mine) now → LineStands before bims next now) → LineRow l aims last → LineRow m bims next
rises l m aims bims last next F G to start poll bounds reads says row =
    subst (λ (o : Option Talks). IfSome o (λ (was : Talks). IfSome m.dial.talks (LineStands was.over bims next))) (sym (ap (λ d. d.talks) start)) (by_start l.start.talks row)
  where
    told : (before mine : List Talk) (o : Option Talks) → AreAimed aims mine → IfSome o (G (before ++ mine)) → IfSome o (LineStands before bims next)
    told before mine None aimed g = tt
    told before mine (Some now) aimed g = says before mine now aimed g

    by_now : (before : List Talk) (o : Option Talks) → l.dial.talks ≡ o → IfSome o (LineStands before aims last) → IfSome m.dial.talks (LineStands before bims next)
    by_now before None e r =
        let none : m.dial.talks ≡ None = untold G to bounds m.dial.talks (λ behind. poll behind (subst (λ (o : Option Talks). IfSome o (F behind)) (sym e) tt)) in
        subst (λ (o : Option Talks). IfSome o (LineStands before bims next)) (sym none) tt
    by_now before (Some now) e r = told before r.mine m.dial.talks r.aimed (poll (before ++ r.mine) (subst (λ (o : Option Talks). IfSome o (F (before ++ r.mine))) (sym e) (reads (before ++ r.mine) now r.stands)))

    by_start : (o : Option Talks) → IfSome o (λ (was : Talks). IfSome l.dial.talks (LineStands was.over aims last)) → IfSome o (λ (was : Talks). IfSome m.dial.talks (LineStands was.over bims next))
    by_start None r = tt
    by_start (Some was) r = by_now was.over l.dial.talks refl r

-- ---- the talk of an exchange

-- one talk more
pub one_more : (before over : List Talk) (talk : Talk) → over ≡ before ++ talk ∷ [] → (length before ≤ length over) × (length over ≤ length before + 1)
one_more before over talk e =
    let more : length over ≡ length before + 1 = ap length e ∙ length-append before (talk ∷ []) in
    (omega (arith, more), omega (arith, more))

pub behind : (asked : AskedView) (given : List ℕ) (place : Place) → Bounds (λ before now. IsAt asked before given place now)
behind asked given (Unbegun request) before now at = by (ap length at.over)
  where
    by : length now.over ≡ length before → (length before ≤ length now.over) × (length now.over ≤ length before + 1)
    by e = (omega (arith, e), omega (arith, e))
behind asked given (Connecting request) before now at = by (ap length at.talk.over)
  where
    by : length now.over ≡ length before → (length before ≤ length now.over) × (length now.over ≤ length before + 1)
    by e = (omega (arith, e), omega (arith, e))
behind asked given (Sending sending) before now at = by (ap length at.talk.over)
  where
    by : length now.over ≡ length before → (length before ≤ length now.over) × (length now.over ≤ length before + 1)
    by e = (omega (arith, e), omega (arith, e))
behind asked given (Heading heading) before now at = by (ap length at.talk.over)
  where
    by : length now.over ≡ length before → (length before ≤ length now.over) × (length now.over ≤ length before + 1)
    by e = (omega (arith, e), omega (arith, e))
behind asked given (Reading reading) before now at = by (ap length at.talk.over)
  where
    by : length now.over ≡ length before → (length before ≤ length now.over) × (length now.over ≤ length before + 1)
    by e = (omega (arith, e), omega (arith, e))
behind asked given (Over ending) before now at = one_more before now.over at.talk at.over

-- a poll of an exchange
pub polled : (l m : LineView) (aims : List Aim) (x y : ExchangeView) (given more : List ℕ) → m.start ≡ l.start → y.asked ≡ x.asked
    → ((before : List Talk) → IfSome l.dial.talks (λ (now : Talks). IsAt x.asked before given x.place now) → IfSome m.dial.talks (λ (now : Talks). IsAt y.asked before more y.place now))
    → LineRow l aims (speaking (record { exchange = x; given = given })) → LineRow m aims (speaking (record { exchange = y; given = more }))
polled l m aims x y given more start asked poll row =
    rises l m aims aims (speaking (record { exchange = x; given = given })) (speaking (record { exchange = y; given = more })) (λ before now. IsAt x.asked before given x.place now) (λ before now. IsAt y.asked before more y.place now) (begun_to x.asked.to)
    start poll (behind y.asked more y.place) (λ before now at. at) (λ before mine now aimed at. record { mine = mine; aimed = aimed; stands = at }) row

abbrev said_of : AskedView → List ℕ → Place → Said
said_of asked given place = record { exchange = record { asked = asked; place = place }; given = given }

-- a talk that was hung up is one of those that are over
begun_by : (before : List Talk) (aims : List Aim) (mine : List Talk) (said : Said) (talks : Talks) (has : HasTalk said.exchange.asked (before ++ mine) talks) → AreAimed aims mine
    → EndsAt said said.exchange.place has.talk.received → LineStands before (aims ++ aim_of said ∷ []) idle (hung_up talks)
begun_by before aims mine said talks has aimed ends = record {
  mine = mine ++ has.talk ∷ [];
  aimed = aimed_more aims mine (aim_of said) has.talk aimed (record { to = has.is_talk.to; begun = has.is_talk.begun; whole = has.is_talk.whole; came = ends });
  stands = (has.all ∙ append_assoc before mine (has.talk ∷ []), refl);
}

none_present : (talks : Talks) → talks.present ≡ None → all_of talks ≡ talks.over
none_present talks none = ap (λ p. talks.over ++ present_of p) none ∙ append-nil talks.over

hung_by : (before : List Talk) (aims : List Aim) (mine : List Talk) (asked : AskedView) (given : List ℕ) (place : Place) (talks : Talks) → AreAimed aims mine
    → IsAt asked (before ++ mine) given place talks → LineStands before (begun_with aims (said_of asked given place)) idle (hung_up talks)
hung_by before aims mine asked given (Unbegun request) talks aimed at = record { mine = mine; aimed = aimed; stands = (none_present talks at.present ∙ at.over, refl) }
hung_by before aims mine asked given (Connecting request) talks aimed at =
    begun_by before aims mine (said_of asked given (Connecting request)) talks (talked asked (before ++ mine) given (Connecting request) (Some talks) (omega arith) at) aimed tt
hung_by before aims mine asked given (Sending sending) talks aimed at =
    begun_by before aims mine (said_of asked given (Sending sending)) talks (talked asked (before ++ mine) given (Sending sending) (Some talks) (omega arith) at) aimed tt
hung_by before aims mine asked given (Heading heading) talks aimed at =
    begun_by before aims mine (said_of asked given (Heading heading)) talks (talked asked (before ++ mine) given (Heading heading) (Some talks) (omega arith) at) aimed tt
hung_by before aims mine asked given (Reading reading) talks aimed at =
    begun_by before aims mine (said_of asked given (Reading reading)) talks (talked asked (before ++ mine) given (Reading reading) (Some talks) (omega arith) at) aimed tt
hung_by before aims mine asked given (Over ending) talks aimed at =
    begun_by before aims mine (said_of asked given (Over ending)) talks (record { talk = at.talk; all = none_present talks at.present ∙ at.over; is_talk = at.is_talk }) aimed at.cause

-- the talk of an exchange is hung up
pub hangs : (l m : LineView) (aims : List Aim) (said : Said) → m.start ≡ l.start → m.dial.talks ≡ option_map hung_up l.dial.talks → LineRow l aims (speaking said) → LineRow m aims (hung said)
hangs l m aims said start talks row =
    steps l m aims aims (speaking said) (hung said) hung_up start talks (λ before now r. record { mine = r.mine; aimed = r.aimed; stands = record { was = now; stood = r.stands; now_is = refl } }) row

-- and is then one of those that are over
pub drops : (l m : LineView) (aims : List Aim) (said : Said) → m.start ≡ l.start → m.dial.talks ≡ option_map hung_up l.dial.talks → LineRow l aims (speaking said) → LineRow m (begun_with aims said) idle
drops l m aims said start talks row =
    steps l m aims (begun_with aims said) (speaking said) idle hung_up start talks (λ before now r. hung_by before aims r.mine said.exchange.asked said.given said.exchange.place now r.aimed r.stands) row

-- an exchange that is over has hung up
over_again : (talks : Talks) → talks.present ≡ None → talks ≡ hung_up talks
over_again talks none = talks_are talks (all_of talks) None (sym (none_present talks none)) none
  where
    talks_are : (t : Talks) (over : List Talk) (present : Option Talk) → t.over ≡ over → t.present ≡ present → t ≡ record { over = over; present = present }
    talks_are t over present e f = ap (λ o. record { over = o; present = t.present }) e ∙ ap (λ p. record { over = over; present = p }) f

over_present : (before : List Talk) (asked : AskedView) (given : List ℕ) (place : Place) (talks : Talks) → rank place ≡ 5 → IsAt asked before given place talks → talks.present ≡ None
over_present before asked given (Unbegun request) talks five at = absurd (omega (arith, five))
over_present before asked given (Connecting request) talks five at = absurd (omega (arith, five))
over_present before asked given (Sending sending) talks five at = absurd (omega (arith, five))
over_present before asked given (Heading heading) talks five at = absurd (omega (arith, five))
over_present before asked given (Reading reading) talks five at = absurd (omega (arith, five))
over_present before asked given (Over ending) talks five at = at.present

pub is_hung : (l : LineView) (aims : List Aim) (said : Said) → rank said.exchange.place ≡ 5 → LineRow l aims (speaking said) → LineRow l aims (hung said)
is_hung l aims said five row =
    rests l aims aims (speaking said) (hung said) (λ before now r. record { mine = r.mine; aimed = r.aimed; stands = record { was = now; stood = r.stands; now_is = over_again now (over_present (before ++ r.mine) said.exchange.asked said.given said.exchange.place now five r.stands) } }) row

-- the talk that was hung up is one of those that are over
ended_by : (before : List Talk) (aims : List Aim) (mine : List Talk) (said : Said) (now : Talks) → AreAimed aims mine → StandsHung (before ++ mine) said now → LineStands before (begun_with aims said) idle now
ended_by before aims mine said now aimed stands =
    subst (LineStands before (begun_with aims said) idle) (sym stands.now_is) (hung_by before aims mine said.exchange.asked said.given said.exchange.place stands.was aimed stands.stood)

pub ended : (l : LineView) (aims : List Aim) (said : Said) → LineRow l aims (hung said) → LineRow l (begun_with aims said) idle
ended l aims said row = rests l aims (begun_with aims said) (hung said) idle (λ before now r. ended_by before aims r.mine said now r.aimed r.stands) row

-- the row of the talks, with the last exchange open or over
none_talks : (before : List Talk) (aims : List Aim) (now : Talks) → LineStands before aims idle now → HasTalks before aims now
none_talks before aims now row = record { mine = row.mine; all = none_present now row.stands.1 ∙ row.stands.0; aimed = row.aimed }

said_talks : (before : List Talk) (aims : List Aim) (mine : List Talk) (asked : AskedView) (given : List ℕ) (place : Place) (now : Talks) → AreAimed aims mine → IsAt asked (before ++ mine) given place now
    → HasTalks before (begun_with aims (said_of asked given place)) now
said_talks before aims mine asked given place now aimed at =
    let over : LineStands before (begun_with aims (said_of asked given place)) idle (hung_up now) = hung_by before aims mine asked given place now aimed at in
    record { mine = over.mine; all = over.stands.0; aimed = over.aimed }

last_talks : (before : List Talk) (aims : List Aim) (last : Last) (now : Talks) → LineStands before aims last now → HasTalks before (aims_with aims last) now
last_talks before aims idle now row = none_talks before aims now row
last_talks before aims (speaking said) now row = said_talks before aims row.mine said.exchange.asked said.given said.exchange.place now row.aimed row.stands
last_talks before aims (hung said) now row = none_talks before (begun_with aims said) now (ended_by before aims row.mine said now row.aimed row.stands)

pub talks_row : (l : LineView) (aims : List Aim) (last : Last) → LineRow l aims last → TalksRow l (aims_with aims last)
talks_row l aims last row = by_start l.start.talks row
  where
    by_now : (before : List Talk) (o : Option Talks) → IfSome o (LineStands before aims last) → IfSome o (HasTalks before (aims_with aims last))
    by_now before None r = tt
    by_now before (Some now) r = last_talks before aims last now r

    by_start : (o : Option Talks) → IfSome o (λ (was : Talks). IfSome l.dial.talks (LineStands was.over aims last)) → IfSome o (λ (was : Talks). IfSome l.dial.talks (HasTalks was.over (aims_with aims last)))
    by_start None r = tt
    by_start (Some was) r = by_now was.over l.dial.talks r

-- a new exchange stands behind the talks that are over
pub begins_talk : (l : LineView) (aims : List Aim) (asked : AskedView) (request : List ℕ) → LineRow l aims idle
    → LineRow l aims (speaking (record { exchange = record { asked = asked; place = Unbegun request }; given = [] }))
begins_talk l aims asked request row =
    rests l aims aims idle (speaking (record { exchange = record { asked = asked; place = Unbegun request }; given = [] }))
    (λ before now r. record { mine = r.mine; aimed = r.aimed; stands = record { over = r.stands.0; present = r.stands.1; none_given = refl } }) row

-- a dialer with which a session begins is in no talk
begins_by : (o : Option Talks) → IfSome o (λ (talks : Talks). talks.present ≡ None) → IfSome o (λ (was : Talks). IfSome o (LineStands was.over [] idle))
begins_by None alone = tt
begins_by (Some talks) alone = record { mine = []; aimed = tt; stands = (sym (append-nil talks.over), alone) }

pub begins : (dial : DialTells) → IsIdle dial → LineRow (new_line dial) [] idle
begins dial alone = begins_by dial.talks alone
