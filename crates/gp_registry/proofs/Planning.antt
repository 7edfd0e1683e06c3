-- What a run of pieces is to a hold that may have ended.
use Rattle.std.proofs.Common.{◌≡◌, ℕ, Bool, true, false, cond, not, ◌&&◌, ◌||◌, List, [], ◌∷◌, refl, sym, ap, ◌∙◌, Option, Some, None, is_none, is_some}
use Rattle.std.specs.List.{list_any}
use Rattle.gp_plain.specs.declared.item.Item.{Item}
use Rattle.gp_plain.specs.Items.{is_on, is_same}
use Rattle.gp_plain.specs.Follow.{is_repeat}
use Rattle.gp_plain.specs.Holds.{State, offered, grew}
use Rattle.gp_plain.specs.Plans.{Machine, IsRunPlanned}
use Rattle.gp_plain.specs.declared.reply.EndCause.{EndCause}
use Rattle.gp_plain.specs.Growth.{Growth}
use Rattle.gp_registry.specs.Keeps.{offered_if}
use Rattle.gp_registry.specs.Stages.{IsRunStaged}

absurd_true : {A : Type 0} → false ≡ true → A
absurd_true e = cc

live_is : (item : Item) (window : List Item) (s : State) → s.ended ≡ None → offered item window s ≡ offered_if item window s
live_is item window s n = sym (ap (λ e. cond (not (is_some e)) (offered item window s) s) n)

pub run_staged : (item : Item) (window : List Item) (m : Machine) (plan : Growth) → m.state.ended ≡ None → IsRunPlanned m (offered item window m.state) plan → IsRunStaged item window m (Some plan)
run_staged item window m plan n p =
    let same = live_is item window m.state n in
    record { ready = p.ready; effect = p.effect ∙ same; told = p.told ∙ ap (grew m.state) same }

-- a hold that hears an item is live
pub live_by : (ended : Option EndCause) (heard : Bool) → (is_none ended && heard) ≡ true → ended ≡ None
live_by None heard e = refl
live_by (Some cause) heard e = absurd_true e

-- a repeat has an id

none_same : (other : Option (List ℕ)) → is_same None other ≡ false
none_same None = refl
none_same (Some id) = refl

or_by : (a b : Bool) → b ≡ false → ((a && false) || b) ≡ false
or_by true b e = e
or_by false b e = e

no_repeat : (xs : List Item) (channel : List ℕ) → list_any (λ (other : Item). is_on channel other && is_same None other.id) xs ≡ false
no_repeat [] channel = refl
no_repeat (x ∷ xs) channel = ap (λ b. (is_on channel x && b) || list_any (λ (other : Item). is_on channel other && is_same None other.id) xs) (none_same x.id) ∙ or_by (is_on channel x) (list_any (λ (other : Item). is_on channel other && is_same None other.id) xs) (no_repeat xs channel)

some_by : (xs : List Item) (channel : List ℕ) (id : Option (List ℕ)) → list_any (λ (other : Item). is_on channel other && is_same id other.id) xs ≡ true → is_some id ≡ true
some_by xs channel (Some id) e = refl
some_by xs channel None e = absurd_true (sym (no_repeat xs channel) ∙ e)

pub repeat_has_id : (xs : List Item) (item : Item) → is_repeat xs item ≡ true → is_some item.id ≡ true
repeat_has_id xs item e = some_by xs item.channel item.id e
