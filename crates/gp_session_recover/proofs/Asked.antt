-- Quests, one behind the others.
use Rattle.std.proofs.Common.{◌≡◌, ℕ, List, [], ◌∷◌, ◌++◌, refl, sym, ap, ◌∙◌, subst, append_assoc, append-nil, Option, Some, None, option_map}
use Rattle.std.proofs.lemmas.Grind.{flat_map-append}
use Rattle.std.proofs.lemmas.List.{map-append}
use Rattle.gp_plain.specs.declared.event.Event.{Event}
use Rattle.gp_plain.specs.declared.http.Signer.{Signer}
use Rattle.gp_again.specs.Views.{AgainView}
use Rattle.gp_session.specs.Lines.{Aim, aim_sought}
use Rattle.gp_session_recover.specs.Quests.{AreAsked, AreQuests, IsQuestBy, Quest, after_quest, after_quests, aims_of, event_of, events_of, ids_of, moments_of}
use Rattle.gp_session_recover.specs.Rows.{AsksOf}

pub after_more : (o : AgainView) (qs : List Quest) (q : Quest) → after_quests o (qs ++ q ∷ []) ≡ after_quest (after_quests o qs) q
after_more o [] q = refl
after_more o (r ∷ rs) q = after_more (after_quest o r) rs q

quests_more : (signer : Signer) (o : AgainView) (qs : List Quest) (q : Quest) → AreQuests signer o qs → IsQuestBy (after_quests o qs) signer q → AreQuests signer o (qs ++ q ∷ [])
quests_more signer o [] q all is = (is, tt)
quests_more signer o (r ∷ rs) q all is = (all.0, quests_more signer (after_quest o r) rs q all.1 is)

-- one more quest, of a stream with a link
pub asked_more : (signer : Signer) (source : Option AgainView) (qs : List Quest) (q : Quest) → AreAsked signer source qs → AsksOf (option_map (λ (o : AgainView). after_quests o qs) source) (λ o. IsQuestBy o signer q) → AreAsked signer source (qs ++ q ∷ [])
asked_more signer None qs q all is = absurd is
asked_more signer (Some o) qs q all is = quests_more signer o qs q all is

pub again_more : (source : Option AgainView) (qs : List Quest) (q : Quest) → option_map (λ (o : AgainView). after_quests o (qs ++ q ∷ [])) source ≡ option_map (λ (o : AgainView). after_quest o q) (option_map (λ (o : AgainView). after_quests o qs) source)
again_more None qs q = refl
again_more (Some o) qs q = ap (λ (x : AgainView). Some x) (after_more o qs q)

pub events_more : (hold : ℕ) (qs : List Quest) (q : Quest) → events_of hold (qs ++ q ∷ []) ≡ events_of hold qs ++ event_of hold q
events_more hold qs q = flat_map-append (event_of hold) qs (q ∷ []) ∙ ap (λ xs. events_of hold qs ++ xs) (append-nil (event_of hold q))

pub ids_more : (qs : List Quest) (q : Quest) → ids_of (qs ++ q ∷ []) ≡ ids_of qs ++ q.sought.sought.from ∷ []
ids_more qs q = map-append (λ (r : Quest). r.sought.sought.from) qs (q ∷ [])

pub aims_more : (aims : List Aim) (qs : List Quest) (q : Quest) → (aims ++ aims_of qs) ++ aim_sought q.sought ∷ [] ≡ aims ++ aims_of (qs ++ q ∷ [])
aims_more aims qs q = append_assoc aims (aims_of qs) (aim_sought q.sought ∷ []) ∙ ap (λ xs. aims ++ xs) (sym (map-append (λ (r : Quest). aim_sought r.sought) qs (q ∷ [])))

pub moments_more : (qs : List Quest) (q : Quest) → moments_of (qs ++ q ∷ []) ≡ moments_of qs ++ q.moment ∷ []
moments_more qs q = map-append (λ (r : Quest). r.moment) qs (q ∷ [])

-- what is asked of someone
pub asks_map : (again : Option AgainView) (Is Has : AgainView → Type 0) → ((o : AgainView) → Is o → Has o) → AsksOf again Is → AsksOf again Has
asks_map None Is Has f a = absurd a
asks_map (Some o) Is Has f a = f o a
