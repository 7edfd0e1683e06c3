use Rattle.std.proofs.Common.{◌≡◌, ◌≤◌, List, ℕ, length, take, Ok, ap, subst, ◌∙◌}
use Rattle.std.proofs.lemmas.List.{take_all}
use Rattle.gp_events.specs.declared.event.WsEvent.{WsEvent}
use Rattle.gp_events.specs.Spellings.{spell}
use Rattle.gp_events.specs.Events.{events_of}
use Rattle.gp_events.proofs.SpellLemmas.{spelled_is_read}
use Rattle.gp_events.proofs.WriteLemmas.{events_spelled}
use Rattle.gp_events.proofs.write.write_events.Goals as goal

-- all events were written
whole : (events items : List WsEvent) (text body : List ℕ) (n : ℕ) → items ≡ events → length items ≤ n → text ≡ spell (take n items) → body ≡ text → body ≡ spell events
whole events items text body n same all text_is body_is = body_is ∙ text_is ∙ ap spell (take_all n items all ∙ same)

again : (events : List WsEvent) (body : List ℕ) → body ≡ spell events → length body ≤ 1048576 → events_of body ≡ Ok events
again events body is short =
    ap events_of is ∙ spelled_is_read events (spell events) (events_spelled events (subst (λ (b : List ℕ). length b ≤ 1048576) is short))

pub returns-clause-read_again : goal.returns-clause-read_again
returns-clause-read_again c short =
    again c.args.events.now c.from_vec.result
    (whole c.args.events.now c.as_slice-event-items.result.now c.loop-event.text.items c.from_vec.result c.loop-event.event-index
    c.as_slice-event-items.ensures c.loop-event-test.false c.loop-event.invariant c.from_vec.ensures) short
