-- Scripts that are played event by event, and logs that are written one by one.
use Rattle.std.proofs.Common.{◌≡◌, ℕ, zero, suc, ◌+◌, ◌<◌, ◌⊎◌, inl, inr, true, false, List, [], ◌∷◌, ◌++◌, length, take, get_or, slice_get, map, Some, None, refl, sym, ap, ◌∙◌, subst, append_assoc, arith}
use Rattle.std.proofs.lemmas.List.{append-nil, map-append, take_more}
use Rattle.std.proofs.lemmas.List.Sums.{fold-append}
use Rattle.gp_plain.specs.declared.event.Event.{Event}
use Rattle.gp_plain.specs.declared.event.Entry.{Entry}
use Rattle.gp_plain.specs.declared.reply.Reply.{Reply}
use Rattle.std.specs.List.{AllByRecursion}
use Rattle.gp_plain.specs.Holds.{Held, is_live}
use Rattle.gp_plain.specs.History.{Past, after, nothing, past_of, held, reply}
use Rattle.gp_plain.specs.Standing.{Standing, StandsFor}
use Rattle.gp_plain.specs.Ends.{HasToldEnd, ToldLaw}
use Rattle.gp_script.specs.Texts.{reply_text}
use Rattle.gp_replay.specs.declared.log.Log.{Log}
use Rattle.gp_replay.specs.declared.log.Noted.{Noted}
use Rattle.gp_replay.specs.Logs.{log_of, noted_of, after_note}
use Rattle.gp_replay.specs.Outputs.{replies_text, log_text, logs_text}
use Rattle.gp_replay.specs.Scripts.{entry_of, entries_of}
use Rattle.gp_replay.proofs.Noting.{noted_law}

pub entries_of-push : (past : List Entry) (es : List Event) (e : Event) → (past ++ entries_of es) ++ entry_of e ∷ [] ≡ past ++ entries_of (es ++ e ∷ [])
entries_of-push past es e = append_assoc past (entries_of es) (entry_of e ∷ []) ∙ ap (λ x. past ++ x) (sym (map-append entry_of es (e ∷ [])))

pub replies_text-push : (past : List Entry) (es : List Event) (e : Event) → replies_text past (es ++ e ∷ []) ≡ replies_text past es ++ reply_text (reply (past ++ entries_of es) 0 e)
replies_text-push past [] e = append-nil (reply_text (reply past 0 e)) ∙ ap (λ (p : List Entry). reply_text (reply p 0 e)) (sym (append-nil past))
replies_text-push past (d ∷ es) e =
    let more = past ++ entry_of d ∷ [] in
    let rest = replies_text-push more es e in
    let same : more ++ entries_of es ≡ past ++ entries_of (d ∷ es) = append_assoc past (entry_of d ∷ []) (entries_of es) in
    ap (λ x. reply_text (reply past 0 d) ++ x) (rest ∙ ap (λ (p : List Entry). replies_text more es ++ reply_text (reply p 0 e)) same)
    ∙ sym (append_assoc (reply_text (reply past 0 d)) (replies_text more es) (reply_text (reply (past ++ entries_of (d ∷ es)) 0 e)))

-- a step that was or wasn't made leaves the registry at a beginning of the events
pub stands_part : (past : List Entry) (s : Standing) (done all : List Event) (e : Event) → done ≡ take (length done) all
    → (length done < length all) × (e ≡ get_or all (length done) e)
    → StandsFor s (past ++ entries_of done) ⊎ StandsFor s ((past ++ entries_of done) ++ entry_of e ∷ [])
    → (n : ℕ) × StandsFor s (past ++ entries_of (take n all))
stands_part past s done all e so_far turn part = elim part [
  | inl at ↦ (length done, subst (λ (es : List Event). StandsFor s (past ++ entries_of es)) so_far at)
  | inr at ↦ (
    length done + 1,
    subst (λ (es : List Event). StandsFor s (past ++ entries_of es)) (ap (λ (es : List Event). es ++ e ∷ []) so_far ∙ ap (λ (x : Event). take (length done) all ++ x ∷ []) turn.1 ∙ sym (take_more all (length done) e turn.0)) (subst (StandsFor s) (entries_of-push past done e) at),
  )
]

absurd_some : {A B : Type 0} {x : A} → None ≡ Some x → B
absurd_some e = cc

held_more : (past : List Entry) (e : Entry) → held (past ++ e ∷ []) ≡ (after (past_of past) e).holds
held_more past e = ap (λ (p : Past). p.holds) (fold-append after nothing past (e ∷ []))

-- what a law says of the hold of each number, it says of all
each_ended : (hs : List Held) → ((number : ℕ) (h : Held) → slice_get hs number ≡ Some h → HasToldEnd h) → AllByRecursion (λ (h : Held). h.released ≡ true → is_live h.state ≡ false) hs
each_ended [] law = tt
each_ended (h ∷ hs) law = ((law 0 h refl).released, each_ended hs (λ number k at. law (suc number) k at))

-- what is kept after a noted event
pub logs_after : ToldLaw → (past : List Entry) (event : Event) (logs now : List Log) (noted : Noted) (answered : Reply) → logs ≡ map log_of (held past) → noted ≡ noted_of (held past) event → answered ≡ reply past 0 event
    → now ≡ after_note logs noted answered → now ≡ map log_of (held (past ++ entry_of event ∷ []))
logs_after law past event logs now noted answered were is said now_is =
    now_is
    ∙ ap (λ ls. after_note ls noted answered) were
    ∙ ap (λ n. after_note (map log_of (held past)) n answered) is
    ∙ ap (λ r. after_note (map log_of (held past)) (noted_of (held past) event) r) said
    ∙ sym (noted_law (past_of past) event (each_ended (held past) (law past)))
    ∙ ap (map log_of) (sym (held_more past (entry_of event)))

hold_by : (hs : List Held) (i : ℕ) (l : Log) → slice_get (map log_of hs) i ≡ Some l → (h : Held) × (slice_get hs i ≡ Some h) × (l ≡ log_of h)
hold_by [] i l e = absurd_some e
hold_by (h ∷ hs) zero l e = (h, refl, cc e)
hold_by (h ∷ hs) (suc i) l e = hold_by hs i l e

-- a log at a place is that of the hold there
pub hold_at : (logs : List Log) (hs : List Held) (i : ℕ) (l : Log) → logs ≡ map log_of hs → slice_get logs i ≡ Some l → (h : Held) × (slice_get hs i ≡ Some h) × (l ≡ log_of h)
hold_at logs hs i l are at = hold_by hs i l (ap (λ (ls : List Log). slice_get ls i) (sym are) ∙ at)

add_zero : (n : ℕ) → n + 0 ≡ n
add_zero n = omega arith

logs_text-from : (n : ℕ) (hs : List Held) (i : ℕ) (h : Held) → slice_get hs i ≡ Some h → logs_text n (take (suc i) hs) ≡ logs_text n (take i hs) ++ log_text (n + i) h
logs_text-from n [] i h e = absurd_some e
logs_text-from n (x ∷ hs) zero h e = let same : x ≡ h = cc e in append-nil (log_text n x) ∙ ap (log_text n) same ∙ ap (λ k. log_text k h) (sym (add_zero n))
logs_text-from n (x ∷ hs) (suc i) h e =
    let next : (n + 1) + i ≡ n + suc i = omega arith in
    ap (λ t. log_text n x ++ t) (logs_text-from (n + 1) hs i h e)
    ∙ sym (append_assoc (log_text n x) (logs_text (n + 1) (take i hs)) (log_text ((n + 1) + i) h))
    ∙ ap (λ k. (log_text n x ++ logs_text (n + 1) (take i hs)) ++ log_text k h) next

zero_plus : (n : ℕ) → 0 + n ≡ n
zero_plus n = omega arith

pub logs_text-push : (hs : List Held) (i : ℕ) (h : Held) → slice_get hs i ≡ Some h → logs_text 0 (take (suc i) hs) ≡ logs_text 0 (take i hs) ++ log_text i h
logs_text-push hs i h e = logs_text-from 0 hs i h e ∙ ap (λ k. logs_text 0 (take i hs) ++ log_text k h) (zero_plus i)
