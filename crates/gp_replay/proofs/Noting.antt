-- What is kept of the holds beside the registry goes with the history.
use Rattle.std.proofs.Common.{◌≡◌, ℕ, zero, suc, length, slice_get, ◌==◌, Bool, true, false, cond, not, List, [], ◌∷◌, ◌++◌, map, Option, Some, None, is_some, option_map, refl, sym, ap, ◌∙◌, append_assoc}
use Rattle.std.specs.Option.{option_map_or}
use Rattle.std.specs.List.{flat_map, AllByRecursion}
use Rattle.std.proofs.lemmas.List.{append-nil, map-append}
use Rattle.std.proofs.lemmas.List.Sums.{fold-append}
use Rattle.gp_plain.specs.declared.item.Item.{Item}
use Rattle.gp_plain.specs.declared.event.HoldKind.{HoldKind}
use Rattle.gp_plain.specs.declared.event.HoldSpec.{HoldSpec}
use Rattle.gp_plain.specs.declared.event.Event.{Event}
use Rattle.gp_plain.specs.declared.event.Event.TheVariants.{Attach, Publish, Take, Page, PageFailed, Push, Join, Leave, Detach}
use Rattle.gp_plain.specs.declared.reply.Piece.{Piece}
use Rattle.gp_plain.specs.declared.reply.EndCause.{EndCause}
use Rattle.gp_plain.specs.declared.reply.Reply.{Reply}
use Rattle.gp_plain.specs.declared.reply.Reply.TheVariants.{Attached, Full, Published, Repeat, Taken, Paged, Stale, Done, Foreign, Gone, OtherKind, Unknown}
use Rattle.gp_plain.specs.Pieces.{piece_bytes, moved, position_after, batch, left, text}
use Rattle.gp_plain.specs.Follow.{last_items, is_repeat}
use Rattle.gp_plain.specs.Holds.{State, Held, pending, position, ended, log, start_of, position_of, terms_of, is_live, offered, settled_if, grew, begun, timed, taken_of, taken_from, paged_from, failed, let_go, end_or_detached, ends_now, push, join, leave, changed_by}
use Rattle.gp_plain.specs.History.{Past, page_of, has_place, if_kept, kept_at, refused_or, changed, served_by, with_item, with_hold, after_event, answer, pending_at, cause_at}
use Rattle.gp_script.specs.Texts.{hold_text, piece_text, end_text}
use Rattle.gp_replay.specs.declared.log.Log.{Log}
use Rattle.gp_replay.specs.Logs.{log_of, noted_of, begun_if, taken_if, let_go_if, after_note, log_position, whole_text, or_end}
use Rattle.gp_replay.specs.Outputs.{log_text}

absurd_true : {A : Type 0} → false ≡ true → A
absurd_true e = cc

abbrev kept_log : HoldSpec → List Piece → Log
kept_log spec taken = record { kind = (terms_of spec).kind; start = start_of spec; pieces = taken; ended = None }

log_kept : (h : Held) → h.released ≡ false → log_of h ≡ kept_log h.spec h.taken
log_kept h r = rw r refl

served_dead : (item : Item) (before after : List Item) (s : State) (live : Bool) → live ≡ false → cond live (let next = offered item before s in settled_if (grew s next) after next) s ≡ s
served_dead item before after s true e = absurd_true (sym e)
served_dead item before after s false e = refl

served_one : (item : Item) (before after : List Item) (h : Held) (released : Bool) → h.released ≡ released → (h.released ≡ true → is_live h.state ≡ false) → log_of (served_by item before after h) ≡ log_of h
served_one item before after h true r dead = ap (λ (s : State). log_of (record h { state = s })) (served_dead item before after h.state (is_live h.state) (dead r))
served_one item before after h false r dead = log_kept (served_by item before after h) r ∙ sym (log_kept h r)

served_logs : (item : Item) (before after : List Item) (hs : List Held) → AllByRecursion (λ (h : Held). h.released ≡ true → is_live h.state ≡ false) hs → map log_of (map (served_by item before after) hs) ≡ map log_of hs
served_logs item before after [] all = refl
served_logs item before after (h ∷ hs) all =
    ap (λ l. l ∷ map log_of (map (served_by item before after) hs)) (served_one item before after h h.released refl all.0) ∙ ap (λ ls. log_of h ∷ ls) (served_logs item before after hs all.1)

published_logs : (past : Past) (item : Item) (repeat : Bool) → AllByRecursion (λ (h : Held). h.released ≡ true → is_live h.state ≡ false) past.holds → map log_of (cond repeat past (with_item past item)).holds ≡ map log_of past.holds
published_logs past item true all = refl
published_logs past item false all = served_logs item (last_items past.published) (last_items (past.published ++ item ∷ [])) past.holds all

attached_logs : (past : Past) (spec : HoldSpec) (place : Bool) (n : ℕ)
    → map log_of (cond place (with_hold past (begun 0 spec (last_items past.published))) past).holds
    ≡ begun_if (record { kind = (terms_of spec).kind; start = start_of spec; pieces = []; ended = None }) (cond place (Attached n) (Full 4096)) (map log_of past.holds)
attached_logs past spec true n = map-append log_of past.holds (begun 0 spec (last_items past.published) ∷ [])
attached_logs past spec false n = refl

told_log : (kind : HoldKind) (start : Option (List ℕ)) (taken given rest : List Piece) (ended : Option EndCause)
    → (let l : Log = record { kind = kind; start = start; pieces = cond (is_some (ends_now ended rest)) ((taken ++ given) ++ rest) (taken ++ given); ended = cond (is_some (ends_now ended rest)) ended None } in l)
    ≡ (record { kind = kind; start = start; pieces = taken ++ given; ended = ends_now ended rest })
told_log kind start taken given [] None = refl
told_log kind start taken given [] (Some cause) = ap (λ (ps : List Piece). let l : Log = record { kind = kind; start = start; pieces = ps; ended = Some cause } in l) (append-nil (taken ++ given))
told_log kind start taken given (x ∷ rest) ended = refl

take_log_is : (now : ℕ) (h : Held) → h.released ≡ false → log_of (taken_from now h) ≡ record (log_of h) { pieces = (log_of h).pieces ++ (taken_of now h.state).pieces; ended = (taken_of now h.state).ended }
take_log_is now h r = let s = timed now h.state.terms.deadline h.state in rw r (told_log (terms_of h.spec).kind (start_of h.spec) h.taken (batch s.pending) (left s.pending) s.ended)

taken_cons : (l : Log) (n : ℕ) (reply : Reply) (ls : List Log) → l ∷ taken_if n reply ls ≡ taken_if (suc n) reply (l ∷ ls)
taken_cons l n (Attached x) ls = refl
taken_cons l n (Full x) ls = refl
taken_cons l n (Published x) ls = refl
taken_cons l n (Repeat x) ls = refl
taken_cons l n (Taken x) ls = refl
taken_cons l n Paged ls = refl
taken_cons l n (Stale x y) ls = refl
taken_cons l n Done ls = refl
taken_cons l n (Foreign x) ls = refl
taken_cons l n (Gone x) ls = refl
taken_cons l n (OtherKind x) ls = refl
taken_cons l n (Unknown x) ls = refl

abbrev refused_by : ℕ → ℕ → Held → Bool → Bool → Reply
refused_by now m h true own = Unknown m
refused_by now m h false own = cond own (Taken (taken_of now h.state)) (Foreign h.owner)

take_here : (now m : ℕ) (h : Held) (ls : List Log) (released own : Bool) → h.released ≡ released
    → log_of (cond (not released) (cond own (taken_from now h) h) h) ∷ ls ≡ taken_if 0 (refused_by now m h released own) (log_of h ∷ ls)
take_here now m h ls true own r = refl
take_here now m h ls false true r = ap (λ l. l ∷ ls) (take_log_is now h r)
take_here now m h ls false false r = refl

refused_is : (now m : ℕ) (h : Held) (released : Bool) → refused_or 0 m (cond released None (Some h)) (λ (k : Held). Taken (taken_of now k.state)) ≡ refused_by now m h released (h.owner == 0)
refused_is now m h true = refl
refused_is now m h false = refl

take_logs : (now m n : ℕ) (hs : List Held) → map log_of (changed 0 n (taken_from now) hs) ≡ taken_if n (refused_or 0 m (kept_at hs n) (λ (h : Held). Taken (taken_of now h.state))) (map log_of hs)
take_logs now m n [] = refl
take_logs now m zero (h ∷ hs) = take_here now m h (map log_of hs) h.released (h.owner == 0) refl ∙ ap (λ reply. taken_if 0 reply (log_of h ∷ map log_of hs)) (sym (refused_is now m h h.released))
take_logs now m (suc n) (h ∷ hs) = ap (λ ls. log_of h ∷ ls) (take_logs now m n hs) ∙ taken_cons (log_of h) n (refused_or 0 m (kept_at hs n) (λ (k : Held). Taken (taken_of now k.state))) (map log_of hs)

let_go_cons : (l : Log) (n : ℕ) (ps : List Piece) (cause : EndCause) (reply : Reply) (ls : List Log) → l ∷ let_go_if n ps cause reply ls ≡ let_go_if (suc n) ps cause reply (l ∷ ls)
let_go_cons l n ps cause (Attached x) ls = refl
let_go_cons l n ps cause (Full x) ls = refl
let_go_cons l n ps cause (Published x) ls = refl
let_go_cons l n ps cause (Repeat x) ls = refl
let_go_cons l n ps cause (Taken x) ls = refl
let_go_cons l n ps cause Paged ls = refl
let_go_cons l n ps cause (Stale x y) ls = refl
let_go_cons l n ps cause Done ls = refl
let_go_cons l n ps cause (Foreign x) ls = refl
let_go_cons l n ps cause (Gone x) ls = refl
let_go_cons l n ps cause (OtherKind x) ls = refl
let_go_cons l n ps cause (Unknown x) ls = refl

let_go_own : (h : Held) → h.released ≡ false → log_of (let_go h) ≡ record (log_of h) { pieces = (log_of h).pieces ++ pending h; ended = Some (end_or_detached (ended h)) }
let_go_own h r = rw r refl

let_go_by : (h : Held) (ls : List Log) (own : Bool) → h.released ≡ false
    → log_of (cond own (let_go h) h) ∷ ls ≡ let_go_if 0 (pending h) (end_or_detached (ended h)) (cond own Done (Foreign h.owner)) (log_of h ∷ ls)
let_go_by h ls true r = ap (λ l. l ∷ ls) (let_go_own h r)
let_go_by h ls false r = refl

let_go_here : (m : ℕ) (h : Held) (ls : List Log) (released : Bool) → h.released ≡ released
    → log_of (cond (not released) (cond (h.owner == 0) (let_go h) h) h) ∷ ls
    ≡ let_go_if 0 (option_map_or pending (cond released None (Some h)) []) (end_or_detached (option_map_or ended (cond released None (Some h)) None)) (refused_or 0 m (cond released None (Some h)) (λ (k : Held). Done)) (log_of h ∷ ls)
let_go_here m h ls true r = refl
let_go_here m h ls false r = let_go_by h ls (h.owner == 0) r

let_go_logs : (m n : ℕ) (hs : List Held) → map log_of (changed 0 n let_go hs) ≡ let_go_if n (pending_at hs n) (end_or_detached (cause_at hs n)) (refused_or 0 m (kept_at hs n) (λ (h : Held). Done)) (map log_of hs)
let_go_logs m n [] = refl
let_go_logs m zero (h ∷ hs) = let_go_here m h (map log_of hs) h.released refl
let_go_logs m (suc n) (h ∷ hs) = ap (λ ls. log_of h ∷ ls) (let_go_logs m n hs) ∙ let_go_cons (log_of h) n (pending_at hs n) (end_or_detached (cause_at hs n)) (refused_or 0 m (kept_at hs n) (λ (k : Held). Done)) (map log_of hs)

-- what takes nothing and lets nothing go leaves the logs

same_here : (f : Held → Held) (h : Held) (released own : Bool) → h.released ≡ released → (h.released ≡ false → log_of (f h) ≡ log_of h) → log_of (cond (not released) (cond own (f h) h) h) ≡ log_of h
same_here f h true own r same = refl
same_here f h false true r same = same r
same_here f h false false r same = refl

same_logs : (n : ℕ) (f : Held → Held) (hs : List Held) → ((h : Held) → h.released ≡ false → log_of (f h) ≡ log_of h) → map log_of (changed 0 n f hs) ≡ map log_of hs
same_logs n f [] same = refl
same_logs zero f (h ∷ hs) same = ap (λ l. l ∷ map log_of hs) (same_here f h h.released (h.owner == 0) refl (same h))
same_logs (suc n) f (h ∷ hs) same = ap (λ ls. log_of h ∷ ls) (same_logs n f hs same)

pub noted_law : (past : Past) (event : Event) → AllByRecursion (λ (h : Held). h.released ≡ true → is_live h.state ≡ false) past.holds
    → map log_of (after_event past 0 event).holds ≡ after_note (map log_of past.holds) (noted_of past.holds event) (answer past 0 event)
noted_law past (Attach spec) all = attached_logs past spec (has_place past.holds) (length past.holds)
noted_law past (Publish item) all = published_logs past item (is_repeat (last_items past.published) item) all
noted_law past (Take hold now) all = take_logs now hold hold past.holds
noted_law past (Detach hold) all = let_go_logs hold hold past.holds
noted_law past (Page hold from to bytes then) all =
    let page = page_of from to bytes then in
    same_logs hold (paged_from (last_items past.published) page) past.holds (λ h r. log_kept (paged_from (last_items past.published) page h) r ∙ sym (log_kept h r))
noted_law past (PageFailed hold) all = same_logs hold failed past.holds (λ h r. log_kept (failed h) r ∙ sym (log_kept h r))
noted_law past (Push hold message) all = same_logs hold (changed_by (push message)) past.holds (λ h r. log_kept (changed_by (push message) h) r ∙ sym (log_kept h r))
noted_law past (Join hold channel) all = same_logs hold (changed_by (join channel)) past.holds (λ h r. log_kept (changed_by (join channel) h) r ∙ sym (log_kept h r))
noted_law past (Leave hold channel) all = same_logs hold (changed_by (leave channel)) past.holds (λ h r. log_kept (changed_by (leave channel) h) r ∙ sym (log_kept h r))

-- the log of a hold, from what is kept of it and what still waits

or_end_none : (ended : Option EndCause) → or_end ended None ≡ ended
or_end_none None = refl
or_end_none (Some cause) = refl

flat_map-append : (f : Piece → List ℕ) (xs ys : List Piece) → flat_map f (xs ++ ys) ≡ flat_map f xs ++ flat_map f ys
flat_map-append f [] ys = refl
flat_map-append f (x ∷ xs) ys = ap (λ b. f x ++ b) (flat_map-append f xs ys) ∙ sym (append_assoc (f x) (flat_map f xs) (flat_map f ys))

behind : (start : Option (List ℕ)) (xs ys : List Piece) → option_map (λ (at : List ℕ). position_after (position_after at xs) ys) start ≡ option_map (λ (at : List ℕ). position_after at (xs ++ ys)) start
behind None xs ys = refl
behind (Some at) xs ys = ap Some (sym (fold-append moved at xs ys))

position_by : (spec : HoldSpec) (xs ys : List Piece) (kind : HoldKind) (ended : Option EndCause)
    → log_position (record { kind = kind; start = start_of spec; pieces = xs; ended = ended }) ys ≡ position_of spec (xs ++ ys)
position_by spec xs ys kind ended = behind (start_of spec) xs ys

whole_is : (number : ℕ) (spec : HoldSpec) (xs ys : List Piece) (kept ended : Option EndCause)
    → whole_text number (record { kind = (terms_of spec).kind; start = start_of spec; pieces = xs; ended = kept }) ys ended
    ≡ hold_text number (terms_of spec).kind ++ (flat_map piece_text (xs ++ ys) ++ end_text (text (xs ++ ys)) (position_of spec (xs ++ ys)) ended)
whole_is number spec xs ys kept ended =
    let at = position_by spec xs ys (terms_of spec).kind kept in
    ap (λ b. hold_text number (terms_of spec).kind ++ b)
    (ap (λ p. flat_map piece_text xs ++ (flat_map piece_text ys ++ end_text (text xs ++ text ys) p ended)) at
    ∙ ap (λ t. flat_map piece_text xs ++ (flat_map piece_text ys ++ end_text t (position_of spec (xs ++ ys)) ended)) (sym (flat_map-append piece_bytes xs ys))
    ∙ sym (append_assoc (flat_map piece_text xs) (flat_map piece_text ys) (end_text (text (xs ++ ys)) (position_of spec (xs ++ ys)) ended))
    ∙ ap (λ b. b ++ end_text (text (xs ++ ys)) (position_of spec (xs ++ ys)) ended) (sym (flat_map-append piece_text xs ys)))

log_at : (number : ℕ) (h : Held) → position h ≡ position_of h.spec (log h)
    → hold_text number (terms_of h.spec).kind ++ (flat_map piece_text (log h) ++ end_text (text (log h)) (position_of h.spec (log h)) (ended h)) ≡ log_text number h
log_at number h at = ap (λ p. hold_text number (terms_of h.spec).kind ++ (flat_map piece_text (log h) ++ end_text (text (log h)) p (ended h))) (sym at)

log_by : (number : ℕ) (h : Held) (released : Bool) → position h ≡ position_of h.spec (log h)
    → whole_text number (record { kind = (terms_of h.spec).kind; start = start_of h.spec; pieces = cond released (log h) h.taken; ended = cond released (ended h) None })
    (option_map_or pending (cond released None (Some h)) []) (or_end (cond released (ended h) None) (option_map_or ended (cond released None (Some h)) None))
    ≡ log_text number h
log_by number h true at =
    ap (λ e. whole_text number (record { kind = (terms_of h.spec).kind; start = start_of h.spec; pieces = log h; ended = ended h }) [] e) (or_end_none (ended h))
    ∙ whole_is number h.spec (log h) [] (ended h) (ended h)
    ∙ ap (λ ps. hold_text number (terms_of h.spec).kind ++ (flat_map piece_text ps ++ end_text (text ps) (position_of h.spec ps) (ended h))) (append-nil (log h))
    ∙ log_at number h at
log_by number h false at = whole_is number h.spec h.taken (pending h) None (ended h) ∙ log_at number h at

pub log_is : (number : ℕ) (h : Held) (hs : List Held) → slice_get hs number ≡ Some h → position h ≡ position_of h.spec (log h)
    → whole_text number (log_of h) (pending_at hs number) (or_end (log_of h).ended (cause_at hs number)) ≡ log_text number h
log_is number h hs at place =
    ap (λ o. whole_text number (log_of h) (option_map_or pending (if_kept o) []) (or_end (log_of h).ended (option_map_or ended (if_kept o) None))) at ∙ log_by number h h.released place
