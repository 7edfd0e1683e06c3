-- The log of a long poll with a previous id is what items have that go on from one another.
use Rattle.std.proofs.Common.{◌≡◌, ℕ, zero, suc, ◌-◌, Bool, true, false, cond, nat_le, List, [], ◌∷◌, ◌++◌, length, map, refl, sym, ap, ◌∙◌, subst, arith, append_assoc, slice_get, Option, Some, None, option_map}
use Rattle.std.specs.List.{AllByRecursion, Contains, find}
use Rattle.std.specs.Option.{option_map_or}
use Rattle.std.specs.Prelude.{⊤}
use Rattle.std.proofs.Math.Bool.{or-false}
use Rattle.std.proofs.lemmas.List.Elements.{Contains-append_left, Contains-append_right}
use Rattle.gp_plain.specs.declared.item.Item.{Item}
use Rattle.gp_plain.specs.declared.item.ResponsePart.{ResponsePart}
use Rattle.gp_plain.specs.declared.event.Entry.{Entry}
use Rattle.gp_plain.specs.declared.event.HoldKind.TheVariants.{Response as ResponseKind}
use Rattle.gp_plain.specs.declared.event.HoldSpec.{HoldSpec}
use Rattle.gp_plain.specs.declared.event.HoldSpec.TheVariants.{Stream, Plain, Response, Socket}
use Rattle.gp_plain.specs.declared.reply.Piece.{Piece}
use Rattle.gp_plain.specs.declared.reply.EndCause.{EndCause}
use Rattle.gp_plain.specs.declared.reply.EndCause.TheVariants.{Overflow, Retry, TimedOut}
use Rattle.gp_plain.specs.Items.{comes_after, is_on, goes_on_from}
use Rattle.gp_plain.specs.Follow.{last_items, is_heard, without_first, going_on, follow_within, follow}
use Rattle.gp_plain.specs.Pieces.{moved, moves_to, id_or, end_by, has_room, batch}
use Rattle.gp_plain.specs.Holds.{Terms, State, Held, terms_of, is_live, run, marked, missed, gapped, can_ask, offered, shows_gap, run_for, chain_run, followers, answer_of, answer_or, ends_by, settled_if, grew, served, opened, caught_up, begun_state, timed, rest_of, end_or_detached, after_page, after_failure, after_change}
use Rattle.gp_plain.specs.History.{held, published}
use Rattle.gp_plain.proofs.Windows.{drop_all}
use Rattle.gp_plain.proofs.ChainLaw.{and_both, dead_run}
use Rattle.gp_plain.proofs.Histories.{IsKept, in_each_history, all_at}
use Rattle.gp_plain.proofs.Soundness.{Fits, taken_again, sound, HasTerms}
use Rattle.gp_session_wait.proofs.Staying.{IsPoll, poll_page, poll_failure, poll_change}

-- an item that goes on from an id on the channel
pub record IsNext (items : List Item) (channel from : List ℕ) (item : Item) : Type 0 where
  pub there : Contains items item
  pub on : goes_on_from channel from item ≡ true

-- items that go on from one another
abbrev AreNext : List Item → List ℕ → List ℕ → List Item → Type 0
AreNext items channel from [] = ⊤
AreNext items channel from (item ∷ more) = IsNext items channel from item × AreNext items channel (id_or item.id from) more

-- pieces of such items, from one id to another
abbrev pub IsRun : List Item → List ℕ → List ℕ → List Piece → List ℕ → Type 0
IsRun items channel from [] at = from ≡ at
IsRun items channel from (piece ∷ pieces) at = (item : Item) × IsNext items channel from item × (piece ≡ answer_of item) × IsRun items channel (id_or item.id from) pieces at

run_push : (items : List Item) (channel from : List ℕ) (pieces : List Piece) (at : List ℕ) (item : Item) → IsRun items channel from pieces at → IsNext items channel at item
    → IsRun items channel from (pieces ++ answer_of item ∷ []) (id_or item.id at)
run_push items channel from [] at item e next =
    subst (λ (f : List ℕ). IsRun items channel f (answer_of item ∷ []) (id_or item.id at)) (sym e) (item, next, refl, refl)
run_push items channel from (piece ∷ pieces) at item r next = (r.0, r.1, r.2, run_push items channel (id_or r.0.id from) pieces at item r.3 next)

next_more : (items : List Item) (channel from : List ℕ) (item more : Item) → IsNext items channel from item → IsNext (items ++ more ∷ []) channel from item
next_more items channel from item more n = record { there = Contains-append_left items (more ∷ []) item n.there; on = n.on }

run_more : (items : List Item) (channel from : List ℕ) (pieces : List Piece) (at : List ℕ) (more : Item) → IsRun items channel from pieces at → IsRun (items ++ more ∷ []) channel from pieces at
run_more items channel from [] at more e = e
run_more items channel from (piece ∷ pieces) at more r = (r.0, next_more items channel from r.0 more r.1, r.2, run_more items channel (id_or r.0.id from) pieces at more r.3)

-- the log of a hold so far, and where it stands
pub record Runs (items : List Item) (channel start : List ℕ) (taken : List Piece) (s : State) : Type 0 where
  pub at : List ℕ
  pub position_is : s.position ≡ Some at
  pub run_is : IsRun items channel start (taken ++ s.pending) at

-- what has the same log and position
runs_same : (items : List Item) (channel start : List ℕ) (taken : List Piece) (s t : State) → t.position ≡ s.position → t.pending ≡ s.pending → Runs items channel start taken s → Runs items channel start taken t
runs_same items channel start taken s t position pending r = record {
  at = r.at;
  position_is = position ∙ r.position_is;
  run_is = subst (λ ps. IsRun items channel start (taken ++ ps) r.at) (sym pending) r.run_is;
}

moves_by : (id : Option (List ℕ)) (part : Option ResponsePart) → moves_to (answer_or id part) ≡ id
moves_by id None = refl
moves_by id (Some part) = refl

-- one more piece
run_added : (items : List Item) (channel start : List ℕ) (taken : List Piece) (s : State) (item : Item) (r : Runs items channel start taken s) → IsNext items channel r.at item
    → Runs items channel start taken (record s { pending = s.pending ++ answer_of item ∷ []; position = option_map (λ (at : List ℕ). moved at (answer_of item)) s.position; ended = end_by (answer_of item); misses = 0 })
run_added items channel start taken s item r next = record {
  at = id_or item.id r.at;
  position_is = ap (option_map (λ (at : List ℕ). moved at (answer_of item))) r.position_is ∙ ap (λ (id : Option (List ℕ)). Some (id_or id r.at)) (moves_by item.id item.response);
  run_is = subst (λ ps. IsRun items channel start ps (id_or item.id r.at)) (append_assoc taken s.pending (answer_of item ∷ [])) (run_push items channel start (taken ++ s.pending) r.at item r.run_is next);
}

runs_on : (items : List Item) (channel start : List ℕ) (taken : List Piece) (s : State) (item : Item) (more : List Item) (live room : Bool) (r : Runs items channel start taken s) → is_live s ≡ live
    → AreNext items channel r.at (item ∷ more)
    → ((t : State) (k : Runs items channel start taken t) → AreNext items channel k.at more → Runs items channel start taken (run t (map answer_of more)))
    → Runs items channel start taken
    (run (cond live (cond room (record s { pending = s.pending ++ answer_of item ∷ []; position = option_map (λ (at : List ℕ). moved at (answer_of item)) s.position; ended = end_by (answer_of item); misses = 0 }) (record s { ended = Some Overflow })) s) (map answer_of more))
unfolding run_added
runs_on items channel start taken s item more false room r l next rest = subst (Runs items channel start taken) (sym (dead_run s (map answer_of more) l)) r
runs_on items channel start taken s item more true false r l next rest =
    let t : State = record s { ended = Some Overflow } in
    subst (Runs items channel start taken) (sym (dead_run t (map answer_of more) refl)) (runs_same items channel start taken s t refl refl r)
runs_on items channel start taken s item more true true r l next rest =
    rest (record s { pending = s.pending ++ answer_of item ∷ []; position = option_map (λ (at : List ℕ). moved at (answer_of item)) s.position; ended = end_by (answer_of item); misses = 0 })
    (run_added items channel start taken s item r next.0) next.1

-- items that go on from the position are added as far as there is room
runs : (items : List Item) (channel start : List ℕ) (taken : List Piece) (s : State) (more : List Item) (r : Runs items channel start taken s) → AreNext items channel r.at more
    → Runs items channel start taken (run s (map answer_of more))
runs items channel start taken s [] r next = r
runs items channel start taken s (item ∷ more) r next =
    runs_on items channel start taken s item more (is_live s) (has_room s.pending (answer_of item)) r refl next (λ t k n. runs items channel start taken t more k n)

-- what follows in a window

absurd_found : {A : Type 0} {item : Item} → None ≡ Some item → A
absurd_found e = cc

record Found (P : Item → Type 0) (q : Item → Bool) (item : Item) : Type 0 where
  good : P item
  test : q item ≡ true

found_by : (q : Item → Bool) (P : Item → Type 0) (x item : Item) (b : Bool) (o : Option Item) → q x ≡ b → cond b (Some x) o ≡ Some item → P x → (o ≡ Some item → Found P q item) → Found P q item
found_by q P x item true o t e p rest = let same : x ≡ item = cc e in record { good = subst P same p; test = ap q (sym same) ∙ t }
found_by q P x item false o t e p rest = rest e

found_in : (q : Item → Bool) (P : Item → Type 0) (items : List Item) (item : Item) → find q items ≡ Some item → AllByRecursion P items → Found P q item
found_in q P [] item e all = absurd_found e
found_in q P (x ∷ items) item e all = found_by q P x item (q x) (find q items) refl e all.0 (λ f. found_in q P items item f all.1)

left_by : (q : Item → Bool) (P : Item → Type 0) (x : Item) (items : List Item) (b : Bool) → P x → AllByRecursion P items → AllByRecursion P (without_first q items) → AllByRecursion P (cond b items (x ∷ without_first q items))
left_by q P x items true p all rest = all
left_by q P x items false p all rest = (p, rest)

left_in : (q : Item → Bool) (P : Item → Type 0) (items : List Item) → AllByRecursion P items → AllByRecursion P (without_first q items)
left_in q P [] all = tt
left_in q P (x ∷ items) all = left_by q P x items (q x) all.0 all.1 (left_in q P items all.1)

stops_by : (items : List Item) (channel from : List ℕ) (more : List Item) (stop : Bool) → AreNext items channel from more → AreNext items channel from (cond stop [] more)
stops_by items channel from more true next = tt
stops_by items channel from more false next = next

going : (items : List Item) (channel : List ℕ) (ends : Item → Bool) (at : List ℕ) (from : List Item) (rest : List ℕ → List Item) (found : Option Item) → find (goes_on_from channel at) from ≡ found → AllByRecursion (Contains items) from
    → ((p : List ℕ) → AreNext items channel p (rest p)) → AreNext items channel at (going_on ends at rest found)
going items channel ends at from rest None e all next = tt
going items channel ends at from rest (Some item) e all next =
    let f = found_in (goes_on_from channel at) (Contains items) from item e all in
    (record { there = f.good; on = f.test }, stops_by items channel (id_or item.id at) (rest (id_or item.id at)) (ends item) (next (id_or item.id at)))

following : (items : List Item) (channel : List ℕ) (ends : Item → Bool) (n : ℕ) (at : List ℕ) (from : List Item) → AllByRecursion (Contains items) from → AreNext items channel at (follow_within n channel ends at from)
following items channel ends zero at from all = tt
following items channel ends (suc n) at from all =
    going items channel ends at from (λ (next : List ℕ). follow_within n channel ends next (without_first (goes_on_from channel at) from)) (find (goes_on_from channel at) from) refl all
    (λ p. following items channel ends n p (without_first (goes_on_from channel at) from) (left_in (goes_on_from channel at) (Contains items) from all))

in_all : (items ys : List Item) → ((x : Item) → Contains ys x → Contains items x) → AllByRecursion (Contains items) ys
in_all items [] lift = tt
in_all items (y ∷ ys) lift = (lift y (0, omega arith, refl), in_all items ys (λ x c. lift x (Contains-append_right (y ∷ []) ys x c)))

in_window : (items more : List Item) → ((x : Item) → Contains items x → Contains more x) → AllByRecursion (Contains more) (last_items items)
in_window items more lift = drop_all (Contains more) (length items - 4096) items (in_all more items lift)

-- what an item brings

-- the items whose pieces a run is
record IsRunOf (items : List Item) (channel at : List ℕ) (pieces : List Piece) : Type 0 where
  of : List Item
  is : pieces ≡ map answer_of of
  next : AreNext items channel at of

no_run : (items : List Item) (channel at : List ℕ) → IsRunOf items channel at []
no_run items channel at = record { of = []; is = refl; next = tt }

behind_by : (items : List Item) (channel at : List ℕ) (window : List Item) (item : Item) (id : Option (List ℕ)) (ends : Bool) → item.id ≡ id → IsNext items channel at item → AllByRecursion (Contains items) window
    → IsRunOf items channel at (answer_of item ∷ cond ends [] (option_map_or (λ (own : List ℕ). followers ResponseKind channel own window) id []))
behind_by items channel at window item id true e next all = record { of = item ∷ []; is = refl; next = (next, tt) }
behind_by items channel at window item None false e next all = record { of = item ∷ []; is = refl; next = (next, tt) }
behind_by items channel at window item (Some own) false e next all = record {
  of = item ∷ follow channel (ends_by ResponseKind) own window;
  is = refl;
  next = (next, subst (λ (p : List ℕ). AreNext items channel p (follow channel (ends_by ResponseKind) own window)) (sym (ap (λ (i : Option (List ℕ)). id_or i at) e)) (following items channel (ends_by ResponseKind) (length window) own window all));
}

brings : (items : List Item) (channel at : List ℕ) (window : List Item) (item : Item) (next : Bool) → comes_after item at ≡ next → is_on channel item ≡ true → Contains items item → AllByRecursion (Contains items) window
    → IsRunOf items channel at (cond next (answer_of item ∷ cond (ends_by ResponseKind item) [] (option_map_or (λ (id : List ℕ). followers ResponseKind channel id window) item.id [])) [])
brings items channel at window item false e on there all = no_run items channel at
brings items channel at window item true e on there all =
    behind_by items channel at window item item.id (ends_by ResponseKind item) refl (record { there = there; on = and_both (comes_after item at) (is_on channel item) e on }) all

heard_on : (channel : List ℕ) (item : Item) (heard : Bool) → is_heard (channel ∷ []) item ≡ heard → is_on channel item ≡ heard
heard_on channel item heard e = sym (or-false (is_on channel item)) ∙ e

brings_if : (items : List Item) (channel at : List ℕ) (window : List Item) (item : Item) (heard : Bool) → is_heard (channel ∷ []) item ≡ heard → Contains items item → AllByRecursion (Contains items) window
    → IsRunOf items channel at (cond heard (chain_run ResponseKind channel (Some at) item window) [])
brings_if items channel at window item false h there all = no_run items channel at
brings_if items channel at window item true h there all = brings items channel at window item (comes_after item at) refl (heard_on channel item true h) there all

-- the same where the terms and the position of the hold are so
brings_for : (items : List Item) (channel start at : List ℕ) (deadline : ℕ) (again : Bool) (terms : Terms) (position : Option (List ℕ)) (window : List Item) (item : Item)
    → terms ≡ terms_of (Response (channel ∷ []) (Some start) deadline again) → position ≡ Some at → Contains items item → AllByRecursion (Contains items) window → IsRunOf items channel at (run_for terms position item window)
brings_for items channel start at deadline again terms position window item t p there all =
    subst (λ (k : Terms). IsRunOf items channel at (run_for k position item window)) (sym t)
    (subst (λ (o : Option (List ℕ)). IsRunOf items channel at (run_for (terms_of (Response (channel ∷ []) (Some start) deadline again)) o item window)) (sym p)
    (brings_if items channel at window item (is_heard (channel ∷ []) item) refl there all))

-- what happens to a hold

gapped_runs : (items : List Item) (channel start : List ℕ) (taken : List Piece) (s : State) (ask : Bool) → Runs items channel start taken s → Runs items channel start taken (cond ask (marked s) (missed s))
gapped_runs items channel start taken s true r = runs_same items channel start taken s (marked s) refl refl r
gapped_runs items channel start taken s false r = runs_same items channel start taken s (missed s) refl refl r

offered_runs : (items : List Item) (channel start : List ℕ) (taken : List Piece) (s : State) (pieces : List Piece) (gap : Bool) (r : Runs items channel start taken s) → IsRunOf items channel r.at pieces
    → Runs items channel start taken (cond gap (gapped s) (run s pieces))
offered_runs items channel start taken s pieces true r of = gapped_runs items channel start taken s (can_ask s.terms) r
offered_runs items channel start taken s pieces false r of = subst (λ ps. Runs items channel start taken (run s ps)) (sym of.is) (runs items channel start taken s of.of r of.next)

settled_runs : (items : List Item) (channel start : List ℕ) (taken : List Piece) (s : State) (window : List Item) (went_on : Bool) → Runs items channel start taken s → Runs items channel start taken (settled_if went_on window s)
settled_runs items channel start taken s window true r = runs_same items channel start taken s (settled_if true window s) refl refl r
settled_runs items channel start taken s window false r = r

more_runs : (items : List Item) (channel start : List ℕ) (taken : List Piece) (s : State) (item : Item) → Runs items channel start taken s → Runs (items ++ item ∷ []) channel start taken s
more_runs items channel start taken s item r = record { at = r.at; position_is = r.position_is; run_is = run_more items channel start (taken ++ s.pending) r.at item r.run_is }

served_runs : (items : List Item) (channel start : List ℕ) (deadline : ℕ) (again : Bool) (taken : List Piece) (s : State) (item : Item) (live : Bool) → s.terms ≡ terms_of (Response (channel ∷ []) (Some start) deadline again)
    → Runs items channel start taken s
    → Runs (items ++ item ∷ []) channel start taken (cond live (let next = offered item (last_items items) s in settled_if (grew s next) (last_items (items ++ item ∷ [])) next) s)
served_runs items channel start deadline again taken s item false t r = more_runs items channel start taken s item r
served_runs items channel start deadline again taken s item true t r =
    let more = items ++ item ∷ [] in
    let w = last_items items in
    let k = more_runs items channel start taken s item r in
    let there : Contains more item = Contains-append_right items (item ∷ []) item (0, omega arith, refl) in
    let of = brings_for more channel start k.at deadline again s.terms s.position w item t k.position_is there (in_window items more (λ x c. Contains-append_left items (item ∷ []) x c)) in
    settled_runs more channel start taken (offered item w s) (last_items more) (grew s (offered item w s))
    (offered_runs more channel start taken s (run_for s.terms s.position item w) (shows_gap s.terms s.position item) k of)

fresh_runs : (items : List Item) (channel start : List ℕ) (deadline : ℕ) (again : Bool) → Runs items channel start [] (begun_state (Response (channel ∷ []) (Some start) deadline again) (last_items items))
fresh_runs items channel start deadline again =
    let w = last_items items in
    let s = opened (Response (channel ∷ []) (Some start) deadline again) in
    let r : Runs items channel start [] s = record { at = start; position_is = refl; run_is = refl } in
    let k = runs items channel start [] s (follow channel (ends_by ResponseKind) start w) r (following items channel (ends_by ResponseKind) (length w) start w (in_window items items (λ x c. c))) in
    runs_same items channel start [] (caught_up w s) (begun_state (Response (channel ∷ []) (Some start) deadline again) w) refl refl k

timed_runs : (items : List Item) (channel start : List ℕ) (taken : List Piece) (s : State) (live due wants : Bool) → Runs items channel start taken s
    → Runs items channel start taken (cond live (cond due (record s { ended = Some TimedOut }) (cond wants (record s { ended = Some Retry }) s)) s)
timed_runs items channel start taken s false due wants r = r
timed_runs items channel start taken s true true wants r = runs_same items channel start taken s (record s { ended = Some TimedOut }) refl refl r
timed_runs items channel start taken s true false true r = runs_same items channel start taken s (record s { ended = Some Retry }) refl refl r
timed_runs items channel start taken s true false false r = r

timed_at : (items : List Item) (channel start : List ℕ) (taken : List Piece) (now : ℕ) (deadline : Option ℕ) (s : State) → Runs items channel start taken s → Runs items channel start taken (timed now deadline s)
timed_at items channel start taken now None s r = r
timed_at items channel start taken now (Some deadline) s r = timed_runs items channel start taken s (is_live s) (nat_le deadline now) s.want r

rest_runs : (items : List Item) (channel start : List ℕ) (taken : List Piece) (s : State) → Runs items channel start taken s → Runs items channel start (taken ++ batch s.pending) (rest_of s)
rest_runs items channel start taken s r = record {
  at = r.at;
  position_is = r.position_is;
  run_is = subst (λ ps. IsRun items channel start ps r.at) (sym (taken_again taken s.pending)) r.run_is;
}

-- what is said of a long poll with one channel and a previous id

abbrev OfPoll : HoldSpec → (List ℕ → List ℕ → ℕ → Bool → Type 0) → Type 0
OfPoll (Stream opening channel prev link) says = Unit {0}
OfPoll (Plain opening channels) says = Unit {0}
OfPoll (Response [] prev deadline again) says = Unit {0}
OfPoll (Response (channel ∷ []) None deadline again) says = Unit {0}
OfPoll (Response (channel ∷ []) (Some start) deadline again) says = says channel start deadline again
OfPoll (Response (channel ∷ other ∷ channels) prev deadline again) says = Unit {0}
OfPoll Socket says = Unit {0}

abbrev RunsBy : List Item → HoldSpec → List Piece → State → Type 0
RunsBy items spec taken s = OfPoll spec (λ channel start deadline again. Runs items channel start taken s)

record Law (items : List Item) (h : Held) : Type 0 where
  fits : Fits h.spec h.taken h.state
  law : RunsBy items h.spec h.taken h.state

fresh_law : (items : List Item) (spec : HoldSpec) → RunsBy items spec [] (begun_state spec (last_items items))
fresh_law items (Stream opening channel prev link) = tt
fresh_law items (Plain opening channels) = tt
fresh_law items (Response [] prev deadline again) = tt
fresh_law items (Response (channel ∷ []) None deadline again) = tt
fresh_law items (Response (channel ∷ []) (Some start) deadline again) = fresh_runs items channel start deadline again
fresh_law items (Response (channel ∷ other ∷ channels) prev deadline again) = tt
fresh_law items Socket = tt

serve_law : (items : List Item) (spec : HoldSpec) (taken : List Piece) (s : State) (item : Item) → HasTerms spec s.terms → RunsBy items spec taken s
    → RunsBy (items ++ item ∷ []) spec taken (served item (last_items items) (last_items (items ++ item ∷ [])) s)
serve_law items (Stream opening channel prev link) taken s item t r = tt
serve_law items (Plain opening channels) taken s item t r = tt
serve_law items (Response [] prev deadline again) taken s item t r = tt
serve_law items (Response (channel ∷ []) None deadline again) taken s item t r = tt
serve_law items (Response (channel ∷ []) (Some start) deadline again) taken s item t r = served_runs items channel start deadline again taken s item (is_live s) t r
serve_law items (Response (channel ∷ other ∷ channels) prev deadline again) taken s item t r = tt
serve_law items Socket taken s item t r = tt

take_law : (items : List Item) (spec : HoldSpec) (taken : List Piece) (now : ℕ) (s : State) → RunsBy items spec taken s → (let u = timed now s.terms.deadline s in RunsBy items spec (taken ++ batch u.pending) (rest_of u))
take_law items (Stream opening channel prev link) taken now s r = tt
take_law items (Plain opening channels) taken now s r = tt
take_law items (Response [] prev deadline again) taken now s r = tt
take_law items (Response (channel ∷ []) None deadline again) taken now s r = tt
take_law items (Response (channel ∷ []) (Some start) deadline again) taken now s r =
    rest_runs items channel start taken (timed now s.terms.deadline s) (timed_at items channel start taken now s.terms.deadline s r)
take_law items (Response (channel ∷ other ∷ channels) prev deadline again) taken now s r = tt
take_law items Socket taken now s r = tt

go_law : (items : List Item) (spec : HoldSpec) (taken : List Piece) (s : State) (cause : EndCause) → RunsBy items spec taken s → RunsBy items spec taken (record s { ended = Some cause })
go_law items (Stream opening channel prev link) taken s cause r = tt
go_law items (Plain opening channels) taken s cause r = tt
go_law items (Response [] prev deadline again) taken s cause r = tt
go_law items (Response (channel ∷ []) None deadline again) taken s cause r = tt
go_law items (Response (channel ∷ []) (Some start) deadline again) taken s cause r = runs_same items channel start taken s (record s { ended = Some cause }) refl refl r
go_law items (Response (channel ∷ other ∷ channels) prev deadline again) taken s cause r = tt
go_law items Socket taken s cause r = tt

-- pages, failures and changes of sockets leave a long poll

stay_law : (items : List Item) (spec : HoldSpec) (taken : List Piece) (s t : State) → (IsPoll spec → t ≡ s) → RunsBy items spec taken s → RunsBy items spec taken t
stay_law items (Stream opening channel prev link) taken s t same r = tt
stay_law items (Plain opening channels) taken s t same r = tt
stay_law items (Response [] prev deadline again) taken s t same r = tt
stay_law items (Response (channel ∷ []) None deadline again) taken s t same r = tt
stay_law items (Response (channel ∷ []) (Some start) deadline again) taken s t same r = subst (RunsBy items (Response (channel ∷ []) (Some start) deadline again) taken) (sym (same tt)) r
stay_law items (Response (channel ∷ other ∷ channels) prev deadline again) taken s t same r = tt
stay_law items Socket taken s t same r = tt

law_kept : IsKept Law
law_kept = record {
  fresh = λ items who spec. record { fits = sound.fresh items who spec; law = fresh_law items spec };
  serve = λ items item h f. record { fits = sound.serve items item h f.fits; law = serve_law items h.spec h.taken h.state item f.fits.terms_are f.law };
  take = λ items now h f. record { fits = sound.take items now h f.fits; law = take_law items h.spec h.taken now h.state f.law };
  page = λ items page h f. record {
    fits = sound.page items page h f.fits;
    law = stay_law items h.spec h.taken h.state (after_page (last_items items) page h.state) (λ poll. poll_page (last_items items) page h.spec h.state poll f.fits.terms_are) f.law;
  };
  fail = λ items h f. record {
    fits = sound.fail items h f.fits;
    law = stay_law items h.spec h.taken h.state (after_failure h.state) (λ poll. poll_failure h.spec h.state poll f.fits.terms_are) f.law;
  };
  change = λ items change h f. record {
    fits = sound.change items change h f.fits;
    law = stay_law items h.spec h.taken h.state (after_change change h.state) (λ poll. poll_change change h.spec h.state poll f.fits.terms_are) f.law;
  };
  go = λ items h f. record { fits = sound.go items h f.fits; law = go_law items h.spec h.taken h.state (end_or_detached h.state.ended) f.law };
}

-- the log of such a long poll is a run
pub polls_run : (entries : List Entry) (number : ℕ) (h : Held) (channel start : List ℕ) (deadline : ℕ) (again : Bool) → slice_get (held entries) number ≡ Some h
    → h.spec ≡ Response (channel ∷ []) (Some start) deadline again → Runs (published entries) channel start h.taken h.state
polls_run entries number h channel start deadline again there is =
    let law = all_at (Law (published entries)) (held entries) number h (in_each_history Law entries law_kept) there in
    subst (λ (spec : HoldSpec). RunsBy (published entries) spec h.taken h.state) is law.law
