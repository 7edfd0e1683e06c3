-- A socket gets the messages that are pushed and published to it.
use Rattle.std.proofs.Common.{◌≡◌, ℕ, zero, suc, ◌==◌, Bool, true, false, cond, not, ◌&&◌, List, [], ◌∷◌, ◌++◌, map, arith, refl, sym, ap, ◌∙◌, subst, append_assoc, slice_get, Option, Some, None, is_none, is_some, option_map}
use Rattle.std.proofs.lemmas.Bool.Decides.{nat_tests}
use Rattle.std.proofs.lemmas.List.{append-nil}
use Rattle.std.proofs.lemmas.List.Sums.{fold-append}
use Rattle.gp_plain.specs.declared.item.Item.{Item}
use Rattle.gp_plain.specs.declared.item.Message.{Message}
use Rattle.gp_plain.specs.declared.event.Entry.{Entry}
use Rattle.gp_plain.specs.declared.event.Event.{Event}
use Rattle.gp_plain.specs.declared.event.Event.TheVariants.{Attach, Publish, Take, Page, PageFailed, Push, Join, Leave, Detach}
use Rattle.gp_plain.specs.declared.event.HoldKind.{HoldKind}
use Rattle.gp_plain.specs.declared.event.HoldKind.TheVariants.{Socket as SocketKind}
use Rattle.gp_plain.specs.declared.event.HoldSpec.{HoldSpec}
use Rattle.gp_plain.specs.declared.event.HoldSpec.TheVariants.{Socket}
use Rattle.gp_plain.specs.declared.reply.Piece.{Piece}
use Rattle.gp_plain.specs.declared.reply.Piece.TheVariants.{Message as MessagePiece}
use Rattle.gp_plain.specs.declared.reply.EndCause.{EndCause}
use Rattle.gp_plain.specs.declared.reply.EndCause.TheVariants.{Overflow}
use Rattle.gp_plain.specs.Pieces.{moved, end_by, has_room}
use Rattle.gp_plain.specs.Follow.{last_items, is_heard, is_repeat}
use Rattle.gp_plain.specs.Holds.{Terms, State, Held, log, is_live, added, run, gapped, offered, shows_gap, leaves_gap, run_by, run_for, message_piece, settled_if, grew, begun, timed, taken_from, let_go, is_stream, is_socket, refusal, change_refusal, RecoveryPage, paged_from, failed, push, join, leave, is_crowded, joined, on_channels, with_change, after_change, changed_by}
use Rattle.gp_plain.specs.History.{Past, page_of, if_kept, kept_at, has_place, changed_if, changed, served_by, with_item, with_hold, after_event, after, nothing, past_of, held, published}
use Rattle.gp_plain.specs.Sockets.{heard, pushed, brought, all_brought, HasGot, SocketLaw}
use Rattle.gp_plain.proofs.Histories.{all_at}
use Rattle.gp_plain.proofs.Soundness.{Fits, IsSound, are_sound, taken_again}
use Rattle.gp_plain.proofs.Paging.{page_other, failure_other}
use Rattle.gp_plain.proofs.ChainLaw.{absurd_true, dead_run}

-- pieces that come to a hold of which some were taken
record Adds (taken : List Piece) (s t : State) (pieces : List Piece) : Type 0 where
  some : List Piece
  rest : List Piece
  log_is : taken ++ t.pending ≡ (taken ++ s.pending) ++ some
  all : pieces ≡ some ++ rest
  live : is_live t ≡ true → rest ≡ []
  dead : is_live s ≡ false → (some ≡ []) × (is_live t ≡ false)

not_both : {A : Type 0} (b : Bool) → b ≡ true → b ≡ false → A
not_both true e f = absurd_true (sym f)
not_both false e f = absurd_true e

-- what comes to a hold that ended is left out
left_out : (taken : List Piece) (s : State) (pieces : List Piece) → is_live s ≡ false → Adds taken s s pieces
left_out taken s pieces dead = record {
  some = [];
  rest = pieces;
  log_is = sym (append-nil (taken ++ s.pending));
  all = refl;
  live = λ e. not_both (is_live s) e dead;
  dead = λ e. (refl, e);
}

none_added : (taken : List Piece) (s : State) → Adds taken s s []
none_added taken s = record { some = []; rest = []; log_is = sym (append-nil (taken ++ s.pending)); all = refl; live = λ e. refl; dead = λ e. (refl, e) }

run_by_one : (taken : List Piece) (s : State) (p : Piece) (ps : List Piece) (live room : Bool) → is_live s ≡ live → ((t : State) → Adds taken t (run t ps) ps)
    → (let t = cond live (cond room (record s { pending = s.pending ++ p ∷ []; position = option_map (λ (at : List ℕ). moved at p) s.position; ended = end_by p; misses = 0 }) (record s { ended = Some Overflow })) s in
    Adds taken s (run t ps) (p ∷ ps))
run_by_one taken s p ps false room l rest = subst (λ (t : State). Adds taken s t (p ∷ ps)) (sym (dead_run s ps l)) (left_out taken s (p ∷ ps) l)
run_by_one taken s p ps true false l rest =
    let t : State = record s { ended = Some Overflow } in
    subst (λ (u : State). Adds taken s u (p ∷ ps)) (sym (dead_run t ps refl)) (record {
      some = [];
      rest = p ∷ ps;
      log_is = sym (append-nil (taken ++ s.pending));
      all = refl;
      live = λ e. absurd_true e;
      dead = λ e. not_both (is_live s) l e;
    })
run_by_one taken s p ps true true l rest =
    let t : State = record s { pending = s.pending ++ p ∷ []; position = option_map (λ (at : List ℕ). moved at p) s.position; ended = end_by p; misses = 0 } in
    let more = rest t in
    record {
      some = p ∷ more.some;
      rest = more.rest;
      log_is = more.log_is ∙ ap (λ ps. ps ++ more.some) (sym (append_assoc taken s.pending (p ∷ []))) ∙ append_assoc (taken ++ s.pending) (p ∷ []) more.some;
      all = ap (λ ps. p ∷ ps) more.all;
      live = more.live;
      dead = λ e. not_both (is_live s) l e;
    }

run_adds : (taken : List Piece) (ps : List Piece) (s : State) → Adds taken s (run s ps) ps
run_adds taken [] s = none_added taken s
run_adds taken (p ∷ ps) s = run_by_one taken s p ps (is_live s) (has_room s.pending p) refl (run_adds taken ps)

settled_adds : (taken : List Piece) (s t : State) (ps : List Piece) (went_on : Bool) (window : List Item) → Adds taken s t ps → Adds taken s (settled_if went_on window t) ps
settled_adds taken s t ps true window a = record { some = a.some; rest = a.rest; log_is = a.log_is; all = a.all; live = a.live; dead = a.dead }
settled_adds taken s t ps false window a = a

and_false : (a : Bool) → (a && false) ≡ false
and_false true = refl
and_false false = refl

-- what an item brings a socket
pub record IsSocket (s : State) : Type 0 where
  pub kind : s.terms.kind ≡ SocketKind
  pub position : s.position ≡ None
  pub deadline : s.terms.deadline ≡ None

no_gap : (s : State) (item : Item) → IsSocket s → shows_gap s.terms s.position item ≡ false
no_gap s item socket = ap (λ (at : Option (List ℕ)). is_heard s.terms.channels item && leaves_gap item at) socket.position ∙ and_false (is_heard s.terms.channels item)

offered_is : (s : State) (item : Item) (window : List Item) → IsSocket s → offered item window s ≡ run s (cond (is_heard s.terms.channels item) (message_piece item.message) [])
offered_is s item window socket =
    ap (λ b. cond b (gapped s) (run s (run_for s.terms s.position item window))) (no_gap s item socket)
    ∙ ap (λ (k : HoldKind). run s (cond (is_heard s.terms.channels item) (run_by k s.terms.channels s.position item window) [])) socket.kind

served_adds : (taken : List Piece) (s : State) (item : Item) (before later : List Item) (live : Bool) → IsSocket s → is_live s ≡ live
    → Adds taken s (cond live (let next = offered item before s in settled_if (grew s next) later next) s) (cond (is_heard s.terms.channels item) (message_piece item.message) [])
served_adds taken s item before later false socket l = left_out taken s (cond (is_heard s.terms.channels item) (message_piece item.message) []) l
served_adds taken s item before later true socket l =
    let ps = cond (is_heard s.terms.channels item) (message_piece item.message) [] in
    let next = offered item before s in
    settled_adds taken s next ps (grew s next) later (subst (λ (t : State). Adds taken s t ps) (sym (offered_is s item before socket)) (run_adds taken ps s))

unrefused : (ended : Option EndCause) (has : Bool) (kind : HoldKind) → has ≡ true → is_none (refusal ended has kind) ≡ not (is_some ended)
unrefused None true kind e = refl
unrefused None false kind e = absurd_true e
unrefused (Some cause) has kind e = refl

may_change : (s : State) → IsSocket s → is_none (change_refusal s) ≡ is_live s
may_change s socket = unrefused s.ended (is_socket s.terms.kind) s.terms.kind (ap is_socket socket.kind)

pushed_by : (taken : List Piece) (s : State) (message : Message) (live : Bool) → is_live s ≡ live → Adds taken s (cond live (added s (MessagePiece message)) s) (MessagePiece message ∷ [])
pushed_by taken s message true l = run_adds taken (MessagePiece message ∷ []) s
pushed_by taken s message false l = left_out taken s (MessagePiece message ∷ []) l

push_adds : (taken : List Piece) (s : State) (message : Message) → IsSocket s → Adds taken s (after_change (push message) s) (MessagePiece message ∷ [])
push_adds taken s message socket =
    subst (λ b. Adds taken s (cond b (added s (MessagePiece message)) s) (MessagePiece message ∷ [])) (sym (may_change s socket)) (pushed_by taken s message (is_live s) refl)

-- one entry, and the hold of a number

record Step (past : Past) (number who : ℕ) (event : Event) (h : Held) : Type 0 where
  next : Held
  there : slice_get (after_event past who event).holds number ≡ Some next
  spec : next.spec ≡ h.spec
  some : List Piece
  rest : List Piece
  log_is : log next ≡ log h ++ some
  brought_is : brought past number who event ≡ some ++ rest
  live : is_live next.state ≡ true → rest ≡ []
  dead : is_live h.state ≡ false → (some ≡ []) × (is_live next.state ≡ false)

-- a change that adds nothing to the log
record Quiet (f : Held → Held) (h : Held) : Type 0 where
  spec : (f h).spec ≡ h.spec
  log_is : log (f h) ≡ log h
  dead : is_live h.state ≡ false → is_live (f h).state ≡ false

quiet_if : (f : Held → Held) (h : Held) (kept own : Bool) → Quiet f h → Quiet (λ (k : Held). cond kept (cond own (f k) k) k) h
quiet_if f h true true q = record { spec = q.spec; log_is = q.log_is; dead = q.dead }
quiet_if f h true false q = record { spec = refl; log_is = refl; dead = λ e. e }
quiet_if f h false own q = record { spec = refl; log_is = refl; dead = λ e. e }

changed_here : (who n : ℕ) (f : Held → Held) (hs : List Held) (h : Held) → slice_get hs n ≡ Some h → slice_get (changed who n f hs) n ≡ Some (changed_if who f h)
changed_here who n f [] h e = cc
changed_here who zero f (x ∷ hs) h e = let same : x ≡ h = cc e in ap (λ (k : Held). Some (changed_if who f k)) same
changed_here who (suc n) f (x ∷ hs) h e = changed_here who n f hs h e

changed_there : (who m n : ℕ) (f : Held → Held) (hs : List Held) → (m ≡ n → ⊥) → slice_get (changed who m f hs) n ≡ slice_get hs n
changed_there who m n f [] ne = refl
changed_there who zero zero f (x ∷ hs) ne = absurd (ne refl)
changed_there who zero (suc n) f (x ∷ hs) ne = refl
changed_there who (suc m) zero f (x ∷ hs) ne = refl
changed_there who (suc m) (suc n) f (x ∷ hs) ne = changed_there who m n f hs (λ e. ne (ap suc e))

same_number : (a b : ℕ) → (a == b) ≡ true → a ≡ b
same_number a b e = grind (arith, nat_tests, e)

other_number : (a b : ℕ) → (a == b) ≡ false → a ≡ b → ⊥
other_number a b e same = absurd (grind (arith, nat_tests, e, same))

stays : (past : Past) (number who : ℕ) (event : Event) (h : Held) → slice_get (after_event past who event).holds number ≡ Some h → brought past number who event ≡ [] → Step past number who event h
stays past number who event h there none = record { next = h; there = there; spec = refl; some = []; rest = []; log_is = sym (append-nil (log h)); brought_is = none; live = λ e. refl; dead = λ e. (refl, e) }

-- a change of one hold that adds nothing
quiet_step : (past : Past) (number who m : ℕ) (event : Event) (f : Held → Held) (h : Held) (same : Bool) → (m == number) ≡ same → (after_event past who event).holds ≡ changed who m f past.holds
    → brought past number who event ≡ [] → slice_get past.holds number ≡ Some h → Quiet f h → Step past number who event h
quiet_step past number who m event f h true e are none there q =
    let r = quiet_if f h (not h.released) (h.owner == who) q in
    record {
      next = changed_if who f h;
      there = ap (λ (hs : List Held). slice_get hs number) are ∙ ap (λ k. slice_get (changed who k f past.holds) number) (same_number m number e) ∙ changed_here who number f past.holds h there;
      spec = r.spec;
      some = [];
      rest = [];
      log_is = r.log_is ∙ sym (append-nil (log h));
      brought_is = none;
      live = λ l. refl;
      dead = λ l. (refl, r.dead l);
    }
quiet_step past number who m event f h false e are none there q =
    stays past number who event h (ap (λ (hs : List Held). slice_get hs number) are ∙ changed_there who m number f past.holds (other_number m number e) ∙ there) none

take_quiet : (now : ℕ) (h : Held) → IsSocket h.state → Quiet (taken_from now) h
take_quiet now h socket = record {
  spec = refl;
  log_is = taken_again h.taken (timed now h.state.terms.deadline h.state).pending ∙ ap (λ (d : Option ℕ). h.taken ++ (timed now d h.state).pending) socket.deadline;
  dead = λ e. ap (λ (d : Option ℕ). is_live (timed now d h.state)) socket.deadline ∙ e;
}

page_quiet : (window : List Item) (page : RecoveryPage) (h : Held) → IsSocket h.state → Quiet (paged_from window page) h
page_quiet window page h socket =
    let same = page_other window page h.state (ap is_stream socket.kind) in
    record { spec = refl; log_is = ap (λ (s : State). h.taken ++ s.pending) same; dead = λ e. ap is_live same ∙ e }

fail_quiet : (h : Held) → IsSocket h.state → Quiet failed h
fail_quiet h socket =
    let same = failure_other h.state (ap is_stream socket.kind) in
    record { spec = refl; log_is = ap (λ (s : State). h.taken ++ s.pending) same; dead = λ e. ap is_live same ∙ e }

go_quiet : (h : Held) → Quiet let_go h
go_quiet h = record { spec = refl; log_is = refl; dead = λ e. refl }

record SamePending (s t : State) : Type 0 where
  pending : t.pending ≡ s.pending
  ended : t.ended ≡ s.ended

join_same : (channel : List ℕ) (s : State) (may crowded : Bool) → SamePending s (cond may (cond crowded s (on_channels (joined channel s.terms.channels) s)) s)
join_same channel s true true = record { pending = refl; ended = refl }
join_same channel s true false = record { pending = refl; ended = refl }
join_same channel s false crowded = record { pending = refl; ended = refl }

leave_same : (channel : List ℕ) (s : State) (may : Bool) → SamePending s (cond may (with_change (leave channel) s) s)
leave_same channel s true = record { pending = refl; ended = refl }
leave_same channel s false = record { pending = refl; ended = refl }

same_quiet : (f : Held → Held) (h : Held) → (f h).spec ≡ h.spec → (f h).taken ≡ h.taken → SamePending h.state (f h).state → Quiet f h
same_quiet f h spec taken same = record {
  spec = spec;
  log_is = ap (λ ps. ps ++ (f h).state.pending) taken ∙ ap (λ ps. h.taken ++ ps) same.pending;
  dead = λ e. ap (λ (o : Option EndCause). not (is_some o)) same.ended ∙ e;
}

join_quiet : (channel : List ℕ) (h : Held) → Quiet (changed_by (join channel)) h
join_quiet channel h = same_quiet (changed_by (join channel)) h refl refl (join_same channel h.state (is_none (change_refusal h.state)) (is_crowded channel h.state.terms.channels))

leave_quiet : (channel : List ℕ) (h : Held) → Quiet (changed_by (leave channel)) h
leave_quiet channel h = same_quiet (changed_by (leave channel)) h refl refl (leave_same channel h.state (is_none (change_refusal h.state)))

-- a push

push_own : (past : Past) (number who : ℕ) (message : Message) (h : Held) (released own : Bool) → IsSocket h.state
    → slice_get (changed who number (changed_by (push message)) past.holds) number ≡ Some (cond (not released) (cond own (changed_by (push message) h) h) h)
    → brought past number who (Push number message) ≡ cond released [] (cond own (MessagePiece message ∷ []) [])
    → Step past number who (Push number message) h
push_own past number who message h true own socket there are = stays past number who (Push number message) h there are
push_own past number who message h false false socket there are = stays past number who (Push number message) h there are
push_own past number who message h false true socket there are =
    let a = push_adds h.taken h.state message socket in
    record { next = changed_by (push message) h; there = there; spec = refl; some = a.some; rest = a.rest; log_is = a.log_is; brought_is = are ∙ a.all; live = a.live; dead = a.dead }

kept_pushed : (who : ℕ) (h : Held) (message : Message) (released : Bool) → pushed who (cond released None (Some h)) message ≡ cond released [] (cond (h.owner == who) (MessagePiece message ∷ []) [])
kept_pushed who h message true = refl
kept_pushed who h message false = refl

self_same : (n : ℕ) → (n == n) ≡ true
self_same n = grind (arith, nat_tests)

push_here : (past : Past) (number who : ℕ) (message : Message) (h : Held) → slice_get past.holds number ≡ Some h → IsSocket h.state → Step past number who (Push number message) h
push_here past number who message h there socket =
    push_own past number who message h h.released (h.owner == who) socket
    (changed_here who number (changed_by (push message)) past.holds h there)
    (ap (λ b. cond b (pushed who (kept_at past.holds number) message) []) (self_same number)
    ∙ ap (λ (o : Option Held). pushed who (if_kept o) message) there
    ∙ kept_pushed who h message h.released)

push_step : (past : Past) (number who hold : ℕ) (message : Message) (h : Held) (same : Bool) → (hold == number) ≡ same → slice_get past.holds number ≡ Some h → IsSocket h.state → Step past number who (Push hold message) h
push_step past number who hold message h true e there socket =
    subst (λ n. Step past number who (Push n message) h) (sym (same_number hold number e)) (push_here past number who message h there socket)
push_step past number who hold message h false e there socket =
    stays past number who (Push hold message) h (changed_there who hold number (changed_by (push message)) past.holds (other_number hold number e) ∙ there) (ap (λ b. cond b (pushed who (kept_at past.holds number) message) []) e)

-- a publication

map_here : (f : Held → Held) (hs : List Held) (n : ℕ) (h : Held) → slice_get hs n ≡ Some h → slice_get (map f hs) n ≡ Some (f h)
map_here f [] n h e = cc
map_here f (x ∷ hs) zero h e = let same : x ≡ h = cc e in ap (λ (k : Held). Some (f k)) same
map_here f (x ∷ hs) (suc n) h e = map_here f hs n h e

publish_step : (past : Past) (number who : ℕ) (item : Item) (h : Held) (repeat : Bool) → is_repeat (last_items past.published) item ≡ repeat → slice_get past.holds number ≡ Some h → IsSocket h.state
    → slice_get (cond repeat past (with_item past item)).holds number ≡ slice_get (after_event past who (Publish item)).holds number
    → cond repeat [] (heard (slice_get past.holds number) item) ≡ brought past number who (Publish item)
    → Step past number who (Publish item) h
publish_step past number who item h true r there socket are none = stays past number who (Publish item) h (sym are ∙ there) (sym none)
publish_step past number who item h false r there socket are some =
    let before = last_items past.published in
    let later = last_items (past.published ++ item ∷ []) in
    let a = served_adds h.taken h.state item before later (is_live h.state) socket refl in
    record {
      next = served_by item before later h;
      there = sym are ∙ map_here (served_by item before later) past.holds number h there;
      spec = refl;
      some = a.some;
      rest = a.rest;
      log_is = a.log_is;
      brought_is = sym some ∙ ap (λ (o : Option Held). heard o item) there ∙ a.all;
      live = a.live;
      dead = a.dead;
    }

-- an attach

front_here : (hs : List Held) (k : Held) (n : ℕ) (h : Held) → slice_get hs n ≡ Some h → slice_get (hs ++ k ∷ []) n ≡ Some h
front_here [] k n h e = cc
front_here (x ∷ hs) k zero h e = e
front_here (x ∷ hs) k (suc n) h e = front_here hs k n h e

attach_here : (past : Past) (k : Held) (place : Bool) (number : ℕ) (h : Held) → slice_get past.holds number ≡ Some h → slice_get (cond place (with_hold past k) past).holds number ≡ Some h
attach_here past k true number h e = front_here past.holds k number h e
attach_here past k false number h e = e

step : (past : Past) (number who : ℕ) (event : Event) (h : Held) → slice_get past.holds number ≡ Some h → IsSocket h.state → Step past number who event h
step past number who (Attach spec) h there socket =
    stays past number who (Attach spec) h (attach_here past (begun who spec (last_items past.published)) (has_place past.holds) number h there) refl
step past number who (Publish item) h there socket = publish_step past number who item h (is_repeat (last_items past.published) item) refl there socket refl refl
step past number who (Take hold now) h there socket = quiet_step past number who hold (Take hold now) (taken_from now) h (hold == number) refl refl refl there (take_quiet now h socket)
step past number who (Page hold from to bytes then) h there socket =
    let page = page_of from to bytes then in
    let window = last_items past.published in
    quiet_step past number who hold (Page hold from to bytes then) (paged_from window page) h (hold == number) refl refl refl there (page_quiet window page h socket)
step past number who (PageFailed hold) h there socket = quiet_step past number who hold (PageFailed hold) failed h (hold == number) refl refl refl there (fail_quiet h socket)
step past number who (Push hold message) h there socket = push_step past number who hold message h (hold == number) refl there socket
step past number who (Join hold channel) h there socket = quiet_step past number who hold (Join hold channel) (changed_by (join channel)) h (hold == number) refl refl refl there (join_quiet channel h)
step past number who (Leave hold channel) h there socket = quiet_step past number who hold (Leave hold channel) (changed_by (leave channel)) h (hold == number) refl refl refl there (leave_quiet channel h)
step past number who (Detach hold) h there socket = quiet_step past number who hold (Detach hold) let_go h (hold == number) refl refl refl there (go_quiet h)

-- all entries

socket_of : (spec : HoldSpec) (taken : List Piece) (s : State) → spec ≡ Socket → Fits spec taken s → IsSocket s
socket_of spec taken s e f =
    let g = subst (λ (x : HoldSpec). Fits x taken s) e f in
    record { kind = ap (λ (t : Terms). t.kind) g.terms_are.1; position = g.position_is; deadline = ap (λ (t : Terms). t.deadline) g.terms_are.1 }

record Got (past : Past) (number : ℕ) (more : List Entry) (h k : Held) : Type 0 where
  got : HasGot past number more h k
  dead : is_live h.state ≡ false → (got.some ≡ []) × (is_live k.state ≡ false)

-- one entry and then others
both : (past : Past) (number : ℕ) (e : Entry) (es : List Entry) (h k : Held) (s : Step past number e.who e.event h) (live : Bool) → is_live s.next.state ≡ live → Got (after past e) number es s.next k → Got past number (e ∷ es) h k
both past number e es h k s true l r = record {
  got = record {
    some = s.some ++ r.got.some;
    rest = r.got.rest;
    log_is = r.got.log_is ∙ ap (λ ps. ps ++ r.got.some) s.log_is ∙ append_assoc (log h) s.some r.got.some;
    brought_is = ap (λ ps. ps ++ all_brought (after past e) number es) (s.brought_is ∙ ap (λ ps. s.some ++ ps) (s.live l) ∙ append-nil s.some)
        ∙ ap (λ ps. s.some ++ ps) r.got.brought_is ∙ sym (append_assoc s.some r.got.some r.got.rest);
    live = r.got.live;
  };
  dead = λ d. not_both (is_live s.next.state) l (s.dead d).1;
}
both past number e es h k s false l r = record {
  got = record {
    some = s.some;
    rest = s.rest ++ (r.got.some ++ r.got.rest);
    log_is = r.got.log_is ∙ ap (λ ps. log s.next ++ ps) (r.dead l).0 ∙ append-nil (log s.next) ∙ s.log_is;
    brought_is = ap (λ ps. ps ++ all_brought (after past e) number es) s.brought_is ∙ append_assoc s.some s.rest (all_brought (after past e) number es)
        ∙ ap (λ ps. s.some ++ (s.rest ++ ps)) r.got.brought_is;
    live = λ live. not_both (is_live k.state) live (r.dead l).1;
  };
  dead = λ d. ((s.dead d).0, (r.dead l).1);
}

law_from : (more seen : List Entry) (number : ℕ) (h k : Held) → slice_get (held seen) number ≡ Some h → h.spec ≡ Socket → slice_get (held (seen ++ more)) number ≡ Some k → Got (past_of seen) number more h k
law_from [] seen number h k there spec at =
    let same : h ≡ k = cc (there, at, ap held (append-nil seen)) in
    subst (λ (x : Held). Got (past_of seen) number [] h x) same (record {
      got = record { some = []; rest = []; log_is = sym (append-nil (log h)); brought_is = refl; live = λ live. refl };
      dead = λ d. (refl, d);
    })
law_from (e ∷ es) seen number h k there spec at =
    let socket = socket_of h.spec h.taken h.state spec (all_at (IsSound (published seen)) (held seen) number h (are_sound seen) there) in
    let s = step (past_of seen) number e.who e.event h there socket in
    let past : past_of (seen ++ e ∷ []) ≡ after (past_of seen) e = fold-append after nothing seen (e ∷ []) in
    let next : slice_get (held (seen ++ e ∷ [])) number ≡ Some s.next = ap (λ (p : Past). slice_get p.holds number) past ∙ s.there in
    let r = law_from es (seen ++ e ∷ []) number s.next k next (s.spec ∙ spec) (ap (λ xs. slice_get (held xs) number) (append_assoc seen (e ∷ []) es) ∙ at) in
    both (past_of seen) number e es h k s (is_live s.next.state) refl (subst (λ (p : Past). Got p number es s.next k) past r)

pub socket_law_holds : SocketLaw
socket_law_holds = λ seen more number h k there spec at. (law_from more seen number h k there spec at).got
