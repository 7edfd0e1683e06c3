-- A step on what a registry keeps is the step of the history.
use Rattle.std.proofs.Common.{◌≡◌, ℕ, zero, suc, ◌+◌, ◌<◌, ◌≤◌, ◌==◌, Bool, true, false, cond, not, nat_lt, List, [], ◌∷◌, ◌++◌, length, map, count_by, fold, slice_get, Option, Some, None, option_map, refl, ap, sym, subst, ◌∙◌, arith, length-append, add-zero, eq-eqb}
use Rattle.std.proofs.lemmas.Bool.Decides.{nat_tests}
use Rattle.std.proofs.lemmas.List.{length-map}
use Rattle.std.proofs.lemmas.List.Sums.{fold-append}
use Rattle.std.specs.List.{AllByRecursion}
use Rattle.std.specs.Option.{option_map_or}
use Rattle.gp_plain.specs.declared.item.Item.{Item}
use Rattle.gp_plain.specs.declared.event.Entry.{Entry}
use Rattle.gp_plain.specs.declared.event.Event.{Event}
use Rattle.gp_plain.specs.declared.event.Event.TheVariants.{Attach, Publish, Take, Page, PageFailed, Push, Join, Leave, Detach}
use Rattle.gp_plain.specs.declared.reply.Reply.{Reply}
use Rattle.gp_plain.specs.declared.reply.Reply.TheVariants.{Attached, Full, Published, Repeat, Taken, Done, Foreign}
use Rattle.gp_plain.specs.Pieces.{id_or}
use Rattle.gp_plain.specs.Follow.{last_items, is_repeat}
use Rattle.gp_plain.specs.Holds.{State, Held, pending, position, ended, is_live, offered, settled_if, served, grew, RecoveryPage, taken_of, taken_from, paged_from, page_reply, failed, failure_reply, let_go, begun, SocketChange, push, join, leave, changed_by, change_reply}
use Rattle.gp_plain.specs.History.{Past, kept_count, has_place, if_kept, kept_at, refused_or, changed_if, changed, served_by, with_item, with_hold, after_event, after, nothing, past_of, held, answer, reply, page_of, pending_at, position_at, cause_at}
use Rattle.gp_plain.specs.Standing.{Kept, Standing, kept_of, kept_from, standing_of, StandsFor}
use Rattle.gp_plain.proofs.Windows.{last_push_again}
use Rattle.gp_plain.proofs.Released.{have_ended}
use Rattle.gp_registry.specs.Keeps.{pushed, served_kept, grew_kept, taken_kept}
use Rattle.gp_registry.specs.Steps.{found, if_own, replaced, kept_after_take, kept_after_page, kept_after_failure, kept_after_detach, has_place_kept, fresh_kept, attached, published, stepped, refused_or_kept, answered, kept_pending, kept_position, kept_cause, kept_after_change}

absurd_true : {A : Type 0} → false ≡ true → A
absurd_true e = cc

-- the kept ones of one hold
abbrev one : ℕ → Held → List Kept
one n h = cond h.released [] (kept_of n h ∷ [])

after_take_is : (now n : ℕ) (h : Held) → h.released ≡ false → one n (taken_from now h) ≡ kept_after_take now (kept_of n h)
after_take_is now n h r = rw r refl

after_page_is : (window : List Item) (page : RecoveryPage) (n : ℕ) (h : Held) → h.released ≡ false → one n (paged_from window page h) ≡ kept_after_page window page (kept_of n h)
after_page_is window page n h r = rw r refl

after_failure_is : (n : ℕ) (h : Held) → h.released ≡ false → one n (failed h) ≡ kept_after_failure (kept_of n h)
after_failure_is n h r = rw r refl

after_change_is : (change : SocketChange) (n : ℕ) (h : Held) → h.released ≡ false → one n (changed_by change h) ≡ kept_after_change change (kept_of n h)
after_change_is change n h r = rw r refl

after_detach_is : (n : ℕ) (h : Held) → h.released ≡ false → one n (let_go h) ≡ kept_after_detach (kept_of n h)
after_detach_is n h r = refl

-- all holds

map_by : (g : Kept → Kept) (x : Kept) (ks ls : List Kept) (b : Bool) → ls ≡ map g ks → cond b ls (g x ∷ ls) ≡ map g (cond b ks (x ∷ ks))
map_by g x ks ls true e = e
map_by g x ks ls false e = ap (λ xs. g x ∷ xs) e

kept_map : (item : Item) (before after : List Item) (n : ℕ) (hs : List Held) → kept_from n (map (served_by item before after) hs) ≡ map (served_kept item before after) (kept_from n hs)
kept_map item before after n [] = refl
kept_map item before after n (x ∷ hs) =
    map_by (served_kept item before after) (kept_of n x) (kept_from (n + 1) hs) (kept_from (n + 1) (map (served_by item before after) hs)) x.released (kept_map item before after (n + 1) hs)

not_less : (n : ℕ) → nat_lt n n ≡ false
not_less n = grind (arith, nat_tests)

dead_by : (item : Item) (before after : List Item) (s : State) (live : Bool) → live ≡ false → grew s (cond live (let next = offered item before s in settled_if (grew s next) after next) s) ≡ false
dead_by item before after s true e = absurd_true (sym e)
dead_by item before after s false e = not_less (length s.pending)

dead_grows : (item : Item) (before after : List Item) (s : State) → is_live s ≡ false → grew s (served item before after s) ≡ false
dead_grows item before after s e = dead_by item before after s (is_live s) e

count_cons : (q : Kept → Bool) (x : Kept) (ks : List Kept) (b p : Bool) (m : ℕ) → (b ≡ false → p ≡ q x) → (b ≡ true → p ≡ false)
    → fold (λ (a : ℕ) (k : Kept). a + cond (q k) 1 0) (m + cond p 1 0) ks ≡ fold (λ (a : ℕ) (k : Kept). a + cond (q k) 1 0) m (cond b ks (x ∷ ks))
count_cons q x ks true p m e none = ap (λ c. fold (λ (a : ℕ) (k : Kept). a + cond (q k) 1 0) (m + cond c 1 0) ks) (none refl) ∙ ap (λ i. fold (λ (a : ℕ) (k : Kept). a + cond (q k) 1 0) i ks) (add-zero m)
count_cons q x ks false p m e none = ap (λ c. fold (λ (a : ℕ) (k : Kept). a + cond (q k) 1 0) (m + cond c 1 0) ks) (e refl)

-- a released hold has ended
abbrev pub Ends : Held → Type 0
Ends h = h.released ≡ true → is_live h.state ≡ false

counted : (item : Item) (before after : List Item) (m n : ℕ) (hs : List Held) → AllByRecursion Ends hs
    → fold (λ (a : ℕ) (h : Held). a + cond (grew h.state (served_by item before after h).state) 1 0) m hs ≡ fold (λ (a : ℕ) (k : Kept). a + cond (grew_kept k (served_kept item before after k)) 1 0) m (kept_from n hs)
counted item before after m n [] all = refl
counted item before after m n (x ∷ hs) all =
    counted item before after (m + cond (grew x.state (served item before after x.state)) 1 0) (n + 1) hs all.1
    ∙ count_cons (λ (k : Kept). grew_kept k (served_kept item before after k)) (kept_of n x) (kept_from (n + 1) hs) x.released (grew x.state (served item before after x.state)) m (λ _. refl) (λ e. dead_grows item before after x.state (all.0 e))

length_cond : (m : ℕ) (x : Kept) (ks : List Kept) (b : Bool) → (m + cond (not b) 1 0) + length ks ≡ m + length (cond b ks (x ∷ ks))
length_cond m x ks true = omega arith
length_cond m x ks false = omega arith

count_from : (m n : ℕ) (hs : List Held) → fold (λ (a : ℕ) (h : Held). a + cond (not h.released) 1 0) m hs ≡ m + length (kept_from n hs)
count_from m n [] = sym (add-zero m)
count_from m n (x ∷ hs) = count_from (m + cond (not x.released) 1 0) (n + 1) hs ∙ length_cond m (kept_of n x) (kept_from (n + 1) hs) x.released

zero_plus : (n : ℕ) → 0 + n ≡ n
zero_plus n = omega arith

pub count_is : (hs : List Held) → kept_count hs ≡ length (kept_from 0 hs)
count_is hs = count_from 0 0 hs ∙ zero_plus (length (kept_from 0 hs))

append_cond : (xs ys : List Kept) (x : Kept) (b : Bool) → cond b xs (x ∷ xs) ++ ys ≡ cond b (xs ++ ys) (x ∷ (xs ++ ys))
append_cond xs ys x true = refl
append_cond xs ys x false = refl

kept_push : (n : ℕ) (hs : List Held) (h : Held) → h.released ≡ false → kept_from n (hs ++ h ∷ []) ≡ kept_from n hs ++ kept_of (n + length hs) h ∷ []
kept_push n [] h r = rw r (ap (λ i. kept_of i h ∷ []) (sym (add-zero n)))
kept_push n (x ∷ hs) h r =
    let same : (n + 1) + length hs ≡ n + length (x ∷ hs) = omega arith in
    ap (λ ks. cond x.released ks (kept_of n x ∷ ks)) (kept_push (n + 1) hs h r ∙ ap (λ i. kept_from (n + 1) hs ++ kept_of i h ∷ []) same)
    ∙ sym (append_cond (kept_from (n + 1) hs) (kept_of (n + length (x ∷ hs)) h ∷ []) (kept_of n x) x.released)

-- one hold by its number

ne : (a b : ℕ) → a < b → (a == b) ≡ false
ne a b h = grind (arith, nat_tests)

ne_back : (a b : ℕ) → a < b → (b == a) ≡ false
ne_back a b h = grind (arith, nat_tests)

same : (a b : ℕ) → a ≡ b → (a == b) ≡ true
same a b e = eq-eqb a b e

none_by : (m n : ℕ) (x : Kept) (ks : List Kept) (b : Bool) → (n == m) ≡ false → x.number ≡ n → found m ks ≡ None → found m (cond b ks (x ∷ ks)) ≡ None
none_by m n x ks true e is h = h
none_by m n x ks false e is h = rw (is, e) h

none_before : (m n : ℕ) (hs : List Held) → m < n → found m (kept_from n hs) ≡ None
none_before m n [] h = refl
none_before m n (x ∷ hs) h = none_by m n (kept_of n x) (kept_from (n + 1) hs) x.released (ne_back m n h) refl (none_before m (n + 1) hs (omega arith))

here_by : (n m : ℕ) (x : Held) (ks : List Kept) (b : Bool) → n ≡ m → x.released ≡ b → found m ks ≡ None → found m (cond b ks (kept_of n x ∷ ks)) ≡ option_map (kept_of m) (cond b None (Some x))
here_by n m x ks true e r h = h
here_by n m x ks false e r h = rw (same n m e) (ap (λ i. Some (kept_of i x)) e)

past_by : (m n : ℕ) (x : Kept) (ks : List Kept) (b : Bool) → (n == m) ≡ false → x.number ≡ n → found m (cond b ks (x ∷ ks)) ≡ found m ks
past_by m n x ks true e is = refl
past_by m n x ks false e is = rw (is, e) refl

found_from : (n m : ℕ) (hs : List Held) → found (n + m) (kept_from n hs) ≡ option_map (kept_of (n + m)) (kept_at hs m)
found_from n m [] = refl
found_from n zero (x ∷ hs) = here_by n (n + 0) x (kept_from (n + 1) hs) x.released (sym (add-zero n)) refl (none_before (n + 0) (n + 1) hs (omega arith))
found_from n (suc m) (x ∷ hs) =
    let next : (n + 1) + m ≡ n + suc m = omega arith in
    past_by (n + suc m) n (kept_of n x) (kept_from (n + 1) hs) x.released (ne n (n + suc m) (omega arith)) refl
    ∙ subst (λ k. found k (kept_from (n + 1) hs) ≡ option_map (kept_of k) (kept_at hs m)) next (found_from (n + 1) m hs)

pub found_is : (m : ℕ) (hs : List Held) → found m (kept_from 0 hs) ≡ option_map (kept_of m) (kept_at hs m)
found_is m hs = subst (λ k. found k (kept_from 0 hs) ≡ option_map (kept_of k) (kept_at hs m)) (zero_plus m) (found_from 0 m hs)

skipped : (who m n : ℕ) (f : Kept → List Kept) (x : Kept) (ks : List Kept) → (n == m) ≡ false → x.number ≡ n → replaced who m f (x ∷ ks) ≡ x ∷ replaced who m f ks
skipped who m n f x ks e is = ap (λ b. cond b (if_own who f x ++ ks) (x ∷ replaced who m f ks)) (ap (λ i. i == m) is ∙ e)

above_by : (who m n : ℕ) (f : Kept → List Kept) (x : Kept) (ks : List Kept) (b : Bool) → (n == m) ≡ false → x.number ≡ n → replaced who m f ks ≡ ks
    → replaced who m f (cond b ks (x ∷ ks)) ≡ cond b ks (x ∷ ks)
above_by who m n f x ks true e is h = h
above_by who m n f x ks false e is h = skipped who m n f x ks e is ∙ ap (λ rest. x ∷ rest) h

replaced_above : (who m n : ℕ) (f : Kept → List Kept) (hs : List Held) → m < n → replaced who m f (kept_from n hs) ≡ kept_from n hs
replaced_above who m n f [] h = refl
replaced_above who m n f (x ∷ hs) h = above_by who m n f (kept_of n x) (kept_from (n + 1) hs) x.released (ne_back m n h) refl (replaced_above who m (n + 1) f hs (omega arith))

one_cons : (n : ℕ) (h : Held) (ks : List Kept) (b : Bool) → cond b ks (kept_of n h ∷ ks) ≡ cond b [] (kept_of n h ∷ []) ++ ks
one_cons n h ks true = refl
one_cons n h ks false = refl

changed_here : (who m n : ℕ) (change : Held → Held) (f : Kept → List Kept) (x : Held) (ks : List Kept) (b own : Bool) → n ≡ m → x.released ≡ b → (x.owner == who) ≡ own
    → ((h : Held) → h.released ≡ false → one n (change h) ≡ f (kept_of n h)) → replaced who m f ks ≡ ks
    → kept_from n (cond (not b) (cond own (change x) x) x ∷ []) ++ ks ≡ replaced who m f (cond b ks (kept_of n x ∷ ks))
changed_here who m n change f x ks true own e r o is none = rw r (sym none)
changed_here who m n change f x ks false true e r o is none = rw (same n m e, o) (ap (λ (rest : List Kept). rest ++ ks) (is x r))
changed_here who m n change f x ks false false e r o is none = rw (same n m e, o, r) refl

kept_split : (n : ℕ) (x : Held) (hs : List Held) → kept_from n (x ∷ hs) ≡ kept_from n (x ∷ []) ++ kept_from (n + 1) hs
kept_split n x hs = one_cons n x (kept_from (n + 1) hs) x.released

past_changed : (who m n : ℕ) (f : Kept → List Kept) (x : Kept) (ks rest : List Kept) (b : Bool) → (n == m) ≡ false → x.number ≡ n → rest ≡ replaced who m f ks
    → cond b rest (x ∷ rest) ≡ replaced who m f (cond b ks (x ∷ ks))
past_changed who m n f x ks rest true e is h = h
past_changed who m n f x ks rest false e is h = ap (λ r. x ∷ r) h ∙ sym (skipped who m n f x ks e is)

changed_from : (who n m : ℕ) (change : Held → Held) (f : Kept → List Kept) (hs : List Held) → ((k : ℕ) (h : Held) → h.released ≡ false → one k (change h) ≡ f (kept_of k h))
    → kept_from n (changed who m change hs) ≡ replaced who (n + m) f (kept_from n hs)
changed_from who n m change f [] is = refl
changed_from who n zero change f (x ∷ hs) is =
    kept_split n (changed_if who change x) hs
    ∙ changed_here who (n + 0) n change f x (kept_from (n + 1) hs) x.released (x.owner == who) (sym (add-zero n)) refl refl (is n) (replaced_above who (n + 0) (n + 1) f hs (omega arith))
changed_from who n (suc m) change f (x ∷ hs) is =
    let next : (n + 1) + m ≡ n + suc m = omega arith in
    past_changed who (n + suc m) n f (kept_of n x) (kept_from (n + 1) hs) (kept_from (n + 1) (changed who m change hs)) x.released (ne n (n + suc m) (omega arith)) refl
    (subst (λ k. kept_from (n + 1) (changed who m change hs) ≡ replaced who k f (kept_from (n + 1) hs)) next (changed_from who (n + 1) m change f hs is))

changed_is : (who m : ℕ) (change : Held → Held) (f : Kept → List Kept) (hs : List Held) → ((k : ℕ) (h : Held) → h.released ≡ false → one k (change h) ≡ f (kept_of k h))
    → kept_from 0 (changed who m change hs) ≡ replaced who m f (kept_from 0 hs)
changed_is who m change f hs is = subst (λ k. kept_from 0 (changed who m change hs) ≡ replaced who k f (kept_from 0 hs)) (zero_plus m) (changed_from who 0 m change f hs is)

changed_length : (who m : ℕ) (change : Held → Held) (hs : List Held) → length (changed who m change hs) ≡ length hs
changed_length who m change [] = refl
changed_length who zero change (x ∷ hs) = refl
changed_length who (suc m) change (x ∷ hs) = ap suc (changed_length who m change hs)

-- one event

attached_by : (past : Past) (h : Held) (b : Bool) → h.released ≡ false
    → standing_of (cond b (with_hold past h) past) ≡ cond b (attached (standing_of past) (kept_of (length past.holds) h)) (standing_of past)
attached_by past h false r = refl
attached_by past h true r =
    let k = kept_push 0 past.holds h r ∙ ap (λ i. kept_from 0 past.holds ++ kept_of i h ∷ []) (zero_plus (length past.holds)) in
    let l : length (past.holds ++ h ∷ []) ≡ length past.holds + 1 = length-append past.holds (h ∷ []) in
    cc (k, l)

-- the window of a list with one more item is the window with it
window_more : (xs : List Item) (x : Item) → last_items (xs ++ x ∷ []) ≡ pushed (last_items xs) x
window_more xs x = last_push_again xs x

published_by : (past : Past) (item : Item) (b : Bool) → standing_of (cond b past (with_item past item)) ≡ cond b (standing_of past) (published (standing_of past) item)
published_by past item true = refl
published_by past item false =
    let w = window_more past.published item in
    let l = length-map past.holds (served_by item (last_items past.published) (last_items (past.published ++ item ∷ []))) in
    let k = kept_map item (last_items past.published) (last_items (past.published ++ item ∷ [])) 0 past.holds
    ∙ ap (λ ws. map (served_kept item (last_items past.published) ws) (kept_from 0 past.holds)) w in
    cc (w, l, k)

pub stepped_is : (past : Past) (who : ℕ) (event : Event) → standing_of (after_event past who event) ≡ stepped (standing_of past) who event
stepped_is past who (Attach spec) =
    let h = begun who spec (last_items past.published) in
    attached_by past h (has_place past.holds) refl ∙ ap (λ n. cond (nat_lt n 4096) (attached (standing_of past) (kept_of (length past.holds) h)) (standing_of past)) (count_is past.holds)
stepped_is past who (Publish item) = published_by past item (is_repeat (last_items past.published) item)
stepped_is past who (Take hold now) = cc (changed_length who hold (taken_from now) past.holds, changed_is who hold (taken_from now) (kept_after_take now) past.holds (after_take_is now))
stepped_is past who (Detach hold) = cc (changed_length who hold let_go past.holds, changed_is who hold let_go kept_after_detach past.holds after_detach_is)
stepped_is past who (Page hold from to bytes then) =
    let window = last_items past.published in
    let page = page_of from to bytes then in
    cc (changed_length who hold (paged_from window page) past.holds, changed_is who hold (paged_from window page) (kept_after_page window page) past.holds (after_page_is window page))
stepped_is past who (PageFailed hold) = cc (changed_length who hold failed past.holds, changed_is who hold failed kept_after_failure past.holds after_failure_is)
stepped_is past who (Push hold message) = cc (changed_length who hold (changed_by (push message)) past.holds, changed_is who hold (changed_by (push message)) (kept_after_change (push message)) past.holds (after_change_is (push message)))
stepped_is past who (Join hold channel) = cc (changed_length who hold (changed_by (join channel)) past.holds, changed_is who hold (changed_by (join channel)) (kept_after_change (join channel)) past.holds (after_change_is (join channel)))
stepped_is past who (Leave hold channel) = cc (changed_length who hold (changed_by (leave channel)) past.holds, changed_is who hold (changed_by (leave channel)) (kept_after_change (leave channel)) past.holds (after_change_is (leave channel)))

refused_by : (who n : ℕ) (h : Held) (b : Bool) (r : Held → Reply) (s : Kept → Reply) → h.released ≡ b → ((k : Held) → k.released ≡ false → r k ≡ s (kept_of n k))
    → refused_or who n (cond b None (Some h)) r ≡ refused_or_kept who n (option_map (kept_of n) (cond b None (Some h))) s
refused_by who n h true r s e is = refl
refused_by who n h false r s e is = ap (λ (x : Reply). cond (h.owner == who) x (Foreign h.owner)) (is h e)

refused_if : (who n : ℕ) (o : Option Held) (r : Held → Reply) (s : Kept → Reply) → ((k : Held) → k.released ≡ false → r k ≡ s (kept_of n k))
    → refused_or who n (if_kept o) r ≡ refused_or_kept who n (option_map (kept_of n) (if_kept o)) s
refused_if who n None r s is = refl
refused_if who n (Some h) r s is = refused_by who n h h.released r s refl is

refused_is : (who n : ℕ) (hs : List Held) (r : Held → Reply) (s : Kept → Reply) → ((k : Held) → k.released ≡ false → r k ≡ s (kept_of n k))
    → refused_or who n (kept_at hs n) r ≡ refused_or_kept who n (found n (kept_from 0 hs)) s
refused_is who n hs r s is = refused_if who n (slice_get hs n) r s is ∙ ap (λ o. refused_or_kept who n o s) (sym (found_is n hs))

pub answered_is : (past : Past) (who : ℕ) (event : Event) → AllByRecursion Ends past.holds → answer past who event ≡ answered (standing_of past) who event
answered_is past who (Attach spec) all = ap (λ n. cond (nat_lt n 4096) (Attached (length past.holds)) (Full 4096)) (count_is past.holds)
answered_is past who (Publish item) all =
    let w = window_more past.published item in
    let before = last_items past.published in
    ap (λ n. cond (is_repeat before item) (Repeat (id_or item.id [])) (Published n))
    (counted item before (last_items (past.published ++ item ∷ [])) 0 0 past.holds all
    ∙ ap (λ ws. count_by (λ (k : Kept). grew_kept k (served_kept item before ws k)) (kept_from 0 past.holds)) w)
answered_is past who (Take hold now) all = refused_is who hold past.holds (λ (h : Held). Taken (taken_of now h.state)) (λ (k : Kept). Taken (taken_kept now k)) (λ k r. refl)
answered_is past who (Detach hold) all = refused_is who hold past.holds (λ (h : Held). Done) (λ (k : Kept). Done) (λ k r. refl)
answered_is past who (Page hold from to bytes then) all = refused_is who hold past.holds (λ (h : Held). page_reply from h.state) (λ (k : Kept). page_reply from k.state) (λ k r. refl)
answered_is past who (PageFailed hold) all = refused_is who hold past.holds (λ (h : Held). failure_reply h.state) (λ (k : Kept). failure_reply k.state) (λ k r. refl)
answered_is past who (Push hold message) all = refused_is who hold past.holds (λ (h : Held). change_reply (push message) h.state) (λ (k : Kept). change_reply (push message) k.state) (λ k r. refl)
answered_is past who (Join hold channel) all = refused_is who hold past.holds (λ (h : Held). change_reply (join channel) h.state) (λ (k : Kept). change_reply (join channel) k.state) (λ k r. refl)
answered_is past who (Leave hold channel) all = refused_is who hold past.holds (λ (h : Held). change_reply (leave channel) h.state) (λ (k : Kept). change_reply (leave channel) k.state) (λ k r. refl)

-- histories

past_more : (past : List Entry) (e : Entry) → past_of (past ++ e ∷ []) ≡ after (past_of past) e
past_more past e = fold-append after nothing past (e ∷ [])

-- a registry that stands for a history stands for it with one more entry after the step
pub stands_more : (past : List Entry) (s t : Standing) (who : ℕ) (event : Event) → StandsFor s past → t ≡ stepped s who event
    → StandsFor t (past ++ (record { who = who; event = event }) ∷ [])
stands_more past s t who event at is =
    is ∙ ap (λ u. stepped u who event) at ∙ sym (stepped_is (past_of past) who event) ∙ ap standing_of (sym (past_more past (record { who = who; event = event })))

pub reply_is : (past : List Entry) (s : Standing) (who : ℕ) (event : Event) → StandsFor s past → reply past who event ≡ answered s who event
reply_is past s who event at = answered_is (past_of past) who event (have_ended past) ∙ ap (λ u. answered u who event) (sym at)

pub kept_length : (past : List Entry) (s : Standing) → StandsFor s past → kept_count (held past) ≡ length s.kept
kept_length past s at = count_is (held past) ∙ ap (λ (u : Standing). length u.kept) (sym at)

pending_by : (n : ℕ) (o : Option Held) → option_map_or pending o [] ≡ kept_pending (option_map (kept_of n) o)
pending_by n None = refl
pending_by n (Some h) = refl

position_by : (n : ℕ) (o : Option Held) → option_map_or position o None ≡ kept_position (option_map (kept_of n) o)
position_by n None = refl
position_by n (Some h) = refl

cause_by : (n : ℕ) (o : Option Held) → option_map_or ended o None ≡ kept_cause (option_map (kept_of n) o)
cause_by n None = refl
cause_by n (Some h) = refl

found_in : (past : List Entry) (s : Standing) (n : ℕ) → StandsFor s past → found n s.kept ≡ option_map (kept_of n) (kept_at (held past) n)
found_in past s n at = ap (λ (u : Standing). found n u.kept) at ∙ found_is n (held past)

pub pending_is : (past : List Entry) (s : Standing) (n : ℕ) → StandsFor s past → pending_at (held past) n ≡ kept_pending (found n s.kept)
pending_is past s n at = pending_by n (kept_at (held past) n) ∙ ap kept_pending (sym (found_in past s n at))

pub position_is : (past : List Entry) (s : Standing) (n : ℕ) → StandsFor s past → position_at (held past) n ≡ kept_position (found n s.kept)
position_is past s n at = position_by n (kept_at (held past) n) ∙ ap kept_position (sym (found_in past s n at))

pub cause_is : (past : List Entry) (s : Standing) (n : ℕ) → StandsFor s past → cause_at (held past) n ≡ kept_cause (found n s.kept)
cause_is past s n at = cause_by n (kept_at (held past) n) ∙ ap kept_cause (sym (found_in past s n at))

next_by : (s t : Standing) (b : Bool) → t.next ≡ s.next + 1 → (cond b t s).next ≤ s.next + 1
next_by s t true e = omega arith
next_by s t false e = omega arith

same_next : (s t : Standing) (b : Bool) → t.next ≡ s.next → (cond b s t).next ≤ s.next + 1
same_next s t true e = omega arith
same_next s t false e = omega (arith, e)

-- an event gives one number at most
pub stepped_next : (s : Standing) (who : ℕ) (event : Event) → (stepped s who event).next ≤ s.next + 1
stepped_next s who (Attach spec) = next_by s (attached s (fresh_kept s who spec)) (has_place_kept s.kept) refl
stepped_next s who (Publish item) = same_next s (published s item) (is_repeat s.window item) refl
stepped_next s who (Take hold now) = omega arith
stepped_next s who (Detach hold) = omega arith
stepped_next s who (Page hold from to bytes then) = omega arith
stepped_next s who (PageFailed hold) = omega arith
stepped_next s who (Push hold message) = omega arith
stepped_next s who (Join hold channel) = omega arith
stepped_next s who (Leave hold channel) = omega arith
