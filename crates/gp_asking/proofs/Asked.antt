-- Whether a hold has asked for a page: what an item leaves of that, and what a Take does.
use Rattle.std.proofs.Common.{◌≡◌, ℕ, ◌++◌, Bool, true, false, cond, not, ◌&&◌, ◌||◌, nat_le, List, [], ◌∷◌, refl, ap, ◌∙◌, Option, Some, None, is_some, option_map}
use Rattle.gp_plain.specs.declared.item.Item.{Item}
use Rattle.gp_plain.specs.declared.reply.Piece.{Piece}
use Rattle.gp_plain.specs.declared.reply.EndCause.{EndCause}
use Rattle.gp_plain.specs.declared.reply.EndCause.TheVariants.{Overflow, Retry, TimedOut}
use Rattle.gp_plain.specs.Pieces.{moved, end_by, has_room}
use Rattle.gp_plain.specs.Holds.{State, is_live, added, run, can_ask, marked, missed, gapped, shows_gap, run_for, offered, grew, settled_if, served, timed, asks, is_retry, repeats, recover_from, given, rest_of}

-- an item

-- one piece, added or not
added_by : (s : State) (piece : Piece) (live room : Bool)
    → (cond live (cond room (record s { pending = s.pending ++ piece ∷ []; position = option_map (λ (at : List ℕ). moved at piece) s.position; ended = end_by piece; misses = 0 }) (record s { ended = Some Overflow })) s).asked ≡ s.asked
added_by s piece true true = refl
added_by s piece true false = refl
added_by s piece false room = refl

-- a run of them
run_leaves : (pieces : List Piece) (s : State) → (run s pieces).asked ≡ s.asked
run_leaves [] s = refl
run_leaves (piece ∷ pieces) s = run_leaves pieces (added s piece) ∙ added_by s piece (is_live s) (has_room s.pending piece)

-- a gap
gapped_leaves : (s : State) (can : Bool) → (cond can (marked s) (missed s)).asked ≡ s.asked
gapped_leaves s true = refl
gapped_leaves s false = refl

-- either of both
offered_leaves : (s : State) (pieces : List Piece) (gap : Bool) → (cond gap (gapped s) (run s pieces)).asked ≡ s.asked
offered_leaves s pieces true = gapped_leaves s (can_ask s.terms)
offered_leaves s pieces false = run_leaves pieces s

-- what is settled behind it
settled_leaves : (window : List Item) (s : State) (went_on : Bool) → (settled_if went_on window s).asked ≡ s.asked
settled_leaves window s true = refl
settled_leaves window s false = refl

-- all of it, for a hold that is live or has ended
served_by_live : (item : Item) (before later : List Item) (s : State) (live : Bool) → (cond live (let next = offered item before s in settled_if (grew s next) later next) s).asked ≡ s.asked
served_by_live item before later s true =
    let next = offered item before s in
    settled_leaves later next (grew s next) ∙ offered_leaves s (run_for s.terms s.position item before) (shows_gap s.terms s.position item)
served_by_live item before later s false = refl

-- an item leaves it as it is
pub served_leaves : (item : Item) (before later : List Item) (s : State) → (served item before later s).asked ≡ s.asked
served_leaves item before later s = served_by_live item before later s (is_live s)

-- a Take

-- a deadline ends a hold, or doesn't
timed_by : (s : State) (live due wants : Bool) → (cond live (cond due (record s { ended = Some TimedOut }) (cond wants (record s { ended = Some Retry }) s)) s).asked ≡ s.asked
timed_by s true true wants = refl
timed_by s true false true = refl
timed_by s true false false = refl
timed_by s false due wants = refl

-- the time leaves it as it is
pub timed_leaves : (now : ℕ) (deadline : Option ℕ) (s : State) → (timed now deadline s).asked ≡ s.asked
timed_leaves now None s = refl
timed_leaves now (Some deadline) s = timed_by s (is_live s) (nat_le deadline now) s.want

and_false : (b : Bool) → (b && false) ≡ false
and_false true = refl
and_false false = refl

or_true : (b : Bool) → (b || true) ≡ true
or_true true = refl
or_true false = refl

or_first : (a b : Bool) → (a || b) ≡ true → b ≡ false → a ≡ true
or_first true b e none = refl
or_first false b e none = cc

-- a position is told where it is asked for
some_of : (b : Bool) (at : Option (List ℕ)) (from : List ℕ) → recover_from b at ≡ Some from → b ≡ true
some_of true at from e = refl
some_of false at from e = cc

-- without an end there is no Retry
no_repeat : (s : State) (told : Option EndCause) → told ≡ None → repeats s told ≡ false
no_repeat s told none = ap (λ t. is_some s.terms.deadline && is_retry t) none ∙ and_false (is_some s.terms.deadline)

-- a hold that has asked doesn't ask
asks_once : (s : State) → s.asked ≡ true → asks s ≡ false
asks_once s asked = ap (λ b. is_live s && s.terms.link && s.want && not b) asked ∙ and_false (is_live s && s.terms.link && s.want)

-- a Take that tells a position, and no end, leaves a hold that has asked
pub begins_asking : (s : State) (from : List ℕ) → (given s).recover ≡ Some from → (given s).ended ≡ None → (rest_of s).asked ≡ true
begins_asking s from recover none =
    let told = (given s).ended in
    let does : asks s ≡ true = or_first (asks s) (repeats s told) (some_of (asks s || repeats s told) s.position from recover) (no_repeat s told none) in
    ap (λ b. s.asked || b) does ∙ or_true s.asked

-- of one that has asked, it tells none where it tells no end
pub tells_none : (s : State) → s.asked ≡ true → (given s).ended ≡ None → (given s).recover ≡ None
tells_none s asked none =
    let told = (given s).ended in
    ap (λ b. recover_from (b || repeats s told) s.position) (asks_once s asked) ∙ ap (λ b. recover_from b s.position) (no_repeat s told none)

-- and leaves it so
pub asks_on : (s : State) → s.asked ≡ true → (rest_of s).asked ≡ true
asks_on s asked = ap (λ b. b || asks s) asked
