-- A run that is made before is the run that is added.
use Rattle.std.proofs.Common.{◌≡◌, ℕ, ◌+◌, ◌==◌, Bool, true, false, cond, not, nat_lt, List, [], ◌∷◌, ◌++◌, length, fold, refl, sym, ap, ◌∙◌, arith, append_assoc, length-append, Option, Some, None, is_none, is_some, option_map}
use Rattle.std.proofs.Math.Bool.{or-false}
use Rattle.std.proofs.lemmas.Bool.Decides.{nat_tests}
use Rattle.std.proofs.lemmas.List.{append-nil}
use Rattle.std.proofs.lemmas.List.Sums.{fold-append}
use Rattle.gp_plain.specs.declared.item.Item.{Item}
use Rattle.gp_plain.specs.declared.reply.Piece.{Piece}
use Rattle.gp_plain.specs.declared.reply.EndCause.{EndCause}
use Rattle.gp_plain.specs.declared.reply.EndCause.TheVariants.{Overflow}
use Rattle.gp_plain.specs.declared.plan.Plan.{Plan}
use Rattle.gp_plain.specs.declared.plan.Plan.TheVariants.{Nothing, Gap, Grow}
use Rattle.gp_plain.specs.Items.{is_on}
use Rattle.gp_plain.specs.Follow.{is_heard}
use Rattle.gp_plain.specs.Pieces.{moves_to, moved, id_or, position_after, end_by, has_room}
use Rattle.gp_plain.specs.Roomy.{roomy}
use Rattle.gp_plain.specs.Holds.{State, is_live, added, run, grew}
use Rattle.gp_plain.specs.Growth.{Growth, no_growth, with_piece, with_pieces, end_or, grown, some_or, last_of, last_id_of}
use Rattle.gp_plain.specs.Plans.{Machine, IsMadeOf, IsPlanned}

position_push : (at : Option (List ℕ)) (ps : List Piece) (p : Piece) → option_map (λ (a : List ℕ). moved a p) (option_map (λ (a : List ℕ). position_after a ps) at) ≡ option_map (λ (a : List ℕ). position_after a (ps ++ p ∷ [])) at
position_push None ps p = refl
position_push (Some a) ps p = ap Some (sym (fold-append moved a ps (p ∷ [])))

longer : (n m : ℕ) → n ≡ m + 1 → (n == 0) ≡ false
longer n m e = grind (arith, nat_tests, e)

one_more : (ps : List Piece) (p : Piece) → (length (ps ++ p ∷ []) == 0) ≡ false
one_more ps p = longer (length (ps ++ p ∷ [])) (length ps) (length-append ps (p ∷ []))

pub or_none : (e : Option EndCause) → end_or e None ≡ e
or_none None = refl
or_none (Some cause) = refl

pub state_is : (s : State) {ps qs : List Piece} {a b : Option (List ℕ)} {e f : Option EndCause} {m n : ℕ} → ps ≡ qs → a ≡ b → e ≡ f → m ≡ n
    → (let t : State = record s { pending = ps; position = a; ended = e; misses = m } in t) ≡ record s { pending = qs; position = b; ended = f; misses = n }
state_is s {ps = ps} {qs = qs} {a = a} {b = b} {e = e} {f = f} {m = m} {n = n} p q r t =
    ap (λ xs. let u : State = record s { pending = xs; position = a; ended = e; misses = m } in u) p
    ∙ ap (λ x. let u : State = record s { pending = qs; position = x; ended = e; misses = m } in u) q
    ∙ ap (λ x. let u : State = record s { pending = qs; position = b; ended = x; misses = m } in u) r
    ∙ ap (λ x. let u : State = record s { pending = qs; position = b; ended = f; misses = x } in u) t

-- one more piece of a hold that was live
add_by : (s : State) (g : Growth) (p : Piece) (live room : Bool) → s.ended ≡ None → is_none g.ended ≡ live → has_room (s.pending ++ g.pieces) p ≡ room
    → (let t = grown s g in cond live (cond room (record t { pending = t.pending ++ p ∷ []; position = option_map (λ (a : List ℕ). moved a p) t.position; ended = end_by p; misses = 0 }) (record t { ended = Some Overflow })) t)
    ≡ grown s (cond live (cond room (record g { pieces = g.pieces ++ p ∷ []; ended = end_by p }) (record g { ended = Some Overflow })) g)
add_by s g p false room n l r = refl
add_by s g p true false n l r = refl
add_by s g p true true n l r =
    let pieces : (s.pending ++ g.pieces) ++ p ∷ [] ≡ s.pending ++ (g.pieces ++ p ∷ []) = append_assoc s.pending g.pieces (p ∷ []) in
    let at = position_push s.position g.pieces p in
    let end : end_by p ≡ end_or (end_by p) s.ended = sym (ap (end_or (end_by p)) n ∙ or_none (end_by p)) in
    let miss : 0 ≡ cond (length (g.pieces ++ p ∷ []) == 0) s.misses 0 = sym (ap (λ b. cond b s.misses 0) (one_more g.pieces p)) in
    state_is s pieces at end miss

end_is : (e : Option EndCause) → not (is_some (end_or e None)) ≡ is_none e
end_is None = refl
end_is (Some cause) = refl

live_is : (s : State) (g : Growth) → s.ended ≡ None → is_live (grown s g) ≡ is_none g.ended
live_is s g n = ap (λ e. not (is_some (end_or g.ended e))) n ∙ end_is g.ended

add_is : (s : State) (g : Growth) (p : Piece) → s.ended ≡ None → added (grown s g) p ≡ grown s (with_piece s.pending g p)
add_is s g p n =
    let t = grown s g in
    ap (λ b. cond b (cond (has_room t.pending p) (record t { pending = t.pending ++ p ∷ []; position = option_map (λ (a : List ℕ). moved a p) t.position; ended = end_by p; misses = 0 }) (record t { ended = Some Overflow })) t) (live_is s g n)
    ∙ add_by s g p (is_none g.ended) (has_room (s.pending ++ g.pieces) p) n refl refl

run_from : (s : State) (g : Growth) (ps : List Piece) → s.ended ≡ None → run (grown s g) ps ≡ grown s (with_pieces s.pending g ps)
run_from s g [] n = refl
run_from s g (p ∷ ps) n = ap (λ t. run t ps) (add_is s g p n) ∙ run_from s (with_piece s.pending g p) ps n

same_position : (at : Option (List ℕ)) → option_map (λ (a : List ℕ). position_after a []) at ≡ at
same_position None = refl
same_position (Some a) = refl

none_grown : (s : State) (at : Option (List ℕ)) → s.position ≡ at → grown s no_growth ≡ s
none_grown s at e = state_is s (append-nil s.pending) (same_position s.position) refl refl

-- the run of a live hold
pub run_is : (s : State) (ps : List Piece) → s.ended ≡ None → run s ps ≡ grown s (with_pieces s.pending no_growth ps)
run_is s ps n = ap (λ t. run t ps) (sym (none_grown s s.position refl)) ∙ run_from s no_growth ps n

-- the id of the last piece is the position behind the pieces

or_or : (x y : Option (List ℕ)) (at : List ℕ) → id_or (some_or x y) at ≡ id_or x (id_or y at)
or_or None y at = refl
or_or (Some x) y at = refl

last_from : (at : List ℕ) (id : Option (List ℕ)) (ps : List Piece) → id_or (fold last_of id ps) at ≡ position_after (id_or id at) ps
last_from at id [] = refl
last_from at id (p ∷ ps) = last_from at (last_of id p) ps ∙ ap (λ (x : List ℕ). position_after x ps) (or_or (moves_to p) id at)

pub last_is : (at : List ℕ) (ps : List Piece) → id_or (last_id_of ps) at ≡ position_after at ps
last_is at ps = last_from at None ps

-- a plan that is made of pieces

sure : (a b : Bool) → (a ≡ true → b ≡ true) → (b ≡ true → a ≡ true) → a ≡ b
sure true b f g = sym (f refl)
sure false true f g = g refl
sure false false f g = refl

more_is : (m n k : ℕ) → k ≡ m + n → not (n == 0) ≡ nat_lt m k
more_is m n k e = sure (not (n == 0)) (nat_lt m k) (λ h. grind (arith, nat_tests, e, h)) (λ h. grind (arith, nat_tests, e, h))

grew_by : (s : State) (g : Growth) → not (length g.pieces == 0) ≡ grew s (grown s g)
grew_by s g = more_is (length s.pending) (length g.pieces) (length (s.pending ++ g.pieces)) (length-append s.pending g.pieces)

same_grown : (s : State) (g k : Growth) → k.pieces ≡ g.pieces → k.ended ≡ g.ended → grown s k ≡ grown s g
same_grown s g k p e = state_is s (ap (λ ps. s.pending ++ ps) p) (ap (λ ps. option_map (λ (a : List ℕ). position_after a ps) s.position) p) (ap (λ x. end_or x s.ended) e) (ap (λ (ps : List Piece). cond (length ps == 0) s.misses 0) p)

pub plan_is : (m : Machine) (ps : List Piece) (g : Growth) (plan : Plan) → m.state.ended ≡ None → g ≡ with_pieces m.state.pending no_growth ps → IsMadeOf (roomy m.state.pending m.spare) g plan → IsPlanned m (run m.state ps) plan
plan_is m ps g Nothing n is made = absurd made
plan_is m ps g Gap n is made = absurd made
plan_is m ps g (Grow k position) n is made =
    let effect : grown m.state k ≡ run m.state ps = same_grown m.state g k made.0 made.1 ∙ ap (grown m.state) is ∙ sym (run_is m.state ps n) in
    record { ready = (n, made.2, made.3); effect = effect; told = grew_by m.state k ∙ ap (grew m.state) effect }

pub not_less : (n : ℕ) → nat_lt n n ≡ false
not_less n = grind (arith, nat_tests)

-- a plan that changes nothing
pub nothing_is : (m : Machine) (after : State) → m.state ≡ after → IsPlanned m after Nothing
nothing_is m after e = record { ready = tt; effect = e; told = sym (not_less (length m.state.pending)) ∙ ap (grew m.state) e }

-- one channel

pub heard_one : (channel : List ℕ) (item : Item) → is_heard (channel ∷ []) item ≡ is_on channel item
heard_one channel item = or-false (is_on channel item)
