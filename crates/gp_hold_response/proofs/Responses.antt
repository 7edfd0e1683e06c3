-- What a response hold is, once it has grown, begun or planned.
use Rattle.std.proofs.Common.{◌≡◌, ℕ, suc, arith, ◌==◌, Bool, true, false, cond, not, ◌&&◌, nat_le, List, [], ◌∷◌, ◌++◌, length, slice_get, refl, sym, ap, ◌∙◌, Option, Some, None, Result, Ok, Err, IfOk, is_none, is_some}
use Rattle.std.specs.Option.{option_map_or}
use Rattle.std.specs.Result.{OnOk}
use Rattle.std.proofs.lemmas.Bool.{eqb-true}
use Rattle.gp_plain.specs.declared.item.Item.{Item}
use Rattle.gp_plain.specs.declared.item.ResponsePart.{ResponsePart}
use Rattle.gp_plain.specs.declared.event.HoldKind.{HoldKind}
use Rattle.gp_plain.specs.declared.event.HoldKind.TheVariants.{Response as ResponseKind}
use Rattle.gp_plain.specs.declared.reply.Piece.{Piece}
use Rattle.gp_plain.specs.declared.reply.EndCause.{EndCause}
use Rattle.gp_plain.specs.declared.reply.EndCause.TheVariants.{Retry, TimedOut}
use Rattle.gp_plain.specs.declared.reply.Taken.{Taken}
use Rattle.gp_plain.specs.declared.plan.Plan.{Plan}
use Rattle.gp_plain.specs.declared.plan.Plan.TheVariants.{Nothing}
use Rattle.gp_plain.specs.Fit.{fits_spec, fits_channels}
use Rattle.gp_plain.specs.Items.{is_on}
use Rattle.gp_plain.specs.Follow.{is_heard}
use Rattle.gp_plain.specs.Tails.{ahead}
use Rattle.gp_plain.specs.Roomy.{roomy}
use Rattle.gp_plain.specs.Pieces.{position_after, id_or, batch, left}
use Rattle.gp_plain.specs.Holds.{State, is_live, run_by, comes_next, leaves_gap, piece_by, ends_by, followers, answer_piece, answer_of, offered, opened, caught_up, begun_state, wants_more, is_ahead, timed, ends_now, is_retry, recover_from, given, taken_of, rest_of, after_take}
use Rattle.gp_plain.specs.Growth.{Growth, no_growth, with_pieces, end_or, grown, last_id_of}
use Rattle.gp_plain.specs.Plans.{Machine, IsMadeOf, IsPlanned}
use Rattle.gp_plain.proofs.Growing.{run_is, or_none, state_is, heard_one, last_is}
use Rattle.gp_plain.proofs.Offering.{unheard_planned, none_planned, run_planned}
use Rattle.gp_hold_response.specs.declared.response.Heard.{Heard}
use Rattle.gp_hold_response.specs.declared.response.Heard.TheVariants.{Any, From}
use Rattle.gp_hold_response.specs.States.{response_state, response_spec, moved_to, position_in}

-- what holds of an answer holds of what it implies
pub if_ok : {T E : Type 0} {P Q : T → Type 0} (r : Result T E) → ((x : T) → P x → Q x) → IfOk r P → IfOk r Q
if_ok (Ok x) f p = f x p
if_ok (Err e) f p = p

same_zero : (b : Bool) → ◌≡◌ {A = ℕ} 0 (cond b 0 0)
same_zero true = refl
same_zero false = refl

-- a hold that has grown, by what it listens to
grown_heard : (heard : Heard) (deadline : ℕ) (pending now : List Piece) (ended end : Option EndCause) (want : Bool) (g : Growth) (id : Option (List ℕ))
    → ended ≡ None → now ≡ pending ++ g.pieces → end ≡ g.ended → id ≡ last_id_of g.pieces
    → response_state (moved_to id heard) deadline now end want ≡ grown (response_state heard deadline pending ended want) g
grown_heard (Any channels) deadline pending now ended end want g None n p e i =
    state_is (response_state (Any channels) deadline pending ended want) p refl (e ∙ sym (ap (end_or g.ended) n ∙ or_none g.ended)) (same_zero (length g.pieces == 0))
grown_heard (Any channels) deadline pending now ended end want g (Some id) n p e i =
    state_is (response_state (Any channels) deadline pending ended want) p refl (e ∙ sym (ap (end_or g.ended) n ∙ or_none g.ended)) (same_zero (length g.pieces == 0))
grown_heard (From channel position) deadline pending now ended end want g None n p e i =
    state_is (response_state (From channel position) deadline pending ended want) p (ap Some (ap (λ o. id_or o position) i ∙ last_is position g.pieces)) (e ∙ sym (ap (end_or g.ended) n ∙ or_none g.ended)) (same_zero (length g.pieces == 0))
grown_heard (From channel position) deadline pending now ended end want g (Some id) n p e i =
    state_is (response_state (From channel position) deadline pending ended want) p (ap Some (ap (λ o. id_or o position) i ∙ last_is position g.pieces)) (e ∙ sym (ap (end_or g.ended) n ∙ or_none g.ended)) (same_zero (length g.pieces == 0))

pub grow_is : (heard now_heard : Heard) (deadline : ℕ) (pending now : List Piece) (ended end : Option EndCause) (want : Bool) (g : Growth) (id : Option (List ℕ))
    → ended ≡ None → now_heard ≡ moved_to id heard → now ≡ pending ++ g.pieces → end ≡ g.ended → id ≡ last_id_of g.pieces
    → response_state now_heard deadline now end want ≡ grown (response_state heard deadline pending ended want) g
grow_is heard now_heard deadline pending now ended end want g id n h p e i =
    ap (λ x. response_state x deadline now end want) h ∙ grown_heard heard deadline pending now ended end want g id n p e i

none_is : (e : Option EndCause) → is_none e ≡ not (is_some e)
none_is None = refl
none_is (Some cause) = refl

pub begin_is : (channel prev : List ℕ) (deadline : ℕ) (again : Bool) (window : List Item) (g : Growth) (now : List Piece) (at : List ℕ) (end : Option EndCause) (want : Bool)
    → g ≡ with_pieces [] no_growth (followers ResponseKind channel prev window) → now ≡ g.pieces → at ≡ position_after prev g.pieces → end ≡ g.ended
    → want ≡ (is_none end && not again && ahead channel at window)
    → response_state (From channel at) deadline now end want ≡ begun_state (response_spec (channel ∷ []) (Some prev) deadline again) window
begin_is channel prev deadline again window g now at end want is p a e w =
    let fresh = response_state (From channel prev) deadline [] None false in
    let spec = response_spec (channel ∷ []) (Some prev) deadline again in
    let ps = followers ResponseKind channel prev window in
    let base = response_state (From channel at) deadline now end false in
    let grew : base ≡ grown fresh g = state_is fresh p (ap Some a) (e ∙ sym (or_none g.ended)) (same_zero (length g.pieces == 0)) in
    let caught : base ≡ caught_up window (opened spec) = grew ∙ ap (grown fresh) is ∙ sym (run_is fresh ps refl) in
    let mark : want ≡ (is_live base && wants_more spec && is_ahead base.terms base.position window) =
    w ∙ ap (λ b. b && not again && ahead channel at window) (none_is end) in
    ap (λ b. response_state (From channel at) deadline now end b) mark
    ∙ ap (λ (s : State). let t : State = record s { want = is_live s && wants_more spec && is_ahead s.terms s.position window } in t) caught

absurd_true : {A : Type 0} → false ≡ true → A
absurd_true e = cc

-- a hold with a previous id has one channel

two : (n : ℕ) → suc (suc n) ≡ 1 → ⊥
two n e = omega (arith, e)

one_by : (channels : List (List ℕ)) (channel : List ℕ) → (length channels == 1) ≡ true → slice_get channels 0 ≡ Some channel → channels ≡ channel ∷ []
one_by [] channel e f = absurd_true e
one_by (x ∷ []) channel e f = let same : x ≡ channel = cc f in ap (λ y. y ∷ []) same
one_by (x ∷ y ∷ rest) channel e f = absurd (two (length rest) (eqb-true (length (x ∷ y ∷ rest)) 1 e))

and_right : (a b : Bool) → (a && b) ≡ true → b ≡ true
and_right true b e = e
and_right false b e = absurd_true e

pub one_channel : (channels : List (List ℕ)) (channel prev : List ℕ) (deadline : ℕ) (again : Bool) → fits_spec (response_spec channels (Some prev) deadline again) ≡ true → slice_get channels 0 ≡ Some channel → channels ≡ channel ∷ []
one_channel channels channel prev deadline again fits first = one_by channels channel (and_right (fits_channels channels) (length channels == 1) fits) first

absurd_some : {A : Type 0} {x : List ℕ} → Some x ≡ None → A
absurd_some e = cc

no_channel : (channels : List (List ℕ)) → (length channels == 1) ≡ true → slice_get channels 0 ≡ None → ⊥
no_channel [] e f = absurd_true e
no_channel (x ∷ rest) e f = absurd_some f

pub some_channel : (channels : List (List ℕ)) (prev : List ℕ) (deadline : ℕ) (again : Bool) → fits_spec (response_spec channels (Some prev) deadline again) ≡ true → slice_get channels 0 ≡ None → ⊥
some_channel channels prev deadline again fits none = no_channel channels (and_right (fits_channels channels) (length channels == 1) fits) none

-- what an item does at a position of the channel

at_run : (kind : HoldKind) (position : Option (List ℕ)) (channels : List (List ℕ)) (channel at : List ℕ) (item : Item) (window : List Item) (ps : List Piece) (next : Bool) → kind ≡ ResponseKind → channels ≡ channel ∷ [] → position ≡ Some at → comes_next item (Some at) ≡ next
    → ps ≡ piece_by ResponseKind item ∷ cond (ends_by ResponseKind item) [] (option_map_or (λ (id : List ℕ). followers ResponseKind channel id window) item.id [])
    → run_by kind channels position item window ≡ cond next ps []
at_run kind position channels channel at item window ps next k c p n e =
    ap (λ x. run_by x channels position item window) k ∙ ap (λ x. run_by ResponseKind x position item window) c ∙ ap (λ x. run_by ResponseKind (channel ∷ []) x item window) p
    ∙ ap (λ b. cond b (piece_by ResponseKind item ∷ cond (ends_by ResponseKind item) [] (option_map_or (λ (id : List ℕ). followers ResponseKind channel id window) item.id [])) []) n
    ∙ ap (λ xs. cond next xs []) (sym e)

pub from_planned : (m : Machine) (channel at : List ℕ) (item : Item) (window : List Item) (g : Growth) (plan : Plan) → m.state.ended ≡ None → m.state.terms.kind ≡ ResponseKind → m.state.terms.channels ≡ channel ∷ [] → m.state.position ≡ Some at
    → is_on channel item ≡ true → leaves_gap item (Some at) ≡ false → comes_next item (Some at) ≡ true
    → g ≡ with_pieces m.state.pending no_growth (piece_by ResponseKind item ∷ cond (ends_by ResponseKind item) [] (option_map_or (λ (id : List ℕ). followers ResponseKind channel id window) item.id []))
    → IsMadeOf (roomy m.state.pending m.spare) g plan → IsPlanned m (offered item window m.state) plan
from_planned m channel at item window g plan n k c p on gap next is made =
    let ps = piece_by ResponseKind item ∷ cond (ends_by ResponseKind item) [] (option_map_or (λ (id : List ℕ). followers ResponseKind channel id window) item.id []) in
    run_planned m item window ps g plan n (ap (λ cs. is_heard cs item) c ∙ heard_one channel item ∙ on) (ap (leaves_gap item) p ∙ gap)
    (at_run m.state.terms.kind m.state.position m.state.terms.channels channel at item window ps true k c p next refl) is made

pub from_stays : (m : Machine) (channel at : List ℕ) (item : Item) (window : List Item) → m.state.terms.kind ≡ ResponseKind → m.state.terms.channels ≡ channel ∷ [] → m.state.position ≡ Some at
    → is_on channel item ≡ true → leaves_gap item (Some at) ≡ false → comes_next item (Some at) ≡ false → IsPlanned m (offered item window m.state) Nothing
from_stays m channel at item window k c p on gap next =
    none_planned m item window (ap (λ cs. is_heard cs item) c ∙ heard_one channel item ∙ on) (ap (leaves_gap item) p ∙ gap)
    (at_run m.state.terms.kind m.state.position m.state.terms.channels channel at item window (piece_by ResponseKind item ∷ cond (ends_by ResponseKind item) [] (option_map_or (λ (id : List ℕ). followers ResponseKind channel id window) item.id [])) false k c p next refl)

-- what an item does to a hold of any channels

any_run : (kind : HoldKind) (position : Option (List ℕ)) (channels : List (List ℕ)) (item : Item) (window : List Item) → kind ≡ ResponseKind → position ≡ None → run_by kind channels position item window ≡ answer_piece item.response item
any_run kind position channels item window k p = ap (λ x. run_by x channels position item window) k ∙ ap (λ x. run_by ResponseKind channels x item window) p

some_piece : (part : Option ResponsePart) (item : Item) → is_some part ≡ true → answer_piece part item ≡ answer_of item ∷ []
some_piece None item e = absurd_true e
some_piece (Some part) item e = refl

no_piece : (part : Option ResponsePart) (item : Item) → is_some part ≡ false → answer_piece part item ≡ []
no_piece None item e = refl
no_piece (Some part) item e = absurd_true (sym e)

pub any_planned : (m : Machine) (channels : List (List ℕ)) (item : Item) (window : List Item) (g : Growth) (plan : Plan) → m.state.ended ≡ None → m.state.terms.kind ≡ ResponseKind → m.state.terms.channels ≡ channels → m.state.position ≡ None
    → is_heard channels item ≡ true → is_some item.response ≡ true → g ≡ with_pieces m.state.pending no_growth (answer_of item ∷ []) → IsMadeOf (roomy m.state.pending m.spare) g plan → IsPlanned m (offered item window m.state) plan
any_planned m channels item window g plan n k c p heard part is made =
    run_planned m item window (answer_of item ∷ []) g plan n (ap (λ cs. is_heard cs item) c ∙ heard) (ap (leaves_gap item) p)
    (any_run m.state.terms.kind m.state.position m.state.terms.channels item window k p ∙ some_piece item.response item part) is made

pub any_unheard : (m : Machine) (channels : List (List ℕ)) (item : Item) (window : List Item) → m.state.terms.channels ≡ channels → is_heard channels item ≡ false → IsPlanned m (offered item window m.state) Nothing
any_unheard m channels item window c heard = unheard_planned m item window (ap (λ cs. is_heard cs item) c ∙ heard)

any_by : (m : Machine) (item : Item) (window : List Item) (heard : Bool) → is_heard m.state.terms.channels item ≡ heard → leaves_gap item m.state.position ≡ false → run_by m.state.terms.kind m.state.terms.channels m.state.position item window ≡ [] → IsPlanned m (offered item window m.state) Nothing
any_by m item window true h g r = none_planned m item window h g r
any_by m item window false h g r = unheard_planned m item window h

pub any_stays : (m : Machine) (item : Item) (window : List Item) → m.state.terms.kind ≡ ResponseKind → m.state.position ≡ None → is_some item.response ≡ false → IsPlanned m (offered item window m.state) Nothing
any_stays m item window k p part =
    any_by m item window (is_heard m.state.terms.channels item) refl (ap (leaves_gap item) p) (any_run m.state.terms.kind m.state.position m.state.terms.channels item window k p ∙ no_piece item.response item part)

-- what a Take gives and leaves

timed_by : (s : State) (live due wants : Bool) → (let t = cond live (cond due (record s { ended = Some TimedOut }) (cond wants (record s { ended = Some Retry }) s)) s in t ≡ record s { ended = t.ended })
timed_by s true true wants = refl
timed_by s true false true = refl
timed_by s true false false = refl
timed_by s false due wants = refl

abbrev at_time : Heard → ℕ → List Piece → Option EndCause → Bool → ℕ → State
at_time heard deadline pending ended want now = timed now (Some deadline) (response_state heard deadline pending ended want)

timed_is : (heard : Heard) (deadline : ℕ) (pending : List Piece) (ended : Option EndCause) (want : Bool) (now : ℕ)
    → at_time heard deadline pending ended want now ≡ response_state heard deadline pending (at_time heard deadline pending ended want now).ended want
timed_is heard deadline pending ended want now = let s = response_state heard deadline pending ended want in timed_by s (is_live s) (nat_le deadline now) want

gives_by : (heard : Heard) (deadline : ℕ) (pending : List Piece) (end told : Option EndCause) (want : Bool) → ends_now end (left pending) ≡ told
    → (let t : Taken = record { pieces = batch pending; recover = recover_from (is_retry told) (position_in heard); ended = told } in given (response_state heard deadline pending end want) ≡ t)
gives_by heard deadline pending None told want is = ap (λ (o : Option EndCause). let t : Taken = record { pieces = batch pending; recover = recover_from (is_retry o) (position_in heard); ended = o } in t) is
gives_by heard deadline pending (Some cause) told want is = ap (λ (o : Option EndCause). let t : Taken = record { pieces = batch pending; recover = recover_from (is_retry o) (position_in heard); ended = o } in t) is

same_taken : {ps qs : List Piece} {a b : Option (List ℕ)} {e f : Option EndCause} → ps ≡ qs → a ≡ b → e ≡ f
    → (let t : Taken = record { pieces = ps; recover = a; ended = e } in t) ≡ record { pieces = qs; recover = b; ended = f }
same_taken {ps = ps} {qs = qs} {a = a} {b = b} {e = e} {f = f} p r t =
    ap (λ xs. let u : Taken = record { pieces = xs; recover = a; ended = e } in u) p
    ∙ ap (λ x. let u : Taken = record { pieces = qs; recover = x; ended = e } in u) r
    ∙ ap (λ x. let u : Taken = record { pieces = qs; recover = b; ended = x } in u) t

gives_told : (heard : Heard) (deadline : ℕ) (pending ps : List Piece) (ended end told : Option EndCause) (want : Bool) (now : ℕ) (at : Option (List ℕ)) → ps ≡ batch pending → end ≡ (at_time heard deadline pending ended want now).ended
    → at ≡ recover_from (is_retry told) (position_in heard) → ends_now end (left pending) ≡ told
    → (let t : Taken = record { pieces = ps; recover = at; ended = told } in t ≡ taken_of now (response_state heard deadline pending ended want))
gives_told heard deadline pending ps ended end told want now at p e a t =
    same_taken p a refl ∙ sym (gives_by heard deadline pending end told want t) ∙ ap (λ (x : Option EndCause). given (response_state heard deadline pending x want)) e ∙ sym (ap given (timed_is heard deadline pending ended want now))

no_length : (n : ℕ) → suc n ≡ 0 → ⊥
no_length n e = omega (arith, e)

ends_all : (end : Option EndCause) (ps : List Piece) → (length ps == 0) ≡ true → ends_now end ps ≡ end
ends_all end [] e = refl
ends_all end (p ∷ ps) e = absurd (no_length (length ps) (eqb-true (length (p ∷ ps)) 0 e))

ends_none : (end : Option EndCause) (ps : List Piece) → (length ps == 0) ≡ false → ends_now end ps ≡ None
ends_none end [] e = absurd_true (sym e)
ends_none end (p ∷ ps) e = refl

pub gives_last : (heard : Heard) (deadline : ℕ) (pending ps rest : List Piece) (ended end : Option EndCause) (want : Bool) (now : ℕ) (at : Option (List ℕ)) → ps ≡ batch pending → rest ≡ left pending
    → end ≡ (at_time heard deadline pending ended want now).ended → at ≡ recover_from (is_retry end) (position_in heard) → (length rest == 0) ≡ true
    → (let t : Taken = record { pieces = ps; recover = at; ended = end } in t ≡ taken_of now (response_state heard deadline pending ended want))
gives_last heard deadline pending ps rest ended end want now at p r e a all = gives_told heard deadline pending ps ended end end want now at p e a (ap (ends_now end) (sym r) ∙ ends_all end rest all)

pub gives_some : (heard : Heard) (deadline : ℕ) (pending ps rest : List Piece) (ended end : Option EndCause) (want : Bool) (now : ℕ) → ps ≡ batch pending → rest ≡ left pending
    → end ≡ (at_time heard deadline pending ended want now).ended → (length rest == 0) ≡ false
    → (let t : Taken = record { pieces = ps; recover = None; ended = None } in t ≡ taken_of now (response_state heard deadline pending ended want))
gives_some heard deadline pending ps rest ended end want now p r e some = gives_told heard deadline pending ps ended end None want now None p e refl (ap (ends_now end) (sym r) ∙ ends_none end rest some)

leaves_by : (heard : Heard) (deadline : ℕ) (pending : List Piece) (end : Option EndCause) (want : Bool) → response_state heard deadline (left pending) end want ≡ rest_of (response_state heard deadline pending end want)
leaves_by heard deadline pending None true = refl
leaves_by heard deadline pending None false = refl
leaves_by heard deadline pending (Some cause) true = refl
leaves_by heard deadline pending (Some cause) false = refl

pub leaves_is : (heard : Heard) (deadline : ℕ) (pending rest : List Piece) (ended end : Option EndCause) (want : Bool) (now : ℕ) → rest ≡ left pending → end ≡ (at_time heard deadline pending ended want now).ended
    → response_state heard deadline rest end want ≡ after_take now (response_state heard deadline pending ended want)
leaves_is heard deadline pending rest ended end want now r e =
    ap (λ ps. response_state heard deadline ps end want) r ∙ leaves_by heard deadline pending end want ∙ ap (λ (x : Option EndCause). rest_of (response_state heard deadline pending x want)) e
    ∙ sym (ap rest_of (timed_is heard deadline pending ended want now))

pub on_ok_given : {T E P : Type 0} (r : Result T E) → P → OnOk r P
on_ok_given (Ok x) p = p
on_ok_given (Err e) p = tt
