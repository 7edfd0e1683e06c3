-- What a stream hold is, once it has grown, begun or planned.
use Rattle.std.proofs.Common.{◌≡◌, ℕ, ◌+◌, ◌==◌, Bool, true, false, cond, not, ◌&&◌, nat_le, List, [], ◌∷◌, ◌++◌, length, refl, sym, ap, ◌∙◌, arith, Option, Some, None, Result, Ok, Err, IfOk, is_none, is_some}
use Rattle.std.specs.Option.{option_map_or}
use Rattle.std.proofs.lemmas.Bool.Decides.{nat_tests}
use Rattle.gp_plain.specs.declared.item.Item.{Item}
use Rattle.gp_plain.specs.declared.event.HoldKind.TheVariants.{Stream as StreamKind}
use Rattle.gp_plain.specs.declared.event.HoldSpec.TheVariants.{Stream}
use Rattle.gp_plain.specs.declared.reply.Piece.{Piece}
use Rattle.gp_plain.specs.declared.reply.Piece.TheVariants.{Opening}
use Rattle.gp_plain.specs.declared.reply.EndCause.{EndCause}
use Rattle.gp_plain.specs.declared.reply.EndCause.TheVariants.{Overflow}
use Rattle.gp_plain.specs.declared.plan.Plan.{Plan}
use Rattle.gp_plain.specs.Fit.{is_short_page}
use Rattle.gp_plain.specs.Items.{is_on}
use Rattle.gp_plain.specs.Tails.{ahead}
use Rattle.gp_plain.specs.Roomy.{roomy}
use Rattle.gp_plain.specs.Pieces.{position_after}
use Rattle.gp_plain.specs.Holds.{State, is_live, added, run, comes_next, leaves_gap, piece_by, ends_by, followers, offered, opened, caught_up, begun_state, wants_more, is_ahead}
use Rattle.gp_plain.specs.Growth.{Growth, no_growth, with_pieces, end_or, grown}
use Rattle.gp_plain.specs.Plans.{machine, IsMadeOf, IsPlanned}
use Rattle.gp_plain.proofs.Growing.{run_is, or_none, state_is, heard_one}
use Rattle.gp_plain.proofs.Offering.{run_planned}
use Rattle.gp_hold_stream.specs.States.{stream_state, stream_spec}

-- what holds of an answer holds of what it implies
pub if_ok : {T E : Type 0} {P Q : T → Type 0} (r : Result T E) → ((x : T) → P x → Q x) → IfOk r P → IfOk r Q
if_ok (Ok x) f p = f x p
if_ok (Err e) f p = p

pub grow_is : (channel : List ℕ) (link : Bool) (pending now : List Piece) (position at : List ℕ) (ended end : Option EndCause) (want asked late : Bool) (misses count : ℕ) (g : Growth)
    → ended ≡ None → now ≡ pending ++ g.pieces → at ≡ position_after position g.pieces → end ≡ g.ended → count ≡ cond (length g.pieces == 0) misses 0
    → stream_state channel link now at end want asked late count ≡ grown (stream_state channel link pending position ended want asked late misses) g
grow_is channel link pending now position at ended end want asked late misses count g n p a e m =
    state_is (stream_state channel link pending position ended want asked late misses) p (ap Some a) (e ∙ sym (ap (end_or g.ended) n ∙ or_none g.ended)) m

room_by : (n : ℕ) → nat_le n 262144 ≡ true → (nat_le (0 + n) 524288 && nat_le (0 + 1) 1024) ≡ true
room_by n e = grind (arith, nat_tests, e)

same_zero : (b : Bool) → ◌≡◌ {A = ℕ} 0 (cond b 0 0)
same_zero true = refl
same_zero false = refl

none_is : (e : Option EndCause) → is_none e ≡ not (is_some e)
none_is None = refl
none_is (Some cause) = refl

opening_first : (opening channel prev : List ℕ) (link : Bool) → is_short_page opening ≡ true
    → added (stream_state channel link [] prev None false false false 0) (Opening opening) ≡ opened (Stream opening channel prev link)
opening_first opening channel prev link short =
    let s = stream_state channel link [] prev None false false false 0 in
    ap (λ b. cond b (record s { pending = Opening opening ∷ []; position = Some prev; ended = None; misses = 0 }) (record s { ended = Some Overflow })) (room_by (length opening) short)

pub begin_is : (opening channel prev : List ℕ) (link : Bool) (window : List Item) (g : Growth) (now : List Piece) (at : List ℕ) (end : Option EndCause) (want : Bool)
    → is_short_page opening ≡ true → g ≡ with_pieces [] no_growth (Opening opening ∷ followers StreamKind channel prev window) → now ≡ g.pieces → at ≡ position_after prev g.pieces → end ≡ g.ended
    → want ≡ (is_none end && link && ahead channel at window)
    → stream_state channel link now at end want false false 0 ≡ begun_state (stream_spec opening channel prev link) window
begin_is opening channel prev link window g now at end want short is p a e w =
    let fresh = stream_state channel link [] prev None false false false 0 in
    let spec = stream_spec opening channel prev link in
    let ps = followers StreamKind channel prev window in
    let base = stream_state channel link now at end false false false 0 in
    let grew : base ≡ grown fresh g = grow_is channel link [] now prev at None end false false false 0 0 g refl p a e (same_zero (length g.pieces == 0)) in
    let caught : base ≡ caught_up window (opened spec) =
    grew ∙ ap (grown fresh) is ∙ sym (run_is fresh (Opening opening ∷ ps) refl) ∙ ap (λ s. run s ps) (opening_first opening channel prev link short) in
    let mark : want ≡ (is_live base && wants_more spec && is_ahead base.terms base.position window) =
    w ∙ ap (λ b. b && link && ahead channel at window) (none_is end) in
    ap (λ b. stream_state channel link now at end b false false 0) mark
    ∙ ap (λ (s : State). let t : State = record s { want = is_live s && wants_more spec && is_ahead s.terms s.position window } in t) caught

pub next_planned : (channel : List ℕ) (link : Bool) (pending : List Piece) (position : List ℕ) (ended : Option EndCause) (want asked late : Bool) (misses spare : ℕ) (item : Item) (window : List Item) (g : Growth) (plan : Plan)
    → ended ≡ None → is_on channel item ≡ true → leaves_gap item (Some position) ≡ false → comes_next item (Some position) ≡ true
    → g ≡ with_pieces pending no_growth (piece_by StreamKind item ∷ cond (ends_by StreamKind item) [] (option_map_or (λ (id : List ℕ). followers StreamKind channel id window) item.id []))
    → IsMadeOf (roomy pending spare) g plan
    → let m = machine (stream_state channel link pending position ended want asked late misses) spare in IsPlanned m (offered item window m.state) plan
next_planned channel link pending position ended want asked late misses spare item window g plan n on gap next is made =
    let ps = piece_by StreamKind item ∷ cond (ends_by StreamKind item) [] (option_map_or (λ (id : List ℕ). followers StreamKind channel id window) item.id []) in
    run_planned (machine (stream_state channel link pending position ended want asked late misses) spare) item window ps g plan n (heard_one channel item ∙ on) gap (ap (λ b. cond b ps []) next) is made
