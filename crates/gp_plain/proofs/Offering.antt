-- What an item does to a live hold, by what it says to it.
use Rattle.std.proofs.Common.{◌≡◌, Bool, true, false, cond, ◌&&◌, nat_lt, List, [], length, refl, sym, ap, ◌∙◌, subst, None}
use Rattle.gp_plain.specs.declared.item.Item.{Item}
use Rattle.gp_plain.specs.declared.reply.Piece.{Piece}
use Rattle.gp_plain.specs.declared.plan.Plan.{Plan}
use Rattle.gp_plain.specs.declared.plan.Plan.TheVariants.{Nothing, Gap}
use Rattle.gp_plain.specs.Follow.{is_heard}
use Rattle.gp_plain.specs.Roomy.{roomy}
use Rattle.gp_plain.specs.Holds.{State, run, run_by, leaves_gap, can_ask, marked, missed, gapped, offered, grew}
use Rattle.gp_plain.specs.Growth.{Growth, no_growth, with_pieces}
use Rattle.gp_plain.specs.Plans.{Machine, IsMadeOf, IsPlanned}
use Rattle.gp_plain.proofs.Growing.{plan_is, nothing_is, not_less}

offered_eq : (item : Item) (window : List Item) (s : State) (heard gap : Bool) → is_heard s.terms.channels item ≡ heard → leaves_gap item s.position ≡ gap
    → offered item window s ≡ cond (heard && gap) (gapped s) (run s (cond heard (run_by s.terms.kind s.terms.channels s.position item window) []))
offered_eq item window s heard gap h g =
    ap (λ b. cond (b && leaves_gap item s.position) (gapped s) (run s (cond b (run_by s.terms.kind s.terms.channels s.position item window) []))) h
    ∙ ap (λ b. cond (heard && b) (gapped s) (run s (cond heard (run_by s.terms.kind s.terms.channels s.position item window) []))) g

pub unheard_planned : (m : Machine) (item : Item) (window : List Item) → is_heard m.state.terms.channels item ≡ false → IsPlanned m (offered item window m.state) Nothing
unheard_planned m item window h = nothing_is m (offered item window m.state) (sym (offered_eq item window m.state false (leaves_gap item m.state.position) h refl))

gapped_pending : (s : State) (ask : Bool) → length (cond ask (marked s) (missed s)).pending ≡ length s.pending
gapped_pending s true = refl
gapped_pending s false = refl

pub gap_planned : (m : Machine) (item : Item) (window : List Item) → m.state.ended ≡ None → is_heard m.state.terms.channels item ≡ true → leaves_gap item m.state.position ≡ true → IsPlanned m (offered item window m.state) Gap
gap_planned m item window n h g =
    let effect : gapped m.state ≡ offered item window m.state = sym (offered_eq item window m.state true true h g) in
    record { ready = n; effect = effect; told = sym (not_less (length m.state.pending)) ∙ ap (λ k. nat_lt (length m.state.pending) k) (sym (gapped_pending m.state (can_ask m.state.terms))) ∙ ap (grew m.state) effect }

pub none_planned : (m : Machine) (item : Item) (window : List Item) → is_heard m.state.terms.channels item ≡ true → leaves_gap item m.state.position ≡ false
    → run_by m.state.terms.kind m.state.terms.channels m.state.position item window ≡ [] → IsPlanned m (offered item window m.state) Nothing
none_planned m item window h g e = nothing_is m (offered item window m.state) (sym (offered_eq item window m.state true false h g ∙ ap (run m.state) e))

pub run_planned : (m : Machine) (item : Item) (window : List Item) (ps : List Piece) (g : Growth) (plan : Plan) → m.state.ended ≡ None → is_heard m.state.terms.channels item ≡ true → leaves_gap item m.state.position ≡ false
    → run_by m.state.terms.kind m.state.terms.channels m.state.position item window ≡ ps → g ≡ with_pieces m.state.pending no_growth ps → IsMadeOf (roomy m.state.pending m.spare) g plan
    → IsPlanned m (offered item window m.state) plan
run_planned m item window ps g plan n h no_gap e is made =
    let effect : run m.state ps ≡ offered item window m.state = sym (offered_eq item window m.state true false h no_gap ∙ ap (run m.state) e) in
    subst (λ s. IsPlanned m s plan) effect (plan_is m ps g plan n is made)

and_false : (b : Bool) → (b && false) ≡ false
and_false true = refl
and_false false = refl

-- the run of an item on one of the channels
pub offered_run : (item : Item) (window : List Item) (s : State) (heard : Bool) → is_heard s.terms.channels item ≡ heard → leaves_gap item s.position ≡ false
    → offered item window s ≡ run s (cond heard (run_by s.terms.kind s.terms.channels s.position item window) [])
offered_run item window s heard h g = offered_eq item window s heard false h g ∙ ap (λ b. cond b (gapped s) (run s (cond heard (run_by s.terms.kind s.terms.channels s.position item window) []))) (and_false heard)
