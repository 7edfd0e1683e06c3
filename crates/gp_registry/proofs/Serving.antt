-- What is planned for each hold is what the item does to each.
use Rattle.std.proofs.Common.{◌≡◌, ℕ, ◌+◌, Bool, true, false, cond, nat_lt, List, [], ◌∷◌, length, map, count_by, fold, refl, sym, ap, ◌∙◌, subst, arith}
use Rattle.std.specs.List.{All, AllByRecursion}
use Rattle.std.proofs.lemmas.Bool.Decides.{nat_tests}
use Rattle.std.proofs.lemmas.List.{length-map}
use Rattle.std.proofs.lemmas.List.Elements.{recursion_from_All}
use Rattle.gp_plain.specs.declared.item.Item.{Item}
use Rattle.gp_plain.specs.declared.event.Event.TheVariants.{Publish}
use Rattle.gp_plain.specs.declared.reply.Reply.TheVariants.{Published, Repeat}
use Rattle.gp_plain.specs.Pieces.{id_or}
use Rattle.gp_plain.specs.Follow.{is_repeat}
use Rattle.gp_plain.specs.Holds.{State, is_live, offered, grew, settled_if}
use Rattle.gp_plain.specs.Standing.{Kept, Standing}
use Rattle.gp_registry.specs.Keeps.{pushed, offered_if, grew_kept, served_kept}
use Rattle.gp_registry.specs.Steps.{published, stepped, answered}
use Rattle.gp_registry.specs.declared.hold.Hold.{Hold}
use Rattle.gp_registry.specs.Stages.{state_of, kept_hold, number_of, committed, appends, staged, IsStaged, standing_now, Rises, AllBelow, IsInOrder}

not_less : (n : ℕ) → nat_lt n n ≡ false
not_less n = grind (arith, nat_tests)

-- settled where it went on, what is offered is what is served
served_by : (item : Item) (before after : List Item) (s : State) (live : Bool)
    → (let next = cond live (offered item before s) s in settled_if (grew s next) after next) ≡ cond live (let next = offered item before s in settled_if (grew s next) after next) s
served_by item before after s true = refl
served_by item before after s false = ap (λ b. settled_if b after s) (not_less (length s.pending))

pub served_is : (item : Item) (before after : List Item) (h : Hold) → IsStaged item before h → committed after h ≡ served_kept item before after (kept_hold h)
served_is item before after h st =
    let s = state_of h.machine.value in
    ap (λ (t : State). let k : Kept = record { number = h.number; owner = h.owner; state = t } in k)
    (ap (λ b. settled_if b after (staged h.machine.value)) st.told ∙ ap (settled_if (grew s (offered_if item before s)) after) st.effect ∙ served_by item before after s (is_live s))

settled_pending : (went_on : Bool) (window : List Item) (s : State) → (settled_if went_on window s).pending ≡ s.pending
settled_pending true window s = refl
settled_pending false window s = refl

grew_by : (item : Item) (before after : List Item) (s : State) (live : Bool)
    → grew s (cond live (offered item before s) s) ≡ grew s (cond live (let next = offered item before s in settled_if (grew s next) after next) s)
grew_by item before after s true = let next = offered item before s in ap (λ ps. nat_lt (length s.pending) (length ps)) (sym (settled_pending (grew s next) after next))
grew_by item before after s false = refl

grew_is : (item : Item) (before after : List Item) (h : Hold) → IsStaged item before h → appends h.machine.value ≡ grew_kept (kept_hold h) (served_kept item before after (kept_hold h))
grew_is item before after h st = st.told ∙ grew_by item before after (state_of h.machine.value) (is_live (state_of h.machine.value))

committed_rec : (item : Item) (before after : List Item) (hs : List Hold) → AllByRecursion (IsStaged item before) hs → map (committed after) hs ≡ map (served_kept item before after) (map kept_hold hs)
committed_rec item before after [] all = refl
committed_rec item before after (h ∷ hs) all = cc (served_is item before after h all.0, committed_rec item before after hs all.1)

committed_is : (item : Item) (before after : List Item) (hs : List Hold) → All (IsStaged item before) hs → map (committed after) hs ≡ map (served_kept item before after) (map kept_hold hs)
committed_is item before after hs all = committed_rec item before after hs (recursion_from_All (IsStaged item before) hs all)

grown_rec : (item : Item) (before after : List Item) (n : ℕ) (hs : List Hold) → AllByRecursion (IsStaged item before) hs
    → fold (λ (a : ℕ) (h : Hold). a + cond (appends h.machine.value) 1 0) n hs ≡ fold (λ (a : ℕ) (k : Kept). a + cond (grew_kept k (served_kept item before after k)) 1 0) n (map kept_hold hs)
grown_rec item before after n [] all = refl
grown_rec item before after n (h ∷ hs) all =
    ap (λ b. fold (λ (a : ℕ) (h : Hold). a + cond (appends h.machine.value) 1 0) (n + cond b 1 0) hs) (grew_is item before after h all.0)
    ∙ grown_rec item before after (n + cond (grew_kept (kept_hold h) (served_kept item before after (kept_hold h))) 1 0) hs all.1

grown_is : (item : Item) (before after : List Item) (hs : List Hold) → All (IsStaged item before) hs
    → count_by (λ (h : Hold). appends h.machine.value) hs ≡ count_by (λ (k : Kept). grew_kept k (served_kept item before after k)) (map kept_hold hs)
grown_is item before after hs all = grown_rec item before after 0 hs (recursion_from_All (IsStaged item before) hs all)

-- planned and carried out, the item is published
pub published_is : (item : Item) (who n g : ℕ) (before after : List Item) (was ready done : List Hold) (s : Standing)
    → standing_now before n was ≡ s → is_repeat before item ≡ false → after ≡ pushed before item → map kept_hold ready ≡ map kept_hold was → All (IsStaged item before) ready
    → map kept_hold done ≡ map (committed after) ready → g ≡ count_by (λ (h : Hold). appends h.machine.value) ready
    → (Published g ≡ answered s who (Publish item)) × (standing_now after n done ≡ stepped s who (Publish item))
published_is item who n g before after was ready done s view new push same all kept grew =
    let w : before ≡ s.window = ap (λ (t : Standing). t.window) view in
    let w' : after ≡ pushed s.window item = push ∙ ap (λ ws. pushed ws item) w in
    let kept_is : map kept_hold ready ≡ s.kept = same ∙ ap (λ (t : Standing). t.kept) view in
    let next_is : n ≡ s.next = ap (λ (t : Standing). t.next) view in
    let fresh : is_repeat s.window item ≡ false = ap (λ ws. is_repeat ws item) (sym w) ∙ new in
    let count = grew ∙ grown_is item before after ready all ∙ ap (λ ks. count_by (λ (k : Kept). grew_kept k (served_kept item before after k)) ks) kept_is
    ∙ ap (λ ws. count_by (λ (k : Kept). grew_kept k (served_kept item ws after k)) s.kept) w ∙ ap (λ ws. count_by (λ (k : Kept). grew_kept k (served_kept item s.window ws k)) s.kept) w' in
    let holds = kept ∙ committed_is item before after ready all ∙ ap (map (served_kept item before after)) kept_is ∙ ap (λ ws. map (served_kept item ws after) s.kept) w ∙ ap (λ ws. map (served_kept item s.window ws) s.kept) w' in
    let left : standing_now after n done ≡ published s item = cc (w', next_is, holds) in (
      ap Published count ∙ sym (ap (λ b. cond b (Repeat (id_or item.id [])) (Published (count_by (λ (k : Kept). grew_kept k (served_kept item s.window (pushed s.window item) k)) s.kept))) fresh),
      left ∙ sym (ap (λ b. cond b s (published s item)) fresh),
    )

-- a repeat changes nothing
pub repeated_is : (item : Item) (who : ℕ) (id : List ℕ) (s : Standing) → is_repeat s.window item ≡ true → id_or item.id [] ≡ id → (Repeat id ≡ answered s who (Publish item)) × (s ≡ stepped s who (Publish item))
repeated_is item who id s repeat is = (
  ap Repeat (sym is) ∙ sym (ap (λ b. cond b (Repeat (id_or item.id [])) (Published (count_by (λ (k : Kept). grew_kept k (served_kept item s.window (pushed s.window item) k)) s.kept))) repeat),
  sym (ap (λ b. cond b s (published s item)) repeat),
)

numbers_committed : (window : List Item) (hs : List Hold) → map (λ (k : Kept). k.number) (map (committed window) hs) ≡ map number_of hs
numbers_committed window [] = refl
numbers_committed window (h ∷ hs) = ap (λ ns. h.number ∷ ns) (numbers_committed window hs)

numbers_kept : (hs : List Hold) → map (λ (k : Kept). k.number) (map kept_hold hs) ≡ map number_of hs
numbers_kept [] = refl
numbers_kept (h ∷ hs) = ap (λ ns. h.number ∷ ns) (numbers_kept hs)

pub order_committed : (next : ℕ) (window : List Item) (ready done : List Hold) → map kept_hold done ≡ map (committed window) ready → IsInOrder next ready → IsInOrder next done
order_committed next window ready done is o =
    let numbers : map number_of done ≡ map number_of ready = sym (numbers_kept done) ∙ ap (map (λ (k : Kept). k.number)) is ∙ numbers_committed window ready in
    record {
      few = omega (arith, ap length numbers, length-map done number_of, length-map ready number_of, o.few);
      rises = subst (Rises 0) (sym numbers) o.rises;
      given = subst (AllBelow next) (sym numbers) o.given;
    }
