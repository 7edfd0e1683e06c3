-- The items of a list of values, as far as they were read.
use Rattle.std.proofs.Common.{◌≡◌, ℕ, ◌+◌, ◌<◌, ◌≤◌, min, List, [], ◌∷◌, ◌++◌, length, map, drop, get_or, Option, Some, Result, Ok, Err, refl, sym, ap, ◌∙◌, arith, lt-ltb, le-ltb}
use Rattle.std.specs.Prelude.{option_and_then}
use Rattle.std.proofs.lemmas.List.{drop_more, length-map}
use Rattle.serde_json.specs.Data.{Data}
use Rattle.serde_json.specs.Find.{as_array}
use Rattle.serde_json.specs.View.{view, items_view}
use Rattle.serde_json.specs.declared.value.Value.{Value}
use Rattle.gp_plain.specs.declared.item.Item.{Item}
use Rattle.gp_json.specs.Steps.{result_and_then}
use Rattle.gp_json.specs.Texts.{IsObjectText}
use Rattle.gp_json.specs.Members.{as_elements}
use Rattle.gp_json.proofs.MemberLemmas.{elements_view}
use Rattle.gp_json.proofs.StepLemmas.{after, one_more}
use Rattle.gp_items.specs.Faults.{IsItemFaultOf, IsItemsFaultOf, fault_at}
use Rattle.gp_items.specs.Items.{item_of, items_from, items_if, items_in, placed, IsItemsFault}
use Rattle.gp_items.specs.declared.fault.ItemFault.{ItemFault}
use Rattle.gp_items.specs.declared.fault.ItemFault.TheVariants as one
use Rattle.gp_items.specs.declared.fault.ItemsFault.{ItemsFault}
use Rattle.gp_items.specs.declared.fault.ItemsFault.TheVariants.{NotJson, NoItems, TooMany, Member, Base64, Long, Name, NoMemory}

-- the value at a place is the first of those that are left
pub left_from : (values : List Value) (place : ℕ) (value : Value) → place < length values → value ≡ get_or values place value
    → map view (drop place values) ≡ view value ∷ map view (drop (place + 1) values)
left_from values place value inside is = ap (map view) (drop_more values place value inside) ∙ ap (λ v. view v ∷ map view (drop (place + 1) values)) (sym is)

items_after : List Item → ℕ → Result Item ItemsFault → List Data → Result (List Item) ItemsFault
items_after done place read rest = after done (result_and_then read (λ item. result_and_then (items_from (place + 1) rest) (λ items. Ok (item ∷ items))))

-- one more item
pub items_more : (whole : Result (List Item) ItemsFault) (done : List Item) (place : ℕ) (ds : List Data) (d : Data) (rest : List Data) (item : Item) → whole ≡ after done (items_from place ds) → ds ≡ d ∷ rest
    → item_of d ≡ Ok item → whole ≡ after (done ++ item ∷ []) (items_from (place + 1) rest)
unfolding items_after
items_more whole done place ds d rest item so_far cut read =
    so_far ∙ ap (λ xs. after done (items_from place xs)) cut ∙ ap (λ r. items_after done place (placed place r) rest) read ∙ one_more done item (items_from (place + 1) rest)

fails_at : (whole : Result (List Item) ItemsFault) (done : List Item) (place : ℕ) (d : Data) (rest : List Data) (fault : ItemFault) → whole ≡ after done (items_from place (d ∷ rest)) → item_of d ≡ Err fault
    → whole ≡ Err (fault_at place fault)
unfolding items_after
fails_at whole done place d rest fault so_far read = so_far ∙ ap (λ r. items_after done place (placed place r) rest) read

-- the first item with a fault
pub items_failed : (whole : Result (List Item) ItemsFault) (done : List Item) (place : ℕ) (ds : List Data) (d : Data) (rest : List Data) (fault : ItemFault) → whole ≡ after done (items_from place ds) → ds ≡ d ∷ rest
    → IsItemFaultOf (item_of d) fault → IsItemsFaultOf whole (fault_at place fault)
items_failed whole done place ds d rest (one.Member name) so_far cut read = fails_at whole done place d rest _ (so_far ∙ ap (λ xs. after done (items_from place xs)) cut) read
items_failed whole done place ds d rest (one.Base64 name) so_far cut read = fails_at whole done place d rest _ (so_far ∙ ap (λ xs. after done (items_from place xs)) cut) read
items_failed whole done place ds d rest (one.Long bytes) so_far cut read = fails_at whole done place d rest _ (so_far ∙ ap (λ xs. after done (items_from place xs)) cut) read
items_failed whole done place ds d rest (one.Name fault) so_far cut read = fails_at whole done place d rest _ (so_far ∙ ap (λ xs. after done (items_from place xs)) cut) read
items_failed whole done place ds d rest one.NoMemory so_far cut read = read

-- how many there may be
pub no_items : (values : List Value) → length values ≡ 0 → items_if (Some (map view values)) ≡ Err NoItems
no_items [] none = refl
no_items (v ∷ values) none = absurd (omega arith)

pub too_many : (values : List Value) → 1000 < length values → items_if (Some (map view values)) ≡ Err (TooMany (min (length values) 4294967295))
too_many [] many = absurd (omega arith)
too_many (v ∷ values) many =
    let count : length (map view (v ∷ values)) ≡ length (v ∷ values) = simp length-map in
    rw (lt-ltb 1000 (length (map view (v ∷ values))) (omega (arith, count)), count) refl

pub few_items : (values : List Value) → 0 < length values → length values ≤ 1000 → items_if (Some (map view values)) ≡ items_from 0 (map view values)
few_items [] some few = absurd (omega arith)
few_items (v ∷ values) some few =
    let count : length (map view (v ∷ values)) ≡ length (v ∷ values) = simp length-map in
    rw (le-ltb 1000 (length (map view (v ∷ values))) (omega (arith, count))) refl

-- the values of an array
pub listed_in : (found : Option Data) (d : Data) (values : List Value) → Some d ≡ found → Some (items_view values) ≡ as_array d → option_and_then as_elements found ≡ Some (map view values)
listed_in found d values there form = rw (← there, ← form, elements_view) refl

-- a fault of an object's items is one of its text
pub fault_told : (bytes : List ℕ) (value : Data) (fault : ItemsFault) → IsObjectText bytes value → IsItemsFaultOf (items_in value) fault → IsItemsFault bytes fault
fault_told bytes value NotJson text is = absurd is
fault_told bytes value NoItems text is = record { value = value; text = text; fault_is = is }
fault_told bytes value (TooMany count) text is = record { value = value; text = text; fault_is = is }
fault_told bytes value (Member place name) text is = record { value = value; text = text; fault_is = is }
fault_told bytes value (Base64 place name) text is = record { value = value; text = text; fault_is = is }
fault_told bytes value (Long place length) text is = record { value = value; text = text; fault_is = is }
fault_told bytes value (Name place fault) text is = record { value = value; text = text; fault_is = is }
fault_told bytes value NoMemory text is = is
