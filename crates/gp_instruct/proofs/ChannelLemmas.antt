-- The keys of a set after one more, and which names the channels then have.
use Rattle.std.proofs.Common.{◌≡◌, ℕ, Bool, true, false, cond, not, ◌||◌, List, [], ◌∷◌, ◌++◌, Bor, refl, sym, ap, ◌∙◌}
use Rattle.std.specs.List.{list_any}
use Rattle.std.specs.Str.{bytes_eq}
use Rattle.std.specs.Ordering.{nat_cmp, is_eq, match_ordering}
use Rattle.std.specs.declared.cmp.Ordering.{Ordering}
use Rattle.std.specs.declared.cmp.Ordering.TheVariants.{Less, Equal, Greater}
use Rattle.std.specs.Cmp.Lexicographic.{slice_cmp}
use Rattle.std.specs.BTreeMap.{is_at}
use Rattle.std.specs.BTreeSet.{insert_key}
use Rattle.std.proofs.lemmas.Map.Text.{is_eq-slice_cmp}
use Rattle.std.proofs.lemmas.Slice.Eq.{bytes_eq-Decides}
use Rattle.gp_instruct.specs.declared.instruct.Sub.{Sub}
use Rattle.gp_instruct.specs.Channels.{has_key, has_name, with_sub, HasKeys, AreNamesOf}

abbrev pub Key : Type 0
Key = Bor (List ℕ)

abbrev pub key_cmp : Key → Key → Ordering
key_cmp x y = slice_cmp nat_cmp x.now y.now

or_comm : (a b c : Bool) → (a || (b || c)) ≡ ((b || c) || a)
or_comm true true c = refl
or_comm true false true = refl
or_comm true false false = refl
or_comm false true c = refl
or_comm false false true = refl
or_comm false false false = refl

or_same : (a b : Bool) → (a || b) ≡ ((a || b) || a)
or_same true b = refl
or_same false true = refl
or_same false false = refl

or_assoc : (a b c : Bool) → (a || (b || c)) ≡ ((a || b) || c)
or_assoc true b c = refl
or_assoc false b c = refl

or_false : (a : Bool) → a ≡ (a || false)
or_false true = refl
or_false false = refl

same_text : (xs ys : List ℕ) → bytes_eq xs ys ≡ true → xs ≡ ys
same_text xs ys same = (bytes_eq-Decides xs ys).0 same

is_same : (xs ys : List ℕ) → slice_cmp nat_cmp xs ys ≡ Equal → xs ≡ ys
is_same xs ys same = same_text xs ys (sym (is_eq-slice_cmp xs ys) ∙ ap is_eq same)

insert_step : (name : List ℕ) (x key : Key) (xs more : List Key) (found : Ordering) → key_cmp key x ≡ found
    → has_key name more ≡ (has_key name xs || bytes_eq name key.now)
    → has_key name (match_ordering found (key ∷ x ∷ xs) (x ∷ xs) (x ∷ more)) ≡ (has_key name (x ∷ xs) || bytes_eq name key.now)
insert_step name x key xs more Less is rest = or_comm (bytes_eq name key.now) (bytes_eq name x.now) (has_key name xs)
insert_step name x key xs more Equal is rest =
    or_same (bytes_eq name x.now) (has_key name xs) ∙ ap (λ (k : List ℕ). has_key name (x ∷ xs) || bytes_eq name k) (sym (is_same key.now x.now is))
insert_step name x key xs more Greater is rest =
    ap (λ (b : Bool). bytes_eq name x.now || b) rest ∙ or_assoc (bytes_eq name x.now) (has_key name xs) (bytes_eq name key.now)

pub insert_has : (name : List ℕ) (keys : List Key) (key : Key) → has_key name (insert_key key_cmp keys key) ≡ (has_key name keys || bytes_eq name key.now)
insert_has name [] key = sym (or_false (bytes_eq name key.now))
insert_has name (x ∷ xs) key = insert_step name x key xs (insert_key key_cmp xs key) (key_cmp key x) refl (insert_has name xs key)

-- what the set finds by order is found by bytes
pub contains_has : (key : Key) (keys : List Key) → list_any (is_at (key_cmp key)) keys ≡ has_key key.now keys
contains_has key [] = refl
contains_has key (x ∷ xs) =
    ap (λ (b : Bool). b || list_any (is_at (key_cmp key)) xs) (is_eq-slice_cmp key.now x.now) ∙ ap (λ (b : Bool). bytes_eq key.now x.now || b) (contains_has key xs)

any_append : (name : List ℕ) (subs : List Sub) (sub : Sub) → has_name name (subs ++ sub ∷ []) ≡ (has_name name subs || bytes_eq name sub.name)
any_append name [] sub = sym (or_false (bytes_eq name sub.name))
any_append name (x ∷ xs) sub = ap (λ (b : Bool). bytes_eq name x.name || b) (any_append name xs sub) ∙ or_assoc (bytes_eq name x.name) (has_name name xs) (bytes_eq name sub.name)

or_true : (a b : Bool) → a ≡ true → a ≡ (a || b)
or_true true b is = refl
or_true false b is = cc

or_later : (a b : Bool) → (b ≡ true → a ≡ true) → a ≡ (a || b)
or_later true b h = refl
or_later false true h = h refl
or_later false false h = refl

keeps_names : (name : List ℕ) (subs : List Sub) (sub : Sub) (known : Bool) → has_name sub.name subs ≡ known
    → has_name name (cond known subs (subs ++ sub ∷ [])) ≡ (has_name name subs || bytes_eq name sub.name)
keeps_names name subs sub false is = any_append name subs sub
keeps_names name subs sub true is =
    or_later (has_name name subs) (bytes_eq name sub.name) (λ same. ap (λ (n : List ℕ). has_name n subs) (same_text name sub.name same) ∙ is)

pub are_names_more : (subs : List Sub) (sub : Sub) (keys now : List Key) → AreNamesOf subs keys → HasKeys keys sub.name now → AreNamesOf (with_sub subs sub) now
are_names_more subs sub keys now names has name =
    has name ∙ ap (λ (b : Bool). b || bytes_eq name sub.name) (names name) ∙ sym (keeps_names name subs sub (has_name sub.name subs) refl)

pub added_is : (subs : List Sub) (sub : Sub) (is_new : Bool) (now : List Sub) (keys : List Key) → AreNamesOf subs keys → is_new ≡ not (has_key sub.name keys)
    → now ≡ cond is_new (subs ++ sub ∷ []) subs → now ≡ with_sub subs sub
added_is subs sub is_new now keys names new is =
    is ∙ ap (λ (b : Bool). cond b (subs ++ sub ∷ []) subs) (new ∙ ap not (names sub.name)) ∙ flip (has_name sub.name subs)
  where
    flip : (b : Bool) → cond (not b) (subs ++ sub ∷ []) subs ≡ cond b subs (subs ++ sub ∷ [])
    flip true = refl
    flip false = refl

module _ (subs now : List Sub) (sub want : Sub) (is_new : Bool) (keys after : List Key) (names : AreNamesOf subs keys) (same : sub ≡ want)
    (new : is_new ≡ not (has_key want.name keys)) (is : now ≡ cond is_new (subs ++ sub ∷ []) subs) where
  pub joined_is : now ≡ with_sub subs want
  joined_is = added_is subs want is_new now keys names new (is ∙ ap (λ (s : Sub). cond is_new (subs ++ s ∷ []) subs) same)

  pub joined_names : HasKeys keys want.name after → AreNamesOf now after
  joined_names has name = are_names_more subs want keys after names has name ∙ ap (has_name name) (sym joined_is)
