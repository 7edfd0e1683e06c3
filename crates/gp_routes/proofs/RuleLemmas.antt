-- What is read of a line is a rule.
use Rattle.std.proofs.Common.{◌≡◌, ℕ, ◌+◌, ◌*◌, ◌≤◌, Bool, true, false, not, cond, eqb, leb, ◌&&◌, ◌||◌, List, [], ◌∷◌, length, get_or, take, drop, Option, Some, None, inl, inr, refl, sym, ap, ◌∙◌, subst, arith, get_or-take}
use Rattle.std.specs.Prelude.{All, codes, bytes_eq}
use Rattle.std.specs.Char.{digit_value, is_ascii_digit}
use Rattle.std.specs.List.{flat_map, list_all, starts_with, before_first, after_first}
use Rattle.std.specs.Str.Parse.{digits_value}
use Rattle.std.proofs.Math.Seq.{drop-nil}
use Rattle.std.proofs.lemmas.Bool.{and_parts, eqb-true, eqb-false, leb-true}
use Rattle.std.proofs.lemmas.Bool.Decides.{nat_tests}
use Rattle.std.proofs.lemmas.Slice.Eq.{bytes_eq-Decides}
use Rattle.std.proofs.lemmas.List.{get_or-drop, nil_from_length}
use Rattle.std.proofs.lemmas.List.Elements.{All-nil, All-cons, All-append}
use Rattle.gp_routes.specs.declared.route.Condition.{Condition as Requests}
use Rattle.gp_routes.specs.declared.route.Route.{Route}
use Rattle.gp_routes.specs.Parts.{is_comma, is_colon, has_none, is_host, is_any, condition_named, is_condition, condition_of, is_numeral, port_of, route_to, route_by, route_of}
use Rattle.gp_routes.specs.Words.{words}
use Rattle.gp_routes.specs.Files.{rule_of, words_read, rules_read, rules_in}
use Rattle.gp_routes.specs.Rules.{IsPathFront, IsHostOrAny, IsCondition, IsRoute, IsRule}
use Rattle.gp_routes.proofs.PartLemmas.{value_grows, digit_is}

-- which branch a value came from
some_of : {A : Type 0} (t : Bool) (x y : A) → cond t (Some x) None ≡ Some y → (t ≡ true) × (x ≡ y)
some_of true x y e = (refl, cc)
some_of false x y e = cc

either : (a b : Bool) → a || b ≡ true → a ≡ false → b ≡ true
either true b e other = cc
either false b e other = e

negated : (a : Bool) → not a ≡ true → a ≡ false
negated true e = cc
negated false e = refl

-- ---- conditions

-- what stands behind `,path_beg=` begins with `/`
slash_behind : (option : List ℕ) → starts_with eqb option (codes ",path_beg=/") ≡ true → get_or (drop 10 option) 0 0 ≡ 47
slash_behind option starts =
    let front : codes ",path_beg=/" ≡ take 11 option = (bytes_eq-Decides (codes ",path_beg=/") (take 11 option)).0 starts in
    get_or-drop 10 option 0 0 ∙ sym (get_or-take 11 option 10 0 (omega arith)) ∙ sym (ap (λ (t : List ℕ). get_or t 10 0) front)

path_front : (option : List ℕ) → has_none option || starts_with eqb option (codes ",path_beg=/") ≡ true → IsPathFront (drop 10 option)
path_front option is = by_length (has_none option) refl
  where
    by_length : (t : Bool) → has_none option ≡ t → IsPathFront (drop 10 option)
    by_length true e =
        let none : option ≡ [] = nil_from_length option (eqb-true (length option) 0 e) in
        inl (ap (drop 10) none ∙ drop-nil 10)
    by_length false e = inr (slash_behind option (either (has_none option) (starts_with eqb option (codes ",path_beg=/")) is e))

named_host : (name : List ℕ) → is_any name || is_host name ≡ true → IsHostOrAny (cond (is_any name) None (Some name))
named_host name is = by_any (is_any name) refl
  where
    by_any : (t : Bool) → is_any name ≡ t → IsHostOrAny (cond (is_any name) None (Some name))
    by_any true e = subst (λ (t : Bool). IsHostOrAny (cond t None (Some name))) (sym e) tt
    by_any false e = subst (λ (t : Bool). IsHostOrAny (cond t None (Some name))) (sym e) (either (is_any name) (is_host name) is e)

condition_is : (word : List ℕ) (condition : Requests) → condition_of word ≡ Some condition → IsCondition condition
unfolding condition_of
condition_is word condition e =
    let name = before_first is_comma word in
    let option = drop (length name) word in
    let at = some_of (is_condition name option) (condition_named name (drop 10 option)) condition e in
    let parts = and_parts (is_any name || is_host name) (has_none option || starts_with eqb option (codes ",path_beg=/")) at.0 in
    subst IsCondition at.1 (record { host = named_host name parts.0; path = path_front option parts.1 })

-- ---- targets

positive : (ds : List ℕ) → is_numeral ds ≡ true → 1 ≤ digits_value 10 ds
positive [] is = cc
positive (d ∷ ds) is =
    let rest = and_parts (not (has_none (d ∷ ds))) (not (eqb d 48) && list_all is_ascii_digit (d ∷ ds)) is in
    let first = and_parts (not (eqb d 48)) (list_all is_ascii_digit (d ∷ ds)) rest.1 in
    let digit = and_parts (is_ascii_digit d) (list_all is_ascii_digit ds) first.1 in
    let other : d ≡ 48 → ⊥ = eqb-false d 48 (negated (eqb d 48) first.0) in
    let low = digit_low d digit.0 in
    omega (arith, value_grows (0 * 10 + digit_value d) ds, digit_is d digit.0, other, low)
  where
    digit_low : (d : ℕ) → is_ascii_digit d ≡ true → 48 ≤ d
    digit_low d digit = grind (arith, nat_tests)

port_is : (ds : List ℕ) (port : ℕ) → port_of ds ≡ Some port → (1 ≤ port) × (port ≤ 65535)
unfolding port_of
port_is ds port e =
    let at = some_of (is_numeral ds && leb (digits_value 10 ds) 65535) (digits_value 10 ds) port e in
    let parts = and_parts (is_numeral ds) (leb (digits_value 10 ds) 65535) at.0 in
    let low = leb-true (digits_value 10 ds) 65535 parts.1 in
    (omega (arith, positive ds parts.0, at.1), omega (arith, low, at.1))

by_port : (host option : List ℕ) (port : Option ℕ) (route : Route) → is_host host ≡ true → ((n : ℕ) → port ≡ Some n → (1 ≤ n) × (n ≤ 65535)) → route_by host port option ≡ Some route → IsRoute route
by_port host option None route is low e = cc
by_port host option (Some n) route is low e =
    let at = some_of (has_none option || bytes_eq option (codes ",over_http")) (route_to host n (not (has_none option))) route e in
    let port = low n refl in
    subst IsRoute at.1 (record { host = is; port = port.0; low = port.1 })

route_is : (word : List ℕ) (route : Route) → route_of word ≡ Some route → IsRoute route
unfolding route_of
route_is word route e =
    let host = before_first is_colon word in
    let rest = after_first is_colon word in
    let digits = before_first is_comma rest in
    by_host (is_host host) refl e
  where
    by_host : (t : Bool) → is_host (before_first is_colon word) ≡ t
        → cond t (route_by (before_first is_colon word) (port_of (before_first is_comma (after_first is_colon word))) (drop (length (before_first is_comma (after_first is_colon word))) (after_first is_colon word))) None ≡ Some route → IsRoute route
    by_host true is e =
        by_port (before_first is_colon word) (drop (length (before_first is_comma (after_first is_colon word))) (after_first is_colon word)) (port_of (before_first is_comma (after_first is_colon word))) route is (port_is (before_first is_comma (after_first is_colon word))) e
    by_host false is e = cc

-- ---- lines

rule_is : (condition : Option Requests) (route : Option Route) (more : List (List ℕ)) → ((c : Requests) → condition ≡ Some c → IsCondition c) → ((r : Route) → route ≡ Some r → IsRoute r)
    → All IsRule (rules_read (rule_of condition route more))
rule_is None route more is_condition is_route = All-nil IsRule
rule_is (Some c) None more is_condition is_route = All-nil IsRule
rule_is (Some c) (Some r) [] is_condition is_route = All-cons IsRule (record { condition = c; route = r }) [] (record { condition = is_condition c refl; route = is_route r refl }) (All-nil IsRule)
rule_is (Some c) (Some r) (word ∷ more) is_condition is_route = All-nil IsRule

words_are : (ws : List (List ℕ)) → All IsRule (rules_read (words_read ws))
words_are [] = All-nil IsRule
words_are (condition ∷ []) = All-nil IsRule
words_are (condition ∷ target ∷ more) = rule_is (condition_of condition) (route_of target) more (condition_is condition) (route_is target)

pub are_rules : (lines : List (List ℕ)) → All IsRule (flat_map rules_in lines)
are_rules [] = All-nil IsRule
are_rules (line ∷ lines) = All-append IsRule (rules_in line) (flat_map rules_in lines) (words_are (words line)) (are_rules lines)
