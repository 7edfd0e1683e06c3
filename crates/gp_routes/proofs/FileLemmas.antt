-- What the lines that were read so far say.
use Rattle.std.proofs.Common.{◌≡◌, ℕ, ◌+◌, min, List, [], ◌∷◌, ◌++◌, length, Option, Result, Ok, Err, refl, sym, ap, ◌∙◌, subst, arith, append_assoc, append-nil, length-append}
use Rattle.std.specs.Prelude.{All, IsOk}
use Rattle.std.specs.List.{flat_map}
use Rattle.std.specs.Str.Lines.{lines}
use Rattle.std.proofs.lemmas.List.{nil_from_length}
use Rattle.std.proofs.lemmas.List.Elements.{All-nil, All-push}
use Rattle.std.proofs.lemmas.List.Concat.{flat_map-append}
use Rattle.gp_routes.specs.declared.route.Rule.{Rule}
use Rattle.gp_routes.specs.declared.route.RouteKind.{RouteKind}
use Rattle.gp_routes.specs.Files.{line_read, IsGoodLine, rules_read, rules_in, AreRulesOf, IsFirstFault}

-- the lines before the rest have no fault, and these are their rules; the next line has this number
pub record ReadSoFar (bytes rest : List ℕ) (rules : List Rule) (number : ℕ) : Type 0 where
  pub before : List (List ℕ)
  pub lines_are : lines bytes ≡ before ++ lines rest
  pub good : All IsGoodLine before
  pub rules_are : rules ≡ flat_map rules_in before
  pub number_is : number ≡ min (length before + 1) 4294967295

pub read_none : (bytes : List ℕ) → ReadSoFar bytes bytes [] 1
read_none bytes = record { before = []; lines_are = refl; good = All-nil IsGoodLine; rules_are = refl; number_is = refl }

good_line : (line : List ℕ) (rule : Option Rule) → line_read line ≡ Ok rule → IsGoodLine line
good_line line rule read = subst (λ (r : Result (Option Rule) RouteKind). IsOk r) (sym read) refl

pub read_more : (bytes rest after line : List ℕ) (rules : List Rule) (number : ℕ) (rule : Option Rule) (more : List Rule) (next : ℕ) → ReadSoFar bytes rest rules number
    → lines rest ≡ line ∷ lines after → line_read line ≡ Ok rule → more ≡ rules ++ rules_read (Ok rule) → next ≡ min (number + 1) 4294967295
    → ReadSoFar bytes after more next
read_more bytes rest after line rules number rule more next so_far cut read pushed counted = record {
  before = so_far.before ++ line ∷ [];
  lines_are = so_far.lines_are ∙ ap (λ (ls : List (List ℕ)). so_far.before ++ ls) cut ∙ sym (append_assoc so_far.before (line ∷ []) (lines after));
  good = All-push IsGoodLine so_far.before line so_far.good (good_line line rule read);
  rules_are =
      pushed ∙ ap (λ (rs : List Rule). rs ++ rules_read (Ok rule)) so_far.rules_are
      ∙ ap (λ (r : Result (Option Rule) RouteKind). flat_map rules_in so_far.before ++ rules_read r) (sym read)
      ∙ ap (λ (rs : List Rule). flat_map rules_in so_far.before ++ rs) (sym (append-nil (rules_in line)))
      ∙ sym (flat_map-append rules_in so_far.before (line ∷ []));
  number_is = omega (arith, counted, so_far.number_is, length-append so_far.before (line ∷ []));
}

pub first_fault : (bytes rest after line : List ℕ) (rules : List Rule) (number : ℕ) (kind : RouteKind) → ReadSoFar bytes rest rules number
    → lines rest ≡ line ∷ lines after → line_read line ≡ Err kind → IsFirstFault bytes number kind
first_fault bytes rest after line rules number kind so_far cut read = record {
  before = so_far.before;
  line = line;
  behind = lines after;
  lines_are = so_far.lines_are ∙ ap (λ (ls : List (List ℕ)). so_far.before ++ ls) cut;
  good = so_far.good;
  fault = read;
  number_is = so_far.number_is;
}

pub read_all : (bytes rest : List ℕ) (rules : List Rule) (number : ℕ) → ReadSoFar bytes rest rules number → length rest ≡ 0 → AreRulesOf bytes rules
read_all bytes rest rules number so_far none =
    let empty : rest ≡ [] = nil_from_length rest none in
    let all : lines bytes ≡ so_far.before = so_far.lines_are ∙ ap (λ (t : List ℕ). so_far.before ++ lines t) empty ∙ append-nil so_far.before in record {
      good = subst (All IsGoodLine) (sym all) so_far.good;
      rules_are = so_far.rules_are ∙ ap (flat_map rules_in) (sym all);
    }
