use Rattle.std.proofs.Common.{length, subst, sym, eqb-true, Some, Option, List, ℕ, ◌∙◌}
use Rattle.http_uri.specs.Grammar.{IsUriText}
use Rattle.http_uri.specs.Uri.{uri_authority, uri_data}
use Rattle.gp_head.proofs.TargetLemmas.{not_split_hidden, not_split_scheme}
use Rattle.gp_head.proofs.target.split_uri.Goals as goal

pub returns-in_default : goal.returns-in_default
returns-in_default c = not_split_hidden c.args.target.now _ _ _ c.requires c.in_default.ensures

pub returns-then-is_empty : goal.returns-then-is_empty
returns-then-is_empty c =
    let u = c.args.uri.now in
    let spelled : IsUriText c.args.target.now (Some c.in-Some-scheme_str.scheme.now) (uri_authority u) (uri_data u) =
    subst (λ (s : Option (List ℕ)). IsUriText c.args.target.now s (uri_authority u) (uri_data u)) (sym c.in-Some-scheme_str.ensures.value) c.requires in
    not_split_scheme c.args.target.now c.in-Some-scheme_str.scheme.now (uri_authority u) (uri_data u) spelled (eqb-true (length c.in-Some-scheme_str.scheme.now) 0 (sym c.is_empty.ensures ∙ c.if-is_empty.true))
