use Rattle.http_uri.specs.Uri.{uri_authority, uri_data, uri_scheme}
use Rattle.gp_instruct.proofs.TargetLemmas.{no_target_no_scheme, scheme_decides}
use Rattle.gp_instruct.proofs.target.is_target_form.Goals as goal

pub returns-in-Some-authority : goal.returns-in-Some-authority
returns-in-Some-authority c =
    let u = c.args.uri.now in
    no_target_no_scheme c.args.text.now c.in-Some-authority.field-0.now (uri_scheme u) (uri_authority u) (uri_data u) c.requires c.in_default.ensures.value c.in-Some-authority.ensures

pub returns : goal.returns
returns c =
    let u = c.args.uri.now in
    scheme_decides c.args.text.now c.in-Some.scheme.now (uri_scheme u) (uri_authority u) (uri_data u) c.is_empty.result c.requires c.in-Some.ensures.value c.is_empty.ensures
