use Rattle.std.proofs.Common.{◌++◌, map, ap, ◌∙◌, option_map, append_assoc}
use Rattle.std.specs.List.{flat_map}
use Rattle.httparse.specs.Ascii.{crlf_bytes}
use Rattle.gp_head.specs.Texts.{field_text}
use Rattle.gp_text.specs.Hops.{going_on}
use Rattle.gp_forward.specs.Forwards.{close, host_fields, last_field, length_fields, sig_fields, forwarded_fields}
use Rattle.gp_forward.proofs.Kept.{fields_written}
use Rattle.gp_forward.proofs.write.write_fields.Goals as goal

pub returns : goal.returns
returns c =
    let f = flat_map field_text in
    let kept = going_on c.args.fields.now in
    let body = option_map (λ b. b.now) c.args.body in
    let sig = option_map (λ s. s.now) c.args.sig in
    c.in_ok-extend_from_slice.ensures.items
    ∙ ap (λ x. x ++ crlf_bytes) (
    c.in_ok-write_lasts.ensures ∙ ap (λ x. x ++ f (map last_field c.args.lasts.now)) (
    c.in_ok-write_sig.ensures ∙ ap (λ x. x ++ f (sig_fields sig)) (
    c.in_ok-write_value.ensures ∙ ap (λ x. x ++ field_text close) (
    c.in_ok-write_length.ensures ∙ ap (λ x. x ++ f (length_fields body)) (
    c.in_ok-write_host.ensures ∙ ap (λ x. x ++ f (host_fields kept c.args.address.now)) c.in_ok-write_kept.ensures))))
    ∙ fields_written c.args.text.now.items kept (host_fields kept c.args.address.now) (length_fields body) close (sig_fields sig) (map last_field c.args.lasts.now))
    ∙ append_assoc c.args.text.now.items (f (forwarded_fields c.args.fields.now body c.args.address.now sig c.args.lasts.now)) crlf_bytes
