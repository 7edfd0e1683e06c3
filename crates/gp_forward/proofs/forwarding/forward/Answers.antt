use Rattle.std.proofs.Common.{ℕ, List, ◌++◌, ap, ◌∙◌, codes, option_map, arith}
use Rattle.httparse.specs.Ascii.{crlf_bytes}
use Rattle.gp_plain.specs.declared.item.Field.{Field}
use Rattle.gp_head.specs.Texts.{fields_text}
use Rattle.gp_head.specs.Writable.{with_slash}
use Rattle.gp_forward.specs.Forwards.{bytes_or, forwarded_fields}
use Rattle.gp_forward.proofs.Alone.{is_forwarded}
use Rattle.gp_forward.proofs.forwarding.forward.Goals as goal

pub returns : goal.returns
returns c =
    let request = c.args.request.now in
    let body = option_map (λ b. b.now) c.args.body in
    let sig = option_map (λ s. s.now) c.args.sig in
    let line = λ (m p : List ℕ). m ++ codes " " ++ with_slash p ++ codes " HTTP/1.1" ++ crlf_bytes in
    let fields = λ (fs : List Field). fields_text (forwarded_fields fs body c.args.address.now sig c.args.lasts.now) in
    is_forwarded c.head_law.ensures request c.in_ok-path.path c.in_ok-path.ensures.0 body c.args.address.now sig c.args.lasts.now _
    c.requires c.in_ok-path.ensures.1 (omega (arith, c.is_port.ensures)) c.has_length.ensures
    (c.from_vec.ensures ∙ c.in_ok-write_body.ensures
    ∙ ap (λ x. x ++ bytes_or body) (c.in_ok-write_fields.ensures
    ∙ ap (λ x. x ++ fields c.as_slice-fields.result.now) (c.in_ok-write_line.ensures
    ∙ ap (λ x. x ++ line c.bytes.result.now c.bytes-2.result.now) c.new-text.ensures.items
    ∙ ap (λ m. line m c.bytes-2.result.now) c.bytes.ensures
    ∙ ap (λ p. line request.method p) c.bytes-2.ensures)
    ∙ ap (λ fs. line request.method c.in_ok-path.path ++ fields fs) c.as_slice-fields.ensures))
