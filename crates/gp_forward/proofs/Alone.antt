-- What is written is read as the one request that it is.
use Rattle.std.proofs.Common.{◌≡◌, ℕ, ◌^◌, ◌<◌, List, length, drop, Option, refl, sym, ap, ◌∙◌, subst}
use Rattle.std.specs.Option.{IfSome}
use Rattle.std.proofs.Math.Seq.{drop-append_seam}
use Rattle.gp_plain.specs.declared.http.Address.{Address}
use Rattle.gp_plain.specs.declared.http.Request.{Request}
use Rattle.gp_head.specs.declared.read.HeadRead.TheVariants.{Whole}
use Rattle.gp_head.specs.Heads.{IsRead, IsRequestText}
use Rattle.gp_head.specs.Targets.{IsSplit}
use Rattle.gp_head.specs.Texts.{request_text}
use Rattle.gp_head.specs.Writable.{HeadLaw}
use Rattle.gp_forward.specs.Forwards.{bytes_or, forwarded, forwarded_head, IsForwardable}
use Rattle.gp_forward.specs.Alone.{IsForwarded}
use Rattle.gp_forward.proofs.Planning.{is_planned}
use Rattle.gp_forward.proofs.Values.{is_writable}

pub is_forwarded : HeadLaw → (request : Request) (path : List ℕ) (authority : Option (List ℕ)) (body : Option (List ℕ)) (address : Address) (sig : Option (List ℕ)) (lasts : List (List ℕ)) (text : List ℕ)
    → IsForwardable request address sig lasts → IsSplit request.target path authority → address.port < 2 ^ 64 → IfSome body (λ b. length b < 2 ^ 64)
    → text ≡ forwarded request path body address sig lasts → IsForwarded request body address sig lasts text
is_forwarded law request path authority body address sig lasts text can split port few whole =
    let head = forwarded_head request path body address sig lasts in
    let stands = is_writable law request path authority body address sig lasts can split port few in
    record {
      path = path;
      authority = authority;
      split = split;
      whole = whole;
      alone = record {
        read = λ count size. subst (λ (t : List ℕ). IsRead IsRequestText t (Whole head (length (request_text head)))) (sym whole) (law.request_back head stands refl count size (bytes_or body));
        planned = is_planned request path body address sig lasts;
        rest = ap (drop (length (request_text head))) whole ∙ drop-append_seam (request_text head) (bytes_or body);
      };
    }
