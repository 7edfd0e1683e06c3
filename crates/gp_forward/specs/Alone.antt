-- What is forwarded is one request and nothing else (RFC 9112, sections 6.3 and 11.2).
use Rattle.std.specs.Prelude.{◌≡◌, ℕ, ◌<◌, ◌≤◌, ◌^◌, List, length, drop, Option, Some, None, Ok}
use Rattle.gp_plain.specs.declared.http.Address.{Address}
use Rattle.gp_plain.specs.declared.http.Request.{Request}
use Rattle.gp_body.specs.declared.plan.BodyPlan.TheVariants.{None as NoBody, Length}
use Rattle.gp_body.specs.Plans.{plan_of_request}
use Rattle.gp_head.specs.declared.scan.TheConstants.{MAX_HEAD, MAX_FIELDS}
use Rattle.gp_head.specs.declared.read.HeadRead.TheVariants.{Whole}
use Rattle.gp_head.specs.Heads.{IsRead, IsRequestText}
use Rattle.gp_head.specs.Targets.{IsSplit}
use Rattle.gp_head.specs.Texts.{request_text}
use Rattle.gp_forward.specs.Forwards.{bytes_or, forwarded, forwarded_head}

-- the body is planned as the head says it: by its length, of at most 18 digits, or as none
abbrev pub IsPlanned : Request → Option (List ℕ) → Type 0
IsPlanned head None = plan_of_request head ≡ Ok NoBody
IsPlanned head (Some body) = length body < 10 ^ 18 → plan_of_request head ≡ Ok (Length (length body))

-- a text that has a head within the limits is read as that head, whose plan is that of the body, which is all that
-- follows
pub record IsAlone (head : Request) (body : Option (List ℕ)) (text : List ℕ) : Type 0 where
  pub read : length head.fields ≤ MAX_FIELDS → length (request_text head) ≤ MAX_HEAD → IsRead IsRequestText text (Whole head (length (request_text head)))
  pub planned : IsPlanned head body
  pub rest : drop (length (request_text head)) text ≡ bytes_or body

-- the text is what is forwarded of the request, for the path and query of its target, and is that alone
pub record IsForwarded (request : Request) (body : Option (List ℕ)) (address : Address) (sig : Option (List ℕ)) (lasts : List (List ℕ)) (text : List ℕ) : Type 0 where
  pub path : List ℕ
  pub authority : Option (List ℕ)
  pub split : IsSplit request.target path authority
  pub whole : text ≡ forwarded request path body address sig lasts
  pub alone : IsAlone (forwarded_head request path body address sig lasts) body text
