-- What meets the condition of a request that is forwarded.
use Rattle.std.specs.Prelude.{ℕ, ◌≡◌, ◌<◌, ◌^◌, Bool, true, List, [], ◌∷◌, ◌++◌, filter, codes, Option}
use Rattle.httparse.specs.Grammar.{IsToken}
use Rattle.gp_plain.specs.Names.{IsName}
use Rattle.gp_plain.specs.declared.item.Field.{Field}
use Rattle.gp_plain.specs.declared.http.Request.{Request}
use Rattle.gp_head.specs.declared.read.HeadRead.TheVariants.{Whole}
use Rattle.gp_head.specs.Heads.{IsRead, IsRequestText}
use Rattle.gp_head.specs.Targets.{IsSplit}
use Rattle.gp_head.specs.Writable.{AreWritable, IsFieldValue, IsWritableRequest, with_slash}
use Rattle.gp_instruct.specs.Targets.{IsTarget}
use Rattle.gp_routes.specs.Parts.{is_host}
use Rattle.gp_sig.specs.Tokens.{IsPlain, token_of}
use Rattle.gp_forward.specs.Forwards.{field}

-- the request's own part of the condition
pub record CanAsk (request : Request) : Type 0 where
  pub asks : IsWritableRequest request
  pub target : (path : List ℕ) × (authority : Option (List ℕ)) × IsSplit request.target path authority

-- the fields that a request adds by which events of a WebSocket are posted
abbrev pub post_fields : List ℕ → List Field
post_fields tag = field (codes "content-type") (codes "application/websocket-events") ∷ field (codes "accept") (codes "application/websocket-events")
    ∷ field (codes "sec-websocket-extensions") (codes "grip") ∷ field (codes "connection-id") tag ∷ []

-- the request with another method, without some of its fields, and with others behind them
abbrev pub changed : List ℕ → (Field → Bool) → List Field → Request → Request
changed method keep more request = record { method = method; target = request.target; version = request.version; fields = filter keep request.fields ++ more }

-- the request with another method, and this path and query
abbrev pub redirected : List ℕ → List ℕ → Request → Request
redirected method path request = record { method = method; target = with_slash path; version = request.version; fields = request.fields }

-- of every request and every value
pub record ForwardLaw : Type 0 where
  -- a head that was read, and whose target was split
  pub read : (bytes : List ℕ) (head : Request) (n : ℕ) (path : List ℕ) (authority : Option (List ℕ)) → IsRead IsRequestText bytes (Whole head n) → IsSplit head.target path authority → CanAsk head
  -- such a request with another method, without some of its fields and with others
  pub changes : (head : Request) (method : List ℕ) (keep : Field → Bool) (more : List Field) → CanAsk head → IsToken method → AreWritable more → CanAsk (changed method keep more head)
  -- such a request with the path and query of a link as its target, and `/` where the path is empty
  pub linked : (head : Request) (method link path : List ℕ) (authority : Option (List ℕ)) → CanAsk head → IsToken method → IsSplit link path authority → CanAsk (redirected method path head)
  -- the link that a field gave is split
  pub link : (uri : List ℕ) → IsTarget uri → (path : List ℕ) × (authority : Option (List ℕ)) × IsSplit uri path authority
  -- the methods that a proxy with holds makes requests with
  pub methods : IsToken (codes "GET") × IsToken (codes "POST")
  -- the fields that posts of events add
  pub posts : (tag : List ℕ) → IsFieldValue tag → AreWritable (post_fields tag)
  -- the host of a route's address
  pub host : (host : List ℕ) → is_host host ≡ true → IsFieldValue host
  -- a token
  pub token : (key iss : List ℕ) (exp : ℕ) → IsPlain iss → exp < 2 ^ 64 → IsFieldValue (token_of key iss exp)
  -- the last item of a channel
  pub last : (channel id : List ℕ) → IsName channel → IsName id → IsFieldValue (channel ++ codes "; last-id=" ++ id)
