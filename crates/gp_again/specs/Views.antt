-- What contracts see of how a stream asks for what it missed.
use Rattle.std.specs.Prelude.{ℕ, List}
use Rattle.gp_plain.specs.declared.item.Field.{Field}
use Rattle.gp_plain.specs.declared.http.Address.{Address}
use Rattle.gp_plain.specs.declared.http.Request.{Request}
use Rattle.gp_head.specs.Writable.{IsFieldValue}
use Rattle.gp_instruct.specs.Targets.{IsTarget}
use Rattle.gp_forward.specs.Conditions.{CanAsk}

-- the client's version and fields, where the origin listens, the channel, and the link last seen
pub record AgainView : Type 0 where
  pub version : ℕ
  pub fields : List Field
  pub address : Address
  pub channel : List ℕ
  pub link : List ℕ

-- what a request is made of can be asked
pub record CanAskAgain (request : Request) (to : Address) (uri : List ℕ) : Type 0 where
  pub head : CanAsk request
  pub host : IsFieldValue to.host
  pub link : IsTarget uri
