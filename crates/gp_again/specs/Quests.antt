-- How a stream asks for what it missed (RFC 9110, section 9.3.1; RFC 9112, section 3.2.1).
use Rattle.std.specs.Prelude.{◌≡◌, ℕ, List, [], ◌∷◌, codes, Option, None}
use Rattle.gp_plain.specs.declared.http.Request.{Request}
use Rattle.gp_plain.specs.declared.http.Signer.{Signer}
use Rattle.gp_head.specs.Targets.{IsSplit}
use Rattle.gp_head.specs.Writable.{with_slash}
use Rattle.gp_forward.specs.Alone.{IsForwarded}
use Rattle.gp_forward.specs.Conditions.{redirected}
use Rattle.gp_exchange.specs.declared.place.Place.TheVariants.{Unbegun}
use Rattle.gp_recover.specs.Views.{RecoveryView, IsLive, place_of}
use Rattle.gp_recover.specs.Moves.{IsKept}
use Rattle.gp_again.specs.Texts.{sig_at, last_text}
use Rattle.gp_again.specs.Views.{AgainView}

-- the request for a path and query, by GET, with the client's fields
abbrev pub asked_head : AgainView → List ℕ → Request
asked_head v path = record { method = codes "GET"; target = with_slash path; version = v.version; fields = v.fields }

-- a head was turned to the path and query of a link, by GET
pub record IsAimed (was : Request) (link : List ℕ) (is : Request) : Type 0 where
  pub path : List ℕ
  pub authority : Option (List ℕ)
  pub split : IsSplit link path authority
  pub head : is ≡ redirected (codes "GET") path was

-- what is asked of the origin behind an id at a moment: the path and query of the link, without a body, with the token of the
-- moment, and with the last item of the channel alone
pub record Asks (v : AgainView) (signer : Signer) (now : ℕ) (from request : List ℕ) : Type 0 where
  pub path : List ℕ
  pub authority : Option (List ℕ)
  pub split : IsSplit v.link path authority
  pub request_is : IsForwarded (asked_head v path) None v.address (sig_at signer now) (last_text v.channel from ∷ []) request

-- a recovery that asks this of the origin, and has asked nothing yet
pub record IsQuest (v : AgainView) (signer : Signer) (now : ℕ) (from : List ℕ) (r : RecoveryView) : Type 0 where
  pub to : r.sought.to ≡ v.address
  pub channel : r.sought.channel ≡ v.channel
  pub from_is : r.sought.from ≡ from
  pub request : Asks v signer now from r.sought.request
  pub live : IsLive r.stage
  pub kept : IsKept r.sought r.stage
  pub unbegun : place_of r ≡ Unbegun r.sought.request
