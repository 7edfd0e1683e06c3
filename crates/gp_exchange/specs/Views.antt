-- What contracts see of an exchange.
use Rattle.std.specs.Prelude.{ℕ, List}
use Rattle.gp_plain.specs.declared.http.Address.{Address}
use Rattle.gp_exchange.specs.declared.place.Place.{Place}

-- where the talk goes, the bytes that are sent, the method of the request, and the most bytes of content
pub record AskedView : Type 0 where
  pub to : Address
  pub request : List ℕ
  pub method : List ℕ
  pub limit : ℕ

-- what is asked, and what the exchange waits for
pub record ExchangeView : Type 0 where
  pub asked : AskedView
  pub place : Place
