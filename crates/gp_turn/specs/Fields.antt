-- What the fields of a pass mean.
use Rattle.std.specs.Prelude.{ℕ, ◌≡◌, ◌<◌, ◌≤◌, ◌^◌, ◌+◌, ◌-◌, false, [], ◌∷◌}
use Rattle.gp_turn.specs.declared.pass.Pass.TheInside.{Inside}
use Rattle.gp_turn.specs.Passes.{PassView, range, OfOthers}

module _ {V A R E : Type 0} where
  abbrev pub view_of : Inside V A R E → PassView E
  view_of p = record {
    turn = p.seat.table_id;
    seen = p.seat.me.0.seen;
    number = p.seat.me.0.number;
    spare = p.seat.me.0.spare;
    past = p.seat.me.0.past;
    parts = p.seat.me.0.parts;
    looks = p.seat.me.0.looks;
    found = p.seat.me.0.found;
    holds = p.seat.me.0.holds;
  }

  -- Between two calls a pass holds no turn and keeps nothing from a join. It has at least one number, and as many parts as numbers.
  -- Of its range only the first number, which is its own, has entries.
  pub record IsAtRest (number_of : E → ℕ) (p : Inside V A R E) : Type 0 where
    pub number : p.number ≡ p.seat.me.0.number
    pub spare : p.spare ≡ p.seat.me.0.spare
    pub parts : p.parts ≡ p.seat.me.0.parts
    pub rests : p.seat.me.0.holds ≡ false
    pub alone : p.seat.me.0.joining ≡ false
    pub out : p.seat.me.1 ≡ []
    pub some : 0 < p.seat.me.0.spare
    pub enough : p.seat.me.0.spare ≤ p.seat.me.0.parts
    pub most : p.seat.me.0.parts ≤ 2 ^ 63
    pub below : p.seat.me.0.number + p.seat.me.0.spare ≤ 2 ^ 63
    pub fresh : OfOthers number_of (range (p.seat.me.0.number + 1) (p.seat.me.0.spare - 1) ∷ []) p.seat.me.0.seen
