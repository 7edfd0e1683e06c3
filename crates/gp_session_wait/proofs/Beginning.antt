-- How the hold of a long poll is attached.
use Rattle.std.proofs.Common.{◌≡◌, ℕ, ◌≤◌, Bool, List, [], ◌∷◌, refl, sym, ap, ◌∙◌, subst, arith, Option, Some, None, is_some}
use Rattle.gp_plain.specs.declared.event.HoldSpec.{HoldSpec}
use Rattle.gp_plain.specs.declared.event.HoldSpec.TheVariants.{Response}
use Rattle.gp_instruct.specs.declared.instruct.Instruct.{Instruct}
use Rattle.gp_instruct.specs.declared.instruct.Sub.{Sub}
use Rattle.gp_instruct.specs.declared.instruct.Mode.{Mode}
use Rattle.gp_instruct.specs.declared.instruct.Mode.TheVariants.{Response as Poll}
use Rattle.gp_instruct.specs.Spec.{names_of, only_prev, deadline, held_by, spec, IsCounted, SpecLaw}
use Rattle.gp_session.specs.Seats.{SeatView}
use Rattle.gp_session_hold.specs.Rows.{KeptView}
use Rattle.gp_session_hold.specs.Opens.{IsOpened}
use Rattle.gp_session_wait.specs.Views.{OpeningView}
use Rattle.gp_session_wait.specs.Waits.{channel_of, is_again, most_repeats}
use Rattle.gp_session_wait.specs.Openings.{spec_at, CanOpen, OpensFor, IsBegun}
use Rattle.gp_session_wait.specs.declared.answer.Answer.{Answer}

has_by : (channel : List ℕ) (prev : Option (List ℕ)) → is_some (channel_of (channel ∷ []) prev) ≡ is_some prev
has_by channel None = refl
has_by channel (Some prev) = refl

-- a hold with a previous id has one channel
has_channel : (subs : List Sub) → is_some (channel_of (names_of subs) (only_prev subs)) ≡ is_some (only_prev subs)
has_channel [] = refl
has_channel (sub ∷ []) = has_by sub.name sub.prev
has_channel (sub ∷ other ∷ more) = refl

some_same : {x y : HoldSpec} → Some x ≡ Some y → x ≡ y
some_same e = cc

channels_same : {a b : List (List ℕ)} {p q : Option (List ℕ)} {d e : ℕ} {m n : Bool} → Response a p d m ≡ Response b q e n → a ≡ b
channels_same e = cc

prev_same : {a b : List (List ℕ)} {p q : Option (List ℕ)} {d e : ℕ} {m n : Bool} → Response a p d m ≡ Response b q e n → p ≡ q
prev_same e = cc

module _ (instruct : Instruct) (own : Answer) (repeats : ℕ) (mode : instruct.mode ≡ Some Poll) (counted : IsCounted instruct) (few : repeats ≤ most_repeats) where
  -- what the instruction asks for
  asks : (now : ℕ) → spec instruct [] now (is_again repeats) ≡ Some (Response (names_of instruct.subs) (only_prev instruct.subs) (deadline now instruct.timeout) (is_again repeats))
  asks now = ap (λ (m : Option Mode). held_by m instruct [] now (is_again repeats)) mode

  pub is_response : (held : HoldSpec) → Some held ≡ spec instruct [] 0 (is_again repeats) → held ≡ Response (names_of instruct.subs) (only_prev instruct.subs) (deadline 0 instruct.timeout) (is_again repeats)
  is_response held e = some_same (e ∙ asks 0)

  pub opens : (law : SpecLaw) (held : HoldSpec) (o : OpeningView) (d : ℕ) (again : Bool) → Some held ≡ spec instruct [] 0 (is_again repeats) → held ≡ Response o.channels o.prev d again
      → o.seconds ≡ instruct.timeout → o.own ≡ own → o.repeats ≡ repeats → o.channel ≡ channel_of o.channels o.prev → OpensFor instruct own repeats o
  opens law held o d again is same seconds own_is repeats_is channel_is =
      let both : Response (names_of instruct.subs) (only_prev instruct.subs) (deadline 0 instruct.timeout) (is_again repeats) ≡ Response o.channels o.prev d again = sym (is_response held is) ∙ same in
      let channels : names_of instruct.subs ≡ o.channels = channels_same both in
      let prev : only_prev instruct.subs ≡ o.prev = prev_same both in
      let at : (now : ℕ) → spec instruct [] now (is_again repeats) ≡ Some (spec_at o now) = λ now.
      asks now
      ∙ ap (λ (c : List (List ℕ)). Some (Response c (only_prev instruct.subs) (deadline now instruct.timeout) (is_again repeats))) channels
      ∙ ap (λ (p : Option (List ℕ)). Some (Response o.channels p (deadline now instruct.timeout) (is_again repeats))) prev
      ∙ ap (λ (n : ℕ). Some (Response o.channels o.prev (deadline now n) (is_again repeats))) (sym seconds)
      ∙ ap (λ (n : ℕ). Some (Response o.channels o.prev (deadline now o.seconds) (is_again n))) (sym repeats_is) in
      record {
        specs = at;
        own_is = own_is;
        repeats_is = repeats_is;
        can = record {
          fit = law instruct [] 0 (is_again repeats) (spec_at o 0) counted (omega arith) (at 0);
          channel_is = channel_is;
          has = ap is_some channel_is ∙ ap (λ (c : List (List ℕ)). is_some (channel_of c o.prev)) (sym channels) ∙ ap (λ (p : Option (List ℕ)). is_some (channel_of (names_of instruct.subs) p)) (sym prev)
              ∙ has_channel instruct.subs ∙ ap is_some prev;
          few = subst (λ (n : ℕ). n ≤ most_repeats) (sym repeats_is) few;
        };
      }

-- an Attach made a hold
pub begun : (o : OpeningView) (now room : ℕ) (s t : SeatView) (hold : KeptView) → CanOpen o → IsOpened s t (spec_at o now) room hold
    → IsBegun o now t (record { hold = hold; spec = spec_at o now; own = o.own; channel = o.channel; repeats = o.repeats })
begun o now room s t hold can is = record {
  spec_is = refl;
  own_is = refl;
  channel_is = refl;
  repeats_is = refl;
  waits = λ w sent. record {
    polls = record {
      share = _;
      is = is.is;
      spec_is = refl;
      response = record { channels = o.channels; prev = o.prev; deadline = deadline now o.seconds; again = is_again o.repeats; is = refl };
    };
    form = record { channels = o.channels; prev = o.prev; deadline = deadline now o.seconds; spec_is = refl; channel_is = can.channel_is; has = can.has; few = can.few };
    bytes = sent;
  };
}
