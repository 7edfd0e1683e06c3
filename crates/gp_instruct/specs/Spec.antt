-- What a request is held open for, by the instruction and the body of its answer.
use Rattle.std.specs.Prelude.{ℕ, ◌≡◌, ◌+◌, ◌≤◌, min, Bool, true, List, [], ◌∷◌, length, map, Option, Some, None, is_some, Ok}
use Rattle.gp_plain.specs.Fit.{fits}
use Rattle.gp_plain.specs.declared.event.Event.TheVariants.{Attach}
use Rattle.gp_plain.specs.declared.event.HoldSpec.{HoldSpec}
use Rattle.gp_plain.specs.declared.event.HoldSpec.TheVariants.{Stream, Plain, Response}
use Rattle.gp_instruct.specs.Channels.{firsts}
use Rattle.gp_instruct.specs.Holds.{count_read}
use Rattle.gp_instruct.specs.declared.instruct.Sub.{Sub}
use Rattle.gp_instruct.specs.declared.instruct.Mode.{Mode as Hold}
use Rattle.gp_instruct.specs.declared.instruct.Mode.TheVariants.{Response as Poll, Stream as Open}
use Rattle.gp_instruct.specs.declared.instruct.Instruct.{Instruct}

abbrev pub names_of : List Sub → List (List ℕ)
names_of subs = map (λ (sub : Sub). sub.name) subs

-- a stream is reliable where its channel, the only one, has a previous id
abbrev pub stream_spec : List ℕ → List Sub → Option (List ℕ) → Bool → HoldSpec
stream_spec opening subs None link = Plain opening (names_of subs)
stream_spec opening [] (Some prev) link = Plain opening []
stream_spec opening (sub ∷ more) (Some prev) link = Stream opening sub.name prev link

-- the previous id on the only channel
abbrev pub only_prev : List Sub → Option (List ℕ)
only_prev [] = None
only_prev (sub ∷ []) = sub.prev
only_prev (sub ∷ other ∷ more) = None

-- a response hold ends at most at the last second that 64 bits tell
abbrev pub deadline : ℕ → ℕ → ℕ
deadline now seconds = min (now + seconds) 18446744073709551615

abbrev pub held_by : Option Hold → Instruct → List ℕ → ℕ → Bool → Option HoldSpec
held_by None instruct body now again = None
held_by (Some Open) instruct body now again = Some (stream_spec body instruct.subs (only_prev instruct.subs) (is_some instruct.link))
held_by (Some Poll) instruct body now again =
    Some (Response (names_of instruct.subs) (only_prev instruct.subs) (deadline now instruct.timeout) again)

-- the hold that an instruction asks for, where it asks for one. The body opens a stream; `again` says that the request was
-- repeated
abbrev pub spec : Instruct → List ℕ → ℕ → Bool → Option HoldSpec
spec instruct body now again = held_by instruct.mode instruct body now again

-- the channels are those that were asked for, each name once, and as many as the hold may have. So it is with each instruction that
-- was read, from fields or from JSON
pub record IsCounted (instruct : Instruct) : Type 0 where
  pub asked : List Sub
  pub subs : instruct.subs ≡ firsts asked
  pub count : count_read instruct.mode instruct.subs ≡ Ok tt

-- what such an instruction asks for, with an opening that is short enough, may be attached
abbrev pub SpecLaw : Type 0
SpecLaw =
    (instruct : Instruct) (opening : List ℕ) (now : ℕ) (again : Bool) (held : HoldSpec) → IsCounted instruct → length opening ≤ 262144
    → spec instruct opening now again ≡ Some held → fits (Attach held) ≡ true
