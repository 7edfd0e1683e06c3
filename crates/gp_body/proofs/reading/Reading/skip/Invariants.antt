use Rattle.std.proofs.Common.{◌≡◌, ℕ, ◌<◌, [], take, None, true}
use Rattle.gp_body.specs.Steps.{is_framing}
use Rattle.gp_body.specs.Readings.{after_all, content_from, IsSound}
use Rattle.gp_body.proofs.reading.Reading.skip.Given as goal

abbrev pub invariant-loop-taken : goal.invariant-loop-taken
invariant-loop-taken l = record {
  reading : l.self ≡ after_all (take l.taken l.bytes) l.initial.self;
  no_content : content_from (take l.taken l.bytes) l.initial.self ≡ [];
  goes_on : l.self.refused ≡ None;
  waits : (k : ℕ) → k < l.taken → is_framing (after_all (take k l.bytes) l.initial.self).state ≡ true;
  sound : IsSound l.self;
}
