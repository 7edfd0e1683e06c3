use Rattle.std.proofs.Common.{take, get_or, [], ◌∷◌}
use Rattle.std.proofs.lemmas.List.{take_more}
use Rattle.gp_reads.proofs.heads.answered_at.Goals as goal

pub read_request-requires : goal.read_request-requires
read_request-requires c = record {
  front = take c.loop-place.place c.args.bytes.now;
  more = get_or c.args.bytes.now c.loop-place.place 0 ∷ [];
  bytes_are = take_more c.args.bytes.now c.loop-place.place 0 c.loop-place-test.true;
  scan = c.loop-place.invariant;
}
