-- What was taken of a hold that a chain covers is the beginning of its log.
use Rattle.std.proofs.Common.{sym, ◌∙◌}
use Rattle.std.proofs.lemmas.Grind.{flat_map-append}
use Rattle.gp_plain.specs.Pieces.{piece_bytes, text}
use Rattle.gp_plain.specs.Holds.{pending}
use Rattle.gp_plain.specs.Taken.{TakenLaw}
use Rattle.gp_plain.proofs.ChainLaw.{chain_law_holds}

pub taken_law_holds : TakenLaw
taken_law_holds = λ entries chain number h there c.
    let whole = chain_law_holds entries chain number h there c in
    record {
      between = whole.between;
      at = whole.at;
      rest = text (pending h);
      place = whole.place;
      bytes = sym (flat_map-append piece_bytes h.taken (pending h)) ∙ whole.bytes;
      closes_last = whole.closes_last;
    }
