use Rattle.std.proofs.Common.{length, codes, ◌∙◌}
use Rattle.std.specs.Fmt.{decimal}
use Rattle.gp_forward.specs.Forwards.{field}
use Rattle.gp_forward.proofs.Kept.{one_field}
use Rattle.gp_forward.proofs.write.write_length.Goals as goal

pub returns-in_ok-write_number-in-Some : goal.returns-in_ok-write_number-in-Some
returns-in_ok-write_number-in-Some c = rw c.in-Some.is (
    c.in_ok-write_number-in-Some.ensures
    ∙ one_field c.args.text.now.items (field (codes "content-length") (decimal (length c.in-Some.bytes.now))))
