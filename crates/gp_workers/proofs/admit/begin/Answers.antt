use Rattle.std.proofs.Common.{rules, inl, inr}
use Rattle.gp_workers.specs.Makers.{numbers}
use Rattle.gp_workers.proofs.Joining.{rejoined}
use Rattle.gp_workers.proofs.admit.begin.Goals as goal

-- src/admit.rt:22:1
pub returns-in-Ok-made : goal.returns-in-Ok-made
returns-in-Ok-made g c = record {
  left = record { claimer = search rules; reports = search rules; spare = search rules; handed = search rules; clients = search rules; publishers = search rules; failed = search rules; full = search rules };
  made = inl (record {
    one = record { claim = c.args.claim; number = c.number-number.result; session = c.in-Ok-made.session };
    opens = record { runs = search rules; gives = search rules };
    claim_is = search rules;
    number = search rules;
    running = search rules;
    pass = search rules;
    memory = search rules;
  });
}

-- src/admit.rt:22:1
pub returns-in-Err : goal.returns-in-Err
returns-in-Err g c =
    let back = rejoined c.args.worker.now.pass c.split.new.from c.in-Err.pass c.join.new.into numbers (search rules) (search rules) (search rules) (search rules) c.join.ensures.goes_on c.join.ensures.gone in record {
      left = record { claimer = search rules; reports = search rules; spare = search rules; handed = search rules; clients = search rules; publishers = search rules; failed = search rules; full = search rules };
      made = inr (record {
        running = search rules;
        turn = search rules;
        number = search rules;
        parts = search rules;
        spare = search rules;
        enough = search rules;
        fewer = search rules;
        goes_on = back.0;
        ranges = back.1;
        past = back.2;
        memory = search rules;
      });
    }
