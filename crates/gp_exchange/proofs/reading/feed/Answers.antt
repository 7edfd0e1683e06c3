use Rattle.gp_body.proofs.GatherLemmas.{reads_all}
use Rattle.gp_exchange.proofs.reading.feed.Goals as goal

pub returns-in-Ok : goal.returns-in-Ok
returns-in-Ok c =
    let all = reads_all c.args.reader.now c.feed_all.new.self c.args.bytes.now c.args.part.now.items c.feed_all.new.into.items c.in-Ok.field-0 c.in-Ok.ensures.fed in
    record { reading = all.reading; content = all.content }

pub returns-in-Err-Body : goal.returns-in-Err-Body
returns-in-Err-Body c =
    let all = rw c.in-Err-Body.field-0-is at c.in-Err-Body.ensures.fed in
    record { reading = all.reading; content = all.content }
