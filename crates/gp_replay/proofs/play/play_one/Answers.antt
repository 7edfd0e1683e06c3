use Rattle.std.proofs.Common.{string_bytes, ◌∙◌, ◌++◌, ap, inr}
use Rattle.std.proofs.lemmas.Result.{on_ok_weaker}
use Rattle.gp_plain.specs.declared.reply.Reply.{Reply}
use Rattle.gp_script.specs.Texts.{reply_text}
use Rattle.gp_replay.proofs.Lists.{on_ok_given}
use Rattle.gp_replay.proofs.Plays.{logs_after}
use Rattle.gp_replay.proofs.play.play_one.Goals as goal

pub returns-clause-logs : goal.returns-clause-logs
returns-clause-logs c = λ past at are.
    on_ok_weaker c.note.result (λ now. logs_after c.told_law.ensures past c.args.event c.args.logs.now.items c.note.new.logs.items c.in_ok-noted.noted c.in-Ok.reply are (c.in_ok-noted.ensures past at) (c.in-Ok.ensures.reply past at).0 now) c.note.ensures

pub returns-clause-text : goal.returns-clause-text
returns-clause-text c = λ past at.
    on_ok_given c.note.result (c.in_ok-add_reply.ensures.ok ∙ ap (λ (r : Reply). string_bytes c.args.out.now ++ reply_text r) (c.in-Ok.ensures.reply past at).0)

pub returns-clause-stands : goal.returns-clause-stands
returns-clause-stands c = λ past at. on_ok_given c.note.result (c.in-Ok.ensures.reply past at).1

pub returns-clause-part : goal.returns-clause-part
returns-clause-part c = λ past at. inr (c.in-Ok.ensures.reply past at).1
