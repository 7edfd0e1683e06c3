use Rattle.std.proofs.Common.{string_bytes, ◌∷◌, ◌++◌, [], List, sym, ap, ◌∙◌, subst, append_assoc, arith, length-append, map}
use Rattle.gp_plain.specs.declared.event.Entry.{Entry}
use Rattle.gp_plain.specs.History.{held, reply}
use Rattle.gp_plain.specs.Standing.{StandsFor}
use Rattle.gp_script.specs.Texts.{reply_text}
use Rattle.gp_replay.specs.Logs.{log_of}
use Rattle.gp_replay.specs.Outputs.{replies_text}
use Rattle.gp_replay.specs.Scripts.{entries_of}
use Rattle.std.proofs.lemmas.Iterator.Adapters.{YieldsList-from_vec}
use Rattle.std.proofs.lemmas.Iterator.Consumers.{YieldsList-so_far, YieldsList-turn}
use Rattle.std.proofs.lemmas.List.{map-id}
use Rattle.gp_replay.proofs.Plays.{entries_of-push, replies_text-push, stands_part}
use Rattle.gp_replay.proofs.play.play_events.Goals as goal

pub loop-event-preserved : goal.loop-event-preserved
loop-event-preserved c =
    record {
      next = omega (arith, c.loop-event.invariant.next, c.play_one.ensures.number, length-append c.loop-event.yielded (c.in-Some.event ∷ []));
      stands = λ past at. subst (StandsFor c.play_one.new.registry) (entries_of-push past c.loop-event.yielded c.in-Some.event) (c.in_ok-play_one.ensures.stands (past ++ entries_of c.loop-event.yielded) (c.loop-event.invariant.stands past at));
      text = λ past at.
          c.in_ok-play_one.ensures.text (past ++ entries_of c.loop-event.yielded) (c.loop-event.invariant.stands past at)
          ∙ ap (λ t. t ++ reply_text (reply (past ++ entries_of c.loop-event.yielded) 0 c.in-Some.event)) (c.loop-event.invariant.text past at)
          ∙ append_assoc (string_bytes c.args.out.now) (replies_text past c.loop-event.yielded) (reply_text (reply (past ++ entries_of c.loop-event.yielded) 0 c.in-Some.event))
          ∙ ap (λ t. string_bytes c.args.out.now ++ t) (sym (replies_text-push past c.loop-event.yielded c.in-Some.event));
      logs = λ past at are.
          c.in_ok-play_one.ensures.logs (past ++ entries_of c.loop-event.yielded) (c.loop-event.invariant.stands past at) (c.loop-event.invariant.logs past at are)
          ∙ ap (λ (entries : List Entry). map log_of (held entries)) (entries_of-push past c.loop-event.yielded c.in-Some.event);
    }

pub returns-in_err-play_one-clause-part : goal.returns-in_err-play_one-clause-part
returns-in_err-play_one-clause-part c = λ past at.
    let made = c.into_iter-event-iterator.ensures.into_iter_gives in
    let list = YieldsList-from_vec {s = c.into_iter-event-iterator.result} c.args.events.items made.0 (made.1 ∙ c.args.events.ok.0) in
    let so_far = YieldsList-so_far list c.loop-event.yielded c.loop-event.event-iterator c.loop-event.yielded_by in
    let turn = YieldsList-turn list c.loop-event.yielded c.loop-event.event-iterator c.loop-event.yielded_by c.next.result c.next.new.self c.in-Some.event c.in-Some.is c.next.ensures.steps in
    stands_part past c.play_one.new.registry c.loop-event.yielded c.args.events.items c.in-Some.event (sym (map-id c.loop-event.yielded) ∙ so_far) turn
    (c.in_err-play_one.ensures.part (past ++ entries_of c.loop-event.yielded) (c.loop-event.invariant.stands past at))
