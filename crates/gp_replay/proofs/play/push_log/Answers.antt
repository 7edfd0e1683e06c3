use Rattle.std.proofs.Common.{string_bytes, ◌∙◌, ◌++◌, List, ap}
use Rattle.std.proofs.lemmas.Result.{on_ok_weaker}
use Rattle.gp_plain.specs.declared.reply.Piece.{Piece}
use Rattle.gp_plain.specs.History.{held, pending_at, cause_at}
use Rattle.gp_replay.specs.declared.log.Log.{Log}
use Rattle.gp_replay.specs.Logs.{whole_text, or_end}
use Rattle.gp_replay.proofs.Noting.{log_is}
use Rattle.gp_replay.proofs.play.push_log.Goals as goal

pub returns : goal.returns
returns c = λ past h at here is.
    let out = string_bytes c.args.out.now in
    let number = c.args.number in
    let holds = held past in
    on_ok_weaker c.push_whole.result
    (λ e.
    e
    ∙ ap (λ (ps : List Piece). out ++ whole_text number c.args.log.now ps c.end_of-ended.result) (c.in_ok-more.ensures past at)
    ∙ ap (λ end. out ++ whole_text number c.args.log.now (pending_at holds number) end) (c.end_of-ended.ensures past at)
    ∙ ap (λ (l : Log). out ++ whole_text number l (pending_at holds number) (or_end l.ended (cause_at holds number))) is
    ∙ ap (λ t. out ++ t) (log_is number h holds here (c.position_law.ensures past number h here)))
    c.push_whole.ensures
