use Rattle.std.proofs.Common.{ℕ, ◌∙◌, sym, ap, List, nat_lt, refl}
use Rattle.gp_instruct.specs.Spec.{spec}
use Rattle.gp_session_wait.specs.Views.{OpeningView}
use Rattle.gp_session_wait.proofs.Beginning.{opens}
use Rattle.gp_session_wait.proofs.opening.Opening.new.Goals as goal

pub returns : goal.returns
returns c =
    let o : OpeningView = record {
      channels = c.into_channels-channels.result.0;
      prev = c.into_channels-channels.result.1;
      seconds = c.args.instruct.timeout;
      own = c.args.own;
      channel = c.in_ok-channel.channel;
      repeats = c.args.repeats;
    } in
    opens c.args.instruct c.args.own c.args.repeats c.requires.mode c.requires.counted c.requires.few c.spec_law.ensures c.in-Some.spec o c.into_channels-channels.ensures.0 c.into_channels-channels.ensures.1
    (sym c.in-Some.is ∙ c.in_ok-spec.ensures.spec ∙ ap (λ (b : List ℕ). spec c.args.instruct b 0 (nat_lt 0 c.args.repeats)) c.empty.ensures)
    c.into_channels-channels.ensures.2 refl refl refl c.in_ok-channel.ensures
