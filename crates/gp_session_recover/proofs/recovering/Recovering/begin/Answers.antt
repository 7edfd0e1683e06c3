use Rattle.std.proofs.Common.{◌≡◌, ◌∙◌, ap, refl, sym, subst, List, ℕ, Option, Some}
use Rattle.gp_again.specs.Quests.{IsQuest}
use Rattle.gp_again.specs.Views.{AgainView}
use Rattle.gp_session_recover.specs.Rows.{RecoveringView}
use Rattle.gp_session_recover.proofs.recovering.Recovering.begin.Goals as goal

pub returns : goal.returns
returns c =
    let again_now : c.set_talk.new.self.again ≡ Some c.recovery.new.self = ap (λ (v : RecoveringView). v.again) c.set_talk.ensures in
    let again_same : c.recovery.new.self ≡ c.in-Some.again = c.in-Ok-recovery.ensures.same in
    let again_was = c.in-Some.is in
    let again_view : c.self.inside.again ≡ c.args.self.now.again = ap (λ (v : RecoveringView). v.again) c.self.view_is in
    record {
      stream = ap (λ (v : RecoveringView). v.stream) c.set_talk.ensures ∙ ap (λ (v : RecoveringView). v.stream) c.self.view_is;
      again = cc;
      says = record {
        asked = c.in-Some.again;
        again = cc;
        talk = record { recovery = c.in-Ok-recovery.recovery; from = c.args.from; moment = c.of.result };
        talk_is = ap (λ (v : RecoveringView). v.talk) c.set_talk.ensures;
        from_is = refl;
        moment = c.of.ensures;
        quest = subst (λ (f : List ℕ). IsQuest c.in-Some.again c.args.signer.now c.args.now f c.in-Ok-recovery.recovery) c.in-Ok.ensures c.in-Ok-recovery.ensures.ok;
      };
    }
