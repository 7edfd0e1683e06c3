-- What becomes of a long poll whose Takes came to something.
use Rattle.std.proofs.Common.{◌≡◌, ℕ, ◌<◌, true, List, [], refl, sym, ap, ◌∙◌, subst, Some, is_some, inl, inr, append-nil}
use Rattle.gp_plain.specs.Kinds.{may_end}
use Rattle.gp_plain.specs.declared.event.HoldSpec.{HoldSpec}
use Rattle.gp_plain.specs.declared.reply.EndCause.TheVariants as cause
use Rattle.gp_session.specs.Seats.{SeatView, IsServed}
use Rattle.gp_session.specs.Wires.{WireView, Sent}
use Rattle.gp_session.proofs.Moving.{sent_put}
use Rattle.gp_session_hold.specs.Rows.{KeptView, HoldsRow, kept, over}
use Rattle.gp_session_hold.specs.Puts.{PutsBehind}
use Rattle.gp_session_hold.specs.Streams.{Gives, Idles}
use Rattle.gp_session_wait.specs.Views.{PollView, WaitView}
use Rattle.gp_session_wait.specs.Answers.{answer_of, answer_text}
use Rattle.gp_session_wait.specs.Seeks.{Polls, IsLast, Seeks, last_sought, cause_of}
use Rattle.gp_session_wait.specs.Waits.{poll_of, HasForm, Waits, IsChosen, HasEnded, IsStillKept, IsSameWait, hold_of, last_polled, PolledServes, SaysOf, AnswersAs, IsRepeatOf, EndsTo, CanEndWith, Pauses, busy, gave, idle, Looking, Looks, most_repeats}
use Rattle.gp_session_wait.specs.declared.answer.Answer.{Answer}
use Rattle.gp_session_wait.specs.declared.wait.Repeat.{Repeat}
use Rattle.gp_session_wait.specs.declared.wait.Polled.{Polled}
use Rattle.gp_session_wait.specs.declared.wait.Polled.TheVariants as polled
use Rattle.gp_session_wait.specs.declared.seeking.End.{End}
use Rattle.gp_session_wait.specs.declared.seeking.End.TheVariants as end
use Rattle.gp_session_wait.specs.declared.seeking.Sought.{Sought}
use Rattle.gp_session_wait.specs.declared.seeking.Sought.TheVariants as sought

-- no bytes were put
puts_none : (w : WireView) → PutsBehind w w []
puts_none w = record { start = refl; link = refl; rest = sym (append-nil w.rest) }

-- the long poll behind its Takes
abbrev pub behind : WaitView → PollView → WaitView
behind v u = record { hold = u.hold; spec = u.spec; own = v.own; channel = v.channel; repeats = v.repeats }

module _ (v : WaitView) (u : PollView) (w x : WireView) (s t : SeatView) (now : ℕ) (waits : Waits v w s) where
  looks_by : (answer : Sought) → Seeks (poll_of v) u s t now answer → (result : Polled) → hold_of result ≡ u.hold → last_polled result ≡ last_sought u.hold answer → PolledServes s t result
      → (more : List ℕ) → PutsBehind w x more → SaysOf v x t (Looking v x s t now) ⊥ result → Looks v w x s t now result
  looks_by answer d result hold last serves more puts says = record {
    number = ap (λ (h : KeptView). h.number) hold ∙ d.goes.number;
    more = more;
    puts = puts;
    times = d.goes.times;
    seat = d.goes.seat;
    row = d.goes.row;
    entries = d.goes.entries;
    attaches = d.goes.attaches;
    holds = λ reports r. subst (HoldsRow t reports) (sym last) (d.holds reports r);
    serves = serves;
    says = says;
  }

  -- a Take told an end

  has_ended : (told : End) (d : Seeks (poll_of v) u s t now (sought.Ended told)) → HasEnded v t u.hold (cause_of told) d.says.share
  has_ended told d = record {
    is = d.says.is;
    spec_is = d.says.spec_is ∙ d.goes.spec;
    cause_is = ap (λ (sp : HoldSpec). may_end sp (cause_of told)) (sym d.goes.spec) ∙ d.says.cause_is;
  }

  put_all : (bytes : List ℕ) → PutsBehind w x bytes → Sent x bytes
  put_all bytes p = sent_put w x [] bytes waits.bytes p.start p.link p.rest

  answers_by : (told : End) (d : Seeks (poll_of v) u s t now (sought.Ended told)) (answer : Answer) (result : Polled) → IsChosen v (cause_of told) d.says.share answer
      → AnswersAs w x u.hold (cause_of told) answer result → Looks v w x s t now result
  answers_by told d answer result chosen (inl p) =
      subst (Looks v w x s t now) (sym p.0) (looks_by (sought.Ended told) d (polled.Answered u.hold (cause_of told) answer.code) refl refl d.serves (answer_text answer) p.1 (record {
        share = d.says.share;
        ended = has_ended told d;
        answer = answer;
        chosen = chosen;
        code_is = refl;
        bytes = put_all (answer_text answer) p.1;
      }))
  answers_by told d answer result chosen (inr p) =
      subst (Looks v w x s t now) (sym p.0) (looks_by (sought.Ended told) d (polled.Unput u.hold (cause_of told)) refl refl d.serves [] p.1 (record {
        share = d.says.share;
        ended = has_ended told d;
        answer = answer;
        chosen = chosen;
        bytes = put_all [] p.1;
      }))

  same_sent : x ≡ w → Sent x []
  same_sent e = subst (λ (y : WireView). Sent y []) (sym e) waits.bytes

  same_put : x ≡ w → PutsBehind w x []
  same_put e = subst (λ (y : WireView). PutsBehind w y []) (sym e) (puts_none w)

  repeats_by : (id : List ℕ) (d : Seeks (poll_of v) u s t now (sought.Ended (end.Retry id))) (r : Repeat) → v.repeats < most_repeats → x ≡ w → IsRepeatOf (behind v u) id r → Looks v w x s t now (polled.Retry r)
  repeats_by id d r few same is = looks_by (sought.Ended (end.Retry id)) d (polled.Retry r) is.hold (ap (λ (h : KeptView). over h (Some cause.Retry)) is.hold) d.serves [] (same_put same) (record {
    share = d.says.share;
    ended = subst (λ (h : KeptView). HasEnded v t h cause.Retry d.says.share) (sym is.hold) (has_ended (end.Retry id) d);
    few = few;
    channel = is.channel;
    id_is = subst (λ (i : List ℕ). IsLast d.says.share.recovers i) (sym is.id_is) d.says.by;
    count = is.count;
    bytes = same_sent same;
  })

  pub looked_end : (told : End) (result : Polled) → Seeks (poll_of v) u s t now (sought.Ended told) → EndsTo (behind v u) w x told result → Looks v w x s t now result
  looked_end (end.Answered part) result d e = answers_by (end.Answered part) d (answer_of part) result (part, d.says.by, refl) e
  looked_end end.TimedOut result d e = answers_by end.TimedOut d v.own result refl e
  looked_end (end.Retry id) result d (inl r) = subst (Looks v w x s t now) (sym r.2.1) (repeats_by id d r.2.0 r.0 r.1 r.2.2)
  looked_end (end.Retry id) result d (inr r) = answers_by (end.Retry id) d v.own result (r.0, refl) r.1
  looked_end end.Overflow result d e =
      subst (Looks v w x s t now) (sym e.0) (looks_by (sought.Ended end.Overflow) d (polled.Overflow u.hold) refl refl d.serves [] (same_put e.1) (record {
        share = d.says.share;
        ended = has_ended end.Overflow d;
        bytes = same_sent e.1;
      }))

  -- a repeat has a channel to tell of

  prev_is : (f : HasForm v) → may_end v.spec cause.Retry ≡ true → is_some f.prev ≡ true
  prev_is f e = sym (ap (λ (sp : HoldSpec). may_end sp cause.Retry) f.spec_is) ∙ e

  pub can_end_with : (told : End) → Seeks (poll_of v) u s t now (sought.Ended told) → CanEndWith (behind v u) told
  can_end_with (end.Answered part) d = tt
  can_end_with end.TimedOut d = tt
  can_end_with (end.Retry id) d = (waits.form.few, waits.form.has ∙ prev_is waits.form (has_ended (end.Retry id) d).cause_is)
  can_end_with end.Overflow d = tt

  -- no end was told

  same_wait : (answer : Sought) → Seeks (poll_of v) u s t now answer → IsSameWait v (behind v u)
  same_wait answer d = record { number = d.goes.number; spec = d.goes.spec; own = refl; channel = refl; repeats = refl }

  still_waits : (answer : Sought) → Seeks (poll_of v) u s t now answer → Polls u t → Waits (behind v u) w t
  still_waits answer d p = record {
    polls = p;
    form = record {
      channels = waits.form.channels;
      prev = waits.form.prev;
      deadline = waits.form.deadline;
      spec_is = d.goes.spec ∙ waits.form.spec_is;
      channel_is = waits.form.channel_is;
      has = waits.form.has;
      few = waits.form.few;
    };
    bytes = waits.bytes;
  }

-- nothing was put
module _ (v : WaitView) (u : PollView) (w : WireView) (s t : SeatView) (now : ℕ) (waits : Waits v w s) where
  pauses_by : (answer : Sought) (d : Seeks (poll_of v) u s t now answer) → Polls u t → last_sought u.hold answer ≡ kept u.hold → (IsServed s → IsServed t) → Pauses v.hold.number now s t
      → Looks v w w s t now (polled.Waits (behind v u))
  pauses_by answer d p last free pauses = looks_by v u w w s t now waits answer d (polled.Waits (behind v u)) refl (sym last) free [] (puts_none w) (record {
    same = same_wait v u w w s t now waits answer d;
    waits = still_waits v u w w s t now waits answer d p;
    pauses = pauses;
  })

  pub looked_idle : Seeks (poll_of v) u s t now sought.Idle → Looks v w w s t now (polled.Waits (behind v u))
  looked_idle d = pauses_by sought.Idle d d.says.0 refl d.serves (idle (subst (λ (n : ℕ). Idles n now s t) d.goes.number d.says.1))

  pub looked_sixteen : Seeks (poll_of v) u s t now sought.Sixteen → Looks v w w s t now (polled.Waits (behind v u))
  looked_sixteen d = pauses_by sought.Sixteen d d.says.0 refl d.serves (gave (subst (λ (n : ℕ). Gives n now s 16 t) d.goes.number d.says.1))

  pub looked_busy : Seeks (poll_of v) u s t now sought.Busy → Looks v w w s t now (polled.Waits (behind v u))
  looked_busy d = pauses_by sought.Busy d d.says.0 refl d.serves (busy d.says.1)

  still_kept : (answer : Sought) → Seeks (poll_of v) u s t now answer → Polls u t → IsStillKept v w t u.hold
  still_kept answer d p = record { share = p.share; is = p.is; spec_is = p.spec_is ∙ d.goes.spec; bytes = waits.bytes }

  pub looked_worn : Seeks (poll_of v) u s t now sought.Worn → Looks v w w s t now (polled.Worn u.hold)
  looked_worn d = looks_by v u w w s t now waits sought.Worn d (polled.Worn u.hold) refl refl d.serves [] (puts_none w) (still_kept sought.Worn d d.says)

  pub looked_wanting : Seeks (poll_of v) u s t now sought.NoMemory → Looks v w w s t now (polled.NoMemory u.hold)
  looked_wanting d = looks_by v u w w s t now waits sought.NoMemory d (polled.NoMemory u.hold) refl refl d.serves [] (puts_none w) (still_kept sought.NoMemory d d.says)
