-- How the body of a talk is read on.
use Rattle.std.proofs.Common.{◌≡◌, ℕ, Bool, true, false, inl, inr, List, [], ◌++◌, drop, Option, Some, None, sym, ap, ◌∙◌, refl, subst}
use Rattle.std.specs.Prelude.{Ok, Err}
use Rattle.gp_plain.specs.declared.http.Response.{Response}
use Rattle.gp_body.specs.declared.plan.BodyPlan.{BodyPlan}
use Rattle.gp_body.specs.declared.fed.FedFault.{FedFault}
use Rattle.gp_body.specs.declared.reading.Reading.{Reading}
use Rattle.gp_body.specs.Steps.{is_end}
use Rattle.gp_body.specs.Readings.{after_all, content_from}
use Rattle.gp_body.specs.Wholes.{opening, reading_of, content_of, IsFinishedAt}
use Rattle.gp_body.proofs.ReadingLemmas.{after_all-append, content-append}
use Rattle.gp_exchange.specs.Views.{AskedView}
use Rattle.gp_exchange.specs.Heads.{HasHead}
use Rattle.gp_body.specs.Plans.{plan_of_response}
use Rattle.gp_exchange.specs.Hearing.{ReadsOn}
use Rattle.gp_exchange.specs.Ends.{Reads, EndsBody, RefusesBody, EndsBy, last_of, last_by}
use Rattle.gp_exchange.specs.Finds.{IsOpened, IsBegun, IsBegunBy}
use Rattle.gp_exchange.specs.declared.answer.ExchangeFault.TheVariants.{Body}
use Rattle.gp_exchange.specs.declared.answer.Last.{Last}
use Rattle.gp_exchange.specs.declared.answer.Last.TheVariants.{End, Fault, NoMemory}
use Rattle.gp_exchange.specs.declared.heading.Found.{Found}
use Rattle.gp_exchange.specs.declared.heading.Found.TheVariants.{More, Head, Over}
use Rattle.std.specs.declared.snapshot.Snapshot.{Snapshot}

-- a reading and its content go on
pub read_of : (plan : BodyPlan) (limit : ℕ) (text more : List ℕ) → reading_of plan limit (text ++ more) ≡ after_all more (reading_of plan limit text)
unfolding reading_of
read_of plan limit text more = after_all-append text more (opening plan limit)

pub given_of : (plan : BodyPlan) (limit : ℕ) (text more : List ℕ) → content_of plan limit (text ++ more) ≡ content_of plan limit text ++ content_from more (reading_of plan limit text)
unfolding reading_of content_of
given_of plan limit text more = content-append text more (opening plan limit)

-- from nothing on
pub read_first : (plan : BodyPlan) (limit : ℕ) (text : List ℕ) → after_all text (reading_of plan limit []) ≡ reading_of plan limit text
unfolding reading_of after_all
read_first plan limit text = refl

pub given_first : (plan : BodyPlan) (limit : ℕ) (text : List ℕ) → content_from text (reading_of plan limit []) ≡ content_of plan limit text
unfolding reading_of content_of after_all
given_first plan limit text = refl

last_no_memory : (asked : AskedView) (head : Response) (rest : List ℕ) (last : Last) → last ≡ NoMemory → IsBegunBy asked head rest last
last_no_memory asked head rest last e = subst (λ (l : Last). IsBegunBy asked head rest l) (sym e) tt

-- what was read with the head is the beginning of the planned body
pub begun : (asked : AskedView) (head : Response) (rest : List ℕ) (plan : BodyPlan) (r : Reading) (found : Found) → plan_of_response head asked.method ≡ Ok plan → r ≡ reading_of plan asked.limit []
    → IsOpened r head rest found → IsBegun asked head rest found
begun asked head rest plan r More planned new opened = opened
begun asked head rest plan r (Head given reading) planned new opened = (
  opened.0,
  record {
    plan = plan;
    planned = planned;
    head_is = opened.1.head_is;
    reader = opened.1.reader ∙ ap (after_all rest) new ∙ read_first plan asked.limit rest;
    part = opened.1.part ∙ ap (content_from rest) new ∙ given_first plan asked.limit rest;
  },
)
begun asked head rest plan r (Over last) planned new opened = last_no_memory asked head rest last opened

-- the end of the input
pub finished : (asked : AskedView) (head : Response) (r : Reading) (content received : List ℕ) (reads : Reads asked head r content received)
    → IsFinishedAt reads.gave.plan asked.limit (drop reads.gave.at received) (Ok tt) → EndsBody asked head true content received
finished asked head r content received reads at = record { gave = reads.gave; accepted = at.accepted; whole = elim at.whole [ inl e ↦ inl e | inr e ↦ inr (e, refl) ] }

pub cut_off : (asked : AskedView) (head : Response) (r : Reading) (content received : List ℕ) (fault : FedFault) (reads : Reads asked head r content received)
    → IsFinishedAt reads.gave.plan asked.limit (drop reads.gave.at received) (Err fault) → RefusesBody asked head true fault content received
cut_off asked head r content received fault reads at = record { gave = reads.gave; refused = inr (refl, at) }

-- the end that a reader has met
module _ (asked : AskedView) (head : Snapshot Response) (r : Reading) (content received : List ℕ) (reads : Reads asked head.value r content received) where
  by_fault : (refused : Option FedFault) (end : Bool) (last : Last) → r.refused ≡ refused → is_end r.state ≡ end → last_by refused end ≡ Some last → EndsBy asked last false (Some head) content received
  by_fault (Some fault) end last told ends met =
      let is : Fault (Body fault) ≡ last = cc in
      subst (λ (l : Last). EndsBy asked l false (Some head) content received) is
      (record { gave = reads.gave; refused = inl (ap (λ (x : Reading). x.refused) (sym reads.reading) ∙ told) })
  by_fault None true last told ends met =
      let is : End ≡ last = cc in
      subst (λ (l : Last). EndsBy asked l false (Some head) content received) is
      (record { gave = reads.gave; accepted = ap (λ (x : Reading). x.refused) (sym reads.reading) ∙ told; whole = inl (ap (λ (x : Reading). is_end x.state) (sym reads.reading) ∙ ends) })
  by_fault None false last told ends met = cc

  pub met_end : (last : Last) → last_of r ≡ Some last → EndsBy asked last false (Some head) content received
  met_end last met = by_fault r.refused (is_end r.state) last refl refl met

-- the head stays, and more of the body is read
pub read_more : (asked : AskedView) (head : Response) (r r' : Reading) (content part more received : List ℕ)
    → ((at : ℕ) → HasHead received head at → HasHead (received ++ more) head at × (drop at (received ++ more) ≡ drop at received ++ more))
    → ReadsOn r r' [] part more → Reads asked head r content received → Reads asked head r' (content ++ part) (received ++ more)
read_more asked head r r' content part more received stays on reads =
    let g = reads.gave in
    let s = stays g.at g.has in
    let text : drop g.at (received ++ more) ≡ drop g.at received ++ more = s.1 in
    record {
      gave = record {
        at = g.at;
        plan = g.plan;
        has = s.0;
        planned = g.planned;
        content_is = ap (λ (x : List ℕ). content ++ x) on.content ∙ ap (λ (x : List ℕ). x ++ content_from more r) g.content_is
            ∙ ap (λ (x : Reading). content_of g.plan asked.limit (drop g.at received) ++ content_from more x) reads.reading
            ∙ sym (given_of g.plan asked.limit (drop g.at received) more) ∙ ap (content_of g.plan asked.limit) (sym text);
      };
      reading = on.reading ∙ ap (after_all more) reads.reading ∙ sym (read_of g.plan asked.limit (drop g.at received) more) ∙ ap (reading_of g.plan asked.limit) (sym text);
    }
