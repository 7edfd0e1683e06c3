-- The content of an answer, part by part.
use Rattle.std.proofs.Common.{◌≡◌, ℕ, ◌<◌, List, [], ◌++◌, length, Option, Some, refl, sym, ap, ◌∙◌, subst, arith, length-append}
use Rattle.gp_plain.specs.declared.http.Response.{Response}
use Rattle.gp_outside.specs.Dials.{DialTells, after_hang_up}
use Rattle.gp_exchange.specs.Answers.{head_of, rank}
use Rattle.gp_exchange.specs.Views.{ExchangeView}
use Rattle.gp_exchange.specs.declared.answer.Progress.TheVariants as progress
use Rattle.gp_exchange.specs.declared.place.Place.{Place}
use Rattle.gp_recover.specs.Outcomes.{IsUnrefused}
use Rattle.gp_recover.specs.Reading.{IsOpen, IsUnread, ReadingView}
use Rattle.gp_recover.specs.Views.{SoughtView}
use Rattle.gp_recover.specs.Moves.{Adds, AddsPart, AsksContent, AsksHead, Finishes, Gathers, IsFound, IsHeaded, IsRefusal, Leads, On, Polls, RefusesPart}
use Rattle.gp_recover.specs.declared.heading.Heading.{Heading as HeadHeading}
use Rattle.gp_recover.specs.declared.reading.Gathered.{Gathered}
use Rattle.gp_recover.specs.declared.reading.Gathered.TheVariants as gathered
use Rattle.gp_recover.specs.declared.reading.Reading.{Reading as BodyReading}
use Rattle.gp_recover.specs.declared.reader.Unread.{Unread}
use Rattle.gp_recover.specs.declared.recovered.Last.{Last}
use Rattle.gp_recover.specs.declared.recovered.Last.TheVariants as last
use Rattle.gp_recover.specs.declared.stage.Next.{Next}
use Rattle.gp_exchange.proofs.Leading.{later_same}
use Rattle.gp_recover.proofs.Ending.{EndsSo, end_leads, none_so, page_so, refusal_leads, whole_lost}
use Rattle.gp_recover.proofs.Going.{no_head, on_polled, reads_head, reads_rank}

-- what is sought of a reader
pub reader_view : (s : SoughtView) (r : ReadingView) → r.channel ≡ s.channel → r.from ≡ s.from → r ≡ record { head = r.head; channel = s.channel; from = s.from; content = r.content }
reader_view s r channel from =
    ap (λ (c : List ℕ). record { head = r.head; channel = c; from = r.from; content = r.content }) channel ∙ ap (λ (f : List ℕ). record { head = r.head; channel = s.channel; from = f; content = r.content }) from

pub unrefused : (s : SoughtView) (r : BodyReading) → AsksContent s r → IsUnrefused s (head_of r.exchange.place) r.reader.content
unrefused s r k = subst (λ (h : Option Response). IsUnrefused s h r.reader.content) (sym k.head) (subst IsOpen (reader_view s r.reader k.channel k.from) k.unrefused)

pub none_unrefused : (s : SoughtView) (p : Place) → rank p < 4 → IsUnrefused s (head_of p) []
none_unrefused s p low = subst (λ (h : Option Response). IsUnrefused s h []) (sym (no_head p low)) tt

-- a part came
module _ (s : SoughtView) (r : BodyReading) (y : ExchangeView) (old at : DialTells) (k : AsksContent s r) (part : List ℕ) (polls : Polls r.exchange y old at (progress.Part part)) where
  abbrev after_part : BodyReading
  after_part = record r { exchange = y }

  part_on : On s r.exchange.place r.reader.content old y.place (r.reader.content ++ part) at
  part_on = on_polled s r.exchange y r.reader.content (r.reader.content ++ part) old at (progress.Part part) k.asked polls refl
      (let four = polls.gives.2 in let begun = k.begun in omega (arith, four, begun)) (let four = polls.gives.2 in omega (arith, four))

  part_added : (now : DialTells) (is : BodyReading) → AddsPart after_part is part at now → Gathers s r.exchange.place r.reader.content old now (gathered.More is)
  part_added now is a =
      let at_place : is.exchange.place ≡ y.place = ap (λ (x : ExchangeView). x.place) a.exchange in
      let content : is.reader.content ≡ r.reader.content ++ part = ap (λ (v : ReadingView). v.content) a.reader in
      record {
        on = subst (λ (d : DialTells). On s r.exchange.place r.reader.content old is.exchange.place is.reader.content d) (sym a.dial)
            (subst (λ (p : Place). On s r.exchange.place r.reader.content old p is.reader.content at) (sym at_place)
            (subst (λ (c : List ℕ). On s r.exchange.place r.reader.content old y.place c at) (sym content) part_on));
        kept = record {
          asked = ap (λ (x : ExchangeView). x.asked) a.exchange ∙ polls.asked ∙ k.asked;
          channel = ap (λ (v : ReadingView). v.channel) a.reader ∙ k.channel;
          from = ap (λ (v : ReadingView). v.from) a.reader ∙ k.from;
          begun = ap rank at_place ∙ polls.gives.2;
          head = ap head_of at_place ∙ polls.heads ∙ k.head ∙ ap (λ (v : ReadingView). Some v.head) (sym a.reader);
          unrefused = a.unrefused;
        };
        more = let long = ap (λ (c : List ℕ). length c) content in let both = length-append r.reader.content part in let some = polls.gives.0 in omega (arith, long, both, some);
      }

  part_refused : (now : DialTells) (next : Next) → RefusesPart after_part part at now next → Leads s r.exchange.place r.reader.content old now next
  part_refused now next f =
      subst (λ (d : DialTells). Leads s r.exchange.place r.reader.content old d next) (sym f.dial)
      (refusal_leads s r.exchange y r.reader.head (r.reader.content ++ part) old at polls.gives.2 (polls.heads ∙ k.head) polls.later r.exchange.place r.reader.content part_on.stands f.unread
      (subst (λ (b : List ℕ). IsUnread r.reader.head (r.reader.content ++ part) s.channel b f.unread) k.from
      (subst (λ (c : List ℕ). IsUnread r.reader.head (r.reader.content ++ part) c r.reader.from f.unread) k.channel f.cause))
      next f.refusal)

  pub added_by : (now : DialTells) (result : Gathered) → Adds after_part part at now result → Gathers s r.exchange.place r.reader.content old now result
  added_by now (gathered.More is) a = part_added now is a
  added_by now (gathered.Next next) f = part_refused now next f

-- the content is whole
module _ (s : SoughtView) (r : BodyReading) (y : ExchangeView) (old now : DialTells) (k : AsksContent s r) (polls : Polls r.exchange y old now progress.End) where
  found_so : (l : Last) → IsFound (record r { exchange = y }) l → EndsSo s r.exchange.place r.reader.content old now y l
  found_so (last.Got page) found = page_so s r.exchange y r.reader.head r.reader.content old now k.asked k.head polls page (rw (sym k.channel) (rw (sym k.from) found))
  found_so (last.Failed f) found = none_so s r.exchange y r.reader.head r.reader.content old now k.asked k.head polls f (rw (sym k.channel) (rw (sym k.from) found))
  found_so last.NoMemory found = whole_lost s r.exchange y r.reader.head r.reader.content old now k.asked k.head polls

  pub found_leads : (next : Next) → Finishes (record r { exchange = y }) next → Leads s r.exchange.place r.reader.content old now next
  found_leads next f = end_leads s r.exchange.place r.reader.content old now y f.last (found_so f.last f.found) next f.ends

-- the head came
module _ (s : SoughtView) (h : HeadHeading) (y : ExchangeView) (old at : DialTells) (k : AsksHead s h) (head : Response) (polls : Polls h.exchange y old at (progress.Head head)) where
  pub head_on : On s h.exchange.place [] old y.place [] at
  head_on = on_polled s h.exchange y [] [] old at (progress.Head head) k.asked polls refl
      (let four = reads_rank head y.place polls.gives.1 in let low = polls.gives.0 in omega (arith, four, low)) (let four = reads_rank head y.place polls.gives.1 in omega (arith, four))

  pub is_headed : IsHeaded s (record h { exchange = y }) head
  is_headed = record { asked = polls.asked ∙ k.asked; channel = k.channel; from = k.from; reads = polls.gives.1 }

-- the head refuses nothing
pub begins : (s : SoughtView) (h : HeadHeading) (head : Response) (reader : ReadingView) → IsHeaded s h head → reader ≡ record { head = head; channel = h.channel; from = h.from; content = [] } → IsOpen reader
    → AsksContent s (record { exchange = h.exchange; reader = reader })
begins s h head reader is same unrefused = record {
  asked = is.asked;
  channel = ap (λ (v : ReadingView). v.channel) same ∙ is.channel;
  from = ap (λ (v : ReadingView). v.from) same ∙ is.from;
  begun = reads_rank head h.exchange.place is.reads;
  head = reads_head head h.exchange.place is.reads ∙ ap (λ (v : ReadingView). Some v.head) (sym same);
  unrefused = unrefused;
}

-- it refuses the page
pub head_refused : (s : SoughtView) (h : HeadHeading) (head : Response) (d : DialTells) → IsHeaded s h head → (u : Unread) → IsUnread head [] h.channel h.from u → (next : Next) → IsRefusal h.exchange u next
    → Leads s h.exchange.place [] d (after_hang_up d) next
head_refused s h head d is u cause next refusal =
    refusal_leads s h.exchange h.exchange head [] d d (reads_rank head h.exchange.place is.reads) (reads_head head h.exchange.place is.reads) (later_same d) h.exchange.place [] (λ before stands. stands) u
    (subst (λ (b : List ℕ). IsUnread head [] s.channel b u) is.from (subst (λ (c : List ℕ). IsUnread head [] c h.from u) is.channel cause)) next refusal
