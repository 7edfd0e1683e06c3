-- A released hold has ended.
use Rattle.std.proofs.Common.{◌≡◌, ℕ, Bool, true, false, cond, not, ◌||◌, nat_le, List, [], ◌∷◌, ◌++◌, refl, sym, ap, ◌∙◌, Option, Some, None, is_some}
use Rattle.std.specs.List.{AllByRecursion}
use Rattle.gp_plain.specs.declared.item.Item.{Item}
use Rattle.gp_plain.specs.declared.event.Entry.{Entry}
use Rattle.gp_plain.specs.declared.reply.Piece.{Piece}
use Rattle.gp_plain.specs.declared.reply.EndCause.{EndCause}
use Rattle.gp_plain.specs.declared.reply.EndCause.TheVariants.{TimedOut, Retry}
use Rattle.gp_plain.specs.Pieces.{left}
use Rattle.gp_plain.specs.Follow.{last_items}
use Rattle.gp_plain.specs.Holds.{State, Held, is_live, offered, settled_if, grew, timed, ends_now, taken_of, after_take}
use Rattle.gp_plain.specs.History.{held}
use Rattle.gp_plain.proofs.Histories.{IsKept, in_each_history}
use Rattle.gp_plain.proofs.Paging.{page_dead, failure_dead, change_dead}

absurd_true : {A : Type 0} → false ≡ true → A
absurd_true e = cc

abbrev pub HasEnded : List Item → Held → Type 0
HasEnded items h = h.released ≡ true → is_live h.state ≡ false

served_dead : (item : Item) (before after : List Item) (s : State) (live : Bool) → is_live s ≡ live → live ≡ false
    → is_live (cond live (let next = offered item before s in settled_if (grew s next) after next) s) ≡ false
served_dead item before after s true l e = absurd_true (sym e)
served_dead item before after s false l e = l

timed_by : (s : State) (live due wants : Bool) → is_live s ≡ false → is_live (cond live (cond due (record s { ended = Some TimedOut }) (cond wants (record s { ended = Some Retry }) s)) s) ≡ false
timed_by s true true wants e = refl
timed_by s true false true e = refl
timed_by s true false false e = e
timed_by s false due wants e = e

timed_dead : (now : ℕ) (deadline : Option ℕ) (s : State) → is_live s ≡ false → is_live (timed now deadline s) ≡ false
timed_dead now None s e = e
timed_dead now (Some deadline) s e = timed_by s (is_live s) (nat_le deadline now) s.want e

told_ended : (ended : Option EndCause) (ps : List Piece) → is_some (ends_now ended ps) ≡ true → not (is_some ended) ≡ false
told_ended None [] e = absurd_true e
told_ended (Some cause) [] e = refl
told_ended ended (p ∷ ps) e = absurd_true e

take_dead : (now : ℕ) (s : State) (released told : Bool) → (released ≡ true → is_live s ≡ false) → is_some (taken_of now s).ended ≡ told → (released || told) ≡ true → is_live (after_take now s) ≡ false
take_dead now s true told f t e = timed_dead now s.terms.deadline s (f refl)
take_dead now s false told f t e = let u = timed now s.terms.deadline s in told_ended u.ended (left u.pending) (t ∙ e)

ended_kept : IsKept HasEnded
ended_kept = record {
  fresh = λ items who spec e. absurd_true e;
  serve = λ items item h f e. served_dead item (last_items items) (last_items (items ++ item ∷ [])) h.state (is_live h.state) refl (f e);
  take = λ items now h f e. take_dead now h.state h.released (is_some (taken_of now h.state).ended) f refl e;
  page = λ items page h f e. ap is_live (page_dead (last_items items) page h.state (f e)) ∙ f e;
  fail = λ items h f e. ap is_live (failure_dead h.state (f e)) ∙ f e;
  change = λ items change h f e. ap is_live (change_dead change h.state (f e)) ∙ f e;
  go = λ items h f e. refl;
}

pub have_ended : (entries : List Entry) → AllByRecursion (λ (h : Held). h.released ≡ true → is_live h.state ≡ false) (held entries)
have_ended entries = in_each_history HasEnded entries ended_kept
