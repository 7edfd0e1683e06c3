-- What a page does to a live stream hold, by where it begins.
use Rattle.std.proofs.Common.{◌≡◌, ℕ, ◌==◌, Bool, true, false, cond, ◌&&◌, ◌||◌, List, [], ◌++◌, length, refl, sym, ap, ◌∙◌, subst, Option, Some, None, is_none, option_map}
use Rattle.gp_plain.specs.declared.item.Item.{Item}
use Rattle.gp_plain.specs.declared.reply.Piece.{Piece}
use Rattle.gp_plain.specs.declared.reply.EndCause.TheVariants.{Closed}
use Rattle.gp_plain.specs.declared.reply.Reply.{Reply}
use Rattle.gp_plain.specs.declared.reply.Reply.TheVariants.{Paged, Stale as StaleReply}
use Rattle.gp_plain.specs.Names.{same_id}
use Rattle.gp_plain.specs.Tails.{ahead}
use Rattle.gp_plain.specs.Roomy.{roomy}
use Rattle.gp_plain.specs.Pieces.{id_or, position_after}
use Rattle.gp_plain.specs.Holds.{State, RecoveryPage, is_live, is_stream, is_ahead, is_end, is_next, only_channel, run, other_kind, refusal, reply_or, page_refusal, begins_at, page_run, closed_behind, marked_anew, with_page, with_stale, after_page, page_reply}
use Rattle.gp_plain.specs.Growth.{Growth, IsWithin, HasRoomIn, no_growth, with_pieces, end_or, grown, last_id_of}
use Rattle.gp_plain.specs.Plans.{Machine}
use Rattle.gp_plain.proofs.Growing.{run_is, state_is, last_is}
use Rattle.gp_hold_stream.specs.declared.page.PagePlan.TheVariants.{Page}
use Rattle.gp_hold_stream.specs.Pages.{IsPagePlanned, with_marks}

-- a live stream refuses no page
live_takes : (s : State) → s.ended ≡ None → is_stream s.terms.kind ≡ true → page_refusal s ≡ None
live_takes s n stream = ap (λ e. refusal e (is_stream s.terms.kind) s.terms.kind) n ∙ ap (λ b. other_kind b s.terms.kind) stream

after_is : (window : List Item) (page : RecoveryPage) (s : State) (begins : Bool) → page_refusal s ≡ None → begins_at s.position page.from ≡ begins
    → after_page window page s ≡ cond begins (with_page window page s) (with_stale window s)
after_is window page s begins takes at =
    ap (λ (r : Option Reply). cond (is_none r) (cond (begins_at s.position page.from) (with_page window page s) (with_stale window s)) s) takes
    ∙ ap (λ b. cond b (with_page window page s) (with_stale window s)) at

reply_is : (from : List ℕ) (s : State) (begins : Bool) → page_refusal s ≡ None → begins_at s.position from ≡ begins
    → page_reply from s ≡ cond begins Paged (StaleReply from (id_or s.position []))
reply_is from s begins takes at =
    ap (λ (r : Option Reply). reply_or r (cond (begins_at s.position from) Paged (StaleReply from (id_or s.position [])))) takes
    ∙ ap (λ b. cond b Paged (StaleReply from (id_or s.position []))) at

-- the marks of a hold that was closed behind the page are those that it would have
marks_by : (closes next missed_more : Bool) (window : List Item) (s : State)
    → marked_anew next missed_more window (cond closes (record s { ended = Some Closed }) s)
    ≡ with_marks (s.terms.link && (next || (missed_more && is_ahead s.terms s.position window))) (cond closes (record s { ended = Some Closed }) s)
marks_by true next missed_more window s = refl
marks_by false next missed_more window s = refl

same_grown : (s : State) (g k : Growth) → k.pieces ≡ g.pieces → k.ended ≡ g.ended → grown s k ≡ grown s g
same_grown s g k p e =
    state_is s (ap (λ ps. s.pending ++ ps) p) (ap (λ ps. option_map (λ (a : List ℕ). position_after a ps) s.position) p) (ap (λ x. end_or x s.ended) e) (ap (λ (ps : List Piece). cond (length ps == 0) s.misses 0) p)

-- a page that begins at the position
pub page_planned : (m : Machine) (window : List Item) (page : RecoveryPage) (g k : Growth) (id : Option (List ℕ)) (at behind : List ℕ) (want : Bool)
    → m.state.ended ≡ None → is_stream m.state.terms.kind ≡ true → m.state.position ≡ Some at → same_id page.from at ≡ true
    → g ≡ with_pieces m.state.pending no_growth (page_run m.state.terms page window) → IsWithin m.state.pending g.pieces → k.pieces ≡ g.pieces → k.ended ≡ g.ended
    → HasRoomIn (roomy m.state.pending m.spare) k k.room → id ≡ last_id_of k.pieces → behind ≡ id_or id at
    → want ≡ (m.state.terms.link && (is_next page.follows || (m.state.late && ahead (only_channel m.state.terms.channels) behind window)))
    → IsPagePlanned m window page (Page k id (is_end page.follows) want)
page_planned m window page g k id at behind want n stream here begins is within pieces ended room last b w =
    let s = m.state in
    let takes = live_takes s n stream in
    let from = ap (λ p. begins_at p page.from) here ∙ begins in
    let grew : grown s k ≡ run s (page_run s.terms page window) = same_grown s g k pieces ended ∙ ap (grown s) is ∙ sym (run_is s (page_run s.terms page window) n) in
    let moved : Some behind ≡ option_map (λ (a : List ℕ). position_after a k.pieces) s.position =
    ap Some (b ∙ ap (λ i. id_or i at) last ∙ last_is at k.pieces) ∙ ap (option_map (λ (a : List ℕ). position_after a k.pieces)) (sym here) in
    let marks : want ≡ (s.terms.link && (is_next page.follows || (s.late && is_ahead s.terms (grown s k).position window))) =
    w ∙ ap (λ p. s.terms.link && (is_next page.follows || (s.late && is_ahead s.terms p window))) moved in
    let closes = is_end page.follows && is_live (grown s k) in
    record {
      ready = (n, record { within = subst (IsWithin s.pending) (sym pieces) within; room = room }, last);
      effect = ap (λ v. with_marks v (closed_behind (is_end page.follows) (grown s k))) marks
          ∙ sym (marks_by closes (is_next page.follows) s.late window (grown s k))
          ∙ ap (λ (t : State). marked_anew (is_next page.follows) s.late window (closed_behind (is_end page.follows) t)) grew
          ∙ sym (after_is window page s true takes from);
      told = sym (reply_is page.from s true takes from);
    }
