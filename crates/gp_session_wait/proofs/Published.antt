-- The log of a long poll without a previous id has the answers of published items.
use Rattle.std.proofs.Common.{◌≡◌, ℕ, Bool, true, false, cond, nat_le, List, [], ◌∷◌, ◌++◌, refl, sym, ap, ◌∙◌, subst, append_assoc, Option, Some, None, option_map, arith}
use Rattle.std.specs.List.{All, Contains}
use Rattle.std.proofs.lemmas.List.Elements.{All-nil, All-push, All-weaker, Contains-append_left, Contains-append_right}
use Rattle.gp_plain.specs.declared.item.Item.{Item}
use Rattle.gp_plain.specs.declared.item.ResponsePart.{ResponsePart}
use Rattle.gp_plain.specs.declared.event.HoldSpec.{HoldSpec}
use Rattle.gp_plain.specs.declared.event.HoldSpec.TheVariants.{Stream, Plain, Response, Socket}
use Rattle.gp_plain.specs.declared.reply.EndCause.{EndCause}
use Rattle.gp_plain.specs.declared.reply.EndCause.TheVariants.{Overflow, Retry, TimedOut}
use Rattle.gp_plain.specs.declared.reply.Piece.{Piece}
use Rattle.gp_plain.specs.Follow.{last_items, is_heard}
use Rattle.gp_plain.specs.Pieces.{moved, end_by, has_room, batch}
use Rattle.gp_plain.specs.Holds.{Terms, State, Held, terms_of, is_live, run, marked, missed, gapped, can_ask, offered, shows_gap, run_for, answer_piece, answer_or, settled_if, grew, served, begun_state, timed, rest_of, end_or_detached, after_page, after_failure, after_change}
use Rattle.gp_plain.specs.History.{held, published}
use Rattle.gp_plain.proofs.Histories.{IsKept, in_each_history, all_at}
use Rattle.gp_plain.proofs.Soundness.{Fits, taken_again, sound, HasTerms}
use Rattle.gp_session_wait.specs.Chains.{IsAnswerOf, PollItemLaw}
use Rattle.gp_session_wait.proofs.Staying.{IsPoll, poll_page, poll_failure, poll_change}

-- each piece of the log is the answer of an item, and the hold has no position
record Came (items : List Item) (channels : List (List ℕ)) (taken : List Piece) (s : State) : Type 0 where
  position_is : s.position ≡ None
  all : All (IsAnswerOf items channels) (taken ++ s.pending)

came_same : (items : List Item) (channels : List (List ℕ)) (taken : List Piece) (s t : State) → t.position ≡ s.position → t.pending ≡ s.pending → Came items channels taken s → Came items channels taken t
came_same items channels taken s t position pending r =
    record { position_is = position ∙ r.position_is; all = subst (λ ps. All (IsAnswerOf items channels) (taken ++ ps)) (sym pending) r.all }

answer_more : (items : List Item) (channels : List (List ℕ)) (item : Item) (piece : Piece) → IsAnswerOf items channels piece → IsAnswerOf (items ++ item ∷ []) channels piece
answer_more items channels item piece a =
    record { item = a.item; published = Contains-append_left items (item ∷ []) a.item a.published; heard = a.heard; part = a.part; response_is = a.response_is; piece_is = a.piece_is }

came_more : (items : List Item) (channels : List (List ℕ)) (taken : List Piece) (s : State) (item : Item) → Came items channels taken s → Came (items ++ item ∷ []) channels taken s
came_more items channels taken s item r = record {
  position_is = r.position_is;
  all = All-weaker (IsAnswerOf items channels) (IsAnswerOf (items ++ item ∷ []) channels) (λ p a. answer_more items channels item p a) (taken ++ s.pending) r.all;
}

came_added : (items : List Item) (channels : List (List ℕ)) (taken : List Piece) (s : State) (p : Piece) (live room : Bool) → Came items channels taken s → IsAnswerOf items channels p
    → Came items channels taken (cond live (cond room (record s { pending = s.pending ++ p ∷ []; position = option_map (λ (at : List ℕ). moved at p) s.position; ended = end_by p; misses = 0 }) (record s { ended = Some Overflow })) s)
came_added items channels taken s p false room r a = r
came_added items channels taken s p true false r a = came_same items channels taken s (record s { ended = Some Overflow }) refl refl r
came_added items channels taken s p true true r a = record {
  position_is = ap (option_map (λ (at : List ℕ). moved at p)) r.position_is;
  all = subst (All (IsAnswerOf items channels)) (append_assoc taken s.pending (p ∷ [])) (All-push (IsAnswerOf items channels) (taken ++ s.pending) p r.all a);
}

-- what an item brings: its answer, or nothing
came_run : (items : List Item) (channels : List (List ℕ)) (taken : List Piece) (s : State) (item : Item) (heard : Bool) (part : Option ResponsePart) → is_heard channels item ≡ heard → item.response ≡ part
    → Contains items item → Came items channels taken s → Came items channels taken (run s (cond heard (answer_piece part item) []))
came_run items channels taken s item false part h e there r = r
came_run items channels taken s item true None h e there r = r
came_run items channels taken s item true (Some part) h e there r =
    came_added items channels taken s (answer_or item.id item.response) (is_live s) (has_room s.pending (answer_or item.id item.response)) r
    (record { item = item; published = there; heard = h; part = part; response_is = e; piece_is = ap (answer_or item.id) e })

came_gapped : (items : List Item) (channels : List (List ℕ)) (taken : List Piece) (s : State) (ask : Bool) → Came items channels taken s → Came items channels taken (cond ask (marked s) (missed s))
came_gapped items channels taken s true r = came_same items channels taken s (marked s) refl refl r
came_gapped items channels taken s false r = came_same items channels taken s (missed s) refl refl r

came_offered : (items : List Item) (channels : List (List ℕ)) (taken : List Piece) (s : State) (pieces : List Piece) (gap : Bool) → Came items channels taken s → Came items channels taken (run s pieces)
    → Came items channels taken (cond gap (gapped s) (run s pieces))
came_offered items channels taken s pieces true r k = came_gapped items channels taken s (can_ask s.terms) r
came_offered items channels taken s pieces false r k = k

came_settled : (items : List Item) (channels : List (List ℕ)) (taken : List Piece) (s : State) (window : List Item) (went_on : Bool) → Came items channels taken s → Came items channels taken (settled_if went_on window s)
came_settled items channels taken s window true r = came_same items channels taken s (settled_if true window s) refl refl r
came_settled items channels taken s window false r = r

came_for : (items : List Item) (channels : List (List ℕ)) (deadline : ℕ) (again : Bool) (taken : List Piece) (s : State) (item : Item) (window : List Item) → s.terms ≡ terms_of (Response channels None deadline again)
    → Contains items item → Came items channels taken s → Came items channels taken (run s (run_for s.terms s.position item window))
came_for items channels deadline again taken s item window t there r =
    subst (λ (k : Terms). Came items channels taken (run s (run_for k s.position item window))) (sym t)
    (subst (λ (o : Option (List ℕ)). Came items channels taken (run s (run_for (terms_of (Response channels None deadline again)) o item window))) (sym r.position_is)
    (came_run items channels taken s item (is_heard channels item) item.response refl refl there r))

came_served : (items : List Item) (channels : List (List ℕ)) (deadline : ℕ) (again : Bool) (taken : List Piece) (s : State) (item : Item) (live : Bool) → s.terms ≡ terms_of (Response channels None deadline again)
    → Came items channels taken s
    → Came (items ++ item ∷ []) channels taken (cond live (let next = offered item (last_items items) s in settled_if (grew s next) (last_items (items ++ item ∷ [])) next) s)
came_served items channels deadline again taken s item false t r = came_more items channels taken s item r
came_served items channels deadline again taken s item true t r =
    let more = items ++ item ∷ [] in
    let w = last_items items in
    let k = came_more items channels taken s item r in
    let there : Contains more item = Contains-append_right items (item ∷ []) item (0, omega arith, refl) in
    came_settled more channels taken (offered item w s) (last_items more) (grew s (offered item w s))
    (came_offered more channels taken s (run_for s.terms s.position item w) (shows_gap s.terms s.position item) k (came_for more channels deadline again taken s item w t there k))

came_fresh : (items : List Item) (channels : List (List ℕ)) (deadline : ℕ) (again : Bool) (window : List Item) → Came items channels [] (begun_state (Response channels None deadline again) window)
came_fresh items channels deadline again window = record { position_is = refl; all = All-nil (IsAnswerOf items channels) }

came_by : (items : List Item) (channels : List (List ℕ)) (taken : List Piece) (s : State) (live due wants : Bool) → Came items channels taken s
    → Came items channels taken (cond live (cond due (record s { ended = Some TimedOut }) (cond wants (record s { ended = Some Retry }) s)) s)
came_by items channels taken s false due wants r = r
came_by items channels taken s true true wants r = came_same items channels taken s (record s { ended = Some TimedOut }) refl refl r
came_by items channels taken s true false true r = came_same items channels taken s (record s { ended = Some Retry }) refl refl r
came_by items channels taken s true false false r = r

came_timed : (items : List Item) (channels : List (List ℕ)) (taken : List Piece) (now : ℕ) (deadline : Option ℕ) (s : State) → Came items channels taken s → Came items channels taken (timed now deadline s)
came_timed items channels taken now None s r = r
came_timed items channels taken now (Some deadline) s r = came_by items channels taken s (is_live s) (nat_le deadline now) s.want r

came_rest : (items : List Item) (channels : List (List ℕ)) (taken : List Piece) (s : State) → Came items channels taken s → Came items channels (taken ++ batch s.pending) (rest_of s)
came_rest items channels taken s r = record { position_is = r.position_is; all = subst (All (IsAnswerOf items channels)) (sym (taken_again taken s.pending)) r.all }

-- what is said of a long poll without a previous id

abbrev OfOpen : HoldSpec → (List (List ℕ) → Type 0) → Type 0
OfOpen (Stream opening channel prev link) says = Unit {0}
OfOpen (Plain opening channels) says = Unit {0}
OfOpen (Response channels None deadline again) says = says channels
OfOpen (Response channels (Some start) deadline again) says = Unit {0}
OfOpen Socket says = Unit {0}

abbrev CameBy : List Item → HoldSpec → List Piece → State → Type 0
CameBy items spec taken s = OfOpen spec (λ channels. Came items channels taken s)

record Law (items : List Item) (h : Held) : Type 0 where
  fits : Fits h.spec h.taken h.state
  law : CameBy items h.spec h.taken h.state

fresh_law : (items : List Item) (spec : HoldSpec) → CameBy items spec [] (begun_state spec (last_items items))
fresh_law items (Stream opening channel prev link) = tt
fresh_law items (Plain opening channels) = tt
fresh_law items (Response channels None deadline again) = came_fresh items channels deadline again (last_items items)
fresh_law items (Response channels (Some start) deadline again) = tt
fresh_law items Socket = tt

serve_law : (items : List Item) (spec : HoldSpec) (taken : List Piece) (s : State) (item : Item) → HasTerms spec s.terms → CameBy items spec taken s
    → CameBy (items ++ item ∷ []) spec taken (served item (last_items items) (last_items (items ++ item ∷ [])) s)
serve_law items (Stream opening channel prev link) taken s item t r = tt
serve_law items (Plain opening channels) taken s item t r = tt
serve_law items (Response channels None deadline again) taken s item t r = came_served items channels deadline again taken s item (is_live s) t r
serve_law items (Response channels (Some start) deadline again) taken s item t r = tt
serve_law items Socket taken s item t r = tt

take_law : (items : List Item) (spec : HoldSpec) (taken : List Piece) (now : ℕ) (s : State) → CameBy items spec taken s → (let u = timed now s.terms.deadline s in CameBy items spec (taken ++ batch u.pending) (rest_of u))
take_law items (Stream opening channel prev link) taken now s r = tt
take_law items (Plain opening channels) taken now s r = tt
take_law items (Response channels None deadline again) taken now s r = came_rest items channels taken (timed now s.terms.deadline s) (came_timed items channels taken now s.terms.deadline s r)
take_law items (Response channels (Some start) deadline again) taken now s r = tt
take_law items Socket taken now s r = tt

go_law : (items : List Item) (spec : HoldSpec) (taken : List Piece) (s : State) (cause : EndCause) → CameBy items spec taken s → CameBy items spec taken (record s { ended = Some cause })
go_law items (Stream opening channel prev link) taken s cause r = tt
go_law items (Plain opening channels) taken s cause r = tt
go_law items (Response channels None deadline again) taken s cause r = came_same items channels taken s (record s { ended = Some cause }) refl refl r
go_law items (Response channels (Some start) deadline again) taken s cause r = tt
go_law items Socket taken s cause r = tt

-- pages, failures and changes of sockets leave a long poll

stay_law : (items : List Item) (spec : HoldSpec) (taken : List Piece) (s t : State) → (IsPoll spec → t ≡ s) → CameBy items spec taken s → CameBy items spec taken t
stay_law items (Stream opening channel prev link) taken s t same r = tt
stay_law items (Plain opening channels) taken s t same r = tt
stay_law items (Response channels None deadline again) taken s t same r = subst (CameBy items (Response channels None deadline again) taken) (sym (same tt)) r
stay_law items (Response channels (Some start) deadline again) taken s t same r = tt
stay_law items Socket taken s t same r = tt

law_kept : IsKept Law
law_kept = record {
  fresh = λ items who spec. record { fits = sound.fresh items who spec; law = fresh_law items spec };
  serve = λ items item h f. record { fits = sound.serve items item h f.fits; law = serve_law items h.spec h.taken h.state item f.fits.terms_are f.law };
  take = λ items now h f. record { fits = sound.take items now h f.fits; law = take_law items h.spec h.taken now h.state f.law };
  page = λ items page h f. record {
    fits = sound.page items page h f.fits;
    law = stay_law items h.spec h.taken h.state (after_page (last_items items) page h.state) (λ poll. poll_page (last_items items) page h.spec h.state poll f.fits.terms_are) f.law;
  };
  fail = λ items h f. record {
    fits = sound.fail items h f.fits;
    law = stay_law items h.spec h.taken h.state (after_failure h.state) (λ poll. poll_failure h.spec h.state poll f.fits.terms_are) f.law;
  };
  change = λ items change h f. record {
    fits = sound.change items change h f.fits;
    law = stay_law items h.spec h.taken h.state (after_change change h.state) (λ poll. poll_change change h.spec h.state poll f.fits.terms_are) f.law;
  };
  go = λ items h f. record { fits = sound.go items h f.fits; law = go_law items h.spec h.taken h.state (end_or_detached h.state.ended) f.law };
}

pub poll_item_law_holds : PollItemLaw
poll_item_law_holds entries number h there channels deadline again is =
    let law = all_at (Law (published entries)) (held entries) number h (in_each_history Law entries law_kept) there in
    let came : CameBy (published entries) (Response channels None deadline again) h.taken h.state = subst (λ (spec : HoldSpec). CameBy (published entries) spec h.taken h.state) is law.law in
    came.all
