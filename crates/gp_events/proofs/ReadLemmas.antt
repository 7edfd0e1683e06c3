-- The events that were read so far.
use Rattle.std.proofs.Common.{◌≡◌, ℕ, zero, suc, ◌+◌, ◌-◌, ◌<◌, ◌≤◌, List, [], ◌∷◌, ◌++◌, length, take, drop, Result, Ok, Err, refl, sym, ap, ◌∙◌, arith, append_assoc, append-nil, length-drop}
use Rattle.std.proofs.lemmas.List.{drop-drop, nil_from_length, take_all}
use Rattle.gp_events.specs.declared.event.WsEvent.{WsEvent}
use Rattle.gp_events.specs.declared.event.EventFault.{EventFault}
use Rattle.gp_events.specs.declared.event.EventFault.TheVariants.{Name, Size, Short, Tail, NoMemory}
use Rattle.gp_events.specs.Events.{Found, event_at, behind, follow, events_from, events_of, IsFaultOf}

-- the bytes before the place were read as these events, and the rest says what follows them
pub record ReadSoFar (bytes : List ℕ) (place : ℕ) (events : List WsEvent) : Type 0 where
  pub within : place ≤ length bytes
  pub most : ℕ
  pub enough : length bytes ≤ place + most
  pub says : events_of bytes ≡ behind events (events_from most place (drop place bytes))

behind-none : (r : Result (List WsEvent) EventFault) → behind [] r ≡ r
behind-none (Ok more) = refl
behind-none (Err fault) = refl

behind-more : (events : List WsEvent) (event : WsEvent) (r : Result (List WsEvent) EventFault) → behind events (behind (event ∷ []) r) ≡ behind (events ++ event ∷ []) r
behind-more events event (Ok more) = ap Ok (sym (append_assoc events (event ∷ []) more))
behind-more events event (Err fault) = refl

pub more_from : (most place : ℕ) (rest : List ℕ) → 0 < length rest → 0 < most
    → events_from most place rest ≡ follow (λ (found : Found). events_from (most - 1) (place + found.count) (drop found.count rest)) (event_at place rest)
unfolding events_from
more_from zero place rest some enough = absurd (omega arith)
more_from (suc most) place [] some enough = absurd (omega arith)
more_from (suc most) place (b ∷ bs) some enough =
    let same : suc most - 1 ≡ most = omega arith in rw same refl

pub none_from : (most place : ℕ) → events_from most place [] ≡ Ok []
unfolding events_from
none_from zero place = refl
none_from (suc most) place = refl

pub read_none : (bytes : List ℕ) → ReadSoFar bytes 0 []
read_none bytes = record { within = omega arith; most = length bytes; enough = omega arith; says = sym (behind-none _) }

pub read_more : (bytes : List ℕ) (place : ℕ) (events : List WsEvent) (found : Found) → ReadSoFar bytes place events → place < length bytes
    → event_at place (drop place bytes) ≡ Ok found → 0 < found.count → found.count ≤ length (drop place bytes)
    → ReadSoFar bytes (place + found.count) (events ++ found.event ∷ [])
read_more bytes place events found so_far before read some within =
    let left : length (drop place bytes) ≡ length bytes - place = length-drop place bytes in
    let next = more_from so_far.most place (drop place bytes) (omega arith) (omega (arith, so_far.enough)) in
    record {
      within = omega (arith, left);
      most = so_far.most - 1;
      enough = omega (arith, so_far.enough);
      says =
          so_far.says ∙ ap (behind events) (next ∙ ap (follow _) read) ∙ behind-more events found.event _
          ∙ ap (λ (rest : List ℕ). behind (events ++ found.event ∷ []) (events_from (so_far.most - 1) (place + found.count) rest)) (drop-drop found.count place bytes);
    }

pub read_fault : (bytes : List ℕ) (place : ℕ) (events : List WsEvent) (fault : EventFault) → ReadSoFar bytes place events → place < length bytes
    → event_at place (drop place bytes) ≡ Err fault → events_of bytes ≡ Err fault
read_fault bytes place events fault so_far before read =
    let left : length (drop place bytes) ≡ length bytes - place = length-drop place bytes in
    let next = more_from so_far.most place (drop place bytes) (omega arith) (omega (arith, so_far.enough)) in
    so_far.says ∙ ap (behind events) (next ∙ ap (follow _) read)

pub is_fault : (bytes : List ℕ) (place : ℕ) (events : List WsEvent) (fault : EventFault) → ReadSoFar bytes place events → place < length bytes
    → IsFaultOf (event_at place (drop place bytes)) fault → IsFaultOf (events_of bytes) fault
is_fault bytes place events (Name p) so_far before read = read_fault bytes place events _ so_far before read
is_fault bytes place events (Size p) so_far before read = read_fault bytes place events _ so_far before read
is_fault bytes place events (Short p) so_far before read = read_fault bytes place events _ so_far before read
is_fault bytes place events (Tail p) so_far before read = read_fault bytes place events _ so_far before read
is_fault bytes place events NoMemory so_far before read = tt

pub read_all : (bytes : List ℕ) (place : ℕ) (events : List WsEvent) → ReadSoFar bytes place events → length bytes ≤ place → events_of bytes ≡ Ok events
read_all bytes place events so_far whole =
    let empty : drop place bytes ≡ [] = nil_from_length (drop place bytes) (omega (arith, length-drop place bytes)) in
    so_far.says ∙ ap (λ (rest : List ℕ). behind events (events_from so_far.most place rest)) empty
    ∙ ap (behind events) (none_from so_far.most place) ∙ ap Ok (append-nil events)

pub rest_is : (bytes : List ℕ) (place : ℕ) → take (length bytes - place) (drop place bytes) ≡ drop place bytes
rest_is bytes place = take_all (length bytes - place) (drop place bytes) (omega (arith, length-drop place bytes))
