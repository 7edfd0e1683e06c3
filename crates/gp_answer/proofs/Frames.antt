-- The frame of a stream grows at its end.
use Rattle.std.proofs.Common.{◌≡◌, Bool, true, false, List, [], ◌++◌, refl, sym, ap, ◌∙◌, append_assoc, append-nil, Option, Some, None}
use Rattle.std.specs.List.{flat_map}
use Rattle.std.proofs.lemmas.Grind.{flat_map-append}
use Rattle.gp_plain.specs.declared.reply.EndCause.{EndCause}
use Rattle.gp_answer.specs.Frames.{FrameLaw, framed_by, last_chunk}

none_last : (chunked : Bool) → last_chunk chunked None ≡ []
none_last true = refl
none_last false = refl

pub frame_law_holds : FrameLaw
frame_law_holds = λ chunked head parts more cause.
    let all = flat_map (framed_by chunked) parts in
    let new = flat_map (framed_by chunked) more in
    let last = last_chunk chunked cause in
    ap (λ xs. head ++ (xs ++ last)) (flat_map-append (framed_by chunked) parts more)
    ∙ ap (λ xs. head ++ xs) (append_assoc all new last)
    ∙ sym (append_assoc head all (new ++ last))
    ∙ ap (λ xs. (head ++ xs) ++ (new ++ last)) (sym (ap (λ xs. all ++ xs) (none_last chunked) ∙ append-nil all))
