-- How the reading of a list of links goes on at a place.
use Rattle.std.proofs.Common.{◌≡◌, ℕ, ◌+◌, ◌<◌, ◌≤◌, List, length, get_or, drop, Option, Some, None, Result, Err, refl, sym, ap, ◌∙◌}
use Rattle.std.proofs.lemmas.List.{at_drop_more, at_drop_all}
use Rattle.gp_instruct.specs.declared.span.Span.{Span}
use Rattle.gp_instruct.specs.declared.scan.Scan.{Scan}
use Rattle.gp_instruct.specs.Links.{step, ended, taken, resume, scanned, scanned_from, start}

module _ (value : List ℕ) (place : ℕ) (scan : Scan) where
  abbrev here : Result (Option Span) ℕ
  here = scanned_from value place scan (drop place value)

  abbrev go : Option Scan → Result (Option Span) ℕ
  go found = resume place found (λ (next : Scan). scanned_from value (place + 1) next (drop (place + 1) value))

  at_byte : place < length value → here ≡ go (step value place (get_or value place 0) scan)
  unfolding scanned_from
  at_byte inside = at_drop_more (λ (rest : List ℕ). scanned_from value place scan rest) value place 0 inside

  pub scan_more : (next : Scan) → place < length value → Some next ≡ step value place (get_or value place 0) scan → here ≡ scanned_from value (place + 1) next (drop (place + 1) value)
  scan_more next inside goes = at_byte inside ∙ ap go (sym goes)

  pub scan_stop : place < length value → None ≡ step value place (get_or value place 0) scan → here ≡ Err place
  scan_stop inside stops = at_byte inside ∙ ap go (sym stops)

  pub scan_end : length value ≤ place → here ≡ taken value (ended value scan)
  unfolding scanned_from
  scan_end end = at_drop_all (λ (rest : List ℕ). scanned_from value place scan rest) value place end

pub scan_start : (value : List ℕ) → scanned_from value 0 start (drop 0 value) ≡ scanned value
unfolding scanned
scan_start value = refl
