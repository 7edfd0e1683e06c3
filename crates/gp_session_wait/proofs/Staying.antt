-- What is for streams and for sockets leaves long polls.
use Rattle.std.proofs.Common.{◌≡◌, true, false, List, ap, ◌∙◌}
use Rattle.gp_plain.specs.declared.item.Item.{Item}
use Rattle.gp_plain.specs.declared.event.HoldSpec.{HoldSpec}
use Rattle.gp_plain.specs.declared.event.HoldSpec.TheVariants.{Stream, Plain, Response, Socket}
use Rattle.gp_plain.specs.Holds.{Terms, State, RecoveryPage, SocketChange, is_stream, is_socket, after_page, after_failure, after_change}
use Rattle.gp_plain.proofs.Soundness.{HasTerms}
use Rattle.gp_plain.proofs.Paging.{page_other, failure_other, change_other}

abbrev pub IsPoll : HoldSpec → Type 0
IsPoll (Stream opening channel prev link) = ⊥
IsPoll (Plain opening channels) = ⊥
IsPoll (Response channels prev deadline again) = Unit {0}
IsPoll Socket = ⊥

no_stream : (spec : HoldSpec) (terms : Terms) → IsPoll spec → HasTerms spec terms → is_stream terms.kind ≡ false
no_stream (Stream opening channel prev link) terms poll t = absurd poll
no_stream (Plain opening channels) terms poll t = absurd poll
no_stream (Response channels prev deadline again) terms poll t = ap (λ (k : Terms). is_stream k.kind) t
no_stream Socket terms poll t = absurd poll

no_socket : (spec : HoldSpec) (terms : Terms) → IsPoll spec → HasTerms spec terms → is_socket terms.kind ≡ false
no_socket (Stream opening channel prev link) terms poll t = absurd poll
no_socket (Plain opening channels) terms poll t = absurd poll
no_socket (Response channels prev deadline again) terms poll t = ap (λ (k : Terms). is_socket k.kind) t
no_socket Socket terms poll t = absurd poll

pub poll_page : (window : List Item) (page : RecoveryPage) (spec : HoldSpec) (s : State) → IsPoll spec → HasTerms spec s.terms → after_page window page s ≡ s
poll_page window page spec s poll t = page_other window page s (no_stream spec s.terms poll t)

pub poll_failure : (spec : HoldSpec) (s : State) → IsPoll spec → HasTerms spec s.terms → after_failure s ≡ s
poll_failure spec s poll t = failure_other s (no_stream spec s.terms poll t)

pub poll_change : (change : SocketChange) (spec : HoldSpec) (s : State) → IsPoll spec → HasTerms spec s.terms → after_change change s ≡ s
poll_change change spec s poll t = change_other change s (no_socket spec s.terms poll t)
