-- A listener in memory.
use Rattle.std.specs.Prelude.{ℕ, ◌-◌, ◌==◌, Bool, true, false, cond, List, [], ◌∷◌}
use Rattle.gp_outside.specs.Counts.{counted}
use Rattle.gp_outside.specs.Listens.{ListenTells}
use Rattle.gp_outside.specs.MemLinks.{LinkState}
use Rattle.gp_outside.specs.declared.listen.Accepted.{Accepted}
use Rattle.gp_outside.specs.declared.listen.Accepted.TheVariants.{Took, NotReady, Failed}

-- the links that it has still to give, how many accepts behind them aren't ready, and the counts
pub record ListenState : Type 0 where
  pub links : List LinkState
  pub idle : ℕ
  pub faults : ℕ
  pub waits : ℕ

abbrev pub told_listen : ListenState → ListenTells
told_listen listen = record { faults = listen.faults; waits = listen.waits }

-- the next link; with none left an accept isn't ready so many times, and then fails
abbrev pub accept_of : List LinkState → ℕ → Accepted LinkState
accept_of (link ∷ links) idle = Took link
accept_of [] idle = cond (idle == 0) Failed NotReady

abbrev pub after_links : ListenState → List LinkState → Bool → ListenState
after_links listen (link ∷ links) is_last = record listen { links = links }
after_links listen [] true = record listen { faults = counted listen.faults }
after_links listen [] false = record listen { idle = listen.idle - 1; waits = counted listen.waits }

abbrev pub after_accept : ListenState → ListenState
after_accept listen = after_links listen listen.links (listen.idle == 0)
