-- The grammar of the command line: `replay FILE`, or `serve ROUTES` and options.
use Rattle.std.specs.Prelude.{ℕ, cond, List, [], ◌∷◌, codes, eqb, Result, Ok, Err}
use Rattle.std.specs.Cmp.Lexicographic.{pointwise}
use Rattle.gp_serve.specs.Options.{Asked, asked_by, nothing_asked, result_then}

-- what a command line asks for
pub data Command : Type 0 where
  Replay : List ℕ → Command
  Serve : List ℕ → Asked → Command

-- after `replay` comes one word, which may be any, and nothing more
abbrev pub replay_of : List (List ℕ) → Result Command ℕ
replay_of [] = Err 1
replay_of (path ∷ []) = Ok (Replay path)
replay_of (path ∷ extra ∷ words) = Err 2

-- after `serve` comes one word, which may be any, and then options
abbrev pub serve_of : List (List ℕ) → Result Command ℕ
serve_of [] = Err 1
serve_of (path ∷ words) = result_then (λ (asked : Asked). Ok (Serve path asked)) (asked_by 2 words nothing_asked)

-- what the words ask for, or the place of the first word after which no continuation is in the grammar, or the number
-- of words where one is missing
abbrev pub command_of : List (List ℕ) → Result Command ℕ
command_of [] = Err 0
command_of (first ∷ words) = cond (pointwise eqb first (codes "replay")) (replay_of words) (cond (pointwise eqb first (codes "serve")) (serve_of words) (Err 0))
