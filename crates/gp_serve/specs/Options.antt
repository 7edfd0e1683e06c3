-- The options of `serve`.
use Rattle.std.specs.Prelude.{ℕ, ◌+◌, min, Bool, ◌&&◌, not, cond, List, [], ◌∷◌, length, codes, eqb, nat_le, Option, Some, None, option_map, option_and_then, ok_or, is_none, unwrap_or, Result, Ok, Err}
use Rattle.std.specs.Cmp.Lexicographic.{pointwise}
use Rattle.std.specs.Str.Parse.{digits_value}
use Rattle.gp_routes.specs.Parts.{has_none, is_numeral}
use Rattle.gp_serve.specs.declared.options.Choice.{Choice}
use Rattle.gp_serve.specs.declared.options.Choice.TheVariants.{Workers, Sessions, Client, Publish, Key}
use Rattle.gp_serve.specs.declared.options.Options.{Options}

-- what was given of each option
pub record Asked : Type 0 where
  pub workers : Option ℕ
  pub sessions : Option ℕ
  pub client : Option ℕ
  pub publish : Option ℕ
  pub key : Option (List ℕ)

abbrev pub nothing_asked : Asked
nothing_asked = record { workers = None; sessions = None; client = None; publish = None; key = None }

-- a number from 1 to the greatest, in decimal digits without a leading zero
abbrev pub ranged : ℕ → List ℕ → Option ℕ
ranged most word = cond (is_numeral word && nat_le (digits_value 10 word) most) (Some (digits_value 10 word)) None

-- a key has 1 to 255 bytes
abbrev pub key_of : List ℕ → Option (List ℕ)
key_of word = cond (not (has_none word) && nat_le (length word) 255) (Some word) None

-- the word is this text
abbrev pub is_text : List ℕ → List ℕ → Bool
is_text word text = pointwise eqb word text

-- the option that a word names
abbrev pub choice_of : List ℕ → Option Choice
choice_of word =
    cond (is_text word (codes "--workers")) (Some Workers)
    (cond (is_text word (codes "--sessions")) (Some Sessions)
    (cond (is_text word (codes "--client")) (Some Client)
    (cond (is_text word (codes "--publish")) (Some Publish)
    (cond (is_text word (codes "--key")) (Some Key) None))))

-- whether an option wasn't given yet
abbrev pub is_free : Asked → Choice → Bool
is_free asked Workers = is_none asked.workers
is_free asked Sessions = is_none asked.sessions
is_free asked Client = is_none asked.client
is_free asked Publish = is_none asked.publish
is_free asked Key = is_none asked.key

-- the option that a word names, where it wasn't given yet: each is given once, at most
abbrev pub free_choice : List ℕ → Asked → Option Choice
free_choice word asked = option_and_then (λ (choice : Choice). cond (is_free asked choice) (Some choice) None) (choice_of word)

-- what is asked once an option has this value, where the word is one of its values
abbrev pub with_value : Asked → Choice → List ℕ → Option Asked
with_value asked Workers word = option_map (λ (n : ℕ). record asked { workers = Some n }) (ranged 16 word)
with_value asked Sessions word = option_map (λ (n : ℕ). record asked { sessions = Some n }) (ranged 100000 word)
with_value asked Client word = option_map (λ (n : ℕ). record asked { client = Some n }) (ranged 65535 word)
with_value asked Publish word = option_map (λ (n : ℕ). record asked { publish = Some n }) (ranged 65535 word)
with_value asked Key word = option_map (λ (key : List ℕ). record asked { key = Some key }) (key_of word)

-- places are counted up to the greatest number that is told
abbrev pub behind : ℕ → ℕ → ℕ
behind place n = min (place + n) 4294967295

-- what is asked once an option stands at a place, with its value behind it, or the place of the fault
abbrev pub option_with : ℕ → Asked → Option Choice → List ℕ → Result Asked ℕ
option_with place asked None value = Err place
option_with place asked (Some choice) value = ok_or (with_value asked choice value) (behind place 1)

-- the last word names an option, whose value is missing, or may not stand there
abbrev pub option_alone : ℕ → Option Choice → ℕ
option_alone place None = place
option_alone place (Some choice) = behind place 1

-- what comes of a value, or the fault
abbrev pub result_then : {T U E : Type 0} → (T → Result U E) → Result T E → Result U E
result_then f (Ok x) = f x
result_then f (Err e) = Err e

-- what the words from a place on ask beside what was asked before, or the place of the first word after which no
-- continuation is in the grammar, or that behind the words where one is missing
abbrev pub asked_by : ℕ → List (List ℕ) → Asked → Result Asked ℕ
asked_by place [] asked = Ok asked
asked_by place (name ∷ []) asked = Err (option_alone place (free_choice name asked))
asked_by place (name ∷ value ∷ words) asked = result_then (λ (now : Asked). asked_by (behind place 2) words now) (option_with place asked (free_choice name asked) value)

-- an option that wasn't given has its default
abbrev pub options_of : Asked → Options
options_of asked = record { workers = unwrap_or asked.workers 4; sessions = unwrap_or asked.sessions 100000; client = unwrap_or asked.client 7999; publish = unwrap_or asked.publish 5561; key = asked.key }
