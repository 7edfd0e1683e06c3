-- What an origin is told beside a client's request: the token of a moment, and the last item that the client has.
use Rattle.std.specs.Prelude.{ℕ, ◌+◌, ◌-◌, ◌^◌, min, List, ◌++◌, codes, Option, option_map}
use Rattle.gp_plain.specs.declared.http.Signer.{Signer}
use Rattle.gp_sig.specs.Tokens.{token_of}

-- a token counts for an hour, in seconds
abbrev pub expiry : ℕ → ℕ
expiry now = min (now + 3600) (2 ^ 64 - 1)

abbrev pub issuer : List ℕ
issuer = codes "pushpin"

-- the token of a request that goes to the origin at a moment, where there is a key
abbrev pub sig_at : Signer → ℕ → Option (List ℕ)
sig_at signer now = option_map (λ (key : List ℕ). token_of key issuer (expiry now)) signer.key

-- how an origin is told of the last item of a channel that a client has
abbrev pub last_text : List ℕ → List ℕ → List ℕ
last_text channel id = channel ++ codes "; last-id=" ++ id
