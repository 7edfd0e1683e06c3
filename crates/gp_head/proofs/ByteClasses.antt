-- The classes of bytes of `httparse` and those of `http_header` are the same (RFC 9110, sections 5.1, 5.5 and 5.6.2).
use Rattle.std.proofs.Common.{◌≡◌, ℕ, List, refl}
use Rattle.httparse.specs.Grammar as grammar
use Rattle.http_header.specs.Token as header

-- a byte of a token
pub is_token_byte_same : (b : ℕ) → grammar.is_token_byte b ≡ header.is_token_byte b
unfolding grammar.is_token_byte header.is_token_byte
is_token_byte_same b = refl

-- a byte of a value
pub is_value_byte_same : (b : ℕ) → grammar.is_value_byte b ≡ header.is_value_byte b
is_value_byte_same b = refl

-- a token
pub IsToken-to_header : (bytes : List ℕ) → grammar.IsToken bytes → header.IsToken bytes
unfolding grammar.is_token_byte header.is_token_byte
IsToken-to_header bytes token = token

pub IsToken-from_header : (bytes : List ℕ) → header.IsToken bytes → grammar.IsToken bytes
unfolding grammar.is_token_byte header.is_token_byte
IsToken-from_header bytes token = token
