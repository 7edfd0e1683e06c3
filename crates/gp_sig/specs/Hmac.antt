-- HMAC over SHA-256 (RFC 2104, section 2).
use Rattle.std.specs.Prelude.{ℕ, ◌-◌, ◌++◌, List, map, length, replicate, nat_lt, if◌then◌else◌, bit_xor}
use Rattle.sha2.specs.Sha256.{sha256}

-- a key longer than a block of 64 bytes is hashed first
abbrev pub short_key : List ℕ → List ℕ
short_key key = if nat_lt 64 (length key) then sha256 key else key

-- zeros are put behind it, up to a block
abbrev pub block : List ℕ → List ℕ
block key = short_key key ++ replicate (64 - length (short_key key)) 0

-- each byte of the block, exclusive or with the pad
abbrev pub padded : ℕ → List ℕ → List ℕ
padded pad key = map (λ b. bit_xor b pad) (block key)

-- H(K xor opad, H(K xor ipad, text)), where ipad is 0x36 and opad is 0x5c
abbrev pub hmac_of : List ℕ → List ℕ → List ℕ
hmac_of key text = sha256 (padded 92 key ++ sha256 (padded 54 key ++ text))
