-- The opening handshake of a WebSocket (RFC 6455, section 4.2).
use Rattle.std.specs.Prelude.{ℕ, ◌≡◌, ◌==◌, Bool, true, false, ◌&&◌, List, ◌++◌, length, count_by, bytes_eq, codes, Option, Some, None, Result, Ok, Err, if◌then◌else◌, ⊤}
use Rattle.base64.specs.GeneralPurpose.{encode_of, decode_of}
use Rattle.base64.specs.Engines.{standard}
use Rattle.base64.specs.declared.decode.DecodeError.{DecodeError}
use Rattle.sha1.specs.Sha1.{sha1}
use Rattle.gp_plain.specs.declared.item.Field.{Field}
use Rattle.gp_plain.specs.declared.http.Request.{Request}
use Rattle.gp_text.specs.Lists.{first_value, has_part, is_named}
use Rattle.gp_ws.specs.declared.upgrade.UpgradeFault.{UpgradeFault}
use Rattle.gp_ws.specs.declared.upgrade.UpgradeFault.TheVariants.{Method, Version, Key, NoMemory}

-- a request to change to the WebSocket protocol: an `upgrade` field lists `websocket`, and a `connection` field lists `upgrade`
-- (RFC 9110, section 7.8)
abbrev pub is_upgrade : Request → Bool
is_upgrade head = has_part (codes "upgrade") (codes "websocket") head.fields && has_part (codes "connection") (codes "upgrade") head.fields

-- the text that is signed behind a key (section 1.3)
abbrev pub guid : List ℕ
guid = codes "258EAFA5-E914-47DA-95CA-C5AB0DC85B11"

-- what the server answers to a key (section 4.2.2, step 5)
abbrev pub accept_of : List ℕ → List ℕ
accept_of key = encode_of standard (sha1 (key ++ guid))

-- the value of the field of a name, where there is exactly one
abbrev pub only_value : List ℕ → List Field → Option (List ℕ)
only_value name fields = if count_by (is_named name) fields == 1 then first_value name fields else None

abbrev pub is_get : Request → Bool
is_get head = bytes_eq head.method (codes "GET")

abbrev pub is_13 : Option (List ℕ) → Bool
is_13 (Some version) = bytes_eq version (codes "13")
is_13 None = false

-- there is exactly one version, and it is 13
abbrev pub has_version_13 : Request → Bool
has_version_13 head = is_13 (only_value (codes "sec-websocket-version") head.fields)

-- the text is base64 of 16 bytes
abbrev pub has_16_bytes : Result (List ℕ) DecodeError → Bool
has_16_bytes (Ok bytes) = length bytes == 16
has_16_bytes (Err fault) = false

abbrev pub is_key : List ℕ → Bool
is_key text = has_16_bytes (decode_of standard text)

-- there is exactly one key, and it is base64 of 16 bytes
pub record HasKey (head : Request) (key : List ℕ) : Type 0 where
  pub only : only_value (codes "sec-websocket-key") head.fields ≡ Some key
  pub good : is_key key ≡ true

-- the handshake is accepted, and this is the value of the answer's field
pub record IsAccepted (head : Request) (accept : List ℕ) : Type 0 where
  pub get : is_get head ≡ true
  pub version : has_version_13 head ≡ true
  pub key : List ℕ
  pub has : HasKey head key
  pub accept_is : accept ≡ accept_of key

-- the key is refused, and what is tried before it isn't
pub record IsKeyRefused (head : Request) : Type 0 where
  pub get : is_get head ≡ true
  pub version : has_version_13 head ≡ true
  pub none : (key : List ℕ) → HasKey head key → ⊥

-- the first of three faults; want of memory is free
abbrev pub IsUpgradeFault : Request → UpgradeFault → Type 0
IsUpgradeFault head Method = is_get head ≡ false
IsUpgradeFault head Version = (is_get head ≡ true) × (has_version_13 head ≡ false)
IsUpgradeFault head Key = IsKeyRefused head
IsUpgradeFault head NoMemory = ⊤
