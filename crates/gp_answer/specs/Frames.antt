-- The frame of a stream: its head, and then each part in its framing (RFC 9112, section 7.1).
use Rattle.std.specs.Prelude.{ℕ, ◌≡◌, Bool, true, false, List, [], ◌∷◌, ◌++◌, length, codes, Option, Some, None}
use Rattle.std.specs.List.{flat_map}
use Rattle.gp_plain.specs.declared.reply.EndCause.{EndCause}
use Rattle.gp_plain.specs.declared.reply.EndCause.TheVariants.{Closed, Detached, Gap, Unrecovered, Overflow, Answered, Retry, TimedOut}
use Rattle.gp_body.specs.Chunks.{chunk_head}

-- a chunk: its size line, its bytes and CRLF
abbrev pub chunk : List ℕ → List ℕ
chunk bytes = chunk_head (length bytes) ++ (bytes ++ codes "\r\n")

-- a part with at least one byte is one chunk, and one without is none. Without chunks a part is its bytes
abbrev pub framed_by : Bool → List ℕ → List ℕ
framed_by false bytes = bytes
framed_by true [] = []
framed_by true (byte ∷ bytes) = chunk (byte ∷ bytes)

-- the last chunk comes where the stream was closed, and not where it was cut
abbrev pub last_chunk : Bool → Option EndCause → List ℕ
last_chunk false cause = []
last_chunk true None = []
last_chunk true (Some Closed) = codes "0\r\n\r\n"
last_chunk true (Some Detached) = []
last_chunk true (Some Gap) = []
last_chunk true (Some Unrecovered) = []
last_chunk true (Some Overflow) = []
last_chunk true (Some Answered) = []
last_chunk true (Some Retry) = []
last_chunk true (Some TimedOut) = []

abbrev pub frame : Bool → List ℕ → List (List ℕ) → Option EndCause → List ℕ
frame chunked head parts cause = head ++ (flat_map (framed_by chunked) parts ++ last_chunk chunked cause)

-- the frame of more parts grows at its end, by these parts and then by what the cause brings
abbrev pub FrameLaw : Type 0
FrameLaw =
    (chunked : Bool) (head : List ℕ) (parts more : List (List ℕ)) (cause : Option EndCause)
    → frame chunked head (parts ++ more) cause ≡ frame chunked head parts None ++ (flat_map (framed_by chunked) more ++ last_chunk chunked cause)
