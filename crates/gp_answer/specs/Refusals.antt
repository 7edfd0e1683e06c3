-- The answers of the proxy's own (RFC 9110, section 15; RFC 6455, section 4.4).
use Rattle.std.specs.Prelude.{ℕ, List, [], ◌∷◌, ◌++◌, length, bytes_eq, codes, if◌then◌else◌}
use Rattle.gp_plain.specs.declared.item.Field.{Field}
use Rattle.gp_plain.specs.declared.http.Response.{Response}
use Rattle.gp_answer.specs.Answers.{field, close, length_field}
use Rattle.gp_answer.specs.declared.refusal.Refusal.{Refusal}
use Rattle.gp_answer.specs.declared.refusal.Refusal.TheVariants.{BadRequest, OtherSocketVersion, NotFound, MethodNotAllowed, ContentTooLarge, HeadTooLarge, NotImplemented, BadGateway, Unavailable}

abbrev pub code_of : Refusal → ℕ
code_of BadRequest = 400
code_of OtherSocketVersion = 400
code_of NotFound = 404
code_of MethodNotAllowed = 405
code_of ContentTooLarge = 413
code_of HeadTooLarge = 431
code_of NotImplemented = 501
code_of BadGateway = 502
code_of Unavailable = 503

abbrev pub reason_of : Refusal → List ℕ
reason_of BadRequest = codes "Bad Request"
reason_of OtherSocketVersion = codes "Bad Request"
reason_of NotFound = codes "Not Found"
reason_of MethodNotAllowed = codes "Method Not Allowed"
reason_of ContentTooLarge = codes "Content Too Large"
reason_of HeadTooLarge = codes "Request Header Fields Too Large"
reason_of NotImplemented = codes "Not Implemented"
reason_of BadGateway = codes "Bad Gateway"
reason_of Unavailable = codes "Service Unavailable"

-- a WebSocket client of another version is told the one that is served
abbrev pub told_version : Refusal → List Field
told_version OtherSocketVersion = field (codes "sec-websocket-version") (codes "13") ∷ []
told_version BadRequest = []
told_version NotFound = []
told_version MethodNotAllowed = []
told_version ContentTooLarge = []
told_version HeadTooLarge = []
told_version NotImplemented = []
told_version BadGateway = []
told_version Unavailable = []

-- a text of so many bytes
abbrev pub text_head : ℕ → List ℕ → List Field → ℕ → Response
text_head code reason more bytes =
    record { version = 1; code = code; reason = reason; fields = field (codes "content-type") (codes "text/plain") ∷ length_field bytes ∷ (more ++ close ∷ []) }

-- the reason and a line feed
abbrev pub text_of : Refusal → List ℕ
text_of refusal = reason_of refusal ++ codes "\n"

abbrev pub refusal_head : Refusal → Response
refusal_head refusal = text_head (code_of refusal) (reason_of refusal) (told_version refusal) (length (text_of refusal))

-- there is no body in an answer to HEAD
abbrev pub refusal_body : Refusal → List ℕ → List ℕ
refusal_body refusal method = if bytes_eq method (codes "HEAD") then [] else text_of refusal

-- all items of a publish request stand
abbrev pub published_text : List ℕ
published_text = codes "Published\n"

abbrev pub published_head : Response
published_head = text_head 200 (codes "OK") [] (length published_text)
