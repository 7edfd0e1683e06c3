-- What the parser's answer for a head text says: the head that the text is, or that it is none.
use Rattle.std.proofs.Common.{◌≡◌, ℕ, ◌≤◌, List, [], ◌∷◌, ◌++◌, length, take, drop, map, Option, Some, refl, sym, ap, ◌∙◌, subst, arith, append-nil}
use Rattle.std.proofs.lemmas.List.{drop_all}
use Rattle.httparse.specs.Grammar.{Field as Line, RequestHead, ReadsRequest, ResponseHead, ReadsResponse, HasNoRequest, HasNoResponse}
use Rattle.httparse.specs.Spans.{header_bytes, name_and_value, span_bytes, AreFieldsAt, IsRequestAt, IsResponseAt, RequestOverflows, ResponseOverflows}
use Rattle.httparse.specs.declared.spans.HeaderSpan.{HeaderSpan}
use Rattle.httparse.specs.declared.spans.RequestSpans.{RequestSpans}
use Rattle.httparse.specs.declared.spans.ResponseSpans.{ResponseSpans}
use Rattle.gp_plain.specs.declared.item.Field.{Field}
use Rattle.gp_head.specs.Lines.{begun_fields, head_end}
use Rattle.gp_head.specs.Heads.{field_named, field_of, field_at, IsRequestText, IsResponseText, IsNoText}
use Rattle.gp_head.proofs.GrammarEnds.{request_ends, response_ends}

map-map : {A B C : Type 0} (f : B → C) (g : A → B) (xs : List A) → map f (map g xs) ≡ map (λ (x : A). f (g x)) xs
map-map f g [] = refl
map-map {C = C} f g (x ∷ xs) = ap (λ (ys : List C). f (g x) ∷ ys) (map-map f g xs)

-- the fields at the spans are those of the head
fields_at_spans : (text : List ℕ) (headers : List HeaderSpan) (count : ℕ) (lines : List Line) → AreFieldsAt text headers count lines
    → map (field_at text) (take count headers) ≡ map field_of lines
fields_at_spans text headers count lines at =
    sym (map-map field_named (header_bytes text) (take count headers)) ∙ ap (map field_named) at ∙ map-map field_named name_and_value lines

-- a head that is all that the text has up to its end is the whole text
whole_text : (text : List ℕ) (n : ℕ) → head_end text ≡ Some (length text) → head_end text ≡ Some n → drop n text ≡ []
whole_text text n ends found =
    let same : ◌≡◌ {A = Option ℕ} (Some (length text)) (Some n) = sym ends ∙ found in
    let number : length text ≡ n = cc in
    drop_all n text (omega arith)

pub request_of_spans : (text : List ℕ) (headers : List HeaderSpan) (r : RequestSpans) (h : RequestHead) (method target : List ℕ) (fields : List Field)
    → IsRequestAt text headers r h → head_end text ≡ Some (length text)
    → method ≡ span_bytes text r.method → target ≡ span_bytes text r.path → fields ≡ map (field_at text) (take r.headers headers)
    → IsRequestText text (record { method = method; target = target; version = r.version; fields = fields })
request_of_spans text headers r h method target fields at ends method_is target_is are =
    let all : drop r.len text ≡ [] = whole_text text r.len ends ((request_ends text h (drop r.len text) at.reads).0 ∙ ap (λ (n : ℕ). Some n) (sym at.len)) in
    let same = are ∙ fields_at_spans text headers r.headers h.fields at.fields in
    let methods = method_is ∙ at.method in
    let targets = target_is ∙ at.path in (
      h,
      subst (ReadsRequest text h) all at.reads,
      λ i. record { method = methods i; target = targets i; version = at.version i; fields = same i },
    )

pub response_of_spans : (text : List ℕ) (headers : List HeaderSpan) (r : ResponseSpans) (h : ResponseHead) (reason : List ℕ) (fields : List Field)
    → IsResponseAt text headers r h → head_end text ≡ Some (length text)
    → reason ≡ span_bytes text r.reason → fields ≡ map (field_at text) (take r.headers headers)
    → IsResponseText text (record { version = r.version; code = r.code; reason = reason; fields = fields })
response_of_spans text headers r h reason fields at ends reason_is are =
    let all : drop r.len text ≡ [] = whole_text text r.len ends ((response_ends text h (drop r.len text) at.reads).0 ∙ ap (λ (n : ℕ). Some n) (sym at.len)) in
    let same = are ∙ fields_at_spans text headers r.headers h.fields at.fields in
    let reasons = reason_is ∙ at.reason in (
      h,
      subst (ReadsResponse text h) all at.reads,
      λ i. record { version = at.version i; code = at.code i; reason = reasons i; fields = same i },
    )

pub no_request : (text : List ℕ) → HasNoRequest text → IsNoText IsRequestText text
no_request text none request x = none x.0 [] x.1

pub no_response : (text : List ℕ) → HasNoResponse text → IsNoText IsResponseText text
no_response text none response x = none x.0 [] x.1

-- with no more field lines than there is room for, an error says that the text is no head
pub no_request_in_room : (text : List ℕ) → RequestOverflows 64 text → begun_fields text ≤ 64 → IsNoText IsRequestText text
no_request_in_room text over few request x =
    let reads : ReadsRequest (text ++ []) x.0 [] = subst (λ (t : List ℕ). ReadsRequest t x.0 []) (sym (append-nil text)) x.1 in
    absurd (omega (arith, over [] x.0 [] reads, (request_ends text x.0 [] x.1).1))

pub no_response_in_room : (text : List ℕ) → ResponseOverflows 64 text → begun_fields text ≤ 64 → IsNoText IsResponseText text
no_response_in_room text over few response x =
    let reads : ReadsResponse (text ++ []) x.0 [] = subst (λ (t : List ℕ). ReadsResponse t x.0 []) (sym (append-nil text)) x.1 in
    absurd (omega (arith, over [] x.0 [] reads, (response_ends text x.0 [] x.1).1))
