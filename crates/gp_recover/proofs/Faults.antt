-- Why an answer is no page, by its head, by the length of its content, and by its instruction.
use Rattle.std.proofs.Common.{◌≡◌, ℕ, ◌<◌, ◌≤◌, ◌++◌, Bool, true, false, List, [], ◌∷◌, length, Option, Some, None, Ok, Err, IsOk, refl, sym, subst, ◌-◌, length-append, inl, inr, arith}
use Rattle.gp_plain.specs.declared.http.Response.{Response}
use Rattle.gp_instruct.specs.declared.instruct.Instruct.{Instruct as Given}
use Rattle.gp_instruct.specs.declared.instruct.Mode.{Mode}
use Rattle.gp_instruct.specs.declared.instruct.Mode.TheVariants.{Response as Poll, Stream as Open}
use Rattle.gp_plain.specs.declared.event.Then.{Then}
use Rattle.gp_plain.specs.declared.event.Then.TheVariants.{Hold, Next, End}
use Rattle.gp_recover.specs.declared.page.Page.{Page}
use Rattle.std.specs.Prelude.{unwrap_or}
use Rattle.std.proofs.lemmas.Bool.{lt-ltb}
use Rattle.gp_instruct.specs.declared.fault.InstructFault.TheVariants.{Link}
use Rattle.gp_instruct.specs.Heads.{AreLinksRead, IsFirstLink, IsFirstLinkFault, IsInstruct, IsLinksFault}
use Rattle.gp_instruct.specs.Taken.{IsLinkOf, IsLinkFault}
use Rattle.gp_instruct.specs.Links.{part}
use Rattle.gp_instruct.specs.Targets.{IsTarget}
use Rattle.gp_instruct.specs.Page as told
use Rattle.gp_instruct_json.specs.Answers.{IsAnswer, IsAnswerBy, IsAnswerRefused, IsRefusedBy}
use Rattle.gp_instruct_json.specs.Kinds.{has_type}
use Rattle.gp_instruct_json.specs.Pages.{IsLongBy, IsShortBy}
use Rattle.gp_instruct_json.specs.declared.answer.Answer.{Answer}
use Rattle.gp_recover.specs.declared.page.PageFault.{PageFault}
use Rattle.gp_recover.specs.declared.page.PageFault.TheVariants.{Exchange, Code, Instruct, Channel, TooLong}
use Rattle.gp_recover.specs.Pages.{IsFaultOf, IsGivenFault, IsPageOf, PagesBy}
use Rattle.gp_recover.specs.declared.reader.Unread.{Unread}
use Rattle.gp_recover.specs.Reading.{IsFault, IsUnread, IsHeadOpen, IsOpen, IsOpenBy, ReadingView, most_by, most_read}

-- a link that is read isn't refused

one_way : (value : List ℕ) (link : Option (List ℕ)) (place : ℕ) → IsLinkOf value link → IsLinkFault value (Link place) → ⊥
one_way value None place of (inl (n, stop, at)) = absurd cc
one_way value None place of (inr (span, whole, not, at)) = absurd cc
one_way value (Some uri) place (span, whole, is, target) (inl (n, stop, at)) = absurd cc
one_way value (Some uri) place (span, whole, is, target) (inr (other, again, not, at)) =
    let same : span ≡ other = cc in
    not (subst (λ s. IsTarget (part value s)) same (subst IsTarget is target))

links_one_way : (given : List (List ℕ)) (link : Option (List ℕ)) (place : ℕ) → IsFirstLink given link → IsFirstLinkFault given (Link place) → ⊥
links_one_way [] link place first fault = absurd fault
links_one_way (value ∷ more) link place (inl (some, of)) (inl fault) = one_way value link place of fault
links_one_way (value ∷ more) (Some uri) place (inl (some, of)) (inr (none, fault)) = absurd cc
links_one_way (value ∷ more) None place (inl (some, of)) (inr (none, fault)) = absurd cc
links_one_way (value ∷ more) link place (inr (none, first)) (inl fault) = one_way value None place none fault
links_one_way (value ∷ more) link place (inr (none, first)) (inr (again, fault)) = links_one_way more link place first fault

-- what is told of an answer that was read

pub given_fault : (head : Response) (content channel from : List ℕ) (answer : Answer) → head.code ≡ 200 → IsShortBy (has_type head.fields) content → IsAnswer head content answer → (fault : PageFault)
    → IsGivenFault (told.page answer.instruct answer.body channel from) fault → IsFaultOf head content channel from fault
given_fault head content channel from answer ok short asks (Exchange fault) is = is
given_fault head content channel from answer ok short asks (Code code) is = absurd is
given_fault head content channel from answer ok short asks Instruct is = inl (record { ok = ok; short = short; answer = answer; asks = asks; page_is = sym is })
given_fault head content channel from answer ok short asks Channel is = record { ok = ok; short = short; answer = answer; asks = asks; page_is = sym is }
given_fault head content channel from answer ok short asks TooLong is = inl (record { ok = ok; short = short; answer = answer; asks = asks; page_is = sym is })

-- of one whose fields are its instruction

fields_short : (head : Response) (content : List ℕ) → has_type head.fields ≡ false → IsShortBy (has_type head.fields) content
fields_short head content untyped = subst (λ b. IsShortBy b content) (sym untyped) tt

fields_asks : (head : Response) (content : List ℕ) → has_type head.fields ≡ false → (given : Option Given) → IsInstruct head.fields given → IsAnswer head content (record { instruct = given; head = head; body = content })
fields_asks head content untyped given gives =
    subst (λ b. IsAnswerBy b head content (record { instruct = given; head = head; body = content })) (sym untyped) (record { instruct = gives; head_is = refl; body_is = refl })

pub fields_fault : (head : Response) → head.code ≡ 200 → has_type head.fields ≡ false → (given : Option Given) → IsInstruct head.fields given → (content channel from : List ℕ) (fault : PageFault)
    → IsGivenFault (told.page given content channel from) fault → IsFaultOf head content channel from fault
fields_fault head ok untyped given gives content channel from fault is =
    given_fault head content channel from (record { instruct = given; head = head; body = content }) ok (fields_short head content untyped) (fields_asks head content untyped given gives) fault is

pub fields_refused : (head : Response) → head.code ≡ 200 → has_type head.fields ≡ false → IsRefusedBy false head [] → (content channel from : List ℕ) → IsFaultOf head content channel from Instruct
fields_refused head ok untyped refused content channel from =
    inr (inl (record { ok = ok; short = fields_short head content untyped; refused = subst (λ b. IsRefusedBy b head content) (sym untyped) refused }))

pub fields_open : (head : Response) → head.code ≡ 200 → has_type head.fields ≡ false → (given : Option Given) → IsInstruct head.fields given → (channel : List ℕ)
    → ((from : List ℕ) → IsOk (told.page given [] channel from)) → (from : List ℕ) → IsHeadOpen head channel from
fields_open head ok untyped given gives channel page from =
    record { code = ok; goes = subst (λ b. IsOpenBy b head channel from) (sym untyped) (record { given = given; gives = gives; page = page from }) }

-- of one whose body is its instruction

pub link_refused : (head : Response) → head.code ≡ 200 → has_type head.fields ≡ true → (place : ℕ) → IsLinksFault head.fields (Link place) → (content channel from : List ℕ) → IsFaultOf head content channel from Instruct
link_refused head ok typed place refused content channel from = inr (inr (record { ok = ok; typed = typed; place = place; refused = refused }))

pub link_open : (head : Response) → head.code ≡ 200 → has_type head.fields ≡ true → (link : Option (List ℕ)) → AreLinksRead head.fields link → (channel from : List ℕ) → IsHeadOpen head channel from
link_open head ok typed link read channel from =
    record { code = ok; goes = subst (λ b. IsOpenBy b head channel from) (sym typed) (λ place fault. links_one_way _ link place read fault) }

-- content that is too long

up_to_long : (follows : Then) (to bytes : List ℕ) (link : Option (List ℕ)) → told.max_page < length bytes → told.page_up_to follows (Some to) bytes link ≡ Err told.TooLong
up_to_long follows to bytes link lt = rw (lt-ltb told.max_page (length bytes) lt)

by_parts_long : (mode : Option Mode) (link prev : Option (List ℕ)) (bytes from : List ℕ) → IsOk (told.page_by mode link prev [] from) → told.max_page < length bytes → told.page_by mode link prev bytes from ≡ Err told.TooLong
by_parts_long (Some Poll) link prev bytes from ok lt = absurd cc
by_parts_long (Some Open) link None bytes from ok lt = absurd cc
by_parts_long (Some Open) link (Some to) bytes from ok lt = up_to_long Hold to bytes link lt
by_parts_long None (Some link) None bytes from ok lt = absurd cc
by_parts_long None (Some link) (Some to) bytes from ok lt = up_to_long Next to bytes (Some link) lt
by_parts_long None None prev bytes from ok lt = up_to_long End (unwrap_or prev from) bytes None lt

too_long : (given : Option Given) (bytes channel from : List ℕ) → IsOk (told.page given [] channel from) → told.max_page < length bytes → told.page given bytes channel from ≡ Err told.TooLong
too_long None bytes channel from ok lt = up_to_long End from bytes None lt
too_long (Some given) bytes channel from ok lt = by_parts_long given.mode given.link (told.prev_on channel given.subs) bytes from ok lt

long_by : (b : Bool) (head : Response) (content channel from : List ℕ) → head.code ≡ 200 → has_type head.fields ≡ b → IsOpenBy b head channel from → most_by b < length content → IsFaultOf head content channel from TooLong
long_by true head content channel from ok typed goes lt = inr (record { ok = ok; long = subst (λ b. IsLongBy b content) (sym typed) lt; links = goes })
long_by false head content channel from ok untyped goes lt =
    fields_fault head ok untyped goes.given goes.gives content channel from TooLong (too_long goes.given content channel from goes.page lt)

pub long : (r : ReadingView) → IsOpen r → (content : List ℕ) → most_read r.head < length content → IsFaultOf r.head content r.channel r.from TooLong
long r o content lt = long_by (has_type r.head.fields) r.head content r.channel r.from o.head.code refl o.head.goes lt

-- a whole answer

short_by : (b : Bool) (content : List ℕ) → length content ≤ most_by b → IsShortBy b content
short_by true content le = le
short_by false content le = tt

pub whole_page : (r : ReadingView) → IsOpen r → (answer : Answer) → IsAnswer r.head r.content answer → (page : Page) → PagesBy (Ok page) (told.page answer.instruct answer.body r.channel r.from) → IsPageOf r.head r.content r.channel r.from page
whole_page r o answer asks page is = record { ok = o.head.code; short = short_by _ r.content o.short; answer = answer; asks = asks; page_is = sym is }

pub whole_fault : (r : ReadingView) → IsOpen r → (answer : Answer) → IsAnswer r.head r.content answer → (fault : PageFault) → IsGivenFault (told.page answer.instruct answer.body r.channel r.from) fault → IsFaultOf r.head r.content r.channel r.from fault
whole_fault r o answer asks fault is = given_fault r.head r.content r.channel r.from answer o.head.code (short_by _ r.content o.short) asks fault is

pub whole_refused : (r : ReadingView) → IsOpen r → IsAnswerRefused r.head r.content → IsFaultOf r.head r.content r.channel r.from Instruct
whole_refused r o refused = inr (inl (record { ok = o.head.code; short = short_by _ r.content o.short; refused = refused }))

-- parts of the content

pub long_part : (r : ReadingView) → IsOpen r → (part : List ℕ) → most_read r.head - length r.content < length part → (rest : List ℕ) → IsFaultOf r.head ((r.content ++ part) ++ rest) r.channel r.from TooLong
long_part r o part lt rest =
    let one = length-append (r.content ++ part) rest in
    let two = length-append r.content part in
    long r o ((r.content ++ part) ++ rest) (omega (arith, lt, one, two))

pub more_short : (r : ReadingView) (part : List ℕ) → length r.content ≤ most_read r.head → length part ≤ most_read r.head - length r.content → length (r.content ++ part) ≤ most_read r.head
more_short r part short le = let two = length-append r.content part in omega (arith, short, le, two)

pub new_open : (head : Response) (channel from : List ℕ) → IsHeadOpen head channel from → IsOpen (record { head = head; channel = channel; from = from; content = [] })
new_open head channel from o = record { head = o; short = zero_short (has_type head.fields) }
  where
    zero_short : (b : Bool) → 0 ≤ most_by b
    zero_short b = omega arith

pub head_unread : (head : Response) (channel from : List ℕ) (unread : Unread) → ((content behind : List ℕ) → IsFault head content channel behind unread) → IsUnread head [] channel from unread
head_unread head channel from unread fault = λ rest. fault rest from
