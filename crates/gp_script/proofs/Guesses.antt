-- An event is guessed from its own words.
use Rattle.std.proofs.Common.{◌≡◌, ℕ, ◌^◌, ◌<◌, min, nat_le, eqb, Bool, true, false, not, ◌&&◌, cond, List, [], ◌∷◌, length, All, map, Option, Some, None, refl, ap, sym, subst, ◌∙◌, arith, codes}
use mathlib.Core.Bool.{true≢false}
use Rattle.std.specs.List.{slice_split, list_all}
use Rattle.std.specs.Fmt.{decimal}
use Rattle.std.specs.Option.{option_map}
use Rattle.std.proofs.lemmas.Bool.{and_parts, eqb-true}
use Rattle.std.proofs.lemmas.List.{nil_from_length}
use Rattle.std.proofs.lemmas.List.Elements.{All-nil, All-cons, All-head, All-tail, All-append}
use Rattle.gp_plain.specs.Fit.{fits, fits_channels, is_short_page}
use Rattle.gp_plain.specs.declared.item.Item.{Item}
use Rattle.gp_plain.specs.declared.item.Field.{Field}
use Rattle.gp_plain.specs.declared.item.ResponsePart.{ResponsePart}
use Rattle.gp_plain.specs.declared.item.StreamPart.{StreamPart}
use Rattle.gp_plain.specs.declared.item.StreamPart.TheVariants.{Content, Close as StreamClose}
use Rattle.gp_plain.specs.declared.item.MessagePart.{MessagePart}
use Rattle.gp_plain.specs.declared.item.MessagePart.TheVariants.{Text as TextPart, Binary as BinaryPart, Close as MessageClose}
use Rattle.gp_plain.specs.declared.item.Message.{Message}
use Rattle.gp_plain.specs.declared.item.Message.TheVariants.{Text, Binary, Ping, Pong, Close}
use Rattle.gp_plain.specs.declared.event.Event.{Event}
use Rattle.gp_plain.specs.declared.event.Event.TheVariants.{Attach, Publish, Take, Page, PageFailed, Push, Join, Leave, Detach}
use Rattle.gp_plain.specs.declared.event.HoldSpec.{HoldSpec}
use Rattle.gp_plain.specs.declared.event.HoldSpec.TheVariants.{Stream, Plain, Response, Socket}
use Rattle.gp_plain.specs.declared.event.Then.{Then}
use Rattle.gp_plain.specs.declared.event.Then.TheVariants.{Hold, Next, End}
use Rattle.gp_script.specs.declared.fault.LineFault.{LineFault}
use Rattle.gp_script.specs.declared.fault.LineFault.TheVariants.{Bad, NoMemory}
use Rattle.gp_script.specs.Faults.{IfBad}
use Rattle.gp_script.specs.Spelling.{word, id_word, names_word, joined}
use Rattle.gp_script.specs.Lines.{IsNamed, IsItem, IsMessage, IsResponsePart, IsStreamPart, IsMessagePart, IsEvent, IsSpec, IsInGrammar, Spells, words_of, spec_words, parts_words, item_line, push_words, link_word, again_word, then_word}
use Rattle.gp_script.specs.Guess.{is_word, number_of, bytes_of, id_of, names_of, event_of, then_of}
use Rattle.gp_script.proofs.Escapes.{word_spaceless, word_commaless, bytes_of-word, id_of-word}
use Rattle.gp_script.proofs.Numbers.{number_of-decimal, decimal_spaceless}
use Rattle.gp_script.proofs.Cuts.{Marked, slice_split-joined}

-- ---- words without spaces

abbrev Spaceless : List ℕ → Type 0
Spaceless w = All (λ (b : ℕ). eqb b 32 ≡ false) w

not-true : (t : Bool) → not t ≡ true → t ≡ false
not-true true e = sym e
not-true false e = refl

text : (xs : List ℕ) → list_all (λ (b : ℕ). not (eqb b 32)) xs ≡ true → Spaceless xs
text [] e = All-nil (λ (b : ℕ). eqb b 32 ≡ false)
text (x ∷ xs) e = let both = and_parts (not (eqb x 32)) (list_all (λ (b : ℕ). not (eqb b 32)) xs) e in All-cons (λ (b : ℕ). eqb b 32 ≡ false) x xs (not-true (eqb x 32) both.0) (text xs both.1)

id_spaceless : (id : Option (List ℕ)) → Spaceless (id_word id)
id_spaceless None = text (codes "!") refl
id_spaceless (Some id) = word_spaceless id

names_spaceless : (names : List (List ℕ)) → Spaceless (names_word names)
names_spaceless [] = text [] refl
names_spaceless (n ∷ []) = word_spaceless n
names_spaceless (n ∷ m ∷ more) =
    All-append (λ (b : ℕ). eqb b 32 ≡ false) (word n) (44 ∷ names_word (m ∷ more)) (word_spaceless n) (All-cons (λ (b : ℕ). eqb b 32 ≡ false) 44 (names_word (m ∷ more)) refl (names_spaceless (m ∷ more)))

link_spaceless : (link : Bool) → Spaceless (link_word link)
link_spaceless true = text (codes "link") refl
link_spaceless false = text (codes "nolink") refl

again_spaceless : (again : Bool) → Spaceless (again_word again)
again_spaceless true = text (codes "again") refl
again_spaceless false = text (codes "first") refl

then_spaceless : (then : Then) → Spaceless (then_word then)
then_spaceless Hold = text (codes "hold") refl
then_spaceless Next = text (codes "next") refl
then_spaceless End = text (codes "end") refl

-- ---- words that are read back

link_back : (link : Bool) → is_word (link_word link) (codes "link") ≡ link
link_back true = refl
link_back false = refl

again_back : (again : Bool) → is_word (again_word again) (codes "again") ≡ again
again_back true = refl
again_back false = refl

then_back : (then : Then) → then_of (then_word then) ≡ then
then_back Hold = refl
then_back Next = refl
then_back End = refl

commaless : (names : List (List ℕ)) → Marked 44 (map word names)
commaless [] = tt
commaless (n ∷ names) = (word_commaless n, commaless names)

each_back : (names : List (List ℕ)) → All IsNamed names → map bytes_of (map word names) ≡ names
each_back [] h = refl
each_back (n ∷ names) h =
    ap (λ (x : List ℕ). x ∷ map bytes_of (map word names)) (bytes_of-word n (All-head IsNamed n names h).small)
    ∙ ap (λ (xs : List (List ℕ)). n ∷ xs) (each_back names (All-tail IsNamed n names h))

names_back : (names : List (List ℕ)) → fits_channels names ≡ true → All IsNamed names → names_of (names_word names) ≡ names
names_back [] fit h = absurd (true≢false (sym fit))
names_back (n ∷ names) fit h = ap (map bytes_of) (slice_split-joined 44 (word n) (map word names) (commaless (n ∷ names))) ∙ each_back (n ∷ names) h

code_back : (code : ℕ) → code < 2 ^ 16 → min (number_of (decimal code)) 65535 ≡ code
code_back code small = ap (λ (n : ℕ). min n 65535) (number_of-decimal code (omega arith)) ∙ omega arith

-- ---- events

-- these words have no spaces, and the event is guessed from them
pub record Good (event : Event) (words : List (List ℕ)) : Type 0 where
  pub some : 0 < length words
  pub marked : Marked 32 words
  pub back : event_of words ≡ event

good_spec : (spec : HoldSpec) → IsSpec spec → fits (Attach spec) ≡ true → Good (Attach spec) (spec_words spec)
good_spec Socket h fit = record { some = omega arith; marked = (text (codes "attach") refl, (text (codes "socket") refl, tt)); back = refl }
good_spec (Stream opening channel prev link) h fit = record {
  some = omega arith;
  marked = (text (codes "attach") refl, (text (codes "stream") refl, (word_spaceless channel, (word_spaceless prev, (link_spaceless link, (word_spaceless opening, tt))))));
  back =
      ap (λ (x : List ℕ). Attach (Stream x (bytes_of (word channel)) (bytes_of (word prev)) (is_word (link_word link) (codes "link")))) (bytes_of-word opening h.0)
      ∙ ap (λ (x : List ℕ). Attach (Stream opening x (bytes_of (word prev)) (is_word (link_word link) (codes "link")))) (bytes_of-word channel h.1.small)
      ∙ ap (λ (x : List ℕ). Attach (Stream opening channel x (is_word (link_word link) (codes "link")))) (bytes_of-word prev h.2.small)
      ∙ ap (λ (x : Bool). Attach (Stream opening channel prev x)) (link_back link);
}
good_spec (Plain opening channels) h fit = record {
  some = omega arith;
  marked = (text (codes "attach") refl, (text (codes "plain") refl, (names_spaceless channels, (word_spaceless opening, tt))));
  back =
      ap (λ (x : List ℕ). Attach (Plain x (names_of (names_word channels)))) (bytes_of-word opening h.0)
      ∙ ap (λ (x : List (List ℕ)). Attach (Plain opening x)) (names_back channels (and_parts (is_short_page opening) (fits_channels channels) fit).1 h.1);
}
good_spec (Response channels prev deadline again) h fit = record {
  some = omega arith;
  marked = (text (codes "attach") refl, (text (codes "response") refl, (names_spaceless channels, (id_spaceless prev, (decimal_spaceless deadline h.2, (again_spaceless again, tt))))));
  back =
      ap (λ (x : List (List ℕ)). Attach (Response x (id_of (id_word prev)) (number_of (decimal deadline)) (is_word (again_word again) (codes "again")))) (names_back channels (and_parts (fits_channels channels) _ fit).0 h.0)
      ∙ ap (λ (x : Option (List ℕ)). Attach (Response channels x (number_of (decimal deadline)) (is_word (again_word again) (codes "again")))) (id_of-word prev h.1)
      ∙ ap (λ (x : ℕ). Attach (Response channels prev x (is_word (again_word again) (codes "again")))) (number_of-decimal deadline h.2)
      ∙ ap (λ (x : Bool). Attach (Response channels prev deadline x)) (again_back again);
}

some_is : {A : Type 0} (x y : A) → Some x ≡ Some y → x ≡ y
some_is x y e = cc

none_isnt : {A : Type 0} (x : A) → None ≡ Some x → ⊥
none_isnt x e = cc

-- these words are those
abbrev From : Event → List (List ℕ) → List (List ℕ) → Type 0
From event own words = Some own ≡ Some words → Good event words

from : (event : Event) (own words : List (List ℕ)) → Good event own → From event own words
from event own words g e = subst (Good event) (some_is own words e) g

-- ---- items

same_item : (item : Item) (c : List ℕ) (i p : Option (List ℕ)) (r : Option ResponsePart) (s : Option StreamPart) (m : Option MessagePart)
    → c ≡ item.channel → i ≡ item.id → p ≡ item.prev → r ≡ item.response → s ≡ item.stream → m ≡ item.message
    → (let made : Item = record { channel = c; id = i; prev = p; response = r; stream = s; message = m } in made) ≡ item
same_item item c i p r s m ec ei ep er es em =
    let make : List ℕ → Option (List ℕ) → Option (List ℕ) → Option ResponsePart → Option StreamPart → Option MessagePart → Item = λ c i p r s m. record { channel = c; id = i; prev = p; response = r; stream = s; message = m } in
    ap (λ (x : List ℕ). make x i p r s m) ec
    ∙ ap (λ (x : Option (List ℕ)). make item.channel x p r s m) ei
    ∙ ap (λ (x : Option (List ℕ)). make item.channel item.id x r s m) ep
    ∙ ap (λ (x : Option ResponsePart). make item.channel item.id item.prev x s m) er
    ∙ ap (λ (x : Option StreamPart). make item.channel item.id item.prev item.response x m) es
    ∙ ap (λ (x : Option MessagePart). make item.channel item.id item.prev item.response item.stream x) em

head_spaceless : (lead : List ℕ) (item : Item) (more : List (List ℕ)) → Spaceless lead → Marked 32 more → Marked 32 (item_line lead item more)
head_spaceless lead item more first rest = (first, (word_spaceless item.channel, (id_spaceless item.id, (id_spaceless item.prev, rest))))

item_back : (item : Item) (r : Option ResponsePart) (s : Option StreamPart) (m : Option MessagePart) → IsItem item → r ≡ item.response → s ≡ item.stream → m ≡ item.message
    → (let made : Item = record { channel = bytes_of (word item.channel); id = id_of (id_word item.id); prev = id_of (id_word item.prev); response = r; stream = s; message = m } in Publish made) ≡ Publish item
item_back item r s m h er es em = ap Publish (same_item item _ _ _ r s m (bytes_of-word item.channel h.channel.small) (id_of-word item.id h.id) (id_of-word item.prev h.prev) er es em)

cond_some : {A : Type 0} (t : Bool) (x y : A) → cond t (Some x) None ≡ Some y → (t ≡ true) × (x ≡ y)
cond_some true x y e = (refl, some_is x y e)
cond_some false x y e = absurd (none_isnt y e)

none_of : {A : Type 0} (xs : List A) → eqb (length xs) 0 ≡ true → xs ≡ []
none_of xs e = nil_from_length xs (eqb-true (length xs) 0 e)

answer_is : (part : ResponsePart) (code : ℕ) (body : List ℕ) → code ≡ part.code → body ≡ part.body → part.reason ≡ [] → part.fields ≡ []
    → (let made : ResponsePart = record { code = code; reason = []; fields = []; body = body } in made) ≡ part
answer_is part code body ec eb er ef =
    let make : ℕ → List ℕ → List Field → List ℕ → ResponsePart = λ c r f b. record { code = c; reason = r; fields = f; body = b } in
    ap (λ (x : ℕ). make x [] [] body) ec
    ∙ ap (λ (x : List ℕ). make part.code x [] body) (sym er)
    ∙ ap (λ (x : List Field). make part.code part.reason x body) (sym ef)
    ∙ ap (λ (x : List ℕ). make part.code part.reason part.fields x) eb

good_item : (item : Item) (r : Option ResponsePart) (s : Option StreamPart) (m : Option MessagePart) (words : List (List ℕ)) → IsItem item → r ≡ item.response → s ≡ item.stream → m ≡ item.message
    → IsResponsePart r → IsStreamPart s → IsMessagePart m
    → parts_words item r s m ≡ Some words → Good (Publish item) words
good_item item None None None words h er es em hr hs hm e =
    from (Publish item) (item_line (codes "bare") item []) words
    (record { some = omega arith; marked = head_spaceless (codes "bare") item [] (text (codes "bare") refl) tt; back = item_back item None None None h er es em }) e
good_item item None (Some (Content bytes)) None words h er es em hr hs hm e =
    from (Publish item) (item_line (codes "publish") item (word bytes ∷ [])) words
    (record {
      some = omega arith;
      marked = head_spaceless (codes "publish") item (word bytes ∷ []) (text (codes "publish") refl) (word_spaceless bytes, tt);
      back = item_back item None (Some (Content (bytes_of (word bytes)))) None h er (ap (λ (x : List ℕ). Some (Content x)) (bytes_of-word bytes hs) ∙ es) em;
    }) e
good_item item None (Some StreamClose) None words h er es em hr hs hm e =
    from (Publish item) (item_line (codes "close") item []) words
    (record { some = omega arith; marked = head_spaceless (codes "close") item [] (text (codes "close") refl) tt; back = item_back item None (Some StreamClose) None h er es em }) e
good_item item (Some part) None None words h er es em hr hs hm e =
    let own = item_line (codes "answer") item (decimal part.code ∷ word part.body ∷ []) in
    let split = cond_some (eqb (length part.reason) 0 && eqb (length part.fields) 0) own words e in
    let both = and_parts (eqb (length part.reason) 0) (eqb (length part.fields) 0) split.0 in
    let back = answer_is part (min (number_of (decimal part.code)) 65535) (bytes_of (word part.body)) (code_back part.code hr.0) (bytes_of-word part.body hr.1) (none_of part.reason both.0) (none_of part.fields both.1) in
    subst (Good (Publish item)) split.1
    (record {
      some = omega arith;
      marked = head_spaceless (codes "answer") item (decimal part.code ∷ word part.body ∷ []) (text (codes "answer") refl) (decimal_spaceless part.code (omega (arith, hr.0)), (word_spaceless part.body, tt));
      back = item_back item _ None None h (ap Some back ∙ er) es em;
    })
good_item item None None (Some (TextPart bytes)) words h er es em hr hs hm e =
    from (Publish item) (item_line (codes "message") item (codes "text" ∷ word bytes ∷ [])) words
    (record {
      some = omega arith;
      marked = head_spaceless (codes "message") item (codes "text" ∷ word bytes ∷ []) (text (codes "message") refl) (text (codes "text") refl, (word_spaceless bytes, tt));
      back = item_back item None None (Some (TextPart (bytes_of (word bytes)))) h er es (ap (λ (x : List ℕ). Some (TextPart x)) (bytes_of-word bytes hm) ∙ em);
    }) e
good_item item None None (Some (BinaryPart bytes)) words h er es em hr hs hm e =
    from (Publish item) (item_line (codes "message") item (codes "binary" ∷ word bytes ∷ [])) words
    (record {
      some = omega arith;
      marked = head_spaceless (codes "message") item (codes "binary" ∷ word bytes ∷ []) (text (codes "message") refl) (text (codes "binary") refl, (word_spaceless bytes, tt));
      back = item_back item None None (Some (BinaryPart (bytes_of (word bytes)))) h er es (ap (λ (x : List ℕ). Some (BinaryPart x)) (bytes_of-word bytes hm) ∙ em);
    }) e
good_item item None None (Some MessageClose) words h er es em hr hs hm e = absurd (none_isnt words e)
good_item item None (Some StreamClose) (Some other) words h er es em hr hs hm e = absurd (none_isnt words e)
good_item item None (Some (Content bytes)) (Some other) words h er es em hr hs hm e = absurd (none_isnt words e)
good_item item (Some part) (Some other) rest words h er es em hr hs hm e = absurd (none_isnt words e)
good_item item (Some part) None (Some other) words h er es em hr hs hm e = absurd (none_isnt words e)

-- ---- the rest

push_back : (hold : ℕ) (read message : Message) → hold < 2 ^ 64 → read ≡ message → Push (number_of (decimal hold)) read ≡ Push hold message
push_back hold read message small e = ap (λ (x : ℕ). Push x read) (number_of-decimal hold small) ∙ ap (Push hold) e

good_push : (hold : ℕ) (message : Message) (words : List (List ℕ)) → hold < 2 ^ 64 → IsMessage message → push_words hold message ≡ Some words → Good (Push hold message) words
good_push hold (Text bytes) words small h e =
    from (Push hold (Text bytes)) (codes "push" ∷ decimal hold ∷ codes "text" ∷ word bytes ∷ []) words
    (record {
      some = omega arith;
      marked = (text (codes "push") refl, (decimal_spaceless hold small, (text (codes "text") refl, (word_spaceless bytes, tt))));
      back = push_back hold (Text (bytes_of (word bytes))) (Text bytes) small (ap Text (bytes_of-word bytes h));
    }) e
good_push hold (Binary bytes) words small h e =
    from (Push hold (Binary bytes)) (codes "push" ∷ decimal hold ∷ codes "binary" ∷ word bytes ∷ []) words
    (record {
      some = omega arith;
      marked = (text (codes "push") refl, (decimal_spaceless hold small, (text (codes "binary") refl, (word_spaceless bytes, tt))));
      back = push_back hold (Binary (bytes_of (word bytes))) (Binary bytes) small (ap Binary (bytes_of-word bytes h));
    }) e
good_push hold (Ping bytes) words small h e =
    from (Push hold (Ping bytes)) (codes "push" ∷ decimal hold ∷ codes "ping" ∷ word bytes ∷ []) words
    (record {
      some = omega arith;
      marked = (text (codes "push") refl, (decimal_spaceless hold small, (text (codes "ping") refl, (word_spaceless bytes, tt))));
      back = push_back hold (Ping (bytes_of (word bytes))) (Ping bytes) small (ap Ping (bytes_of-word bytes h));
    }) e
good_push hold (Pong bytes) words small h e =
    from (Push hold (Pong bytes)) (codes "push" ∷ decimal hold ∷ codes "pong" ∷ word bytes ∷ []) words
    (record {
      some = omega arith;
      marked = (text (codes "push") refl, (decimal_spaceless hold small, (text (codes "pong") refl, (word_spaceless bytes, tt))));
      back = push_back hold (Pong (bytes_of (word bytes))) (Pong bytes) small (ap Pong (bytes_of-word bytes h));
    }) e
good_push hold (Close None reason) words small h e = absurd (none_isnt words e)
good_push hold (Close (Some code) reason) words small h e =
    let split = cond_some (nat_le 1000 code && nat_le code 4999 && eqb (length reason) 0) (codes "hangup" ∷ decimal hold ∷ decimal code ∷ []) words e in
    let empty = none_of reason (and_parts (nat_le 1000 code && nat_le code 4999) (eqb (length reason) 0) split.0).1 in
    subst (Good (Push hold (Close (Some code) reason))) split.1
    (record {
      some = omega arith;
      marked = (text (codes "hangup") refl, (decimal_spaceless hold small, (decimal_spaceless code (omega (arith, h)), tt)));
      back = push_back hold (Close (Some (min (number_of (decimal code)) 65535)) []) (Close (Some code) reason) small (ap (λ (x : ℕ). Close (Some x) []) (code_back code h) ∙ ap (Close (Some code)) (sym empty));
    })

good_page : (hold : ℕ) (from to bytes : List ℕ) (then : Then) → IsEvent (Page hold from to bytes then) → Good (Page hold from to bytes then) (codes "page" ∷ decimal hold ∷ word from ∷ word to ∷ then_word then ∷ word bytes ∷ [])
good_page hold from to bytes then h = record {
  some = omega arith;
  marked = (text (codes "page") refl, (decimal_spaceless hold h.0, (word_spaceless from, (word_spaceless to, (then_spaceless then, (word_spaceless bytes, tt))))));
  back =
      ap (λ (x : ℕ). Page x (bytes_of (word from)) (bytes_of (word to)) (bytes_of (word bytes)) (then_of (then_word then))) (number_of-decimal hold h.0)
      ∙ ap (λ (x : List ℕ). Page hold x (bytes_of (word to)) (bytes_of (word bytes)) (then_of (then_word then))) (bytes_of-word from h.1.small)
      ∙ ap (λ (x : List ℕ). Page hold from x (bytes_of (word bytes)) (then_of (then_word then))) (bytes_of-word to h.2.small)
      ∙ ap (λ (x : List ℕ). Page hold from to x (then_of (then_word then))) (bytes_of-word bytes h.3)
      ∙ ap (λ (x : Then). Page hold from to bytes x) (then_back then);
}

pub good : (event : Event) (words : List (List ℕ)) → IsEvent event → fits event ≡ true → words_of event ≡ Some words → Good event words
good (Attach spec) words h fit e = from (Attach spec) (spec_words spec) words (good_spec spec h fit) e
good (Publish item) words h fit e = good_item item item.response item.stream item.message words h refl refl refl h.response h.stream h.message e
good (Take hold now) words h fit e =
    from (Take hold now) (codes "take" ∷ decimal hold ∷ decimal now ∷ []) words
    (record {
      some = omega arith;
      marked = (text (codes "take") refl, (decimal_spaceless hold h.0, (decimal_spaceless now h.1, tt)));
      back = ap (λ (x : ℕ). Take x (number_of (decimal now))) (number_of-decimal hold h.0) ∙ ap (Take hold) (number_of-decimal now h.1);
    }) e
good (Page hold first to bytes then) words h fit e =
    from (Page hold first to bytes then) (codes "page" ∷ decimal hold ∷ word first ∷ word to ∷ then_word then ∷ word bytes ∷ []) words (good_page hold first to bytes then h) e
good (PageFailed hold) words h fit e =
    from (PageFailed hold) (codes "failed" ∷ decimal hold ∷ []) words
    (record { some = omega arith; marked = (text (codes "failed") refl, (decimal_spaceless hold h, tt)); back = ap PageFailed (number_of-decimal hold h) }) e
good (Push hold message) words h fit e = good_push hold message words h.0 h.1 e
good (Join hold channel) words h fit e =
    from (Join hold channel) (codes "join" ∷ decimal hold ∷ word channel ∷ []) words
    (record {
      some = omega arith;
      marked = (text (codes "join") refl, (decimal_spaceless hold h.0, (word_spaceless channel, tt)));
      back = ap (λ (x : ℕ). Join x (bytes_of (word channel))) (number_of-decimal hold h.0) ∙ ap (Join hold) (bytes_of-word channel h.1.small);
    }) e
good (Leave hold channel) words h fit e =
    from (Leave hold channel) (codes "leave" ∷ decimal hold ∷ word channel ∷ []) words
    (record {
      some = omega arith;
      marked = (text (codes "leave") refl, (decimal_spaceless hold h.0, (word_spaceless channel, tt)));
      back = ap (λ (x : ℕ). Leave x (bytes_of (word channel))) (number_of-decimal hold h.0) ∙ ap (Leave hold) (bytes_of-word channel h.1.small);
    }) e
good (Detach hold) words h fit e =
    from (Detach hold) (codes "detach" ∷ decimal hold ∷ []) words
    (record { some = omega arith; marked = (text (codes "detach") refl, (decimal_spaceless hold h, tt)); back = ap Detach (number_of-decimal hold h) }) e

-- ---- lines

spelled_words : (t : Bool) (o : Option (List (List ℕ))) (line : List ℕ) → cond t (option_map joined o) None ≡ Some line → (t ≡ true) × ((words : List (List ℕ)) × (o ≡ Some words) × (joined words ≡ line))
spelled_words true (Some words) line e = (refl, (words, refl, some_is (joined words) line e))
spelled_words true None line e = absurd (none_isnt line e)
spelled_words false o line e = absurd (none_isnt line e)

cut_again : (words : List (List ℕ)) → 0 < length words → Marked 32 words → slice_split (λ (b : ℕ). eqb b 32) (joined words) ≡ words
cut_again [] some marked = absurd (omega arith)
cut_again (w ∷ ws) some marked = slice_split-joined 32 w ws marked

pub guessed : (line : List ℕ) (event : Event) → IsEvent event → Spells line event → event_of (slice_split (λ (b : ℕ). eqb b 32) line) ≡ event
guessed line event made spells =
    let s = spelled_words (fits event) (words_of event) line spells.spelled in
    let g = good event s.1.0 made s.0 s.1.1 in
    ap (λ (l : List ℕ). event_of (slice_split (λ (b : ℕ). eqb b 32) l)) (sym s.1.2) ∙ ap event_of (cut_again s.1.0 g.some g.marked) ∙ g.back

-- ---- what a reader may answer

pub no_grammar : (fault : LineFault) (line : List ℕ) (words : List (List ℕ)) → words ≡ slice_split (λ (b : ℕ). eqb b 32) line → IfBad fault (¬ (IsEvent (event_of words))) → IfBad fault (¬ (IsInGrammar line))
no_grammar NoMemory line words cut bad = tt
no_grammar Bad line words cut bad = λ g. bad (subst IsEvent (sym (guessed line g.0 g.1 g.2) ∙ ap event_of (sym cut)) g.1)

pub only_event : (line : List ℕ) (words : List (List ℕ)) (event : Event) → words ≡ slice_split (λ (b : ℕ). eqb b 32) line → event ≡ event_of words
    → (other : Event) → IsEvent other → Spells line other → other ≡ event
only_event line words event cut read other made spells = sym (guessed line other made spells) ∙ ap event_of (sym cut) ∙ sym read

pub not_spelled : (line : List ℕ) (words : List (List ℕ)) (event : Event) → words ≡ slice_split (λ (b : ℕ). eqb b 32) line → event ≡ event_of words
    → ¬ (Spells line event) → ¬ (IsInGrammar line)
not_spelled line words event cut read other g = other (subst (Spells line) (only_event line words event cut read g.0 g.1 g.2) g.2)
