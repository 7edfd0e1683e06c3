-- What the bytes of a request are, as they come.
use Rattle.std.proofs.Common.{◌≡◌, ℕ, zero, suc, ◌<◌, ◌≤◌, Bool, true, false, List, [], ◌∷◌, ◌++◌, length, take, drop, Option, Some, None, refl, sym, ap, ◌∙◌, subst, arith, append-nil}
use Rattle.std.specs.Prelude.{nat_lt}
use Rattle.std.proofs.lemmas.Bool.{ltb-true, ltb-false}
use Rattle.gp_plain.specs.declared.http.Request.{Request}
use Rattle.gp_head.specs.declared.read.HeadRead.TheVariants.{Whole as WholeHead}
use Rattle.gp_head.specs.Lines.{begun_fields, head_end}
use Rattle.gp_head.specs.Heads.{IsRead, IsRequestText}
use Rattle.gp_head.specs.Scans.{scan_of, after_all}
use Rattle.gp_head.proofs.ScanLemmas.{scan_tells}
use Rattle.gp_head.proofs.SettledLemmas.{settled}
use Rattle.gp_head.proofs.ExtentLemmas.{is_head_text, extent_too_many, extent_too_long, extent_ends}
use Rattle.gp_body.specs.declared.fed.FedFault.{FedFault}
use Rattle.gp_body.specs.declared.fed.FedFault.TheVariants.{Chunk, TooLong, Cut}
use Rattle.gp_body.specs.declared.reading.Reading.{Reading}
use Rattle.gp_body.specs.Steps.{is_end}
use Rattle.gp_body.specs.Bodies.{Spells}
use Rattle.gp_body.specs.Wholes.{reading_of, content_of, fault_of}
use Rattle.gp_body.proofs.LawLemmas.{exact_law}
use Rattle.gp_body.proofs.EndLemmas.{counts}
use Rattle.gp_intake.specs.declared.body.Whole.{Whole}
use Rattle.gp_intake.specs.declared.reading.TheConstants.{MAX_BODY}
use Rattle.gp_intake.specs.Bodies.{IsCause, ComesOn}
use Rattle.gp_intake.specs.Heads.{IsBegun}
use Rattle.gp_intake.specs.Requests.{HeadedView, IsHeaded, IsWhole, HasRefusedBody, IsBodyRefusedBy, request_fault}
use Rattle.gp_intake.proofs.Steady.{Steady, steady}

-- the head stands within the bytes
pub head_within : (bytes : List ℕ) (head : Request) (n : ℕ) → IsRead IsRequestText bytes (WholeHead head n) → n ≤ length bytes
head_within bytes head n read = (is_head_text bytes n (sym read.0)).inside

drop_before : (n : ℕ) (xs ys : List ℕ) → n ≤ length xs → drop n (xs ++ ys) ≡ drop n xs ++ ys
drop_before zero xs ys le = refl
drop_before (suc n) [] ys le = absurd (omega arith)
drop_before (suc n) (x ∷ xs) ys le = drop_before n xs ys (omega arith)

-- more bytes came behind a head
pub headed_more : (v w : HeadedView) (received more : List ℕ) → w.head ≡ v.head → w.path ≡ v.path → ComesOn more v.body w.body → IsHeaded v received → IsHeaded w (received ++ more)
headed_more v w received more head path comes h = record {
  length = h.length;
  plan = h.plan;
  read = rw head (settled IsRequestText received (WholeHead v.head h.length) h.read more);
  served = rw (head, path) h.served;
  come = rw (drop_before h.length received more (head_within received v.head h.length h.read)) (comes h.plan (drop h.length received) h.come);
}

-- no byte of a head has come
pub none_begun : IsBegun []
unfolding scan_of after_all
none_begun = sym (scan_tells [])

-- the head isn't whole in fewer bytes than a head may have
pub begun_short : (bytes : List ℕ) → IsBegun bytes → length bytes < 16384
begun_short bytes begun = by_length (nat_lt (length bytes) 16384) refl
  where
    by_end : (end : Option ℕ) → head_end (take 16384 bytes) ≡ end → 16384 ≤ length bytes → begun_fields (take 16384 bytes) ≤ 64 → length bytes < 16384
    by_end None e long few = let other = extent_too_long bytes few e long in cc
    by_end (Some n) e long few = let other = extent_ends bytes n few e in cc

    by_fields : (c : Bool) → nat_lt 64 (begun_fields (take 16384 bytes)) ≡ c → 16384 ≤ length bytes → length bytes < 16384
    by_fields true e long = let other = extent_too_many bytes (ltb-true 64 (begun_fields (take 16384 bytes)) e) in cc
    by_fields false e long = by_end (head_end (take 16384 bytes)) refl long (ltb-false 64 (begun_fields (take 16384 bytes)) e)

    by_length : (c : Bool) → nat_lt (length bytes) 16384 ≡ c → length bytes < 16384
    by_length true e = ltb-true (length bytes) 16384 e
    by_length false e = by_fields (nat_lt 64 (begun_fields (take 16384 bytes))) refl (ltb-false (length bytes) 16384 e)

-- the body has ended, and so the request is whole
pub whole_from : (v : HeadedView) (w : Whole) (received : List ℕ) → w.head ≡ v.head → w.path ≡ v.path → w.body ≡ v.body.content → w.unused ≡ v.body.unused
    → v.body.reading.refused ≡ None → is_end v.body.reading.state ≡ true → IsHeaded v received → IsWhole w received
whole_from v w received head path body unused none end h =
    let come = h.come in
    let ended : is_end (reading_of h.plan MAX_BODY come.text).state ≡ true = ap (λ (r : Reading). is_end r.state) (sym come.reading) ∙ end in
    let exact : Spells h.plan (content_of h.plan MAX_BODY come.text) come.text = exact_law h.plan MAX_BODY come.text ended (come.waits none) in
    let s : Steady MAX_BODY (reading_of h.plan MAX_BODY come.text) = steady h.plan MAX_BODY come.text in
    let few : length (content_of h.plan MAX_BODY come.text) ≤ MAX_BODY = omega (arith, s.within, s.limit_is, counts h.plan MAX_BODY come.text) in
    record {
      length = h.length;
      plan = h.plan;
      text = come.text;
      read = rw head h.read;
      served = rw (head, path) h.served;
      split = rw unused come.split;
      spells = rw (body, come.content) exact;
      within = rw (body, come.content) few;
    }

not_end : (r : Reading) (e : Bool) (fault : FedFault) → Steady MAX_BODY r → r.refused ≡ Some fault → is_end r.state ≡ e → is_end r.state ≡ false
not_end r true fault s refused e = let none = s.ended e in cc
not_end r false fault s refused e = e

-- the body is refused, and so is the request
pub refused_from : (v : HeadedView) (received method : List ℕ) (fault : FedFault) → method ≡ v.head.method → v.body.reading.refused ≡ Some fault → IsHeaded v received → HasRefusedBody v.head v.path received fault method
refused_from v received method fault m refused h =
    let come = h.come in
    let s : Steady MAX_BODY v.body.reading = subst (Steady MAX_BODY) (sym come.reading) (steady h.plan MAX_BODY come.text) in
    let none : v.body.unused ≡ [] = come.nothing (not_end v.body.reading (is_end v.body.reading.state) fault s refused refl) in
    let all : drop h.length received ≡ come.text = come.split ∙ ap (λ (xs : List ℕ). come.text ++ xs) none ∙ append-nil come.text in
    record {
      length = h.length;
      plan = h.plan;
      read = h.read;
      served = h.served;
      fault_is = ap (λ (xs : List ℕ). fault_of h.plan MAX_BODY xs) all ∙ ap (λ (r : Reading). r.refused) (sym come.reading) ∙ refused;
      method_is = m;
    }

pub refused_by : (head : Request) (path received method : List ℕ) (fault : FedFault) → IsCause MAX_BODY (Some fault) → HasRefusedBody head path received fault method
    → IsBodyRefusedBy head path received (request_fault fault) method
refused_by head path received method (Chunk place) cause h = h
refused_by head path received method (TooLong told) cause h = subst (λ (n : ℕ). HasRefusedBody head path received (TooLong n) method) cause h
refused_by head path received method (Cut n) cause h = absurd cause
