-- How a head is turned to a link, and what is asked by it.
use Rattle.std.proofs.Common.{◌≡◌, ℕ, List, [], ◌∷◌, codes, Option, None, Result, IfOk, sym, subst}
use Rattle.std.specs.declared.alloc.AllocError.{AllocError}
use Rattle.std.proofs.lemmas.Result.{IfOk-weaker}
use Rattle.gp_plain.specs.declared.http.Address.{Address}
use Rattle.gp_plain.specs.declared.http.Request.{Request}
use Rattle.gp_plain.specs.declared.http.Signer.{Signer}
use Rattle.gp_head.specs.declared.target.TargetFault.{TargetFault}
use Rattle.gp_head.specs.declared.target.TargetFault.TheVariants.{Form}
use Rattle.gp_head.specs.Targets.{IsTargetFault}
use Rattle.gp_instruct.specs.Targets.{IsTarget}
use Rattle.gp_forward.specs.Alone.{IsForwarded}
use Rattle.gp_forward.specs.Conditions.{CanAsk, ForwardLaw}
use Rattle.gp_again.specs.Texts.{sig_at, last_text}
use Rattle.gp_again.specs.Views.{AgainView}
use Rattle.gp_again.specs.Quests.{Asks, IsAimed}

-- a link has the form of a target
pub has_form : ForwardLaw → (link target : List ℕ) (fault : TargetFault) → IsTarget link → target ≡ link → fault ≡ Form → IsTargetFault target fault → ⊥
has_form law link target fault is same form refused =
    let split = law.link link is in
    let none = subst (λ (f : TargetFault). IsTargetFault link f) form (subst (λ (t : List ℕ). IsTargetFault t fault) same refused) in
    none split.0 split.1 split.2

pub aimed_can : ForwardLaw → (was : Request) (link : List ℕ) (is : Request) → CanAsk was → IsAimed was link is → CanAsk is
aimed_can law was link is can aimed = subst CanAsk (sym aimed.head) (law.linked was (codes "GET") link aimed.path aimed.authority can law.methods.0 aimed.split)

module _ (was head : Request) (address : Address) (channel link from : List ℕ) (signer : Signer) (now : ℕ) (sig : Option (List ℕ)) (lasts : List (List ℕ)) where
  abbrev view : AgainView
  view = record { version = was.version; fields = was.fields; address = address; channel = channel; link = link }

  asks_by : IsAimed was link head → sig ≡ sig_at signer now → lasts ≡ last_text channel from ∷ [] → (text : List ℕ) → IsForwarded head None address sig lasts text → Asks view signer now from text
  asks_by aimed signed told text sent = record {
    path = aimed.path;
    authority = aimed.authority;
    split = aimed.split;
    request_is =
        subst (λ (h : Request). IsForwarded h None address (sig_at signer now) (last_text channel from ∷ []) text) aimed.head
        (subst (λ (s : Option (List ℕ)). IsForwarded head None address s (last_text channel from ∷ []) text) signed
        (subst (λ (l : List (List ℕ)). IsForwarded head None address sig l text) told sent));
  }

  -- what was written of the head that was turned to the link
  pub asks : (v : AgainView) → view ≡ v → IsAimed was link head → sig ≡ sig_at signer now → lasts ≡ last_text channel from ∷ []
      → (written : Result (List ℕ) AllocError) → IfOk written (IsForwarded head None address sig lasts) → IfOk written (Asks v signer now from)
  asks v is aimed signed told written sent =
      subst (λ (x : AgainView). IfOk written (Asks x signer now from)) is
      (IfOk-weaker written (IsForwarded head None address sig lasts) (Asks view signer now from) (asks_by aimed signed told) sent)
