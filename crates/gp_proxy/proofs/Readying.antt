-- What the parts of a server say together.
use Rattle.std.proofs.Common.{◌≡◌, ℕ, List, Option, refl, sym, ap, ◌∙◌, subst}
use Rattle.gp_plain.specs.declared.http.Signer.{Signer}
use Rattle.gp_outside.specs.Clocks.{IsMoment}
use Rattle.gp_outside.specs.Worlds.{WorldParts}
use Rattle.gp_routes.specs.declared.route.Rule.{Rule}
use Rattle.gp_serve.specs.RoutesRead.{AreRead}
use Rattle.gp_serve.specs.declared.options.Options.{Options}
use Rattle.gp_replay.specs.declared.status.Status.{Status}
use Rattle.atomic_table.specs.Seated.{TableId}
use Rattle.gp_turn.specs.Passes.{first_pass}
use Rattle.gp_hub.specs.Passes.{HubView}
use Rattle.gp_maker.specs.Meanings.{Means, ServerView}
use Rattle.gp_serve.specs.Serves.{Serves}
use Rattle.gp_proxy.specs.Servings.{HasServed, IsReady, WorldTells, server_of}

module _ {F O C K Ln I G L D T : Type 0} (tells : WorldTells F O C K Ln I G L D T) where
  -- the files were lent and read, and then the clock was lent and asked
  pub ready : (path : List ℕ) (before after mid : WorldParts F O C K) (lent files : F) (asked clock : C) (rules : List Rule) (started : ℕ)
      → lent ≡ before.files → after ≡ record before { files = files } → asked ≡ after.clock → mid ≡ record after { clock = clock }
      → AreRead (record { content = tells.content lent path; faults = tells.faults lent; faults_after = tells.faults files }) rules
      → IsMoment (tells.clock asked) (tells.clock clock) started
      → IsReady tells path before mid rules started
  ready path before after mid lent files asked clock rules started is_files is_after is_clock is_mid read moment =
      let from = is_clock ∙ ap (λ (w : WorldParts F O C K). w.clock) is_after in
      let seen = subst (λ (c : C). IsMoment (tells.clock c) (tells.clock clock) started) from moment in
      let said : IsReady tells path before (record before { files = files; clock = clock }) rules started = record {
        same = refl;
        read = subst (λ (f : F). AreRead (record { content = tells.content f path; faults = tells.faults f; faults_after = tells.faults files }) rules) is_files read;
        asked = record { calls = seen.asked; last = sym seen.last };
      } in
      subst (λ (w : WorldParts F O C K). IsReady tells path before w rules started) (sym (is_mid ∙ ap (λ (w : WorldParts F O C K). record w { clock = clock }) is_after)) said

-- the signer has the key of the options
pub signer_is : (signer : Signer) (options : Options) → signer.key ≡ options.key → signer ≡ record { key = options.key }
signer_is signer options is = ap (λ (key : Option (List ℕ)). record { key = key }) is

-- what a server is made with is what its maker remembers
server_is : (rules rules' : List Rule) (signer signer' : Signer) (started started' : ℕ) (options : Options) → rules' ≡ rules → signer' ≡ signer → signer.key ≡ options.key → started' ≡ started
    → ◌≡◌ {A = ServerView} (record { rules = rules'; signer = signer'; started = started' }) (server_of rules options started)
server_is rules rules' signer signer' started started' options a b k d =
    ap (λ (r : List Rule). record { rules = r; signer = signer'; started = started' }) a
    ∙ ap (λ (s : Signer). record { rules = rules; signer = s; started = started' }) (b ∙ signer_is signer options k)
    ∙ ap (λ (t : ℕ). record { rules = rules; signer = record { key = options.key }; started = t }) d

module _ {F O C K Ln I G L D T : Type 0} (tells : WorldTells F O C K Ln I G L D T) where
  -- the workers ran over what was made ready
  pub served : (path : List ℕ) (options : Options) (before mid now : WorldParts F O C K) (status : Status) (rules rules' : List Rule) (signer signer' : Signer) (started started' : ℕ) (hub : TableId) (pass : HubView)
      → IsReady tells path before mid rules started → rules' ≡ rules → signer' ≡ signer → signer.key ≡ options.key → started' ≡ started → pass ≡ first_pass hub
      → Serves tells.out tells.parts tells.listens (Means tells.links tells.dials tells.clocks (record { rules = rules'; signer = signer'; started = started' })) options.workers options.sessions pass mid now status
      → HasServed tells path options before now status
  served path options before mid now status rules rules' signer signer' started started' hub pass ready a b k d first serves =
      let from = subst (λ (p : HubView). Serves tells.out tells.parts tells.listens (Means tells.links tells.dials tells.clocks (record { rules = rules'; signer = signer'; started = started' })) options.workers options.sessions p mid now status) first serves in
      record {
        rules = rules;
        started = started;
        hub = hub;
        mid = mid;
        ready = ready;
        serves = subst (λ (s : ServerView). Serves tells.out tells.parts tells.listens (Means tells.links tells.dials tells.clocks s) options.workers options.sessions (first_pass hub) mid now status) (server_is rules rules' signer signer' started started' options a b k d) from;
      }
