-- What the parts of a replay say together.
use Rattle.std.proofs.Common.{◌≡◌, inl, inr, ℕ, ◌<◌, List, [], length, take, Option, Some, None, refl, sym, ap, ◌∙◌, subst}
use mathlib.Core.List.{IsPrefix}
use Rattle.gp_plain.specs.declared.event.Event.{Event}
use Rattle.gp_plain.specs.Standing.{Standing, StandsFor}
use Rattle.gp_plain.specs.Chain.{ChainLaw}
use Rattle.gp_outside.specs.Counts.{grown}
use Rattle.gp_outside.specs.Devices.{SinkTells, WroteAll, WrotePart}
use Rattle.gp_outside.specs.Worlds.{WorldParts}
use Rattle.gp_replay.specs.Scripts.{entries_of}
use Rattle.gp_replay.specs.Outputs.{output}
use Rattle.gp_replay.specs.Loads.{IsLoaded, IsNotLoaded}
use Rattle.gp_replay.specs.Replays.{Play, Says, load_of}
use Rattle.gp_replay.specs.declared.status.Status.{Status}
use Rattle.gp_replay.specs.declared.status.Status.TheVariants.{Done, Usage, FileFault, TooLong, BadLine, SinkFault, ListenFault, NoMemory}

-- a file that isn't loaded
pub not_loaded : (play : Play) (status : Status) → IsNotLoaded (load_of play) status → play.sink_after ≡ play.sink → StandsFor play.stands [] → Says status play
not_loaded play FileFault said sink stands = record { untouched = record { sink = sink; stands = stands }; fault = said }
not_loaded play TooLong said sink stands = record { untouched = record { sink = sink; stands = stands }; long = said }
not_loaded play (BadLine line) said sink stands = record { untouched = record { sink = sink; stands = stands }; bad = said }
not_loaded play NoMemory said sink stands = inl (record { untouched = record { sink = sink; stands = stands }; quiet = said })
not_loaded play Done said sink stands = absurd said
not_loaded play (Usage place) said sink stands = absurd said
not_loaded play SinkFault said sink stands = absurd said
not_loaded play ListenFault said sink stands = absurd said

-- memory was wanting after the load
pub stopped : (play : Play) (events : List Event) (status : Status) (count : ℕ) → status ≡ NoMemory → IsLoaded (load_of play) events → play.sink_after ≡ play.sink
    → StandsFor play.stands (entries_of (take count events)) → Says status play
stopped play events status count is loaded sink stands =
    let said : Says NoMemory play = inr (events, count, record { script = loaded; sink = sink; stands = stands }) in
    subst (λ (s : Status). Says s play) (sym is) said

pub done : ChainLaw → (play : Play) (events : List Event) (text : List ℕ) → IsLoaded (load_of play) events → text ≡ output events → WroteAll play.sink play.sink_after text → StandsFor play.stands (entries_of events) → Says Done play
done law play events text loaded is wrote stands = (
  events,
  record {
    script = loaded;
    written = wrote.whole ∙ ap (grown play.sink.written) is;
    quiet = wrote.quiet;
    stands = stands;
    follows = law (entries_of events);
  },
)

pub cut_off : ChainLaw → (play : Play) (events : List Event) (text : List ℕ) → IsLoaded (load_of play) events → text ≡ output events → WrotePart play.sink play.sink_after text → StandsFor play.stands (entries_of events) → Says SinkFault play
cut_off law play events text loaded is wrote stands = (
  events,
  record {
    script = loaded;
    fault = wrote.rose;
    written = (wrote.part.0, subst (λ (t : List ℕ). IsPrefix wrote.part.0 t) is wrote.part.1, subst (λ (t : List ℕ). length wrote.part.0 < length t) is wrote.part.2, wrote.part.3);
    stands = stands;
    follows = law (entries_of events);
  },
)

abbrev pub play_at : Option (List ℕ) → ℕ → ℕ → SinkTells → SinkTells → Standing → Play
play_at content before after was now stands = record { content = content; file_faults = before; file_faults_after = after; sink = was; sink_after = now; stands = stands }

-- what is said of the devices is said of the world that lent them
pub lent : (status : Status) (content content' : Option (List ℕ)) (before before' after after' : ℕ) (was was' now now' : SinkTells) (stands : Standing)
    → content ≡ content' → before ≡ before' → after ≡ after' → was ≡ was' → now ≡ now'
    → Says status (play_at content before after was now stands) → Says status (play_at content' before' after' was' now' stands)
lent status content content' before before' after after' was was' now now' stands c b a w n said =
    let one = subst (λ x. Says status (play_at x before after was now stands)) c said in
    let two = subst (λ x. Says status (play_at content' x after was now stands)) b one in
    let three = subst (λ x. Says status (play_at content' before' x was now stands)) a two in
    let four = subst (λ x. Says status (play_at content' before' after' x now stands)) w three in
    subst (λ x. Says status (play_at content' before' after' was' x stands)) n four

module _ {F O C K : Type 0} where
  -- the files were lent, and then perhaps the sink
  pub same_files : (before now : WorldParts F O C K) (files : F) → now ≡ record before { files = files } → now ≡ record before { files = now.files; out = now.out }
  same_files before now files is = subst (λ (w : WorldParts F O C K). w ≡ record before { files = w.files; out = w.out }) (sym is) refl

  pub same_both : (before mid now : WorldParts F O C K) (files : F) (out : O) → mid ≡ record before { files = files } → now ≡ record mid { out = out } → now ≡ record before { files = now.files; out = now.out }
  same_both before mid now files out first then =
      subst (λ (w : WorldParts F O C K). w ≡ record before { files = w.files; out = w.out }) (sym (then ∙ ap (λ (w : WorldParts F O C K). record w { out = out }) first)) refl
