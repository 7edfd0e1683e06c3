-- What is meant by what a session of a server leaves.
use Rattle.std.specs.Prelude.{ℕ, ◌≡◌, List, ◌++◌, codes, decimal, Option, None, Some, IfSome, ⊤}
use Rattle.gp_plain.specs.declared.event.Entry.{Entry}
use Rattle.gp_plain.specs.declared.http.Signer.{Signer}
use Rattle.gp_plain.specs.declared.reply.HoldReport.{HoldReport}
use Rattle.gp_outside.specs.Clocks.{ClockTells}
use Rattle.gp_outside.specs.Dials.{DialTells}
use Rattle.gp_outside.specs.Links.{LinkTells}
use Rattle.gp_outside.specs.Unused.{IsUnusedDial, IsUnusedLink}
use Rattle.gp_routes.specs.declared.route.Rule.{Rule}
use Rattle.gp_hub.specs.Passes.{HubView}
use Rattle.gp_hub.specs.declared.outcome.Outcome.{Outcome}
use Rattle.gp_hub.specs.declared.outcome.SessionEnd.{SessionEnd}
use Rattle.gp_session_http.specs.Headlines.{HasHeadline}
use Rattle.gp_session_http.specs.Routing.{Charter}
use Rattle.gp_session_http.specs.Views as http
use Rattle.gp_session_http.specs.Polls as http_polls
use Rattle.gp_session_publish.specs.Views as publish
use Rattle.gp_session_publish.specs.Polls as publish_polls
use Rattle.gp_workers.specs.declared.maker.Finished.{Finished}

-- what a server is made with: its routes, the key of its tokens, and the second at which it started
pub record ServerView : Type 0 where
  pub rules : List Rule
  pub signer : Signer
  pub started : ℕ

-- what a session is known by to origins: the second at which the server started, and the claim
abbrev pub tag_of : ℕ → ℕ → List ℕ
tag_of started claim = decimal started ++ (codes "-" ++ decimal claim)

abbrev pub charter_of : ServerView → ℕ → Charter
charter_of server claim = record { rules = server.rules; signer = server.signer; tag = tag_of server.started claim }

-- what is told of an outcome
pub record IsTold (seen : List Entry) (number : ℕ) (end : SessionEnd) (holds : List HoldReport) (outcome : Outcome) : Type 0 where
  pub seen_is : outcome.pass.seen ≡ seen
  pub number_is : outcome.pass.number ≡ number
  pub end_is : outcome.end ≡ end
  pub holds_are : outcome.holds.items ≡ holds

-- the session is over, or its output was given
abbrev pub HasEndedPublisher : Option publish_polls.SessionView → Type 0
HasEndedPublisher None = ⊤
HasEndedPublisher (Some s) = publish_polls.HasEnded s

abbrev pub HasEndedClient : Option http_polls.SessionView → Type 0
HasEndedClient None = ⊤
HasEndedClient (Some s) = http_polls.HasEnded s

module _ {L D C : Type 0} where
  -- what a publisher's session may leave that began so: an outcome by all its rows, its link, and no other device
  pub record LeavesPublisher (links : L → LinkTells) (start : LinkTells) (pass : HubView) (over : Finished L D C) : Type 0 where
    pub live : publish.LiveView
    pub start_is : live.wire.start ≡ start
    pub pass_is : live.seat.start ≡ pass
    pub leaves : publish_polls.Leaves live over.outcome (links over.link)
    pub alone : over.others ≡ None

  abbrev pub GivesPublisher : (L → LinkTells) → publish_polls.SessionView → Finished L D C → Type 0
  GivesPublisher links s over = IfSome s.open_is (λ (p : publish_polls.OpenView). LeavesPublisher links p.live.wire.start p.live.seat.start over)

  -- A session of a publisher that began over an unused link left this.
  pub record OfPublisher (links : L → LinkTells) (seen : List Entry) (number : ℕ) (end : SessionEnd) (holds : List HoldReport) (link : L) (others : Option (D × C)) : Type 0 where
    pub start : LinkTells
    pub unused : IsUnusedLink start
    pub pass : HubView
    pub outcome : Outcome
    pub leaves : LeavesPublisher links start pass (record { outcome = outcome; link = link; others = others })
    pub told : IsTold seen number end holds outcome

  -- what a client's session may leave that began so: an outcome by all its rows, and its three devices
  pub record LeavesClient (links : L → LinkTells) (dials : D → DialTells) (clocks : C → ClockTells) (start : http_polls.DevicesView) (pass : HubView) (charter : Charter) (over : Finished L D C) : Type 0 where
    pub live : http.LiveView
    pub start_is : http_polls.start_of live ≡ start
    pub pass_is : live.seat.start ≡ pass
    pub charter_is : live.charter ≡ charter
    pub dial : D
    pub clock : C
    pub devices : over.others ≡ Some (dial, clock)
    pub leaves : http_polls.Leaves live over.outcome (record { link = links over.link; dial = dials dial; clock = clocks clock })

  abbrev pub GivesClient : (L → LinkTells) → (D → DialTells) → (C → ClockTells) → http_polls.SessionView → Finished L D C → Type 0
  GivesClient links dials clocks s over =
      IfSome s.open_is (λ (p : http_polls.OpenView). LeavesClient links dials clocks (http_polls.start_of p.live) p.live.seat.start p.live.charter over)

  -- A session of a client that began over an unused link and dialer left this. It was known by the claim. What it sent of a hold follows each
  -- chain that covers the hold.
  pub record OfClient (links : L → LinkTells) (dials : D → DialTells) (clocks : C → ClockTells) (server : ServerView) (seen : List Entry) (claim number : ℕ) (end : SessionEnd) (holds : List HoldReport) (link : L) (others : Option (D × C)) : Type 0 where
    pub start : http_polls.DevicesView
    pub unused : IsUnusedLink start.link
    pub uncalled : IsUnusedDial start.dial
    pub pass : HubView
    pub outcome : Outcome
    pub leaves : LeavesClient links dials clocks start pass (charter_of server claim) (record { outcome = outcome; link = link; others = others })
    pub headline : HasHeadline leaves.live
    pub told : IsTold seen number end holds outcome

  -- what is meant, by the kind of session
  pub data Means (links : L → LinkTells) (dials : D → DialTells) (clocks : C → ClockTells) (server : ServerView) (seen : List Entry) (claim number : ℕ) (end : SessionEnd) (holds : List HoldReport) (link : L) (others : Option (D × C)) : Type 0 where
    publisher : OfPublisher links seen number end holds link others → Means links dials clocks server seen claim number end holds link others
    client : OfClient links dials clocks server seen claim number end holds link others → Means links dials clocks server seen claim number end holds link others
