use Rattle.std.proofs.Common.{◌≡◌, ◌-◌, ◌≤◌, List, ℕ}
use Rattle.gp_exchange.specs.Heads.{HeadsSoFar}
use Rattle.gp_exchange.proofs.heading.Heading.find.Given as goal

abbrev pub invariant-loop-head : goal.invariant-loop-head
invariant-loop-head l = record {
  few : l.self.interim ≤ 8;
  up : l.fn.self.interim ≤ l.self.interim;
  same : l.fn.self.interim ≡ l.self.interim → l.self.bytes ≡ l.fn.self.bytes;
  heads : (received : List ℕ) → HeadsSoFar received l.fn.self → HeadsSoFar received l.self;
}

abbrev pub decreases-loop-head : goal.decreases-loop-head
decreases-loop-head l = 8 - l.self.interim
