-- How a hold of a pass comes to end as unrecovered.
use Rattle.std.specs.Prelude.{ℕ, ◌≡◌, ◌≢◌, All, Some}
use Rattle.std.specs.List.{Contains}
use Rattle.gp_plain.specs.History.{held}
use Rattle.gp_plain.specs.Others.{Share, share_at}
use Rattle.gp_plain.specs.declared.event.Entry.{Entry}
use Rattle.gp_plain.specs.declared.event.Event.TheVariants.{PageFailed}
use Rattle.gp_plain.specs.declared.reply.EndCause.TheVariants.{Unrecovered}
use Rattle.gp_hub.specs.Passes.{HubView, entry_of}
use Rattle.gp_hub.specs.Own.{mine}

-- only the news of its owner that a page can't be had ends a hold as unrecovered
pub record FailingLaw : Type 0 where
  -- where a Take of a hold of the pass told that end, the pass had told that a page of this hold can't be had
  pub told : (p : HubView) (number : ℕ) (share : Share) → share_at (held p.seen) number ≡ Some share → share.owner ≡ p.number → share.told ≡ Some Unrecovered
      → Contains (mine p) (entry_of p.number (PageFailed number))
  -- where the pass has told no such news of the hold, no Take of it told that end
  pub unpaged : (p : HubView) (number : ℕ) (share : Share) → share_at (held p.seen) number ≡ Some share → share.owner ≡ p.number
      → All (λ (entry : Entry). entry.event ≢ PageFailed number) (mine p) → share.told ≢ Some Unrecovered
