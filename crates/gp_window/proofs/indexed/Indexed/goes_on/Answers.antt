use Rattle.std.proofs.Common.{◌≡◌, map, slice_get, Some, sym, ap, ◌∙◌, arith}
use Rattle.gp_window.specs.Buckets.{bucket, prev_bucket}
use Rattle.gp_plain.specs.Items.{goes_on_from}
use Rattle.gp_window.specs.Searches.{is_at}
use Rattle.gp_window.proofs.Walking.{at_item, begun, behind, begun_none, gone_on, goes_on_in, newest_of, none_at_all, none_on, not_there, older_of, some_at}
use Rattle.gp_window.proofs.indexed.Indexed.goes_on.Goals as goal

pub loop-at-init : goal.loop-at-init
loop-at-init c =
    let items = c.args.self.now in
    let b = bucket c.args.channel.now c.args.id.now in
    let keys : c.self.inside.prevs ≡ map prev_bucket items = c.self.invariant.3 ∙ ap (map prev_bucket) c.self.view_is in
    let m = newest_of c.self.inside.prevs (map prev_bucket items) c.bucket.result b c.newest-at.result keys c.bucket.ensures.bucket c.newest-at.ensures in record {
      along = begun (map prev_bucket items) b c.newest-at.result m;
      none = begun_none (is_at (goes_on_from c.args.channel.now c.args.id.now) items) (map prev_bucket items) b c.newest-at.result (goes_on_in c.args.channel.now c.args.id.now items) m;
    }

pub unreachable-requires : goal.unreachable-requires
unreachable-requires c = not_there prev_bucket c.args.self.now c.in-Some.place (c.loop-at.invariant.along.within c.in-Some.place c.in-Some.is) (ap (λ xs. slice_get xs c.in-Some.place) (sym c.self.view_is) ∙ sym c.in_default-get.ensures)

pub returns-then-goes_on_from : goal.returns-then-goes_on_from
returns-then-goes_on_from c =
    let items = c.args.self.now in
    let place = c.in-Some.place in
    let there : slice_get items place ≡ Some c.in-Some-get.item.now = ap (λ xs. slice_get xs place) (sym c.self.view_is) ∙ sym c.in-Some-get.ensures in
    sym (some_at (goes_on_from c.args.channel.now c.args.id.now) items place (at_item (goes_on_from c.args.channel.now c.args.id.now) items place c.in-Some-get.item.now there ∙ sym c.goes_on_from.ensures ∙ c.if-goes_on_from.true))

pub loop-at-preserved : goal.loop-at-preserved
loop-at-preserved c =
    let items = c.args.self.now in
    let place = c.in-Some.place in
    let b = bucket c.args.channel.now c.args.id.now in
    let keys : c.self.inside.prevs ≡ map prev_bucket items = c.self.invariant.3 ∙ ap (map prev_bucket) c.self.view_is in
    let m = older_of c.self.inside.prevs (map prev_bucket items) b place c.older-at.result keys (c.loop-at.invariant.along.here place c.in-Some.is) c.older-at.ensures in
    let there : slice_get items place ≡ Some c.in-Some-get.item.now = ap (λ xs. slice_get xs place) (sym c.self.view_is) ∙ sym c.in-Some-get.ensures in
    let here = at_item (goes_on_from c.args.channel.now c.args.id.now) items place c.in-Some-get.item.now there ∙ sym c.goes_on_from.ensures ∙ c.if-goes_on_from.false in
    let at = ap behind c.in-Some.is in record {
      along = gone_on (map prev_bucket items) b place c.older-at.result (c.loop-at.invariant.along.within place c.in-Some.is) m;
      none = none_on (is_at (goes_on_from c.args.channel.now c.args.id.now) items) (map prev_bucket items) b place c.older-at.result (goes_on_in c.args.channel.now c.args.id.now items) m here (λ k h. c.loop-at.invariant.none k (omega (arith, at, h)));
    }

pub returns : goal.returns
returns c =
    let items = c.args.self.now in
    let at = ap behind c.in_default.is in
    sym (none_at_all (goes_on_from c.args.channel.now c.args.id.now) items (λ k h. c.loop-at.invariant.none k (omega (arith, at))))
