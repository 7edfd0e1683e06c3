use Rattle.std.proofs.Common.{◌≡◌, map, slice_get, Some, sym, ap, subst, ◌∙◌}
use Rattle.gp_plain.specs.Tails.{is_next_at}
use Rattle.gp_window.specs.Buckets.{bucket, prev_bucket}
use Rattle.gp_window.proofs.Walking.{IsLeastFrom, begun, behind, begun_none, gone_on, least_all, least_begun, least_step, next_in, next_there, newest_of, not_there, older_of}
use Rattle.gp_window.proofs.indexed.Indexed.next_after.Goals as goal

pub loop-at-init : goal.loop-at-init
loop-at-init c =
    let items = c.args.self.now in
    let b = bucket c.args.channel.now c.args.id.now in
    let is = is_next_at items c.args.channel.now c.args.id.now c.args.used.now in
    let keys : c.self.inside.prevs ≡ map prev_bucket items = c.self.invariant.3 ∙ ap (map prev_bucket) c.self.view_is in
    let m = newest_of c.self.inside.prevs (map prev_bucket items) c.bucket.result b c.newest-at.result keys c.bucket.ensures.bucket c.newest-at.ensures in record {
      along = begun (map prev_bucket items) b c.newest-at.result m;
      least = least_begun is (behind c.newest-at.result) (begun_none is (map prev_bucket items) b c.newest-at.result (next_in c.args.channel.now c.args.id.now c.args.used.now items) m);
    }

pub unreachable-requires : goal.unreachable-requires
unreachable-requires c = not_there prev_bucket c.args.self.now c.in-Some.place (c.loop-at.invariant.along.within c.in-Some.place c.in-Some.is) (ap (λ xs. slice_get xs c.in-Some.place) (sym c.self.view_is) ∙ sym c.in_default-get.ensures)

pub loop-at-preserved : goal.loop-at-preserved
loop-at-preserved c =
    let items = c.args.self.now in
    let place = c.in-Some.place in
    let b = bucket c.args.channel.now c.args.id.now in
    let is = is_next_at items c.args.channel.now c.args.id.now c.args.used.now in
    let keys : c.self.inside.prevs ≡ map prev_bucket items = c.self.invariant.3 ∙ ap (map prev_bucket) c.self.view_is in
    let m = older_of c.self.inside.prevs (map prev_bucket items) b place c.older-at.result keys (c.loop-at.invariant.along.here place c.in-Some.is) c.older-at.ensures in
    let there : slice_get items place ≡ Some c.in-Some-get.item.now = ap (λ xs. slice_get xs place) (sym c.self.view_is) ∙ sym c.in-Some-get.ensures in
    let here = sym (next_there c.args.channel.now c.args.id.now c.args.used.now items place c.in-Some-get.item.now there) ∙ sym c.is_next-is.ensures in record {
      along = gone_on (map prev_bucket items) b place c.older-at.result (c.loop-at.invariant.along.within place c.in-Some.is) m;
      least = least_step is (map prev_bucket items) b place c.older-at.result c.is_next-is.result c.place_or-least.result c.loop-at.least c.loop-at.at (next_in c.args.channel.now c.args.id.now c.args.used.now items) m here c.place_or-least.ensures c.in-Some.is c.loop-at.invariant.least;
    }

pub returns : goal.returns
returns c = least_all c.args.self.now c.args.channel.now c.args.id.now c.args.used.now c.loop-at.least (subst (λ n. IsLeastFrom (is_next_at c.args.self.now c.args.channel.now c.args.id.now c.args.used.now) n c.loop-at.least) (ap behind c.in_default.is) c.loop-at.invariant.least)
