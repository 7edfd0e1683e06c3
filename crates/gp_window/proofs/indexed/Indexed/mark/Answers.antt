use Rattle.std.proofs.Common.{◌≡◌, map, slice_get, Some, sym, ap, ◌∙◌, arith, refl}
use Rattle.gp_window.specs.Buckets.{bucket, channel_bucket, id_bucket}
use Rattle.gp_window.specs.Searches.{has_id, is_at}
use Rattle.gp_window.proofs.Walking.{at_item, begun, behind, begun_none, gone_on, has_id_in, long_map, marked_step, newest_of, not_there, older_of, others_step, put_length}
use Rattle.gp_window.proofs.indexed.Indexed.mark.Goals as goal

pub loop-at-init : goal.loop-at-init
loop-at-init c =
    let items = c.args.self.now in
    let b = bucket c.args.channel.now c.args.id.now in
    let keys : c.self.inside.ids ≡ map id_bucket items = c.self.invariant.2 ∙ ap (map id_bucket) c.self.view_is in
    let m = newest_of c.self.inside.ids (map id_bucket items) c.bucket.result b c.newest-at.result keys c.bucket.ensures.bucket c.newest-at.ensures in record {
      along = begun (map id_bucket items) b c.newest-at.result m;
      same = c.requires;
      marked = λ k h e. cc (e, begun_none (is_at (has_id c.args.channel.now c.args.id.now) items) (map id_bucket items) b c.newest-at.result (has_id_in c.args.channel.now c.args.id.now items) m k h);
      others = λ k h. refl;
    }

pub unreachable-requires : goal.unreachable-requires
unreachable-requires c = not_there id_bucket c.args.self.now c.in-Some.place (c.loop-at.invariant.along.within c.in-Some.place c.in-Some.is) (ap (λ xs. slice_get xs c.in-Some.place) (sym c.self.view_is) ∙ sym c.in_default-get.ensures)

pub loop-at-preserved : goal.loop-at-preserved
loop-at-preserved c =
    let items = c.args.self.now in
    let place = c.in-Some.place in
    let b = bucket c.args.channel.now c.args.id.now in
    let is = is_at (has_id c.args.channel.now c.args.id.now) items in
    let keys : c.self.inside.ids ≡ map id_bucket items = c.self.invariant.2 ∙ ap (map id_bucket) c.self.view_is in
    let m = older_of c.self.inside.ids (map id_bucket items) b place c.older-at.result keys (c.loop-at.invariant.along.here place c.in-Some.is) c.older-at.ensures in
    let there : slice_get items place ≡ Some c.in-Some-get.item.now = ap (λ xs. slice_get xs place) (sym c.self.view_is) ∙ sym c.in-Some-get.ensures in
    let here = at_item (has_id c.args.channel.now c.args.id.now) items place c.in-Some-get.item.now there ∙ sym c.has_id.ensures in
    let at = ap behind c.in-Some.is in record {
      along = gone_on (map id_bucket items) b place c.older-at.result (c.loop-at.invariant.along.within place c.in-Some.is) m;
      same = put_length c.loop-at.marks c.mark_if.new.marks place c.channel_bucket-mark.result c.has_id.result c.mark_if.ensures ∙ c.loop-at.invariant.same;
      marked = marked_step is (map id_bucket items) b place (channel_bucket c.args.channel.now) c.older-at.result c.has_id.result c.loop-at.marks c.mark_if.new.marks c.channel_bucket-mark.result (has_id_in c.args.channel.now c.args.id.now items) m here c.channel_bucket-mark.ensures.bucket c.mark_if.ensures (omega (arith, c.loop-at.invariant.along.within place c.in-Some.is, c.loop-at.invariant.same, long_map id_bucket items)) (λ k h e. c.loop-at.invariant.marked k (omega (arith, at, h)) e);
      others = others_step is place c.has_id.result c.loop-at.marks c.mark_if.new.marks c.args.marks.now c.channel_bucket-mark.result here c.mark_if.ensures c.loop-at.invariant.others;
    }
