use Rattle.std.proofs.Common.{sym, refl}
use Rattle.gp_session_publish.proofs.Taking.{begins, refused_items, no_memory_items}
use Rattle.gp_session_publish.proofs.reading_body.read.Goals as goal

pub refuse-requires : goal.refuse-requires
refuse-requires g c = refused_items c.args.live.now c.args.request c.requires.told c.bytes.result.now c.bytes.ensures c.in-Err.fault c.in-Some.place c.in-Err.ensures.read (sym c.in-Some.ensures)

pub returns-in-Ok : goal.returns-in-Ok
returns-in-Ok g c = record {
  leads = begins c.args.live.now c.args.request c.requires.told c.bytes.result.now c.bytes.ensures
      (record { left = c.new.result; published = 0; request = c.of.result }) c.in-Ok.items c.of.ensures refl c.new.ensures c.in-Ok.ensures.read c.in-Ok.ensures.fit;
}

pub returns : goal.returns
returns g c = record { leads = no_memory_items c.args.live.now c.args.request c.requires.told c.bytes.result.now c.bytes.ensures c.unpublished.result c.unpublished.ensures }
