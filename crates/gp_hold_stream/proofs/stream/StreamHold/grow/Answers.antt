use Rattle.std.proofs.Common.{sym, ap, ◌∙◌}
use Rattle.gp_plain.specs.Pieces.{id_or}
use Rattle.gp_plain.specs.Growth.{grown}
use Rattle.gp_plain.specs.Plans.{Machine}
use Rattle.gp_plain.proofs.Growing.{last_is}
use Rattle.gp_hold_stream.proofs.Streams.{grow_is}
use Rattle.gp_hold_stream.proofs.stream.StreamHold.grow.Goals as goal

pub returns-in-Some : goal.returns-in-Some
returns-in-Some c =
    let s = c.self.inside in
    let none = ap (λ (m : Machine). m.state.ended) c.self.view_is ∙ c.requires.0 in
    grow_is s.channel s.link s.pending.items c.append.new.self.items s.position c.in-Some.position s.ended c.ended-self-inside.result s.want s.asked s.late s.misses c.misses_after-self-inside.result c.args.run
    none c.append.ensures (ap (λ o. id_or o s.position) (sym c.in-Some.is ∙ c.requires.2) ∙ last_is s.position c.args.run.pieces) c.ended-self-inside.ensures c.misses_after-self-inside.ensures
    ∙ ap (λ (m : Machine). grown m.state c.args.run) c.self.view_is

pub returns-in_default : goal.returns-in_default
returns-in_default c =
    let s = c.self.inside in
    let none = ap (λ (m : Machine). m.state.ended) c.self.view_is ∙ c.requires.0 in
    grow_is s.channel s.link s.pending.items c.append.new.self.items s.position s.position s.ended c.ended-self-inside.result s.want s.asked s.late s.misses c.misses_after-self-inside.result c.args.run
    none c.append.ensures (ap (λ o. id_or o s.position) (sym c.in_default.is ∙ c.requires.2) ∙ last_is s.position c.args.run.pieces) c.ended-self-inside.ensures c.misses_after-self-inside.ensures
    ∙ ap (λ (m : Machine). grown m.state c.args.run) c.self.view_is
