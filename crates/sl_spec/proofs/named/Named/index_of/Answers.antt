use Rattle.std.proofs.Common.{ap, ◌∙◌}
use Rattle.std.specs.Str.{bytes_eq}
use Rattle.sl_base_names.specs.Names.{index_in}
use Rattle.sl_spec.specs.Named.{index_named}
use Rattle.sl_spec.proofs.ThingLemmas.{index_is}
use Rattle.sl_spec.proofs.named.Named.index_of.Goals as goal

pub returns : goal.returns
returns g c =
    let name_of = g.T.Entry.name_of in
    c.find.ensures ∙ ap (λ ns. index_in ns c.args.name.now) c.self.invariant
    ∙ index_is name_of (bytes_eq c.args.name.now) c.self.inside.things.items ∙ ap (λ xs. index_named name_of c.args.name.now xs) c.self.view_is
