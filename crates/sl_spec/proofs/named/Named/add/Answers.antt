use Rattle.std.proofs.Common.{ap, ◌∙◌}
use Rattle.std.specs.Str.{bytes_eq}
use Rattle.sl_base_names.specs.Names.{is_in}
use Rattle.sl_spec.specs.Named.{has_name}
use Rattle.sl_spec.proofs.ThingLemmas.{any_named}
use Rattle.sl_spec.proofs.named.Named.add.Goals as goal

pub add-requires : goal.add-requires
add-requires g c =
    let name_of = g.T.Entry.name_of in
    ap (λ ns. is_in ns c.args.name.now) c.self.invariant ∙ any_named name_of (bytes_eq c.args.name.now) c.self.inside.things.items
    ∙ ap (λ xs. has_name name_of c.args.name.now xs) c.self.view_is ∙ c.requires.fresh
