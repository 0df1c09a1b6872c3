use Rattle.std.proofs.Common.{ap, sym, ◌∙◌}
use Rattle.sl_decode_meaning.specs.Places.{bare_place}
use Rattle.sl_decode_leaves.specs.Extents.{extent, leaves_at}
use Rattle.sl_decode_leaves.proofs.LeafLemmas.{not_alone, there_too}
use Rattle.sl_decode_leaves.proofs.leaves.add_alone.Goals as goal

pub returns-then-not-leaf : goal.returns-then-not-leaf
returns-then-not-leaf c = λ lengths name rest.
    let x = c.args.leaf.now in
    not_alone name x.name.now x.alone (leaves_at lengths c.args.all.now.items) rest (extent x.place lengths) c.if-not-leaf.true

pub returns-then-is_some : goal.returns-then-is_some
returns-then-is_some c = λ lengths name rest.
    let x = c.args.leaf.now in
    there_too name x.name.now x.alone (leaves_at lengths c.args.all.now.items) rest (extent x.place lengths) c.alone_of.result (λ e. extent e.now lengths) c.if-not-leaf.false
    (sym c.is_some.ensures ∙ c.if-is_some.true) (c.alone_of.ensures lengths ∙ ap (λ ls. bare_place x.name.now (leaves_at lengths ls)) c.as_slice.ensures.value)
