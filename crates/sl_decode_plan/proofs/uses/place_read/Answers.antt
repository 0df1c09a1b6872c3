use Rattle.std.proofs.Common.{ap, sym, subst, ◌∙◌}
use Rattle.sl_decode_meaning.specs.Kinds.{kind_of}
use Rattle.sl_decode_leaves.specs.Extents.{leaves_at}
use Rattle.sl_decode_plan.specs.Uses.{HasNoPlace, read_at}
use Rattle.sl_decode_plan.proofs.UseLemmas.{read_there}
use Rattle.sl_decode_plan.proofs.uses.place_read.Goals as goal

pub returns-in_ok-place : goal.returns-in_ok-place
returns-in_ok-place c = λ s.
    let kind = kind_of c.args.t.now c.args.operands.now c.args.name.now in
    read_there c.args.t.now (leaves_at s.lengths c.args.leaves.now) s c.args.name.now kind
    ∙ ap (read_at c.args.t.now s kind) (sym (c.in_ok-place.ensures s.lengths))

pub returns-else-has_place : goal.returns-else-has_place
returns-else-has_place c = λ s.
    read_there c.args.t.now (leaves_at s.lengths c.args.leaves.now) s c.args.name.now (kind_of c.args.t.now c.args.operands.now c.args.name.now)
    ∙ subst (HasNoPlace c.args.t.now) c.in_ok-kind_of.ensures (c.has_place.ensures c.if-has_place.false) s _ 0
