use Rattle.std.proofs.Common.{sym, ◌∙◌}
use Rattle.sl_decode_plan.proofs.UseLemmas.{uses_found, uses_new}
use Rattle.sl_decode_plan.proofs.uses.use_name.Goals as goal

pub returns-then-has : goal.returns-then-has
returns-then-has c =
    uses_found c.args.t.now c.args.operands.now c.args.leaves.now c.args.name.now c.args.all.now (sym c.has.ensures ∙ c.if-has.true) c.requires

pub returns : goal.returns
returns c =
    uses_new c.args.t.now c.args.operands.now c.args.leaves.now c.args.name.now c.args.all.now c.in_ok-used.used c.add.new.self c.in_ok-add.ensures.added
    c.in_ok-used.ensures.name c.in_ok-used.ensures.reads c.requires
