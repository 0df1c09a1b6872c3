use Rattle.sl_decode_plan.proofs.UseLemmas.{binary_same, bits_same, call_same, dropped_same, integer_same, name_same, ok_as, paren_same, prefix_same, sized_same, star_same, uses_both, uses_none, uses_one}
use Rattle.sl_decode_plan.proofs.uses.+use_expression.Goals as goal

pub returns-in-Name : goal.returns-in-Name
returns-in-Name t c = ok_as c.use_name.result c.use_name.ensures (λ used.
    uses_one c.args.t.now c.args.operands.now c.args.leaves.now c.args.all.now c.use_name.new.all _ _ used
    (λ those ms. name_same c.args.t.now c.args.operands.now c.args.leaves.now those ms c.args.e.now c.in-Name.name c.in-Name.is))

pub returns-in-Paren : goal.returns-in-Paren
returns-in-Paren t c = ok_as c.use_expression.result c.use_expression.ensures (λ used.
    uses_one c.args.t.now c.args.operands.now c.args.leaves.now c.args.all.now c.use_expression.new.all _ _ used
    (λ those ms. paren_same c.args.t.now c.args.operands.now c.args.leaves.now those ms c.args.e.now c.deref.result.now c.in-Paren.inner c.in-Paren.is c.deref.ensures))

pub returns-in-Prefix : goal.returns-in-Prefix
returns-in-Prefix t c = ok_as c.use_expression-in-Prefix.result c.use_expression-in-Prefix.ensures (λ used.
    uses_one c.args.t.now c.args.operands.now c.args.leaves.now c.args.all.now c.use_expression-in-Prefix.new.all _ _ used
    (λ those ms. prefix_same c.args.t.now c.args.operands.now c.args.leaves.now those ms c.args.e.now c.deref-in-Prefix.result.now c.in-Prefix.field-0 c.in-Prefix.inner c.in-Prefix.is c.deref-in-Prefix.ensures))

pub returns-in_ok-use_expression-in-Binary : goal.returns-in_ok-use_expression-in-Binary
returns-in_ok-use_expression-in-Binary t c = ok_as c.use_expression-in-Binary-2.result c.use_expression-in-Binary-2.ensures (λ used.
    uses_both c.args.t.now c.args.operands.now c.args.leaves.now c.args.all.now c.use_expression-in-Binary.new.all c.use_expression-in-Binary-2.new.all _ _ _ c.in_ok-use_expression-in-Binary.ensures used
    (λ those ms. binary_same c.args.t.now c.args.operands.now c.args.leaves.now those ms c.args.e.now c.deref-in-Binary.result.now c.deref-in-Binary-2.result.now c.in-Binary.field-0 c.in-Binary.left c.in-Binary.right
    c.in-Binary.is c.deref-in-Binary.ensures c.deref-in-Binary-2.ensures))

pub returns-in-Integer : goal.returns-in-Integer
returns-in-Integer t c =
    uses_none c.args.t.now c.args.operands.now c.args.leaves.now c.args.all.now _ c.requires
    (λ those ms. integer_same c.args.t.now c.args.operands.now c.args.leaves.now those ms c.args.e.now c.in-Integer.field-0 c.in-Integer.is)

pub returns-in-Call : goal.returns-in-Call
returns-in-Call t c =
    uses_none c.args.t.now c.args.operands.now c.args.leaves.now c.args.all.now _ c.requires
    (λ those ms. call_same c.args.t.now c.args.operands.now c.args.leaves.now those ms c.args.e.now c.in-Call.field-0 c.in-Call.field-1 c.in-Call.is)

pub returns-in-Sized : goal.returns-in-Sized
returns-in-Sized t c =
    uses_none c.args.t.now c.args.operands.now c.args.leaves.now c.args.all.now _ c.requires
    (λ those ms. sized_same c.args.t.now c.args.operands.now c.args.leaves.now those ms c.args.e.now c.in-Sized.field-0 c.in-Sized.field-1 c.in-Sized.is)

pub returns-in-Dropped : goal.returns-in-Dropped
returns-in-Dropped t c =
    uses_none c.args.t.now c.args.operands.now c.args.leaves.now c.args.all.now _ c.requires
    (λ those ms. dropped_same c.args.t.now c.args.operands.now c.args.leaves.now those ms c.args.e.now c.in-Dropped.field-0 c.in-Dropped.field-1 c.in-Dropped.is)

pub returns-in-Bits : goal.returns-in-Bits
returns-in-Bits t c =
    uses_none c.args.t.now c.args.operands.now c.args.leaves.now c.args.all.now _ c.requires
    (λ those ms. bits_same c.args.t.now c.args.operands.now c.args.leaves.now those ms c.args.e.now c.in-Bits.field-0 c.in-Bits.field-1 c.in-Bits.field-2 c.in-Bits.is)

pub returns-in-Star : goal.returns-in-Star
returns-in-Star t c =
    uses_none c.args.t.now c.args.operands.now c.args.leaves.now c.args.all.now _ c.requires
    (λ those ms. star_same c.args.t.now c.args.operands.now c.args.leaves.now those ms c.args.e.now c.in-Star.field-0 c.in-Star.field-1 c.in-Star.field-2 c.in-Star.is)
