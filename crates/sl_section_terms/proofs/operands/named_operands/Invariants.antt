use Rattle.std.proofs.Common.{◌≡◌, [], drop}
use Rattle.sl_section_terms.specs.Scopes.{with_operands}
use Rattle.sl_section_terms.proofs.operands.named_operands.Given as goal

-- what is there with the operands that are left is all
abbrev pub invariant-operands : goal.invariant-operands
invariant-operands l =
    with_operands l.t l.own l.index (drop l.index l.operands) ≡ with_operands l.t [] 0 l.operands
