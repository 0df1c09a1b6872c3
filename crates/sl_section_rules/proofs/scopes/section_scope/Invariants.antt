use Rattle.std.proofs.Common.{◌≡◌, [], drop, fold}
use Rattle.sl_section_rules.specs.Scopes.{with_operand}
use Rattle.sl_section_rules.proofs.scopes.section_scope.Given as goal

-- what is there with the operands that are left is all
abbrev pub invariant-operands : goal.invariant-operands
invariant-operands l =
    let adds = with_operand l.attached in
    fold adds l.own (drop l.index l.operands) ≡ fold adds [] l.operands
