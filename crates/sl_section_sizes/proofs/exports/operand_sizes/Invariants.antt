use Rattle.std.proofs.Common.{◌≡◌, ◌++◌, drop}
use Rattle.sl_section_equations.specs.Known.{exports_of}
use Rattle.sl_section_sizes.specs.Sizings as z
use Rattle.sl_section_sizes.proofs.exports.operand_sizes.Given as goal

-- what is there and what the operands that are left give is all
abbrev pub invariant-operands : goal.invariant-operands
invariant-operands l =
    let of = z.operand_sizes (exports_of l.exports) in
    exports_of l.sizes.items ++ of (drop l.operand-index l.operands) ≡ of l.operands
