use Rattle.std.proofs.Common.{◌≡◌, ℕ, Bool, cond, not, map, take}
use Rattle.sl_section_exports.specs.Exports.{passes}
use Rattle.sl_section_exports.specs.Spreads.{mark_of}
use Rattle.sl_section_exports.proofs.unexported.operand_flags.Given as goal

abbrev pub invariant-operands : goal.invariant-operands
invariant-operands l =
    let test : ℕ → Bool = λ u. cond l.unmarked (not (mark_of l.marks u)) (mark_of l.marks u) in
    l.flags.items ≡ map (λ o. passes test o.means) (take l.operand-index l.operands)
