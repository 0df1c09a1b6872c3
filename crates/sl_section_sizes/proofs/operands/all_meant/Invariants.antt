use Rattle.std.proofs.Common.{◌≡◌, map, take}
use Rattle.sl_section_sizes.specs.Rows.{lists_meant, tables_meant}
use Rattle.sl_section_sizes.proofs.operands.all_meant.Given as goal

abbrev pub invariant-ctors : goal.invariant-ctors
invariant-ctors l = lists_meant l.all.items ≡ map (λ c. tables_meant c.operands) (take l.ctor-index l.ctors)
