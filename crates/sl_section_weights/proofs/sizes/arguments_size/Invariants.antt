use Rattle.std.proofs.Common.{◌≡◌, ◌≤◌, ◌+◌, min, drop}
use Rattle.sl_ast.specs.Views.{arguments, expressions_of}
use Rattle.sl_section_weights.specs.Sizes.{arguments_size}
use Rattle.sl_section_weights.proofs.sizes.arguments_size.Given as goal

-- what is counted and the arguments that are left are all
abbrev pub invariant-arguments : goal.invariant-arguments
invariant-arguments l =
    let left = arguments (expressions_of (drop l.index l.es)) in
    let all = arguments (expressions_of l.es) in
    record {
      small : l.size ≤ 65537;
      alike : min (l.size + arguments_size left) 65537 ≡ min (arguments_size all) 65537;
    }
