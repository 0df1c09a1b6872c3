use Rattle.std.proofs.Common.{◌≡◌, drop, option_map}
use Rattle.sl_ast.specs.Views.{arguments, bytes, expressions_of}
use Rattle.sl_section_rules.specs.Known.{know_names}
use Rattle.sl_section_rules.proofs.expressions.+knows_names.Given as goal

-- what is left tells of all
abbrev pub invariant-given : goal.invariant-given
invariant-given l =
    let knows = know_names l.t (option_map bytes l.context) l.names in
    knows (arguments (expressions_of (drop l.index l.es))) ≡ knows (arguments (expressions_of l.es))
