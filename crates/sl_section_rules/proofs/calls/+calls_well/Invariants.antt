use Rattle.std.proofs.Common.{◌≡◌, drop}
use Rattle.sl_ast.specs.Views.{arguments, expressions_of}
use Rattle.sl_section_rules.specs.SectionRules.{all_call_well}
use Rattle.sl_section_rules.proofs.calls.+calls_well.Given as goal

-- what is left tells of all
abbrev pub invariant-given : goal.invariant-given
invariant-given l =
    let well = all_call_well l.t l.scope in
    well (arguments (expressions_of (drop l.index l.es))) ≡ well (arguments (expressions_of l.es))
