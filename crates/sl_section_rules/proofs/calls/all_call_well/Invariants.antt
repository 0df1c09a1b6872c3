use Rattle.std.proofs.Common.{◌≡◌, drop}
use Rattle.std.specs.List.{list_all}
use Rattle.sl_ast.specs.Views.{expressions_of}
use Rattle.sl_section_rules.specs.SectionRules.{calls_well}
use Rattle.sl_section_rules.proofs.calls.all_call_well.Given as goal

-- what is left tells of all
abbrev pub invariant-given : goal.invariant-given
invariant-given l =
    let well = calls_well l.t l.scope in
    list_all well (expressions_of (drop l.index l.es)) ≡ list_all well (expressions_of l.es)
