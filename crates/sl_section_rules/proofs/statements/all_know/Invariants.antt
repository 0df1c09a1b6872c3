use Rattle.std.proofs.Common.{◌≡◌, drop, option_map}
use Rattle.std.specs.List.{list_all}
use Rattle.sl_ast.specs.Views.{bytes, expressions_of}
use Rattle.sl_section_rules.specs.Known.{knows_names}
use Rattle.sl_section_rules.proofs.statements.all_know.Given as goal

-- what is left tells of all
abbrev pub invariant-given : goal.invariant-given
invariant-given l =
    let knows = knows_names l.t (option_map bytes l.context) l.names in
    list_all knows (expressions_of (drop l.index l.es)) ≡ list_all knows (expressions_of l.es)
