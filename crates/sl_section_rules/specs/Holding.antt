-- step: which rules hold of one statement, and of several.
use Rattle.std.specs.Prelude.{◌&&◌, List}
use Rattle.sl_ast.specs.Trees.{Statement}
use Rattle.sl_spec.specs.declared.tables.Tables.{Tables}
use Rattle.sl_section_rules.specs.Macros.{Signature}
use Rattle.sl_section_rules.specs.SectionRules.{assigns_places, builds_table, each_holds}
use Rattle.sl_section_rules.specs.SectionRules.{exports_well, knows, statement_calls_well}
use Rattle.sl_section_rules.specs.WholeText.{Whole}
use Rattle.sl_section_rules.specs.declared.holding.Holds.{Holds}
use Rattle.sl_section_rules.specs.declared.scopes.Scope.{Scope}

-- which rules hold of one statement
abbrev pub holding : Whole → Tables → List Signature → Scope → Statement → Holds
holding w t macros scope x = record {
  names = knows w t scope x;
  places = assigns_places t macros scope x;
  builds = builds_table t scope x;
  exports = exports_well t scope x;
  calls = statement_calls_well t macros scope x;
}

-- which hold of each statement
abbrev pub all_holding : Whole → Tables → List Signature → Scope → List Statement → Holds
all_holding w t macros scope body = record {
  names = each_holds t (knows w t) scope body;
  places = each_holds t (assigns_places t macros) scope body;
  builds = each_holds t (builds_table t) scope body;
  exports = each_holds t (exports_well t) scope body;
  calls = each_holds t (statement_calls_well t macros) scope body;
}

abbrev pub both : Holds → Holds → Holds
both h k = record {
  names = h.names && k.names;
  places = h.places && k.places;
  builds = h.builds && k.builds;
  exports = h.exports && k.exports;
  calls = h.calls && k.calls;
}
