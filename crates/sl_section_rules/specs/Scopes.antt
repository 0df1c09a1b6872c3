-- meaning: the names with which a section and a macro begin. The rules ask neither numbers nor
-- sizes of operands, which stand as 0 and 1.
use Rattle.std.specs.Prelude.{Bool, true, false, List, [], fold, if◌then◌else◌}
use Rattle.sl_ast.specs.Trees.{Statement}
use Rattle.sl_spec_rules.specs.Names.{Name, is_among}
use Rattle.sl_section_flat.specs.Sections as s
use Rattle.sl_section_flat.specs.Sections.{Symbol}
use Rattle.sl_spec.specs.Tables.{Operand}
use Rattle.sl_spec.specs.declared.constructors.Means.{Means}
use Rattle.sl_spec.specs.declared.constructors.Means.TheVariants as means
use Rattle.sl_spec.specs.declared.tables.Tables.{Tables}
use Rattle.sl_section_terms.specs.Entries.{Entry}
use Rattle.sl_section_terms.specs.Scopes.{reach_of, with_symbol}
use Rattle.sl_section_rules.specs.Known.{names_after}
use Rattle.sl_section_rules.specs.declared.scopes.Scope.{Scope}

abbrev pub operand_symbol : (attached : List Name) → Name → Means → Symbol
operand_symbol attached w (means.Field field) =
    if is_among attached w then s.attached 0 1 else s.value 0
operand_symbol attached w (means.Table table) = s.table 0
operand_symbol attached w (means.Action k) = s.value 0

abbrev pub with_operand : (attached : List Name) → List Entry → Operand → List Entry
with_operand attached own o = with_symbol own o.name (operand_symbol attached o.name o.means)

-- the operands of a constructor, by the fields of the whole text that are attached to variables
abbrev pub section_scope : (attached : List Name) → Tables → List Operand → Scope
section_scope attached t os = record {
  names = record { own = fold (with_operand attached) [] os; reach = reach_of t; here = 0 };
  in_macro = false;
}

abbrev pub with_parameter : List Entry → Name → List Entry
with_parameter own w = with_symbol own w (s.value 0)

-- the parameters of a macro
abbrev pub macro_scope : Tables → (parameters : List Name) → Scope
macro_scope t ps = record {
  names = record { own = fold with_parameter [] ps; reach = reach_of t; here = 0 };
  in_macro = true;
}

-- the names that are known behind a statement
abbrev pub scope_after : Tables → Scope → Statement → Scope
scope_after t scope x = record scope { names = names_after t scope.names x }
