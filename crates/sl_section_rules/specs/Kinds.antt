-- meaning: what a name of a section or macro is, as far as rules 27 to 31 ask (SLEIGH manual, "The
-- Semantic Section").
use Rattle.std.specs.Prelude.{◌||◌, Bool, true, false, Option, Some, None, if◌then◌else◌}
use Rattle.sl_section_flat.specs.Sections as s
use Rattle.sl_section_flat.specs.Sections.{Symbol}
use Rattle.sl_spec.specs.Tables.{Name}
use Rattle.sl_spec.specs.declared.tables.Tables.{Tables}
use Rattle.sl_section_terms.specs.Scopes.{symbol_named}
use Rattle.sl_section_rules.specs.declared.kinds.Kind.{Kind}
use Rattle.sl_section_rules.specs.declared.kinds.Kind.TheVariants as kind
use Rattle.sl_section_rules.specs.declared.scopes.Scope.{Scope}

-- A macro has no operands: the values among its names are its parameters.
abbrev pub kind_by : (in_macro : Bool) → Option Symbol → Kind
kind_by in_macro None = kind.Nothing
kind_by in_macro (Some (s.register space offset size)) = kind.Storage
kind_by in_macro (Some (s.bit_range space offset size low count)) = kind.Bits
kind_by in_macro (Some (s.local x)) = kind.Storage
kind_by in_macro (Some (s.table i)) = kind.Table
kind_by in_macro (Some (s.attached i size)) = kind.Storage
kind_by in_macro (Some (s.value i)) = if in_macro then kind.Parameter else kind.Number
kind_by in_macro (Some s.start) = kind.Number
kind_by in_macro (Some s.next) = kind.Number
kind_by in_macro (Some (s.integer v)) = kind.Number

-- what a name is
abbrev pub kind_of : Tables → Scope → Name → Kind
kind_of t scope w = kind_by scope.in_macro (symbol_named t scope.names w)

-- What may be assigned. A name that stands for nothing is declared by its assignment; elsewhere
-- rule 26 excludes it.
abbrev pub is_place : Kind → Bool
is_place kind.Parameter = true
is_place kind.Number = false
is_place kind.Storage = true
is_place kind.Bits = true
is_place kind.Table = true
is_place kind.Nothing = true

abbrev pub is_table : Kind → Bool
is_table kind.Parameter = false
is_table kind.Number = false
is_table kind.Storage = false
is_table kind.Bits = false
is_table kind.Table = true
is_table kind.Nothing = false

abbrev pub is_number : Kind → Bool
is_number kind.Parameter = false
is_number kind.Number = true
is_number kind.Storage = false
is_number kind.Bits = false
is_number kind.Table = false
is_number kind.Nothing = false

-- what may be handed on as it is: a local, a register, a field attached to variables, a table
abbrev pub is_handed_on : Kind → Bool
is_handed_on kind.Parameter = false
is_handed_on kind.Number = false
is_handed_on kind.Storage = true
is_handed_on kind.Bits = false
is_handed_on kind.Table = true
is_handed_on kind.Nothing = false

-- what may be the pointer of a place that is handed on
abbrev pub is_pointer : Kind → Bool
is_pointer k = is_handed_on k || is_number k
