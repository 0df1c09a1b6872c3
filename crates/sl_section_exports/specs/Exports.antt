-- meaning: what the constructors of tables export, and rules 38 and 39 on it.
use Rattle.std.specs.Prelude.{ℕ, ◌==◌, ◌&&◌, Bool, true, false, cond, not, List, [], ◌∷◌}
use Rattle.std.specs.Prelude.{find, length}
use Rattle.std.specs.Prelude.{Option, Some, None, map, option_map, position, slice_get, unwrap_or}
use Rattle.std.specs.List.{list_any, range_with_len, zip}
use Rattle.sl_ast.specs.Trees.{Constructor, Section, Statement, export, statements, unimplemented}
use Rattle.sl_ast.specs.Unfolding.{Placed}
use Rattle.sl_section_equations.specs.Uses.{are_targets, assigned, each_used_passes, export_kind, flag}
use Rattle.sl_section_equations.specs.declared.exports.ExportKind.{ExportKind}
use Rattle.sl_section_equations.specs.declared.exports.ExportKind.TheVariants as e
use Rattle.sl_base_graphs.specs.Reaching.{Graph}
use Rattle.sl_spec_rules.specs.Gathered.{gathered}
use Rattle.sl_section_flat.specs.Sections.{Step}
use Rattle.sl_spec.specs.Tables.{Ctor, Operand}
use Rattle.sl_spec.specs.declared.constructors.Means.{Means}
use Rattle.sl_spec.specs.declared.constructors.Means.TheVariants as m
use Rattle.sl_spec.specs.declared.tables.Tables.{Tables}
use Rattle.sl_spec_tables.specs.Rows as all
use Rattle.sl_spec_tables.specs.Rows.{table_of}
use Rattle.sl_spec_tables.specs.TableRules.{first_fault}
use Rattle.sl_spec_tables.specs.declared.faults.LateFault.{LateFault}
use Rattle.sl_spec_tables.specs.declared.faults.Place.{Place}
use Rattle.sl_spec_tables.specs.declared.faults.Place.TheVariants.{Item}
use Rattle.sl_section_exports.specs.Spreading.{is_one_of, is_reached}

-- a constructor with its flat section, which has no steps where it is `unimpl`
abbrev pub Row : Type 0
Row = all.Row × List Step

-- the constructors of a text in its order, as far as there are sections of them
abbrev pub rows : Tables → List (Placed Constructor) → List (List Step) → List Row
rows t constructors sections = zip (all.rows t constructors) sections

-- the place of the first constructor that passes a test
abbrev pub first_place : (Row → Bool) → List Row → Option Place
first_place test rs = option_map (λ r. Item r.0.0.item) (find test rs)

-- a member, where a test holds
abbrev pub if_so : {A : Type 0} → Bool → A → List A
if_so holds x = cond holds (x ∷ []) []

-- ---- rule 38: which tables export

abbrev pub is_export : Statement → Bool
is_export (export what) = true
is_export _ = false

-- whether a section exports; macros don't, by rule 31
abbrev pub does_export : Section → Bool
does_export (statements body) = list_any is_export body
does_export unimplemented = false

-- whether a section that isn't `unimpl` exports nothing
abbrev pub is_silent : Section → Bool
is_silent (statements body) = not (list_any is_export body)
is_silent unimplemented = false

-- the tables of the constructors that export
abbrev pub exporting : List all.Row → List ℕ
exporting rs = gathered (λ r. if_so (does_export r.1.1.section) r.0.table) rs

-- the tables of the constructors that aren't `unimpl` and export nothing
abbrev pub silent : List all.Row → List ℕ
silent rs = gathered (λ r. if_so (is_silent r.1.1.section) r.0.table) rs

-- 38: in one table all constructors that aren't `unimpl` export, or none does
abbrev pub all_or_none : List all.Row → ℕ → Bool
all_or_none rs table = not (is_one_of (exporting rs) table && is_one_of (silent rs) table)

-- whether what an operand means is a table that passes a test
abbrev pub passes : (ℕ → Bool) → Means → Bool
passes test (m.Table id) = test id
passes test (m.Field id) = false
passes test (m.Action n) = false

-- of each operand, whether it is a table that passes a test
abbrev pub operand_flags : (ℕ → Bool) → Ctor → List Bool
operand_flags test c = map (λ o. passes test o.means) c.operands

-- 38: a table operand that is read, assigned, jumped to, exported or the pointer of an exported
-- star has a constructor that exports
abbrev pub uses_exports : List all.Row → Row → Bool
uses_exports rs r = each_used_passes (flag (operand_flags (is_one_of (exporting rs)) r.0.0)) r.1

-- the demands of rule 38 on exports, at a constructor and at its table
abbrev pub keeps_38 : List all.Row → Row → Bool
keeps_38 rs r = all_or_none rs r.0.0.table && uses_exports rs r

-- the first constructor at which one of these demands is broken; a table stands at its first one
unfoldable pub unexported_place : Tables → List (Placed Constructor) → List (List Step)
    → Option Place
unexported_place t constructors sections =
    first_place (λ r. not (keeps_38 (all.rows t constructors) r)) (rows t constructors sections)

-- ---- rule 39: what tables stand for

-- the default space, which there is by rule 32
abbrev pub default_space_index : Tables → ℕ
default_space_index t = unwrap_or (position (λ s. s.default) t.spaces) 0

abbrev pub is_constant : ExportKind → Bool
is_constant e.Constant = true
is_constant _ = false

abbrev pub is_storage : ExportKind → Bool
is_storage e.Storage = true
is_storage _ = false

-- the table that an operand means, by its number, where it means one
abbrev pub tables_meant : Option Operand → List ℕ
tables_meant None = []
tables_meant (Some o) = table_of o.means

abbrev pub operand_tables : Ctor → ℕ → List ℕ
operand_tables c i = tables_meant (slice_get c.operands i)

-- the table that is handed on, where a table operand is exported
abbrev pub re_exported : Ctor → ExportKind → List ℕ
re_exported c (e.Table i) = operand_tables c i
re_exported c _ = []

-- the tables that a constructor assigns
abbrev pub assigned_tables : Row → List ℕ
assigned_tables r = gathered (operand_tables r.0.0) (assigned r.1)

-- a graph with so many nodes, from its edges
abbrev pub graph_with : ℕ → List (ℕ × ℕ) → Graph
graph_with count edges =
    map (λ v. gathered (λ edge. if_so (edge.0 == v) edge.1) edges) (range_with_len 0 count)

abbrev pub swapped : ℕ × ℕ → ℕ × ℕ
swapped edge = (edge.1, edge.0)

module _ (default : ℕ) (rs : List Row) where
  abbrev pub kind : Row → ExportKind
  kind r = export_kind default r.1

  -- the tables that export a constant of their own
  abbrev pub constants : List ℕ
  constants = gathered (λ r. if_so (is_constant (kind r)) r.0.0.table) rs

  -- the tables that export storage of their own that is no target of a jump
  abbrev pub storages : List ℕ
  storages = gathered (λ r. if_so (is_storage (kind r)) r.0.0.table) rs

  -- each table with those that its constructors export
  abbrev pub re_exports : List (ℕ × ℕ)
  re_exports = gathered (λ r. map (λ u. (r.0.0.table, u)) (re_exported r.0.0 (kind r))) rs

module _ (default tables : ℕ) (rs : List Row) where
  -- a table is assigned, directly or through a re-export
  abbrev pub is_assigned : ℕ → Bool
  is_assigned table =
      is_reached (graph_with tables (re_exports default rs)) (gathered assigned_tables rs) table

  -- a table may stand for storage that is no target of a jump, its own or that of a re-export
  abbrev pub is_no_target : ℕ → Bool
  is_no_target table =
      let re_exporters = graph_with tables (map swapped (re_exports default rs)) in
      is_reached re_exporters (storages default rs) table

  -- 39: a table that is assigned, directly or through a re-export, exports no constant
  abbrev pub is_assignable : ℕ → Bool
  is_assignable table = not (is_assigned table && is_one_of (constants default rs) table)

  -- 39: the target of a direct jump or call is a number, or a table all of whose exports are
  -- constants or references with a bare number as pointer into the default space
  abbrev pub has_targets : Row → Bool
  has_targets r = are_targets (flag (operand_flags (λ u. not (is_no_target u)) r.0.0)) r.1

  -- the demands of rule 39, at a constructor and at its table
  abbrev pub keeps_39 : Row → Bool
  keeps_39 r = is_assignable r.0.0.table && has_targets r

-- the first constructor at which one of these demands is broken; a table stands at its first one
unfoldable pub misused_place : Tables → List (Placed Constructor) → List (List Step) → Option Place
misused_place t constructors sections =
    let rs = rows t constructors sections in
    first_place (λ r. not (keeps_39 (default_space_index t) (length t.tables) rs r)) rs

-- ---- both rules

-- the place of a constructor that weighs too much, by its number
abbrev pub heavy_place : Tables → Option ℕ → Option Place
heavy_place t None = None
heavy_place t (Some i) = option_map (λ c. Item c.item) (slice_get t.constructors i)

-- the demands of rules 38 and 39 with the places where they are broken; the sections are those of
-- all constructors before the first that weighs too much
abbrev pub section_rules : Tables → List (Placed Constructor) → List (List Step) → Option ℕ
    → List (ℕ × Option Place)
section_rules t constructors sections heavy =
    (38, unexported_place t constructors sections) ∷ (38, heavy_place t heavy) ∷
    (39, misused_place t constructors sections) ∷ []

-- the first broken one of rules 38 and 39
abbrev pub section_fault : Tables → List (Placed Constructor) → List (List Step) → Option ℕ
    → Option LateFault
section_fault t constructors sections heavy =
    first_fault (section_rules t constructors sections heavy)
