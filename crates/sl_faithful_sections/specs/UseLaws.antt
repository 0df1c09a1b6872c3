-- law: by rules 38 and 39 tables export, are assigned and are jumped to as the sections that
-- use them count on.
use Rattle.std.specs.Prelude.{◌≡◌, ℕ, ◌<◌, Bool, true, not, List, length, Option, Some, None}
use Rattle.std.specs.Prelude.{slice_get, ⊤}
use Rattle.sl_ast.specs.Trees.{Constructor}
use Rattle.sl_ast.specs.Unfolding.{Placed}
use Rattle.sl_section_equations.specs.SizesIn.{size_in}
use Rattle.sl_section_equations.specs.Uses.{assigned, flag}
use Rattle.sl_section_exports.specs.Exports.{Row, default_space_index, exporting, is_assigned, is_no_target}
use Rattle.sl_section_exports.specs.Exports.{misused_place, operand_flags, rows, unexported_place}
use Rattle.sl_section_exports.specs.Spreading.{is_one_of}
use Rattle.sl_faithful_keeping.specs.Keeping.{IsPlaceExport, IsTargetExport, first_export}
use Rattle.sl_faithful_keeping.specs.KeepingLaws.{AreAssigned, UsesTables}
use Rattle.sl_section_flat.specs.Sections as s
use Rattle.sl_section_flat.specs.Sections.{Export, Step}
use Rattle.sl_spec.specs.Tables.{Ctor, Operand}
use Rattle.sl_spec.specs.declared.constructors.Means.TheVariants as means
use Rattle.sl_spec.specs.declared.tables.Tables.{Tables}
use Rattle.sl_spec_tables.specs.Rows as all
use Rattle.sl_faithful_instructions.specs.Sound.{Uses, kinds_of}

-- ---- what is known of tables

-- by the sizes that tables export in the end, and the sections of all constructors
abbrev pub uses_of : Tables → List Row → (last : List (Option ℕ)) → Uses
uses_of t rs last = record {
  size = size_in last;
  target = λ b. not (is_no_target (default_space_index t) (length t.tables) rs b);
  assigned = is_assigned (default_space_index t) (length t.tables) rs;
}

-- the tables among the operands of a constructor that export, and those that may be jumped to
abbrev pub exports_of : List all.Row → Ctor → ℕ → Bool
exports_of rs c = flag (operand_flags (is_one_of (exporting rs)) c)

abbrev pub targets_of : Tables → List Row → Ctor → ℕ → Bool
targets_of t rs c =
    flag (operand_flags (λ b. not (is_no_target (default_space_index t) (length t.tables) rs b)) c)

-- ---- what they keep

-- A name that is exported is a register, a local, a field with registers or a table, by rule 30.
abbrev pub NamesPlace : Export → Type 0
NamesPlace (s.exports (s.register space offset n) x) = ⊤
NamesPlace (s.exports (s.local y) x) = ⊤
NamesPlace (s.exports (s.table i) x) = ⊤
NamesPlace (s.exports (s.attached i n) x) = ⊤
NamesPlace (s.exports a x) = ⊥
NamesPlace (s.exports_constant n e x) = ⊤
NamesPlace (s.exports_memory space n e x) = ⊤

-- The size that a table exports is known.
pub record HasSize (last : List (Option ℕ)) (b : ℕ) : Type 0 where
  pub size : ℕ
  pub is : size_in last b ≡ Some size

-- Rules 38 and 39 hold, tables that export have sizes, and the tables of constructors and of their
-- operands are tables of the text.
pub record KeepUses (t : Tables) (cs : List (Placed Constructor)) (sections : List (List Step))
    (last : List (Option ℕ)) : Type 0 where
  pub exported : unexported_place t cs sections ≡ None
  pub used : misused_place t cs sections ≡ None
  pub sized : (b : ℕ) → is_one_of (exporting (all.rows t cs)) b ≡ true → HasSize last b
  pub places : (k : ℕ) (r : Row) (what : Export) → slice_get (rows t cs sections) k ≡ Some r
      → first_export r.1 ≡ Some what → NamesPlace what
  pub owners : (k : ℕ) (r : Row) → slice_get (rows t cs sections) k ≡ Some r
      → r.0.0.table < length t.tables
  pub operands : (k : ℕ) (r : Row) (i : ℕ) (o : Operand) (b : ℕ)
      → slice_get (rows t cs sections) k ≡ Some r → slice_get r.0.0.operands i ≡ Some o
      → o.means ≡ means.Table b → b < length t.tables

-- What a section's tables keep, by what is known of them.
pub record IsUsed (t : Tables) (rs : List Row) (alls : List all.Row) (last : List (Option ℕ))
    (r : Row) : Type 0 where
  pub uses : UsesTables (kinds_of t (uses_of t rs last) r.0.0) (exports_of alls r.0.0)
      (targets_of t rs r.0.0)
  pub assigns : AreAssigned (kinds_of t (uses_of t rs last) r.0.0) (assigned r.1)
  pub target : (what : Export) → first_export r.1 ≡ Some what
      → (uses_of t rs last).target r.0.0.table ≡ true
      → IsTargetExport (kinds_of t (uses_of t rs last) r.0.0) what
  pub place : (what : Export) → first_export r.1 ≡ Some what
      → (uses_of t rs last).assigned r.0.0.table ≡ true
      → IsPlaceExport (kinds_of t (uses_of t rs last) r.0.0) what

-- So it is of the section of each constructor.
abbrev pub TablesAreUsed : Type 0
TablesAreUsed = (t : Tables) (cs : List (Placed Constructor)) (sections : List (List Step))
    (last : List (Option ℕ)) (k : ℕ) (r : Row) → KeepUses t cs sections last
    → slice_get (rows t cs sections) k ≡ Some r
    → IsUsed t (rows t cs sections) (all.rows t cs) last r
