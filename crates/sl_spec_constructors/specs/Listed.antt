-- law: tables with their constructors, where a text keeps the rules, and the tables that
-- constructors name.
use Rattle.std.specs.Prelude.{◌≡◌, ℕ, ◌<◌, ◌==◌, Bool, true, false, List, length}
use Rattle.std.specs.Prelude.{Option, Some, None, slice_get}
use Rattle.std.specs.List.{Contains, filter, range_with_len}
use Rattle.sl_ast.specs.Trees.{Constructor}
use Rattle.sl_ast.specs.Unfolding.{Placed}
use Rattle.sl_spec.specs.Named.{index_named}
use Rattle.sl_spec.specs.Tables.{Ctor, Operand, Table}
use Rattle.sl_spec.specs.declared.constructors.Means.TheVariants as means
use Rattle.sl_spec.specs.declared.tables.Tables.{Tables}
use Rattle.sl_spec_actions.specs.Parts.{Part, parts_of}

-- ---- the constructors of tables

-- whether it is a constructor of the table
abbrev pub is_of : ℕ → Option Ctor → Bool
is_of table None = false
is_of table (Some c) = c.table == table

-- the numbers of a table's constructors, in order
abbrev pub numbers_of : List Ctor → ℕ → List ℕ
numbers_of ctors table =
    filter (λ i. is_of table (slice_get ctors i)) (range_with_len 0 (length ctors))

-- Each table has its constructors, by their numbers in the text's order, and at least one.
pub record AreListed (t : Tables) (cs : List (Placed Constructor)) : Type 0 where
  pub counted : length t.constructors ≡ length cs
  pub below : (i : ℕ) (c : Ctor) → slice_get t.constructors i ≡ Some c
      → c.table < length t.tables
  pub numbers : (table : ℕ) (b : Table) → slice_get t.tables table ≡ Some b
      → b.constructors ≡ numbers_of t.constructors table
  pub some : (table : ℕ) → table < length t.tables
      → 0 < length (numbers_of t.constructors table)

-- ---- the tables that constructors name

-- One of the operands means the table.
abbrev pub MeansTable : List Operand → ℕ → Type 0
MeansTable os table = (o : Operand) × Contains os o × (o.means ≡ means.Table table)

-- A constructor of the first table has an operand that means the second.
abbrev pub NamesTable : List Ctor → ℕ → ℕ → Type 0
NamesTable ctors table other =
    (c : Ctor) × Contains ctors c × (c.table ≡ table) × MeansTable c.operands other

-- A name stands alone in the pattern of the constructor of this number.
pub record StandsAlone (cs : List (Placed Constructor)) (tables : List Table) (i : ℕ)
    (p : Part) : Type 0 where
  pub placed : Placed Constructor
  pub placed_is : slice_get cs i ≡ Some placed
  pub among : Contains (parts_of tables placed.1.pattern) p
  pub alone : p.bare ≡ true

-- The tables that the pattern of a constructor names are among those that its operands mean.
abbrev pub NameOperands : Tables → List (Placed Constructor) → Type 0
NameOperands t cs = (i : ℕ) (c : Ctor) → slice_get t.constructors i ≡ Some c
    → (p : Part) → StandsAlone cs t.tables i p
    → (table : ℕ) → index_named (λ b. b.name) p.name t.tables ≡ Some table
    → MeansTable c.operands table
