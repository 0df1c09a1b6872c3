-- law: what is known of the operands of a constructor before anything is decoded.
use Rattle.std.specs.Prelude.{◌≡◌, ℕ, Bool, true, List, Option, Some, None, slice_get}

-- A table: the size of what it exports, whether it is the target of a direct jump or call, and
-- whether it is assigned, each directly or through a re-export; a field to which registers of a
-- size are attached; or a number.
pub data Kind : Type 0 where
  table : (size : Option ℕ) → (target assigned : Bool) → Kind
  attached : (size : ℕ) → Kind
  value : Kind

abbrev pub kind_size : Option Kind → Option ℕ
kind_size None = None
kind_size (Some (table size target assigned)) = size
kind_size (Some (attached n)) = None
kind_size (Some value) = None

-- the size of what an operand exports
abbrev pub operand_size : List Kind → ℕ → Option ℕ
operand_size kinds i = kind_size (slice_get kinds i)

module _ (kinds : List Kind) where
  -- The operand is a table that exports.
  pub record IsExporting (i : ℕ) : Type 0 where
    pub size : ℕ
    pub target : Bool
    pub assigned : Bool
    pub is : slice_get kinds i ≡ Some (table (Some size) target assigned)

  -- The operand is a table whose exports may all be jumped to.
  pub record IsTarget (i : ℕ) : Type 0 where
    pub size : ℕ
    pub assigned : Bool
    pub is : slice_get kinds i ≡ Some (table (Some size) true assigned)

  -- The operand is a table whose exports may all be assigned.
  pub record IsAssigned (i : ℕ) : Type 0 where
    pub size : ℕ
    pub target : Bool
    pub is : slice_get kinds i ≡ Some (table (Some size) target true)
