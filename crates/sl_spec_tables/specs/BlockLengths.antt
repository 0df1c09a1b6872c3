-- view: the bytes of the patterns of blocks, reckoned once for all constructors inside a block.
use Rattle.std.specs.Prelude.{◌≡◌, ℕ, ◌+◌, max, min, List, Vec}
use Rattle.std.specs.declared.alloc.Global.{Global}
use Rattle.std.specs.List.{AllByRecursion}
use Rattle.sl_ast.specs.Trees.{Head, Pattern}
use Rattle.sl_ast.specs.declared.patterns.PatternOp.{PatternOp}
use Rattle.sl_spec.specs.Named.{named}
use Rattle.sl_spec.specs.Numbers.{AreMade, AreMadeFor, AreTold}
use Rattle.sl_spec.specs.Tables.{Operand}
use Rattle.sl_spec.specs.declared.tables.Tables.{Tables}
use Rattle.sl_spec_tables.specs.Heads.{head_bytes}
use Rattle.sl_spec_tables.specs.Lengths.{joined_bytes, operand_bytes, pattern_bytes}
use Rattle.sl_spec_tables.specs.declared.block_lengths.Length.{Length, fold-Length}
use Rattle.sl_spec_tables.specs.declared.block_lengths.Length.TheOpen.{Length-F}
use Rattle.sl_spec_tables.specs.declared.rows.Row.{Row}

-- one level, where the bytes of each part inside are known
abbrev pub length_step : Tables → (ℕ → ℕ) → List Operand → Length-F ℕ → ℕ
length_step t of_table os (Length-F.Bytes n) = n
length_step t of_table os (Length-F.Name w) = operand_bytes t of_table (named (λ o. o.name) w.now os)
length_step t of_table os (Length-F.Raised inner plus least) = max (inner.value + plus) least
length_step t of_table os (Length-F.Joined op left right) = joined_bytes op left.value right.value

-- the bytes that are told, where there are operands
abbrev pub length_bytes : Tables → (ℕ → ℕ) → List Operand → Length → ℕ
length_bytes t of_table os = fold-Length ℕ (length_step t of_table os)

-- It has so many bytes, whatever the operands are.
abbrev pub IsNumber : Length → ℕ → Type 0
IsNumber l n = (t : Tables) (of_table : ℕ → ℕ) (os : List Operand) → length_bytes t of_table os l ≡ n

-- These have so many bytes more, and at least so many.
abbrev pub IsRaised : Length → ℕ → ℕ → Length → Type 0
IsRaised l plus least new = (t : Tables) (of_table : ℕ → ℕ) (os : List Operand)
    → min (length_bytes t of_table os new) 1025
    ≡ min (max (length_bytes t of_table os l + plus) least) 1025

-- These are the two joined.
abbrev pub IsJoined : PatternOp → Length → Length → Length → Type 0
IsJoined op left right new = (t : Tables) (of_table : ℕ → ℕ) (os : List Operand)
    → min (length_bytes t of_table os new) 1025
    ≡ min (joined_bytes op (length_bytes t of_table os left) (length_bytes t of_table os right)) 1025

-- It tells the bytes of this pattern.
abbrev pub IsLength : Tables → Pattern → Length → Type 0
IsLength t p l = (of_table : ℕ → ℕ) (os : List Operand)
    → min (length_bytes t of_table os l) 1025 ≡ min (pattern_bytes t of_table os p) 1025

-- It tells the bytes of this head's pattern.
abbrev pub IsLengthOf : Tables → Head → Length → Type 0
IsLengthOf t h l = (of_table : ℕ → ℕ) (os : List Operand)
    → min (length_bytes t of_table os l) 1025 ≡ min (head_bytes t of_table os h) 1025

-- The heads round these constructors are told by their numbers.
abbrev pub AreToldRows : (ℕ → Head) → List Row → Type 0
AreToldRows head_at rs = AllByRecursion (λ r. AreTold head_at r.own.now.heads.items) rs

-- The same of the constructors of each table.
abbrev pub AreToldGroups : (ℕ → Head) → List (Vec Row Global) → Type 0
AreToldGroups head_at gs = AllByRecursion (λ g. AreToldRows head_at g.items) gs

-- What was made of blocks is right for those round a constructor.
abbrev pub IsMeasured : Tables → List (ℕ × Length) → Row → Type 0
IsMeasured t made r = AreMadeFor (IsLengthOf t) r.own.now.heads.items made

-- It is right for those round these constructors.
abbrev pub AreMeasured : Tables → List (ℕ × Length) → List Row → Type 0
AreMeasured t made rs =
    (head_at : ℕ → Head) × AreToldRows head_at rs × AreMade (IsLengthOf t) head_at made

-- It is right for those round the constructors of tables.
abbrev pub AreMeasuredGroups : Tables → List (ℕ × Length) → List (Vec Row Global) → Type 0
AreMeasuredGroups t made gs =
    (head_at : ℕ → Head) × AreToldGroups head_at gs × AreMade (IsLengthOf t) head_at made
