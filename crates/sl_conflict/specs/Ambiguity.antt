-- meaning: settled tables, and what is told of the first table that isn't settled.
use Rattle.std.specs.Prelude.{◌≡◌, ℕ, ◌<◌, List, Some, slice_get}
use Rattle.sl_cube.specs.declared.Point.{Point}
use Rattle.sl_conflict.specs.Rows.{Row}
use Rattle.sl_conflict.specs.declared.judging.ConflictError.{ConflictError}
use Rattle.sl_conflict.specs.declared.judging.ConflictError.TheVariants.{Ambiguous, NoMemory}
use Rattle.sl_cube_sets.specs.Reports.{IsReport}
use Rattle.sl_cube_sets.specs.Sets.{IsSettled}
use Rattle.sl_cube_sets.specs.Unions.{has_set}
use Rattle.sl_cube_sets.specs.declared.report.Report.{Report}
use Rattle.sl_spec.specs.Tables.{Ctor}

-- The constructor of this number is one of the table.
pub record IsOf (ctors : List Ctor) (table number : ℕ) : Type 0 where
  pub ctor : Ctor
  pub ctor_is : slice_get ctors number ≡ Some ctor
  pub of_table : ctor.table ≡ table

-- A constructor of the first table stands before each one of the second.
pub record AppearsBefore (ctors : List Ctor) (first second : ℕ) : Type 0 where
  pub number : ℕ
  pub is_of : IsOf ctors first number
  pub before : (n : ℕ) → IsOf ctors second n → number < n

-- For anything that has points in tables: which has which point in which table, and all of them in order.
module _ {X : Type 0} (has : ℕ → X → Point → Type 0) (xs : List X) where
  -- At each point that some of them has in the table, one of them lies properly within each other that has it.
  abbrev pub IsTableSettled : ℕ → Type 0
  IsTableSettled table = IsSettled (has table) xs

  -- Each table is settled.
  abbrev pub AreSettled : ℕ → Type 0
  AreSettled tables = (table : ℕ) → table < tables → IsTableSettled table

  -- The table isn't settled, this is the report on it, and each table that appears before it is settled.
  pub record IsFirstAmbiguous (ctors : List Ctor) (tables table : ℕ) (told : Report) : Type 0 where
    pub among : table < tables
    pub report : IsReport (has table) xs told
    pub settled_before : (other : ℕ) → other < tables → AppearsBefore ctors other table → IsTableSettled other

-- the constructor is one of the table, and its set has the point
abbrev pub has_in : ℕ → Row → Point → Type 0
has_in table r p = (r.table ≡ table) × has_set r.set p

-- The error tells the first table that isn't settled, and the report on it.
abbrev pub Tells : List Ctor → ℕ → List Row → ConflictError → Type 0
Tells ctors tables rs (Ambiguous table first second both apart) = IsFirstAmbiguous has_in rs ctors tables table
    (record { both = both; first = first; second = second; apart = apart })
Tells ctors tables rs NoMemory = Unit {0}
