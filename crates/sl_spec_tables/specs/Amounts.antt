-- step: what is reckoned over constructors, as the program takes them one after another.
use Rattle.std.specs.Prelude.{ℕ, max, min}
use Rattle.sl_spec.specs.declared.constructors.Means.{Means}
use Rattle.sl_spec.specs.declared.constructors.Means.TheVariants.{Field, Table, Action}
use Rattle.sl_spec_tables.specs.declared.quantities.Quantity.{Quantity}
use Rattle.sl_spec_tables.specs.declared.quantities.Quantity.TheVariants.{Least, Greatest, Nodes}

-- the nodes of what an operand means
abbrev pub node_amount : (ℕ → ℕ) → Means → ℕ
node_amount of_table (Table id) = of_table id
node_amount of_table (Field id) = 0
node_amount of_table (Action n) = 0

-- what stands for two numbers
abbrev pub pick : Quantity → ℕ → ℕ → ℕ
pick Least m n = min m n
pick Greatest m n = max m n
pick Nodes m n = max m n

-- what stands for no number, up to a cap
abbrev pub start : Quantity → ℕ
start Least = 1025
start Greatest = 0
start Nodes = 0
