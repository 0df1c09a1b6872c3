-- law: what is counted over the nodes of a decoded tree.
use Rattle.std.specs.Prelude.{◌≡◌, ℕ, ◌+◌, ◌≤◌, List, [], ◌∷◌, Some, slice_get}
use Rattle.sl_decode_meaning.specs.Trees.{Node, Trees, none, tree}
use Rattle.sl_spec.specs.Tables.{Ctor}
use Rattle.sl_spec.specs.declared.tables.Tables.{Tables}
use Rattle.sl_faithful_instructions.specs.Shaped.{AreShaped, number_of, operand_tables}

-- what each node adds, by the number of its constructor
abbrev pub total : (own : ℕ → ℕ) → Trees Node → ℕ
total own none = 0
total own (tree n below behind) = own n.ctor + (total own below + total own behind)

abbrev pub sum_of : (ℕ → ℕ) → List ℕ → ℕ
sum_of of_table [] = 0
sum_of of_table (b ∷ bs) = of_table b + sum_of of_table bs

-- Each constructor's own amount, and those of its table operands, are within that of its table.
abbrev pub Covers : Tables → (own of_table : ℕ → ℕ) → Type 0
Covers t own of_table = (number : ℕ) (c : Ctor) → slice_get t.constructors number ≡ Some c
    → own number + sum_of of_table (operand_tables c) ≤ of_table c.table

-- So is what is counted over a tree within those of its tables.
abbrev pub TreesAreCovered : Type 0
TreesAreCovered = (t : Tables) (own of_table : ℕ → ℕ) (f : Trees Node) (tables : List ℕ)
    → Covers t own of_table → AreShaped t number_of f tables
    → total own f ≤ sum_of of_table tables
