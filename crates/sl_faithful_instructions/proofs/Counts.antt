-- What is counted over a tree is within what its tables have.
use Rattle.std.proofs.Common.{ℕ, ◌≤◌, List, [], ◌∷◌, ap, arith}
use Rattle.sl_decode_meaning.specs.Trees.{Node, Trees, none, tree}
use Rattle.sl_spec.specs.declared.tables.Tables.{Tables}
use Rattle.sl_faithful_instructions.specs.Counted.{Covers, TreesAreCovered, sum_of, total}
use Rattle.sl_faithful_instructions.specs.Shaped.{AreShaped, number_of, operand_tables}

module _ (t : Tables) (own of_table : ℕ → ℕ) (covers : Covers t own of_table) where
  covered : (f : Trees Node) (tables : List ℕ) → AreShaped t number_of f tables → total own f ≤ sum_of of_table tables
  covered none [] h = omega arith
  covered none (b ∷ bs) h = absurd h
  covered (tree n below behind) [] h = absurd h
  covered (tree n below behind) (b ∷ bs) h =
      let is = h.0.0 in
      let one = covers n.ctor is.ctor is.there in
      let same = ap of_table is.is_of in
      let inner = covered below (operand_tables is.ctor) h.0.1 in
      let others = covered behind bs h.1 in
      omega (arith, one, same, inner, others)

pub trees_are_covered : TreesAreCovered
trees_are_covered t own of_table f tables covers h = covered t own of_table covers f tables h
