-- law: the shape of a decoded tree.
use Rattle.std.specs.Prelude.{◌≡◌, ℕ, ⊤, List, [], ◌∷◌, map, Some, slice_get, Ok}
use Rattle.sl_ast.specs.Trees.{Constructor}
use Rattle.sl_ast.specs.Unfolding.{Placed}
use Rattle.sl_cube.specs.declared.Point.{Point}
use Rattle.sl_decode_meaning.specs.Decoding.{Decoded, decoded}
use Rattle.sl_decode_meaning.specs.Choices.{Choice}
use Rattle.sl_decode_meaning.specs.Trees.{Node, Trees, none, tree}
use Rattle.sl_spec.specs.Tables.{Ctor}
use Rattle.sl_spec.specs.declared.constructors.Means.{Means}
use Rattle.sl_spec.specs.declared.constructors.Means.TheVariants as means
use Rattle.sl_spec.specs.declared.tables.Tables.{Tables}

-- the tables among these, in order
abbrev pub tables_meant : List Means → List ℕ
tables_meant [] = []
tables_meant (means.Table id ∷ ms) = id ∷ tables_meant ms
tables_meant (means.Field id ∷ ms) = tables_meant ms
tables_meant (means.Action k ∷ ms) = tables_meant ms

abbrev pub operand_tables : Ctor → List ℕ
operand_tables c = tables_meant (map (λ o. o.means) c.operands)

module _ (t : Tables) where
  -- The constructor of this number is one of the table.
  pub record IsOf (number table : ℕ) : Type 0 where
    pub ctor : Ctor
    pub there : slice_get t.constructors number ≡ Some ctor
    pub is_of : ctor.table ≡ table

  -- The trees are nodes of constructors of these tables, one for each; below each node are those of
  -- its constructor's table operands, in order.
  abbrev pub AreShaped : {N : Type 0} → (number : N → ℕ) → Trees N → (tables : List ℕ) → Type 0
  AreShaped number none [] = ⊤
  AreShaped number (tree n below behind) (table ∷ tables) =
      ((is : IsOf (number n) table) × AreShaped number below (operand_tables is.ctor))
      × AreShaped number behind tables
  AreShaped number _ _ = ⊥

abbrev pub number_of : Node → ℕ
number_of n = n.ctor

-- What is chosen is a constructor of the table.
abbrev pub ChoosesOf : Tables → Choice → Type 0
ChoosesOf t choose = (table : ℕ) (p : Point) (number : ℕ) → choose table p ≡ Some number
    → IsOf t number table

-- A decoded tree is a node of the first table, `instruction`.
abbrev pub DecodesAreShaped : Type 0
DecodesAreShaped = (t : Tables) (constructors : List (Placed Constructor)) (choose : Choice)
    (bytes : List ℕ) (address context : ℕ) (d : Decoded) → ChoosesOf t choose
    → decoded t constructors choose bytes address context ≡ Ok d
    → AreShaped t number_of d.tree (0 ∷ [])
