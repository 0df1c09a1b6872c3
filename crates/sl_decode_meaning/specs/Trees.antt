-- meaning: trees of nodes.
use Rattle.std.specs.Prelude.{ℕ, ℤ, List, [], ◌∷◌}
use Rattle.sl_decode_meaning.specs.declared.notes.Noted.{Noted}

-- trees side by side: none, or a node with the trees below it, and those behind it
pub data Trees (N : Type 0) : Type 0 where
  none : Trees N
  tree : N → Trees N → Trees N → Trees N

-- a node before its action names have values; `at` counts bytes from the instruction's start, and
-- the context is that behind the node's own actions
pub record Begun : Type 0 where
  pub ctor : ℕ
  pub at : ℕ
  pub length : ℕ
  pub context : ℕ
  pub notes : List Noted

-- a node, with the values of its action names
pub record Node : Type 0 where
  pub ctor : ℕ
  pub at : ℕ
  pub length : ℕ
  pub context : ℕ
  pub values : List ℤ

abbrev pub lengths_of : Trees Begun → List ℕ
lengths_of none = []
lengths_of (tree n below behind) = n.length ∷ lengths_of behind

abbrev pub with_values : Begun → List ℤ → Node
with_values n values =
    record { ctor = n.ctor; at = n.at; length = n.length; context = n.context; values = values }
