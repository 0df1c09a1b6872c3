-- law: rules 36 and 38 bound the nodes of decoded trees, and what the sections of all nodes
-- weigh together.
use Rattle.std.specs.Prelude.{◌≡◌, ℕ, ◌<◌, ◌≤◌, List, [], ◌∷◌, length, Option, Some, None, slice_get}
use Rattle.sl_ast.specs.Trees.{Constructor}
use Rattle.sl_ast.specs.Unfolding.{Placed}
use Rattle.sl_decode_meaning.specs.TreeCounts.{count}
use Rattle.sl_decode_meaning.specs.Trees.{Node, Trees}
use Rattle.sl_base_graphs.specs.Orders.{IsOrder}
use Rattle.sl_section_resolve.specs.Macros.{Body}
use Rattle.sl_spec.specs.Tables.{Ctor}
use Rattle.sl_spec.specs.declared.tables.Tables.{Tables}
use Rattle.sl_spec_tables.specs.Rows.{graph, groups, rows}
use Rattle.sl_spec_tables.specs.TableRules.{late_fault}
use Rattle.sl_faithful_instructions.specs.Counted.{total}
use Rattle.sl_faithful_instructions.specs.Shaped.{AreShaped, number_of}
use Rattle.sl_section_weights.specs.Weights.{first_heavy, macro_weights, section_weight}

-- the weight of a section of its own
abbrev pub own_weight : List Body → Option (Placed Constructor) → ℕ
own_weight macros None = 0
own_weight macros (Some c) = section_weight macros (macro_weights macros) c.1.section

-- by the number of its constructor
abbrev pub weight_of : List Body → List (Placed Constructor) → (number : ℕ) → ℕ
weight_of macros cs number = own_weight macros (slice_get cs number)

-- The tables of a text, of whose tables there is an order, that keep rules 32 to 38 as far as
-- nodes and weights go; each constructor is in a table, and has a text.
pub record KeepLimits (t : Tables) (cs : List (Placed Constructor))
    (macros : List Body) : Type 0 where
  pub order : List ℕ
  pub is_order : IsOrder (graph (groups (length t.tables) (rows t cs))) order
  pub late : late_fault t cs ≡ None
  pub light : first_heavy t macros cs ≡ None
  pub written : length t.constructors ≤ length cs
  pub in_table : (number : ℕ) (c : Ctor) → slice_get t.constructors number ≡ Some c
      → c.table < length t.tables

-- There are at most 1,024 nodes, and together they weigh at most 65,536.
pub record IsLimited (cs : List (Placed Constructor)) (macros : List Body)
    (f : Trees Node) : Type 0 where
  pub nodes : count f ≤ 1024
  pub weight : total (weight_of macros cs) f ≤ 65536

-- So it is of each tree of `instruction`.
abbrev pub TreesAreLimited : Type 0
TreesAreLimited = (t : Tables) (cs : List (Placed Constructor)) (macros : List Body)
    (f : Trees Node) → KeepLimits t cs macros → AreShaped t number_of f (0 ∷ [])
    → IsLimited cs macros f
