-- law: a graph of which no node reaches itself has an order, and so have tables by rule 34.
use Rattle.std.specs.Prelude.{◌≡◌, ℕ, List, None}
use Rattle.sl_ast.specs.Trees.{Constructor}
use Rattle.sl_ast.specs.Unfolding.{Placed}
use Rattle.sl_spec_constructors.specs.Listed.{AreListed}
use Rattle.sl_base_graphs.specs.Orders.{IsOrder, NoneReaches}
use Rattle.sl_base_graphs.specs.Reaching.{Graph}
use Rattle.sl_section_resolve.specs.Macros.{Body}
use Rattle.sl_spec.specs.declared.tables.Tables.{Tables}
use Rattle.sl_spec_tables.specs.TableRules.{late_fault}
use Rattle.sl_faithful_limits.specs.TreeLaws.{KeepLimits}
use Rattle.sl_section_weights.specs.Weights.{first_heavy}

-- There is an order in which each node stands behind its successors.
pub record HasOrder (g : Graph) : Type 0 where
  pub order : List ℕ
  pub is_order : IsOrder g order

abbrev pub GraphsHaveOrders : Type 0
GraphsHaveOrders = (g : Graph) → NoneReaches g → HasOrder g

-- Tables that have their constructors, where rules 32 to 38 hold, keep the limits.
abbrev pub TablesKeepLimits : Type 0
TablesKeepLimits = (t : Tables) (cs : List (Placed Constructor)) (macros : List Body)
    → AreListed t cs → late_fault t cs ≡ None → first_heavy t macros cs ≡ None
    → KeepLimits t cs macros
