-- The tables of a specification that keeps the rules.
use Rattle.std.proofs.Common.{◌≡◌, ℕ, List, None, Ok}
use Rattle.std.specs.List.{Contains}
use Rattle.sl_ast.specs.Trees.{Constructor, Item}
use Rattle.sl_ast.specs.Unfolding.{Placed, unfolded}
use Rattle.sl_bind.proofs.CycleLemmas.{has_first, none_reaches_in}
use Rattle.sl_bind.proofs.OutcomeLemmas.{are_listed, name_operands}
use Rattle.sl_bind.proofs.RunLemmas.{all_taken}
use Rattle.sl_bind.proofs.TakenLemmas.{AreTaken}
use Rattle.sl_bind.proofs.WalkLemmas.{none_broken}
use Rattle.sl_bind.specs.Verdict.{taken}
use Rattle.sl_spec_constructors.specs.Listed.{AreListed, NameOperands, NamesTable}
use Rattle.sl_spec_constructors.specs.WholeText.{all_tables}
use Rattle.sl_base_graphs.specs.Orders.{NoneReaches}
use Rattle.sl_base_graphs.specs.Reaching.{Graph, successors}
use Rattle.sl_spec.specs.ConstructorItems.{constructors_in}
use Rattle.sl_spec.specs.declared.tables.Tables.{Tables}
use Rattle.sl_spec_tables.specs.TableRules.{late_fault}

-- All items were taken, and no rule over the whole is broken.
pub record IsWhole (cs : List (Placed Constructor)) (t : Tables) : Type 0 where
  pub are : AreTaken (all_tables cs) cs t
  pub none : late_fault t cs ≡ None

pub is_whole : (items : List Item) (t : Tables) → taken items ≡ Ok t → IsWhole (constructors_in (unfolded items)) t
is_whole items t is = record { are = all_taken items t is; none = none_broken items t is }

module _ (items : List Item) (t : Tables) (is : taken items ≡ Ok t) where
  abbrev pub all_constructors : List (Placed Constructor)
  all_constructors = constructors_in (unfolded items)

  -- each table has its constructors, and some
  pub tables_listed : AreListed t all_constructors
  tables_listed =
      let w = is_whole items t is in
      let f = has_first t all_constructors w.none in
      are_listed all_constructors t w.are f.0 f.1 f.2 f.3

  -- the tables that patterns name are meant by operands
  pub patterns_name_operands : NameOperands t all_constructors
  patterns_name_operands = name_operands all_constructors t (is_whole items t is).are

  -- no graph reaches itself in which a table names only what its operands mean
  pub no_table_reaches_itself : (g : Graph) → ((v w : ℕ) → Contains (successors g v) w → NamesTable t.constructors v w) → NoneReaches g
  no_table_reaches_itself = none_reaches_in t all_constructors (is_whole items t is).none tables_listed
