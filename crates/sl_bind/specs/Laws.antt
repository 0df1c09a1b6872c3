-- law: that each text has one verdict, and what holds of the tables of a specification.
use Rattle.std.specs.Prelude.{◌≡◌, ℕ, List, Ok}
use Rattle.std.specs.List.{Contains}
use Rattle.sl_ast.specs.Trees.{Item}
use Rattle.sl_bind.specs.Binding.{Binds, Verdict as Outcome, constructors_of}
use Rattle.sl_bind.specs.Verdict.{taken}
use Rattle.sl_spec_constructors.specs.Listed.{AreListed, NameOperands, NamesTable}
use Rattle.sl_base_graphs.specs.Orders.{NoneReaches}
use Rattle.sl_base_graphs.specs.Reaching.{Graph, successors}
use Rattle.sl_spec.specs.declared.tables.Tables.{Tables}

-- Items come to one verdict at most.
abbrev pub HasOneVerdict : Type 0
HasOneVerdict = (items : List Item) (v w : Outcome) → Binds items v → Binds items w → v ≡ w

-- It can't be that items come to none.
abbrev pub HasSomeVerdict : Type 0
HasSomeVerdict = (items : List Item) → (((v : Outcome) × Binds items v) → ⊥) → ⊥

-- In this graph a table goes to tables only that operands of its constructors mean.
abbrev pub IsByOperands : Tables → Graph → Type 0
IsByOperands t g = (v w : ℕ) → Contains (successors g v) w → NamesTable t.constructors v w

-- The tables of a text that keeps rules 1 to 37: each has its constructors, the tables that patterns
-- name are meant by operands, and none reaches itself by what operands mean.
pub record AreInOrder (items : List Item) (t : Tables) : Type 0 where
  pub listed : AreListed t (constructors_of items)
  pub named : NameOperands t (constructors_of items)
  pub acyclic : (g : Graph) → IsByOperands t g → NoneReaches g

abbrev pub TakenAreInOrder : Type 0
TakenAreInOrder = (items : List Item) (t : Tables) → taken items ≡ Ok t → AreInOrder items t
