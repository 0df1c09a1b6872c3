-- view: what a compiled specification has.
use Rattle.std.specs.Prelude.{Ok}
use Rattle.sl_ast.specs.Views.{items_of}
use Rattle.sl_bind.specs.Binding.{Binds}
use Rattle.sl_bind_compile.specs.Outcomes.{Compiles, all_constructors}
use Rattle.sl_bind_compile.specs.declared.compiled.Compiled.{Compiled}
use Rattle.sl_section_sizes.specs.Sizings.{lists_of}
use Rattle.sl_conflict.specs.TableTests.{AreSetsOf}

-- The tables and the sizes are those of its text, the tables are sound, and the sets are those of
-- its constructors.
pub record IsCompiled (c : Compiled) : Type 0 where
  pub binds : Binds (items_of c.bound.spec) (Ok (c.bound.tables, lists_of c.bound.sizes.items))
  pub compiles : Compiles (items_of c.bound.spec) (Ok c.bound.tables)
  pub sets : AreSetsOf c.bound.tables (all_constructors (items_of c.bound.spec))
      c.checked.tables.items
