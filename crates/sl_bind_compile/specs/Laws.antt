-- law: that a specification has one outcome, and some.
use Rattle.std.specs.Prelude.{◌≡◌, List}
use Rattle.sl_ast.specs.Trees.{Item}
use Rattle.sl_bind_compile.specs.Outcomes.{Compilation, Compiles}

-- There is one outcome at most.
abbrev pub HasOneOutcome : Type 0
HasOneOutcome = (items : List Item) (r q : Compilation) → Compiles items r → Compiles items q → r ≡ q

-- It can't be that there is none.
abbrev pub HasSomeOutcome : Type 0
HasSomeOutcome = (items : List Item) → ((r : Compilation) × Compiles items r → ⊥) → ⊥
