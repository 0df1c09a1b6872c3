-- view: a rule that hangs on names, as the program keeps it.
use Rattle.std.specs.Prelude.{Bool, true, false, not, ◌&&◌, List, []}
use Rattle.std.specs.List.{list_all, list_any}
use Rattle.sl_spec_rules.specs.Names.{Name}
use Rattle.sl_spec_actions.specs.ActionNames.{with_name}

-- The rule is broken already, or else it hangs on how these names stand in patterns inside.
pub record Pending : Type 0 where
  pub holds : Bool
  pub names : List Name

-- It hangs on no name.
abbrev pub settled : Pending
settled = record { holds = true; names = [] }

-- It hangs on one name more.
abbrev pub hanging_on : Pending → Name → Pending
hanging_on p name = record { holds = p.holds; names = with_name p.names name }

abbrev pub broken : Pending → Pending
broken p = record { holds = false; names = p.names }

-- whether it holds where all the names have to stand so
abbrev pub all_stand : Pending → (Name → Bool) → Bool
all_stand p stands = p.holds && list_all stands p.names

-- whether it holds where none of the names may stand so
abbrev pub none_stands : Pending → (Name → Bool) → Bool
none_stands p stands = p.holds && not (list_any stands p.names)
