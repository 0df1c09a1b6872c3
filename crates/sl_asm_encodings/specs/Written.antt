-- step: whether a constructor has an action, as the program keeps it.
use Rattle.std.specs.Prelude.{Bool, false, ◌||◌, nat_lt, length, Option, Some, None, Vec}
use Rattle.std.specs.List.{list_any}
use Rattle.std.specs.declared.alloc.Global.{Global}
use Rattle.sl_ast.specs.declared.patterns.Action.{Action}
use Rattle.sl_spec.specs.declared.unfolded.Unfolded.{Unfolded}

-- Brackets with an action are written.
abbrev pub has_some : Option (Vec Action Global) → Bool
has_some None = false
has_some (Some actions) = nat_lt 0 (length actions.items)

-- The constructor has an action, of a block round it or of its own.
abbrev pub is_with_action : Unfolded → Bool
is_with_action u = list_any (λ a. has_some a.head.now.actions) u.heads.items || has_some u.own.now.actions
