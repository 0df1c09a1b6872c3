-- meaning: user operations (SLEIGH manual, "User-Defined Operations").
use Rattle.std.specs.Prelude.{ℕ, List, [], ◌∷◌, ◌++◌, map, Result}
use Rattle.sl_spec_rules.specs.Demands.{judged}
use Rattle.sl_spec_rules.specs.Names.{Name}
use Rattle.sl_spec.specs.Tables.{UserOp}
use Rattle.sl_spec.specs.declared.tables.Tables.{Tables}
use Rattle.sl_spec_registers.specs.NewNames.{are_new}

abbrev pub userop_of : Name → UserOp
userop_of name = record { name = name }

abbrev pub with_userops : Tables → List UserOp → Tables
with_userops t us = record t { userops = t.userops ++ us }

-- the operations of one definition, with rule 3
abbrev pub userop_step : Tables → List Name → Result Tables ℕ
userop_step t names =
    judged ((3, are_new t names) ∷ []) (with_userops t (map userop_of names))
