-- meaning: what is attached to fields.
use Rattle.std.specs.Prelude.{ℕ, ◌==◌, Bool, List, Option, find, position}
use Rattle.std.specs.List.{list_any}
use Rattle.sl_spec.specs.Tables.{Attached}

-- what is attached to a field
abbrev pub attached_to : ℕ → List Attached → Option Attached
attached_to field all = find (λ a. field == a.field) all

-- whether something is attached to a field
abbrev pub is_attached : ℕ → List Attached → Bool
is_attached field all = list_any (λ a. field == a.field) all

-- the index of what is attached to a field
abbrev pub index_attached : ℕ → List Attached → Option ℕ
index_attached field all = position (λ a. field == a.field) all
