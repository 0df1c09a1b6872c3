-- meaning: the relations of constraints.
use Rattle.std.specs.Prelude.{◌≡◌, ◌<◌, ◌≤◌, ℤ, ◌<ℤ◌, ◌≤ℤ◌}
use Rattle.sl_shape_blocks.specs.declared.compare.Relation.{Relation}
use Rattle.sl_shape_blocks.specs.declared.compare.Relation.TheVariants.{Equal, NotEqual, Less, LessEqual, Greater, GreaterEqual}

abbrev pub Stands : Relation → ℤ → ℤ → Type 0
Stands Equal v n = v ≡ n
Stands NotEqual v n = v ≡ n → ⊥
Stands Less v n = v <ℤ n
Stands LessEqual v n = v ≤ℤ n
Stands Greater v n = n <ℤ v
Stands GreaterEqual v n = n ≤ℤ v
