-- step: the open groups as the program keeps them.
use Rattle.std.specs.Prelude.{◌≡◌, List, ◌∷◌, reverse}
use Rattle.std.specs.Global.{Vec}
use Rattle.sl_preproc.specs.declared.groups.Group.{Group}

-- the groups, the innermost first
abbrev pub stack_of : Vec Group → List Group
stack_of v = reverse v.items

abbrev pub IsFirst : Group → List Group → Type 0
IsFirst g gs = (rest : List Group) × (gs ≡ g ∷ rest)
