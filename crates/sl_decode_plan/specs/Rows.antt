-- view: steps, one row behind the other.
use Rattle.std.specs.Prelude.{List, Vec}
use Rattle.std.specs.List.{flat_map}
use Rattle.std.specs.declared.alloc.Global.{Global}
use Rattle.std.specs.declared.rc.Rc.{Rc}

abbrev pub all_steps : {T : Type 0} → List (Rc (Vec T Global) Global) → List T
all_steps rows = flat_map (λ r. r.value.items) rows
