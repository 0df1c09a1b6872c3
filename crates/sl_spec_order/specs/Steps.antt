-- step: graphs and lists of tables, constructor after constructor.
use Rattle.std.specs.declared.alloc.Global.{Global}
use Rattle.std.specs.Prelude.{◌≡◌, ℕ, ◌<◌, Bool, false, List, Vec, Some, length, get_or, slice_get}
use Rattle.sl_spec_order.specs.Orders.{has, named_by}
use Rattle.sl_spec.specs.Tables.{Ctor}

-- Each table has the tables that these constructors name.
pub record IsGraphOf (count : ℕ) (ctors : List Ctor) (lists : List (Vec ℕ Global)) : Type 0 where
  pub counted : length lists ≡ count
  pub each : (t : ℕ) (list : Vec ℕ Global) → slice_get lists t ≡ Some list → list.items ≡ named_by ctors t

-- Of each table it is told whether it has come.
pub record Tells (count : ℕ) (done : List ℕ) (seen : List Bool) : Type 0 where
  pub counted : length seen ≡ count
  pub each : (t : ℕ) → t < count → get_or seen t false ≡ has done t
