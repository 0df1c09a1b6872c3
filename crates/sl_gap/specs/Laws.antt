-- law: that a specification has one report, and some.
use Rattle.std.specs.Prelude.{◌≡◌, List}
use Rattle.sl_ast.specs.Trees.{Constructor}
use Rattle.sl_ast.specs.Unfolding.{Placed}
use Rattle.sl_base_surely.specs.Surely.{Surely}
use Rattle.sl_gap.specs.Reports.{IsReport, Report}
use Rattle.sl_spec.specs.declared.tables.Tables.{Tables}

-- Tables have one report at most.
abbrev pub HasOneReport : Type 0
HasOneReport = (t : Tables) (cs : List (Placed Constructor)) (r q : Report) → IsReport t cs r → IsReport t cs q → r ≡ q

-- It can't be that they have none.
abbrev pub HasSomeReport : Type 0
HasSomeReport = (t : Tables) (cs : List (Placed Constructor)) → Surely ((r : Report) × IsReport t cs r)
