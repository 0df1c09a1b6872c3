use Rattle.std.proofs.Common.{◌≡◌, drop}
use Rattle.sl_explain_exports.specs.ConstructorView.{constructors}
use Rattle.sl_explain_exports.specs.Constructors.{first_silent}
use Rattle.sl_explain_exports.proofs.constructors.first_silent.Given as goal

-- the first of those that are left is the first of all
abbrev pub invariant-all : goal.invariant-all
invariant-all l =
    first_silent l.table (constructors (drop l.at l.all)) ≡ first_silent l.table (constructors l.all)
