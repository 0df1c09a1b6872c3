use Rattle.std.proofs.Common.{◌≡◌, drop}
use Rattle.std.specs.Prelude.{find}
use Rattle.sl_explain_exports.specs.ConstructorView.{constructors}
use Rattle.sl_explain_exports.specs.Findings.{is_constant_of}
use Rattle.sl_lex.specs.Views.{views}
use Rattle.sl_explain_exports.proofs.findings.first_constant.Given as goal

-- the first of those that are left is the first of all
abbrev pub invariant-all : goal.invariant-all
invariant-all l =
    find (is_constant_of (views l.tokens) l.table) (constructors (drop l.at l.all))
    ≡ find (is_constant_of (views l.tokens) l.table) (constructors l.all)
