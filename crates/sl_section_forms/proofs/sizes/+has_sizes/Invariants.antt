use Rattle.std.proofs.Common.{◌≡◌, drop}
use Rattle.sl_ast.specs.Views.{arguments, expressions_of}
use Rattle.sl_section_forms.specs.Sizes.{have_sizes}
use Rattle.sl_section_forms.proofs.sizes.+has_sizes.Given as goal

-- what is left tells of all
abbrev pub invariant-given : goal.invariant-given
invariant-given l =
    have_sizes (arguments (expressions_of (drop l.index l.es))) ≡ have_sizes (arguments (expressions_of l.es))
