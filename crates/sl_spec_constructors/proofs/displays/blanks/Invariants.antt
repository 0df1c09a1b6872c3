use Rattle.std.specs.Prelude.{◌≡◌, drop, map}
use Rattle.sl_ast.specs.Views.{piece_of}
use Rattle.sl_spec_constructors.specs.Displays.{behind, is_blank}
use Rattle.sl_spec_constructors.proofs.displays.blanks.Given as goal

abbrev pub invariant-pieces : goal.invariant-pieces
invariant-pieces l = behind is_blank (drop l.index (map piece_of l.pieces)) ≡ behind is_blank (map piece_of l.pieces)
