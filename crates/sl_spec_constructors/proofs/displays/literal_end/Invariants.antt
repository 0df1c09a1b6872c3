use Rattle.std.specs.Prelude.{◌≡◌, drop, map}
use Rattle.sl_ast.specs.Views.{piece_of}
use Rattle.sl_spec_constructors.specs.Displays.{behind, is_literal}
use Rattle.sl_spec_constructors.proofs.displays.literal_end.Given as goal

abbrev pub invariant-pieces : goal.invariant-pieces
invariant-pieces l = behind is_literal (drop l.index (map piece_of l.pieces)) ≡ behind is_literal (drop l.from (map piece_of l.pieces))
