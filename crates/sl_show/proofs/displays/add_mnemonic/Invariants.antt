use Rattle.std.proofs.Common.{◌≡◌, ◌++◌, drop, map}
use Rattle.std.specs.List.{flat_map}
use Rattle.sl_ast.specs.Views.{piece_of}
use Rattle.sl_spec_constructors.specs.Displays.{behind, is_literal}
use Rattle.sl_show.specs.Pieces.{front, literal_text}
use Rattle.sl_show.specs.Templates.{made}
use Rattle.sl_show.specs.Texts.{Spot}
use Rattle.sl_spec.specs.declared.tables.Tables.{Tables}
use Rattle.sl_show.proofs.displays.add_mnemonic.Given as goal

abbrev pub invariant-pieces : goal.invariant-pieces
invariant-pieces l = record {
  added : (t : Tables) (s : Spot) → made t s l.maker ++ flat_map literal_text (front is_literal (drop l.index (map piece_of l.display)))
      ≡ made t s l.initial.maker ++ flat_map literal_text (front is_literal (drop l.from (map piece_of l.display)));
  rest : behind is_literal (drop l.index (map piece_of l.display)) ≡ behind is_literal (drop l.from (map piece_of l.display));
}
