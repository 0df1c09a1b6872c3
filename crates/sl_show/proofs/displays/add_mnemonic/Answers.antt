use Rattle.std.proofs.Common.{drop, map, sym, ◌∙◌}
use Rattle.sl_ast.specs.Views.{piece_of}
use Rattle.sl_spec_rules.proofs.Seen.{below_map, read_map}
use Rattle.sl_spec_constructors.specs.Displays.{behind, is_literal}
use Rattle.sl_spec_constructors.proofs.DisplayLemmas.{behind_goes, behind_stops}
use Rattle.sl_show.specs.Templates.{made}
use Rattle.sl_show.proofs.DisplayLemmas.{goes_on, stops}
use Rattle.sl_show.proofs.displays.add_mnemonic.Goals as goal

pub returns-then-not-is_literal-clause-added : goal.returns-then-not-is_literal-clause-added
returns-then-not-is_literal-clause-added c t s =
    let pieces = c.args.display.now in
    let below = c.pieces-test.true in
    stops (map piece_of pieces) c.pieces.index _ (below_map piece_of pieces c.pieces.index below) (read_map piece_of pieces c.pieces.index _ below)
    (made t s c.pieces.maker) _ (sym c.is_literal.ensures ∙ c.if-not-is_literal.true) (c.pieces.invariant.added t s)

pub returns-then-not-is_literal-clause-rest : goal.returns-then-not-is_literal-clause-rest
returns-then-not-is_literal-clause-rest c =
    let pieces = c.args.display.now in
    let below = c.pieces-test.true in
    behind_stops is_literal (map piece_of pieces) (behind is_literal (drop c.args.from (map piece_of pieces))) c.pieces.index _ (below_map piece_of pieces c.pieces.index below)
    (read_map piece_of pieces c.pieces.index _ below) (sym c.is_literal.ensures ∙ c.if-not-is_literal.true) c.pieces.invariant.rest

pub pieces-preserved : goal.pieces-preserved
pieces-preserved c =
    let pieces = c.args.display.now in
    let below = c.pieces-test.true in
    let within = below_map piece_of pieces c.pieces.index below in
    let holds = sym c.is_literal.ensures ∙ c.if-not-is_literal.false in record {
      added = λ t s. goes_on (map piece_of pieces) c.pieces.index _ within (read_map piece_of pieces c.pieces.index _ below)
          (made t s c.pieces.maker) (made t s c.add_literal.new.maker) _ holds (c.in_ok-add_literal.ensures t s) (c.pieces.invariant.added t s);
      rest = behind_goes is_literal (map piece_of pieces) (behind is_literal (drop c.args.from (map piece_of pieces))) c.pieces.index _ within
          (read_map piece_of pieces c.pieces.index _ below) holds c.pieces.invariant.rest;
    }
