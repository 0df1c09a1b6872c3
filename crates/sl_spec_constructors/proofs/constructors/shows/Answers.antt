use Rattle.std.proofs.Common.{List, map, sym, ap, ◌∙◌}
use Rattle.sl_ast.specs.Trees.{Piece}
use Rattle.sl_ast.specs.Views.{constructor_of, piece_of}
use Rattle.sl_ast.specs.declared.constructors.Shown.{Shown}
use Rattle.sl_spec.specs.Unfolded.{heads_of}
use Rattle.sl_spec_constructors.specs.ConstructorRules.{is_of_root, shows_operands}
use Rattle.sl_spec_constructors.proofs.BlockLemmas.{display_in_blocks}
use Rattle.sl_spec_constructors.proofs.constructors.shows.Goals as goal

pub returns : goal.returns
returns c =
    let t = c.args.t.now in
    let names = c.args.names.now in
    let own = constructor_of c.args.of.now.own.now in
    c.shows_operands.ensures ∙ ap (λ b. shows_operands t names b (map piece_of c.as_slice.result.now)) c.is_of_root.ensures
    ∙ ap (λ (ps : List Shown). shows_operands t names (is_of_root c.args.table.now) (map piece_of ps)) c.as_slice.ensures.value
    ∙ ap (λ (ps : List Piece). shows_operands t names (is_of_root c.args.table.now) ps) (sym (display_in_blocks (heads_of c.args.of.now.heads.items) own))
