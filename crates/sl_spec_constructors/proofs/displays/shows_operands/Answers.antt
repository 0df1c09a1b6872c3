use Rattle.std.proofs.Common.{Bool, List, drop, sym, ap, ◌∙◌}
use Rattle.std.specs.List.{list_all}
use Rattle.std.proofs.lemmas.List.{drop-map}
use Rattle.sl_ast.specs.Trees.{Piece}
use Rattle.sl_ast.specs.Views.{piece_of}
use Rattle.sl_ast.specs.declared.constructors.Shown.{Shown}
use Rattle.sl_spec_rules.proofs.ListLemmas.{all_map}
use Rattle.sl_spec_constructors.specs.ConstructorRules.{is_shown, shows_operands}
use Rattle.sl_spec_constructors.proofs.displays.shows_operands.Goals as goal

pub returns : goal.returns
unfolding shows_operands
returns c =
    let test : Piece → Bool = is_shown c.args.t.now.registers c.args.names.now in
    let display = c.args.display.now in
    c.all_shown.ensures ∙ ap (λ (ps : List Shown). list_all (λ p. test (piece_of p)) ps) c.split_at.ensures.back
    ∙ sym (all_map test piece_of (drop c.shown_from-from.result display)) ∙ ap (list_all test) (sym (drop-map piece_of c.shown_from-from.result display) ∙ c.shown_from-from.ensures.rest)
