use Rattle.std.proofs.Common.{ℕ, List, [], ◌∙◌, ap}
use Rattle.std.specs.Prelude.{slice_get}
use Rattle.sl_ast.specs.Views.{item_indexes}
use Rattle.sl_spec_rules.proofs.Gathers.{all_gathered, gathers}
use Rattle.sl_bind.proofs.indexes.first_token.Goals as goal

pub items-preserved : goal.items-preserved
items-preserved c =
    gathers item_indexes [] c.args.items.now c.items.all c.add_item.new.all c.items.index
    c.index-items-index.result c.items-test.true c.index-items-index.is c.in_ok-add_item.ensures c.items.invariant

pub returns : goal.returns
returns c =
    let all = all_gathered item_indexes [] c.args.items.now c.items.all c.items.index c.items-test.false c.items.invariant in
    c.copied.ensures ∙ c.get.ensures ∙ ap (λ (l : List ℕ). slice_get l c.args.number) all
