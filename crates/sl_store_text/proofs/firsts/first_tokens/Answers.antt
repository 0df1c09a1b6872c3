use Rattle.std.proofs.Common.{List, [], map, ap, ◌∙◌}
use Rattle.sl_ast.specs.Views.{item_indexes, joined_lists}
use Rattle.sl_ast.specs.declared.items.Item.{Item}
use Rattle.sl_store_text.proofs.FirstLemmas.{all_joined, joins}
use Rattle.sl_store_text.proofs.firsts.first_tokens.Goals as goal

pub items-preserved : goal.items-preserved
items-preserved c =
    joins item_indexes [] c.as_slice-items.result.now c.items.firsts.items c.add_item.new.firsts.items c.items.index
    c.index-items-index.result c.items-test.true c.index-items-index.is c.in_ok-add_item.ensures c.items.invariant

pub returns : goal.returns
returns c =
    all_joined item_indexes [] c.as_slice-items.result.now c.items.firsts.items c.items.index c.items-test.false c.items.invariant
    ∙ ap (λ (is : List Item). joined_lists (map item_indexes is)) c.as_slice-items.ensures.value
