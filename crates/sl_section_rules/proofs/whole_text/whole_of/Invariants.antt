use Rattle.std.proofs.Common.{◌≡◌, [], drop, fold, map}
use Rattle.sl_ast.specs.Views.{item_of}
use Rattle.sl_section_rules.specs.WholeText.{with_attached}
use Rattle.sl_section_rules.proofs.whole_text.whole_of.Given as goal

-- what is there with the items that are left is all
abbrev pub invariant-items : goal.invariant-items
invariant-items l = fold with_attached l.attached (map item_of (drop l.index l.items)) ≡ fold with_attached [] (map item_of l.items)
