use Rattle.std.proofs.Common.{◌≡◌, drop, map}
use Rattle.sl_ast.specs.Views.{item_of}
use Rattle.sl_section_rules.specs.WholeText.{context_of}
use Rattle.sl_section_rules.proofs.whole_text.context_of.Given as goal

-- what is left tells of all
abbrev pub invariant-items : goal.invariant-items
invariant-items l = context_of (map item_of (drop l.index l.items)) ≡ context_of (map item_of l.items)
