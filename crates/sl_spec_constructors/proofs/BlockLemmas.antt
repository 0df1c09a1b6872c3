-- A constructor in blocks: its table and its display.
use Rattle.std.proofs.Common.{◌≡◌, List, [], ◌∷◌, fold, refl, ◌∙◌, Option, None, Some}
use Rattle.std.specs.Prelude.{unwrap_or}
use Rattle.sl_ast.specs.Trees.{Constructor, Head}
use Rattle.sl_ast.specs.Unfolding.{or_else}
use Rattle.sl_spec_rules.specs.Names.{Name}
use Rattle.sl_spec.specs.Unfolded.{under}
use Rattle.sl_spec_constructors.specs.Blocks.{table_inside}

-- ---- tables

abbrev pub inner_table : Name → Head → Name
inner_table outer h = table_inside h outer

own_first : (own outer : Option Name) (name : Name) → unwrap_or (or_else own outer) name ≡ unwrap_or own (unwrap_or outer name)
own_first None outer name = refl
own_first (Some n) outer name = refl

pub table_in_blocks : (hs : List Head) (c : Constructor) (name : Name) → unwrap_or (under hs c).table name ≡ unwrap_or c.table (fold inner_table name hs)
table_in_blocks [] c name = refl
table_in_blocks (h ∷ hs) c name = own_first (under hs c).table h.table name ∙ table_in_blocks hs c (unwrap_or h.table name)

-- ---- displays

pub display_in_blocks : (hs : List Head) (c : Constructor) → (under hs c).display ≡ c.display
display_in_blocks [] c = refl
display_in_blocks (h ∷ hs) c = display_in_blocks hs c
