-- What a reader took is the spelling of what it gave.
use Rattle.std.proofs.Common.{◌≡◌, ℕ, ◌∷◌, Ok}
use Rattle.sl_ast.specs.Spelling.{spell_constructor, spell_head, spell_inside, spell_item}
use Rattle.sl_ast.specs.Symbols.{mark}
use Rattle.sl_ast.specs.Trees.{Constructor, Head, Inside, Item}
use Rattle.sl_ast.specs.Validity.{heaviest, deepest}
use Rattle.sl_ast.specs.declared.symbols.Mark.TheVariants as m
use Rattle.sl_parse_grammar.specs.Items.{constructor_here, head, block_at, item}
use Rattle.sl_parse_grammar.specs.Reader.{Input}
use Rattle.sl_parse_grammar.proofs.ConstructorRules.{constructor_rule, head_rule}
use Rattle.sl_parse_grammar.proofs.ItemRules.{item_rule, block_ok}

pub constructor_spelled : (i j : Input) (c : Constructor) → constructor_here heaviest i ≡ Ok (c, j) → i.rest ≡ spell_constructor c j.rest
constructor_spelled i j c h = ((constructor_rule heaviest).sound i j c h).tokens

pub head_spelled : (i j : Input) (x : Head) → head heaviest i ≡ Ok (x, j) → i.rest ≡ spell_head x j.rest
head_spelled i j x h = ((head_rule heaviest).sound i j x h).tokens

pub block_spelled : (n : ℕ) (i j : Input) (b : Head × Inside) → block_at heaviest n i ≡ Ok (b, j) → i.rest ≡ spell_head b.0 (spell_inside b.1 (mark m.CloseBrace ∷ j.rest))
block_spelled n i j b h = (block_ok heaviest n i j b h).tokens

pub item_spelled : (i j : Input) (x : Item) → item heaviest deepest i ≡ Ok (x, j) → i.rest ≡ spell_item x j.rest
item_spelled i j x h = ((item_rule heaviest deepest).sound i j x h).tokens
