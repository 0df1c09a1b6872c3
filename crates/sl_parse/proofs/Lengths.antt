-- How many symbols a tree's spelling has: they don't depend on what follows.
use Rattle.std.proofs.Common.{◌≡◌, ℕ, ◌+◌, List, [], ◌∷◌, length, arith}
use Rattle.sl_ast.specs.Spelling.{spell_constructor, spell_head, spell_item}
use Rattle.sl_ast.specs.Symbols.{Sym}
use Rattle.sl_ast.specs.Trees.{Constructor, Head, Item}
use Rattle.sl_parse_grammar.proofs.Keeps.{keeps_constructor, keeps_head, keeps_item}

-- the first list is so much longer
Longer : ℕ → List Sym → List Sym → Type 0
Longer n xs ys = length xs ≡ length ys + n

both_longer : (n : ℕ) (x : Sym) (xs ys : List Sym) → Longer n xs ys → Longer n (x ∷ xs) (x ∷ ys)
unfolding Longer
both_longer n x xs ys h = omega (arith, h)

pub constructor_counts : (c : Constructor) (rest : List Sym) → length (spell_constructor c rest) ≡ length (spell_constructor c []) + length rest
unfolding Longer
constructor_counts c rest = keeps_constructor (Longer (length rest)) (both_longer (length rest)) c rest [] (omega arith)

pub head_counts : (h : Head) (rest : List Sym) → length (spell_head h rest) ≡ length (spell_head h []) + length rest
unfolding Longer
head_counts h rest = keeps_head (Longer (length rest)) (both_longer (length rest)) h rest [] (omega arith)

pub item_counts : (x : Item) (rest : List Sym) → length (spell_item x rest) ≡ length (spell_item x []) + length rest
unfolding Longer
item_counts x rest = keeps_item (Longer (length rest)) (both_longer (length rest)) x rest [] (omega arith)
