-- step: what stands inside a block, as what it puts before the rest of the block, and the indexes that are kept.
use Rattle.std.specs.Prelude.{◌≡◌, ℕ, ◌+◌, ◌-◌, ◌≤◌, List, [], ◌∷◌, ◌++◌, Option, Vec, if◌then◌else◌}
use Rattle.std.specs.declared.alloc.Global.{Global}
use Rattle.sl_ast.specs.Symbols.{Sym}
use Rattle.sl_ast.specs.Trees.{Constructor, Head, Inside, constructor_then, block_then}
use Rattle.sl_ast.specs.Unfolding.{size_of_head, firsts_inside, firsts_from}
use Rattle.sl_ast.specs.Views.{head_of, inside_of, inner_step, inner_indexes, inner_indexes_step, kind_of, kind_indexes}
use Rattle.sl_ast.specs.declared.constructors.Inner.{Inner, fold-Inner}
use Rattle.sl_ast.specs.declared.items.ItemKind.{ItemKind}
use Rattle.sl_ast.specs.declared.items.ItemKind.TheVariants as iv
use Rattle.sl_ast.specs.declared.symbols.Keyword.TheVariants as k
use Rattle.sl_parse_grammar.specs.Reader.{Input, left, Reader, ◌>>=◌, pure, is_keyword}
use Rattle.sl_parse.specs.declared.blocks.Block.{Block}

abbrev pub inside_of_vec : Vec Inner Global → Inside
inside_of_vec found = inside_of found.items

abbrev pub block_of : Block → Head × Inside
block_of b = (head_of b.head, inside_of_vec b.inside)

abbrev pub chain_of : Inner → Inside → Inside
chain_of = fold-Inner (Inside → Inside) inner_step

-- a constructor or a block, by the symbol that comes next
abbrev pub constructor_or_block : Reader Constructor → Reader (Head × Inside) → Option Sym → Reader (Inside → Inside)
constructor_or_block one inner o =
    if is_keyword k.With o then inner >>= (λ b. pure (block_then b.0 b.1)) else one >>= (λ c. pure (constructor_then c))

-- ---- the indexes of first symbols that are kept, where i is what was left and `total` what there was

-- those of a part of a block
abbrev pub inner_places : Inner → List ℕ
inner_places = fold-Inner (List ℕ) inner_indexes_step

-- they are the part's own, and what follows stands behind its symbols
pub record KeepsPart (total : ℕ) (i : Input) (x : Inner) (j : Input) : Type 0 where
  pub kept : left i ≤ total → (more : Inside) → firsts_inside (total - left i) (chain_of x more) ≡ inner_places x ++ firsts_inside (total - left j) more

pub record KeepsInside (total : ℕ) (i : Input) (found : List Inner) : Type 0 where
  pub kept : left i ≤ total → firsts_inside (total - left i) (inside_of found) ≡ inner_indexes found

-- those inside a block, which stand behind its head
pub record KeepsBlock (total : ℕ) (i : Input) (b : Block) : Type 0 where
  pub kept : left i ≤ total → firsts_inside (total - left i + size_of_head (head_of b.head)) (inside_of_vec b.inside) ≡ inner_indexes b.inside.items

pub record KeepsItem (total : ℕ) (i : Input) (kind : ItemKind) : Type 0 where
  pub kept : left i ≤ total → firsts_from (total - left i) (kind_of kind ∷ []) ≡ (total - left i) ∷ kind_indexes kind

-- it is no block
abbrev pub IsFlat : ItemKind → Type 0
IsFlat (iv.With d inside) = ⊥
IsFlat kind = Unit {0}
