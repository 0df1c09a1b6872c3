-- What a part of a block is, by its shape.
use Rattle.std.proofs.Common.{◌≡◌, ℕ, List, [], ◌∷◌, ap, sym, ◌∙◌, Vec}
use Rattle.std.specs.declared.alloc.Global.{Global}
use Rattle.sl_ast.specs.Trees.{Inside, constructor_then, block_then}
use Rattle.sl_ast.specs.Views.{constructor_of, head_of, inner_indexes, inner_indexes_step, inner_step, inside_of}
use Rattle.sl_ast.specs.declared.constructors.Constructor.{Constructor}
use Rattle.sl_ast.specs.declared.constructors.Head.{Head}
use Rattle.sl_ast.specs.declared.constructors.Inner as n
use Rattle.sl_ast.specs.declared.constructors.Inner.TheFolds.{fold-roll-Inner}
use Rattle.sl_ast.specs.declared.constructors.Inner.TheOpen.{Inner-F}
use Rattle.sl_ast.specs.declared.constructors.Inner.TheVariants.{rolls-Constructor, rolls-With}
use Rattle.sl_parse.specs.Blocks.{chain_of, inner_places}

pub chain_constructor : (place : ℕ) (c : Constructor) (more : Inside) → chain_of (n.Constructor place c) more ≡ constructor_then (constructor_of c) more
chain_constructor place c more =
    ap (λ x. chain_of x more) (sym (rolls-Constructor place c)) ∙ ap (λ f. f more) (fold-roll-Inner (Inside → Inside) inner_step (Inner-F.Constructor place c))

pub chain_block : (place : ℕ) (h : Head) (inside : Vec n.Inner Global) (more : Inside) → chain_of (n.With place h inside) more ≡ block_then (head_of h) (inside_of inside.items) more
chain_block place h inside more =
    ap (λ x. chain_of x more) (sym (rolls-With place h inside)) ∙ ap (λ f. f more) (fold-roll-Inner (Inside → Inside) inner_step (Inner-F.With place h inside))

pub places_constructor : (place : ℕ) (c : Constructor) → inner_places (n.Constructor place c) ≡ place ∷ []
places_constructor place c = ap (λ x. inner_places x) (sym (rolls-Constructor place c)) ∙ fold-roll-Inner (List ℕ) inner_indexes_step (Inner-F.Constructor place c)

pub places_block : (place : ℕ) (h : Head) (inside : Vec n.Inner Global) → inner_places (n.With place h inside) ≡ place ∷ inner_indexes inside.items
places_block place h inside = ap (λ x. inner_places x) (sym (rolls-With place h inside)) ∙ fold-roll-Inner (List ℕ) inner_indexes_step (Inner-F.With place h inside)
