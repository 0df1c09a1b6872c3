-- law: laws of the tree without `with` blocks, for any nesting.
use Rattle.std.specs.Prelude.{◌≡◌, ℕ, ◌+◌, List, [], ◌∷◌, ◌++◌, map, Option, None, Some}
use Rattle.sl_ast.specs.Spelling.{spell_pattern}
use Rattle.sl_ast.specs.Symbols.{Sym, mark}
use Rattle.sl_ast.specs.Trees.{Name, Pattern, Action, Constructor, Head, Inside, nothing, constructor_then, block_then, Item, block}
use Rattle.sl_ast.specs.Unfolding.{Placed, as_items, count_inside, or_else, unfolded_from, written}
use Rattle.sl_ast.specs.declared.symbols.Mark.TheVariants as m
use Rattle.sl_spec.specs.Unfolded.{under}

-- a constructor as it is written, with the blocks that are round it, the outermost first
pub record Nested : Type 0 where
  pub around : List Head
  pub own : Constructor

-- the constructors inside these blocks, numbered from n on
abbrev pub nested_inside : List Head → ℕ → Inside → List (Placed Nested)
nested_inside around n nothing = []
nested_inside around n (constructor_then c more) =
    (n, record { around = around; own = c }) ∷ nested_inside around (1 + n) more
nested_inside around n (block_then h inside more) =
    nested_inside (around ++ h ∷ []) (1 + n) inside
    ++ nested_inside around (1 + n + count_inside inside) more

abbrev pub all_under : List (Placed Nested) → List (Placed Constructor)
all_under cs = map (λ c. (c.0, under c.1.around c.1.own)) cs

-- Without blocks, each constructor inside one stands in all blocks that are round it, and keeps its number.
abbrev pub BlocksAreTakenAway : Type 0
BlocksAreTakenAway = (n : ℕ) (h : Head) (inside : Inside) (items : List Item)
    → unfolded_from n (block h inside ∷ items)
    ≡ as_items (all_under (nested_inside (h ∷ []) (1 + n) inside))
    ++ unfolded_from (1 + n + count_inside inside) items

-- `(H) & (..)`, where a block writes a pattern, with what stands inside in the second brackets
abbrev pub bracketed : Option Pattern → (List Sym → List Sym) → List Sym → List Sym
bracketed None inner rest = inner rest
bracketed (Some h) inner rest =
    mark m.Open ∷ spell_pattern h (mark m.Close ∷ mark m.Ampersand ∷ mark m.Open ∷ inner (mark m.Close ∷ rest))

-- the written patterns of blocks from the outermost inwards, each in brackets, and the constructor's own
abbrev pub in_brackets : List Head → Pattern → List Sym → List Sym
in_brackets [] p rest = spell_pattern p rest
in_brackets (h ∷ hs) p rest = bracketed h.pattern (in_brackets hs p) rest

-- They are the symbols of the pattern in the blocks.
abbrev pub PatternsStandInBrackets : Type 0
PatternsStandInBrackets = (hs : List Head) (c : Constructor) (rest : List Sym)
    → spell_pattern (under hs c).pattern rest ≡ in_brackets hs c.pattern rest

abbrev pub all_written : List Head → List Action
all_written [] = []
all_written (h ∷ hs) = written h.actions ++ all_written hs

-- The actions are all that are written, those of the outermost block first and the constructor's own last.
abbrev pub ActionsStandInOrder : Type 0
ActionsStandInOrder = (hs : List Head) (c : Constructor)
    → written (under hs c).actions ≡ all_written hs ++ written c.actions

-- the table of the innermost block that writes one
abbrev pub innermost : List Head → Option Name
innermost [] = None
innermost (h ∷ hs) = or_else (innermost hs) h.table

abbrev pub InnermostTableIsGiven : Type 0
InnermostTableIsGiven = (hs : List Head) (c : Constructor)
    → (under hs c).table ≡ or_else c.table (innermost hs)
