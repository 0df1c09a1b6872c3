-- Constructors in blocks of any nesting.
use Rattle.std.proofs.Common.{◌≡◌, ℕ, ◌+◌, List, [], ◌∷◌, ◌++◌, map, Option, None, Some, refl, ap, sym, ◌∙◌, append_assoc}
use Rattle.std.proofs.lemmas.List.{map-append}
use Rattle.sl_ast.specs.Spelling.{spell_pattern}
use Rattle.sl_ast.specs.Symbols.{Sym, mark}
use Rattle.sl_ast.specs.Trees.{Pattern, Action, Constructor, Head, Inside, nothing, constructor_then, block_then}
use Rattle.sl_ast.specs.Unfolding.{Placed, all_in_block, as_items, constructors_inside, count_inside, in_block, or_else, unfolded_from, written}
use Rattle.sl_ast.specs.Unfolding as unfolding_spec
use Rattle.sl_ast.specs.declared.symbols.Mark.TheVariants as m
use Rattle.sl_spec.specs.Unfolded.{under}
use Rattle.sl_test_laws.specs.Blocks.{ActionsStandInOrder, BlocksAreTakenAway, InnermostTableIsGiven, PatternsStandInBrackets, all_under, all_written, bracketed, in_brackets, innermost, nested_inside}

-- ---- which blocks are round a constructor

abbrev placed_under : List Head → Placed Constructor → Placed Constructor
placed_under around c = (c.0, under around c.1)

under_last : (around : List Head) (h : Head) (c : Constructor) → under (around ++ h ∷ []) c ≡ under around (in_block h c)
under_last [] h c = refl
under_last (a ∷ around) h c = ap (in_block a) (under_last around h c)

all_last : (around : List Head) (h : Head) (cs : List (Placed Constructor)) → map (placed_under (around ++ h ∷ [])) cs ≡ map (placed_under around) (all_in_block h cs)
all_last around h [] = refl
all_last around h (c ∷ cs) = ap (λ d. (c.0, d) ∷ map (placed_under (around ++ h ∷ [])) cs) (under_last around h c.1) ∙ ap (λ ds. (c.0, under around (in_block h c.1)) ∷ ds) (all_last around h cs)

nested_is : (around : List Head) (n : ℕ) (x : Inside) → all_under (nested_inside around n x) ≡ map (placed_under around) (constructors_inside n x)
nested_is around n nothing = refl
nested_is around n (constructor_then c more) = ap (λ cs. (n, under around c) ∷ cs) (nested_is around (1 + n) more)
nested_is around n (block_then h inside more) =
    let behind = 1 + n + count_inside inside in
    map-append _ (nested_inside (around ++ h ∷ []) (1 + n) inside) (nested_inside around behind more)
    ∙ ap (λ cs. cs ++ all_under (nested_inside around behind more)) (nested_is (around ++ h ∷ []) (1 + n) inside ∙ all_last around h (constructors_inside (1 + n) inside))
    ∙ ap (λ cs. map (placed_under around) (all_in_block h (constructors_inside (1 + n) inside)) ++ cs) (nested_is around behind more)
    ∙ sym (map-append (placed_under around) (all_in_block h (constructors_inside (1 + n) inside)) (constructors_inside behind more))

one_block : (h : Head) (cs : List (Placed Constructor)) → map (placed_under (h ∷ [])) cs ≡ all_in_block h cs
one_block h [] = refl
one_block h (c ∷ cs) = ap (λ ds. (c.0, in_block h c.1) ∷ ds) (one_block h cs)

pub taken_away : BlocksAreTakenAway
taken_away n h inside items =
    ap (λ cs. as_items cs ++ unfolded_from (1 + n + count_inside inside) items)
    (sym (nested_is (h ∷ []) (1 + n) inside ∙ one_block h (constructors_inside (1 + n) inside)))

-- ---- what they give it

around_pattern : (h : Option Pattern) (p : Pattern) (inner : List Sym → List Sym) → ((rest : List Sym) → spell_pattern p rest ≡ inner rest) → (rest : List Sym)
    → spell_pattern (unfolding_spec.under h p) rest ≡ bracketed h inner rest
around_pattern None p inner same rest = same rest
around_pattern (Some h) p inner same rest =
    ap (λ xs. mark m.Open ∷ spell_pattern h (mark m.Close ∷ mark m.Ampersand ∷ mark m.Open ∷ xs)) (same (mark m.Close ∷ rest))

pub patterns_are : PatternsStandInBrackets
patterns_are [] c rest = refl
patterns_are (h ∷ hs) c rest = around_pattern h.pattern (under hs c).pattern (in_brackets hs c.pattern) (patterns_are hs c) rest

before_is : (outer inner : Option (List Action)) → written (unfolding_spec.before outer inner) ≡ written outer ++ written inner
before_is None inner = refl
before_is (Some xs) inner = refl

pub actions_are : ActionsStandInOrder
actions_are [] c = refl
actions_are (h ∷ hs) c =
    before_is h.actions (under hs c).actions ∙ ap (λ xs. written h.actions ++ xs) (actions_are hs c) ∙ sym (append_assoc (written h.actions) (all_written hs) (written c.actions))

or_assoc : {A : Type 0} (x y z : Option A) → or_else (or_else x y) z ≡ or_else x (or_else y z)
or_assoc (Some a) y z = refl
or_assoc None y z = refl

or_none : {A : Type 0} (x : Option A) → x ≡ or_else x None
or_none (Some a) = refl
or_none None = refl

pub table_is : InnermostTableIsGiven
table_is [] c = or_none c.table
table_is (h ∷ hs) c = ap (λ t. or_else t h.table) (table_is hs c) ∙ or_assoc c.table (innermost hs) h.table
