-- law: which lines may be what in a tree of lines, and the laws that a file is such a tree, and one alone.
use Rattle.std.specs.Prelude.{◌≡◌, ℕ, ◌⊎◌, Bool, true, false, List, Some, None}
use Rattle.sl_preproc_directives.specs.Directives.{directive_line}
use Rattle.sl_preproc_directives.specs.declared.directive.Keyword.{Keyword}
use Rattle.sl_preproc_directives.specs.declared.directive.Keyword.TheVariants.{If, Ifdef, Ifndef, Elif, Else, Endif}
use Rattle.sl_preproc.specs.Trees.{Line, Tree, End, Text, Alone, Marked, Group, Branches, Branch, Closed, Unclosed, first_open, flattened, is_closed, tree_of, words}

-- where lines stand: in no group, in a branch up to the group's `@else`, or in that of the `@else`
pub data Place : Type 0 where
  Outside : Place
  Before : Place
  Behind : Place

-- a line with an `@` in front of a word
abbrev pub IsDirective : Line → Type 0
IsDirective line = (rest : List ℕ) × (directive_line line.bytes ≡ Some rest)

abbrev pub word_of : Line → Keyword
word_of line = (words line).0

abbrev pub Opens : Keyword → Type 0
Opens If = Unit {0}
Opens Ifdef = Unit {0}
Opens Ifndef = Unit {0}
Opens word = ⊥

-- it belongs to no group
abbrev pub StandsAlone : Keyword → Type 0
StandsAlone If = ⊥
StandsAlone Ifdef = ⊥
StandsAlone Ifndef = ⊥
StandsAlone Elif = ⊥
StandsAlone Else = ⊥
StandsAlone Endif = ⊥
StandsAlone word = Unit {0}

-- It is marked there: without a group, or behind the `@else` of its group.
abbrev pub IsMarked : Place → Keyword → Type 0
IsMarked Outside Elif = Unit {0}
IsMarked Outside Else = Unit {0}
IsMarked Outside Endif = Unit {0}
IsMarked Behind Elif = Unit {0}
IsMarked Behind Else = Unit {0}
IsMarked place word = ⊥

-- A group that isn't closed takes all lines up to the end of its file: so it stands in the last branch of a group that
-- isn't closed.
abbrev pub Nests : Tree → Branches → Type 0
Nests body others = (others ≡ Unclosed) ⊎ (first_open body ≡ None)

abbrev mutual
  -- each line is what it may be there
  pub Stands : Place → Tree → Type 0
  Stands place End = Unit {0}
  Stands place (Text line t) = (directive_line line.bytes ≡ None) × Stands place t
  Stands place (Alone line t) = IsDirective line × StandsAlone (word_of line) × Stands place t
  Stands place (Marked line t) = IsDirective line × IsMarked place (word_of line) × Stands place t
  Stands place (Group branches t) = IsGroup branches × ((is_closed branches ≡ true) ⊎ (t ≡ End)) × Stands place t

  pub IsGroup : Branches → Type 0
  IsGroup (Branch line body others) = IsDirective line × Opens (word_of line) × Stands Before body × Follows false others × Nests body others
  IsGroup (Closed line) = ⊥
  IsGroup Unclosed = ⊥

  -- further branches of a group, whose `@else` came already or not
  pub Follows : Bool → Branches → Type 0
  Follows has_else (Closed line) = IsDirective line × (word_of line ≡ Endif)
  Follows has_else Unclosed = Unit {0}
  Follows true (Branch line body others) = ⊥
  Follows false (Branch line body others) = IsDirective line × Nests body others
      × (((word_of line ≡ Elif) × Stands Before body × Follows false others) ⊎ ((word_of line ≡ Else) × Stands Behind body × Follows true others))

-- Any lines are a tree of lines.
abbrev pub AllLinesAreATree : Type 0
AllLinesAreATree = (ls : List Line) → Stands Outside (tree_of ls)

-- Trees with the same lines are the same.
abbrev pub LinesHaveOneTree : Type 0
LinesHaveOneTree = (t u : Tree) → Stands Outside t → Stands Outside u → flattened t ≡ flattened u → t ≡ u
