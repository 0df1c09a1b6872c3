-- meaning: the lines of a file as a tree: conditional groups with their branches.
use Rattle.std.specs.Prelude.{ℕ, ◌+◌, Bool, true, false, List, [], ◌∷◌, ◌++◌, drop, Option, Some, None, if◌then◌else◌}
use Rattle.sl_preproc_directives.specs.Directives.{directive_line, keyword_at}
use Rattle.sl_preproc_directives.specs.declared.directive.Keyword.{Keyword}
use Rattle.sl_preproc_directives.specs.declared.directive.Keyword.TheVariants.{If, Ifdef, Ifndef, Elif, Else, Endif}

pub record Line : Type 0 where
  pub number : ℕ
  pub bytes : List ℕ

-- lines with their numbers, the first of which is given
abbrev pub numbered : ℕ → List (List ℕ) → List Line
numbered number [] = []
numbered number (bytes ∷ others) = record { number = number; bytes = bytes } ∷ numbered (number + 1) others

-- the word behind the `@` of a directive's line, and what stands behind that
abbrev pub words : Line → Keyword × List ℕ
words line = keyword_at (drop 1 line.bytes)

mutual
  -- Lines up to the end of a file or of a branch: lines of text, directives that stand alone, groups, and marked lines: conditional
  -- directives without a group, or behind the `@else` of their group.
  pub data Tree : Type 0 where
    End : Tree
    Text : Line → Tree → Tree
    Alone : Line → Tree → Tree
    Marked : Line → Tree → Tree
    Group : Branches → Tree → Tree

  -- The branches of a group, each with its directive and its lines, and then the `@endif`, or the mark that there is none: the group
  -- ends with its file.
  pub data Branches : Type 0 where
    Branch : Line → Tree → Branches → Branches
    Closed : Line → Branches
    Unclosed : Branches

-- ---- the lines of a tree

unfoldable mutual
  pub flattened : Tree → List Line
  flattened End = []
  flattened (Text line t) = line ∷ flattened t
  flattened (Alone line t) = line ∷ flattened t
  flattened (Marked line t) = line ∷ flattened t
  flattened (Group branches t) = branch_lines branches ++ flattened t

  pub branch_lines : Branches → List Line
  branch_lines (Branch line body others) = line ∷ (flattened body ++ branch_lines others)
  branch_lines (Closed line) = line ∷ []
  branch_lines Unclosed = []

-- ---- the tree of lines

-- what an `@if` in front of lines takes of them: its branch, the branches behind that, and what is left
pub record Cut : Type 0 where
  pub body : Tree
  pub others : Branches
  pub behind : Tree

abbrev pub led : (Tree → Tree) → Cut → Cut
led part cut = record { body = part cut.body; others = cut.others; behind = cut.behind }

-- a branch begins with this line
abbrev pub begun : Line → Cut → Cut
begun line cut = record { body = End; others = Branch line cut.body cut.others; behind = cut.behind }

-- The first marked line ends the branch, unless it is an `@elif` or `@else` behind the group's `@else`: that stays marked.
abbrev pub cut_at : Keyword → Bool → Line → Tree → (Bool → Cut) → Cut
cut_at Endif has_else line t again = record { body = End; others = Closed line; behind = t }
cut_at Elif false line t again = begun line (again false)
cut_at Else false line t again = begun line (again true)
cut_at word has_else line t again = led (Marked line) (again has_else)

-- what is cut from lines, behind an `@else` or not
unfoldable pub cut_of : Tree → Bool → Cut
cut_of End has_else = record { body = End; others = Unclosed; behind = End }
cut_of (Text line t) has_else = led (Text line) (cut_of t has_else)
cut_of (Alone line t) has_else = led (Alone line) (cut_of t has_else)
cut_of (Group branches t) has_else = led (Group branches) (cut_of t has_else)
cut_of (Marked line t) has_else = cut_at (words line).0 has_else line t (cut_of t)

abbrev pub group_of : Line → Cut → Tree
group_of line cut = Group (Branch line cut.body cut.others) cut.behind

-- a directive in front of lines, by its word
abbrev pub planted_by : Keyword → Line → Tree → Tree
planted_by If line t = group_of line (cut_of t false)
planted_by Ifdef line t = group_of line (cut_of t false)
planted_by Ifndef line t = group_of line (cut_of t false)
planted_by Elif line t = Marked line t
planted_by Else line t = Marked line t
planted_by Endif line t = Marked line t
planted_by word line t = Alone line t

-- a line in front of lines, with what stands behind its `@`
abbrev pub planted : Line → Option (List ℕ) → Tree → Tree
planted line None t = Text line t
planted line (Some rest) t = planted_by (words line).0 line t

unfoldable pub tree_of : List Line → Tree
tree_of [] = End
tree_of (line ∷ others) = planted line (directive_line line.bytes) (tree_of others)

-- ---- groups that aren't closed

abbrev pub is_closed : Branches → Bool
is_closed (Branch line body others) = is_closed others
is_closed (Closed line) = true
is_closed Unclosed = false

abbrev pub opening_line : Branches → ℕ
opening_line (Branch line body others) = line.number
opening_line (Closed line) = line.number
opening_line Unclosed = 0

-- the line of the first `@if` whose group isn't closed, which is the outermost
unfoldable pub first_open : Tree → Option ℕ
first_open End = None
first_open (Text line t) = first_open t
first_open (Alone line t) = first_open t
first_open (Marked line t) = first_open t
first_open (Group branches t) = if is_closed branches then first_open t else Some (opening_line branches)
