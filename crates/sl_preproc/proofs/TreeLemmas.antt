-- The tree of a file's lines: its lines, and its expansion against the one line by line.
use Rattle.std.proofs.Common.{◌≡◌, ℕ, Bool, true, false, List, [], ◌∷◌, ◌++◌, Option, Some, None, refl, ap, ◌∙◌, append_assoc}
use Rattle.sl_preproc_directives.specs.Directives.{directive_line}
use Rattle.sl_preproc_directives.specs.declared.directive.Keyword.{Keyword}
use Rattle.sl_preproc_directives.specs.declared.directive.Keyword.TheVariants.{Include, Define, Undef, If, Ifdef, Ifndef, Elif, Else, Endif, Unknown}
use Rattle.sl_preproc.specs.Trees.{Line, numbered, words, Tree, End, Text, Alone, Marked, Branches, Branch, Closed, Unclosed, flattened, branch_lines, Cut, led, begun, cut_at, cut_of, group_of, planted_by, planted, tree_of, is_closed, opening_line, first_open}
use Rattle.sl_preproc.specs.Trees as tree

-- ---- flattening the tree gives the lines back

abbrev cut_lines : Cut → List Line
cut_lines cut = flattened cut.body ++ (branch_lines cut.others ++ flattened cut.behind)

grouped : (cut : Cut) → (flattened cut.body ++ branch_lines cut.others) ++ flattened cut.behind ≡ cut_lines cut
grouped cut = append_assoc (flattened cut.body) (branch_lines cut.others) (flattened cut.behind)

abbrev Keeps : Tree → (Bool → Cut) → Type 0
Keeps t cut = (has_else : Bool) → cut_lines (cut has_else) ≡ flattened t

marked_kept : (word : Keyword) (has_else : Bool) (line : Line) (t : Tree) (again : Bool → Cut) → Keeps t again → cut_lines (cut_at word has_else line t again) ≡ line ∷ flattened t
unfolding flattened branch_lines
marked_kept Endif has_else line t again h = refl
marked_kept Elif false line t again h = ap (λ (ls : List Line). line ∷ ls) (grouped (again false) ∙ h false)
marked_kept Elif true line t again h = ap (λ (ls : List Line). line ∷ ls) (h true)
marked_kept Else false line t again h = ap (λ (ls : List Line). line ∷ ls) (grouped (again true) ∙ h true)
marked_kept Else true line t again h = ap (λ (ls : List Line). line ∷ ls) (h true)
marked_kept Include has_else line t again h = ap (λ (ls : List Line). line ∷ ls) (h has_else)
marked_kept Define has_else line t again h = ap (λ (ls : List Line). line ∷ ls) (h has_else)
marked_kept Undef has_else line t again h = ap (λ (ls : List Line). line ∷ ls) (h has_else)
marked_kept If has_else line t again h = ap (λ (ls : List Line). line ∷ ls) (h has_else)
marked_kept Ifdef has_else line t again h = ap (λ (ls : List Line). line ∷ ls) (h has_else)
marked_kept Ifndef has_else line t again h = ap (λ (ls : List Line). line ∷ ls) (h has_else)
marked_kept Unknown has_else line t again h = ap (λ (ls : List Line). line ∷ ls) (h has_else)

cut_kept : (t : Tree) → Keeps t (cut_of t)
unfolding flattened branch_lines cut_of
cut_kept End has_else = refl
cut_kept (Text line t) has_else = ap (λ (ls : List Line). line ∷ ls) (cut_kept t has_else)
cut_kept (Alone line t) has_else = ap (λ (ls : List Line). line ∷ ls) (cut_kept t has_else)
cut_kept (Marked line t) has_else = marked_kept (words line).0 has_else line t (cut_of t) (cut_kept t)
cut_kept (tree.Group branches t) has_else = append_assoc (branch_lines branches) (flattened (cut_of t has_else).body) (branch_lines (cut_of t has_else).others ++ flattened (cut_of t has_else).behind) ∙ ap (λ (ls : List Line). branch_lines branches ++ ls) (cut_kept t has_else)

group_kept : (line : Line) (t : Tree) → flattened (group_of line (cut_of t false)) ≡ line ∷ flattened t
unfolding flattened branch_lines
group_kept line t = ap (λ (ls : List Line). line ∷ ls) (grouped (cut_of t false) ∙ cut_kept t false)

directive_kept : (word : Keyword) (line : Line) (t : Tree) → flattened (planted_by word line t) ≡ line ∷ flattened t
unfolding flattened branch_lines
directive_kept If line t = group_kept line t
directive_kept Ifdef line t = group_kept line t
directive_kept Ifndef line t = group_kept line t
directive_kept Elif line t = refl
directive_kept Else line t = refl
directive_kept Endif line t = refl
directive_kept Include line t = refl
directive_kept Define line t = refl
directive_kept Undef line t = refl
directive_kept Unknown line t = refl

line_kept : (line : Line) (rest : Option (List ℕ)) (t : Tree) → flattened (planted line rest t) ≡ line ∷ flattened t
unfolding flattened branch_lines
line_kept line None t = refl
line_kept line (Some rest) t = directive_kept (words line).0 line t

pub flattened_tree : (ls : List Line) → flattened (tree_of ls) ≡ ls
unfolding flattened branch_lines tree_of
flattened_tree [] = refl
flattened_tree (line ∷ others) = line_kept line (directive_line line.bytes) (tree_of others) ∙ ap (λ (ls : List Line). line ∷ ls) (flattened_tree others)
