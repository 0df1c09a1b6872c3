-- step: conditional groups: what the lines of a file leave open, the innermost group first.
use Rattle.std.specs.Prelude.{ℕ, Bool, true, false, List, [], ◌∷◌, Result, Ok, Err, if◌then◌else◌}
use Rattle.sl_preproc_directives.specs.Parts.{is_ended}
use Rattle.sl_preproc_directives.specs.Definitions.{Values}
use Rattle.sl_preproc_directives.specs.Outcomes.{◌>>◌}
use Rattle.sl_preproc_directives.specs.Directives.{condition_of, judged}
use Rattle.sl_preproc_directives.specs.declared.directive.Keyword.{Keyword}
use Rattle.sl_preproc_directives.specs.declared.directive.Keyword.TheVariants.{Include, Define, Undef, Elif, Else, Endif, Unknown}
use Rattle.sl_preproc_directives.specs.declared.fault.Cause.{Cause}
use Rattle.sl_preproc_directives.specs.declared.fault.Cause.TheVariants.{BadDirective, Unbalanced}
use Rattle.sl_preproc.specs.declared.groups.Branch.{Branch}
use Rattle.sl_preproc.specs.declared.groups.Branch.TheVariants.{Dead, Waiting, Taken, Passed}
use Rattle.sl_preproc.specs.declared.groups.Group.{Group}

abbrev pub Turned : Type 0
Turned = Result (List Group) Cause

-- lines are live where the innermost branch is the chosen one of its group
abbrev pub is_taken : Branch → Bool
is_taken Taken = true
is_taken Dead = false
is_taken Waiting = false
is_taken Passed = false

abbrev pub is_live : List Group → Bool
is_live [] = true
is_live (g ∷ gs) = is_taken g.branch

-- the group stands in text that isn't live
abbrev pub is_dead : Branch → Bool
is_dead Dead = true
is_dead Waiting = false
is_dead Taken = false
is_dead Passed = false

abbrev pub chosen_if : Bool → Branch
chosen_if holds = if holds then Taken else Waiting

-- a group in the branch that its `@if` begins
abbrev pub new_group : ℕ → Branch → Group
new_group line branch = record { line = line; branch = branch; has_else = false }

-- a group that has come to another branch
abbrev pub with_branch : Branch → Bool → Group → Group
with_branch branch has_else g = record { line = g.line; branch = branch; has_else = has_else }

-- `@if` and its kin: the condition is read where the lines are live
unfoldable pub opened : Values → ℕ → Keyword → List ℕ → List Group → Turned
opened defs line word rest gs =
    if is_live gs then (judged (condition_of defs word rest) >> λ holds. Ok (new_group line (chosen_if holds) ∷ gs))
    else Ok (new_group line Dead ∷ gs)

-- the branch that an `@elif` begins: its condition is read where no branch before it was chosen
abbrev pub elif_branch : Values → Keyword → List ℕ → Branch → Result Branch Cause
elif_branch defs word rest Dead = Ok Dead
elif_branch defs word rest Waiting = judged (condition_of defs word rest) >> λ holds. Ok (chosen_if holds)
elif_branch defs word rest Taken = Ok Passed
elif_branch defs word rest Passed = Ok Passed

unfoldable pub at_elif : Values → Keyword → List ℕ → List Group → Turned
at_elif defs word rest [] = Err Unbalanced
at_elif defs word rest (g ∷ gs) =
    if g.has_else then Err Unbalanced else elif_branch defs word rest g.branch >> λ branch. Ok (with_branch branch false g ∷ gs)

-- nothing stands behind the word, unless the group stands in text that isn't live
abbrev pub is_well_ended : Branch → List ℕ → Bool
is_well_ended branch rest = if is_dead branch then true else is_ended rest

abbrev pub else_branch : Branch → Branch
else_branch Dead = Dead
else_branch Waiting = Taken
else_branch Taken = Passed
else_branch Passed = Passed

unfoldable pub at_else : List ℕ → List Group → Turned
at_else rest [] = Err Unbalanced
at_else rest (g ∷ gs) =
    if g.has_else then Err Unbalanced else (if is_well_ended g.branch rest then Ok (with_branch (else_branch g.branch) true g ∷ gs) else Err BadDirective)

unfoldable pub at_endif : List ℕ → List Group → Turned
at_endif rest [] = Err Unbalanced
at_endif rest (g ∷ gs) = if is_well_ended g.branch rest then Ok gs else Err BadDirective

-- the line of the outermost group that is open
abbrev pub outermost : Group → List Group → ℕ
outermost g [] = g.line
outermost g (h ∷ gs) = outermost h gs

-- a conditional directive, which stands on this line
unfoldable pub turned_by : Values → ℕ → Keyword → List ℕ → List Group → Turned
turned_by defs line Elif rest gs = at_elif defs Elif rest gs
turned_by defs line Else rest gs = at_else rest gs
turned_by defs line Endif rest gs = at_endif rest gs
turned_by defs line word rest gs = opened defs line word rest gs

abbrev pub is_conditional : Keyword → Bool
is_conditional Include = false
is_conditional Define = false
is_conditional Undef = false
is_conditional Unknown = false
is_conditional word = true
