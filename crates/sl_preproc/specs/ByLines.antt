-- step: the expansion of a file as the program does it: line by line, with a stack of the groups
-- that are open. The expansion by the tree of the lines is the same.
use Rattle.std.specs.Prelude.{ℕ, ◌+◌, List, [], ◌∷◌, Option, Some, None, Result, Ok, if◌then◌else◌}
use Rattle.sl_preproc_directives.specs.Outcomes.{◌>>◌}
use Rattle.sl_preproc_directives.specs.Directives.{directive_line, keyword_at, directive_at}
use Rattle.sl_preproc_directives.specs.declared.directive.Keyword.{Keyword}
use Rattle.sl_preproc_directives.specs.declared.fault.Cause.{Cause}
use Rattle.sl_preproc_directives.specs.declared.fault.Cause.TheVariants.{Unbalanced}
use Rattle.sl_preproc.specs.Groups.{is_live, is_conditional, turned_by, outermost}
use Rattle.sl_preproc.specs.Readings.{Reading, pure, refused, ◌>>=◌}
use Rattle.sl_preproc.specs.Expansion.{Work, text_line, done_by, Includer, on_line, if_included}
use Rattle.sl_preproc.specs.declared.groups.Group.{Group}

-- ---- one line

-- what a line does: the file that it includes, the groups that are open behind it, and the work
abbrev pub Step : Type 0
Step = Result (Option (List ℕ) × List Group × Work) Cause

abbrev pub alone : Keyword → List ℕ → List Group → Work → Step
alone word rest gs work =
    if is_live gs then (done_by (directive_at word rest) work >> λ d. Ok (d.0, gs, d.1))
    else Ok (None, gs, work)

unfoldable pub directive_step : ℕ → Keyword × List ℕ → List Group → Work → Step
directive_step number d gs work =
    if is_conditional d.0
    then (turned_by work.defs number d.0 d.1 gs >> λ turned. Ok (None, turned, work))
    else alone d.0 d.1 gs work

abbrev pub text_or_directive : List ℕ → ℕ → List ℕ → List Group → Work → Option (List ℕ) → Step
text_or_directive name number line gs work (Some rest) =
    directive_step number (keyword_at rest) gs work
text_or_directive name number line gs work None =
    if is_live gs then (text_line name number line work >> λ w. Ok (None, gs, w))
    else Ok (None, gs, work)

unfoldable pub line_step : List ℕ → ℕ → List ℕ → List Group → Work → Step
line_step name number line gs work =
    text_or_directive name number line gs work (directive_line line)

-- ---- the lines of a file

-- a line and what it includes
unfoldable pub line_done : Includer → List ℕ → ℕ → List ℕ → List Group → Work
    → Reading (List Group × Work)
line_done includes name number line gs work =
    on_line name number (line_step name number line gs work)
    >>= λ s. if_included s.0 (includes number) s.2 >>= λ w. pure (s.1, w)

-- at a file's end no group may be open
abbrev pub at_end : List ℕ → List Group → Work → Reading Work
at_end name [] work = pure work
at_end name (g ∷ gs) work = refused Unbalanced name (outermost g gs)

-- the lines of a file from this number on
unfoldable pub expand_lines : Includer → List ℕ → List (List ℕ) → ℕ → List Group → Work
    → Reading Work
expand_lines includes name [] number gs work = at_end name gs work
expand_lines includes name (line ∷ others) number gs work =
    line_done includes name number line gs work
    >>= λ s. expand_lines includes name others (number + 1) s.0 s.1
