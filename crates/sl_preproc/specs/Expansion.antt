-- meaning: the expansion of a file and the files that it asks for, by recursion on the tree of its
-- lines and on the depth of includes that is left.
pub use Rattle.sl_preproc.specs.Readings.{Refusal}
use Rattle.std.specs.Prelude.{ℕ, zero, suc, nat_lt, Bool, true, false, not, ◌||◌, if◌then◌else◌}
use Rattle.std.specs.Prelude.{List, [], ◌∷◌, ◌++◌, length, Option, Some, None, Result, Ok, Err}
use Rattle.std.specs.List.{position_or_len}
use Rattle.std.specs.Str.{bytes_eq}
use Rattle.sl_outside.specs.Folder.{Folder, size_limit}
use Rattle.sl_preproc_directives.specs.Lines.{lines}
use Rattle.sl_preproc_directives.specs.Definitions.{Values, no_definitions, with_value, without}
use Rattle.sl_preproc_directives.specs.Outcomes.{◌>>◌}
use Rattle.sl_preproc_directives.specs.Directives.{Directive, Includes, Defines, Undefines, directive_at}
use Rattle.sl_preproc_directives.specs.Directives.{condition_of, judged}
use Rattle.sl_preproc_directives.specs.Replacement.{Page, put, write_text}
use Rattle.sl_preproc_directives.specs.Parts.{is_ended}
use Rattle.sl_preproc.specs.Trees.{Line, words, numbered, Tree, End, Text, Alone, Marked, Group}
use Rattle.sl_preproc.specs.Trees.{Branches, Branch, Closed, Unclosed, tree_of, first_open}
use Rattle.sl_preproc.specs.Naming.{joined_name}
use Rattle.sl_preproc.specs.Readings.{Refusal, refusal, Reading, pure, refused, ◌>>=◌}
use Rattle.sl_preproc_directives.specs.declared.directive.Keyword.{Keyword}
use Rattle.sl_preproc_directives.specs.declared.fault.Cause.{Cause}
use Rattle.sl_preproc_directives.specs.declared.fault.Cause.TheVariants.{NoFile, TooLong, IncludeDepth}
use Rattle.sl_preproc_directives.specs.declared.fault.Cause.TheVariants.{BadDirective, Unbalanced}
use Rattle.sl_preproc_directives.specs.declared.directive.Keyword.TheVariants.{Else}
use Rattle.sl_preproc_directives.specs.declared.page.LinePart.TheVariants.{Plain}
use Rattle.sl_preproc.specs.declared.places.Place.{Place}

-- The definitions in force, the text, the names of the files that give its lines (the main file's
-- first), and the place of each of its lines: its file's number among those, and its line there.
pub record Work : Type 0 where
  pub defs : Values
  pub page : Page
  pub files : List (List ℕ)
  pub places : List Place

-- ---- one line

abbrev pub line_begun : Page → Page
line_begun page = record { text = page.text; part = Plain }

-- the files with this name among them
abbrev pub entered : List ℕ → List (List ℕ) → List (List ℕ)
entered name files =
    if nat_lt (position_or_len (bytes_eq name) files) (length files) then files
    else files ++ name ∷ []

-- a line of the text came from this line of the file
abbrev pub placed : List ℕ → ℕ → Page → Work → Work
placed name line page work = record {
  defs = work.defs;
  page = page;
  files = entered name work.files;
  places = work.places
      ++ record { file = position_or_len (bytes_eq name) work.files; line = line } ∷ [];
}

-- a line of text: its names are replaced, sixteen levels deep, and a line feed ends it
unfoldable pub text_line : List ℕ → ℕ → List ℕ → Work → Result Work Cause
text_line name number line work =
    write_text 16 work.defs line (line_begun work.page)
    >> λ written. put 10 written >> λ page. Ok (placed name number page work)

abbrev pub with_defs : Values → Work → Work
with_defs defs work =
    record { defs = defs; page = work.page; files = work.files; places = work.places }

-- what a directive that stands alone does, and the file that it includes
abbrev pub done_by : Option Directive → Work → Result (Option (List ℕ) × Work) Cause
done_by None work = Err BadDirective
done_by (Some (Includes name)) work = Ok (Some name, work)
done_by (Some (Defines name value)) work =
    Ok (None, with_defs (with_value name value work.defs) work)
done_by (Some (Undefines name)) work = Ok (None, with_defs (without name work.defs) work)

-- ---- a line that stands alone

-- the expansion of an included file: from the line of the `@include`, the name there, and the work
-- so far
abbrev pub Includer : Type 0
Includer = ℕ → List ℕ → Work → Reading Work

abbrev pub on_line : {X : Type 0} → List ℕ → ℕ → Result X Cause → Reading X
on_line name number (Ok x) = pure x
on_line name number (Err cause) = refused cause name number

abbrev pub if_included : Option (List ℕ) → (List ℕ → Work → Reading Work) → Work → Reading Work
if_included None includes work = pure work
if_included (Some name) includes work = includes name work

abbrev pub text_done : List ℕ → Line → Bool → Work → Reading Work
text_done name line live work =
    if live
    then on_line name line.number (text_line name line.number line.bytes work)
    else pure work

abbrev pub alone_done : Includer → List ℕ → Line → Bool → Work → Reading Work
alone_done includes name line live work =
    if live
    then (on_line name line.number (done_by (directive_at (words line).0 (words line).1) work)
    >>= λ d. if_included d.0 (includes line.number) d.1)
    else pure work

-- ---- the branches of a group

-- Whether a branch of a group in live text is the chosen one, where one before it was or wasn't:
-- behind that no condition is read.
abbrev pub chosen_by : Keyword → List ℕ → Bool → Values → Result Bool Cause
chosen_by Else rest chosen defs = if is_ended rest then Ok (not chosen) else Err BadDirective
chosen_by word rest chosen defs = if chosen then Ok false else judged (condition_of defs word rest)

-- whether the lines of a branch are live
abbrev pub choice : Keyword × List ℕ → Bool → Bool → Values → Result Bool Cause
choice d live chosen defs = if live then chosen_by d.0 d.1 chosen defs else Ok false

-- nothing stands behind the word of an `@endif`, where its group is looked at
abbrev pub closing : List ℕ → Bool → Work → Result Work Cause
closing rest live work =
    if live then (if is_ended rest then Ok work else Err BadDirective) else Ok work

-- ---- the tree of a file's lines

-- live: whether the lines are live, chosen: whether a branch in front was the chosen one
module _ (includes : Includer) (name : List ℕ) where
  unfoldable mutual
    pub expand_tree : Tree → Bool → Work → Reading Work
    expand_tree End live work = pure work
    expand_tree (Text line t) live work =
        text_done name line live work >>= λ w. expand_tree t live w
    expand_tree (Alone line t) live work =
        alone_done includes name line live work >>= λ w. expand_tree t live w
    expand_tree (Marked line t) live work = refused Unbalanced name line.number
    expand_tree (Group branches t) live work =
        expand_branches branches live false work >>= λ w. expand_tree t live w

    pub expand_branches : Branches → Bool → Bool → Work → Reading Work
    expand_branches (Branch line body others) live chosen work =
        on_line name line.number (choice (words line) live chosen work.defs)
        >>= λ now. expand_tree body now work >>= λ w. expand_branches others live (chosen || now) w
    expand_branches (Closed line) live chosen work =
        on_line name line.number (closing (words line).1 live work)
    expand_branches Unclosed live chosen work = pure work

-- a group that isn't closed is found at its file's end
abbrev pub unless_open : List ℕ → Option ℕ → Work → Reading Work
unless_open name None work = pure work
unless_open name (Some line) work = refused Unbalanced name line

abbrev pub expand_whole : Includer → List ℕ → Tree → Work → Reading Work
expand_whole includes name t work =
    expand_tree includes name t true work >>= λ w. unless_open name (first_open t) w

-- the expansion of a file with these bytes
abbrev pub expand_file : Includer → List ℕ → List ℕ → Work → Reading Work
expand_file includes name bytes work =
    expand_whole includes name (tree_of (numbered 1 (lines bytes))) work

-- ---- files

-- the bytes of a file that is there and isn't too long
abbrev pub checked : List ℕ → ℕ → Option (List ℕ) → Result (List ℕ) Refusal
checked from line None = Err (refusal NoFile from line)
checked from line (Some bytes) =
    if nat_lt size_limit (length bytes) then Err (refusal TooLong from line) else Ok bytes

-- the file of this name is asked for; a refusal has this line of the other file
abbrev pub fetched : Folder → List ℕ → List ℕ → ℕ → Reading (List ℕ)
fetched folder name from line =
    record { asked = name ∷ []; result = checked from line (folder name) }

-- the expansion of a file that this one includes, where so many depths are left
unfoldable pub included : ℕ → Folder → List ℕ → Includer
included zero folder from line name work = refused IncludeDepth from line
included (suc left) folder from line name work =
    fetched folder (joined_name from name) from line
    >>= λ bytes. expand_file (included left folder (joined_name from name))
    (joined_name from name) bytes work

abbrev pub nothing_yet : List ℕ → Work
nothing_yet main = record {
  defs = no_definitions;
  page = record { text = []; part = Plain };
  files = main ∷ [];
  places = [];
}

-- the expansion of the main file, which has depth 1 of 16
unfoldable pub expansion : Folder → List ℕ → Reading Work
expansion folder main =
    fetched folder main main 0
    >>= λ bytes. expand_file (included 15 folder main) main bytes (nothing_yet main)
